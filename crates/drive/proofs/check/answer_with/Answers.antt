-- `drive::check::answer_with` meets its contract.
use Rattle.std.proofs.Common.{rules}
use Rattle.drive.proofs.Marks.{zeros}
use Rattle.drive.proofs.check.answer_with.Goals as goal

pub directory_answer-requires : goal.directory_answer-requires
directory_answer-requires g c = search (rules, zeros)
