-- `calls::refuse::refused` meets its contract.
use Rattle.std.proofs.Common.{rules}
use Rattle.drive.proofs.Taken.{lent_zeros}
use Rattle.calls.proofs.refuse.refused.Goals as goal

pub refused_in-requires : goal.refused_in-requires
refused_in-requires c = search (rules, lent_zeros)
