-- `drive::check::directory_answer` meets its contract.
use Rattle.std.proofs.lemmas.Result.{err_from_is_err_and}
use Rattle.drive.proofs.Walks.{answering}
use Rattle.drive.proofs.check.directory_answer.Goals as goal

pub returns-in_err-judge_all : goal.returns-in_err-judge_all
returns-in_err-judge_all c =
    let p = err_from_is_err_and c.from_residual.result c.from_residual.ensures.1 in
    let h = c.in_err-judge_all.was in rw (p.1, p.2) (search answering)

pub returns-then-not-is_begun : goal.returns-then-not-is_begun
returns-then-not-is_begun c = let h = c.in_ok-judge_all.was in search answering depth 6 fits 20000
