-- `drive::check::judge_all` meets its contract.
use Rattle.std.proofs.lemmas.Result.{err_from_is_err_and}
use Rattle.drive.proofs.Marks.{entering}
use Rattle.drive.proofs.check.judge_all.Goals as goal

pub returns-in_err-judge_entry : goal.returns-in_err-judge_entry
returns-in_err-judge_entry c =
    let p = err_from_is_err_and c.from_residual.result c.from_residual.ensures.1 in
    let h = c.in_err-judge_entry.was in let j = rw (c.entry.ensures.0, c.entry.ensures.1) at c.judge_entry.ensures in rw (p.1, p.2) (search entering depth 6 fits 20000)

pub loop-e-preserved : goal.loop-e-preserved
loop-e-preserved c = let h = c.in_ok-judge_entry.was in search entering depth 6 fits 20000
