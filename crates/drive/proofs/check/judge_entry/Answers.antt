-- `drive::check::judge_entry` meets its contract.
use Rattle.std.proofs.lemmas.Result.{err_from_is_err_and}
use Rattle.drive.proofs.Marks.{judging}
use Rattle.drive.proofs.check.judge_entry.Goals as goal

pub returns-then-is_empty : goal.returns-then-is_empty
returns-then-is_empty c = search judging

pub returns-in_err-field_fault : goal.returns-in_err-field_fault
returns-in_err-field_fault c =
    let p = err_from_is_err_and c.from_residual.result c.from_residual.ensures.1 in
    let h = c.in_err-field_fault.ensures in rw (p.1, p.2) (search judging)

pub returns-then-not-all_in_range : goal.returns-then-not-all_in_range
returns-then-not-all_in_range c = let h = c.in_ok-field_fault.ensures in search judging

pub returns-then-not-mark_entry : goal.returns-then-not-mark_entry
returns-then-not-mark_entry c = let h = c.in_ok-field_fault.ensures in search judging

pub returns-then-is_repeat : goal.returns-then-is_repeat
returns-then-is_repeat c = let h = c.in_ok-field_fault.ensures in search judging

pub returns : goal.returns
returns c = let h = c.in_ok-field_fault.ensures in search judging
