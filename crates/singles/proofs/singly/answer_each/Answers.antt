-- `singles::singly::answer_each` meets its contract.
use Rattle.std.proofs.Common.{refl, sym}
use Rattle.rules.proofs.Refused.{code_some}
use Rattle.singles.proofs.Each.{singly_stopped, singly_went, goes_each}
use Rattle.singles.proofs.singly.answer_each.Goals as goal

pub returns-in-Err : goal.returns-in-Err
returns-in-Err c = rw c.code.ensures.0 (singly_stopped _ _ _ _ _ _ _ (sym c.requires) refl _ c.in-Err.ensures.code (code_some c.in-Err.refusal))

pub call_each-requires : goal.call_each-requires
call_each-requires c = let g = goes_each _ _ _ _ _ _ _ (sym c.requires) refl 0 c.in-Ok.ensures.code refl in (c.requires, g.0.run_fits, g.1)

pub returns-in-Ok : goal.returns-in-Ok
returns-in-Ok c = singly_went _ _ _ _ _ _ _ (sym c.requires) refl 0 c.in-Ok.ensures.code refl _ _ _ c.call_each.ensures
