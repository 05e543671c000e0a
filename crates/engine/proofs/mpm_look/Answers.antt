-- `engine::mpm_look` meets its contract.
use borrow.Author.Rules.{rules}
use Rattle.engine.proofs.Told.{look_known, look_other, look_small}
use Rattle.engine.proofs.mpm_look.Goals as goal

pub returns-in_default : goal.returns-in_default
returns-in_default c = search (look_known, look_other)

pub overflow_cast-result : goal.overflow_cast-result
overflow_cast-result c = let h = look_small _ _ _ _ _ _ c.look_at.ensures in search rules

pub returns : goal.returns
returns c = search (look_known, look_other)
