-- `engine::mpm_same` meets its contract.
use Rattle.engine.proofs.Told.{same_known, same_other}
use Rattle.engine.proofs.mpm_same.Goals as goal

pub returns-in_default : goal.returns-in_default
returns-in_default c = rw c.code.ensures (search (same_known, same_other))

pub returns : goal.returns
returns c = rw c.same_answer.ensures (search (same_known, same_other))
