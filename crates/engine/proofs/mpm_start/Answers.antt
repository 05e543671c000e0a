-- `engine::mpm_start` meets its contract.
use Rattle.engine.proofs.Told.{start_known, start_other}
use Rattle.engine.proofs.mpm_start.Goals as goal

pub returns-in_default : goal.returns-in_default
returns-in_default c = rw c.code.ensures.0 (search (start_known, start_other))

pub returns : goal.returns
returns c = rw c.answer_of.ensures (search (start_known, start_other))
