-- `engine::mpm_salvage` meets its contract.
use Rattle.engine.proofs.Told.{salvage_known, salvage_other}
use Rattle.engine.proofs.mpm_salvage.Goals as goal

pub returns-in_default : goal.returns-in_default
returns-in_default c = rw c.code.ensures.0 (search (salvage_known, salvage_other))

pub returns : goal.returns
returns c = rw c.salvage_answer.ensures (search (salvage_known, salvage_other))
