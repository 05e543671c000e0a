-- `engine::mpm_singly` meets its contract.
use Rattle.engine.proofs.Told.{singly_known, singly_other_kind}
use Rattle.engine.proofs.mpm_singly.Goals as goal

pub returns-in_default : goal.returns-in_default
returns-in_default c = rw c.code.ensures.0 (search (singly_known, singly_other_kind))

pub returns : goal.returns
returns c = search (singly_known, singly_other_kind)
