-- `engine::mpm_pack` meets its contract.
use Rattle.engine.proofs.Told.{pack_known, pack_other}
use Rattle.engine.proofs.mpm_pack.Goals as goal

pub returns-in_default : goal.returns-in_default
returns-in_default c = rw c.code.ensures.0 (search (pack_known, pack_other))

pub returns : goal.returns
returns c = rw c.answer_of.ensures (search (pack_known, pack_other))
