-- `engine::mpm_vector` meets its contract.
use Rattle.engine.proofs.Told.{build_known, build_other}
use Rattle.engine.proofs.mpm_vector.Goals as goal

pub returns-in_default : goal.returns-in_default
returns-in_default c = rw c.code.ensures.0 (search (build_known, build_other))

pub returns : goal.returns
returns c = rw c.answer_of.ensures (search (build_known, build_other))
