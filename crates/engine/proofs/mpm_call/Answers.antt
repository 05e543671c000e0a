-- `engine::mpm_call` meets its contract.
use Rattle.engine.proofs.Told.{call_known, call_other}
use Rattle.engine.proofs.mpm_call.Goals as goal

pub returns-in_default : goal.returns-in_default
returns-in_default c = rw c.code.ensures.0 (search (call_known, call_other))

pub returns : goal.returns
returns c = search (call_known, call_other)
