-- `script::caller::call_by` meets its contract.
use Rattle.script.proofs.Callers.{did_call}
use Rattle.script.proofs.caller.call_by.Goals as goal

pub returns : goal.returns
returns c = search did_call
