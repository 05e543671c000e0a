-- `script::caller::start_by` meets its contract.
use Rattle.script.proofs.Callers.{did_start}
use Rattle.script.proofs.caller.start_by.Goals as goal

pub returns : goal.returns
returns c = search did_start
