-- `singles::singly::call_one` meets its contract.
use Rattle.singles.proofs.Each.{one_refused, one_done}
use Rattle.singles.proofs.singly.call_one.Goals as goal

pub returns-then-code-ne0 : goal.returns-then-code-ne0
returns-then-code-ne0 c = search one_refused

pub returns : goal.returns
returns c = search one_done
