-- `salvage::empty::begin_at` meets its contract.
use Rattle.salvage.proofs.Emptied.{turning_out}
use Rattle.salvage.proofs.empty.begin_at.Goals as goal

pub returns-then-not-begins : goal.returns-then-not-begins
returns-then-not-begins c = search turning_out

pub returns-else-not-begins : goal.returns-else-not-begins
returns-else-not-begins c = search turning_out
