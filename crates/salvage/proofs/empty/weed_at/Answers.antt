-- `salvage::empty::weed_at` meets its contract.
use Rattle.salvage.proofs.Emptied.{turning_out}
use Rattle.salvage.proofs.empty.weed_at.Goals as goal

pub returns-then-must_go : goal.returns-then-must_go
returns-then-must_go c = search turning_out
