-- `salvage::empty::keep` meets its contract.
use Rattle.salvage.proofs.Emptied.{keeping}
use Rattle.salvage.proofs.empty.keep.Goals as goal

pub returns : goal.returns
returns c = search keeping
