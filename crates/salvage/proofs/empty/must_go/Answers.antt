-- `salvage::empty::must_go` meets its contract.
use Rattle.salvage.proofs.Emptied.{choosing}
use Rattle.salvage.proofs.empty.must_go.Goals as goal

pub returns-then-is_empty : goal.returns-then-is_empty
returns-then-is_empty c = search choosing

pub returns : goal.returns
returns c = search choosing
