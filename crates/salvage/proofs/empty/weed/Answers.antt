-- `salvage::empty::weed` meets its contract.
use Rattle.salvage.proofs.Emptied.{emptying}
use Rattle.salvage.proofs.empty.weed.Goals as goal

pub loop-e-init : goal.loop-e-init
loop-e-init c = search emptying

pub loop-e-preserved : goal.loop-e-preserved
loop-e-preserved c = search emptying depth 6 fits 20000

pub returns : goal.returns
returns c = search emptying
