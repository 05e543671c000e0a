-- `salvage::maps::clean_all` meets its contract.
use Rattle.salvage.proofs.Zeroed.{cleaning}
use Rattle.salvage.proofs.maps.clean_all.Goals as goal

pub loop-e-init : goal.loop-e-init
loop-e-init c = search cleaning

pub loop-e-preserved : goal.loop-e-preserved
loop-e-preserved c = search cleaning depth 6 fits 60000
