-- `salvage::maps::clear_map` meets its contract.
use Rattle.salvage.proofs.Zeroed.{mapping}
use Rattle.salvage.proofs.maps.clear_map.Goals as goal
use Rattle.salvage.proofs.maps.clear_map.Goals.{then-clear_at, else-clear_at}

pub loop-k-init : goal.loop-k-init
loop-k-init c = search mapping

pub overflow_add-zeroed : goal.overflow_add-zeroed
overflow_add-zeroed c = search mapping

pub loop-k-preserved : goal.loop-k-preserved
loop-k-preserved c = elim c.if-clear_at.branch [ then-clear_at w ↦ rw w.zeroed-is (search mapping) | else-clear_at w ↦ rw w.zeroed-is (search mapping) ]
