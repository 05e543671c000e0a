-- `salvage::maps::clear_map` meets its contract.
use Rattle.salvage.specs.Passes.{PlacesDone}
use Rattle.salvage.proofs.maps.clear_map.Given as goal

abbrev pub invariant-loop-k : goal.invariant-loop-k
invariant-loop-k l = PlacesDone l.kind l.initial.image l.e l.k l.zeroed l.image l.seen
