-- `salvage::maps::clean_all` meets its contract.
use Rattle.salvage.proofs.Zeroed.{Cleaning}
use Rattle.salvage.proofs.maps.clean_all.Given as goal

abbrev pub invariant-loop-e : goal.invariant-loop-e
invariant-loop-e l = Cleaning l.kind l.initial.report l.initial.image l.e l.image l.report l.seen
