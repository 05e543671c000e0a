-- `locklist::place::used_places` meets its contract.
use Rattle.locklist.specs.Places.{Unused}
use Rattle.locklist.proofs.place.used_places.Given as goal

abbrev pub invariant-loop-n : goal.invariant-loop-n
invariant-loop-n l = Unused l.list l.n

abbrev pub decreases-loop-n : goal.decreases-loop-n
decreases-loop-n l = l.n
