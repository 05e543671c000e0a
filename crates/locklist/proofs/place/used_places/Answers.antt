-- `locklist::place::used_places` meets its contract.
use Rattle.locklist.proofs.Places.{halving}
use Rattle.locklist.proofs.place.used_places.Goals as goal

pub loop-n-preserved : goal.loop-n-preserved
loop-n-preserved c = search halving
