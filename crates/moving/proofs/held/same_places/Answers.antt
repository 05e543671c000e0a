-- `moving::held::same_places` meets its contract.
use Rattle.words.proofs.Sets.{alls_as}
use Rattle.moving.proofs.held.same_places.Goals as goal

pub returns-then-not-same_place : goal.returns-then-not-same_place
returns-then-not-same_place c = search alls_as
