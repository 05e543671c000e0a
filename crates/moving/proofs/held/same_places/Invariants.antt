-- The places before `k` hold the same.
use Rattle.std.proofs.Common.{◌≡◌, true}
use Rattle.words.specs.Tests.{all}
use Rattle.packing.specs.Same.{same_place}
use Rattle.moving.proofs.held.same_places.Given as goal

abbrev pub invariant-loop-k : goal.invariant-loop-k
invariant-loop-k l = all (same_place l.fn.second.kind l.fn.first.image.now l.fn.first.place l.fn.second.image.now l.d) l.k ≡ true
