-- The high bits before `k` are the same.
use Rattle.std.proofs.Common.{◌≡◌}
use Rattle.words.specs.Tests.{all}
use Rattle.packing.specs.Same.{same_high}
use Rattle.moving.proofs.same.same_high.Given as goal

abbrev pub invariant-loop-k : goal.invariant-loop-k
invariant-loop-k l = l.same ≡ all (same_high l.fn.first.image.now l.at l.fn.second.image.now l.bt) l.k
