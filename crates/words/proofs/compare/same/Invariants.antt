-- The bytes so far are the same.
use Rattle.std.proofs.Common.{◌≡◌}
use Rattle.words.specs.Tests.{all}
use Rattle.words.specs.Bytes.{same_byte}
use Rattle.words.proofs.compare.same.Given as goal

abbrev pub invariant-loop-k : goal.invariant-loop-k
invariant-loop-k l = l.good ≡ all (same_byte l.a l.b) l.k
