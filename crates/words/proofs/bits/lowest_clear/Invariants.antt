-- No number below `b` is clear.
use Rattle.std.proofs.Common.{◌≡◌, false}
use Rattle.words.specs.Bits.{is_clear}
use Rattle.words.specs.Tests.{any}
use Rattle.words.proofs.bits.lowest_clear.Given as goal

abbrev pub invariant-loop-b : goal.invariant-loop-b
invariant-loop-b l = any (is_clear l.bits) l.b ≡ false
