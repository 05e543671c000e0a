-- The clear bits so far are counted.
use Rattle.std.proofs.Common.{◌≡◌, ◌≤◌}
use Rattle.words.specs.Bits.{is_clear}
use Rattle.words.specs.Tests.{count}
use Rattle.words.proofs.bits.clear_count.Given as goal

abbrev pub invariant-loop-b : goal.invariant-loop-b
invariant-loop-b l = (l.clear ≤ l.b) × (l.clear ≡ count (is_clear l.bits) l.b)
