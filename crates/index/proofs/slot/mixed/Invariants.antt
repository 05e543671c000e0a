-- The number made of the first `k` bytes; each counts at most 217 times 255.
use Rattle.std.proofs.Common.{◌≡◌, ◌≤◌, ◌*◌}
use Rattle.index.proofs.Mixing.{mix_to}
use Rattle.index.proofs.slot.mixed.Given as goal

abbrev pub invariant-loop-k : goal.invariant-loop-k
invariant-loop-k l = (l.sum ≡ mix_to l.fn.name l.k) × (l.sum ≤ 55335 * l.k)
