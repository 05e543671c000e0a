-- `locklist::unpack::unpack` meets its contract.
use Rattle.std.proofs.Common.{◌≡◌}
use Rattle.locklist.proofs.Packs.{placed_to}
use Rattle.locklist.proofs.unpack.unpack.Given as goal

abbrev pub invariant-loop-i : goal.invariant-loop-i
invariant-loop-i l = l.l ≡ placed_to l.list l.i l.initial.l
