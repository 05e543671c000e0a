-- `locklist::pack::pack` meets its contract.
use Rattle.std.proofs.Common.{◌≡◌}
use Rattle.locklist.proofs.Packs.{packed_to}
use Rattle.locklist.proofs.pack.pack.Given as goal

abbrev pub invariant-loop-i : goal.invariant-loop-i
invariant-loop-i l = l.list ≡ packed_to l.fn.l l.fn.list l.i
