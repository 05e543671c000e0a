-- `singles::singly::call_each` meets its contract.
use Prim.Native.Nat.{◌+◌, ◌<◌}
use mathlib.Core.Path.{◌≡◌}
use lib.ListN.{length}
use Rattle.rules.specs.Serves.{buffers}
use Rattle.rules.specs.Several.{run, several}
use Rattle.rules.specs.Vector.{vector_of}
use Rattle.singles.proofs.singly.call_each.Given as goal

abbrev pub invariant-loop-i : goal.invariant-loop-i
invariant-loop-i l = (several l.kind l.function l.process l.i (buffers l.fcb l.initial.dma l.initial.list l.initial.image) ≡ run 0 l.i (buffers l.fcb l.dma l.list l.image))
    × (length l.image ≡ length l.initial.image) × (length l.vector ≡ length l.initial.vector) × (l.r + l.i < 16777216)
    × (l.vector ≡ vector_of l.kind l.image)
