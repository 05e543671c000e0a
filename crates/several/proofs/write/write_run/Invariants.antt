-- What `several::write::write_run` has written before record `i`.
use Rattle.std.proofs.Common.{◌≡◌}
use Rattle.rules.specs.Serves.{buffers}
use Rattle.rules.specs.Vector.{vector_of}
use Rattle.several.specs.So.{Writing}
use Rattle.several.proofs.write.write_run.Given as goal

abbrev pub invariant-loop-i : goal.invariant-loop-i
invariant-loop-i l =
    Writing l.kind l.zeros l.p l.f l.first l.r l.locked (buffers l.fcb l.dma l.list l.initial.image) l.i l.e l.image × (l.vector ≡ vector_of l.kind l.image)
