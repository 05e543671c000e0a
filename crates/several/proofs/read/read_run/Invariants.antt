-- What `several::read::read_run` has read before record `i`.
use Rattle.rules.specs.Serves.{buffers}
use Rattle.several.specs.So.{Reading}
use Rattle.several.proofs.read.read_run.Given as goal

abbrev pub invariant-loop-i : goal.invariant-loop-i
invariant-loop-i l = Reading l.fn.kind l.p l.f l.r (buffers l.fcb l.initial.dma l.list l.image) l.i l.e l.dma
