-- The blocks of the entries before `e` are cleared.
use Rattle.rules.specs.Kinds.{most}
use Rattle.soundness.specs.Taking.{is_block_of}
use Rattle.writing.specs.Clears.{Cleared}
use Rattle.writing.proofs.vector.release.Given as goal

abbrev pub invariant-loop-e : goal.invariant-loop-e
invariant-loop-e l = Cleared (most l.kind) (is_block_of l.kind l.image l.f l.e) l.initial.vector l.vector
