-- The blocks in the places before `k` are cleared.
use Rattle.rules.specs.Kinds.{most}
use Rattle.writing.specs.Clears.{Cleared, is_block_in}
use Rattle.writing.proofs.vector.release_entry.Given as goal

abbrev pub invariant-loop-k : goal.invariant-loop-k
invariant-loop-k l = Cleared (most l.kind) (is_block_in l.kind l.entry.image.now l.entry.place l.k) l.initial.vector l.vector
