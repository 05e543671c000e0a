-- An entry of the file, and one of another.
use Rattle.writing.proofs.Releasing.{at_own, at_other}
use Rattle.writing.proofs.vector.release_at.Goals as goal

pub returns-then-is_of : goal.returns-then-is_of
returns-then-is_of c = rw (← c.at-entry.ensures.0, ← c.at-entry.ensures.1) (search at_own)

pub returns-else-is_of : goal.returns-else-is_of
returns-else-is_of c = rw (← c.at-entry.ensures.0, ← c.at-entry.ensures.1) (search at_other)
