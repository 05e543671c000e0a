-- The entries before `e` are erased.
use Rattle.std.proofs.Common.{◌≡◌, length}
use Rattle.words.specs.Lists.{turns}
use Rattle.rules.specs.Effects.{erased_at}
use Rattle.writing.proofs.file.erase.Given as goal

abbrev pub invariant-loop-e : goal.invariant-loop-e
invariant-loop-e l = (length l.image ≡ length l.initial.image) × (l.image ≡ turns (erased_at l.f) l.e l.initial.image)
