-- The entries before `e` are renamed.
use Rattle.std.proofs.Common.{◌≡◌, length}
use Rattle.words.specs.Lists.{turns}
use Rattle.rules.specs.Effects.{renamed_at}
use Rattle.writing.proofs.file.rename.Given as goal

abbrev pub invariant-loop-e : goal.invariant-loop-e
invariant-loop-e l = (length l.image ≡ length l.initial.image) × (l.image ≡ turns (renamed_at l.f l.name) l.e l.initial.image)
