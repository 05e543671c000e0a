-- The bytes so far are admitted.
use Rattle.std.proofs.Common.{◌≡◌, true}
use Rattle.words.specs.Tests.{all}
use Rattle.rules.specs.Effects.{admits_byte}
use Rattle.searching.proofs.pattern.admits_name.Given as goal

abbrev pub invariant-loop-k : goal.invariant-loop-k
invariant-loop-k l = all (admits_byte l.fcb l.entry.image.now l.entry.place) l.k ≡ true
