-- No entry so far matches.
use Rattle.std.proofs.Common.{◌≡◌, false}
use Rattle.words.specs.Tests.{any}
use Rattle.rules.specs.Effects.{is_match_from}
use Rattle.searching.proofs.pattern.match_from.Given as goal

abbrev pub invariant-loop-e : goal.invariant-loop-e
invariant-loop-e l = any (is_match_from l.from l.user l.fcb l.directory.image.now) l.e ≡ false
