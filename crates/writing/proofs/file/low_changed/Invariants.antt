-- The bytes before byte `k` are changed.
use Rattle.std.proofs.Common.{◌≡◌}
use Rattle.words.proofs.Lists.{filled}
use Rattle.rules.specs.Effects.{low_changed}
use Rattle.writing.proofs.file.low_changed.Given as goal

abbrev pub invariant-loop-k : goal.invariant-loop-k
invariant-loop-k l = l.byte-items ≡ filled (low_changed l.image l.at l.name) l.k l.initial.byte-items
