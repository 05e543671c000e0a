-- The bytes before byte `k` are those of the name, or not, as `good` says.
use Rattle.std.proofs.Common.{◌≡◌}
use Rattle.words.specs.Tests.{all}
use Rattle.rules.specs.Drive.{same_low}
use Rattle.directory.proofs.name.is_named.Given as goal

abbrev pub invariant-loop-k : goal.invariant-loop-k
invariant-loop-k l = l.good ≡ all (same_low l.s l.at l.fn.name) l.k
