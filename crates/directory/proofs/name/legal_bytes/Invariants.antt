-- The bytes before byte `k` are all legal, or not, as `good` says.
use Rattle.std.proofs.Common.{◌≡◌}
use Rattle.words.specs.Tests.{all}
use Rattle.rules.specs.Drive.{legal_at}
use Rattle.directory.proofs.name.legal_bytes.Given as goal

abbrev pub invariant-loop-k : goal.invariant-loop-k
invariant-loop-k l = l.good ≡ all (legal_at l.s l.at) l.k
