use Rattle.std.proofs.Common.{◌≡◌, false}
use Rattle.words.specs.Tests.{any}
use Rattle.rules.specs.Codes.{lacks}
use Rattle.directory.specs.Runs.{Known}
use Rattle.locking.proofs.run.lacking.Given as goal

abbrev pub invariant-loop-k : goal.invariant-loop-k
invariant-loop-k l = Known l.directory.kind l.directory.image.now l.f l.r l.k l.e × (any (lacks l.directory.kind l.directory.image.now l.f l.r) l.k ≡ false)
