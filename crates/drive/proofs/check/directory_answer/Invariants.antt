-- `drive::check::directory_answer` meets its contract.
use Rattle.std.proofs.Common.{◌≡◌, false}
use Rattle.words.specs.Tests.{any}
use Rattle.rules.specs.Drive.{lacks_first}
use Rattle.drive.proofs.check.directory_answer.Given as goal

abbrev pub invariant-loop-e : goal.invariant-loop-e
invariant-loop-e l = any (lacks_first l.fn.directory.kind l.fn.directory.image.now) l.e ≡ false
