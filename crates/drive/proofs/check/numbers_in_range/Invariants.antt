-- `drive::check::numbers_in_range` meets its contract.
use Rattle.std.proofs.Common.{◌≡◌, true}
use Rattle.words.specs.Tests.{all}
use Rattle.rules.specs.Drive.{in_range}
use Rattle.drive.proofs.check.numbers_in_range.Given as goal

abbrev pub invariant-loop-k : goal.invariant-loop-k
invariant-loop-k g l = all (in_range l.kind l.fn.entry.image.now l.fn.entry.place) l.k ≡ true
