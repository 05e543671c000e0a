-- `drive::check::mark_numbers` meets its contract.
use Rattle.std.proofs.Common.{◌≡◌, true}
use Rattle.words.specs.Tests.{all}
use Rattle.rules.specs.Drive.{is_first}
use Rattle.drive.specs.Marks.{Marks}
use Rattle.drive.proofs.check.mark_numbers.Given as goal

abbrev pub invariant-loop-k : goal.invariant-loop-k
invariant-loop-k g l = (all (is_first l.kind l.fn.entry.image.now l.fn.entry.place) l.k ≡ true) × Marks l.kind 1 l.fn.entry.image.now l.fn.entry.place l.k l.seen
