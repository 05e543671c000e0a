-- `drive::check::judge_all` meets its contract.
use Rattle.std.proofs.Common.{◌≡◌, false}
use Rattle.words.specs.Hints.{Hints}
use Rattle.words.specs.Tests.{any}
use Rattle.rules.specs.Drive.{is_bad}
use Rattle.index.specs.Slots.{slot_at, in_use}
use Rattle.drive.specs.Marks.{Marks}
use Rattle.drive.proofs.check.judge_all.Given as goal

abbrev pub invariant-loop-e : goal.invariant-loop-e
invariant-loop-e l = (any (is_bad l.fn.directory.kind l.fn.directory.image.now) l.e ≡ false) × Marks l.fn.directory.kind 1 l.fn.directory.image.now l.e 0 l.seen × Hints (slot_at l.fn.directory.image.now) (in_use l.fn.directory.image.now) l.e l.hints
