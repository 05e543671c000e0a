-- The entries before `e` are the same.
use Rattle.std.proofs.Common.{◌≡◌, true}
use Rattle.words.specs.Tests.{all}
use Rattle.packing.specs.Same.{same_entry}
use Rattle.moving.proofs.same.same_entries.Given as goal

abbrev pub invariant-loop-e : goal.invariant-loop-e
invariant-loop-e l = all (same_entry l.fn.first.directory.kind l.fn.first.directory.image.now l.fn.second.directory.image.now) l.e ≡ true
