-- The used ones of the entries before `e` are laid down.
use Rattle.std.proofs.Common.{◌≤◌}
use Rattle.repack.specs.Laying.{LaidEntries}
use Rattle.repack.proofs.entries.lay_entries.Given as goal

abbrev pub invariant-loop-e : goal.invariant-loop-e
invariant-loop-e l = (l.to ≤ l.e) × LaidEntries l.fn.directory.kind l.fn.directory.image.now l.e l.to l.next l.out
