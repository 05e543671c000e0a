-- None so far clashes.
use Rattle.std.proofs.Common.{◌≡◌, ◌+◌, false}
use Rattle.words.specs.Tests.{any}
use Rattle.words.specs.Hints.{Hints}
use Rattle.rules.specs.Locks.{unpack, clash_at}
use Rattle.listcheck.specs.Check.{item_slot_at, is_item}
use Rattle.listcheck.proofs.apart.is_apart.Given as goal

abbrev pub invariant-loop-j : goal.invariant-loop-j
invariant-loop-j l = record {
  none : any (clash_at (unpack l.places.list.now) l.i) l.j ≡ false;
  known : Hints (item_slot_at (unpack l.places.list.now)) (is_item (unpack l.places.list.now)) (l.i + 1) l.hints;
}
