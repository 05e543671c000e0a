-- The items so far are apart, and the hints know them.
use Rattle.std.proofs.Common.{◌≡◌, true}
use Rattle.words.specs.Tests.{all}
use Rattle.words.specs.Hints.{Hints}
use Rattle.rules.specs.Locks.{unpack, is_apart}
use Rattle.listcheck.specs.Check.{item_slot_at, is_item}
use Rattle.listcheck.proofs.apart.all_apart.Given as goal

abbrev pub invariant-loop-i : goal.invariant-loop-i
invariant-loop-i l = record {
  apart : all (is_apart (unpack l.places.list.now)) l.i ≡ true;
  known : Hints (item_slot_at (unpack l.places.list.now)) (is_item (unpack l.places.list.now)) l.i l.hints;
}
