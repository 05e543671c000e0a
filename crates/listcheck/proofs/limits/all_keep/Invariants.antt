-- What the places so far have.
use Rattle.std.proofs.Common.{◌≡◌}
use Rattle.rules.specs.Locks.{unpack}
use Rattle.listcheck.specs.Check.{counted}
use Rattle.listcheck.proofs.limits.all_keep.Given as goal

abbrev pub invariant-loop-i : goal.invariant-loop-i
invariant-loop-i l = record {
  opens : l.opens ≡ counted (unpack l.places.list.now) 1 l.i;
  locks : l.locks ≡ counted (unpack l.places.list.now) 2 l.i;
}
