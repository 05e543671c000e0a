-- The places so far have their zero.
use Rattle.std.proofs.Common.{◌≡◌, true}
use Rattle.words.specs.Tests.{all}
use Rattle.rules.specs.Locks.{zero_at}
use Rattle.listcheck.proofs.check.all_zero.Given as goal

abbrev pub invariant-loop-i : goal.invariant-loop-i
invariant-loop-i l = all (zero_at l.places.list.now) l.i ≡ true
