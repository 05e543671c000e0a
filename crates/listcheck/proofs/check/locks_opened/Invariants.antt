-- The locks so far have their open.
use Rattle.std.proofs.Common.{◌≡◌, true}
use Rattle.words.specs.Tests.{all}
use Rattle.rules.specs.Locks.{unpack}
use Rattle.listcheck.specs.Check.{lock_opened_at}
use Rattle.listcheck.proofs.check.locks_opened.Given as goal

abbrev pub invariant-loop-i : goal.invariant-loop-i
invariant-loop-i l = all (lock_opened_at (unpack l.places.list.now)) l.i ≡ true
