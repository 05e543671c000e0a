-- None so far is the open.
use Rattle.std.proofs.Common.{◌≡◌, false}
use Rattle.words.specs.Tests.{any}
use Rattle.rules.specs.Locks.{unpack, opens_name_at}
use Rattle.listcheck.proofs.check.lock_opened.Given as goal

abbrev pub invariant-loop-o : goal.invariant-loop-o
invariant-loop-o l = any (opens_name_at (unpack l.places.list.now) l.it.process l.name) l.o ≡ false
