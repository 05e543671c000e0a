-- The places so far are good by themselves.
use Rattle.std.proofs.Common.{◌≡◌, true}
use Rattle.words.specs.Tests.{all}
use Rattle.rules.specs.Locks.{unpack}
use Rattle.listcheck.specs.Check.{place_alone_at}
use Rattle.listcheck.proofs.place.Check.places_alone.Given as goal

abbrev pub invariant-loop-i : goal.invariant-loop-i
invariant-loop-i l = all (place_alone_at l.self.index.directory.kind l.self.index.directory.image.now (unpack l.self.places.now.list.now)) l.i ≡ true
