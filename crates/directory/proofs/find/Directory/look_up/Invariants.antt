-- What the entries before `e` tell.
use Rattle.std.proofs.Common.{◌≡◌}
use Rattle.directory.specs.Looking.{found_to}
use Rattle.directory.proofs.find.Directory.look_up.Given as goal

abbrev pub invariant-loop-e : goal.invariant-loop-e
invariant-loop-e l = l.x ≡ found_to l.n l.fn.self.image.now l.f l.e
