-- The places before `k` are laid down.
use Rattle.repack.specs.Laying.{LaidPlaces}
use Rattle.repack.proofs.entries.lay_map.Given as goal

abbrev pub invariant-loop-k : goal.invariant-loop-k
invariant-loop-k l = LaidPlaces l.kind l.fn.entry.image.now l.fn.entry.place l.k l.to l.next l.out
