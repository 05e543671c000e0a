-- The blocks in the places before `k` are laid down.
use Rattle.std.proofs.Common.{◌+◌, ◌*◌}
use Rattle.rules.specs.Kinds.{numbers}
use Rattle.repack.specs.Laying.{LaidBlocks}
use Rattle.repack.proofs.blocks.lay_map.Given as goal

abbrev pub invariant-loop-k : goal.invariant-loop-k
invariant-loop-k l = LaidBlocks l.kind l.fn.entry.image.now (numbers l.kind * l.fn.entry.place + l.k) l.next l.out
