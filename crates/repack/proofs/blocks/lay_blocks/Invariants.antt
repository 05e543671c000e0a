-- The blocks of the entries before `e` are laid down.
use Rattle.std.proofs.Common.{◌*◌}
use Rattle.rules.specs.Kinds.{numbers}
use Rattle.repack.specs.Laying.{LaidBlocks}
use Rattle.repack.proofs.blocks.lay_blocks.Given as goal

abbrev pub invariant-loop-e : goal.invariant-loop-e
invariant-loop-e l = LaidBlocks l.fn.directory.kind l.fn.directory.image.now (numbers l.fn.directory.kind * l.e) l.next l.out
