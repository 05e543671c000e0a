-- `repack::pack::pack_blocks` meets its contract.
use borrow.Author.Rules.{rules}
use Rattle.repack.proofs.Laying.{end_room, packed_all}
use Rattle.repack.proofs.pack.pack_blocks.Goals as goal

pub fill_to-requires : goal.fill_to-requires
fill_to-requires c =
    let room = end_room _ _ c.requires.0 _ _ c.lay_blocks-next.ensures in
    (search rules, search rules)

pub returns : goal.returns
returns c =
    packed_all _ _ c.requires.0 _ _ c.lay_blocks-next.ensures _ _ _ c.requires.1.size c.block_at.ensures.0
    c.fill_to.ensures
