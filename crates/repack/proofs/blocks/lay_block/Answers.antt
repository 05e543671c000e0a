-- `repack::blocks::lay_block` meets its contract.
use Rattle.repack.proofs.Laying.{copying}
use Rattle.repack.proofs.blocks.lay_block.Goals as goal

pub returns-then-n-eq0 : goal.returns-then-n-eq0
returns-then-n-eq0 c = search copying depth 8 fits 20000

pub copy_block-requires : goal.copy_block-requires
copy_block-requires c = search copying depth 8 fits 20000

pub returns : goal.returns
returns c = search copying depth 8 fits 20000
