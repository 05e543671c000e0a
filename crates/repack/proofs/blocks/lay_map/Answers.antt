-- `repack::blocks::lay_map` meets its contract.
use Rattle.repack.proofs.Laying.{walking}
use Rattle.repack.proofs.blocks.lay_map.Goals as goal

pub returns-then-is_empty : goal.returns-then-is_empty
returns-then-is_empty c = search walking depth 8 fits 20000
