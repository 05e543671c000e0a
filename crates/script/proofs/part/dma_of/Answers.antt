-- `script::part::dma_of` meets its contract.
use Rattle.std.proofs.Common.{arith}
use Rattle.script.proofs.Parts.{part_copied}
use Rattle.script.proofs.part.dma_of.Goals as goal

pub returns : goal.returns
returns c = part_copied _ _ _ 2048 c.array_from.ensures (omega arith)
