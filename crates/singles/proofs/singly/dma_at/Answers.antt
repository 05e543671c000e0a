-- `singles::singly::dma_at` meets its contract.
use Rattle.singles.proofs.Each.{dma_made}
use Rattle.singles.proofs.singly.dma_at.Goals as goal

pub returns : goal.returns
returns c = search dma_made
