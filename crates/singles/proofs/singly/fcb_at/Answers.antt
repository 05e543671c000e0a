-- `singles::singly::fcb_at` meets its contract.
use Rattle.singles.proofs.Each.{fcb_made}
use Rattle.singles.proofs.singly.fcb_at.Goals as goal

pub returns : goal.returns
returns c = search fcb_made
