-- `salvage::mend::repair` meets its contract.
use Rattle.salvage.proofs.Ends.{passing}
use Rattle.salvage.proofs.mend.repair.Goals as goal

pub returns : goal.returns
returns c = search passing depth 8 fits 40000
