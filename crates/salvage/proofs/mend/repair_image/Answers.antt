-- `salvage::mend::repair_image` meets its contract.
use Rattle.salvage.proofs.Ends.{ending}
use Rattle.salvage.proofs.mend.repair_image.Goals as goal

pub returns : goal.returns
returns c = let h = c.in_ok-refusal.ensures in search ending
