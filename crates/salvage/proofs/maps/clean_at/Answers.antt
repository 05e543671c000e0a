-- `salvage::maps::clean_at` meets its contract.
use Rattle.salvage.proofs.Zeroed.{entrywise}
use Rattle.salvage.proofs.maps.clean_at.Goals as goal

pub returns-then-is_empty : goal.returns-then-is_empty
returns-then-is_empty c = let h = rw (c.at.ensures.0, c.at.ensures.1) at c.is_empty.ensures in search entrywise

pub returns : goal.returns
returns c = let h = rw (c.at.ensures.0, c.at.ensures.1) at c.is_empty.ensures in search entrywise depth 6 fits 20000
