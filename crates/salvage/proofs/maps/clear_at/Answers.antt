-- `salvage::maps::clear_at` meets its contract.
use Rattle.salvage.proofs.Zeroed.{placing}
use Rattle.salvage.proofs.maps.clear_at.Goals as goal

pub returns-then-b-eq0 : goal.returns-then-b-eq0
returns-then-b-eq0 c = let h = rw (c.at.ensures.0, c.at.ensures.1) at c.map_number-b.ensures.0 in search placing depth 8 fits 40000

pub returns-then-not-in_range : goal.returns-then-not-in_range
returns-then-not-in_range c = let h = rw (c.at.ensures.0, c.at.ensures.1) at c.map_number-b.ensures.0 in search placing depth 8 fits 40000

pub returns-then-named : goal.returns-then-named
returns-then-named c = let h = rw (c.at.ensures.0, c.at.ensures.1) at c.map_number-b.ensures.0 in search placing depth 8 fits 40000

pub returns-else-named : goal.returns-else-named
returns-else-named c = let h = rw (c.at.ensures.0, c.at.ensures.1) at c.map_number-b.ensures.0 in search placing depth 8 fits 40000
