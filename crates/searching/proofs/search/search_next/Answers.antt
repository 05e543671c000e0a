-- A search from the caller's position on is what 18 does.
use Rattle.std.proofs.Common.{◌∙◌}
use Rattle.searching.proofs.Finding.{next_called}
use Rattle.searching.proofs.search.search_next.Goals as goal

pub returns : goal.returns
returns c = next_called _ _ _ _ _ _ _ c.requires.0 c.search_from.ensures (c.from-from.ensures ∙ c.position_of.ensures)
