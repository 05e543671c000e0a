-- A search from entry 0 on is what 17 does.
use Rattle.std.proofs.Common.{refl}
use Rattle.searching.proofs.Finding.{first_called}
use Rattle.searching.proofs.search.search_first.Goals as goal

pub returns : goal.returns
returns c = first_called _ _ _ _ _ _ _ c.requires.0 c.search_from.ensures refl
