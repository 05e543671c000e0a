-- What a search answers and leaves, where it finds an entry and where it finds none.
use Rattle.std.proofs.Common.{sym, ◌∙◌}
use Rattle.searching.proofs.Finding.{did_find, did_find_none}
use Rattle.searching.proofs.search.search_from.Goals as goal
use Rattle.searching.proofs.search.search_from.Goals.{in-Some, in-None}

pub returns : goal.returns
returns c =
    elim c.match-match_from.branch [
      | in-Some w ↦
          rw (w.next-is, w.dma-is)
          (did_find _ _ _ _ _ _ _ _ c.user_of.ensures c.pack.ensures _ _ (sym w.in-Some.is ∙ c.match_from.ensures.first) w.show.ensures
          (rw w.next-is at c.move_to.ensures))
      | in-None w ↦
          rw (w.next-is, w.dma-is)
          (did_find_none _ _ _ _ _ _ _ _ c.user_of.ensures c.pack.ensures _ (sym w.in-None.is ∙ c.match_from.ensures.first) w.entries.ensures.0
          (rw w.next-is at c.move_to.ensures))
    ]
