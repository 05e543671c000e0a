-- Unlocks that somebody might write and that "Order of unlocks" refuses. Assumes nothing.
use Rattle.std.specs.Prelude.{ℕ, List, map, set, eqb}
use Rattle.words.specs.Tests.{◌and◌, ◌if◌else◌}
use Rattle.words.specs.Lists.{turns}
use Rattle.words.specs.Tables.{◌∕◌}
use Rattle.rules.specs.declared.kind.Kind.{Kind}
use Rattle.rules.specs.declared.kind.Kind.TheVariants.{Small}
use Rattle.rules.specs.declared.kind.Rule.TheVariants.{Mpm}
use Rattle.rules.specs.declared.file.File.{File}
use Rattle.rules.specs.declared.item.Item.{Item}
use Rattle.rules.specs.declared.list.LockList.{LockList}
use Rattle.rules.specs.Serves.{Outcome, outcome}
use Rattle.rules.specs.Locks.{places, a_lock, empty_place, item_at, with_items, pack, unpack}
use Rattle.rules.specs.Effects.{is_of_file, placed}
use Rattle.unlocking.specs.Unlocks.{Asking, Doing, lent_to, locks, unlocks, Commutes, Repeats, file_of_caller, holds_some, GivesBack}

-- an accepted Unlock that leaves another list
unfoldable pub leaving : Asking → LockList → List ℕ → Outcome → Outcome
leaving q l image o = outcome o.answer (lent_to q (pack l) image) if eqb o.answer (0 ∕ 0) else o

-- one that then moves the locks down to the lowest empty places, so that no gap is left
unfoldable pub moved_at : ℕ → LockList → LockList
moved_at i l = placed (item_at l i) (with_items l (set l.items i empty_place)) if eqb (item_at l i).kind a_lock else l

unfoldable pub moved_down : LockList → LockList
moved_down l = turns moved_at places l

unfoldable pub settling : Kind → Doing
settling kind q list image = leaving q (moved_down (unpack (unlocks kind q list image).left.list)) image (unlocks kind q list image)

-- one that takes away all locks of the caller on the file
unfoldable pub unless_lock_of : ℕ → File → Item → Item
unless_lock_of p f it = empty_place if eqb it.kind a_lock and is_of_file p f it else it

unfoldable pub swept : Asking → List ℕ → LockList
swept q list = with_items (unpack list) (map (unless_lock_of q.process (file_of_caller q list)) (unpack list).items)

unfoldable pub sweeping : Kind → Doing
sweeping kind q list image = leaving q (swept q list) image (unlocks kind q list image)

-- one that refuses, with the code for a wrong File ID, where the caller holds no record of the run
unfoldable pub strict : Kind → Doing
strict kind q list image = unlocks kind q list image if holds_some q list else outcome (13 ∕ 0) (lent_to q list image)

-- What each of them fails.
pub record WrongUnlocks : Type 0 where
  pub not_settling : GivesBack (locks (Small Mpm)) (settling (Small Mpm)) → ⊥
  pub not_sweeping : GivesBack (locks (Small Mpm)) (sweeping (Small Mpm)) → ⊥
  pub not_strict : Commutes (strict (Small Mpm)) → ⊥
  pub not_strict_again : Repeats (strict (Small Mpm)) → ⊥
