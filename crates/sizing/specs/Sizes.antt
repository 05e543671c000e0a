-- "Sizing a list so nobody is turned away" (T-10): what is asked of a list, and what a call then does not answer. Assumes nothing.
use Rattle.std.specs.Prelude.{ℕ, ◌+◌, ◌*◌, ◌<◌, ◌≤◌, ◌≡◌, Bool, true, false, List, [], ◌∷◌, eqb}
use Rattle.words.specs.Tests.{◌or◌}
use Rattle.words.specs.Tables.{◌∕◌}
use Rattle.rules.specs.declared.list.LockList.{LockList}
use Rattle.rules.specs.Serves.{Outcome}
use Rattle.rules.specs.Locks.{places, an_empty, item_at}

-- a process is one of those that ever call
unfoldable pub is_caller : List ℕ → ℕ → Bool
is_caller [] p = false
is_caller (q ∷ callers) p = eqb q p or is_caller callers p

-- the list holds items of these alone
pub record OnlyBy (callers : List ℕ) (l : LockList) : Type 0 where
  pub each : (i : ℕ) → i < places → ((item_at l i).kind ≡ an_empty → ⊥) → is_caller callers (item_at l i).process ≡ true

-- "the capacity is at least p times the sum of the open and lock limits"
unfoldable pub Suffices : ℕ → ℕ → ℕ → ℕ → Type 0
Suffices p capacity openlimit locklimit = p * (openlimit + locklimit) ≤ capacity

-- "255/11 and 14/0 are never given"
pub record NotTurnedAway (o : Outcome) : Type 0 where
  pub place_left : o.answer ≡ 255 ∕ 11 → ⊥
  pub places_left : o.answer ≡ 14 ∕ 0 → ⊥
