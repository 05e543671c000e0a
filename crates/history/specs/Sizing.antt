-- "Sizing a list so nobody is turned away" (T-10), of an engine. Only the list is the engine's: the image may be any at each call. Assumes nothing.
use Rattle.std.specs.Prelude.{ℕ, ◌≤◌, ◌≡◌, Bool, true, List, [], ◌∷◌, ◌++◌, length}
use Rattle.words.specs.Tests.{◌and◌}
use Rattle.words.specs.Tables.{◌∕◌}
use Rattle.rules.specs.declared.kind.Kind.{Kind}
use Rattle.rules.specs.Serves.{Outcome}
use Rattle.rules.specs.Locks.{start}
use Rattle.sizing.specs.Sizes.{is_caller, Suffices, NotTurnedAway}
use Rattle.history.specs.History.{Ask, Engine, is_lendable, is_possible, state, outcome_of}

-- a call, and the image that it is lent, whatever stands in it by then
pub record Lent : Type 0 where
  pub ask : Ask
  pub image : List ℕ

-- one that a host can make, by a process of those that ever call, accepted or not
unfoldable pub is_made_by : List ℕ → Lent → Bool
is_made_by callers x = is_possible x.ask and is_lendable x.image and is_caller callers x.ask.process

unfoldable pub are_made_by : List ℕ → List Lent → Bool
are_made_by callers [] = true
are_made_by callers (x ∷ xs) = is_made_by callers x and are_made_by callers xs

-- its outcome on a list, after the calls before it
unfoldable pub outcome_on : Engine → List Ask → Lent → List ℕ → Outcome
outcome_on e before x list = outcome_of (e before) x.ask (state list x.image)

-- no call answers 255/11 or 14/0, each on the list that the one before it left
unfoldable pub NoneTurnedAway : Engine → List Ask → List Lent → List ℕ → Type 0
NoneTurnedAway e before [] list = Unit {0}
NoneTurnedAway e before (x ∷ xs) list =
    NotTurnedAway (outcome_on e before x list) × NoneTurnedAway e (before ++ (x.ask ∷ [])) xs (outcome_on e before x list).left.list

-- "from a fresh list that only the engine changes, if at most p processes ever call and the capacity is at least p times the sum of the open and
-- lock limits, then 255/11 and 14/0 are never given"
unfoldable pub NobodyTurnedAway : Kind → Engine → Type 0
NobodyTurnedAway kind e = (c o k u : ℕ) (users given : List ℕ) → (start kind c o k u users given).answer ≡ 0 ∕ 0 → (p : ℕ) (callers : List ℕ)
    → length callers ≤ p → Suffices p c o k → (xs : List Lent) → are_made_by callers xs ≡ true
    → NoneTurnedAway e [] xs (start kind c o k u users given).list
