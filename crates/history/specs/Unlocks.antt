-- "Order of unlocks" (T-13), of an engine. Assumes nothing.
use Rattle.std.specs.Prelude.{ℕ, ◌≡◌, true, false, List, [], ◌∷◌, ◌++◌}
use Rattle.words.specs.Tables.{◌∕◌}
use Rattle.rules.specs.Serves.{Outcome}
use Rattle.unlocking.specs.Unlocks.{Asking, EitherOrder, AddsNothing, holds_some, GivenBack}
use Rattle.history.specs.History.{Ask, State, Engine, EachCall, is_possible, outcome_of, kept}

-- a Lock or an Unlock without its function
abbrev pub asking : Ask → Asking
asking q = record { process = q.process; count = q.count; fcb = q.fcb; dma = q.dma }

-- the same call of another function
abbrev pub with_function : ℕ → Ask → Ask
with_function n q = record { function = n; process = q.process; count = q.count; fcb = q.fcb; dma = q.dma }

-- the outcome of v right after u
unfoldable pub outcome_next : Engine → List Ask → Ask → Ask → State → Outcome
outcome_next e before u v s = outcome_of (e (before ++ (u ∷ []))) v (kept (outcome_of (e before) u s))

pub record UnlockOrder (e : Engine) : Type 0 where
  -- "two Unlock calls, by one process or two, give the same answers and bytes in either order; ..
  pub commute : EachCall (λ (before : List Ask) (u : Ask) (s : State). (v : Ask) → is_possible v ≡ true → u.function ≡ 43 → v.function ≡ 43
      → EitherOrder (asking u) (asking v) s.image (outcome_of (e before) u s) (outcome_next e before u v s)
      (outcome_of (e before) v s) (outcome_next e before v u s))
  -- .. one repeated adds nothing; ..
  pub repeated : EachCall (λ (before : List Ask) (u : Ask) (s : State). u.function ≡ 43
      → AddsNothing (asking u) s.image (outcome_of (e before) u s) (outcome_next e before u u s))
  -- .. an accepted Lock on records that the caller did not hold, followed by the Unlock of that run, gives back the list byte for byte."
  pub given_back : EachCall (λ (before : List Ask) (q : Ask) (s : State). q.function ≡ 42 → holds_some (asking q) s.list ≡ false
      → (outcome_of (e before) q s).answer ≡ 0 ∕ 0
      → GivenBack (asking q) s.list s.image (outcome_of (e before) q s) (outcome_next e before q (with_function 43 q) s))
