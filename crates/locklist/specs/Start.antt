-- What is said of a routine that starts a list. Assumes nothing.
use Rattle.std.specs.Prelude.{ℕ, ◌≤◌, ◌≡◌, List, length}
use Rattle.rules.specs.Locks.{Started}

-- what Start answered and the list that it left are that outcome
pub record DidStart (o : Started) (answer : ℕ) (list : List ℕ) : Type 0 where
  pub gives : answer ≡ o.answer
  pub leaves : list ≡ o.list

-- ---- What only proofs need

-- what Start's refusal leaves to rely on
pub record MayStart (c o k u : ℕ) (users list : List ℕ) : Type 0 where
  pub capacity_fits : c ≤ 64
  pub opens_fit : o ≤ 64
  pub locks_fit : k ≤ 64
  pub rule_fits : u ≤ 1
  pub users_long : length users ≡ 16
  pub list_long : length list ≡ 1316
