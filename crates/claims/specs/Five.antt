-- An engine that takes the vector as a fifth buffer (T-04), and the engine of four buffers that it is on books of one kind and rule.
-- Assumes nothing.
use Rattle.std.specs.Prelude.{ℕ, ◌≡◌, true, List, [], ◌∷◌, ◌++◌}
use Rattle.words.specs.Tests.{◌if◌else◌}
use Rattle.rules.specs.declared.kind.Kind.{Kind}
use Rattle.rules.specs.Kinds.{rule_of, same_rule}
use Rattle.rules.specs.Serves.{Buffers}
use Rattle.rules.specs.Locks.{rule_in}
use Rattle.rules.specs.Several.{call_run}
use Rattle.rules.specs.Vector.{Five, vector_of}
use Rattle.history.specs.History.{Ask, State, Engine, is_lendable, is_possible, is_kept, lent, kept}

-- How a call is served: three numbers, the vector and four buffers in; an answer, four buffers and the vector out. An engine may remember.
abbrev pub FiveEngine : Type 0
FiveEngine = List Ask → ℕ → ℕ → ℕ → List ℕ → Buffers → Five

unfoldable pub five_of : FiveEngine → List Ask → Ask → State → List ℕ → Five
five_of e before q s v = e before q.function q.process q.count v (lent q s)

-- the list chooses the rule of that kind (T-11)
abbrev pub OfRule : Kind → State → Type 0
OfRule kind s = rule_in s.list ≡ rule_of kind

-- It as an engine of four buffers, of books of one kind and rule: lent the vector of the image, and a list that chooses that rule. A list
-- that chooses the other occurs in no history of a book of this one; what it does then is said of the other rule.
unfoldable pub four : Kind → FiveEngine → Engine
four kind e before n p c b =
    (e before n p c (vector_of kind b.image) b).did if same_rule (rule_in b.list) (rule_of kind) else call_run kind n p c b

-- so it is of every call that a host can make, with whatever vector
abbrev pub EachFive : (List Ask → Ask → State → List ℕ → Type 0) → Type 0
EachFive So = (before : List Ask) (q : Ask) (s : State) (v : List ℕ) → is_possible q ≡ true → is_kept s ≡ true → is_lendable v ≡ true → So before q s v

-- what a host keeps from call to call: list and image, and the vector beside them
pub record Beside : Type 0 where
  pub state : State
  pub vector : List ℕ

abbrev pub beside : State → List ℕ → Beside
beside s v = record { state = s; vector = v }

-- after calls, which stood so after those before them
unfoldable pub beside_after : FiveEngine → List Ask → List Ask → Beside → Beside
beside_after e before [] k = k
beside_after e before (q ∷ qs) k =
    beside_after e (before ++ (q ∷ [])) qs
    (beside (kept (five_of e before q k.state k.vector).did) (five_of e before q k.state k.vector).vector)
