-- That a contract leaves one outcome: one law for each shape of contract. Assumes nothing.
use Prim.Native.Nat.{ℕ}
use mathlib.Core.Path.{◌≡◌, sym, ◌∙◌}
use mathlib.Core.List.{List}

module _ {A : Type 0} (x : A) where
  -- `r ≡ x`: one answer
  pub one_answer : (r q : A) → r ≡ x → q ≡ x → r ≡ q
  one_answer r q h k = h ∙ sym k

  -- `(r ≡ x) × ..`: one answer, with a bound beside it
  pub one_bounded : (P : A → Type 0) (r q : A) → (r ≡ x) × P r → (q ≡ x) × P q → r ≡ q
  one_bounded P r q h k = one_answer r q h.0 k.0

-- `s.new ≡ x`: one content of a buffer that was lent
pub one_left : (x s t : List ℕ) → s ≡ x → t ≡ x → s ≡ t
one_left x s t h k = one_answer x s t h k
