-- Sums over processes of which some call: at most so much for each of these. Assumes nothing.
use Prim.Native.Nat.{ℕ, zero, suc, ◌+◌, ◌*◌, ◌<◌, ◌≤◌}
use mathlib.Core.Path.{◌≡◌, refl, sym, ap, ◌∙◌}
use mathlib.Core.Bool.{Bool, true, false}
use mathlib.Core.List.{List, [], ◌∷◌}
use mathlib.Core.Logic.{⊎_elim}
use native.Mathlib.Omega.{arith}
use native.Mathlib.Nat.{mul-suc}
use lib.ListN.{length}
use lib.Dec.{eqb}
use borrow.Author.Tests.{eqb-true, ne_eqb}
use Rattle.words.specs.Tests.{◌or◌, ◌if◌else◌, count}
use Rattle.words.proofs.Tests.{either, equal?, any_never}
use Rattle.words.proofs.Counts.{count_zero}
use Rattle.words.proofs.Items.{total}
use Rattle.sizing.specs.Sizes.{is_caller}

-- ---- those that call are at most as many as are named

equal_one : (q n : ℕ) → count (eqb q) n ≤ 1
unfolding count ◌if◌else◌
equal_one q zero = omega arith
equal_one q (suc n) =
    ⊎_elim
    (λ (e : eqb q n ≡ true).
    let z = count_zero (eqb q) n (any_never (eqb q) n (λ i m. other i m (eqb-true q n e))) in
    rw e (omega arith))
    (λ (e : eqb q n ≡ false). let k = equal_one q n in rw e (omega arith)) (either (eqb q n))
  where
    other : (i : ℕ) → i < n → q ≡ n → eqb q i ≡ false
    other i m e = ne_eqb q i (λ (z : q ≡ i). absurd (omega arith))

either_count : (f g : ℕ → Bool) (n : ℕ) → count (λ (i : ℕ). f i or g i) n ≤ count f n + count g n
unfolding count ◌or◌ ◌if◌else◌
either_count f g zero = omega arith
either_count f g (suc n) =
    let k = either_count f g n in
    ⊎_elim (λ (e : f n ≡ true). rw e (omega arith)) (λ (e : f n ≡ false). rw e (omega arith)) (either (f n))

-- of the numbers below n no more are callers than are named
pub callers_few : (callers : List ℕ) (n : ℕ) → count (is_caller callers) n ≤ length callers
unfolding is_caller
callers_few [] n = let z = count_zero (λ (i : ℕ). false) n (any_never (λ (i : ℕ). false) n (λ i m. refl)) in omega arith
callers_few (q ∷ callers) n =
    let a = either_count (eqb q) (is_caller callers) n in
    let b = equal_one q n in
    let c = callers_few callers n in
    omega arith

-- ---- at most m for each that passes, and nothing for the others

module _ (f : ℕ → ℕ) (t : ℕ → Bool) (m : ℕ) where
  sum_most : (n : ℕ) → ((i : ℕ) → i < n → f i ≤ (m if t i else 0)) → total f n ≤ m * count t n
  unfolding total count ◌if◌else◌
  sum_most zero h = omega arith
  sum_most (suc n) h =
      let k = sum_most n (λ i l. h i (omega arith)) in
      let w = h n (omega arith) in
      ⊎_elim
      (λ (e : t n ≡ true).
      let y : f n ≤ m = rw e at w in
      let d : count t n + 1 ≡ suc (count t n) = omega arith in
      rw e (rw d (omega (arith, mul-suc m (count t n)))))
      (λ (e : t n ≡ false). let y : f n ≤ 0 = rw e at w in let d : count t n + 0 ≡ count t n = omega arith in rw e (rw d (omega arith)))
      (either (t n))

  -- one of them has d less
  pub sum_less : (p d n : ℕ) → p < n → t p ≡ true → f p + d ≤ m → ((i : ℕ) → i < n → f i ≤ (m if t i else 0)) → total f n + d ≤ m * count t n
  unfolding total count ◌if◌else◌
  sum_less p d zero l on w h = absurd (omega arith)
  sum_less p d (suc n) l on w h =
      ⊎_elim
      (λ (q : p ≡ n).
      let e : t n ≡ true = ap t (sym q) ∙ on in
      let y : f n + d ≤ m = rw q at w in
      let k = sum_most n (λ i j. h i (omega arith)) in
      let z : count t n + 1 ≡ suc (count t n) = omega arith in
      rw e (rw z (omega (arith, mul-suc m (count t n)))))
      (λ (q : p ≡ n → ⊥).
      let k = sum_less p d n (omega arith) on w (λ i j. h i (omega arith)) in
      let v = h n (omega arith) in
      ⊎_elim
      (λ (e : t n ≡ true).
      let y : f n ≤ m = rw e at v in
      let z : count t n + 1 ≡ suc (count t n) = omega arith in
      rw e (rw z (omega (arith, mul-suc m (count t n)))))
      (λ (e : t n ≡ false). let y : f n ≤ 0 = rw e at v in let z : count t n + 0 ≡ count t n = omega arith in rw e (rw z (omega arith)))
      (either (t n)))
      (equal? p n)
