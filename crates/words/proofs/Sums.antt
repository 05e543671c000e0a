-- Laws of sums: f 0 + .. + f (n - 1). Assumes nothing.
use Prim.Native.Nat.{ℕ, zero, suc, ◌+◌, ◌≤◌, ◌<◌}
use mathlib.Core.Path.{◌≡◌, refl}
use mathlib.Core.Bool.{false}
use mathlib.Core.Logic.{⊎_elim}
use native.Mathlib.Omega.{arith}
use lib.Dec.{eqb}
use borrow.Author.Tests.{eq-eqb, ne_eqb}
use Rattle.words.specs.Tests.{◌if◌else◌, sum_below}
use Rattle.words.proofs.Tests.{equal?}

-- sums of the same numbers are the same; ..
pub sum_ext : (f g : ℕ → ℕ) (n : ℕ) → ((i : ℕ) → f i ≡ g i) → sum_below f n ≡ sum_below g n
unfolding sum_below
sum_ext f g zero h = refl
sum_ext f g (suc n) h = rw (sum_ext f g n h, h n) refl

-- .. the sum of sums of two is the sum of two sums; ..
pub sum_add : (f g : ℕ → ℕ) (n : ℕ) → sum_below (λ (i : ℕ). f i + g i) n ≡ sum_below f n + sum_below g n
unfolding sum_below
sum_add f g zero = refl
sum_add f g (suc n) = let k = sum_add f g n in omega arith

-- .. the sum of zeros is 0; ..
pub sum_none : (n : ℕ) → sum_below (λ (i : ℕ). 0) n ≡ 0
unfolding sum_below
sum_none zero = refl
sum_none (suc n) = let k = sum_none n in omega arith

-- .. and just one number below n is q
pub sum_one : (q n : ℕ) → q < n → sum_below (λ (p : ℕ). 1 if eqb q p else 0) n ≡ 1
unfolding sum_below ◌if◌else◌
sum_one q zero m = absurd (omega arith)
sum_one q (suc n) m =
    ⊎_elim (λ (e : q ≡ n). rw (eq-eqb q n e) (let k = past n (omega arith) in omega arith))
    (λ (e : q ≡ n → ⊥). rw (ne_eqb q n e) (let k = sum_one q n (omega arith) in omega arith)) (equal? q n)
  where
    past : (n : ℕ) → n ≤ q → sum_below (λ (p : ℕ). 1 if eqb q p else 0) n ≡ 0
    past zero m = unfold sum_below in refl
    past (suc n) m = next (past n (omega arith)) (ne_eqb q n (λ (e : q ≡ n). absurd (omega arith)))
      where
        next : sum_below (λ (p : ℕ). 1 if eqb q p else 0) n ≡ 0 → eqb q n ≡ false → sum_below (λ (p : ℕ). 1 if eqb q p else 0) (suc n) ≡ 0
        next k e = unfold sum_below ◌if◌else◌ in rw e (omega arith)
