-- Laws of counting. Assumes nothing.
use Prim.Native.Nat.{ℕ, zero, suc, ◌+◌, ◌-◌, ◌≤◌, ◌<◌}
use mathlib.Core.Path.{◌≡◌, refl, sym, ap, ◌∙◌}
use mathlib.Core.Bool.{Bool, true, false, not}
use mathlib.Core.Logic.{⊎_elim}
use native.Mathlib.Nat.{add-zero}
use native.Mathlib.Omega.{arith}
use lib.Dec.{leb, eqb}
use borrow.Author.Tests.{leb-true, leb-false, eqb-true, eqb-false}
use Rattle.words.specs.Tests.{◌and◌, ◌or◌, ◌if◌else◌, any, count}
use Rattle.words.proofs.Tests.{either, equal?, never}

module _ (f : ℕ → Bool) where
  pub count_yes : (n : ℕ) → f n ≡ true → count f (suc n) ≡ count f n + 1
  unfolding count ◌if◌else◌
  count_yes n h = rw h refl

  pub count_not : (n : ℕ) → f n ≡ false → count f (suc n) ≡ count f n
  unfolding count ◌if◌else◌
  count_not n h = rw h (omega arith)

  pub count_zero : (n : ℕ) → any f n ≡ false → count f n ≡ 0
  unfolding count any ◌or◌
  count_zero zero h = refl
  count_zero (suc n) h =
      ⊎_elim (λ (e : any f n ≡ true). absurd (never refl (rw e at h)))
      (λ (e : any f n ≡ false). count_not n (rw e at h) ∙ count_zero n e) (either (any f n))

  -- what is counted is there
  pub count_any : (n : ℕ) → 1 ≤ count f n → any f n ≡ true
  count_any n h = ⊎_elim (λ (e : any f n ≡ true). e) (λ (e : any f n ≡ false). let k = count_zero n e in absurd (omega arith)) (either (any f n))

  pub any_count : (n : ℕ) → any f n ≡ true → 1 ≤ count f n
  unfolding count any ◌or◌ ◌if◌else◌
  any_count zero h = absurd (never h refl)
  any_count (suc n) h =
      ⊎_elim (λ (e : any f n ≡ true). let k = any_count n e in omega arith)
      (λ (e : any f n ≡ false). let d : f n ≡ true = rw e at h in rw d (omega arith)) (either (any f n))

  pub count_grows : (n m : ℕ) → n ≤ m → count f n ≤ count f m
  unfolding count
  count_grows n zero h = let e : n ≡ 0 = omega arith in rw e (omega arith)
  count_grows n (suc m) h =
      ⊎_elim (λ (e : n ≡ suc m). rw e (omega arith))
      (λ (e : n ≡ suc m → ⊥). let k = count_grows n m (omega arith) in omega arith) (equal? n (suc m))

  -- those from c on do not pass
  pub count_up : (c n : ℕ) → c ≤ n → ((i : ℕ) → c ≤ i → i < n → f i ≡ false) → count f n ≡ count f c
  unfolding count
  count_up c zero m h = let e : c ≡ 0 = omega arith in rw e refl
  count_up c (suc n) m h =
      ⊎_elim (λ (e : c ≡ suc n). rw e refl)
      (λ (e : c ≡ suc n → ⊥). count_not n (h n (omega arith) (omega arith)) ∙ count_up c n (omega arith) (λ i a b. h i a (omega arith))) (equal? c (suc n))

-- of the numbers from a to n - 1 each passes or fails
pub count_split : (a n : ℕ) (f : ℕ → Bool) → count (λ (i : ℕ). leb a i and not (f i)) n + count (λ (i : ℕ). leb a i and f i) n ≡ n - a
unfolding count ◌and◌ ◌if◌else◌
count_split a zero f = omega arith
count_split a (suc n) f =
    let k = count_split a n f in
    ⊎_elim
    (λ (q : leb a n ≡ true). ⊎_elim
    (λ (e : f n ≡ true). rw (q, e) (let m = leb-true a n q in omega arith))
    (λ (e : f n ≡ false). rw (q, e) (let m = leb-true a n q in omega arith)) (either (f n)))
    (λ (q : leb a n ≡ false). rw q (let m = leb-false a n q in omega arith))
    (either (leb a n))

pub count_ext : (f g : ℕ → Bool) (n : ℕ) → ((i : ℕ) → i < n → f i ≡ g i) → count f n ≡ count g n
unfolding count
count_ext f g zero h = refl
count_ext f g (suc n) h = rw (count_ext f g n (λ i l. h i (omega arith)), h n (omega arith))

pub count_within : (f : ℕ → Bool) (n : ℕ) → count f n ≤ n
unfolding count ◌if◌else◌
count_within f zero = omega arith
count_within f (suc n) =
    let k = count_within f n in
    ⊎_elim (λ (q : f n ≡ true). rw q (omega arith)) (λ (q : f n ≡ false). rw q (omega arith)) (either (f n))

-- where fewer pass, fewer are counted
pub count_less : (f g : ℕ → Bool) (n : ℕ) → ((i : ℕ) → i < n → f i ≡ true → g i ≡ true) → count f n ≤ count g n
unfolding count ◌if◌else◌
count_less f g zero h = omega arith
count_less f g (suc n) h =
    let k = count_less f g n (λ i l q. h i (omega arith) q) in
    ⊎_elim (λ (q : f n ≡ true). rw (q, h n (omega arith) q) (omega arith)) (λ (q : f n ≡ false). rw q (omega arith)) (either (f n))

-- one number that failed passes now
pub count_one : (f g : ℕ → Bool) (p n : ℕ) → p < n → f p ≡ false → g p ≡ true → ((i : ℕ) → i < n → (i ≡ p → ⊥) → g i ≡ f i) → count g n ≡ count f n + 1
unfolding count ◌if◌else◌
count_one f g p zero l was now h = absurd (omega arith)
count_one f g p (suc n) l was now h =
    ⊎_elim
    (λ (e : eqb n p ≡ true).
    let w = eqb-true n p e in
    let k = count_ext g f n (λ i m. h i (omega arith) (λ (z : i ≡ p). absurd (omega arith))) in
    let y : g n ≡ true = ap g w ∙ now in
    let z : f n ≡ false = ap f w ∙ was in
    rw (y, z) (omega arith))
    (λ (e : eqb n p ≡ false).
    let w = eqb-false n p e in
    let m : p < n = ⊎_elim (λ (q : leb n p ≡ true). let j = leb-true n p q in absurd (w (omega arith))) (λ (q : leb n p ≡ false). leb-false n p q)
    (either (leb n p)) in
    let k = count_one f g p n m was now (λ i j z. h i (omega arith) z) in
    rw (h n (omega arith) w) (omega arith))
    (either (eqb n p))

-- one place of those counted is set to something else, which was not counted before
pub count_set : (f g : ℕ → Bool) (j n : ℕ) → j < n → f j ≡ false → ((i : ℕ) → i < n → (i ≡ j → ⊥) → g i ≡ f i) → count g n ≡ count f n + (1 if g j else 0)
unfolding ◌if◌else◌
count_set f g j n m was h =
    ⊎_elim
    (λ (q : g j ≡ true). rw q (count_one f g j n m was q h))
    (λ (q : g j ≡ false).
    let k = count_ext g f n (λ i l. ⊎_elim (λ (e : i ≡ j). ap g e ∙ q ∙ sym was ∙ ap f (sym e)) (λ (e : i ≡ j → ⊥). h i l e) (equal? i j)) in
    rw q (omega arith))
    (either (g j))

-- ---- where those that pass stand

module _ (f : ℕ → Bool) where
  -- below one that passes, fewer are counted, ..
  pub count_below : (i j : ℕ) → i < j → f i ≡ true → count f i < count f j
  count_below i j l h = let a = count_yes f i h in let b = count_grows f (suc i) j l in omega arith

  -- .. so that no two have the same count
  pub count_apart : (i j : ℕ) → f i ≡ true → f j ≡ true → count f i ≡ count f j → i ≡ j
  count_apart i j h g e =
      ⊎_elim (λ (c : leb j i ≡ true). ⊎_elim
      (λ (d : leb i j ≡ true). let m = leb-true j i c in let n = leb-true i j d in omega arith)
      (λ (d : leb i j ≡ false). let k = count_below j i (leb-false i j d) g in absurd (omega arith)) (either (leb i j)))
      (λ (c : leb j i ≡ false). let k = count_below i j (leb-false j i c) h in absurd (omega arith)) (either (leb j i))

  -- all of them pass
  pub count_all : (n : ℕ) → ((i : ℕ) → i < n → f i ≡ true) → count f n ≡ n
  unfolding count
  count_all zero h = refl
  count_all (suc n) h = let k = count_all n (λ i l. h i (omega arith)) in let q = count_yes f n (h n (omega arith)) in omega arith

-- two tests that agree from two places on
pub count_shift : (f g : ℕ → Bool) (a b : ℕ) → count f a ≡ count g b → (j : ℕ) → ((i : ℕ) → i < j → f (a + i) ≡ g (b + i))
    → count f (a + j) ≡ count g (b + j)
unfolding count
count_shift f g a b e zero h = rw (add-zero a, add-zero b) e
count_shift f g a b e (suc j) h =
    let k = count_shift f g a b e j (λ i l. h i (omega arith)) in
    let p : a + suc j ≡ suc (a + j) = omega arith in
    let q : b + suc j ≡ suc (b + j) = omega arith in
    ap (count f) p ∙ ap (λ (n : ℕ). n + (1 if f (a + j) else 0)) k ∙ ap (λ (t : Bool). count g (b + j) + (1 if t else 0)) (h j (omega arith))
    ∙ ap (count g) (sym q)
