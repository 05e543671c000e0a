-- Laws of tests and of the numbers below a bound. Assumes nothing.
use Prim.Native.Nat.{ℕ, zero, suc, ◌+◌, ◌≤◌, ◌<◌}
use mathlib.Core.Path.{◌≡◌, refl, sym, ◌∙◌}
use mathlib.Core.Bool.{Bool, true, false, true≢false}
use mathlib.Core.Logic.{◌⊎◌, inl, inr, ⊎_elim}
use native.Mathlib.Nat.{le_of_suc-le-suc, not-suc-le-zero, eq-or-lt_of_le}
use native.Mathlib.Numerals.{add-one}
use native.Mathlib.Omega.{arith}
use lib.Dec.{ltb, eqb}
use borrow.Author.Tests.{ltb-true, ltb-false, eqb-true, eqb-false}
use Rattle.words.specs.Tests.{◌and◌, ◌or◌, ◌if◌else◌, all, any, lowest}

-- ---- cases

pub either : (b : Bool) → (b ≡ true) ⊎ (b ≡ false)
either true = inl refl
either false = inr refl

pub equal? : (a b : ℕ) → (a ≡ b) ⊎ (a ≡ b → ⊥)
equal? a b = ⊎_elim (λ h. inl (eqb-true a b h)) (λ h. inr (eqb-false a b h)) (either (eqb a b))

pub never : {b : Bool} → b ≡ true → b ≡ false → ⊥
never h k = true≢false (sym h ∙ k)

-- where one of two tests that imply each other fails, so does the other
pub fails_too : (x y : Bool) → (y ≡ true → x ≡ true) → x ≡ false → y ≡ false
fails_too x y h e = ⊎_elim (λ (q : y ≡ true). absurd (never (h q) e)) (λ (q : y ≡ false). q) (either y)

pub same_test : (x y : Bool) → (x ≡ true → y ≡ true) → (y ≡ true → x ≡ true) → x ≡ y
same_test x y f g =
    ⊎_elim (λ (q : x ≡ true). q ∙ sym (f q)) (λ (q : x ≡ false). q ∙ sym (fails_too x y g q)) (either x)

-- ---- what joined tests say

pub and_fst : (x y : Bool) → (x and y) ≡ true → x ≡ true
unfolding ◌and◌
and_fst true y h = refl
and_fst false y h = h

pub and_snd : (x y : Bool) → (x and y) ≡ true → y ≡ true
unfolding ◌and◌
and_snd true y h = h
and_snd false y h = absurd (true≢false (sym h))

-- the first of two holds, both do not: the second does not
pub and_rest : (x y : Bool) → x ≡ true → (x and y) ≡ false → y ≡ false
unfolding ◌and◌
and_rest x y e h = rw e at h

pub or_fst : (x y : Bool) → (x or y) ≡ false → x ≡ false
unfolding ◌or◌
or_fst true y h = h
or_fst false y h = refl

pub or_snd : (x y : Bool) → (x or y) ≡ false → y ≡ false
unfolding ◌or◌
or_snd true y h = absurd (true≢false h)
or_snd false y h = h

pub or_so : (x y : Bool) → (x or y) ≡ true → x ≡ false → y ≡ true
unfolding ◌or◌
or_so true y h e = absurd (true≢false e)
or_so false y h e = h

pub or_case : (x y : Bool) → (x ≡ false → y ≡ true) → (x or y) ≡ true
unfolding ◌or◌
or_case true y h = refl
or_case false y h = h refl

pub and_false : (b : Bool) → (b and false) ≡ false
unfolding ◌and◌
and_false true = refl
and_false false = refl

or_true : (b : Bool) → (b or true) ≡ true
unfolding ◌or◌
or_true true = refl
or_true false = refl

or_false : (b : Bool) → (b or false) ≡ b
unfolding ◌or◌
or_false true = refl
or_false false = refl

-- ---- all, any, lowest

module _ (f : ℕ → Bool) where
  pub all_none : all f 0 ≡ true
  unfolding all
  all_none = refl

  pub all_more : (i : ℕ) → all f i ≡ true → f i ≡ true → all f (i + 1) ≡ true
  unfolding all ◌and◌
  all_more i h e = rw (add-one, h, e)

  pub all_fails : (n i : ℕ) → i < n → f i ≡ false → all f n ≡ false
  unfolding all ◌and◌
  all_fails zero i l e = absurd (not-suc-le-zero l)
  all_fails (suc n) i l e =
      ⊎_elim (λ q. rw (← q, e, and_false)) (λ k. rw (all_fails n i k e)) (eq-or-lt_of_le (le_of_suc-le-suc l))

  pub all_at : (n i : ℕ) → all f n ≡ true → i < n → f i ≡ true
  all_at n i h l = ⊎_elim (λ e. e) (λ e. absurd (never h (all_fails n i l e))) (either (f i))

  pub all_make : (n : ℕ) → ((i : ℕ) → i < n → f i ≡ true) → all f n ≡ true
  unfolding all ◌and◌
  all_make zero h = refl
  all_make (suc n) h = rw (all_make n (λ i l. h i (omega arith)), h n (omega arith))

  -- those below c were looked at, and the others are known
  pub all_up : (c n : ℕ) → all f c ≡ true → ((i : ℕ) → c ≤ i → i < n → f i ≡ true) → all f n ≡ true
  all_up c n h g = all_make n (λ i l.
      ⊎_elim (λ (q : ltb i c ≡ true). all_at c i h (ltb-true i c q)) (λ (q : ltb i c ≡ false). g i (ltb-false i c q) l) (either (ltb i c)))

  pub any_none : any f 0 ≡ false
  unfolding any
  any_none = refl

  pub any_skip : (i : ℕ) → f i ≡ false → any f (i + 1) ≡ any f i
  unfolding any
  any_skip i e = rw (add-one, e, or_false)

  pub any_here : (i : ℕ) → f i ≡ true → any f (i + 1) ≡ true
  unfolding any
  any_here i e = rw (add-one, e, or_true)

  pub any_found : (n i : ℕ) → i < n → f i ≡ true → any f n ≡ true
  unfolding any ◌or◌
  any_found zero i l e = absurd (not-suc-le-zero l)
  any_found (suc n) i l e =
      ⊎_elim (λ q. rw (← q, e, or_true)) (λ k. rw (any_found n i k e)) (eq-or-lt_of_le (le_of_suc-le-suc l))

  pub any_at : (n i : ℕ) → any f n ≡ false → i < n → f i ≡ false
  any_at n i h l = ⊎_elim (λ e. absurd (never (any_found n i l e) h)) (λ e. e) (either (f i))

  pub any_never : (n : ℕ) → ((i : ℕ) → i < n → f i ≡ false) → any f n ≡ false
  unfolding any ◌or◌
  any_never zero h = refl
  any_never (suc n) h = rw (any_never n (λ i l. h i (omega arith)), h n (omega arith))

  pub any_some : (n : ℕ) → any f n ≡ true → (i : ℕ) × (i < n) × (f i ≡ true)
  unfolding any ◌or◌
  any_some zero h = absurd (true≢false (sym h))
  any_some (suc n) h =
      ⊎_elim (λ (e : any f n ≡ true). let k = any_some n e in (k.0, omega arith, k.2))
      (λ (e : any f n ≡ false). (n, omega arith, rw e at h)) (either (any f n))

  pub lowest_none : (n : ℕ) → any f n ≡ false → lowest f n ≡ n
  unfolding lowest any ◌or◌ ◌if◌else◌
  lowest_none zero h = refl
  lowest_none (suc n) h =
      ⊎_elim (λ (e : any f n ≡ true). absurd (true≢false (rw e at h)))
      (λ (e : any f n ≡ false). let k = rw e at h in rw (e, k)) (either (any f n))

  pub lowest_found : (n i : ℕ) → i < n → any f i ≡ false → f i ≡ true → lowest f n ≡ i
  unfolding lowest ◌if◌else◌
  lowest_found zero i l h e = absurd (not-suc-le-zero l)
  lowest_found (suc n) i l h e =
      ⊎_elim (λ q. rw (← q, h, e)) (λ k. rw (any_found n i k e, lowest_found n i k h e)) (eq-or-lt_of_le (le_of_suc-le-suc l))

  found_holds : (n : ℕ) → any f n ≡ true → f (lowest f n) ≡ true
  unfolding lowest any ◌or◌ ◌if◌else◌
  found_holds zero h = absurd (true≢false (sym h))
  found_holds (suc n) h =
      ⊎_elim (λ (e : any f n ≡ true). rw e (found_holds n e))
      (λ (e : any f n ≡ false). let k = rw e at h in rw (e, k) k) (either (any f n))

  pub lowest_holds : (n : ℕ) → lowest f n < n → f (lowest f n) ≡ true
  lowest_holds n h = ⊎_elim (λ e. found_holds n e) (λ e. absurd (let k = lowest_none n e in omega arith)) (either (any f n))

  pub lowest_within : (n : ℕ) → lowest f n ≤ n
  unfolding lowest ◌if◌else◌
  lowest_within zero = omega arith
  lowest_within (suc n) =
      ⊎_elim (λ (e : any f n ≡ true). rw e (let k = lowest_within n in omega arith))
      (λ (e : any f n ≡ false).
      rw e (⊎_elim (λ (d : f n ≡ true). rw d (omega arith)) (λ (d : f n ≡ false). rw d (omega arith)) (either (f n))))
      (either (any f n))

  pub lowest_below : (n : ℕ) → any f n ≡ true → lowest f n < n
  unfolding lowest any ◌or◌ ◌if◌else◌
  lowest_below zero h = absurd (true≢false (sym h))
  lowest_below (suc n) h =
      ⊎_elim (λ (e : any f n ≡ true). rw e (let k = lowest_below n e in omega arith))
      (λ (e : any f n ≡ false). let k = rw e at h in rw (e, k) (omega arith)) (either (any f n))

  -- nothing before it
  pub lowest_least : (n i : ℕ) → i < lowest f n → f i ≡ false
  unfolding lowest ◌if◌else◌
  lowest_least zero i l = absurd (not-suc-le-zero l)
  lowest_least (suc n) i l =
      ⊎_elim (λ (e : any f n ≡ true). lowest_least n i (rw e at l))
      (λ (e : any f n ≡ false).
      ⊎_elim (λ (d : f n ≡ true). any_at n i e (let m : i < n = rw (e, d) at l in m))
      (λ (d : f n ≡ false). let m : i < suc n = rw (e, d) at l in ⊎_elim (λ q. rw q d) (λ k. any_at n i e k) (eq-or-lt_of_le (le_of_suc-le-suc m)))
      (either (f n)))
      (either (any f n))

  -- nothing found
  pub lowest_over : (n i : ℕ) → n ≤ lowest f n → i < n → f i ≡ false
  lowest_over n i h l =
      any_at n i (⊎_elim (λ e. absurd (let k = lowest_below n e in omega arith)) (λ e. e) (either (any f n))) l

-- ---- two tests that agree

module _ (f g : ℕ → Bool) where
  pub all_ext : (n : ℕ) → ((i : ℕ) → i < n → f i ≡ g i) → all f n ≡ all g n
  unfolding all
  all_ext zero h = refl
  all_ext (suc n) h = rw (all_ext n (λ i l. h i (omega arith)), h n (omega arith))

  pub any_ext : (n : ℕ) → ((i : ℕ) → i < n → f i ≡ g i) → any f n ≡ any g n
  unfolding any
  any_ext zero h = refl
  any_ext (suc n) h = rw (any_ext n (λ i l. h i (omega arith)), h n (omega arith))

  pub lowest_ext : (n : ℕ) → ((i : ℕ) → i < n → f i ≡ g i) → lowest f n ≡ lowest g n
  unfolding lowest
  lowest_ext zero h = refl
  lowest_ext (suc n) h =
      rw (lowest_ext n (λ i l. h i (omega arith)), any_ext n (λ i l. h i (omega arith)), h n (omega arith))
