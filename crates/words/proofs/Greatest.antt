-- The greatest of some numbers, and the first of those that have it: laws of a walk that keeps both. Assumes nothing.
use Prim.Native.Nat.{ℕ, zero, suc, ◌+◌, ◌≤◌, ◌<◌}
use mathlib.Core.Path.{◌≡◌, refl, ◌∙◌}
use mathlib.Core.Bool.{Bool, true, false}
use mathlib.Core.Logic.{⊎_elim}
use native.Mathlib.Omega.{arith}
use native.Mathlib.Numerals.{add-one}
use lib.Dec.{ltb, eqb}
use borrow.Author.Tests.{ltb-true, ltb-false, lt-ltb, le-ltb, eq-eqb, ne_eqb}
use Rattle.words.specs.Tests.{◌and◌, ◌or◌, ◌if◌else◌, any, lowest, greatest, lowest_or}
use Rattle.words.proofs.Tests.{either, never, equal?, and_fst, any_none, any_here, any_found, any_at, any_never}
use Rattle.words.proofs.Tests.{lowest_none, lowest_found, lowest_below}

-- ---- the lowest, or another number

module _ (f : ℕ → Bool) (none : ℕ) where
  pub or_none : lowest_or f 0 none ≡ none
  unfolding lowest_or any ◌if◌else◌
  or_none = refl

  -- one more that does not pass
  pub or_skip : (e : ℕ) → f e ≡ false → lowest_or f (e + 1) none ≡ lowest_or f e none
  unfolding lowest_or lowest any ◌if◌else◌ ◌or◌
  or_skip e h =
      ⊎_elim (λ (q : any f e ≡ true). rw (add-one, q, h) refl) (λ (q : any f e ≡ false). rw (add-one, q, h) refl) (either (any f e))

  -- one was found before
  pub or_kept : (e : ℕ) → lowest_or f e none < none → lowest_or f (e + 1) none ≡ lowest_or f e none
  unfolding lowest_or lowest any ◌if◌else◌ ◌or◌
  or_kept e h =
      ⊎_elim (λ (q : any f e ≡ true). rw (add-one, q) refl)
      (λ (q : any f e ≡ false). let z : none < none = rw q at h in absurd (omega arith)) (either (any f e))

  pub or_any : (e : ℕ) → none ≤ lowest_or f e none → e ≤ none → any f e ≡ false
  unfolding lowest_or ◌if◌else◌
  or_any e h m =
      ⊎_elim
      (λ (q : any f e ≡ true). let z : none ≤ lowest f e = rw q at h in let l = lowest_below f e q in absurd (omega arith))
      (λ (q : any f e ≡ false). q) (either (any f e))

  -- the first that is found
  pub or_found : (e : ℕ) → any f e ≡ false → f e ≡ true → lowest_or f (e + 1) none ≡ e
  unfolding lowest_or ◌if◌else◌
  or_found e h k = rw (any_here f e k, lowest_found f (e + 1) e (omega arith) h k) refl

  pub or_within : (e : ℕ) → e ≤ none → lowest_or f e none ≤ none
  unfolding lowest_or ◌if◌else◌
  or_within e m =
      ⊎_elim (λ (q : any f e ≡ true). rw q (let l = lowest_below f e q in omega arith))
      (λ (q : any f e ≡ false). rw q (omega arith)) (either (any f e))

-- at the end: where there is none, the bound
pub or_ends : (f : ℕ → Bool) (n : ℕ) → lowest_or f n n ≡ lowest f n
unfolding lowest_or ◌if◌else◌
or_ends f n =
    ⊎_elim (λ (q : any f n ≡ true). rw q refl) (λ (q : any f n ≡ false). rw (q, lowest_none f n q) refl) (either (any f n))

-- ---- the greatest

module _ (t : ℕ → Bool) (g : ℕ → ℕ) where
  pub greatest_skip : (e : ℕ) → t e ≡ false → greatest t g (e + 1) ≡ greatest t g e
  unfolding greatest ◌and◌ ◌if◌else◌
  greatest_skip e h = rw (add-one, h) refl

  pub greatest_kept : (e : ℕ) → g e ≤ greatest t g e → greatest t g (e + 1) ≡ greatest t g e
  unfolding greatest ◌and◌ ◌if◌else◌
  greatest_kept e h =
      ⊎_elim (λ (q : t e ≡ true). rw (add-one, q, le-ltb _ _ h) refl) (λ (q : t e ≡ false). rw (add-one, q) refl) (either (t e))

  pub greatest_new : (e : ℕ) → t e ≡ true → greatest t g e < g e → greatest t g (e + 1) ≡ g e
  unfolding greatest ◌and◌ ◌if◌else◌
  greatest_new e h l = rw (add-one, h, lt-ltb _ _ l) refl

  greatest_rises : (n : ℕ) → greatest t g n ≤ greatest t g (suc n)
  greatest_rises n = rw (← add-one) (⊎_elim
      (λ (q : t n ≡ true).
      ⊎_elim (λ (d : ltb (greatest t g n) (g n) ≡ true).
      let l = ltb-true _ _ d in rw (greatest_new n q l) (omega arith))
      (λ (d : ltb (greatest t g n) (g n) ≡ false). rw (greatest_kept n (ltb-false _ _ d)) (omega arith)) (either (ltb (greatest t g n) (g n))))
      (λ (q : t n ≡ false). rw (greatest_skip n q) (omega arith)) (either (t n)))

  -- none that passes has more
  pub greatest_most : (n k : ℕ) → k < n → t k ≡ true → g k ≤ greatest t g n
  greatest_most zero k l h = absurd (omega arith)
  greatest_most (suc n) k l h =
      ⊎_elim
      (λ (q : k ≡ n). ⊎_elim
      (λ (d : ltb (greatest t g n) (g n) ≡ true).
      let z : greatest t g (suc n) ≡ g n = rw (← add-one) (greatest_new n (rw q at h) (ltb-true _ _ d)) in rw q (omega arith))
      (λ (d : ltb (greatest t g n) (g n) ≡ false). let m : g n ≤ greatest t g n = ltb-false _ _ d in let r = greatest_rises n in rw q (omega (arith, m, r)))
      (either (ltb (greatest t g n) (g n))))
      (λ (q : k ≡ n → ⊥). let r = greatest_rises n in let m = greatest_most n k (omega (arith, q)) h in omega arith) (equal? k n)

  -- where none passes it is 0
  pub greatest_none : (n : ℕ) → any t n ≡ false → greatest t g n ≡ 0
  unfolding greatest ◌and◌ ◌if◌else◌
  greatest_none zero h = refl
  greatest_none (suc n) h =
      rw (any_at t (suc n) n h (omega arith)) (greatest_none n (any_never t n (λ i l. any_at t (suc n) i h (omega arith))))

  -- where some passes, one has it
  pub greatest_had : (n : ℕ) → any t n ≡ true → (k : ℕ) × (k < n) × (t k ≡ true) × (g k ≡ greatest t g n)
  unfolding greatest any ◌and◌ ◌or◌ ◌if◌else◌
  greatest_had zero h = absurd (never h (any_none t))
  greatest_had (suc n) h =
      ⊎_elim
      (λ (q : (t n and ltb (greatest t g n) (g n)) ≡ true). (n, omega arith, and_fst _ _ q, rw q refl))
      (λ (q : (t n and ltb (greatest t g n) (g n)) ≡ false).
      ⊎_elim
      (λ (d : any t n ≡ true). let k = greatest_had n d in (k.0, omega arith, k.2, rw q k.3))
      (λ (d : any t n ≡ false).
      let u : t n ≡ true = rw d at h in
      let z : greatest t g n ≡ 0 = greatest_none n d in
      let low : g n ≤ greatest t g n = ltb-false _ _ (let w = rw u at q in w) in
      (n, omega arith, u, rw q (omega arith)))
      (either (any t n)))
      (either (t n and ltb (greatest t g n) (g n)))

-- two tests and two measures that agree
pub greatest_ext : (t u : ℕ → Bool) (g h : ℕ → ℕ) (n : ℕ) → ((i : ℕ) → i < n → t i ≡ u i) → ((i : ℕ) → i < n → t i ≡ true → g i ≡ h i)
    → greatest t g n ≡ greatest u h n
unfolding greatest ◌and◌ ◌if◌else◌
greatest_ext t u g h zero a b = refl
greatest_ext t u g h (suc n) a b =
    let k = greatest_ext t u g h n (λ i l. a i (omega arith)) (λ i l. b i (omega arith)) in
    ⊎_elim (λ (q : t n ≡ true). rw (← a n (omega arith), q, k, b n (omega arith) q) refl)
    (λ (q : t n ≡ false). rw (← a n (omega arith), q, k) refl) (either (t n))

-- ---- a walk that keeps the greatest and the first that has it: `is x` holds where one passes and has x

module _ (t : ℕ → Bool) (g : ℕ → ℕ) (is : ℕ → ℕ → Bool) (says : (x e : ℕ) → is x e ≡ (t e and eqb (g e) x)) where
  pub is_not : (x e : ℕ) → t e ≡ false → is x e ≡ false
  unfolding ◌and◌
  is_not x e h = says x e ∙ rw h refl

  pub is_other : (x e : ℕ) → (g e ≡ x → ⊥) → is x e ≡ false
  unfolding ◌and◌
  is_other x e h =
      says x e ∙ ⊎_elim (λ (q : t e ≡ true). rw (q, ne_eqb _ _ h) refl) (λ (q : t e ≡ false). rw q refl) (either (t e))

  pub is_so : (x e : ℕ) → t e ≡ true → g e ≡ x → is x e ≡ true
  unfolding ◌and◌
  is_so x e h k = says x e ∙ rw (h, eq-eqb _ _ k) refl

  -- nobody has more than the greatest
  over : (x n : ℕ) → greatest t g n < x → any (is x) n ≡ false
  over x n h =
      any_never (is x) n (λ i l.
      ⊎_elim (λ (q : t i ≡ true). is_other x i (λ (z : g i ≡ x). let m = greatest_most t g n i l q in absurd (omega arith)))
      (λ (q : t i ≡ false). is_not x i q) (either (t i)))

  -- where nobody has the greatest, nobody passes
  nobody : (n : ℕ) → any (is (greatest t g n)) n ≡ false → any t n ≡ false
  nobody n h =
      ⊎_elim
      (λ (q : any t n ≡ true).
      let k = greatest_had t g n q in absurd (never (any_found (is (greatest t g n)) n k.0 k.1 (is_so _ k.0 k.2 k.3)) h))
      (λ (q : any t n ≡ false). q) (either (any t n))

  -- the first that has the greatest: one more that does not pass, ..
  pub first_skip : (none e : ℕ) → t e ≡ false
      → lowest_or (is (greatest t g (e + 1))) (e + 1) none ≡ lowest_or (is (greatest t g e)) e none
  first_skip none e h = rw (greatest_skip t g e h) (or_skip (is (greatest t g e)) none e (is_not _ e h))

  -- .. one that has no more, where one was found, ..
  pub first_kept : (none e : ℕ) → lowest_or (is (greatest t g e)) e none < none → g e ≤ greatest t g e
      → lowest_or (is (greatest t g (e + 1))) (e + 1) none ≡ lowest_or (is (greatest t g e)) e none
  first_kept none e h l = rw (greatest_kept t g e l) (or_kept (is (greatest t g e)) none e h)

  -- .. one that has more, ..
  pub first_more : (none e : ℕ) → t e ≡ true → greatest t g e < g e → lowest_or (is (greatest t g (e + 1))) (e + 1) none ≡ e
  first_more none e h l = rw (greatest_new t g e h l) (or_found (is (g e)) none e (over (g e) e l) (is_so _ e h refl))

  -- .. and the first that passes: it has the greatest
  pub greatest_first : (none e : ℕ) → t e ≡ true → none ≤ lowest_or (is (greatest t g e)) e none → e ≤ none → greatest t g (e + 1) ≡ g e
  greatest_first none e h m l =
      let z : greatest t g e ≡ 0 = greatest_none t g e (nobody e (or_any (is (greatest t g e)) none e m l)) in
      ⊎_elim (λ (q : ltb (greatest t g e) (g e) ≡ true). greatest_new t g e h (ltb-true _ _ q))
      (λ (q : ltb (greatest t g e) (g e) ≡ false). let w = ltb-false _ _ q in greatest_kept t g e w ∙ omega arith)
      (either (ltb (greatest t g e) (g e)))

  pub first_first : (none e : ℕ) → t e ≡ true → none ≤ lowest_or (is (greatest t g e)) e none → e ≤ none
      → lowest_or (is (greatest t g (e + 1))) (e + 1) none ≡ e
  first_first none e h m l =
      rw (greatest_first none e h m l) (or_found (is (g e)) none e
      (any_never (is (g e)) e (λ i k. is_not _ i (any_at t e i (nobody e (or_any (is (greatest t g e)) none e m l)) k))) (is_so _ e h refl))
