-- Laws of the numbers that pass a test: how many they are, where each stands, and what a rule makes of them. Assumes nothing.
use Prim.Native.Nat.{ℕ, zero, suc, ◌+◌, ◌*◌, ◌≤◌, ◌<◌}
use mathlib.Core.Path.{◌≡◌, refl, sym, ap, ◌∙◌}
use mathlib.Core.Bool.{Bool, true, false}
use mathlib.Core.List.{List, [], ◌∷◌, ◌++◌, append-nil}
use mathlib.Core.Logic.{⊎_elim}
use native.Mathlib.Nat.{le_of_suc-le-suc, not-suc-le-zero, eq-or-lt_of_le}
use native.Mathlib.Omega.{arith}
use lib.ListN.{length, get_or, length-append, get_or-append}
use lib.Seq.{get_or-append_seam}
use lib.Dec.{ltb}
use borrow.Author.Tests.{ltb-true, ltb-false}
use Rattle.words.specs.Tests.{◌if◌else◌, count}
use Rattle.words.specs.Lists.{flat, passing}
use Rattle.words.proofs.Tests.{either, equal?}
use Rattle.words.proofs.Lists.{flat_append, flat_one, length-flat}
use Rattle.words.proofs.Counts.{count_yes, count_not, count_below}

module _ (f : ℕ → Bool) where
  -- one more that passes, ..
  pub passing_yes : (n : ℕ) → f n ≡ true → passing f (suc n) ≡ passing f n ++ (n ∷ [])
  unfolding passing ◌if◌else◌
  passing_yes n h = rw h refl

  -- .. one that does not, ..
  pub passing-not : (n : ℕ) → f n ≡ false → passing f (suc n) ≡ passing f n
  unfolding passing ◌if◌else◌
  passing-not n h = rw h (append-nil (passing f n))

  -- .. and none of those from c on
  pub passing_up : (c n : ℕ) → c ≤ n → ((i : ℕ) → c ≤ i → i < n → f i ≡ false) → passing f n ≡ passing f c
  passing_up c zero m h = let e : c ≡ 0 = omega arith in rw e refl
  passing_up c (suc n) m h =
      ⊎_elim (λ (e : c ≡ suc n). rw e refl)
      (λ (e : c ≡ suc n → ⊥). passing-not n (h n (omega arith) (omega arith)) ∙ passing_up c n (omega arith) (λ i a b. h i a (omega arith))) (equal? c (suc n))

  -- as many as are counted
  pub passing_long : (n : ℕ) → length (passing f n) ≡ count f n
  unfolding passing count
  passing_long zero = refl
  passing_long (suc n) =
      ⊎_elim
      (λ (h : f n ≡ true).
      ap length (passing_yes n h) ∙ length-append (passing f n) (n ∷ []) ∙ ap (λ (k : ℕ). k + 1) (passing_long n) ∙ sym (count_yes f n h))
      (λ (h : f n ≡ false). ap length (passing-not n h) ∙ passing_long n ∙ sym (count_not f n h)) (either (f n))

  -- one that passes stands at its count
  pub passing_at : (n i d : ℕ) → i < n → f i ≡ true → get_or (passing f n) (count f i) d ≡ i
  unfolding passing
  passing_at zero i d l h = absurd (not-suc-le-zero l)
  passing_at (suc n) i d l h =
      ⊎_elim
      (λ (q : i ≡ n).
      let w : f n ≡ true = ap f (sym q) ∙ h in
      let p : count f i ≡ length (passing f n) = ap (count f) q ∙ sym (passing_long n) in
      ap (λ (m : List ℕ). get_or m (count f i) d) (passing_yes n w) ∙ ap (λ (k : ℕ). get_or (passing f n ++ (n ∷ [])) k d) p
      ∙ get_or-append_seam (passing f n) n [] d ∙ sym q)
      (λ (k : i < n).
      let c = count_below f i n k h in
      let b : count f i < length (passing f n) = omega (arith, passing_long n) in
      get_or-append (passing f n) (n ∷ [] if f n else []) d (count f i) b ∙ passing_at n i d k h)
      (eq-or-lt_of_le (le_of_suc-le-suc l))

  -- i is number j of those below n that pass
  pub record Nth (n j i : ℕ) : Type 0 where
    pub below : i < n
    pub passes : f i ≡ true
    pub counted : count f i ≡ j

  -- what stands in the list
  pub passing_is : (n j d : ℕ) → j < count f n → Nth n j (get_or (passing f n) j d)
  unfolding passing
  passing_is zero j d l = unfold count in absurd (not-suc-le-zero l)
  passing_is (suc n) j d l =
      ⊎_elim
      (λ (c : ltb j (count f n) ≡ true).
      let m = ltb-true j (count f n) c in
      let b : j < length (passing f n) = omega (arith, passing_long n) in
      let w = passing_is n j d m in
      let z = w.below in
      rw (get_or-append (passing f n) (n ∷ [] if f n else []) d j b) (record { below = omega arith; passes = w.passes; counted = w.counted }))
      (λ (c : ltb j (count f n) ≡ false).
      let m = ltb-false j (count f n) c in
      ⊎_elim
      (λ (h : f n ≡ true).
      let q = count_yes f n h in
      let p : j ≡ length (passing f n) = omega (arith, passing_long n) in
      let z : get_or (passing f (suc n)) j d ≡ n =
      ap (λ (m : List ℕ). get_or m j d) (passing_yes n h) ∙ ap (λ (k : ℕ). get_or (passing f n ++ (n ∷ [])) k d) p ∙ get_or-append_seam (passing f n) n [] d in
      rw z (record { below = omega arith; passes = h; counted = omega arith }))
      (λ (h : f n ≡ false). let q = count_not f n h in absurd (omega arith)) (either (f n)))
      (either (ltb j (count f n)))

-- two tests that agree pass the same
pub passing_ext : (f g : ℕ → Bool) (n : ℕ) → ((i : ℕ) → i < n → f i ≡ g i) → passing f n ≡ passing g n
unfolding passing
passing_ext f g zero h = refl
passing_ext f g (suc n) h = rw (passing_ext f g n (λ i l. h i (omega arith)), h n (omega arith))

-- ---- the first of them, and the rest

-- none passes
pub passing_none : (f : ℕ → Bool) (n : ℕ) → ((i : ℕ) → i < n → f i ≡ false) → passing f n ≡ []
unfolding passing
passing_none f n h = passing_up f 0 n (omega arith) (λ i l m. h i m)

-- m is the first that passes f; g passes those after it
pub passing_first : (f g : ℕ → Bool) (m n : ℕ) → m < n → f m ≡ true → ((i : ℕ) → i < m → f i ≡ false)
    → ((i : ℕ) → i ≤ m → g i ≡ false) → ((i : ℕ) → m < i → g i ≡ f i) → passing f n ≡ m ∷ passing g n
passing_first f g m zero l it low none rest = absurd (not-suc-le-zero l)
passing_first f g m (suc n) l it low none rest =
    ⊎_elim
    (λ (q : m ≡ n).
    let w : passing f n ≡ [] = passing_none f n (λ i k. low i (omega arith)) in
    passing_yes f n (rw (← q) it) ∙ ap (λ (xs : List ℕ). xs ++ (n ∷ [])) w ∙ ap (λ (x : ℕ). x ∷ []) (sym q)
    ∙ ap (λ (xs : List ℕ). m ∷ xs) (sym (passing_none g (suc n) (λ i k. none i (omega arith)))))
    (λ (k : m < n).
    let w = passing_first f g m n k it low none rest in
    ⊎_elim
    (λ (h : f n ≡ true). passing_yes f n h ∙ ap (λ (xs : List ℕ). xs ++ (n ∷ [])) w ∙ ap (λ (xs : List ℕ). m ∷ xs) (sym (passing_yes g n (rest n k ∙ h))))
    (λ (h : f n ≡ false). passing-not f n h ∙ w ∙ ap (λ (xs : List ℕ). m ∷ xs) (sym (passing-not g n (rest n k ∙ h)))) (either (f n)))
    (eq-or-lt_of_le (le_of_suc-le-suc l))

-- ---- what a rule makes of them, one after the other

module _ (g : ℕ → List ℕ) (f : ℕ → Bool) where
  pub flat_yes : (n : ℕ) → f n ≡ true → flat g (passing f (suc n)) ≡ flat g (passing f n) ++ g n
  flat_yes n h =
      ap (flat g) (passing_yes f n h) ∙ flat_append g (passing f n) (n ∷ []) ∙ ap (λ (x : List ℕ). flat g (passing f n) ++ x) (flat_one g n)

  -- of w bytes each
  pub passing_size : (w : ℕ) → ((i : ℕ) → length (g i) ≡ w) → (n : ℕ) → length (flat g (passing f n)) ≡ w * count f n
  passing_size w each n = length-flat g w each (passing f n) ∙ ap (λ (k : ℕ). w * k) (passing_long f n)
