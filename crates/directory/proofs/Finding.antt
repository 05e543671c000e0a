-- What a search over a range of numbers has found, said by `any` and `lowest`. Assumes nothing.
use Rattle.std.proofs.Common.{◌≡◌, ℕ, zero, suc, ◌+◌, ◌<◌, ◌≤◌, Bool, true, false, Option, None, Some, get_or, refl, sym, ap, ◌∙◌, arith, ⊎_elim}
use Rattle.std.specs.Option.{MatchOption, unwrap_or}
use Rattle.std.specs.List.{list_any, range_with_len}
use Rattle.std.proofs.lemmas.Bool.{cases_lt}
use Rattle.std.proofs.lemmas.List.Folds.{list_any_at}
use Rattle.std.proofs.lemmas.List.FromFn.{length-range_with_len, get_or-range_with_len}
use Rattle.words.specs.Tests.{any, lowest}
use Rattle.words.proofs.Tests.{either, any_at, any_never, any_some, lowest_none, lowest_found, lowest_within}

-- what `find` over a .. n - 1 answers, where the test is f
abbrev pub Finds : (ℕ → Bool) → ℕ → ℕ → Option ℕ → Type 0
Finds f a n r = MatchOption r ((k : ℕ) → a ≤ k → k < n → f k ≡ false)
    (λ i. (a ≤ i) × (i < n) × (f i ≡ true) × ((k : ℕ) → a ≤ k → k < i → f k ≡ false))

module _ (f : ℕ → Bool) (a n : ℕ) (before : any f a ≡ false) where
  none_below : (k : ℕ) → ((i : ℕ) → a ≤ i → i < k → f i ≡ false) → any f k ≡ false
  none_below k h = any_never f k (λ i l. ⊎_elim (λ (b : i < a). any_at f a i before b) (λ (b : a ≤ i). h i b l) (cases_lt i a))

  -- that number, or n where there is none, is the lowest below n; none below a passes
  pub lowest-find : (r : Option ℕ) → Finds f a n r → unwrap_or r n ≡ lowest f n
  lowest-find None h = sym (lowest_none f n (none_below n h))
  lowest-find (Some i) h = sym (lowest_found f n i h.1 (none_below i h.3) h.2)

  -- .. the bound being what a callee answered
  pub lowest_by_find : (m x : ℕ) (r : Option ℕ) → n ≡ m → x ≡ unwrap_or r n → Finds f a n r → (x ≡ lowest f m) × (x ≤ m)
  lowest_by_find m x r q e h =
      let z : x ≡ lowest f m = e ∙ lowest-find r h ∙ ap (lowest f) q in
      (z, let w = lowest_within f m in omega arith)

module _ (f : ℕ → Bool) where
  none_of : (a n : ℕ) → ((k : ℕ) → a ≤ k → k < a + n → f k ≡ false) → list_any f (range_with_len a n) ≡ false
  none_of a zero h = refl
  none_of a (suc n) h = rw (h a (omega arith) (omega arith)) (none_of (a + 1) n (λ k l m. h k (omega arith) (omega arith)))

  -- what `any` over 0 .. n - 1 answers
  pub list_any-range : (n : ℕ) → list_any f (range_with_len 0 n) ≡ any f n
  list_any-range n =
      ⊎_elim
      (λ (e : any f n ≡ true).
      let i = any_some f n e in
      let z : get_or (range_with_len 0 n) i.0 0 ≡ i.0 = get_or-range_with_len 0 n i.0 0 i.1 ∙ omega arith in
      list_any_at f (range_with_len 0 n) i.0 0 (rw (length-range_with_len 0 n) i.1) (ap f z ∙ i.2) ∙ sym e)
      (λ (e : any f n ≡ false). none_of 0 n (λ k l m. any_at f n k e (omega arith)) ∙ sym e)
      (either (any f n))
