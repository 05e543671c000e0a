-- What `array::from_fn` makes is the table of what the closure gives. Assumes nothing.
use Rattle.std.proofs.Common.{◌≡◌, ℕ, zero, suc, ◌+◌, ◌≤◌, ◌<◌, List, get_or, sym, subst, ◌∙◌, ⊎_elim, arith}
use Rattle.std.specs.Array.{IsFromFnResult, IsFromFnResultFrom}
use Rattle.std.specs.Fn.{Called, Mut}
use Rattle.std.proofs.lemmas.Bool.{cases_eq}
use Rattle.words.specs.Lists.{tab}
use Rattle.words.proofs.Lists.{tab_ext, tab_get_d}

module _ {F : Type 0} {g : Mut F (ℕ × Unit {0}) ℕ} {f : F} (h : ℕ → ℕ) (pure : (x y : ℕ) (q : F) → Called g f (x, tt) y q → (q ≡ f) × (y ≡ h x)) where
  made_at : (i n k : ℕ) (ys : List ℕ) → IsFromFnResultFrom g f ys i n → i ≤ k → k < i + n → get_or ys k 0 ≡ h k
  made_at i zero k ys w l m = absurd (omega arith)
  made_at i (suc n) k ys w l m =
      let s = pure i w.1 w.0 w.3 in
      ⊎_elim
      (λ (z : k ≡ i). rw z (w.2.1 0 ∙ s.1))
      (λ (z : k ≡ i → ⊥). made_at (i + 1) n k ys (subst (λ (q : F). IsFromFnResultFrom g q ys (i + 1) n) s.0 w.4) (omega arith) (omega arith))
      (cases_eq k i)

  pub tab_made : (n : ℕ) (ys : List ℕ) → IsFromFnResult g f ys n → ys ≡ tab h n
  tab_made n ys w = sym (tab_get_d ys 0 n w.long) ∙ tab_ext (λ (k : ℕ). get_or ys k 0) h n (λ k l. made_at 0 n k ys w.each (omega arith) (omega arith))
