-- Laws of hints that are never too high: what is below one has another slot, hence is another thing. Assumes nothing.
use Prim.Native.Nat.{ℕ, ◌+◌, ◌≤◌, ◌<◌}
use mathlib.Core.Path.{◌≡◌, refl, ◌∙◌}
use mathlib.Core.Bool.{Bool, true, false}
use mathlib.Core.List.{List}
use mathlib.Core.Logic.{⊎_elim}
use native.Mathlib.Omega.{arith}
use lib.ListN.{length, get_or, set, replicate, length-set, length-replicate}
use lib.Seq.{get_or-set_same, get_or-set_other}
use lib.Dec.{ltb}
use borrow.Author.Rules.{rules}
use borrow.Author.Tests.{ltb-true, ltb-false}
use Rattle.words.specs.Tests.{any}
use Rattle.words.specs.Hints.{Hints, Noted}
use Rattle.words.proofs.Tests.{either, equal?, never, fails_too, any_never}
use Rattle.words.proofs.Bytes.{past_end}

-- ---- noting a number

pub noted_kept : (h e : ℕ) (hints : List ℕ) → get_or hints h 0 ≤ e → Noted h e hints hints
noted_kept h e hints l = record { long = refl; here = l; lower = λ x. omega arith }

inside : (xs : List ℕ) (h e : ℕ) → e < get_or xs h 0 → h < length xs
inside xs h e l =
    ⊎_elim (λ (q : ltb h (length xs) ≡ true). ltb-true _ _ q)
    (λ (q : ltb h (length xs) ≡ false). let z = past_end xs (length xs) h refl (ltb-false _ _ q) in absurd (omega arith)) (either (ltb h (length xs)))

pub noted_new : (h e : ℕ) (hints : List ℕ) → e < get_or hints h 0 → Noted h e hints (set hints h e)
noted_new h e hints l =
    let here : get_or (set hints h e) h 0 ≡ e = get_or-set_same hints h e 0 (inside hints h e l) in
    record {
      long = length-set hints h e;
      here = omega arith;
      lower = λ x.
          ⊎_elim (λ (q : x ≡ h). rw q (let z = here in omega arith))
          (λ (q : x ≡ h → ⊥). let z : get_or (set hints h e) x 0 ≡ get_or hints x 0 = get_or-set_other hints h x e 0 q in omega arith) (equal? x h);
    }

pub ruleset noting-hints = (rules, noted_kept, noted_new)

-- ---- keeping the hints over a walk

module _ (slot : ℕ → ℕ) (counts : ℕ → Bool) where
  pub hints_none : (v : ℕ) → Hints slot counts 0 (replicate 256 v)
  hints_none v = record { long = length-replicate {A = ℕ} 256 v; floor = λ d m u. absurd (omega arith) }

  pub hints_skip : (e : ℕ) (hints : List ℕ) → Hints slot counts e hints → counts e ≡ false → Hints slot counts (e + 1) hints
  hints_skip e hints k h = record {
    long = k.long;
    floor = λ d m u.
        ⊎_elim (λ (q : d ≡ e). absurd (never (rw q at u) h)) (λ (q : d ≡ e → ⊥). k.floor d (omega (arith, q)) u) (equal? d e);
  }

  pub hints_more : (e h : ℕ) (hints after : List ℕ) → Hints slot counts e hints → h ≡ slot e → Noted h e hints after → Hints slot counts (e + 1) after
  hints_more e h hints after k is w = record {
    long = w.long ∙ k.long;
    floor = λ d m u.
        ⊎_elim (λ (q : d ≡ e). let z : get_or after h 0 ≤ e = w.here in rw (q, ← is) z)
        (λ (q : d ≡ e → ⊥).
        let a : get_or after (slot d) 0 ≤ get_or hints (slot d) 0 = w.lower (slot d) in
        let b : get_or hints (slot d) 0 ≤ d = k.floor d (omega (arith, q)) u in
        omega arith)
        (equal? d e);
  }

  -- ---- looking

  -- what passes counts and has slot h: nothing below the hint of h passes
  pub hints_below : (f : ℕ → Bool) (n h r : ℕ) (hints : List ℕ) → Hints slot counts n hints → r ≤ n → r ≤ get_or hints h 0
      → ((d : ℕ) → f d ≡ true → (counts d ≡ true) × (slot d ≡ h)) → any f r ≡ false
  hints_below f n h r hints k l m only =
      any_never f r
      (λ d b.
      fails_too false (f d)
      (λ y.
      let p = only d y in
      let z : get_or hints (slot d) 0 ≤ d = k.floor d (omega arith) p.0 in
      let w : get_or hints h 0 ≤ d = rw p.1 at z in
      absurd (omega arith))
      refl)
