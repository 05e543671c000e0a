-- Laws of tallies: how many of a list pass a test. Assumes nothing.
use Prim.Native.Nat.{◌≤◌}
use mathlib.Core.Path.{◌≡◌, refl}
use mathlib.Core.Bool.{Bool, true, false, not}
use mathlib.Core.List.{List, [], ◌∷◌, map}
use mathlib.Core.Logic.{⊎_elim}
use native.Mathlib.Omega.{arith}
use lib.ListN.{length}
use Rattle.words.specs.Tests.{◌and◌, ◌if◌else◌}
use Rattle.words.proofs.Tests.{either}
use Rattle.words.specs.Lists.{tally, without}

module _ {A : Type 0} where
  -- a test that only passes where another does counts no more; ..
  pub tally_less : (f g : A → Bool) (xs : List A) → ((x : A) → f x ≡ true → g x ≡ true) → tally f xs ≤ tally g xs
  unfolding tally ◌if◌else◌
  tally_less f g [] h = omega arith
  tally_less f g (x ∷ xs) h =
      let k = tally_less f g xs h in
      ⊎_elim (λ (q : f x ≡ true). rw (q, h x q) (omega arith)) (λ (q : f x ≡ false). rw q (omega arith)) (either (f x))

  -- .. of a list without some it counts those that pass and are none of these; ..
  pub tally-without : (f away : A → Bool) (xs : List A) → tally f (without away xs) ≡ tally (λ (x : A). f x and not (away x)) xs
  unfolding tally without ◌if◌else◌ ◌and◌
  tally-without f away [] = refl
  tally-without f away (x ∷ xs) =
      let k = tally-without f away xs in
      ⊎_elim
      (λ (q : away x ≡ true). ⊎_elim (λ (e : f x ≡ true). rw (q, e) (omega arith)) (λ (e : f x ≡ false). rw (q, e) (omega arith)) (either (f x)))
      (λ (q : away x ≡ false). ⊎_elim (λ (e : f x ≡ true). rw (q, e) (omega arith)) (λ (e : f x ≡ false). rw (q, e) (omega arith)) (either (f x)))
      (either (away x))

  -- .. of a changed list it counts what passes when changed; ..
  pub tally-map : (f : A → Bool) (c : A → A) (xs : List A) → tally f (map c xs) ≡ tally (λ (x : A). f (c x)) xs
  unfolding tally
  tally-map f c [] = refl
  tally-map f c (x ∷ xs) = rw (tally-map f c xs) refl

  -- .. one that all pass counts all, ..
  pub tally-all : (f : A → Bool) (xs : List A) → ((x : A) → f x ≡ true) → tally f xs ≡ length xs
  unfolding tally ◌if◌else◌
  tally-all f [] h = refl
  tally-all f (x ∷ xs) h = let k = tally-all f xs h in rw (h x) (omega arith)

  -- .. one that none passes none
  pub tally_none : (f : A → Bool) (xs : List A) → ((x : A) → f x ≡ false) → tally f xs ≡ 0
  unfolding tally ◌if◌else◌
  tally_none f [] h = refl
  tally_none f (x ∷ xs) h = let k = tally_none f xs h in rw (h x) (omega arith)
