-- A loop that joins its tests and stops at none. Assumes nothing.
use Prim.Native.Nat.{ℕ, ◌+◌, ◌≤◌}
use mathlib.Core.Path.{◌≡◌, refl, ◌∙◌}
use mathlib.Core.Bool.{Bool, true}
use native.Mathlib.Numerals.{add-one}
use native.Mathlib.Omega.{arith}
use borrow.Author.Rules.{rules}
use Rattle.words.specs.Tests.{◌and◌, all}

module _ (f : ℕ → Bool) where
  pub joined_none : true ≡ all f 0
  unfolding all
  joined_none = refl

  pub joined_more : (i : ℕ) (r a b : Bool) → a ≡ all f i → b ≡ f i → r ≡ (a and b) → r ≡ all f (i + 1)
  unfolding all
  joined_more i r a b g h e = rw (add-one, ← g, ← h) e

  pub joined_ends : (n i : ℕ) (a : Bool) → a ≡ all f i → n ≤ i → i ≤ n → a ≡ all f n
  joined_ends n i a g l m = let q : i ≡ n = omega arith in rw q at g

pub ruleset joins = (rules, refl, joined_none, joined_more, joined_ends)
