-- Which functions take a run of records: 33, 34 and 40. Assumes nothing.
use Prim.Native.Nat.{ℕ}
use mathlib.Core.Path.{◌≡◌, refl, sym, ap, subst, ◌∙◌}
use mathlib.Core.Bool.{Bool, true, false}
use mathlib.Core.Logic.{◌⊎◌, ⊎_elim}
use lib.Dec.{eqb}
use borrow.Author.Tests.{eqb-true}
use Rattle.words.specs.Tests.{◌or◌, ◌if◌else◌}
use Rattle.words.proofs.Tests.{either, never, or_so, or_fst, or_snd, same_test}
use Rattle.rules.specs.declared.routine.Routine.{Routine}
use Rattle.rules.specs.declared.routine.Routine.TheVariants.{Write, WriteZeros, FreeSpace}
use Rattle.std.specs.Prelude.{Option, Some, None}
use Rattle.rules.specs.Serves.{function_of, chosen}
use Rattle.rules.specs.Several.{serves_run}

-- what holds of the three holds of every function that takes one
pub of_three : (P : ℕ → Type 0) → P 33 → P 34 → P 40 → (n : ℕ) → serves_run n ≡ true → P n
unfolding serves_run
of_three P a b c n h =
    ⊎_elim (λ (e : eqb n 33 ≡ true). subst P (sym (eqb-true n 33 e)) a)
    (λ (e : eqb n 33 ≡ false).
    ⊎_elim (λ (d : eqb n 34 ≡ true). subst P (sym (eqb-true n 34 d)) b)
    (λ (d : eqb n 34 ≡ false). subst P (sym (eqb-true n 40 (or_so _ _ (or_so _ _ h e) d))) c) (either (eqb n 34)))
    (either (eqb n 33))

-- ---- the calls that they choose, and no other

serves : Option Routine → Bool
serves (Some k) = serves_run (function_of k)
serves None = false

-- down the list of function numbers
if_none : (t : Bool) (x y : Option Routine) → serves x ≡ false → serves y ≡ false → serves (x if t else y) ≡ false
unfolding ◌if◌else◌
if_none true x y h k = h
if_none false x y h k = k

if_off : (t : Bool) (x y : Option Routine) → t ≡ false → serves y ≡ false → serves (x if t else y) ≡ false
unfolding ◌if◌else◌
if_off t x y e k = rw e k

chosen_off : (n : ℕ) → eqb n 33 ≡ false → eqb n 34 ≡ false → eqb n 40 ≡ false → serves (chosen n) ≡ false
unfolding chosen serves function_of serves_run ◌or◌
chosen_off n a b c = search (if_none, if_off) depth 20 fits 20000

chosen_on : (n : ℕ) → serves_run n ≡ true → serves (chosen n) ≡ true
unfolding chosen serves function_of serves_run ◌or◌ ◌if◌else◌
chosen_on n h = of_three (λ (m : ℕ). serves (chosen m) ≡ true) refl refl refl n h

-- a function takes a run just where the function number of the call that it chooses does
pub served_as : (n : ℕ) (k : Routine) → chosen n ≡ Some k → serves_run n ≡ serves_run (function_of k)
unfolding serves
served_as n k e = same_test _ _ (chosen_on n) forth ∙ ap serves e
  where
    off : serves_run n ≡ false → serves (chosen n) ≡ false
    off h = unfold serves_run in chosen_off n (or_fst _ _ h) (or_fst _ _ (or_snd _ _ h)) (or_snd _ _ (or_snd _ _ h))

    forth : serves (chosen n) ≡ true → serves_run n ≡ true
    forth h = ⊎_elim (λ q. q) (λ (q : serves_run n ≡ false). absurd (never h (off q))) (either (serves_run n))

-- 34 and 40 take one, ..
pub writes_serve : (n : ℕ) → (chosen n ≡ Some Write) ⊎ (chosen n ≡ Some WriteZeros) → serves_run n ≡ true
unfolding serves_run function_of ◌or◌
writes_serve n k =
    ⊎_elim (λ (e : chosen n ≡ Some Write). served_as n Write e) (λ (e : chosen n ≡ Some WriteZeros). served_as n WriteZeros e) k

-- .. 46 takes none
pub figure_plain : (n : ℕ) → chosen n ≡ Some FreeSpace → serves_run n ≡ false
unfolding serves_run function_of ◌or◌
figure_plain n e = served_as n FreeSpace e
