-- What passing the refusals that all calls share says. Assumes nothing.
use Prim.Native.Nat.{ℕ, ◌<◌}
use mathlib.Core.Path.{◌≡◌, refl, sym, ap, ◌∙◌}
use mathlib.Core.Bool.{Bool, true, false, not}
use mathlib.Core.List.{List}
use mathlib.Core.Logic.{⊎_elim}
use native.Mathlib.Omega.{arith}
use lib.ListN.{length}
use lib.Dec.{eqb}
use borrow.Author.Tests.{eqb-true, not-false}
use Rattle.words.specs.Tests.{◌and◌, ◌if◌else◌}
use Rattle.words.specs.Tables.{first_of}
use Rattle.words.proofs.Tests.{either, or_fst, or_snd}
use Rattle.rules.specs.declared.routine.Routine.{Routine}
use Rattle.rules.specs.declared.routine.Routine.TheVariants.{Open, Close, SearchFirst, SearchNext, Delete, Make, Rename, Read, Write, Size, WriteZeros}
use Rattle.rules.specs.declared.routine.Routine.TheVariants.{TestWrite, Lock, Unlock, FreeSpace, Terminate}
use Rattle.std.specs.Prelude.{Option, Some, None}
use Rattle.rules.specs.Serves.{Buffers, outcome, function_of, chosen, is_unknown}
use Rattle.rules.specs.Codes.{rows_all}
use Rattle.rules.specs.Call.{served, call}
use Rattle.rules.specs.Several.{serves_run}
use Rattle.rules.proofs.Tables.{call_refused, call-served}
use Rattle.rules.proofs.Passed.{GoodNumbers, good-numbers}
use Rattle.rules.proofs.Several.{run_first, run_plain, run_told}
use Rattle.calls.specs.Calls.{call_by, served_by}
use Rattle.calls.specs.Drives.{reads_drive}
use Rattle.calls.specs.Five.{bad_lengths}
use Rattle.rules.specs.Kinds.{vector_size}
use Rattle.rules.specs.declared.kind.Kind.{Kind}

-- ---- the chosen routine

pub known : (n : ℕ) (k : Routine) → chosen n ≡ Some k → is_unknown (chosen n) ≡ false
unfolding is_unknown
known n k h = ap is_unknown h

-- after `let Option Routine::Some(routine) = routine_of(function)`
pub is_call : (n : ℕ) (r : Option Routine) (k : Routine) → r ≡ chosen n → r ≡ Some k → chosen n ≡ Some k
is_call n r k g h = sym g ∙ h

-- one step down the list of function numbers
key : (n m : ℕ) (j k : Routine) (rest : Option Routine) → function_of j ≡ m → (Some j if eqb n m else rest) ≡ Some k → (rest ≡ Some k → n ≡ function_of k)
    → n ≡ function_of k
unfolding ◌if◌else◌
key n m j k rest g h next =
    ⊎_elim
    (λ (e : eqb n m ≡ true).
    let q : Some j ≡ Some k = rw e at h in
    let i : j ≡ k = cc in
    eqb-true n m e ∙ sym g ∙ ap function_of i)
    (λ (e : eqb n m ≡ false). next (rw e at h)) (either (eqb n m))

pub chosen_number : (n : ℕ) (k : Routine) → chosen n ≡ Some k → n ≡ function_of k
unfolding chosen function_of
chosen_number n k h =
    key n 15 Open k _ refl h (λ h. key n 16 Close k _ refl h (λ h. key n 17 SearchFirst k _ refl h (λ h.
    key n 18 SearchNext k _ refl h (λ h. key n 19 Delete k _ refl h (λ h. key n 22 Make k _ refl h (λ h.
    key n 23 Rename k _ refl h (λ h. key n 33 Read k _ refl h (λ h. key n 34 Write k _ refl h (λ h. key n 35 Size k _ refl h (λ h.
    key n 40 WriteZeros k _ refl h (λ h. key n 41 TestWrite k _ refl h (λ h. key n 42 Lock k _ refl h (λ h. key n 43 Unlock k _ refl h (λ h. key n 46
    FreeSpace k _ refl h (λ h.
    key n 143 Terminate k _ refl h (λ (h : None ≡ Some k). let z : ◌≡◌ {A = ℕ} 0 1 = cc in absurd (omega arith)))))))))))))))))

pub drive_by : (k : Routine) → reads_drive k ≡ (not (eqb (function_of k) 46) and not (eqb (function_of k) 143))
unfolding reads_drive function_of ◌and◌
drive_by Open = refl
drive_by Close = refl
drive_by SearchFirst = refl
drive_by SearchNext = refl
drive_by Delete = refl
drive_by Make = refl
drive_by Rename = refl
drive_by Read = refl
drive_by Write = refl
drive_by Size = refl
drive_by WriteZeros = refl
drive_by TestWrite = refl
drive_by Lock = refl
drive_by Unlock = refl
drive_by FreeSpace = refl
drive_by Terminate = refl

pub drive_told : (n : ℕ) (k : Routine) (t : Bool) → chosen n ≡ Some k → t ≡ reads_drive k → t ≡ (not (eqb n 46) and not (eqb n 143))
drive_told n k t h e = e ∙ drive_by k ∙ ap (λ (m : ℕ). not (eqb m 46) and not (eqb m 143)) (sym (chosen_number n k h))

-- ---- good numbers and lengths

module _ (kind : Kind) (n p c : ℕ) (fcb dma list v : List ℕ) (r : Bool) (e : r ≡ bad_lengths kind n p c fcb dma list v) (t : r ≡ false) where
  numbers : GoodNumbers n p c fcb dma list
  unfolding bad_lengths
  numbers = good-numbers n p c fcb dma list (or_fst _ _ (sym e ∙ t))

  pub few_processes : p < 16
  few_processes = numbers.process_fits

  pub fcb_there : length fcb ≡ 36
  fcb_there = numbers.fcb_long

  pub dma_there : length dma ≡ 2048
  dma_there = numbers.dma_long

  pub list_there : length list ≡ 1316
  list_there = numbers.list_long

  pub vector_there : length v ≡ vector_size kind
  unfolding bad_lengths
  vector_there = eqb-true _ _ (not-false _ (or_snd _ _ (sym e ∙ t)))

-- ---- a call by the fast path and by the plain engine, behind the general table

module _ (kind : Kind) (z : Bool) (n p c : ℕ) (b : Buffers) where
  -- a general refusal
  pub by_refused : (first_of (rows_all kind n p c b) ≡ 0 → ⊥) → call_by kind z n p c b ≡ outcome (first_of (rows_all kind n p c b)) b
  unfolding call_by
  by_refused h = each z
    where
      each : (y : Bool) → call_by kind y n p c b ≡ outcome (first_of (rows_all kind n p c b)) b
      each false = call_refused kind n p c b h
      each true = run_first kind n p c b h

  -- none
  pub by_served : (k : Routine) → chosen n ≡ Some k → first_of (rows_all kind n p c b) ≡ 0 → call_by kind z n p c b ≡ served_by kind z n k p c b
  unfolding call_by served_by ◌if◌else◌
  by_served k g h = each z
    where
      plain : call kind n p c b ≡ served kind (Some k) p c b
      plain = call-served kind n p c b h ∙ ap (λ (m : Option Routine). served kind m p c b) g

      each : (y : Bool) → call_by kind y n p c b ≡ served_by kind y n k p c b
      each false = plain
      each true =
          ⊎_elim (λ (q : serves_run n ≡ true). rw q (run_told kind n p c b q h))
          (λ (q : serves_run n ≡ false). rw q (run_plain kind n p c b q ∙ plain)) (either (serves_run n))
