-- Which calls answer 255/11 and 14/0, and what then holds. Assumes nothing.
use Prim.Native.Nat.{ℕ, ◌+◌, ◌<◌, ◌≤◌}
use mathlib.Core.Path.{◌≡◌, refl, sym}
use mathlib.Core.Bool.{Bool, true, false}
use mathlib.Core.List.{List, [], ◌∷◌}
use mathlib.Core.Logic.{⊎_elim}
use native.Mathlib.Omega.{arith}
use lib.Dec.{eqb, leb}
use borrow.Author.Tests.{eq-eqb, leb-true, leb-false, ltb-true, ltb-false}
use Rattle.words.specs.Tests.{◌and◌, ◌or◌, ◌if◌else◌, count}
use Rattle.words.specs.Tables.{Row, ◌∕◌, ◌when◌, only_if, first_of, any_row}
use Rattle.words.proofs.Tests.{either, never, or_case}
use Rattle.words.proofs.Sets.{or_none}
use Rattle.rules.specs.declared.kind.Kind.{Kind}
use Rattle.rules.specs.declared.file.File.{File}
use Rattle.rules.specs.declared.list.LockList.{LockList}
use Rattle.rules.specs.declared.routine.Routine.TheVariants.{Open, Close, SearchFirst, SearchNext, Delete, Make, Rename, Read, Write, Size, WriteZeros}
use Rattle.rules.specs.declared.routine.Routine.TheVariants.{TestWrite, Lock, Unlock, FreeSpace, Terminate}
use Rattle.std.specs.Prelude.{Option, Some, None}
use Rattle.rules.specs.declared.routine.Routine.{Routine}
use Rattle.rules.specs.Serves.{Buffers, chosen}
use Rattle.rules.specs.Locks.{unpack, opens_by, locks_by, free_place, free_places}
use Rattle.rules.specs.Asks.{caller_file, record_of}
use Rattle.rules.specs.Codes.{rows_inside, rows_all, rows_new, rows15, rows16, rows19, rows22, rows23, rows33, rows34, rows35, rows41, rows42, rows43, rows_there}
use Rattle.rules.specs.Codes.{rows_may, rows_room, rows_differ, rows_run, rows_lacking, rows_take, is_new}
use Rattle.rules.specs.Call.{asked, asked_by, rows_of, rows_call, call}
use Rattle.rules.specs.Several.{serves_run}
use Rattle.rules.proofs.Singles.{Runs, is_read, is_write, is_zeros, run-chosen}
use Rattle.rules.proofs.Tables.{answer_first}
use Rattle.rules.proofs.Passed.{Passed, passed}

-- ---- tables by code

-- a row with that code applies
unfoldable pub any_code : ℕ → List Row → Bool
any_code c [] = false
any_code c (x ∷ xs) = (eqb x.code c and x.test) or any_code c xs

-- the first row that applies has that code, so one with that code applies
pub code_applies : (c : ℕ) (rows : List Row) → (c ≡ 0 → ⊥) → first_of rows ≡ c → any_code c rows ≡ true
unfolding any_code first_of ◌and◌ ◌or◌ ◌if◌else◌
code_applies c [] n h = absurd (n (sym h))
code_applies c (x ∷ xs) n h =
    ⊎_elim (λ (q : x.test ≡ true). let e : x.code ≡ c = rw q at h in rw (eq-eqb x.code c e, q) refl)
    (λ (q : x.test ≡ false). or_case (eqb x.code c and x.test) (any_code c xs) (λ z. code_applies c xs n (rw q at h))) (either x.test)

-- a row with another code does not apply, and the code is given by those after it; ..
row_past : (c code : ℕ) (t : Bool) (rows : List Row) → (c ≡ code → ⊥) → first_of (c when t ∷ rows) ≡ code → (t ≡ false) × (first_of rows ≡ code)
unfolding first_of ◌if◌else◌
row_past c code true rows n h = absurd (n h)
row_past c code false rows n h = (refl, h)

-- .. one with that code applies, where none after it has it
row_gives : (code : ℕ) (t : Bool) (rows : List Row) → (first_of rows ≡ code → ⊥) → first_of (code when t ∷ rows) ≡ code → t ≡ true
unfolding first_of ◌if◌else◌
row_gives code true rows n h = refl
row_gives code false rows n h = absurd (n h)

none_gives : (code : ℕ) → (code ≡ 0 → ⊥) → first_of [] ≡ code → ⊥
unfolding first_of
none_gives code n h = n (sym h)

-- rows that are looked at only where a test holds
only_gives : (code : ℕ) (t : Bool) (rows : List Row) → (code ≡ 0 → ⊥) → first_of (only_if t rows) ≡ code → first_of rows ≡ code
unfolding only_if ◌if◌else◌
only_gives code true rows n h = h
only_gives code false rows n h = absurd (none_gives code n h)

-- a table that has the code in no row does not give it
absent : (code : ℕ) (rows : List Row) → (code ≡ 0 → ⊥) → any_code code rows ≡ false → first_of rows ≡ code → ⊥
absent code rows n none h = never (code_applies code rows n h) none

-- ---- what the two answers say

-- 255/11: the caller is below its open limit, and no place below the capacity is empty
pub record NoPlace (p : ℕ) (l : LockList) : Type 0 where
  pub within : opens_by l p < l.openlimit
  pub full : l.capacity ≤ free_place l

-- 14/0: the caller stays within its lock limit, and fewer places are empty than records are new
pub record TooFew (p c : ℕ) (l : LockList) (f : File) (r : ℕ) : Type 0 where
  pub within : locks_by l p + c ≤ l.locklimit
  pub few : free_places l < count (is_new l p f r) c

module _ (kind : Kind) (p c : ℕ) (b : Buffers) where
  abbrev l : LockList
  l = unpack b.list

  limit_rows : (more : List Row) → (first_of more ≡ 255 ∕ 11 → ⊥) → first_of (255 ∕ 10 when leb l.openlimit (opens_by l p)
      ∷ 255 ∕ 11 when leb l.capacity (free_place l) ∷ more) ≡ 255 ∕ 11 → NoPlace p l
  limit_rows more n h =
      let w = row_past (255 ∕ 10) (255 ∕ 11) _ _ (λ z. omega arith) h in
      record { within = leb-false _ _ w.0; full = leb-true _ _ (row_gives (255 ∕ 11) _ more n w.1) }

  not_11 : 255 ∕ 11 ≡ 0 → ⊥
  not_11 z = absurd (omega arith)

  not_14 : 14 ∕ 0 ≡ 0 → ⊥
  not_14 z = absurd (omega arith)

  own_11 : (k : Option Routine) → first_of (rows_of k (asked kind p c b) b) ≡ 255 ∕ 11 → NoPlace p l
  unfolding rows_of asked asked_by rows_new rows15 rows16 rows19 rows22 rows23 rows33 rows34 rows35 rows41 rows42 rows43 rows_there rows_may rows_room rows_differ
      rows_run rows_lacking rows_take only_if any_code ◌and◌ ◌or◌
  own_11 (Some Open) h =
      let h₁ = (row_past (255 ∕ 9) (255 ∕ 11) _ _ (λ z. omega arith) h).1 in
      let h₂ = (row_past (255 ∕ 0) (255 ∕ 11) _ _ (λ z. omega arith) h₁).1 in
      let h₃ = (row_past (255 ∕ 5) (255 ∕ 11) _ _ (λ z. omega arith) h₂).1 in
      let h₄ = only_gives (255 ∕ 11) _ _ not_11 h₃ in
      limit_rows [] (none_gives (255 ∕ 11) not_11) (row_past (255 ∕ 5) (255 ∕ 11) _ _ (λ z. omega arith) h₄).1
  own_11 (Some Make) h =
      let h₁ = (row_past (255 ∕ 9) (255 ∕ 11) _ _ (λ z. omega arith) h).1 in
      let h₂ = (row_past (255 ∕ 8) (255 ∕ 11) _ _ (λ z. omega arith) h₁).1 in
      limit_rows _ (λ z. none_gives (255 ∕ 11) not_11 (row_past (255 ∕ 0) (255 ∕ 11) _ _ (λ y. omega arith) z).1) h₂
  own_11 (Some Lock) h =
      let h₁ = (row_past (10 ∕ 0) (255 ∕ 11) _ _ (λ z. omega arith) h).1 in
      absurd (absent (255 ∕ 11) _ not_11 refl (only_gives (255 ∕ 11) _ _ not_11 h₁))
  own_11 (Some Unlock) h =
      let h₁ = (row_past (10 ∕ 0) (255 ∕ 11) _ _ (λ z. omega arith) h).1 in
      absurd (absent (255 ∕ 11) _ not_11 refl (only_gives (255 ∕ 11) _ _ not_11 h₁))
  own_11 (Some Close) h = absurd (absent (255 ∕ 11) _ not_11 refl h)
  own_11 (Some SearchFirst) h = absurd (absent (255 ∕ 11) _ not_11 refl h)
  own_11 (Some SearchNext) h = absurd (absent (255 ∕ 11) _ not_11 refl h)
  own_11 (Some Delete) h = absurd (absent (255 ∕ 11) _ not_11 refl h)
  own_11 (Some Rename) h = absurd (absent (255 ∕ 11) _ not_11 refl h)
  own_11 (Some Read) h = absurd (absent (255 ∕ 11) _ not_11 refl h)
  own_11 (Some Write) h = absurd (absent (255 ∕ 11) _ not_11 refl h)
  own_11 (Some Size) h = absurd (absent (255 ∕ 11) _ not_11 refl h)
  own_11 (Some WriteZeros) h = absurd (absent (255 ∕ 11) _ not_11 refl h)
  own_11 (Some TestWrite) h = absurd (absent (255 ∕ 11) _ not_11 refl h)
  own_11 (Some FreeSpace) h = absurd (absent (255 ∕ 11) _ not_11 refl h)
  own_11 (Some Terminate) h = absurd (absent (255 ∕ 11) _ not_11 refl h)
  own_11 None h = absurd (absent (255 ∕ 11) _ not_11 refl h)

  own_14 : (k : Option Routine) → first_of (rows_of k (asked kind p c b) b) ≡ 14 ∕ 0 → TooFew p c l (caller_file p l b.fcb) (record_of b.fcb)
  unfolding rows_of asked asked_by rows_new rows15 rows16 rows19 rows22 rows23 rows33 rows34 rows35 rows41 rows42 rows43 rows_there rows_may rows_room rows_differ
      rows_run rows_lacking rows_take only_if any_code ◌and◌ ◌or◌
  own_14 (Some Lock) h =
      let h₁ = only_gives (14 ∕ 0) _ _ not_14 (row_past (10 ∕ 0) (14 ∕ 0) _ _ (λ z. omega arith) h).1 in
      let h₂ = (row_past (13 ∕ 0) (14 ∕ 0) _ _ (λ z. omega arith) h₁).1 in
      let h₃ = (row_past (6 ∕ 0) (14 ∕ 0) _ _ (λ z. omega arith) h₂).1 in
      let h₄ = (row_past (4 ∕ 0) (14 ∕ 0) _ _ (λ z. omega arith) h₃).1 in
      let h₅ = (row_past (1 ∕ 0) (14 ∕ 0) _ _ (λ z. omega arith) h₄).1 in
      let h₆ = (row_past (8 ∕ 0) (14 ∕ 0) _ _ (λ z. omega arith) h₅).1 in
      let w = row_past (12 ∕ 0) (14 ∕ 0) _ _ (λ z. omega arith) h₆ in
      record { within = ltb-false _ _ w.0; few = ltb-true _ _ (row_gives (14 ∕ 0) _ [] (none_gives (14 ∕ 0) not_14) w.1) }
  own_14 (Some Open) h =
      let h₁ = (row_past (255 ∕ 9) (14 ∕ 0) _ _ (λ z. omega arith) h).1 in
      let h₂ = (row_past (255 ∕ 0) (14 ∕ 0) _ _ (λ z. omega arith) h₁).1 in
      let h₃ = (row_past (255 ∕ 5) (14 ∕ 0) _ _ (λ z. omega arith) h₂).1 in
      absurd (absent (14 ∕ 0) _ not_14 refl (only_gives (14 ∕ 0) _ _ not_14 h₃))
  own_14 (Some Make) h = absurd (absent (14 ∕ 0) _ not_14 refl h)
  own_14 (Some Unlock) h = absurd (absent (14 ∕ 0) _ not_14 refl (only_gives (14 ∕ 0) _ _ not_14 (row_past (10 ∕ 0) (14 ∕ 0) _ _ (λ z. omega arith) h).1))
  own_14 (Some Close) h = absurd (absent (14 ∕ 0) _ not_14 refl h)
  own_14 (Some SearchFirst) h = absurd (absent (14 ∕ 0) _ not_14 refl h)
  own_14 (Some SearchNext) h = absurd (absent (14 ∕ 0) _ not_14 refl h)
  own_14 (Some Delete) h = absurd (absent (14 ∕ 0) _ not_14 refl h)
  own_14 (Some Rename) h = absurd (absent (14 ∕ 0) _ not_14 refl h)
  own_14 (Some Read) h = absurd (absent (14 ∕ 0) _ not_14 refl h)
  own_14 (Some Write) h = absurd (absent (14 ∕ 0) _ not_14 refl h)
  own_14 (Some Size) h = absurd (absent (14 ∕ 0) _ not_14 refl h)
  own_14 (Some WriteZeros) h = absurd (absent (14 ∕ 0) _ not_14 refl h)
  own_14 (Some TestWrite) h = absurd (absent (14 ∕ 0) _ not_14 refl h)
  own_14 (Some FreeSpace) h = absurd (absent (14 ∕ 0) _ not_14 refl h)
  own_14 (Some Terminate) h = absurd (absent (14 ∕ 0) _ not_14 refl h)
  own_14 None h = absurd (absent (14 ∕ 0) _ not_14 refl h)

-- ---- a call

module _ (kind : Kind) (n p c : ℕ) (b : Buffers) where
  -- a code that is no effect's and none of the general table's: the call passed that, and its own table gave it
  own_gives : (code : ℕ) → 4 ≤ code → (255 ∕ 0 ≡ code → ⊥) → (255 ∕ 13 ≡ code → ⊥) → (255 ∕ 1 ≡ code → ⊥) → (255 ∕ 12 ≡ code → ⊥) → (255 ∕ 4 ≡ code → ⊥)
      → (call kind n p c b).answer ≡ code
      → Passed kind p c b × (first_of (rows_of (chosen n) (asked kind p c b) b) ≡ code)
  unfolding rows_call rows_all rows_inside
  own_gives code low none a₁ a₂ a₃ a₄ h =
      let w₁ = row_past (255 ∕ 13) code _ _ a₁ (answer_first kind n p c b code low none h) in
      let w₂ = row_past (255 ∕ 1) code _ _ a₂ w₁.1 in
      let w₃ = row_past (255 ∕ 12) code _ _ a₃ w₂.1 in
      let w₄ = row_past (255 ∕ 4) code _ _ a₄ w₃.1 in
      (passed kind n p c b (quiet w₁.0 w₂.0 w₃.0 w₄.0), w₄.1)
    where
      quiet : {t₁ t₂ t₃ t₄ : Bool} → t₁ ≡ false → t₂ ≡ false → t₃ ≡ false → t₄ ≡ false
          → any_row (255 ∕ 13 when t₁ ∷ 255 ∕ 1 when t₂ ∷ 255 ∕ 12 when t₃ ∷ 255 ∕ 4 when t₄ ∷ []) ≡ false
      quiet e₁ e₂ e₃ e₄ = unfold any_row in or_none _ _ e₁ (or_none _ _ e₂ (or_none _ _ e₃ (or_none _ _ e₄ refl)))

  -- a call answered 255/11: its caller is below its open limit, and no place is empty; ..
  pub gives_11 : (call kind n p c b).answer ≡ 255 ∕ 11 → Passed kind p c b × NoPlace p (unpack b.list)
  gives_11 h =
      let w = own_gives (255 ∕ 11) (omega arith) (λ z. omega arith) (λ z. omega arith) (λ z. omega arith) (λ z. omega arith) (λ z. omega arith) h in
      (w.0, own_11 kind p c b (chosen n) w.1)

  -- .. answered 14/0: its caller stays within its lock limit, and too few are
  pub gives_14 : (call kind n p c b).answer ≡ 14 ∕ 0
      → Passed kind p c b × TooFew p c (unpack b.list) (caller_file p (unpack b.list) b.fcb) (record_of b.fcb)
  gives_14 h =
      let w = own_gives (14 ∕ 0) (omega arith) (λ z. omega arith) (λ z. omega arith) (λ z. omega arith) (λ z. omega arith) (λ z. omega arith) h in
      (w.0, own_14 kind p c b (chosen n) w.1)

-- ---- 33, 34 and 40 give neither, whatever they are lent

module _ (kind : Kind) (p c : ℕ) (b : Buffers) where
  run_11 : (k : Option Routine) → Runs k → any_code (255 ∕ 11) (rows_of k (asked kind p c b) b) ≡ false
  unfolding rows_of rows33 rows34 rows_there rows_may rows_room any_code ◌and◌ ◌or◌
  run_11 k is_read = refl
  run_11 k is_write = refl
  run_11 k is_zeros = refl

  run_14 : (k : Option Routine) → Runs k → any_code (14 ∕ 0) (rows_of k (asked kind p c b) b) ≡ false
  unfolding rows_of rows33 rows34 rows_there rows_may rows_room any_code ◌and◌ ◌or◌
  run_14 k is_read = refl
  run_14 k is_write = refl
  run_14 k is_zeros = refl

module _ (kind : Kind) (n p c : ℕ) (b : Buffers) (h : serves_run n ≡ true) where
  -- a call that takes runs never answers 255/11, ..
  pub never_11 : (call kind n p c b).answer ≡ 255 ∕ 11 → ⊥
  never_11 e = absent (255 ∕ 11) _ (not_11 kind p c b) (run_11 kind p c b (chosen n) (run-chosen n h))
      (own_gives kind n p c b (255 ∕ 11) (omega arith) (λ z. omega arith) (λ z. omega arith) (λ z. omega arith) (λ z. omega arith) (λ z. omega arith) e).1

  -- .. nor 14/0
  pub never_14 : (call kind n p c b).answer ≡ 14 ∕ 0 → ⊥
  never_14 e = absent (14 ∕ 0) _ (not_14 kind p c b) (run_14 kind p c b (chosen n) (run-chosen n h))
      (own_gives kind n p c b (14 ∕ 0) (omega arith) (λ z. omega arith) (λ z. omega arith) (λ z. omega arith) (λ z. omega arith) (λ z. omega arith) e).1
