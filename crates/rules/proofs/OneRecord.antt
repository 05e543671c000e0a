-- With count 1 a call of several records is the plain call. Assumes nothing.
use Prim.Native.Nat.{ℕ, ◌+◌, ◌*◌, ◌/◌, ◌≤◌, ◌<◌}
use mathlib.Core.Path.{◌≡◌, refl, sym, ap, ◌∙◌}
use mathlib.Core.Bool.{Bool, true, false}
use mathlib.Core.List.{List}
use mathlib.Core.Logic.{⊎_elim}
use native.Mathlib.Omega.{arith}
use lib.ListN.{length}
use Rattle.words.specs.Tables.{first_of, any_row}
use Rattle.words.proofs.Tests.{either, equal?}
use Rattle.words.proofs.Tables.{zero_none}
use Rattle.words.proofs.Bytes.{put_same}
use Rattle.rules.specs.declared.file.File.{File}
use Rattle.std.specs.Prelude.{Option}
use Rattle.rules.specs.declared.routine.Routine.{Routine}
use Rattle.rules.specs.Serves.{Buffers, Outcome, buffers, chosen}
use Rattle.rules.specs.Drive.{entry_of, block_in}
use Rattle.rules.specs.Asks.{caller_file, record_of}
use Rattle.rules.specs.Locks.{unpack}
use Rattle.rules.specs.Codes.{rows_all, rows33}
use Rattle.rules.specs.Effects.{contents, does33, does34}
use Rattle.rules.specs.Call.{Asked, Ready, asked_by, asked, rows_of, effect_of, served, call}
use Rattle.rules.specs.Several.{serves_run, dma_at, single, back_at, Run, several, told, call_run}
use Rattle.rules.proofs.Tables.{nonzero_all, accepts, refuses, call_refused, call-served, effect_zero}
use Rattle.rules.proofs.Room.{read_room, contents_long}
use Rattle.rules.proofs.Passed.{passed, known, drive_good}
use Rattle.rules.proofs.Singles.{Runs, is_read, is_write, is_zeros, runs_plain, run-chosen, dma_back, asked_at, code_single, effect_single}
use Rattle.rules.proofs.Several.{code_at, left_at, several_none, several_more, several_stops, told_left, told_zero, told_some, run_plain, run_refused}
use Rattle.rules.proofs.Several.{run_told}
use Rattle.rules.specs.declared.kind.Kind.{Kind}

-- ---- the single call for the first record

module _ (kind : Kind) (b : Buffers) (ok : Ready kind b) where
  dma_first : dma_at 0 b.dma ≡ b.dma
  unfolding dma_at
  dma_first = let n = ok.dma_long in put_same 0 128 b.dma (omega arith)

  asked_first : (p : ℕ) → asked_at kind p 0 b ≡ asked kind p 1 b
  unfolding asked
  asked_first p =
      let z : record_of b.fcb + 0 ≡ record_of b.fcb = omega arith in
      ap (λ (r : ℕ). asked_by kind p 1 (unpack b.list) (caller_file p (unpack b.list) b.fcb) r b.image) z

  -- what it leaves, put back, is what the plain call leaves
  written_back : (zeros : Bool) (f : File) (e₀ e r : ℕ) → back_at 0 b (does34 kind zeros f e₀ e r (single 0 b)).left ≡ (does34 kind zeros f e₀ e r b).left
  unfolding does34 single back_at
  written_back zeros f e₀ e r = rw dma_first (rw (put_same 0 128 b.dma (let n = ok.dma_long in omega arith)) refl)

  read_back : (o : ℕ) (f : File) (e r : ℕ) → e ≡ entry_of kind b.image f (r / 128) → first_of (rows33 kind o e r b.image) ≡ 0
      → back_at 0 b (does33 kind e r (single 0 b)).left ≡ (does33 kind e r b).left
  unfolding does33 single back_at
  read_back o f e r he z =
      let v = contents kind b.image (block_in kind b.image e r) r in
      let n = contents_long kind b.image (block_in kind b.image e r) r (read_room kind o b.image f r e _ _ ok.image_sound he refl z refl) in
      ap (λ (m : List ℕ). buffers b.fcb m b.list b.image) (dma_back 0 b.dma (let n = ok.dma_long in omega arith) v n)

  effect_back : (k : Option Routine) → Runs k → (p : ℕ) → first_of (rows_of k (asked kind p 1 b) b) ≡ 0
      → back_at 0 b (effect_of k (asked kind p 1 b) (single 0 b)).left ≡ (effect_of k (asked kind p 1 b) b).left
  unfolding effect_of rows_of asked asked_by
  effect_back k is_read p z = read_back _ (caller_file p (unpack b.list) b.fcb) _ _ refl z
  effect_back k is_write p z = written_back false _ _ _ _
  effect_back k is_zeros p z = written_back true _ _ _ _

-- ---- the call

module _ (kind : Kind) (n p : ℕ) (b : Buffers) (h : serves_run n ≡ true) (z : first_of (rows_all kind n p 1 b) ≡ 0) where
  abbrev own : ℕ
  own = first_of (rows_of (chosen n) (asked kind p 1 b) b)

  quiet : any_row (rows_all kind n p 1 b) ≡ false
  quiet = zero_none (rows_all kind n p 1 b) (nonzero_all kind n p 1 b) z

  ok : Ready kind b
  ok = (passed kind n p 1 b quiet).ready

  room : 128 * 0 + 128 ≤ length b.dma
  room = let n = ok.dma_long in omega arith

  abbrev few : p < 16
  few = (passed kind n p 1 b quiet).process_fits

  own_rows : rows_of (chosen n) (asked_at kind p 0 b) b ≡ rows_of (chosen n) (asked kind p 1 b) b
  own_rows = ap (λ (a : Asked). rows_of (chosen n) a b) (asked_first kind b ok p)

  code_is : code_at kind n p 0 b ≡ own
  code_is = code_single kind n p 0 b ok (known kind n p 1 b quiet) few (drive_good kind n p 1 b quiet) room (run-chosen n h) ∙ ap first_of own_rows

  -- accepted
  left_is : own ≡ 0 → left_at kind n p 0 b ≡ (effect_of (chosen n) (asked kind p 1 b) b).left
  left_is y =
      ap (λ (o : Outcome). back_at 0 b o.left)
      (effect_single kind n p 0 b ok (known kind n p 1 b quiet) few (drive_good kind n p 1 b quiet) room (run-chosen n h) (ap first_of own_rows ∙ y))
      ∙ ap (λ (a : Asked). back_at 0 b (effect_of (chosen n) a (single 0 b)).left) (asked_first kind b ok p)
      ∙ effect_back kind b ok (chosen n) (run-chosen n h) p y

  done_one : own ≡ 0 → told (several kind n p 1 b) ≡ served kind (chosen n) p 1 b
  unfolding served
  done_one y =
      let g = several_more kind n p 0 b b (several_none kind n p b) (code_is ∙ y) in
      let a : (told (several kind n p 1 b)).answer ≡ (effect_of (chosen n) (asked kind p 1 b) b).answer = told_zero (several kind n p 1 b)
      (ap (λ (r : Run). r.code) g) ∙ sym (effect_zero (chosen n) (asked kind p 1 b) b (runs_plain (chosen n) (run-chosen n h))) in
      let l : (told (several kind n p 1 b)).left ≡ (effect_of (chosen n) (asked kind p 1 b) b).left = told_left (several kind n p 1 b)
      ∙ ap (λ (r : Run). r.left) g ∙ left_is y in
      (λ j. record { answer = a j; left = l j }) ∙ sym (accepts _ b _ y)

  -- refused
  none_done : (own ≡ 0 → ⊥) → told (several kind n p 1 b) ≡ served kind (chosen n) p 1 b
  unfolding served
  none_done y =
      let g = several_stops kind n p 0 b b (several_none kind n p b) (λ q. y (sym code_is ∙ q)) in
      let a : (told (several kind n p 1 b)).answer ≡ own =
      (let c : (several kind n p 1 b).code ≡ own = ap (λ (r : Run). r.code) g ∙ code_is in
      let d : (several kind n p 1 b).done ≡ 0 = ap (λ (r : Run). r.done) g in
      told_some (several kind n p 1 b) (λ q. y (sym c ∙ q)) ∙ omega arith) in
      let l : (told (several kind n p 1 b)).left ≡ b = told_left (several kind n p 1 b) ∙ ap (λ (r : Run). r.left) g in
      (λ j. record { answer = a j; left = l j }) ∙ sym (refuses _ b _ y)

  served_one : told (several kind n p 1 b) ≡ served kind (chosen n) p 1 b
  served_one = ⊎_elim (λ (y : own ≡ 0). done_one y) (λ (y : own ≡ 0 → ⊥). none_done y) (equal? own 0)

pub one_record : (kind : Kind) (n p : ℕ) (b : Buffers) → call_run kind n p 1 b ≡ call kind n p 1 b
one_record kind n p b =
    ⊎_elim
    (λ (h : serves_run n ≡ true).
    ⊎_elim
    (λ (z : first_of (rows_all kind n p 1 b) ≡ 0). run_told kind n p 1 b h z ∙ served_one kind n p b h z ∙ sym (call-served kind n p 1 b z))
    (λ (z : first_of (rows_all kind n p 1 b) ≡ 0 → ⊥). run_refused kind n p 1 b h z ∙ sym (call_refused kind n p 1 b z))
    (equal? (first_of (rows_all kind n p 1 b)) 0))
    (λ (h : serves_run n ≡ false). run_plain kind n p 1 b h)
    (either (serves_run n))
