-- The single call for a record of a run: its FCB, its DMA, and that the general table lets it pass. Assumes nothing.
use Prim.Native.Nat.{ℕ, ◌+◌, ◌*◌, ◌/◌, ◌%◌, ◌≤◌, ◌<◌}
use mathlib.Core.Path.{◌≡◌, refl, sym, ap, subst, ◌∙◌}
use mathlib.Core.Bool.{true, false, not}
use mathlib.Core.List.{List, []}
use mathlib.Core.Logic.{⊎_elim}
use native.Mathlib.Omega.{arith}
use lib.ListN.{length, take}
use lib.Dec.{eqb, ltb}
use borrow.Author.Tests.{eqb-true, ltb-false}
use Rattle.words.specs.Tests.{◌and◌, ◌if◌else◌}
use Rattle.words.specs.Lists.{tab}
use Rattle.words.specs.Bytes.{byte, low_from, part, put}
use Rattle.words.specs.Tables.{first_of}
use Rattle.words.proofs.Tests.{either, or_so}
use Rattle.words.proofs.Tables.{row_off, row_rest, first_then, both_zero}
use Rattle.words.proofs.Lists.{tab_ext}
use Rattle.words.proofs.Bytes.{part_long, put_before, put_in, length-put, part-put, put_same}
use Rattle.words.proofs.Sets.{row_no}
use Rattle.rules.specs.declared.file.File.{File}
use Rattle.rules.specs.declared.list.LockList.{LockList}
use Rattle.rules.specs.declared.routine.Routine.TheVariants.{Read, Write, WriteZeros}
use Rattle.std.specs.Prelude.{Option, Some}
use Rattle.rules.specs.declared.routine.Routine.{Routine}
use Rattle.rules.specs.Serves.{Buffers, chosen, is_unknown, is_search}
use Rattle.rules.specs.Drive.{file_from}
use Rattle.rules.specs.Locks.{unpack, user_of}
use Rattle.rules.specs.Asks.{caller_file, record_of}
use Rattle.rules.specs.Codes.{bad_numbers, bad_drive, rows_inside, rows_all, rows33, rows34, rows_may}
use Rattle.rules.specs.Call.{Asked, Ready, asked_by, asked, rows_of, effect_of, served, rows_call, call}
use Rattle.rules.specs.Several.{serves_run, three_of, fcb_at, dma_at, single}
use Rattle.rules.proofs.Tables.{nonzero_all, accepts, call-served}
use Rattle.rules.proofs.Passed.{numbers_good}
use Rattle.rules.specs.declared.kind.Kind.{Kind}
use Rattle.rules.specs.Kinds.{top}

-- ---- the three functions

pub data Runs : Option Routine → Type 0 where
  is_read : Runs (Some Read)
  is_write : Runs (Some Write)
  is_zeros : Runs (Some WriteZeros)

pub run-chosen : (n : ℕ) → serves_run n ≡ true → Runs (chosen n)
unfolding serves_run chosen ◌if◌else◌
run-chosen n h =
    ⊎_elim (λ (e : eqb n 33 ≡ true). let q : 33 ≡ n = sym (eqb-true n 33 e) in subst (λ (m : ℕ). Runs (chosen m)) q is_read)
    (λ (e : eqb n 33 ≡ false).
    ⊎_elim (λ (d : eqb n 34 ≡ true). let q : 34 ≡ n = sym (eqb-true n 34 d) in subst (λ (m : ℕ). Runs (chosen m)) q is_write)
    (λ (d : eqb n 34 ≡ false). let q : 40 ≡ n = sym (eqb-true n 40 (or_so _ _ (or_so _ _ h e) d)) in subst (λ (m : ℕ). Runs (chosen m)) q is_zeros)
    (either (eqb n 34)))
    (either (eqb n 33))

-- a call that takes a run is no search
pub runs_plain : (k : Option Routine) → Runs k → is_search k ≡ false
unfolding is_search
runs_plain k is_read = refl
runs_plain k is_write = refl
runs_plain k is_zeros = refl

-- their tables look neither into the FCB nor into the DMA
rows_single : (k : Option Routine) → Runs k → (a : Asked) (i : ℕ) (b : Buffers) → rows_of k a (single i b) ≡ rows_of k a b
unfolding rows_of single
rows_single k is_read a i b = refl
rows_single k is_write a i b = refl
rows_single k is_zeros a i b = refl

-- ---- its FCB

module _ (i : ℕ) (fcb : List ℕ) (long : length fcb ≡ 36) where
  pub fcb_long : length (fcb_at i fcb) ≡ 36
  unfolding fcb_at three_of
  fcb_long = length-put 33 (three_of (record_of fcb + i)) fcb (omega arith) ∙ long

  pub fcb_low : (k : ℕ) → k < 33 → byte (fcb_at i fcb) k ≡ byte fcb k
  unfolding fcb_at three_of
  fcb_low k l = put_before 33 (three_of (record_of fcb + i)) fcb (omega arith) k l

  pub fcb_number : record_of (fcb_at i fcb) ≡ record_of fcb + i
  unfolding fcb_at three_of
  fcb_number =
      let r = record_of fcb + i in
      let a : byte (put 33 (three_of r) fcb) 33 ≡ r % 256 = put_in 33 (three_of r) fcb (omega arith) 0 (omega arith) in
      let b : byte (put 33 (three_of r) fcb) 34 ≡ r / 256 % 256 = put_in 33 (three_of r) fcb (omega arith) 1 (omega arith) in
      let c : byte (put 33 (three_of r) fcb) 35 ≡ r / 256 / 256 = put_in 33 (three_of r) fcb (omega arith) 2 (omega arith) in
      whole (put 33 (three_of r) fcb) r a b c
    where
      whole : (s : List ℕ) (r : ℕ) → byte s 33 ≡ r % 256 → byte s 34 ≡ r / 256 % 256 → byte s 35 ≡ r / 256 / 256 → record_of s ≡ r
      whole s r a b c = unfold record_of in rw (a, b, c) (omega arith)

  -- the file is the same
  pub fcb_from : (u : ℕ) → file_from u (fcb_at i fcb) 1 ≡ file_from u fcb 1
  unfolding file_from
  fcb_from u = λ j. record { user = u; name = names j }
    where
      names : tab (low_from (fcb_at i fcb) 1) 11 ≡ tab (low_from fcb 1) 11
      names = tab_ext (low_from (fcb_at i fcb) 1) (low_from fcb 1) 11 (λ k l. ap (λ (x : ℕ). x % 128) (fcb_low (1 + k) (omega arith)))

  fcb_file : (p : ℕ) (l : LockList) → caller_file p l (fcb_at i fcb) ≡ caller_file p l fcb
  unfolding caller_file
  fcb_file p l = fcb_from (user_of l p)

-- ---- its DMA

module _ (i : ℕ) (dma : List ℕ) (h : 128 * i + 128 ≤ length dma) where
  pub dma_long : length (dma_at i dma) ≡ length dma
  unfolding dma_at
  dma_long =
      let n = part_long dma (128 * i) 128 h in
      length-put 0 (part (128 * i) 128 dma) dma (omega arith)

  -- 128 bytes put in front of it come back to their place
  pub dma_back : (v : List ℕ) → length v ≡ 128 → put (128 * i) (take 128 (put 0 v (dma_at i dma))) dma ≡ put (128 * i) v dma
  dma_back v n =
      let k = dma_long in
      let e : take (length v) (put 0 v (dma_at i dma)) ≡ v = part-put 0 v (dma_at i dma) (omega arith) in
      ap (λ (x : List ℕ). put (128 * i) x dma) (ap (λ (m : ℕ). take m (put 0 v (dma_at i dma))) (sym n) ∙ e)

  pub dma_front : take 128 (dma_at i dma) ≡ part (128 * i) 128 dma
  unfolding dma_at
  dma_front =
      let n : length (part (128 * i) 128 dma) ≡ 128 = part_long dma (128 * i) 128 h in
      ap (λ (m : ℕ). take m (put 0 (part (128 * i) 128 dma) dma)) (sym n) ∙ part-put 0 (part (128 * i) 128 dma) dma (omega arith)

  -- left as it was, it changes nothing
  pub dma_still : put (128 * i) (take 128 (dma_at i dma)) dma ≡ dma
  dma_still = ap (λ (v : List ℕ). put (128 * i) v dma) dma_front ∙ put_same (128 * i) 128 dma h

-- ---- what it asks for

abbrev pub asked_at : Kind → ℕ → ℕ → Buffers → Asked
asked_at kind p i b = asked_by kind p 1 (unpack b.list) (caller_file p (unpack b.list) b.fcb) (record_of b.fcb + i) b.image

asked_single : (kind : Kind) (i p : ℕ) (b : Buffers) → length b.fcb ≡ 36 → asked kind p 1 (single i b) ≡ asked_at kind p i b
unfolding asked single
asked_single kind i p b long =
    ap (λ (f : File). asked_by kind p 1 (unpack b.list) f (record_of (fcb_at i b.fcb)) b.image) (fcb_file i b.fcb long p (unpack b.list))
    ∙ ap (λ (r : ℕ). asked_by kind p 1 (unpack b.list) (caller_file p (unpack b.list) b.fcb) r b.image) (fcb_number i b.fcb long)

-- a record that is done is not past the end
end_of : (k : Option Routine) → Runs k → (a : Asked) (b : Buffers) → first_of (rows_of k a b) ≡ 0 → a.record_number ≤ top a.kind
unfolding rows_of rows33 rows34 rows_may
end_of k is_read a b z = ltb-false (top a.kind) _ (row_off 6 _ _ (λ y. omega arith) (row_rest 10 _ _ (λ y. omega arith) z))
end_of k is_write a b z = ltb-false (top a.kind) _ (row_off 6 _ _ (λ y. omega arith) (row_rest 1023 _ _ (λ y. omega arith)
    (row_rest 10 _ _ (λ y. omega arith) z)))
end_of k is_zeros a b z = ltb-false (top a.kind) _ (row_off 6 _ _ (λ y. omega arith) (row_rest 1023 _ _ (λ y. omega arith)
    (row_rest 10 _ _ (λ y. omega arith) z)))

pub done_within : (kind : Kind) (n p i : ℕ) (b : Buffers) → Runs (chosen n) → length b.fcb ≡ 36 → first_of (rows_call kind n p 1 (single i b)) ≡ 0
    → record_of b.fcb + i ≤ top kind
unfolding rows_call asked asked_by
done_within kind n p i b runs long z =
    let own = (both_zero (rows_all kind n p 1 (single i b)) _ (nonzero_all kind n p 1 (single i b)) z).1 in
    ap-le (asked_single kind i p b long) (end_of (chosen n) runs (asked kind p 1 (single i b)) (single i b) own)
  where
    ap-le : asked kind p 1 (single i b) ≡ asked_at kind p i b → (asked kind p 1 (single i b)).record_number ≤ top kind → record_of b.fcb + i ≤ top kind
    ap-le e h = let q : (asked kind p 1 (single i b)).record_number ≡ record_of b.fcb + i = ap (λ (a : Asked). a.record_number) e in omega arith

-- ---- the general table lets it pass

module _ (kind : Kind) (n p i : ℕ) (b : Buffers) (ok : Ready kind b) (known : is_unknown (chosen n) ≡ false) (few : p < 16) (drive : bad_drive n b.fcb ≡ false)
    (fits : 128 * i + 128 ≤ length b.dma) where
  drives : bad_drive n (fcb_at i b.fcb) ≡ false
  unfolding bad_drive
  drives = ap (λ (x : ℕ). ltb 1 x and not (eqb n 46) and not (eqb n 143)) (fcb_low i b.fcb ok.fcb_long 0 (omega arith)) ∙ drive

  pub passes : first_of (rows_all kind n p 1 (single i b)) ≡ 0
  unfolding rows_all rows_inside single
  passes =
      sym (row_no 0 3583 _ _ good
      (row_no 0 511 _ _ (ap not ok.image_sound)
      (row_no 0 3327 _ _ (ap not ok.list_sound) (row_no 0 1279 _ _ drives none))))
    where
      good : bad_numbers n p 1 (fcb_at i b.fcb) (dma_at i b.dma) b.list ≡ false
      good = numbers_good n p 1 (fcb_at i b.fcb) (dma_at i b.dma) b.list (record {
        known = known;
        process_fits = few;
        run_some = omega arith;
        run_fits = omega arith;
        fcb_long = fcb_long i b.fcb ok.fcb_long;
        dma_long = dma_long i b.dma fits ∙ ok.dma_long;
        list_long = ok.list_long;
      })

      none : 0 ≡ first_of []
      none = unfold first_of in refl

  -- .. and then its own table and effect are on what the run asks for
  module _ (runs : Runs (chosen n)) where
    rows_at : rows_of (chosen n) (asked kind p 1 (single i b)) (single i b) ≡ rows_of (chosen n) (asked_at kind p i b) b
    rows_at =
        ap (λ (a : Asked). rows_of (chosen n) a (single i b)) (asked_single kind i p b ok.fcb_long)
        ∙ rows_single (chosen n) runs (asked_at kind p i b) i b

    pub code_single : first_of (rows_call kind n p 1 (single i b)) ≡ first_of (rows_of (chosen n) (asked_at kind p i b) b)
    unfolding rows_call
    code_single = first_then (rows_all kind n p 1 (single i b)) _ passes (nonzero_all kind n p 1 (single i b)) ∙ ap first_of rows_at

    pub effect_single : first_of (rows_of (chosen n) (asked_at kind p i b) b) ≡ 0
        → call kind n p 1 (single i b) ≡ effect_of (chosen n) (asked_at kind p i b) (single i b)
    unfolding served
    effect_single z =
        call-served kind n p 1 (single i b) passes ∙ accepts _ _ _ (ap first_of rows_at ∙ z)
        ∙ ap (λ (a : Asked). effect_of (chosen n) a (single i b)) (asked_single kind i p b ok.fcb_long)
