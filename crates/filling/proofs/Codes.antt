-- What an Open and a Lock answer over the book, from what their callers hold: refused for want of a place alone, or accepted. Assumes nothing.
use Prim.Native.Nat.{ℕ, ◌+◌, ◌<◌, ◌≤◌}
use mathlib.Core.Path.{◌≡◌, refl, sym, ap, ◌∙◌}
use mathlib.Core.Bool.{false}
use mathlib.Core.List.{List, [], ◌∷◌}
use native.Mathlib.Omega.{arith}
use lib.ListN.{replicate}
use lib.Dec.{leb, ltb}
use borrow.Author.Tests.{eq-eqb, ne_eqb, lt-leb, le-leb, lt-ltb, le-ltb}
use Rattle.words.specs.Tests.{◌or◌, ◌if◌else◌, any, count, lowest}
use Rattle.words.specs.Lists.{turns}
use Rattle.words.specs.Tables.{◌∕◌, ◌when◌, first_of, any_row}
use Rattle.words.proofs.Tests.{any_never, lowest_none}
use Rattle.words.proofs.Tables.{none_applies}
use Rattle.words.proofs.Sets.{and_both, and_left, or_none, not_of_false, not_of_true, row_yes, row_no, row_none, only_on}
use Rattle.rules.specs.declared.kind.Kind.TheVariants.{Small}
use Rattle.rules.specs.declared.kind.Rule.TheVariants.{Mpm}
use Rattle.rules.specs.Kinds.{rule_of, highest, entries, top}
use Rattle.rules.specs.declared.file.File.{File}
use Rattle.rules.specs.declared.list.LockList.{LockList}
use Rattle.rules.specs.Serves.{Outcome, buffers, chosen, is_unknown}
use Rattle.rules.specs.Drive.{look_up, missing}
use Rattle.rules.specs.Locks.{fresh_lock, item_at, unpack, pack, open_of, is_opened, locked_by_other, held, opens_by, locks_by, free_place, free_places}
use Rattle.rules.specs.Asks.{caller_file, record_of, last_of, open_mode}
use Rattle.rules.specs.Codes.{bad_drive, rows_inside, rows_all, stands_against_at, rows_new, rows15, is_file_id, rows_run, lacks, first_lacking, rows_lacking, is_others}
use Rattle.rules.specs.Codes.{is_new, rows_take, rows42}
use Rattle.rules.specs.Effects.{placed, opened, locked_at, locked_run, does15, does42}
use Rattle.rules.specs.Call.{asked, asked_by, rows_of, effect_of}
use Rattle.rules.specs.Several.{serves_run, call_run}
use Rattle.rules.proofs.Several.{run_plain}
use Rattle.rules.proofs.Passed.{Passed, passed, numbers_good}
use Rattle.rules.proofs.Tables.{accepts, refuses, call-served}
use Rattle.soundness.proofs.Kept.{SoundBoth}
use Rattle.filling.specs.Book.{name_of, book, fcb_for, dma_for, file_no}
use Rattle.filling.proofs.Book.{there, blocked, legal, caller-file, fcb_long, dma_long, fcb_mode, fcb_record}

-- ---- the general table

module _ (n q j r id : ℕ) (list : List ℕ) (known : is_unknown (chosen n) ≡ false) (m : q < 16) (w : SoundBoth (Small Mpm) list book) where
  -- no row of the general table applies, ..
  pub quiet : any_row (rows_all (Small Mpm) n q 1 (buffers (fcb_for j r) (dma_for id) list book)) ≡ false
  unfolding rows_all rows_inside bad_drive any_row fcb_for
  quiet = or_none _ _ (numbers_good n q 1 (fcb_for j r) (dma_for id) list (record {
    known = known;
    process_fits = m;
    run_some = omega arith;
    run_fits = omega arith;
    fcb_long = fcb_long j r;
    dma_long = dma_long id;
    list_long = w.list_long;
  })) (or_none _ _ (not_of_true _ w.image_sound) (or_none _ _ (not_of_true _ w.list_sound) (or_none _ _ (and_left _ _ refl) refl)))

  -- .. so the call may rely on what that table asks
  pub through : Passed (Small Mpm) q 1 (buffers (fcb_for j r) (dma_for id) list book)
  through = passed (Small Mpm) n q 1 (buffers (fcb_for j r) (dma_for id) list book) quiet

-- ---- 15

-- the caller has the file not open, all opens are unlocked, and the caller is below its open limit
pub record CanOpen (q j : ℕ) (l : LockList) : Type 0 where
  pub file_fits : j < 64
  pub users : l.users ≡ replicate 16 0
  pub unopened : open_of l q (file_no j) ≡ 64
  pub none_against : any (stands_against_at l q (file_no j) 1) 64 ≡ false
  pub within : opens_by l q < l.openlimit

open_rows : (q j r : ℕ) (l : LockList) → CanOpen q j l
    → first_of (rows15 (Small Mpm) q l (open_of l q (file_no j)) (file_no j) (look_up (Small Mpm) book (file_no j)) (fcb_for j r))
    ≡ first_of (255 ∕ 11 when leb l.capacity (free_place l) ∷ [])
unfolding rows15 rows_new missing look_up is_opened entries
open_rows q j r l w = sym (row_no _ _ _ _ (not_of_true _ (legal j r w.file_fits)) (row_no _ _ _ _ (lt-leb 64 _ (there j w.file_fits))
    (row_no _ _ _ _ (and_left _ _ closed) (only_on _ _ _ (not_of_false _ closed)
    (row_no _ _ _ _ against (row_no _ _ _ _ (lt-leb _ _ w.within) refl))))))
  where
    closed : ltb (open_of l q (file_no j)) 64 ≡ false
    closed = le-ltb (open_of l q (file_no j)) 64 (let e = w.unopened in omega arith)

    against : any (stands_against_at l q (file_no j) (open_mode (fcb_for j r))) 64 ≡ false
    against = ap (λ (mode : ℕ). any (stands_against_at l q (file_no j) mode) 64) (fcb_mode j r) ∙ w.none_against

-- ---- 42

-- the caller has the first file open unlocked at that place, nobody has locked the record, and the caller is below its lock limit
pub record CanLock (q r id : ℕ) (l : LockList) : Type 0 where
  pub record_fits : r < 64
  pub users : l.users ≡ replicate 16 0
  pub is_open : open_of l q (file_no 0) ≡ id
  pub below : id < 64
  pub unlocked : (item_at l id).mode ≡ 1
  pub none_others : locked_by_other l q (file_no 0) r ≡ false
  pub unheld : held l q (file_no 0) r ≡ false
  pub within : locks_by l q + 1 ≤ l.locklimit

lock_rows : (q r id : ℕ) (l : LockList) → CanLock q r id l
    → first_of (rows42 (Small Mpm) q l id (file_no 0) r 1 (dma_for id) book) ≡ first_of (14 ∕ 0 when ltb (free_places l) 1 ∷ [])
unfolding rows42 rows_run rows_lacking rows_take first_lacking is_opened is_file_id dma_for top highest rule_of
lock_rows q r id l w = sym (row_no _ _ _ _ (not_of_true _ (lt-ltb id 64 w.below)) (only_on _ _ _ (eq-eqb _ _ w.unlocked)
    (row_no _ _ _ _ (not_of_true _ (and_both _ _ (eq-eqb id id refl) refl)) (row_no _ _ _ _ (le-ltb (top (Small Mpm)) (last_of r 1) fits)
    (row_no _ _ _ _ (and_left _ _ none_lack) (row_no _ _ _ _ none_lack
    (row_no _ _ _ _ others (row_no _ _ _ _ (le-ltb _ _ w.within) (ap (λ (x : ℕ). first_of (14 ∕ 0 when ltb (free_places l) x ∷ [])) (sym one_new))))))))))
  where
    fits : last_of r 1 ≤ top (Small Mpm)
    fits = let m = w.record_fits in omega arith

    none_lack : ltb (lowest (lacks (Small Mpm) book (file_no 0) r) 1) 1 ≡ false
    none_lack = rw (lowest_none (lacks (Small Mpm) book (file_no 0) r) 1 (any_never (lacks (Small Mpm) book (file_no 0) r) 1 (λ i m. has i m))) refl
      where
        has : (i : ℕ) → i < 1 → lacks (Small Mpm) book (file_no 0) r i ≡ false
        has i m = unfold lacks in ne_eqb _ _ (blocked (r + i) (let k = w.record_fits in omega arith))

    others : any (is_others l q (file_no 0) r) 1 ≡ false
    others = any_never (is_others l q (file_no 0) r) 1 (λ i m. other i m)
      where
        other : (i : ℕ) → i < 1 → is_others l q (file_no 0) r i ≡ false
        other i m = unfold is_others in (let z : r + i ≡ r = omega arith in rw z w.none_others)

    one_new : count (is_new l q (file_no 0) r) 1 ≡ 1
    one_new = unfold count is_new ◌if◌else◌ in (let z : r + 0 ≡ r = omega arith in rw (z, w.unheld) refl)

-- ---- the outcomes

-- what is kept of an outcome: the list, over the book
pub record Leaves (o : Outcome) (list : List ℕ) : Type 0 where
  pub list_is : o.left.list ≡ list
  pub image_is : o.left.image ≡ book

module _ (q j id : ℕ) (list : List ℕ) (m : q < 16) (s : SoundBoth (Small Mpm) list book) (w : CanOpen q j (unpack list)) where
  abbrev opens : Outcome
  opens = call_run (Small Mpm) 15 q 1 (buffers (fcb_for j 0) (dma_for id) list book)

  file : caller_file q (unpack list) (fcb_for j 0) ≡ file_no j
  file = caller-file q (unpack list) j 0 m w.users w.file_fits

  own_open : first_of (rows_of (chosen 15) (asked (Small Mpm) q 1 (buffers (fcb_for j 0) (dma_for id) list book)) (buffers (fcb_for j 0) (dma_for id) list book))
      ≡ first_of (255 ∕ 11 when leb (unpack list).capacity (free_place (unpack list)) ∷ [])
  unfolding chosen rows_of asked asked_by ◌if◌else◌
  own_open =
      ap (λ (f : File). first_of (rows15 (Small Mpm) q (unpack list) (open_of (unpack list) q f) f (look_up (Small Mpm) book f) (fcb_for j 0))) file
      ∙ open_rows q j 0 (unpack list) w

  served_open : opens ≡ Rattle.rules.specs.Call.served (Small Mpm) (chosen 15) q 1 (buffers (fcb_for j 0) (dma_for id) list book)
  unfolding serves_run ◌or◌
  served_open =
      run_plain (Small Mpm) 15 q 1 (buffers (fcb_for j 0) (dma_for id) list book) refl
      ∙ call-served (Small Mpm) 15 q 1 (buffers (fcb_for j 0) (dma_for id) list book) (none_applies _ (quiet 15 q j 0 id list (known 15 refl) m s))
    where
      known : (n : ℕ) → n ≡ 15 → is_unknown (chosen n) ≡ false
      known n e = unfold chosen is_unknown ◌if◌else◌ in rw e refl

  -- no place is empty: 255/11
  pub open_full : (unpack list).capacity ≤ free_place (unpack list) → opens.answer ≡ 255 ∕ 11
  unfolding Rattle.rules.specs.Call.served
  open_full full =
      let code = own_open ∙ sym (row_yes (255 ∕ 11) (255 ∕ 11) _ [] (le-leb _ _ full) refl) in
      ap (λ (o : Outcome). o.answer) (served_open ∙ refuses _ _ _ (λ z. nonzero (sym code ∙ z))) ∙ code
    where
      nonzero : 255 ∕ 11 ≡ 0 → ⊥
      nonzero z = absurd (omega arith)

  -- one is: the open stands there
  pub open_does : free_place (unpack list) < (unpack list).capacity → Leaves opens (pack (opened q (file_no j) 1 (unpack list)))
  unfolding Rattle.rules.specs.Call.served
  open_does room =
      let code = own_open ∙ sym (row_no 0 (255 ∕ 11) _ [] (lt-leb _ _ room) (row_none 0 refl)) in
      rw (served_open ∙ accepts _ _ _ code) left
    where
      left : Leaves (effect_of (chosen 15) (asked (Small Mpm) q 1 (buffers (fcb_for j 0) (dma_for id) list book)) (buffers (fcb_for j 0) (dma_for id) list book))
          (pack (opened q (file_no j) 1 (unpack list)))
      left = unfold chosen effect_of asked asked_by does15 is_opened ◌if◌else◌ in
          rw (file, le-ltb (open_of (unpack list) q (file_no j)) 64 (let e = w.unopened in omega arith), fcb_mode j 0)
          (record { list_is = refl; image_is = refl })

module _ (q r id : ℕ) (list : List ℕ) (m : q < 16) (s : SoundBoth (Small Mpm) list book) (w : CanLock q r id (unpack list)) where
  abbrev locks : Outcome
  locks = call_run (Small Mpm) 42 q 1 (buffers (fcb_for 0 r) (dma_for id) list book)

  first_file : caller_file q (unpack list) (fcb_for 0 r) ≡ file_no 0
  first_file = caller-file q (unpack list) 0 r m w.users (omega arith)

  own_lock : first_of (rows_of (chosen 42) (asked (Small Mpm) q 1 (buffers (fcb_for 0 r) (dma_for id) list book)) (buffers (fcb_for 0 r) (dma_for id) list book))
      ≡ first_of (14 ∕ 0 when ltb (free_places (unpack list)) 1 ∷ [])
  unfolding chosen rows_of asked asked_by ◌if◌else◌
  own_lock =
      ap (λ (f : File). first_of (rows42 (Small Mpm) q (unpack list) (open_of (unpack list) q f) f (record_of (fcb_for 0 r)) 1 (dma_for id) book)) first_file
      ∙ ap (λ (x : ℕ). first_of (rows42 (Small Mpm) q (unpack list) (open_of (unpack list) q (file_no 0)) (file_no 0) x 1 (dma_for id) book)) (fcb_record 0 r)
      ∙ ap (λ (o : ℕ). first_of (rows42 (Small Mpm) q (unpack list) o (file_no 0) r 1 (dma_for id) book)) w.is_open
      ∙ lock_rows q r id (unpack list) w

  served_lock : locks ≡ Rattle.rules.specs.Call.served (Small Mpm) (chosen 42) q 1 (buffers (fcb_for 0 r) (dma_for id) list book)
  unfolding serves_run ◌or◌
  served_lock =
      run_plain (Small Mpm) 42 q 1 (buffers (fcb_for 0 r) (dma_for id) list book) refl
      ∙ call-served (Small Mpm) 42 q 1 (buffers (fcb_for 0 r) (dma_for id) list book) (none_applies _ (quiet 42 q 0 r id list (known 42 refl) m s))
    where
      known : (n : ℕ) → n ≡ 42 → is_unknown (chosen n) ≡ false
      known n e = unfold chosen is_unknown ◌if◌else◌ in rw e refl

  -- no place is empty: 14/0
  pub lock_full : free_places (unpack list) ≡ 0 → locks.answer ≡ 14 ∕ 0
  unfolding Rattle.rules.specs.Call.served
  lock_full full =
      let code = own_lock ∙ sym (row_yes (14 ∕ 0) (14 ∕ 0) _ [] (lt-ltb (free_places (unpack list)) 1 (omega arith)) refl) in
      ap (λ (o : Outcome). o.answer) (served_lock ∙ refuses _ _ _ (λ z. nonzero (sym code ∙ z))) ∙ code
    where
      nonzero : 14 ∕ 0 ≡ 0 → ⊥
      nonzero z = absurd (omega arith)

  -- one is: the lock stands there
  pub lock_does : 1 ≤ free_places (unpack list) → Leaves locks (pack (placed (fresh_lock q (name_of 0) r) (unpack list)))
  unfolding Rattle.rules.specs.Call.served
  lock_does room =
      let code = own_lock ∙ sym (row_no 0 (14 ∕ 0) _ [] (le-ltb (free_places (unpack list)) 1 (omega arith)) (row_none 0 refl)) in
      rw (served_lock ∙ accepts _ _ _ code) left
    where
      left : Leaves (effect_of (chosen 42) (asked (Small Mpm) q 1 (buffers (fcb_for 0 r) (dma_for id) list book)) (buffers (fcb_for 0 r) (dma_for id) list book))
          (pack (placed (fresh_lock q (name_of 0) r) (unpack list)))
      left = unfold chosen effect_of asked asked_by does42 locked_run locked_at turns ◌if◌else◌ file_no in
          (let z : r + 0 ≡ r = omega arith in
          rw (first_file, fcb_record 0 r, w.is_open, w.unlocked, z, w.unheld) (record { list_is = refl; image_is = refl }))
