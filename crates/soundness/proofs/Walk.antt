-- Every call ends in one of the leaves. Assumes nothing.
use Prim.Native.Nat.{ℕ, ◌+◌, ◌*◌, ◌/◌, ◌%◌, ◌≤◌, ◌<◌}
use mathlib.Core.Path.{◌≡◌, refl, sym, ap, subst, ◌∙◌}
use mathlib.Core.Bool.{Bool, true, false}
use mathlib.Core.List.{List, map-id}
use mathlib.Core.Logic.{◌⊎◌, inl, inr, ⊎_elim}
use native.Mathlib.Omega.{arith}
use lib.ListN.{length, length-take, length-drop}
use lib.Dec.{eqb, leb, ltb}
use borrow.Author.Tests.{eqb-true, eqb-false, ne_eqb, lt-leb, leb-false, ltb-true, ltb-false}
use Rattle.words.specs.Tests.{◌if◌else◌}
use Rattle.words.specs.Bytes.{part, put}
use Rattle.words.specs.Tables.{first_of, any_row}
use Rattle.words.proofs.Tests.{either, never}
use Rattle.words.proofs.Tables.{some_applies, any_append}
use Rattle.words.proofs.Sets.{and_left}
use Rattle.rules.specs.declared.kind.Kind.{Kind}
use Rattle.rules.specs.declared.routine.Routine.TheVariants.{Open, Close, SearchFirst, SearchNext, Delete, Make, Rename, Read, Write, Size, WriteZeros}
use Rattle.rules.specs.declared.routine.Routine.TheVariants.{TestWrite, Lock, Unlock, FreeSpace, Terminate}
use Rattle.std.specs.Prelude.{Option, Some, None}
use Rattle.rules.specs.declared.routine.Routine.{Routine}
use Rattle.rules.specs.Serves.{Buffers, Outcome, buffers, outcome, chosen, is_unknown, is_search}
use Rattle.rules.specs.Drive.{entry_of, look_up, block_of}
use Rattle.rules.specs.Kinds.{entries}
use Rattle.rules.specs.declared.item.Item.{Item}
use Rattle.rules.specs.Locks.{is_opened, pack, with_items, moved_to}
use Rattle.rules.specs.Asks.{record_of}
use Rattle.rules.specs.Codes.{rows_all, rows42, rows43, stops_rename}
use Rattle.rules.specs.Effects.{searched, finds, finds_none, does15, does16, does17, does18, closed_where, does19, does22, makes, does23, does33, does34, does35}
use Rattle.rules.specs.Effects.{does41, does42, does43, does46, does143}
use Rattle.rules.specs.Call.{asked, asked_by, rows_of, effect_of, rows_call, call}
use Rattle.rules.proofs.Tables.{accepted, refused, nonzero_call}
use Rattle.rules.proofs.Passed.{Passed, passed, known}
use Rattle.rules.proofs.Rows.{passes_15, passes_16, passes_19, passes_22, passes_23, passes_34, passes_41, run_open, passes_42}
use Rattle.soundness.proofs.Leaves.{Leaf, list_of, file_by, new_by, open_by, mode_by, MayMake, MayDelete, MayRename, MayWrite, reopened, newly_opened}
use Rattle.soundness.proofs.Leaves.{newly_made, now_closed, now_erased, now_dropped, now_renamed, now_read, now_sized, now_written, now_rewritten, now_locked}
use Rattle.soundness.proofs.Leaves.{lock_idle, now_unlocked, unlock_idle, now_told, now_ended, now_searched}

-- the entries of the caller's file: of extent 0, and of the extent with the record
abbrev first : Kind → ℕ → Buffers → ℕ
first kind p b = entry_of kind b.image (file_by p b) 0

abbrev entry : Kind → ℕ → Buffers → ℕ
entry kind p b = entry_of kind b.image (file_by p b) (record_of b.fcb / 128)

-- ---- one call's table and effect

module _ (kind : Kind) (n p c : ℕ) (b : Buffers) (ok : Passed kind p c b) where
  open_leaf : chosen n ≡ Some Open → any_row (rows_of (Some Open) (asked kind p c b) b) ≡ false
      → Leaf kind n p c b (effect_of (Some Open) (asked kind p c b) b)
  unfolding rows_of effect_of asked asked_by does15 look_up is_opened ◌if◌else◌
  open_leaf k h =
      let w = passes_15 kind p (list_of b) (open_by p b) (file_by p b) (look_up kind b.image (file_by p b)) b.fcb h in
      ⊎_elim
      (λ (q : ltb (open_by p b) 64 ≡ true).
      let m = ltb-true _ _ q in
      rw q (reopened k ok (record { is_open = m; same-mode = w.same-mode m }) _))
      (λ (q : ltb (open_by p b) 64 ≡ false).
      let m = ltb-false _ _ q in
      rw q (newly_opened k ok (record {
        legal = w.legal;
        there = w.there;
        unopened = m;
        none_against = w.none_against m;
        within = w.within m;
        room = w.room m;
      }) _))
      (either (ltb (open_by p b) 64))

  -- what stands where no row of its own refuses a 22
  pub may_make : any_row (rows_of (Some Make) (asked kind p c b) b) ≡ false → MayMake kind p b
  unfolding rows_of asked asked_by look_up
  may_make h =
      let w = passes_22 kind p (list_of b) (look_up kind b.image (file_by p b)) b.fcb b.image h in
      record { legal = w.legal; gone = w.gone; within = w.within; room = w.room; entry_room = w.entry_room }

  make_leaf : chosen n ≡ Some Make → any_row (rows_of (Some Make) (asked kind p c b) b) ≡ false
      → Leaf kind n p c b (effect_of (Some Make) (asked kind p c b) b)
  unfolding effect_of asked asked_by does22 makes look_up
  make_leaf k h = newly_made k ok (may_make h) _

  close_leaf : chosen n ≡ Some Close → any_row (rows_of (Some Close) (asked kind p c b) b) ≡ false
      → Leaf kind n p c b (effect_of (Some Close) (asked kind p c b) b)
  unfolding rows_of effect_of asked asked_by does16
  close_leaf k h = now_closed k ok (passes_16 (open_by p b) h)

  delete_leaf : chosen n ≡ Some Delete → any_row (rows_of (Some Delete) (asked kind p c b) b) ≡ false
      → Leaf kind n p c b (effect_of (Some Delete) (asked kind p c b) b)
  unfolding rows_of effect_of asked asked_by does19 closed_where look_up is_opened ◌if◌else◌
  delete_leaf k h =
      let w = passes_19 kind p (list_of b) (file_by p b) (look_up kind b.image (file_by p b)) b.fcb b.image h in
      let may : MayDelete kind p b = record { legal = w.legal; there = w.there; none_others = w.unstopped } in
      ⊎_elim
      (λ (q : ltb (open_by p b) 64 ≡ true). rw q (now_dropped k ok may (ltb-true _ _ q)))
      (λ (q : ltb (open_by p b) 64 ≡ false). rw q (now_erased k ok may (ltb-false _ _ q)))
      (either (ltb (open_by p b) 64))

  -- what stands where no row of its own refuses a 23
  pub may_rename : any_row (rows_of (Some Rename) (asked kind p c b) b) ≡ false → MayRename kind p b
  unfolding rows_of asked asked_by look_up stops_rename
  may_rename h =
      let found = look_up kind b.image (file_by p b) in
      let w = passes_23 kind (list_of b) (file_by p b) found (look_up kind b.image (new_by p b)) b.fcb b.image h in
      record { legal = w.legal; legal_new = w.legal_new; there = w.there; unopened = w.unstopped; gone_new = w.gone_new }

  rename_leaf : chosen n ≡ Some Rename → any_row (rows_of (Some Rename) (asked kind p c b) b) ≡ false
      → Leaf kind n p c b (effect_of (Some Rename) (asked kind p c b) b)
  unfolding effect_of asked asked_by does23
  rename_leaf k h = now_renamed k ok (may_rename h)

  -- what a 34 or 40 that no row refuses may do, ..
  pub may_write : any_row (rows_of (Some Write) (asked kind p c b) b) ≡ false → MayWrite kind p b
  unfolding rows_of asked asked_by look_up
  may_write h =
      let w = passes_34 kind p (list_of b) (open_by p b) (file_by p b) (first kind p b) (entry kind p b) (record_of b.fcb) b.image h in
      record {
        is_open = w.may.is_open;
        fits = w.may.fits;
        unlocked_by_others = w.may.none_others;
        entry_room = w.room.entry_room;
        block_room = w.room.block_room;
      }

  write_leaf : (zeros : Bool) → (chosen n ≡ Some Write) ⊎ (chosen n ≡ Some WriteZeros) → any_row (rows_of (Some Write) (asked kind p c b) b) ≡ false
      → Leaf kind n p c b (does34 kind zeros (file_by p b) (first kind p b) (entry kind p b) (record_of b.fcb) b)
  unfolding does34
  write_leaf zeros k h = now_written k ok (may_write h) zeros

  -- .. and a 41: a record that is there needs no room
  pub may_rewrite : any_row (rows_of (Some TestWrite) (asked kind p c b) b) ≡ false
      → MayWrite kind p b × (block_of kind b.image (file_by p b) (record_of b.fcb) ≡ 0 → ⊥)
  unfolding rows_of asked asked_by look_up block_of
  may_rewrite h =
      let w = passes_41 kind p (list_of b) (open_by p b) (file_by p b) (first kind p b) (entry kind p b) (record_of b.fcb) b.dma b.image h in (
        record {
          is_open = w.may.is_open;
          fits = w.may.fits;
          unlocked_by_others = w.may.none_others;
          entry_room = and_left _ _ (lt-leb _ _ w.there.extent);
          block_room = and_left _ _ (ne_eqb _ _ w.there.block);
        },
        w.there.block,
      )

  -- the 128 bytes that 41 writes
  pub second_full : 128 ≤ length (part 128 128 b.dma)
  second_full = let long = ok.ready.dma_long in simp (length-take, length-drop) (omega arith)

  test_leaf : chosen n ≡ Some TestWrite → any_row (rows_of (Some TestWrite) (asked kind p c b) b) ≡ false
      → Leaf kind n p c b (effect_of (Some TestWrite) (asked kind p c b) b)
  unfolding effect_of asked asked_by does41 look_up
  test_leaf k h = let w = may_rewrite h in now_rewritten k ok w.0 w.1 (part 128 128 b.dma) second_full refl

  lock_leaf : chosen n ≡ Some Lock → any_row (rows_of (Some Lock) (asked kind p c b) b) ≡ false
      → Leaf kind n p c b (effect_of (Some Lock) (asked kind p c b) b)
  unfolding rows_of effect_of asked asked_by rows42 does42 ◌if◌else◌
  lock_leaf k h =
      let o = run_open kind (list_of b) (open_by p b) (record_of b.fcb) c b.dma _ h in
      ⊎_elim
      (λ (q : eqb (mode_by p b) 1 ≡ true).
      let m = eqb-true _ _ q in
      let w = passes_42 kind p (list_of b) (open_by p b) (file_by p b) (record_of b.fcb) c b.dma b.image m h in
      rw q (now_locked k ok (record {
        is_open = o;
        is-unlocked = m;
        fits = w.fits;
        have_blocks = w.have_blocks;
        none_others = w.none_others;
        within = w.within;
        room = w.room;
      })))
      (λ (q : eqb (mode_by p b) 1 ≡ false). rw q (lock_idle k ok (record { is_open = o; not_unlocked = eqb-false _ _ q })))
      (either (eqb (mode_by p b) 1))

  unlock_leaf : chosen n ≡ Some Unlock → any_row (rows_of (Some Unlock) (asked kind p c b) b) ≡ false
      → Leaf kind n p c b (effect_of (Some Unlock) (asked kind p c b) b)
  unfolding rows_of effect_of asked asked_by rows43 does43 ◌if◌else◌
  unlock_leaf k h =
      let o = run_open kind (list_of b) (open_by p b) (record_of b.fcb) c b.dma _ h in
      ⊎_elim
      (λ (q : eqb (mode_by p b) 1 ≡ true). rw q (now_unlocked k ok (record { is_open = o; is-unlocked = eqb-true _ _ q })))
      (λ (q : eqb (mode_by p b) 1 ≡ false). rw q (unlock_idle k ok (record { is_open = o; not_unlocked = eqb-false _ _ q })))
      (either (eqb (mode_by p b) 1))

  -- a search ends with the caller's position set
  abbrev found : ℕ → List ℕ
  found e = put 0 (part (128 * (e / 4)) 128 b.image) b.dma

  search_leaf : is_search (chosen n) ≡ true → (e : ℕ) → Leaf kind n p c b (searched kind p (list_of b) e b)
  unfolding searched finds finds_none ◌if◌else◌
  search_leaf k e =
      ⊎_elim
      (λ (q : leb (entries kind) e ≡ true).
      rw q (subst (λ (xs : List Item). Leaf kind n p c b (outcome 255
      (buffers b.fcb b.dma (pack (moved_to p (entries kind) (with_items (list_of b) xs))) b.image)))
      (map-id (list_of b).items) (now_searched k ok 255 (entries kind) (omega arith) b.dma)))
      (λ (q : leb (entries kind) e ≡ false).
      let l : e < entries kind = leb-false _ _ q in
      rw q (subst (λ (xs : List Item). Leaf kind n p c b (outcome (e % 4)
      (buffers b.fcb (found e) (pack (moved_to p (e + 1) (with_items (list_of b) xs))) b.image)))
      (map-id (list_of b).items) (now_searched k ok (e % 4) (e + 1) (omega arith) (found e))))
      (either (leb (entries kind) e))

  leaf : (k : Option Routine) → chosen n ≡ k → is_unknown k ≡ false → any_row (rows_of k (asked kind p c b) b) ≡ false
      → Leaf kind n p c b (effect_of k (asked kind p c b) b)
  unfolding effect_of rows_of asked asked_by look_up does17 does18 does33 does35 does46 does143 is_unknown is_search
  leaf (Some Open) k u h = open_leaf k h
  leaf (Some Close) k u h = close_leaf k h
  leaf (Some SearchFirst) k u h = search_leaf (ap is_search k) _
  leaf (Some SearchNext) k u h = search_leaf (ap is_search k) _
  leaf (Some Delete) k u h = delete_leaf k h
  leaf (Some Make) k u h = make_leaf k h
  leaf (Some Rename) k u h = rename_leaf k h
  leaf (Some Read) k u h = now_read k ok _
  leaf (Some Write) k u h = write_leaf false (inl k) h
  leaf (Some Size) k u h = now_sized k ok _
  leaf (Some WriteZeros) k u h = write_leaf true (inr k) h
  leaf (Some TestWrite) k u h = test_leaf k h
  leaf (Some Lock) k u h = lock_leaf k h
  leaf (Some Unlock) k u h = unlock_leaf k h
  leaf (Some FreeSpace) k u h = now_told k ok _
  leaf (Some Terminate) k u h = now_ended k ok
  leaf None k u h = absurd (never refl u)

-- a call's own table lets it pass where the whole one does
pub split : (kind : Kind) (n p c : ℕ) (b : Buffers) → any_row (rows_call kind n p c b) ≡ false
    → (any_row (rows_all kind n p c b) ≡ false) × (any_row (rows_of (chosen n) (asked kind p c b) b) ≡ false)
unfolding rows_call
split kind n p c b h = any_append (rows_all kind n p c b) (rows_of (chosen n) (asked kind p c b) b) h

-- what an accepted call has passed, and what it did
pub record Accepted (kind : Kind) (n p c : ℕ) (b : Buffers) (k : Option Routine) : Type 0 where
  -- the general table lets it pass, ..
  pub ok : Passed kind p c b
  -- .. and so does its own
  pub passes : any_row (rows_of k (asked kind p c b) b) ≡ false
  -- its outcome is the effect of the call
  pub did : call kind n p c b ≡ effect_of k (asked kind p c b) b

-- a call that no row refuses has passed both tables, and its outcome is the effect of the call that its function chooses
pub accepted_as : (kind : Kind) (n p c : ℕ) (b : Buffers) (k : Option Routine) → chosen n ≡ k → any_row (rows_call kind n p c b) ≡ false → Accepted kind n p c b k
accepted_as kind n p c b k e h =
    let g = split kind n p c b h in
    record {
      ok = passed kind n p c b g.0;
      passes = subst (λ (x : Option Routine). any_row (rows_of x (asked kind p c b) b) ≡ false) e g.1;
      did = accepted kind n p c b h ∙ ap (λ (x : Option Routine). effect_of x (asked kind p c b) b) e;
    }

-- every call ends in a leaf
pub walk : (kind : Kind) (n p c : ℕ) (b : Buffers) → Leaf kind n p c b (call kind n p c b)
walk kind n p c b =
    ⊎_elim
    (λ (h : any_row (rows_call kind n p c b) ≡ true).
    subst (λ (o : Outcome). Leaf kind n p c b o) (sym (refused kind n p c b h))
    (Rattle.soundness.proofs.Leaves.refused (first_of (rows_call kind n p c b))
    (eqb-false _ _ (some_applies (rows_call kind n p c b) (nonzero_call kind n p c b) h))))
    (λ (h : any_row (rows_call kind n p c b) ≡ false).
    let g = split kind n p c b h in
    subst (λ (o : Outcome). Leaf kind n p c b o) (sym (accepted kind n p c b h))
    (leaf kind n p c b (passed kind n p c b g.0) (chosen n) refl (known kind n p c b g.0) g.1))
    (either (any_row (rows_call kind n p c b)))
