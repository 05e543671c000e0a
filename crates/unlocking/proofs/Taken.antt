-- What an Unlock does: its answer is its table's, and the locks of its run go or nothing does. Another Unlock finds the same table after it.
-- Assumes nothing.
use Prim.Native.Nat.{ℕ, ◌<◌}
use mathlib.Core.Path.{◌≡◌, refl, sym, ap, subst, ◌∙◌}
use mathlib.Core.Bool.{Bool, true, false, not}
use mathlib.Core.List.{List, [], ◌∷◌, ◌++◌}
use mathlib.Core.Logic.{◌⊎◌, inl, inr, ⊎_elim}
use native.Mathlib.Omega.{arith}
use lib.ListN.{length}
use lib.Dec.{eqb, leb, ltb}
use borrow.Author.Tests.{eqb-true, not-true}
use Rattle.words.specs.Tests.{◌and◌, ◌or◌, ◌if◌else◌}
use Rattle.words.specs.Tables.{Row, ◌∕◌, ◌when◌, only_if, first_of, any_row}
use Rattle.words.proofs.Tests.{either, and_fst}
use Rattle.words.proofs.Tables.{none_applies, any_append}
use Rattle.rules.specs.declared.kind.Kind.{Kind}
use Rattle.rules.specs.declared.file.File.{File}
use Rattle.rules.specs.declared.item.Item.{Item}
use Rattle.rules.specs.declared.list.LockList.{LockList}
use Rattle.rules.specs.Serves.{outcome, chosen, is_unknown}
use Rattle.rules.specs.Drive.{sound_image}
use Rattle.rules.specs.Locks.{empty_place, item_at, open_of, unpack, pack, sound_list, is_opened}
use Rattle.rules.specs.Asks.{caller_file, record_of, last_of}
use Rattle.rules.specs.Codes.{bad_numbers, bad_drive, rows_inside, rows_all, is_file_id, rows_run, rows43}
use Rattle.rules.specs.Effects.{is_in_run, does43}
use Rattle.rules.specs.Call.{asked, asked_by, rows_of, effect_of, rows_call}
use Rattle.rules.proofs.Tables.{accepted, refused}
use Rattle.rules.proofs.Lists.{gone_if, without_all, unlocked_is, without_commute, without_twice}
use Rattle.rules.proofs.Passed.{Passed, passed}
use Rattle.rules.proofs.SoundList.{unpack_shape, unpacked, list_sound_so}
use Rattle.rules.proofs.Packing.{pack_long}
use Rattle.soundness.proofs.Kept.{SoundBoth}
use Rattle.soundness.proofs.Emptied.{Empties, at_gone, at_kept, unlock_whole}
use Rattle.soundness.proofs.Shapes.{SoundShape, emptied_shape}
use Rattle.unlocking.specs.Unlocks.{Asking, lent_to, unlocks, file_of_caller}
use Rattle.unlocking.proofs.Opens.{NoOpens, SameOpens, file_same, open_same, mode_same}
use Rattle.rules.specs.Kinds.{top}

-- the mode of the caller's open of its file
unfoldable pub mode_of : Asking → List ℕ → ℕ
mode_of q list = (item_at (unpack list) (open_of (unpack list) q.process (file_of_caller q list))).mode

-- ---- the table of 43 reads of the list its length, that it is sound, and the caller's open

-- the general table, of a list that is sound
all_as : (kind : Kind) (n p c : ℕ) (fcb dma list image : List ℕ) → length list ≡ 1316 → sound_list kind list image ≡ true
    → rows_all kind n p c (record { fcb = fcb; dma = dma; list = list; image = image })
    ≡ 255 ∕ 13 when (is_unknown (chosen n) or leb 16 p or ltb c 1 or ltb 16 c or not (eqb (length fcb) 36) or not (eqb (length dma) 2048) or false)
    ∷ 255 ∕ 1 when not (sound_image kind image) ∷ 255 ∕ 12 when false ∷ 255 ∕ 4 when bad_drive n fcb ∷ []
unfolding rows_all rows_inside bad_numbers
all_as kind n p c fcb dma list image long sound = rw (long, sound) refl

mode_rows : (kind : Kind) (l k : LockList) (o r n : ℕ) (dma : List ℕ) → (item_at k o).mode ≡ (item_at l o).mode → rows43 kind k o r n dma ≡ rows43 kind l o r n dma
unfolding rows43 rows_run
mode_rows kind l k o r n dma e =
    ap (λ (m : ℕ). 10 ∕ 0 when not (is_opened o) ∷ only_if (eqb m 1) (13 ∕ 0 when not (is_file_id dma o) ∷ 6 ∕ 0 when ltb (top kind) (last_of r n) ∷ [])) e

run_rows : (kind : Kind) (l k : LockList) → SameOpens l k → (p : ℕ) (fcb dma : List ℕ) (r n : ℕ)
    → rows43 kind k (open_of k p (caller_file p k fcb)) r n dma ≡ rows43 kind l (open_of l p (caller_file p l fcb)) r n dma
run_rows kind l k w p fcb dma r n =
    let f = caller_file p l fcb in
    ap (λ (g : File). rows43 kind k (open_of k p g) r n dma) (file_same l k w p fcb)
    ∙ ap (λ (o : ℕ). rows43 kind k o r n dma) (open_same l k w p f) ∙ mode_rows kind l k (open_of l p f) r n dma (mode_same l k w p f)

module _ (kind : Kind) (image : List ℕ) (u : Asking) where
  -- its table on a list, ..
  abbrev pub table_of : List ℕ → List Row
  table_of list = rows_call kind 43 u.process u.count (lent_to u list image)

  -- .. the items that it takes away where it does anything, ..
  abbrev pub away_on : List ℕ → Item → Bool
  away_on list = is_in_run u.process (caller_file u.process (unpack list) u.fcb) (record_of u.fcb) u.count

  -- .. whether it does, ..
  abbrev pub acts_on : List ℕ → Bool
  acts_on list = not (any_row (table_of list)) and eqb (mode_of u list) 1

  -- .. and the list that it leaves
  abbrev pub left_of : List ℕ → List ℕ
  left_of list = pack (without_all (away_on list) (unpack list)) if acts_on list else list

  -- 43's own table, of what the call finds
  pub own_table : (list : List ℕ) → rows_of (chosen 43) (asked kind u.process u.count (lent_to u list image)) (lent_to u list image)
      ≡ rows43 kind (unpack list) (open_of (unpack list) u.process (caller_file u.process (unpack list) u.fcb)) (record_of u.fcb) u.count u.dma
  unfolding chosen rows_of asked asked_by ◌if◌else◌
  own_table list = refl

  own_effect : (list : List ℕ) → effect_of (chosen 43) (asked kind u.process u.count (lent_to u list image)) (lent_to u list image)
      ≡ outcome 0 (lent_to u (pack (without_all (away_on list) (unpack list)) if eqb (mode_of u list) 1 else list) image)
  unfolding chosen effect_of asked asked_by does43 mode_of ◌if◌else◌
  own_effect list =
      ⊎_elim (λ (q : eqb (mode_of u list) 1 ≡ true). rw (q, unlocked_is) refl) (λ (q : eqb (mode_of u list) 1 ≡ false). rw q refl)
      (either (eqb (mode_of u list) 1))

  -- the outcome of an Unlock
  pub unlock_is : (list : List ℕ) → unlocks kind u list image ≡ outcome (first_of (table_of list)) (lent_to u (left_of list) image)
  unfolding unlocks ◌if◌else◌ ◌and◌
  unlock_is list =
      ⊎_elim
      (λ (q : any_row (table_of list) ≡ true). refused kind 43 u.process u.count (lent_to u list image) q ∙ rw q refl)
      (λ (q : any_row (table_of list) ≡ false).
      accepted kind 43 u.process u.count (lent_to u list image) q ∙ own_effect list ∙ rw (q, none_applies (table_of list) q) refl)
      (either (any_row (table_of list)))

-- ---- a list with the same opens, sound too

pub record SameTable (kind : Kind) (image : List ℕ) (u : Asking) (list after : List ℕ) : Type 0 where
  pub table : table_of kind image u after ≡ table_of kind image u list
  pub acts : acts_on kind image u after ≡ acts_on kind image u list
  pub away : away_on kind image u after ≡ away_on kind image u list

module _ (kind : Kind) (image list after : List ℕ) (was : SoundBoth kind list image) (now : SoundBoth kind after image)
    (w : SameOpens (unpack list) (unpack after)) where
  -- an Unlock has the same table there, the same mode and the same run
  pub same_table : (u : Asking) → SameTable kind image u list after
  unfolding rows_call mode_of
  same_table u =
      let p = u.process in
      let general : rows_all kind 43 p u.count (lent_to u after image) ≡ rows_all kind 43 p u.count (lent_to u list image) =
      all_as kind 43 p u.count u.fcb u.dma after image now.list_long now.list_sound
      ∙ sym (all_as kind 43 p u.count u.fcb u.dma list image was.list_long was.list_sound) in
      let own = own_table kind image u after ∙ run_rows kind (unpack list) (unpack after) w p u.fcb u.dma (record_of u.fcb) u.count
      ∙ sym (own_table kind image u list) in
      let rows : table_of kind image u after ≡ table_of kind image u list = λ i. general i ++ own i in
      let mode : mode_of u after ≡ mode_of u list = mode-of p u.fcb in
      record {
        table = rows;
        acts = λ i. not (any_row (rows i)) and eqb (mode i) 1;
        away = λ i. is_in_run p (file_same (unpack list) (unpack after) w p u.fcb i) (record_of u.fcb) u.count;
      }
    where
      mode-of : (p : ℕ) (fcb : List ℕ) → (item_at (unpack after) (open_of (unpack after) p (caller_file p (unpack after) fcb))).mode
          ≡ (item_at (unpack list) (open_of (unpack list) p (caller_file p (unpack list) fcb))).mode
      mode-of p fcb =
          let f = caller_file p (unpack list) fcb in
          ap (λ (g : File). (item_at (unpack after) (open_of (unpack after) p g)).mode) (file_same (unpack list) (unpack after) w p fcb)
          ∙ ap (λ (o : ℕ). (item_at (unpack after) o).mode) (open_same (unpack list) (unpack after) w p f) ∙ mode_same (unpack list) (unpack after) w p f

-- ---- an Unlock that does something

-- `gone_if` empties what its test names
pub gone_empties : (away : Item → Bool) → Empties away (gone_if away)
unfolding gone_if
gone_empties away = record { turned = λ it. refl }

module _ (kind : Kind) (image : List ℕ) (v : Asking) (list : List ℕ) (acts : acts_on kind image v list ≡ true) where
  -- it passed the general table
  pub acts_passed : Passed kind v.process v.count (lent_to v list image)
  unfolding rows_call
  acts_passed = passed kind 43 v.process v.count (lent_to v list image)
      (any_append (rows_all kind 43 v.process v.count (lent_to v list image)) _ (not-true _ (and_fst _ _ acts))).0

  acts_was : SoundBoth kind list image
  acts_was = let r = acts_passed.ready in record { image_sound = r.image_sound; list_long = r.list_long; list_sound = r.list_sound }

  abbrev gone : LockList
  gone = without_all (away_on kind image v list) (unpack list)

  gone_shape : SoundShape kind gone image
  unfolding without_all
  gone_shape =
      let f = caller_file v.process (unpack list) v.fcb in
      let r = record_of v.fcb in
      emptied_shape kind v.process v.count (lent_to v list image) acts_passed _ _
      (gone_empties (away_on kind image v list)) (unlock_whole (unpack list) v.process f r v.count)

  place_same : (i : ℕ) → i < 64 → (item_at gone i ≡ item_at (unpack list) i) ⊎ NoOpens (item_at (unpack list) i) (item_at gone i)
  unfolding without_all is_in_run
  place_same i m =
      let away = away_on kind image v list in
      ⊎_elim
      (λ (q : away (item_at (unpack list) i) ≡ true).
      let e = at_gone (unpack list) away (gone_if away) (gone_empties away) (unpack_shape list) i m q in
      let two : (item_at (unpack list) i).kind ≡ 2 = eqb-true _ _ (and_fst _ _ q) in
      inr (record { not_was = λ (z : (item_at (unpack list) i).kind ≡ 1). absurd (omega arith); not_now = λ (z : (item_at gone i).kind ≡ 1). gone_zero i e z }))
      (λ (q : away (item_at (unpack list) i) ≡ false). inl (at_kept (unpack list) away (gone_if away) (gone_empties away) (unpack_shape list) i m q))
      (either (away (item_at (unpack list) i)))
    where
      gone_zero : (i : ℕ) → item_at gone i ≡ empty_place → (item_at gone i).kind ≡ 1 → ⊥
      gone_zero i e z = let y : ◌≡◌ {A = ℕ} 0 1 = sym (ap (λ (it : Item). it.kind) e) ∙ z in absurd (omega arith)

  -- what its list reads as, ..
  pub acts_unpacked : unpack (pack gone) ≡ gone
  acts_unpacked = unpacked kind gone image gone_shape.sound gone_shape.shape

  acts_now : SoundBoth kind (pack gone) image
  acts_now = record {
    image_sound = acts_was.image_sound;
    list_long = pack_long gone gone_shape.shape.items_long;
    list_sound = list_sound_so kind gone image gone_shape.sound gone_shape.shape;
  }

  acts_opens : SameOpens (unpack list) (unpack (pack gone))
  unfolding without_all
  acts_opens = rw acts_unpacked (record {
    users = refl;
    long_was = (unpack_shape list).items_long;
    long_now = gone_shape.shape.items_long;
    place = place_same;
  })

  -- .. and another Unlock finds the same table
  pub acts_same : (u : Asking) → SameTable kind image u list (pack gone)
  acts_same u = same_table kind image list (pack gone) acts_was acts_now acts_opens u

-- ---- .. and one that does nothing, too

module _ (kind : Kind) (image : List ℕ) where
  -- where it does nothing the list stays, ..
  pub unacted : (v : Asking) (list : List ℕ) → acts_on kind image v list ≡ false → left_of kind image v list ≡ list
  unfolding ◌if◌else◌
  unacted v list h = rw h refl

  -- .. else the items of its run are gone
  pub acted : (v : Asking) (list : List ℕ) → acts_on kind image v list ≡ true
      → left_of kind image v list ≡ pack (without_all (away_on kind image v list) (unpack list))
  unfolding ◌if◌else◌
  acted v list h = rw h refl

  -- after any Unlock another finds the same table
  pub left_same : (u v : Asking) (list : List ℕ) → SameTable kind image u list (left_of kind image v list)
  left_same u v list =
      ⊎_elim
      (λ (h : acts_on kind image v list ≡ true).
      subst (λ (k : List ℕ). SameTable kind image u list k) (sym (acted v list h)) (acts_same kind image v list h u))
      (λ (h : acts_on kind image v list ≡ false).
      subst (λ (k : List ℕ). SameTable kind image u list k) (sym (unacted v list h)) (record { table = refl; acts = refl; away = refl }))
      (either (acts_on kind image v list))

  -- the list after v and then u, where both do something
  both_left : (u v : Asking) (list : List ℕ) → acts_on kind image u list ≡ true → acts_on kind image v list ≡ true
      → left_of kind image u (left_of kind image v list) ≡ pack (without_all (away_on kind image u list) (without_all (away_on kind image v list) (unpack list)))
  both_left u v list a h =
      let k = pack (without_all (away_on kind image v list) (unpack list)) in
      let w = acts_same kind image v list h u in
      ap (left_of kind image u) (acted v list h) ∙ acted u k (w.acts ∙ a)
      ∙ ap (λ (away : Item → Bool). pack (without_all away (unpack k))) w.away
      ∙ ap (λ (l : LockList). pack (without_all (away_on kind image u list) l)) (acts_unpacked kind image v list h)

  -- .. and where one does nothing
  idle_last : (u v : Asking) (list : List ℕ) → acts_on kind image u list ≡ false → left_of kind image u (left_of kind image v list) ≡ left_of kind image v list
  idle_last u v list a = unacted u (left_of kind image v list) ((left_same u v list).acts ∙ a)

  idle_first : (u v : Asking) (list : List ℕ) → acts_on kind image v list ≡ false → left_of kind image u (left_of kind image v list) ≡ left_of kind image u list
  idle_first u v list h = ap (left_of kind image u) (unacted v list h)

  -- two leave the same list in either order
  pub left_commutes : (u v : Asking) (list : List ℕ) → left_of kind image u (left_of kind image v list) ≡ left_of kind image v (left_of kind image u list)
  left_commutes u v list =
      ⊎_elim
      (λ (a : acts_on kind image u list ≡ true). ⊎_elim
      (λ (h : acts_on kind image v list ≡ true).
      both_left u v list a h ∙ ap pack (without_commute (away_on kind image u list) (away_on kind image v list) (unpack list)) ∙ sym (both_left v u list h a))
      (λ (h : acts_on kind image v list ≡ false). idle_first u v list h ∙ sym (idle_last v u list h)) (either (acts_on kind image v list)))
      (λ (a : acts_on kind image u list ≡ false). idle_last u v list a ∙ sym (idle_first v u list a))
      (either (acts_on kind image u list))

  -- one repeated leaves it as it was
  pub left_again : (u : Asking) (list : List ℕ) → left_of kind image u (left_of kind image u list) ≡ left_of kind image u list
  left_again u list =
      ⊎_elim
      (λ (a : acts_on kind image u list ≡ true).
      both_left u u list a a ∙ ap pack (without_twice (away_on kind image u list) (unpack list)) ∙ sym (acted u list a))
      (λ (a : acts_on kind image u list ≡ false). idle_last u u list a)
      (either (acts_on kind image u list))
