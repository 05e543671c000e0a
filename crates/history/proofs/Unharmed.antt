-- No call of another process changes a record that is locked. Assumes nothing.
use Prim.Native.Nat.{ℕ, ◌+◌, ◌≤◌, ◌<◌}
use mathlib.Core.Path.{◌≡◌, refl, sym, ap, ◌∙◌}
use mathlib.Core.Bool.{Bool, true, false}
use mathlib.Core.List.{List}
use mathlib.Core.Logic.{◌⊎◌, inr, ⊎_elim}
use native.Mathlib.Omega.{arith}
use native.Mathlib.Nat.{zero-add}
use lib.ListN.{length, get_or}
use lib.Dec.{eqb, leb}
use borrow.Author.Tests.{eq-eqb, ne_eqb, le-leb, ltb-true}
use Rattle.words.specs.Tests.{◌and◌, ◌if◌else◌, all}
use Rattle.words.specs.Lists.{tab}
use Rattle.words.specs.Bytes.{byte, low_from, part}
use Rattle.words.proofs.Tests.{never, all_at}
use Rattle.words.proofs.Lists.{tab_ext, tab_get_d}
use Rattle.words.proofs.Sets.{and_both}
use Rattle.words.proofs.Bytes.{part_long}
use Rattle.rules.specs.declared.kind.Kind.{Kind}
use Rattle.rules.specs.declared.file.File.{File}
use Rattle.rules.specs.declared.list.LockList.{LockList}
use Rattle.rules.specs.Serves.{Buffers}
use Rattle.rules.specs.Drive.{legal_name, file_from, block_of, record_at, sound_image, blocks}
use Rattle.rules.specs.Locks.{item_at, file_of, is_low, any_open}
use Rattle.rules.specs.Asks.{record_of}
use Rattle.rules.specs.Codes.{stops_delete}
use Rattle.rules.specs.Look.{may_look, look_block, part_at, look_at, part_from, look}
use Rattle.rules.proofs.Sizes.{record_inside, block_inside, record-over}
use Rattle.rules.proofs.Sound.{SoundImage, length_whole}
use Rattle.rules.proofs.Items.{name_refl}
use Rattle.rules.proofs.SoundList.{GoodOpen, GoodLock, Used, Vacant}
use Rattle.soundness.proofs.Blocks.{At, of_at, at_grown, at_forth}
use Rattle.soundness.proofs.Erased.{all-erased, erased_touches}
use Rattle.soundness.proofs.Renamed.{all_renamed}
use Rattle.soundness.proofs.Held.{others_found}
use Rattle.soundness.proofs.Taken.{caller_long, no_items}
use Rattle.soundness.proofs.Deleted.{items_own}
use Rattle.soundness.proofs.Ends.{shape_of, list-of, made_of, renamed_touch, written_of}
use Rattle.rules.proofs.Passed.{Passed}
use Rattle.soundness.proofs.Left.{ImageLeft, image_same, entry_made, record_stored, file_erased, file_renamed}
use Rattle.soundness.proofs.Leaves.{list_of, file_by, new_by, MayWrite, image_written}
use Rattle.history.specs.Demands.{Unchanged}
use Rattle.history.proofs.Seen.{Seen, at_range, seen_all, seen_written}

-- ---- a lock at place i of the list, by another process

module _ (kind : Kind) (q c : ℕ) (b : Buffers) (i : ℕ) (inside : i < 64) (other : (item_at (list_of b) i).process ≡ q → ⊥)
    (two : (item_at (list_of b) i).kind ≡ 2) (g : SoundImage kind b.image) (block : ℕ)
    (at : At kind b.image (file_of (list_of b) (item_at (list_of b) i)) (item_at (list_of b) i).number block) where
  abbrev l : LockList
  l = list_of b

  abbrev s : List ℕ
  s = b.image

  abbrev f : File
  f = file_of l (item_at l i)

  abbrev r : ℕ
  r = (item_at l i).number

  still : Seen kind s s f r block
  still = record { there = at; bytes = refl }

  module _ (ok : Passed kind q c b) where
    good : GoodOpen kind s l (item_at l i) ⊎ GoodLock kind s l (item_at l i)
    good =
        ⊎_elim (λ (v : Vacant l i). let z = v.kind_zero in absurd (omega arith)) (λ (v : Used kind s l i). v.good) ((list-of kind q c b ok).place i inside)

    long : length f.name ≡ 11
    long = (shape_of kind q c b ok).names_long i inside

    -- a file that nobody has open is another
    apart : any_open l (file_by q b) ≡ false → f ≡ file_by q b → ⊥
    apart none e = no_items kind s l (list-of kind q c b ok) (file_by q b) none i inside good e

    -- and so is one that no other process has open
    unheld : stops_delete q l (file_by q b) ≡ false → f ≡ file_by q b → ⊥
    unheld none e = other (items_own q l (file_by q b) none kind s (list-of kind q c b ok) i inside good e)

    -- the record that is written is another
    unwritten : MayWrite kind q b → (f ≡ file_by q b) × (r ≡ record_of b.fcb) → ⊥
    unwritten w e =
        never
        (others_found l q (file_by q b) (record_of b.fcb) i inside other (record {
          kind_two = two;
          number = e.1;
          under = ap (λ (k : File). k.user) e.0;
          named = rw (← e.0) (name_refl (item_at l i).name);
        }))
        w.unlocked_by_others

    seen_write : MayWrite kind q b → (zeros : Bool) (v : List ℕ) → 128 ≤ length v → Seen kind s (image_written kind zeros q b v) f r block
    seen_write w zeros v full =
        seen_written kind s _ (file_by q b) (record_of b.fcb) g (caller_long q l b.fcb) f r block long
        at (written_of kind q c b ok w zeros v full) (unwritten w)

  -- a call of another process leaves a locked record its block and its bytes
  pub seen_left : (t : List ℕ) → ImageLeft kind q c b t → Seen kind s t f r block
  seen_left t image_same = still
  seen_left t (entry_made ok w) =
      let d = made_of kind q c b ok w 0 0 0 0 in
      seen_all kind s _ f r block g d.touches.long at (λ j m. d.data_kept.at j m (inr (omega arith))) (at_grown kind s _ f r block d.grown at)
  seen_left t (record_stored ok w zeros v full bytes) = seen_write ok w zeros v full
  seen_left t (file_erased ok w) =
      let h = caller_long q l b.fcb in
      let d = all-erased kind s (file_by q b) g h in
      seen_all kind s _ f r block g d.len at d.past (at_forth kind s _ (file_by q b) (file_by q b) f (erased_touches kind s (file_by q b) g h)
      (unheld ok w.none_others) r block at)
  seen_left t (file_renamed ok w) =
      let d = all_renamed kind s (file_by q b) (new_by q b).name g in
      seen_all kind s _ f r block g d.len at d.past (at_forth kind s _ (file_by q b) (new_by q b) f (renamed_touch kind q c b ok w)
      (apart ok w.unopened) r block at)

-- ---- Look

-- a name whose high bits are zero is the name that Look compares
low_file : (u : ℕ) (name : List ℕ) → length name ≡ 11 → all (is_low name) 11 ≡ true → file_from u name 0 ≡ record { user = u; name = name }
unfolding file_from is_low
low_file u name l h =
    let e : tab (low_from name 0) 11 ≡ name =
    tab_ext (low_from name 0) (λ (k : ℕ). get_or name k 0) 11 (λ k m. let z : byte name k < 128 = ltb-true _ _ (all_at (is_low name) 11 k h m) in
    rw (zero-add k) (omega arith))
    ∙ tab_get_d name 0 11 l in
    λ i. record { user = u; name = e i }

-- Look shows the record's part
look_is : (kind : Kind) (u : ℕ) (name : List ℕ) (r : ℕ) (s : List ℕ) (b : ℕ) → sound_image kind s ≡ true → u ≤ 15 → length name ≡ 11
    → legal_name name 0 ≡ true → block_of kind s (file_from u name 0) r ≡ b → 2 ≤ b → look kind u name r s ≡ part (record_at kind b r) 128 s
unfolding look part_from look_at part_at look_block may_look ◌if◌else◌
look_is kind u name r s b g v l m e low =
    let k : (sound_image kind s and leb u 15 and eqb (length name) 11 and legal_name name 0) ≡ true =
    and_both _ _ g (and_both _ _ (le-leb u 15 v) (and_both _ _ (eq-eqb (length name) 11 l) m)) in
    let some : record_at kind b r ≡ 0 → ⊥ = λ z. omega (
      arith,
      record-over kind b r,
      block_inside kind 0 b (omega arith),
      record_inside kind 0 1 0
          (omega arith),
    ) in
    rw (k, e, ne_eqb b 0 (λ (z : b ≡ 0). absurd (omega arith)), ne_eqb (record_at kind b r) 0 some) refl

-- a record that has its block and its bytes still is shown as before
pub unchanged : (kind : Kind) (u : ℕ) (name : List ℕ) (r b : ℕ) (s t : List ℕ) → SoundImage kind s → SoundImage kind t
    → sound_image kind s ≡ true → sound_image kind t ≡ true → u ≤ 15 → length name ≡ 11 → legal_name name 0 ≡ true → all (is_low name) 11 ≡ true
    → At kind s (record { user = u; name = name }) r b → Seen kind s t (record { user = u; name = name }) r b → Unchanged kind u name r s t
unchanged kind u name r b s t gs gt hs ht v l m low a w =
    let e = low_file u name l low in
    let k = at_range kind s _ r b gs a in
    let bs : block_of kind s (file_from u name 0) r ≡ b = rw e (of_at kind s _ r b l gs a) in
    let bt : block_of kind t (file_from u name 0) r ≡ b = rw e (of_at kind t _ r b l gt w.there) in
    let inside : record_at kind b r + 128 ≤ length s = rw (← (length_whole kind s gs.long)) (record_inside kind b (blocks kind s) r k.1) in
    record {
      shown = ap length (look_is kind u name r s b hs v l m bs k.0) ∙ part_long s (record_at kind b r) 128 inside;
      same = look_is kind u name r t b ht v l m bt k.0 ∙ w.bytes ∙ sym (look_is kind u name r s b hs v l m bs k.0);
    }
