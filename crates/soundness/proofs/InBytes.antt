-- A call leaves bytes where it was lent bytes: in the DMA, in the list and in the image. Assumes nothing.
use Prim.Native.Nat.{ℕ, ◌+◌, ◌*◌, ◌/◌, ◌%◌, ◌≤◌, ◌<◌}
use mathlib.Core.Path.{◌≡◌, refl}
use mathlib.Core.Bool.{Bool, true, false}
use mathlib.Core.List.{List}
use mathlib.Core.Logic.{⊎_elim}
use native.Mathlib.Omega.{arith}
use lib.ListN.{take, replicate}
use lib.Dec.{eqb, leb}
use borrow.Author.Tests.{eqb-true, leb-true, ltb-true}
use Rattle.words.specs.Tests.{◌if◌else◌}
use Rattle.words.specs.Tables.{any_row}
use Rattle.words.specs.Lists.{tab}
use Rattle.words.specs.Bytes.{byte, byte_from, low_from, le, are_bytes, is_zero}
use Rattle.words.proofs.Tests.{either, all_at, and_fst, and_snd}
use Rattle.words.proofs.Lists.{tab_at}
use Rattle.words.proofs.AreBytes.{bytes_cons, bytes_append, bytes_take, bytes_part, bytes_put, bytes_set, byte_small, bytes_replicate, bytes_tab, bytes_flat}
use Rattle.words.proofs.AreBytes.{bytes_le, bytes_turns}
use Rattle.rules.specs.declared.kind.Kind.{Kind}
use Rattle.rules.specs.Kinds.{entries, block_size, width, top}
use Rattle.rules.specs.declared.file.File.{File}
use Rattle.rules.specs.declared.item.Item.{Item}
use Rattle.rules.specs.declared.list.LockList.{LockList}
use Rattle.rules.specs.declared.spot.Spot.{Spot}
use Rattle.rules.specs.declared.routine.Routine.TheVariants.{Open, Close, SearchFirst, SearchNext, Delete, Make, Rename, Read, Write, Size, WriteZeros}
use Rattle.rules.specs.declared.routine.Routine.TheVariants.{TestWrite, Lock, Unlock, FreeSpace, Terminate}
use Rattle.std.specs.Prelude.{Option, Some, None}
use Rattle.rules.specs.declared.routine.Routine.{Routine}
use Rattle.rules.specs.Serves.{Buffers, Outcome, chosen}
use Rattle.rules.specs.Drive.{name_at, record_at, block_in, file_from}
use Rattle.rules.specs.Locks.{blank, is_opened, item_at, user_of, position_of, first_mark, second_mark, pack_item, pack, unpack, is_limit, is_user, is_rule, is_low}
use Rattle.rules.specs.Locks.{good_empty}
use Rattle.rules.specs.Asks.{caller_file, new_file, record_of}
use Rattle.rules.specs.Effects.{made_entry, made, erased_at, erased, low_changed, renamed_at, renamed, new_entry, entered, mapped, count_to, counted, cleared, stored}
use Rattle.rules.specs.Effects.{written, contents, searched, finds, finds_none, does15, does16, does17, does18, does19, does22, makes, does23, does33, does34}
use Rattle.rules.specs.Effects.{does35, does41, does42, does43, does46, does143}
use Rattle.rules.specs.Call.{Asked, asked, effect_of, rows_call, call}
use Rattle.rules.proofs.Tables.{accepted}
use Rattle.rules.proofs.SoundList.{Shape, GoodOpen, GoodLock, Used, Vacant, SoundLocks, is_plain}
use Rattle.soundness.proofs.Shapes.{SoundShape, locked_shape}
use Rattle.soundness.proofs.Leaves.{list_of, file_by, new_by}
use Rattle.soundness.proofs.Left.{ListLeft, ImageLeft, list_same, one_set, run_set, emptied, image_same, entry_made, record_stored, file_erased}
use Rattle.soundness.proofs.Left.{file_renamed, left}
use Rattle.rules.proofs.Sizes.{top_fits, entries_few}

bytes_if : (t : Bool) (a b : List ℕ) → are_bytes a ≡ true → are_bytes b ≡ true → are_bytes (a if t else b) ≡ true
unfolding ◌if◌else◌
bytes_if true a b h k = h
bytes_if false a b h k = k

from_start : (s : List ℕ) (k : ℕ) → byte s k < 256 → byte_from s 0 k < 256
from_start s k h = let z : 0 + k ≡ k = omega arith in rw z h

-- ---- what a call puts into the image

-- a file that a call names: its user comes from the list, its name is low
record Sayable (f : File) : Type 0 where
  user_small : f.user < 256
  name_low : (k : ℕ) → k < 11 → byte f.name k < 128
  name_bytes : are_bytes f.name ≡ true

said : (u : ℕ) (s : List ℕ) (at : ℕ) → u < 256 → Sayable (file_from u s at)
unfolding file_from
said u s at h = record {
  user_small = h;
  name_low = λ k m. rw (tab_at (low_from s at) 11 k 0 m) (omega arith);
  name_bytes = bytes_tab (low_from s at) 11 (λ k m. omega arith);
}

user_small : (list : List ℕ) (p : ℕ) → are_bytes list ≡ true → user_of (unpack list) p < 256
unfolding unpack
user_small list p h = byte_small (tab (byte_from list 3) 16) p (bytes_tab (byte_from list 3) 16 (λ k m. byte_small list (3 + k) h))

made_bytes : (e : ℕ) (f : File) (s : List ℕ) → Sayable f → are_bytes s ≡ true → are_bytes (made e f s) ≡ true
unfolding made made_entry
made_bytes e f s w h = bytes_put (32 * e) _ s (bytes_cons f.user _ w.user_small
    (bytes_append f.name (replicate 20 0) w.name_bytes (bytes_replicate 20 0 (omega arith)))) h

erased_bytes : (kind : Kind) (f : File) (s : List ℕ) → are_bytes s ≡ true → are_bytes (erased kind f s) ≡ true
unfolding erased erased_at
erased_bytes kind f s h = bytes_turns (erased_at f) (entries kind) s (λ e t k. bytes_if _ _ _ (bytes_set t (32 * e) 0xE5 (omega arith) k) k) h

renamed_bytes : (kind : Kind) (f h : File) (s : List ℕ) → Sayable h → are_bytes s ≡ true → are_bytes (renamed kind f h.name s) ≡ true
unfolding renamed renamed_at low_changed
renamed_bytes kind f h s w g =
    bytes_turns (renamed_at f h.name) (entries kind) s
    (λ e t k. bytes_if _ _ _ (bytes_put (name_at e) _ t (bytes_tab _ 11 (λ j m. low e t k j m)) k) k) g
  where
    low : (e : ℕ) (t : List ℕ) → are_bytes t ≡ true → (j : ℕ) → j < 11 → byte t (name_at e + j) / 128 * 128 + byte h.name j < 256
    low e t k j m = let a = byte_small t (name_at e + j) k in let b = w.name_low j m in omega arith

module _ (kind : Kind) (w : Spot) (f : File) (r : ℕ) (named : Sayable f) (fits : r ≤ top kind) where
  entered_bytes : (e₀ : ℕ) (s : List ℕ) → are_bytes s ≡ true → are_bytes (entered w e₀ f r s) ≡ true
  unfolding entered new_entry
  entered_bytes e₀ s h =
      let small = top_fits kind in
      let ends = bytes_cons (r / 128 % 32) _ (omega arith) (bytes_cons 0 _ (omega arith)
      (bytes_cons (r / 128 / 32) (replicate 17 0) (omega arith) (bytes_replicate 17 0 (omega arith)))) in
      let name = bytes_tab (byte_from s (name_at e₀)) 11 (λ k m. byte_small s (name_at e₀ + k) h) in
      bytes_if w.fresh _ s (bytes_put (32 * w.entry) _ s (bytes_cons f.user _ named.user_small (bytes_append _ _ name ends)) h) h

  mapped_bytes : (s : List ℕ) → are_bytes s ≡ true → are_bytes (mapped kind w r s) ≡ true
  unfolding mapped
  mapped_bytes s h = bytes_if w.taken _ s (bytes_put _ (le (width kind) w.block) s (bytes_le (width kind) w.block) h) h

  counted_bytes : (s : List ℕ) → are_bytes s ≡ true → are_bytes (counted w r s) ≡ true
  unfolding counted
  counted_bytes s h = bytes_if _ _ s (bytes_set s (32 * w.entry + 15) (count_to r) (omega arith) h) h

  cleared_bytes : (zeros : Bool) (s : List ℕ) → are_bytes s ≡ true → are_bytes (cleared kind zeros w s) ≡ true
  unfolding cleared
  cleared_bytes zeros s h = bytes_if _ _ s (bytes_put (block_size kind * w.block) _ s (bytes_replicate (block_size kind) 0 (omega arith)) h) h

  written_bytes : (zeros : Bool) (e₀ : ℕ) (v s : List ℕ) → are_bytes v ≡ true → are_bytes s ≡ true → are_bytes (written kind zeros w e₀ f r v s) ≡ true
  unfolding written stored
  written_bytes zeros e₀ v s k h =
      bytes_put (record_at kind w.block r) (take 128 v) _ (bytes_take 128 v k)
      (cleared_bytes zeros _ (counted_bytes _ (mapped_bytes _ (entered_bytes e₀ s h))))

-- ---- a sound list, packed

module _ (kind : Kind) (l : LockList) (s : List ℕ) (g : SoundLocks kind l s) (shape : Shape l) where
  -- what the bytes of a place are made of
  record Small (it : Item) : Type 0 where
    process_small : it.process < 256
    mode_small : it.mode < 256
    name_small : (k : ℕ) → k < 11 → byte it.name k < 256

  vacant_small : (it : Item) → good_empty it ≡ true → Small it
  unfolding good_empty is_zero
  vacant_small it h =
      let n = and_snd _ _ h in
      let m : it.mode ≡ 0 = eqb-true _ _ (and_fst _ _ (and_snd _ _ n)) in
      let p : it.process ≡ 0 = eqb-true _ _ (and_fst _ _ h) in
      record {
        process_small = omega arith;
        mode_small = omega arith;
        name_small = λ k j. let z : byte it.name k ≡ 0 = eqb-true _ _ (all_at (is_zero it.name) 11 k (and_fst _ _ n) j) in omega arith;
      }

  used_small : (i : ℕ) → Used kind s l i → Small (item_at l i)
  unfolding is_plain is_low
  used_small i w =
      let p : (item_at l i).process ≤ 15 = leb-true _ _ (and_fst _ _ w.plain) in
      let low = and_fst _ _ (and_snd _ _ (and_snd _ _ w.plain)) in
      let m : (item_at l i).mode ≤ 2 = ⊎_elim (λ (x : GoodOpen kind s l (item_at l i)). x.mode_fits)
      (λ (x : GoodLock kind s l (item_at l i)). let z = x.mode_one in omega arith) w.good in
      record {
        process_small = omega arith;
        mode_small = omega arith;
        name_small = λ k j. let z : byte (item_at l i).name k < 128 = ltb-true _ _ (all_at (is_low (item_at l i).name) 11 k low j) in omega arith;
      }

  mark-small : (k : ℕ) → (first_mark k < 256) × (second_mark k < 256)
  unfolding first_mark second_mark
  mark-small k = (
    one_of _ 0x4F _ (omega arith) (one_of _ 0x4C 0 (omega arith) (omega arith)),
    one_of _ 0x46 _ (omega arith)
        (one_of _ 0x52 0 (omega arith) (omega arith)),
  )
    where
      one_of : (t : Bool) (x y : ℕ) → x < 256 → y < 256 → (x if t else y) < 256
      one_of true x y a b = unfold ◌if◌else◌ in a
      one_of false x y a b = unfold ◌if◌else◌ in b

  item-bytes : (it : Item) → Small it → are_bytes (pack_item it) ≡ true
  unfolding pack_item
  item-bytes it w =
      bytes_cons _ _ (mark-small it.kind).0 (bytes_cons _ _ (mark-small it.kind).1 (bytes_cons it.process _ w.process_small
      (bytes_append _ _ (bytes_tab (byte_from it.name 0) 11 (λ k m. from_start it.name k (w.name_small k m)))
      (bytes_cons it.mode _ w.mode_small (bytes_cons 0 _ (omega arith) (bytes_le 4 it.number))))))

  place_small : (i : ℕ) → i < 64 → Small (item_at l i)
  place_small i m = ⊎_elim (λ (w : Vacant l i). vacant_small (item_at l i) w.zeros) (used_small i) (g.place i m)

  -- a sound list, packed, is bytes
  pub pack_bytes : are_bytes (pack l) ≡ true
  unfolding pack is_limit is_user is_rule
  pack_bytes =
      let c : l.capacity ≤ 64 = leb-true _ _ (and_snd _ _ g.limits.capacity_good) in
      let o : l.openlimit ≤ 64 = leb-true _ _ (and_snd _ _ g.limits.open_good) in
      let k : l.locklimit ≤ 64 = leb-true _ _ (and_snd _ _ g.limits.lock_good) in
      let r : l.rule ≤ 1 = leb-true _ _ g.limits.rule_good in
      bytes_cons l.capacity _ (omega arith) (bytes_cons l.openlimit _ (omega arith) (bytes_cons l.locklimit _ (omega arith)
      (bytes_append _ _
      (bytes_tab (byte_from l.users 0) 16 (λ j m. let u : byte l.users j ≤ 15 = leb-true _ _ (all_at (is_user l.users) 16 j g.limits.users_good m) in
      from_start l.users j (omega arith)))
      (bytes_append _ _ (bytes_flat pack_item blank l.items (λ i m. item-bytes (item_at l i) (place_small i (let z = shape.items_long in omega arith))))
      (bytes_append _ _ (bytes_tab (byte_from l.positions 0) 16 (λ j m.
      let u : position_of l j ≤ entries kind = g.next j m in let few = entries_few kind in from_start l.positions j (omega arith)))
      (bytes_replicate 1 l.rule (omega arith)))))))

-- ---- a call

-- the three buffers that matter to the next call of a run: what it reads of the FCB is cut to its range
pub record InBytes (b : Buffers) : Type 0 where
  -- the DMA holds bytes, ..
  pub dma_bytes : are_bytes b.dma ≡ true
  -- .. so does the list, ..
  pub list_bytes : are_bytes b.list ≡ true
  -- .. and so does the image
  pub image_bytes : are_bytes b.image ≡ true

module _ (kind : Kind) (n p c : ℕ) (b : Buffers) (w : InBytes b) where
  packed : (l : LockList) (s : List ℕ) → SoundShape kind l s → are_bytes (pack l) ≡ true
  packed l s h = pack_bytes kind l s h.sound h.shape

  caller : Sayable (file_by p b)
  unfolding caller_file
  caller = said (user_of (list_of b) p) b.fcb 1 (user_small b.list p w.list_bytes)

  newly : Sayable (new_by p b)
  unfolding new_file
  newly = said (user_of (list_of b) p) b.fcb 17 (user_small b.list p w.list_bytes)

  list_left : (t list : List ℕ) → ListLeft kind p c b t list → are_bytes list ≡ true
  list_left t list (list_same u follows) = w.list_bytes
  list_left t list (one_set ok u mode room h) = packed _ u h
  list_left t list (run_set ok m) = packed _ b.image (locked_shape kind p c b ok m)
  list_left t list (emptied ok u away turn e own xs stay h) = packed _ u h

  image_left : (t : List ℕ) → ImageLeft kind p c b t → are_bytes t ≡ true
  image_left t image_same = w.image_bytes
  image_left t (entry_made ok m) = made_bytes _ (file_by p b) b.image caller w.image_bytes
  image_left t (record_stored ok m zeros v full bytes) =
      written_bytes kind _ (file_by p b) (record_of b.fcb) caller m.fits zeros _ v b.image (bytes w.dma_bytes) w.image_bytes
  image_left t (file_erased ok m) = erased_bytes kind (file_by p b) b.image w.image_bytes
  image_left t (file_renamed ok m) = renamed_bytes kind (file_by p b) (new_by p b) b.image newly w.image_bytes

  -- only 33 and 46 change the DMA
  dma_if : (t : Bool) (x y : Outcome) → x.left.dma ≡ b.dma → y.left.dma ≡ b.dma → are_bytes (x if t else y).left.dma ≡ true
  dma_if true x y h g = unfold ◌if◌else◌ in rw h w.dma_bytes
  dma_if false x y h g = unfold ◌if◌else◌ in rw g w.dma_bytes

  dma_searched : (kind : Kind) (p : ℕ) (l : LockList) (e : ℕ) → are_bytes (searched kind p l e b).left.dma ≡ true
  unfolding searched finds finds_none ◌if◌else◌
  dma_searched kind p l e =
      ⊎_elim (λ (q : leb (entries kind) e ≡ true). rw q w.dma_bytes)
      (λ (q : leb (entries kind) e ≡ false). rw q (bytes_put 0 _ b.dma (bytes_part (128 * (e / 4)) 128 b.image w.image_bytes) w.dma_bytes))
      (either (leb (entries kind) e))

  dma_done : (k : Option Routine) (a : Asked) → are_bytes (effect_of k a b).left.dma ≡ true
  unfolding effect_of does15 does16 does17 does18 does19 does22 makes does23 does33 contents does34 does35 does41 does42 does43 does46 does143
  dma_done (Some Open) a = dma_if (is_opened a.place) _ _ refl refl
  dma_done (Some Close) a = w.dma_bytes
  dma_done (Some SearchFirst) a = dma_searched _ _ _ _
  dma_done (Some SearchNext) a = dma_searched _ _ _ _
  dma_done (Some Delete) a = w.dma_bytes
  dma_done (Some Make) a = w.dma_bytes
  dma_done (Some Rename) a = w.dma_bytes
  dma_done (Some Read) a = bytes_put 0 _ b.dma (bytes_part
      (record_at a.kind (block_in a.kind b.image a.entry a.record_number) a.record_number) 128 b.image w.image_bytes) w.dma_bytes
  dma_done (Some Write) a = w.dma_bytes
  dma_done (Some Size) a = w.dma_bytes
  dma_done (Some WriteZeros) a = w.dma_bytes
  dma_done (Some TestWrite) a = w.dma_bytes
  dma_done (Some Lock) a = dma_if (eqb (item_at a.list a.place).mode 1) _ _ refl refl
  dma_done (Some Unlock) a = dma_if (eqb (item_at a.list a.place).mode 1) _ _ refl refl
  dma_done (Some FreeSpace) a = bytes_put 0 _ b.dma (bytes_le 3 _) w.dma_bytes
  dma_done (Some Terminate) a = w.dma_bytes
  dma_done None a = w.dma_bytes

  dma_left : are_bytes (call kind n p c b).left.dma ≡ true
  dma_left =
      ⊎_elim
      (λ (h : any_row (rows_call kind n p c b) ≡ true). rw (Rattle.rules.proofs.Tables.refused kind n p c b h) w.dma_bytes)
      (λ (h : any_row (rows_call kind n p c b) ≡ false). rw (accepted kind n p c b h) (dma_done (chosen n) (asked kind p c b)))
      (either (any_row (rows_call kind n p c b)))

  -- a call that is lent bytes leaves bytes
  pub call_bytes : InBytes (call kind n p c b).left
  call_bytes = let z = left kind n p c b in record { dma_bytes = dma_left; list_bytes = list_left _ _ z.list; image_bytes = image_left _ z.image }
