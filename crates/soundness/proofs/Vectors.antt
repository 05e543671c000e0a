-- The vector after each change of the image: which bits are as they were, which is set, which are clear. Assumes nothing.
use Prim.Native.Nat.{ℕ, ◌*◌, ◌/◌, ◌≤◌, ◌<◌}
use mathlib.Core.Path.{◌≡◌, refl, sym, ap, ◌∙◌}
use mathlib.Core.Bool.{Bool, true, false, not}
use mathlib.Core.List.{List}
use mathlib.Core.Logic.{◌⊎◌, inl, inr, ⊎_elim}
use native.Mathlib.Omega.{arith}
use lib.ListN.{length}
use lib.Dec.{eqb, leb, ltb}
use borrow.Author.Tests.{eqb-true, eq-eqb, ltb-true, ltb-false, lt-ltb, le-ltb, lt-leb, le-leb, not-true}
use Rattle.words.specs.Tests.{◌and◌, ◌or◌, ◌if◌else◌, any}
use Rattle.words.specs.Tables.{any_row}
use Rattle.words.specs.Bytes.{are_bytes}
use Rattle.words.specs.Bits.{is_set, with_bit}
use Rattle.words.proofs.Tests.{either, equal?, never, any_some, any_found, any_at, any_never, same_test, and_fst, and_snd}
use Rattle.words.proofs.Tables.{none_applies, some_applies}
use Rattle.words.proofs.Sets.{and_both, not_of_false}
use Rattle.words.proofs.Bitwise.{length_bit, set_here, set_there, bytes_bit}
use Rattle.rules.specs.declared.kind.Kind.{Kind}
use Rattle.rules.specs.declared.file.File.{File}
use Rattle.rules.specs.declared.spot.Spot.{Spot}
use Rattle.rules.specs.Kinds.{most, vector_size, entries, numbers, top}
use Rattle.rules.specs.Serves.{Buffers}
use Rattle.rules.specs.Drive.{blocks, is_empty, map_number, map_place, is_of, entry_of, block_in, holds_number, names_block, is_used, is_free, free_entry, free_block}
use Rattle.rules.specs.Asks.{record_of}
use Rattle.rules.specs.declared.routine.Routine.TheVariants.{Make, Rename}
use Rattle.std.specs.Prelude.{Option, Some}
use Rattle.rules.specs.declared.routine.Routine.{Routine}
use Rattle.rules.specs.Effects.{made, erased, renamed, makes, does22, does23, spot_at, written}
use Rattle.rules.specs.Call.{decided, unless, asked, asked_by, rows_of, effect_of, served}
use Rattle.rules.specs.Vector.{is_taken, vector_of}
use Rattle.rules.proofs.Sizes.{place_fits, vector_bits}
use Rattle.rules.proofs.Sound.{Names, SoundImage, length_few}
use Rattle.rules.proofs.Frames.{head_of, empty_same, map_same, names_same}
use Rattle.rules.proofs.Tables.{nonzero_of}
use Rattle.rules.proofs.Passed.{Passed}
use Rattle.rules.proofs.Vector.{vector-long, vector_bytes, vector_bit, vector_is}
use Rattle.soundness.proofs.Steps.{Stays}
use Rattle.soundness.proofs.Changes.{Change, Grown, names_grown}
use Rattle.soundness.proofs.Stored.{free_low}
use Rattle.soundness.specs.Taking.{taken_by, holds_block, is_block_of}
use Rattle.soundness.proofs.Written.{Old, New, written_spot}
use Rattle.soundness.proofs.Erased.{all-erased, erased_gone, erased_kept, erased_stays}
use Rattle.soundness.proofs.Renamed.{all_renamed, renamed_empty, renamed_number}
use Rattle.soundness.proofs.Taken.{caller_long}
use Rattle.soundness.proofs.Leaves.{list_of, file_by, new_by, MayMake, MayRename, MayWrite, image_written}
use Rattle.soundness.proofs.Ends.{image-of, made_of, written_of}
use Rattle.soundness.proofs.Walk.{may_make, may_rename}

-- ---- a block in use stands somewhere in a map

-- block x stands at that place of that entry
pub record Stands (kind : Kind) (s : List ℕ) (x : ℕ) : Type 0 where
  -- the entry, ..
  pub entry : ℕ
  -- .. and the place in its map
  pub place : ℕ
  -- that place names a block, ..
  pub named : Names kind s entry place
  -- .. and its number is x
  pub number : map_number kind s entry place ≡ x

module _ (kind : Kind) (s : List ℕ) (x : ℕ) where
  -- an entry in use that holds it at some place names it
  stands_at : (e : ℕ) → e < entries kind → 2 ≤ x → is_empty s e ≡ false → any (holds_number kind s x e) (numbers kind) ≡ true
      → (k : ℕ) × Names kind s e k × (map_number kind s e k ≡ x)
  unfolding holds_number
  stands_at e l m u h =
      let k = any_some (holds_number kind s x e) (numbers kind) h in
      let q : map_number kind s e k.0 ≡ x = eqb-true _ _ k.2 in
      let some : map_number kind s e k.0 ≡ 0 → ⊥ = λ (z : map_number kind s e k.0 ≡ 0). absurd (omega arith) in
      (k.0, record { entry_there = l; place_there = k.1; entry_used = u; some = some }, q)

  -- one that stands in a map is in use, ..
  pub used_so : (e k : ℕ) → Names kind s e k → map_number kind s e k ≡ x → is_used kind s x ≡ true
  unfolding is_used names_block holds_number
  used_so e k n h =
      any_found (names_block kind s x) (entries kind) e n.entry_there
      (and_both _ _ (not_of_false _ n.entry_used) (any_found (holds_number kind s x e) (numbers kind) k n.place_there (eq-eqb _ _ h)))

  -- .. and one in use stands in a map
  pub used_of : 2 ≤ x → is_used kind s x ≡ true → Stands kind s x
  unfolding is_used names_block
  used_of l h =
      let e = any_some (names_block kind s x) (entries kind) h in
      let k = stands_at e.0 e.1 l (not-true _ (and_fst _ _ e.2)) (and_snd _ _ e.2) in
      record { entry = e.0; place = k.0; named = k.1; number = k.2 }

-- ---- two images of one length

module _ (kind : Kind) (s t : List ℕ) (len : length t ≡ length s) where
  same_blocks : blocks kind t ≡ blocks kind s
  unfolding blocks
  same_blocks = rw len

  -- where a data block is in use in both or in neither its bit is the same
  pub taken_same : (x : ℕ) → (2 ≤ x → is_used kind t x ≡ is_used kind s x) → is_taken kind t x ≡ is_taken kind s x
  unfolding is_taken ◌or◌
  taken_same x h =
      ap (λ (n : ℕ). ltb x n and (ltb x 2 or is_used kind t x)) same_blocks
      ∙ ap (λ (y : Bool). ltb x (blocks kind s) and y)
      (⊎_elim (λ (l : ltb x 2 ≡ true). rw l) (λ (l : ltb x 2 ≡ false). rw l (h (ltb-false x 2 l))) (either (ltb x 2)))

  -- the same bits are the same vector
  pub vector_same : ((x : ℕ) → is_taken kind t x ≡ is_taken kind s x) → vector_of kind t ≡ vector_of kind s
  vector_same h =
      sym (vector_is kind t (vector_of kind s) (vector-long kind s) (vector_bytes kind s) (λ b l. vector_bit kind s b l ∙ sym (h b)))

  -- a block whose places in t held it in s was in use
  used_back : (x : ℕ) → 2 ≤ x → ((e k : ℕ) → Names kind t e k → map_number kind t e k ≡ x → Stays kind s t e k) → is_used kind t x ≡ true → is_used kind s x ≡ true
  used_back x l h u =
      let w = used_of kind t x l u in
      let z = h w.entry w.place w.named w.number in
      used_so kind s x w.entry w.place z.named (sym z.number ∙ w.number)

  -- what stands in the maps of one stands in those of the other: the vector is the same
  pub vector_kept : ((e k : ℕ) → Names kind t e k → Stays kind s t e k) → ((e k : ℕ) → Names kind s e k → Stays kind t s e k)
      → vector_of kind t ≡ vector_of kind s
  vector_kept back forth =
      vector_same (λ x. taken_same x (λ l. same_test _ _ (used_back x l (λ e k n q. back e k n)) (used_forth x l)))
    where
      used_forth : (x : ℕ) → 2 ≤ x → is_used kind s x ≡ true → is_used kind t x ≡ true
      used_forth x l u =
          let w = used_of kind s x l u in
          let z = forth w.entry w.place w.named in
          used_so kind t x w.entry w.place z.named (sym z.number ∙ w.number)

-- where nothing is taken away the numbers of before stand there still
grown_stays : (kind : Kind) (s t : List ℕ) → Grown kind s t → (e k : ℕ) → Names kind s e k → Stays kind t s e k
grown_stays kind s t g e k n = record { named = names_grown kind s t g e k n; number = sym (g.number e k n) }

-- ---- Make and Rename

-- an entry that enters without a block leaves the vector as it was
pub vector_entered : (kind : Kind) (s t : List ℕ) (f : File) (a m : ℕ) → Change kind s t f a m (entries kind) 0 → vector_of kind t ≡ vector_of kind s
vector_entered kind s t f a m c =
    vector_kept kind s t c.touches.long
    (λ e k n. ⊎_elim (λ (z : (e ≡ entries kind) × (k ≡ 0)). let q : e ≡ entries kind = z.0 in let l = n.entry_there in absurd (omega arith))
    (λ (z : Stays kind s t e k). z) (c.rest e k n))
    (grown_stays kind s t c.grown)

-- a file renamed leaves the vector as it was
pub vector_renamed : (kind : Kind) (s : List ℕ) (f : File) (name : List ℕ) → SoundImage kind s → vector_of kind (renamed kind f name s) ≡ vector_of kind s
vector_renamed kind s f name g = vector_kept kind s (renamed kind f name s) (all_renamed kind s f name g).len back forth
  where
    back : (e k : ℕ) → Names kind (renamed kind f name s) e k → Stays kind s (renamed kind f name s) e k
    back e k n =
        let y = renamed_number kind s f name g e k n.entry_there n.place_there in
        record { named = names_same kind s (renamed kind f name s) e k (renamed_empty kind s f name g e n.entry_there) y n; number = y }

    forth : (e k : ℕ) → Names kind s e k → Stays kind (renamed kind f name s) s e k
    forth e k n =
        let y = sym (renamed_number kind s f name g e k n.entry_there n.place_there) in
        record { named = names_same kind (renamed kind f name s) s e k (sym (renamed_empty kind s f name g e n.entry_there)) y n; number = y }

-- ---- a record written

-- in the block that it had: the vector is as it was
pub vector_old : (kind : Kind) (s t : List ℕ) (f : File) (r : ℕ) → Old kind s t f r → vector_of kind t ≡ vector_of kind s
vector_old kind s t f r w =
    let c = w.wrote.change in
    vector_kept kind s t c.touches.long
    (λ e k n. ⊎_elim
    (λ (z : (e ≡ w.entry) × (k ≡ map_place kind r)). rw (z.0, z.1) here) (λ (z : Stays kind s t e k). z) (c.rest e k n))
    (grown_stays kind s t c.grown)
  where
    here : Stays kind s t w.entry (map_place kind r)
    here = record {
      named = record {
        entry_there = w.wrote.below;
        place_there = place_fits kind r;
        entry_used = w.was_is.used;
        some = λ z. w.some (sym w.was ∙ z);
      };
      number = w.wrote.number ∙ sym w.was;
    }

-- in a free block, which it took: that block's bit is set
module _ (kind : Kind) (s t : List ℕ) (f : File) (r : ℕ) (w : New kind s t f r) where
  low : 2 ≤ w.block
  low = free_low kind s w.block w.free

  now_taken : is_taken kind t w.block ≡ true
  unfolding is_taken ◌and◌ ◌or◌ blocks
  now_taken =
      let h : w.block < blocks kind t = rw w.wrote.change.touches.long w.within in
      let l = low in
      rw (lt-ltb w.block (blocks kind t) h, le-ltb w.block 2 l) (used_so kind t w.block w.entry (map_place kind r) place w.wrote.number)
    where
      place : Names kind t w.entry (map_place kind r)
      place = record {
        entry_there = w.wrote.below;
        place_there = place_fits kind r;
        entry_used = w.wrote.is.used;
        some = λ (z : map_number kind t w.entry (map_place kind r) ≡ 0). absurd (let l = low in let q = w.wrote.number in omega arith);
      }

  others : (x : ℕ) → (x ≡ w.block → ⊥) → is_taken kind t x ≡ is_taken kind s x
  others x n =
      let c = w.wrote.change in
      taken_same kind s t c.touches.long x (λ l. same_test _ _
      (used_back kind s t c.touches.long x l (λ e k m q. ⊎_elim
      (λ (z : (e ≡ w.entry) × (k ≡ map_place kind r)).
      absurd (n (sym q ∙ ap (λ (i : ℕ). map_number kind t i k) z.0 ∙ ap (λ (j : ℕ). map_number kind t w.entry j) z.1 ∙ w.wrote.number)))
      (λ (z : Stays kind s t e k). z) (c.rest e k m)))
      (λ u.
      let v = used_of kind s x l u in
      let z = grown_stays kind s t c.grown v.entry v.place v.named in
      used_so kind t x v.entry v.place z.named (sym z.number ∙ v.number)))

  unused : is_used kind s w.block ≡ false
  unfolding is_free
  unused = not-true _ (and_snd _ _ w.free)

  -- it was clear before, ..
  pub was_clear : is_taken kind s w.block ≡ false
  unfolding is_taken ◌and◌ ◌or◌
  was_clear = rw (lt-ltb w.block (blocks kind s) w.within, le-ltb w.block 2 low) unused

  -- .. and the vector is that of before with it set
  pub vector_new : SoundImage kind s → vector_of kind t ≡ with_bit w.block (vector_of kind s)
  vector_new g =
      sym (vector_is kind t (with_bit w.block (vector_of kind s)) (length_bit (vector_of kind s) w.block ∙ vector-long kind s)
      (bytes_bit (vector_of kind s) w.block (vector_bytes kind s))
      (λ b l. ⊎_elim (λ (q : b ≡ w.block). rw q (set_here (vector_of kind s) w.block inside ∙ sym now_taken))
      (λ (q : b ≡ w.block → ⊥). set_there (vector_of kind s) w.block b q inside ∙ vector_bit kind s b l ∙ sym (others b q)) (equal? b w.block)))
    where
      inside : w.block < 8 * length (vector_of kind s)
      inside =
          let a = vector-long kind s in
          let m = vector_bits kind in
          let h = w.within in
          let k = length_few kind s g.long in omega arith

-- by its spot: no block taken, no bit set; ..
pub taken_off : (w : Spot) (v : List ℕ) → w.taken ≡ false → v ≡ taken_by w v
unfolding taken_by ◌if◌else◌
taken_off w v h = sym (ap (λ (t : Bool). with_bit w.block v if t else v) h)

-- .. a block taken, its bit set
pub taken_on : (w : Spot) (v t : List ℕ) → w.taken ≡ true → t ≡ with_bit w.block v → t ≡ taken_by w v
unfolding taken_by ◌if◌else◌
taken_on w v t h q = q ∙ sym (ap (λ (y : Bool). with_bit w.block v if y else v) h)

module _ (kind : Kind) (zeros : Bool) (s : List ℕ) (f : File) (r : ℕ) (v : List ℕ) (g : SoundImage kind s) (named : length f.name ≡ 11)
    (far : r ≤ top kind) (there : entry_of kind s f 0 < entries kind) (full : 128 ≤ length v) where
  abbrev here : ℕ
  here = entry_of kind s f (r / 128)

  abbrev image : List ℕ
  image = written kind zeros (spot_at kind s here r) (entry_of kind s f 0) f r v s

  -- the vector after a write is that of before with the bit of the block taken set, if one was taken
  pub vector_written : (leb (entries kind) here and leb (entries kind) (free_entry kind s)) ≡ false
      → (eqb (block_in kind s here r) 0 and leb (blocks kind s) (free_block kind s)) ≡ false
      → vector_of kind image ≡ taken_by (spot_at kind s here r) (vector_of kind s)
  vector_written room block =
      ⊎_elim
      (λ (k : ((spot_at kind s here r).taken ≡ false) × Old kind s image f r). vector_old kind s image f r k.1 ∙ taken_off (spot_at kind s here r) _ k.0)
      (λ (k : ((spot_at kind s here r).taken ≡ true) × (n : New kind s image f r) × (n.block ≡ (spot_at kind s here r).block)).
      taken_on (spot_at kind s here r) _ _ k.0 (vector_new kind s image f r k.1 g ∙ ap (λ (n : ℕ). with_bit n (vector_of kind s)) k.2))
      (written_spot kind zeros s f r v g named far there full room block)

-- ---- a file erased

module _ (kind : Kind) (s : List ℕ) (f : File) (g : SoundImage kind s) (size : length f.name ≡ 11) where
  of_used : (e : ℕ) → is_of s f e ≡ true → is_empty s e ≡ false
  unfolding is_of
  of_used e h = not-true _ (and_fst _ _ h)

  -- a block in use after it was so before, ..
  module _ (x : ℕ) (l : 2 ≤ x) (u : is_used kind (erased kind f s) x ≡ true) where
    abbrev after : Stands kind (erased kind f s) x
    after = used_of kind (erased kind f s) x l u

    stood : Stays kind s (erased kind f s) after.entry after.place
    stood = erased_stays kind s f g size after.entry after.place after.named

    number_before : map_number kind s after.entry after.place ≡ x
    number_before = sym stood.number ∙ after.number

    used_before : is_used kind s x ≡ true
    used_before = used_so kind s x after.entry after.place stood.named number_before

    -- .. and not by the file, ..
    not_of_file : any (holds_block kind s f x) (entries kind) ≡ false
    unfolding holds_block
    not_of_file =
        any_never (holds_block kind s f x) (entries kind) (λ e m. ⊎_elim
        (λ (h : holds_block kind s f x e ≡ true).
        let k = stands_at kind s x e m l (of_used e (and_fst _ _ h)) (and_snd _ _ h) in
        let o = g.maps.once e k.0 after.entry after.place k.1 stood.named (k.2 ∙ sym number_before) in
        absurd (never (erased_gone kind s f g size e m (and_fst _ _ h)) (rw o.0 after.named.entry_used)))
        (λ (h : holds_block kind s f x e ≡ false). h) (either (holds_block kind s f x e)))

  -- .. and the other way round
  used_erased : (x : ℕ) → 2 ≤ x → is_used kind s x ≡ true → any (holds_block kind s f x) (entries kind) ≡ false → is_used kind (erased kind f s) x ≡ true
  unfolding holds_block holds_number
  used_erased x l u none =
      let w = used_of kind s x l u in
      let n = w.named in
      ⊎_elim
      (λ (h : is_of s f w.entry ≡ true).
      absurd (never (and_both _ _ h (any_found (holds_number kind s x w.entry) (numbers kind) w.place n.place_there (eq-eqb _ _ w.number)))
      (any_at (holds_block kind s f x) (entries kind) w.entry none n.entry_there)))
      (λ (h : is_of s f w.entry ≡ false).
      let y = erased_kept kind s f g size w.entry n.entry_there h in
      let m = map_same kind s (erased kind f s) w.entry w.place y n.place_there in
      let e = empty_same s w.entry (erased kind f s) w.entry (head_of s w.entry (erased kind f s) w.entry y) in
      used_so kind (erased kind f s) x w.entry w.place (names_same kind (erased kind f s) s w.entry w.place (sym e) (sym m) n) (m ∙ w.number))
      (either (is_of s f w.entry))

  data_block : (x : ℕ) → 2 ≤ x → is_used kind (erased kind f s) x ≡ (is_used kind s x and not (any (holds_block kind s f x) (entries kind)))
  data_block x l = same_test _ _
      (λ u. and_both _ _ (used_before x l u) (not_of_false _ (not_of_file x l u)))
      (λ h. used_erased x l (and_fst _ _ h) (not-true _ (and_snd _ _ h)))

  -- each bit after it: as it was, and clear where an entry of the file had the block
  pub erased_taken : (x : ℕ) → is_taken kind (erased kind f s) x ≡ (is_taken kind s x and not (is_block_of kind s f (entries kind) x))
  unfolding is_taken is_block_of
  erased_taken x =
      ap (λ (n : ℕ). ltb x n and (ltb x 2 or is_used kind (erased kind f s) x)) (same_blocks kind s (erased kind f s) (all-erased kind s f g size).len)
      ∙ ⊎_elim
      (λ (l : ltb x 2 ≡ true). let m = ltb-true x 2 l in rw (l, lt-leb 2 x m) (directory (ltb x (blocks kind s)) _ _ _))
      (λ (l : ltb x 2 ≡ false). let m = ltb-false x 2 l in rw (l, le-leb 2 x m, data_block x m) (beyond (ltb x (blocks kind s)) (is_used kind s x) _))
      (either (ltb x 2))
    where
      directory : (n u v w : Bool) → (n and (true or u)) ≡ ((n and (true or v)) and not (false and w))
      directory true u v w = unfold ◌and◌ ◌or◌ in refl
      directory false u v w = unfold ◌and◌ ◌or◌ in refl

      beyond : (n u w : Bool) → (n and (false or (u and not w))) ≡ ((n and (false or u)) and not (true and w))
      beyond true true w = unfold ◌and◌ ◌or◌ in refl
      beyond true false w = unfold ◌and◌ ◌or◌ in refl
      beyond false u w = unfold ◌and◌ ◌or◌ in refl

  -- bytes with these bits are the vector after it
  pub vector_erased : (v : List ℕ) → length v ≡ vector_size kind → are_bytes v ≡ true
      → ((x : ℕ) → x < most kind → is_set v x ≡ (is_taken kind s x and not (is_block_of kind s f (entries kind) x))) → v ≡ vector_of kind (erased kind f s)
  vector_erased v l t h = vector_is kind (erased kind f s) v l t (λ x m. h x m ∙ sym (erased_taken x))

-- ---- at the ends of a call

module _ (kind : Kind) (p c : ℕ) (b : Buffers) (ok : Passed kind p c b) where
  -- 22 leaves the vector as it was, ..
  pub made_vector : MayMake kind p b → vector_of kind (made (free_entry kind b.image) (file_by p b) b.image) ≡ vector_of kind b.image
  made_vector w = vector_entered kind b.image _ (file_by p b) 0 0 (made_of kind p c b ok w 0 0 (entries kind) 0)

  -- .. so does 23; ..
  pub renamed_vector : MayRename kind p b → vector_of kind (renamed kind (file_by p b) (new_by p b).name b.image) ≡ vector_of kind b.image
  renamed_vector w = vector_renamed kind b.image (file_by p b) (new_by p b).name (image-of kind p c b ok)

  -- .. 34, 40 and 41 do so where the block was there, else they set the bit of the block that they took; ..
  pub written_vector : MayWrite kind p b → (zeros : Bool) (v : List ℕ) → 128 ≤ length v
      → (vector_of kind (image_written kind zeros p b v) ≡ vector_of kind b.image)
      ⊎ ((w : New kind b.image (image_written kind zeros p b v) (file_by p b) (record_of b.fcb))
      × (vector_of kind (image_written kind zeros p b v) ≡ with_bit w.block (vector_of kind b.image)))
  written_vector w zeros v full =
      ⊎_elim (λ (k : Old kind b.image (image_written kind zeros p b v) (file_by p b) (record_of b.fcb)). inl (vector_old kind b.image _ _ _ k))
      (λ (k : New kind b.image (image_written kind zeros p b v) (file_by p b) (record_of b.fcb)).
      inr (k, vector_new kind b.image _ _ _ k (image-of kind p c b ok)))
      (written_of kind p c b ok w zeros v full)

  -- .. and 19 clears the bits of the file's blocks
  pub erased_vector : (v : List ℕ) → length v ≡ vector_size kind → are_bytes v ≡ true
      → ((x : ℕ) → x < most kind → is_set v x ≡ (is_taken kind b.image x and not (is_block_of kind b.image (file_by p b) (entries kind) x)))
      → v ≡ vector_of kind (erased kind (file_by p b) b.image)
  erased_vector = vector_erased kind b.image (file_by p b) (image-of kind p c b ok) (caller_long p (list_of b) b.fcb)

-- ---- of a call's own table and effect

module _ (kind : Kind) (p c : ℕ) (b : Buffers) (ok : Passed kind p c b) where
  -- refused by it the image stays; so the effect tells
  served_vector : (k : Option Routine)
      → (any_row (rows_of k (asked kind p c b) b) ≡ false → vector_of kind (effect_of k (asked kind p c b) b).left.image ≡ vector_of kind b.image)
      → vector_of kind (served kind k p c b).left.image ≡ vector_of kind b.image
  unfolding served unless decided ◌if◌else◌
  served_vector k so =
      ⊎_elim
      (λ (h : any_row (rows_of k (asked kind p c b) b) ≡ true). rw (some_applies (rows_of k (asked kind p c b) b) (nonzero_of k (asked kind p c b) b) h) refl)
      (λ (h : any_row (rows_of k (asked kind p c b) b) ≡ false). rw (eq-eqb _ _ (none_applies (rows_of k (asked kind p c b) b) h)) (so h))
      (either (any_row (rows_of k (asked kind p c b) b)))

  -- Make leaves the vector as it was, ..
  pub make_vector : vector_of kind (served kind (Some Make) p c b).left.image ≡ vector_of kind b.image
  unfolding effect_of does22 makes asked asked_by
  make_vector = served_vector (Some Make) (λ h. made_vector kind p c b ok (may_make kind 0 p c b ok h))

  -- .. and so does Rename
  pub rename_vector : vector_of kind (served kind (Some Rename) p c b).left.image ≡ vector_of kind b.image
  unfolding effect_of does23 asked asked_by
  rename_vector = served_vector (Some Rename) (λ h. renamed_vector kind p c b ok (may_rename kind 0 p c b ok h))
