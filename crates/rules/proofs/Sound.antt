-- A sound image, said of its entries and block numbers, and back. Assumes nothing.
use Prim.Native.Nat.{ℕ, ◌+◌, ◌-◌, ◌*◌, ◌/◌, ◌≤◌, ◌<◌}
use mathlib.Core.Path.{◌≡◌, refl, sym, ap, ◌∙◌}
use mathlib.Core.Bool.{Bool, true, false, not}
use mathlib.Core.List.{List}
use mathlib.Core.Logic.{⊎_elim}
use native.Mathlib.Omega.{arith}
use lib.ListN.{length, get_or}
use lib.Dec.{eqb, leb, ltb}
use borrow.Author.Tests.{eqb-true, eqb-false, eq-eqb, ne_eqb, leb-true, leb-false, ltb-true, le-leb, lt-ltb, not-true}
use Rattle.words.specs.Tests.{◌and◌, ◌if◌else◌, all, any}
use Rattle.words.specs.Lists.{tab}
use Rattle.words.specs.Bytes.{byte, low_from}
use Rattle.words.proofs.Tests.{either, never, all_at, all_make, any_at, any_found, any_never, any_some, lowest_holds, and_fst, and_snd, or_fst, or_snd, or_so}
use Rattle.words.proofs.Tests.{or_case}
use Rattle.words.proofs.Lists.{tab_ext, tab_get_d, tab_at, length-tab}
use Rattle.words.proofs.Counts.{count_split}
use Rattle.words.proofs.Sets.{and_both, or_none, not_of_false}
use Rattle.rules.specs.declared.file.File.{File}
use Rattle.rules.specs.declared.kind.Kind.{Kind}
use Rattle.rules.specs.Kinds.{block_size, most, entries, numbers}
use Rattle.rules.specs.Drive.{good_length, blocks, is_empty, name_at, extent_at, map_number, map_place, same_low, is_named, file_from, file_at, is_of, is_entry}
use Rattle.rules.specs.Drive.{entry_of, holds_number, names_block, is_used, is_in_use, blocks_in_use, is_free, free_blocks, good_fields, in_range, named_before}
use Rattle.rules.specs.Drive.{is_first, is_repeat, good_entry, has_first, sound_directory, sound_image, user_byte, block_in, block_of}
use Rattle.rules.proofs.Sizes.{size_whole, size_long, place_fits}

-- ---- entries

-- entry e is that extent of the file
pub record Is (s : List ℕ) (f : File) (x e : ℕ) : Type 0 where
  pub used : is_empty s e ≡ false
  pub file : file_at s e ≡ f
  pub extent : extent_at s e ≡ x

pub file_long : (s : List ℕ) (e : ℕ) → length (file_at s e).name ≡ 11
unfolding file_at file_from
file_long s e = length-tab (low_from s (name_at e)) 11

pub from_long : (u : ℕ) (s : List ℕ) (at : ℕ) → length (file_from u s at).name ≡ 11
unfolding file_from
from_long u s at = length-tab (low_from s at) 11

pub named_so : (s : List ℕ) (at : ℕ) (name : List ℕ) → tab (low_from s at) 11 ≡ name → is_named s at name ≡ true
unfolding is_named same_low
named_so s at name h =
    all_make (same_low s at name) 11
    (λ k l. eq-eqb (low_from s at k) (byte name k) (sym (tab_at (low_from s at) 11 k 0 l) ∙ ap (λ (m : List ℕ). get_or m k 0) h))

pub named_is : (s : List ℕ) (at : ℕ) (name : List ℕ) → length name ≡ 11 → is_named s at name ≡ true → tab (low_from s at) 11 ≡ name
unfolding is_named same_low
named_is s at name l h =
    tab_ext (low_from s at) (λ (k : ℕ). get_or name k 0) 11
    (λ k m. eqb-true (low_from s at k) (byte name k) (all_at (same_low s at name) 11 k h m))
    ∙ tab_get_d name 0 11 l

-- an extent of a file is an entry of the file with that number
pub entry_splits : (s : List ℕ) (f : File) (x e : ℕ) → is_entry s f x e ≡ (is_of s f e and eqb (extent_at s e) x)
unfolding is_entry is_of
entry_splits s f x e = turned (not (is_empty s e)) (eqb (user_byte s e) f.user) (eqb (extent_at s e) x) (is_named s (name_at e) f.name)
  where
    turned : (a b c d : Bool) → (a and b and c and d) ≡ ((a and b and d) and c)
    turned false b c d = unfold ◌and◌ in refl
    turned true false c d = unfold ◌and◌ in refl
    turned true true false false = unfold ◌and◌ in refl
    turned true true false true = unfold ◌and◌ in refl
    turned true true true false = unfold ◌and◌ in refl
    turned true true true true = unfold ◌and◌ in refl

pub entry_so : (s : List ℕ) (f : File) (x e : ℕ) → Is s f x e → is_entry s f x e ≡ true
unfolding is_entry file_at file_from
entry_so s f x e h =
    let u : user_byte s e ≡ f.user = ap (λ (g : File). g.user) h.file in
    let n : tab (low_from s (name_at e)) 11 ≡ f.name = ap (λ (g : File). g.name) h.file in
    and_both _ _ (not_of_false _ h.used) (and_both _ _ (eq-eqb _ _ u) (and_both _ _ (eq-eqb _ _ h.extent) (named_so s (name_at e) f.name n)))

pub entry_is : (s : List ℕ) (f : File) (x e : ℕ) → length f.name ≡ 11 → is_entry s f x e ≡ true → Is s f x e
unfolding is_entry file_at file_from
entry_is s f x e l h =
    let h₁ = and_snd _ _ h in
    let h₂ = and_snd _ _ h₁ in
    let u = eqb-true _ _ (and_fst _ _ h₁) in
    let n = named_is s (name_at e) f.name l (and_snd _ _ h₂) in
    record {
      used = not-true (is_empty s e) (and_fst _ _ h);
      file = λ i. record { user = u i; name = n i };
      extent = eqb-true _ _ (and_fst _ _ h₂);
    }

-- the entry that is found is used
pub found_used : (kind : Kind) (s : List ℕ) (f : File) (x : ℕ) → entry_of kind s f x < entries kind → is_empty s (entry_of kind s f x) ≡ false
unfolding entry_of is_entry
found_used kind s f x h = not-true _ (and_fst _ _ (lowest_holds (is_entry s f x) (entries kind) h))

pub found_is : (kind : Kind) (s : List ℕ) (f : File) (x : ℕ) → length f.name ≡ 11 → entry_of kind s f x < entries kind → Is s f x (entry_of kind s f x)
unfolding entry_of
found_is kind s f x l h = entry_is s f x (entry_of kind s f x) l (lowest_holds (is_entry s f x) (entries kind) h)

-- ---- the parts of a sound image

-- every used entry is good, no two have the same file and extent, each file has an extent 0
pub record Entries (kind : Kind) (s : List ℕ) : Type 0 where
  pub fields : (e : ℕ) → e < entries kind → is_empty s e ≡ false → good_fields kind s e ≡ true
  pub single : (d e : ℕ) → d < e → e < entries kind → is_empty s e ≡ false → Is s (file_at s e) (extent_at s e) d → ⊥
  pub begun : (e : ℕ) → e < entries kind → is_empty s e ≡ false → (d : ℕ) × (d < entries kind) × Is s (file_at s e) 0 d

-- place k of used entry e holds the number of a block
pub record Names (kind : Kind) (s : List ℕ) (e k : ℕ) : Type 0 where
  pub entry_there : e < entries kind
  pub place_there : k < numbers kind
  pub entry_used : is_empty s e ≡ false
  pub some : map_number kind s e k ≡ 0 → ⊥

-- map bytes are 0 or 2 to n−1; no block number other than 0 occurs twice
pub record Maps (kind : Kind) (s : List ℕ) : Type 0 where
  pub range : (e k : ℕ) → Names kind s e k → (2 ≤ map_number kind s e k) × (map_number kind s e k < blocks kind s)
  pub once : (d j e k : ℕ) → Names kind s d j → Names kind s e k → map_number kind s d j ≡ map_number kind s e k → (d ≡ e) × (j ≡ k)

pub record SoundImage (kind : Kind) (s : List ℕ) : Type 0 where
  pub long : good_length kind s ≡ true
  pub files : Entries kind s
  pub maps : Maps kind s

-- ---- the length

module _ (kind : Kind) (s : List ℕ) (h : good_length kind s ≡ true) where
  pub length_whole : block_size kind * blocks kind s ≡ length s
  length_whole = size_whole kind s h

  pub length_long : 32 * entries kind + 32 ≤ length s
  unfolding good_length
  length_long = size_long kind s (leb-true _ _ (and_fst _ _ (and_snd _ _ h)))

  pub length_few : blocks kind s ≤ most kind
  unfolding good_length
  length_few = leb-true _ _ (and_snd _ _ (and_snd _ _ h))

-- ---- from the test to the parts

module _ (kind : Kind) (s : List ℕ) (h : sound_image kind s ≡ true) where
  pub sound_length : good_length kind s ≡ true
  unfolding sound_image
  sound_length = and_fst _ _ h

  -- the directory lies in the image, and so does each entry
  pub image_long : 32 * entries kind ≤ length s
  image_long = let a = length_long kind s sound_length in omega arith

  pub entry_inside : (e : ℕ) → e < entries kind → 32 * e + 32 ≤ length s
  entry_inside e l = let a = image_long in omega arith

  entry-of : (e : ℕ) → e < entries kind → is_empty s e ≡ false
      → (good_fields kind s e and all (in_range kind s e) (numbers kind) and all (is_first kind s e) (numbers kind) and not (is_repeat s e)) ≡ true
  unfolding sound_image sound_directory good_entry
  entry-of e l u = or_so _ _ (all_at (good_entry kind s) (entries kind) e (and_fst _ _ (and_snd _ _ h)) l) u

  begun_of : (e : ℕ) → e < entries kind → is_empty s e ≡ false → any (is_entry s (file_at s e) 0) (entries kind) ≡ true
  unfolding sound_image sound_directory has_first
  begun_of e l u = or_so _ _ (all_at (has_first kind s) (entries kind) e (and_snd _ _ (and_snd _ _ h)) l) u

  range_of : (e k : ℕ) → Names kind s e k → (leb 2 (map_number kind s e k) and ltb (map_number kind s e k) (blocks kind s)) ≡ true
  unfolding in_range
  range_of e k n =
      or_so _ _
      (all_at (in_range kind s e) (numbers kind) k (and_fst _ _ (and_snd _ _ (entry-of e n.entry_there n.entry_used))) n.place_there)
      (ne_eqb _ _ n.some)

  before_of : (e k : ℕ) → Names kind s e k → named_before kind s (map_number kind s e k) e k ≡ false
  unfolding is_first
  before_of e k n =
      not-true _
      (or_so _ _
      (all_at (is_first kind s e) (numbers kind) k (and_fst _ _ (and_snd _ _ (and_snd _ _ (entry-of e n.entry_there n.entry_used)))) n.place_there)
      (ne_eqb _ _ n.some))

  -- a number that stands before place k of entry e is another
  not_before : (d j e k : ℕ) → Names kind s d j → Names kind s e k → map_number kind s d j ≡ map_number kind s e k → d < e → ⊥
  unfolding named_before names_block holds_number
  not_before d j e k m n q l =
      let g = any_at (names_block kind s (map_number kind s e k)) e d (or_fst _ _ (before_of e k n)) l in
      let y = any_found (holds_number kind s (map_number kind s e k) d) (numbers kind) j m.place_there (eq-eqb _ _ q) in
      never (and_both _ _ (not_of_false _ m.entry_used) y) g

  not_within : (e j k : ℕ) → Names kind s e k → map_number kind s e j ≡ map_number kind s e k → j < k → ⊥
  unfolding named_before holds_number
  not_within e j k n q l =
      never (eq-eqb _ _ q) (any_at (holds_number kind s (map_number kind s e k) e) k j (or_snd _ _ (before_of e k n)) l)

  once_of : (d j e k : ℕ) → Names kind s d j → Names kind s e k → map_number kind s d j ≡ map_number kind s e k → (d ≡ e) × (j ≡ k)
  once_of d j e k m n q =
      let a : (d < e → ⊥) = not_before d j e k m n q in
      let b : (e < d → ⊥) = not_before e k d j n m (sym q) in
      let c : d ≡ e = same d e a b in
      let q' : map_number kind s e j ≡ map_number kind s e k = ap (λ (i : ℕ). map_number kind s i j) (sym c) ∙ q in
      let m' : Names kind s e j = rw c at m in
      (c, same j k (not_within e j k n q') (not_within e k j m' (sym q')))
    where
      same : (a b : ℕ) → (a < b → ⊥) → (b < a → ⊥) → a ≡ b
      same a b f g =
          ⊎_elim
          (λ (x : leb b a ≡ true). ⊎_elim
          (λ (y : leb a b ≡ true). let u = leb-true b a x in let v = leb-true a b y in omega arith)
          (λ (y : leb a b ≡ false). absurd (g (leb-false a b y))) (either (leb a b)))
          (λ (x : leb b a ≡ false). absurd (f (leb-false b a x))) (either (leb b a))

  pub sound_of : SoundImage kind s
  unfolding is_repeat
  sound_of = record {
    long = sound_length;
    files = record {
      fields = λ e l u. and_fst _ _ (entry-of e l u);
      single = λ d e m l u q.
          never (entry_so s (file_at s e) (extent_at s e) d q)
          (any_at (is_entry s (file_at s e) (extent_at s e)) e d (not-true _ (and_snd _ _ (and_snd _ _ (and_snd _ _ (entry-of e l u))))) m);
      begun = λ e l u.
          let k = any_some (is_entry s (file_at s e) 0) (entries kind) (begun_of e l u) in
          (k.0, k.1, entry_is s (file_at s e) 0 k.0 (file_long s e) k.2);
    };
    maps = record {
      range = λ e k n. (leb-true _ _ (and_fst _ _ (range_of e k n)), ltb-true _ _ (and_snd _ _ (range_of e k n)));
      once = once_of;
    };
  }

-- ---- and back

module _ (kind : Kind) (s : List ℕ) (g : SoundImage kind s) where
  named : (e k : ℕ) → e < entries kind → k < numbers kind → is_empty s e ≡ false → eqb (map_number kind s e k) 0 ≡ false → Names kind s e k
  named e k l m u z = record { entry_there = l; place_there = m; entry_used = u; some = eqb-false _ _ z }

  range_so : (e : ℕ) → e < entries kind → is_empty s e ≡ false → all (in_range kind s e) (numbers kind) ≡ true
  unfolding in_range
  range_so e l u =
      all_make (in_range kind s e) (numbers kind) (λ k m. or_case _ _ (λ z.
      let r = g.maps.range e k (named e k l m u z) in and_both _ _ (le-leb _ _ r.0) (lt-ltb _ _ r.1)))

  first_so : (e : ℕ) → e < entries kind → is_empty s e ≡ false → all (is_first kind s e) (numbers kind) ≡ true
  unfolding is_first named_before names_block holds_number
  first_so e l u =
      all_make (is_first kind s e) (numbers kind) (λ k m. or_case _ _ (λ z.
      let n = named e k l m u z in
      not_of_false _ (or_none _ _
      (any_never (names_block kind s (map_number kind s e k)) e (λ d i. ⊎_elim
      (λ (y : names_block kind s (map_number kind s e k) d ≡ true).
      let w = any_some (holds_number kind s (map_number kind s e k) d) (numbers kind) (and_snd _ _ y) in
      let q = eqb-true _ _ w.2 in
      let v : Names kind s d w.0 = record {
        entry_there = omega arith;
        place_there = w.1;
        entry_used = not-true _ (and_fst _ _ y);
        some = λ (x : map_number kind s d w.0 ≡ 0). n.some (sym q ∙ x);
      } in
      let o : d ≡ e = (g.maps.once d w.0 e k v n q).0 in absurd (omega arith))
      (λ (y : names_block kind s (map_number kind s e k) d ≡ false). y) (either (names_block kind s (map_number kind s e k) d))))
      (any_never (holds_number kind s (map_number kind s e k) e) k (λ j i. ne_eqb _ _ (λ (q : map_number kind s e j ≡ map_number kind s e k).
      let v : Names kind s e j = record {
        entry_there = l;
        place_there = omega arith;
        entry_used = u;
        some = λ (x : map_number kind s e j ≡ 0). n.some (sym q ∙ x);
      } in
      let o : j ≡ k = (g.maps.once e j e k v n q).1 in absurd (omega arith)))))))

  repeat_so : (e : ℕ) → e < entries kind → is_empty s e ≡ false → is_repeat s e ≡ false
  unfolding is_repeat
  repeat_so e l u =
      any_never (is_entry s (file_at s e) (extent_at s e)) e (λ d m. ⊎_elim
      (λ (q : is_entry s (file_at s e) (extent_at s e) d ≡ true). absurd (g.files.single d e m l u (entry_is s (file_at s e) (extent_at s e) d (file_long s e) q)))
      (λ (q : is_entry s (file_at s e) (extent_at s e) d ≡ false). q) (either (is_entry s (file_at s e) (extent_at s e) d)))

  pub sound_so : sound_image kind s ≡ true
  unfolding sound_image sound_directory good_entry has_first
  sound_so =
      and_both _ _ g.long (and_both _ _
      (all_make (good_entry kind s) (entries kind) (λ e l. or_case _ _ (λ u.
      and_both _ _ (g.files.fields e l u) (and_both _ _ (range_so e l u) (and_both _ _ (first_so e l u) (not_of_false _ (repeat_so e l u)))))))
      (all_make (has_first kind s) (entries kind) (λ e l. or_case _ _ (λ u.
      let k = g.files.begun e l u in
      any_found (is_entry s (file_at s e) 0) (entries kind) k.0 k.1 (entry_so s (file_at s e) 0 k.0 k.2)))))

-- ---- blocks

-- the free and the used blocks add up to n − 2
pub add_up : (kind : Kind) (s : List ℕ) → free_blocks kind s + blocks_in_use kind s ≡ blocks kind s - 2
unfolding free_blocks is_free blocks_in_use is_in_use
add_up kind s = count_split 2 (blocks kind s) (is_used kind s)

-- a record that has a block: where its number stands
module _ (kind : Kind) (s : List ℕ) (f : File) (r : ℕ) (some : block_of kind s f r ≡ 0 → ⊥) where
  extent_there : leb (entries kind) (entry_of kind s f (r / 128)) ≡ false
  unfolding block_of block_in ◌if◌else◌
  extent_there =
      ⊎_elim (λ (q : leb (entries kind) (entry_of kind s f (r / 128)) ≡ true). absurd (some (rw q))) (λ q. q)
      (either (leb (entries kind) (entry_of kind s f (r / 128))))

  pub block_is : block_of kind s f r ≡ map_number kind s (entry_of kind s f (r / 128)) (map_place kind r)
  unfolding block_of block_in ◌if◌else◌
  block_is = rw extent_there

  pub block_named : Names kind s (entry_of kind s f (r / 128)) (map_place kind r)
  block_named =
      let l = leb-false (entries kind) _ extent_there in
      record { entry_there = l; place_there = place_fits kind r; entry_used = found_used kind s f (r / 128) l; some = λ q. some (block_is ∙ q) }

  -- it is a data block
  pub block_within : sound_image kind s ≡ true → (2 ≤ block_of kind s f r) × (block_of kind s f r < blocks kind s)
  block_within h = rw block_is ((sound_of kind s h).maps.range _ _ block_named)
