-- A packed book is the book moved, and sound. Assumes nothing.
use Prim.Native.Nat.{ℕ, ◌+◌, ◌*◌, ◌/◌, ◌%◌, ◌≤◌, ◌<◌}
use mathlib.Core.Path.{◌≡◌, refl, sym, ap, ◌∙◌}
use mathlib.Core.Bool.{true, false}
use mathlib.Core.List.{List}
use mathlib.Core.Logic.{⊎_elim}
use native.Mathlib.Omega.{arith}
use lib.ListN.{get_or}
use lib.Dec.{ltb}
use borrow.Author.Tests.{eq-eqb, ltb-true, ltb-false, not-true}
use Rattle.words.specs.Tests.{◌if◌else◌, count}
use Rattle.words.specs.Bytes.{byte}
use Rattle.words.proofs.Tests.{either, never}
use Rattle.words.proofs.Sets.{and_last, not_of_false, not_of_true}
use Rattle.words.proofs.Counts.{count_below, count_apart}
use Rattle.words.proofs.Passing.{passing_at, passing_is}
use Rattle.rules.specs.declared.kind.Kind.{Kind}
use Rattle.rules.specs.Kinds.{block_size, most, entries, numbers, width}
use Rattle.rules.specs.Drive.{blocks, is_empty, map_number, all_numbers, is_numbered, sound_image}
use Rattle.rules.proofs.Sizes.{most_some, map_inside, map_held, flat_entry, flat_place, flat_below}
use Rattle.rules.proofs.Sound.{Names, SoundImage, Maps, length_few, sound_of, sound_so}
use Rattle.rules.proofs.Frames.{Head, empty_same, long_same}
use Rattle.soundness.proofs.Blocks.{names_flat}
use Rattle.packing.specs.Packed.{is_used_entry, used_entries, walk, met_at, new_number, new_map, moved_entry, packed}
use Rattle.packing.proofs.Laid.{many, met, moved_head, moved_map, entry-byte, empty_byte, block_byte, entries_fit, blocks_fit, packed_long}
use Rattle.packing.proofs.Moved.{Pair, Moved, moved_entries}

module _ (kind : Kind) (s : List ℕ) where
  -- ---- used entries

  pub used_so : (e : ℕ) → is_empty s e ≡ false → is_used_entry s e ≡ true
  unfolding is_used_entry
  used_so e h = not_of_false (is_empty s e) h

  pub used_is : (e : ℕ) → is_used_entry s e ≡ true → is_empty s e ≡ false
  unfolding is_used_entry
  used_is e h = not-true (is_empty s e) h

  -- where a used entry goes
  abbrev pub goes : ℕ → ℕ
  goes e = count (is_used_entry s) e

  pub comes_back : (e : ℕ) → e < entries kind → is_empty s e ≡ false → get_or (used_entries kind s) (goes e) 0 ≡ e
  unfolding used_entries
  comes_back e l u = passing_at (is_used_entry s) (entries kind) e 0 l (used_so e u)

  goes_low : (e : ℕ) → e < entries kind → is_empty s e ≡ false → goes e < many kind s
  goes_low e l u = count_below (is_used_entry s) e (entries kind) l (used_so e u)

  -- no other entry is used
  pub empty_so : (d : ℕ) → many kind s ≤ d → d < entries kind → is_empty (packed kind s) d ≡ true
  unfolding is_empty
  empty_so d m l = eq-eqb _ _ (empty_byte kind s (32 * d) (omega arith) (omega arith))

  -- ---- numbers

  -- a place without a number
  pub hole_so : (e k : ℕ) → k < numbers kind → map_number kind s e k ≡ 0 → is_numbered kind s (numbers kind * e + k) ≡ false
  unfolding is_numbered
  hole_so e k l h = rw (flat_entry kind e k l, flat_place kind e k l) (and_last _ _ (not_of_true _ (eq-eqb _ _ h)))

  pub number_yes : (i : ℕ) → is_numbered kind s i ≡ true → new_number kind s i ≡ 2 + count (is_numbered kind s) i
  unfolding new_number ◌if◌else◌
  number_yes i h = rw h refl

  pub number_no : (i : ℕ) → is_numbered kind s i ≡ false → new_number kind s i ≡ 0
  unfolding new_number ◌if◌else◌
  number_no i h = rw h refl

  met_at_lem : (i : ℕ) → i < all_numbers kind → is_numbered kind s i ≡ true → get_or (walk kind s) (count (is_numbered kind s) i) 0 ≡ i
  unfolding walk
  met_at_lem i l h = passing_at (is_numbered kind s) (all_numbers kind) i 0 l h

  -- ---- entry e, where it stands

  module _ (e : ℕ) (l : e < entries kind) (u : is_empty s e ≡ false) where
    stands : (k : ℕ) → k < 32 → byte (packed kind s) (32 * goes e + k) ≡ byte (moved_entry kind s e) k
    stands k m = entry-byte kind s (goes e) k (goes_low e l u) m ∙ ap (λ (n : ℕ). byte (moved_entry kind s n) k) (comes_back e l u)

    -- its bytes 0 to 15
    pub stays : (k : ℕ) → k < 16 → byte (packed kind s) (32 * goes e + k) ≡ byte s (32 * e + k)
    stays k m = stands k (omega arith) ∙ moved_head kind s e k m

    head : Head s e (packed kind s) (goes e)
    head = record { at = λ k m. stays k (omega arith) }

  -- ---- of a sound book

  module _ (g : SoundImage kind s) where
    -- a new number is that of a block
    new_low : (i : ℕ) → i < all_numbers kind → new_number kind s i < most kind
    new_low i l =
        ⊎_elim
        (λ (y : is_numbered kind s i ≡ true).
        let a = count_below (is_numbered kind s) i (all_numbers kind) l y in
        let b = blocks_fit kind s g in
        let c = length_few kind s g.long in
        let d = number_yes i y in omega arith)
        (λ (y : is_numbered kind s i ≡ false). let a = number_no i y in let b = most_some kind in omega arith) (either (is_numbered kind s i))

    -- the new numbers of entry e
    pub renumbered : (e k : ℕ) → e < entries kind → is_empty s e ≡ false → k < numbers kind
        → map_number kind (packed kind s) (goes e) k ≡ new_number kind s (numbers kind * e + k)
    unfolding new_map
    renumbered e k l u m =
        map_held kind (packed kind s) (goes e) k (new_number kind s (numbers kind * e + k)) (new_low _ (flat_below kind e k l m))
        (λ j n. let w = map_inside kind k j m n in stands e l u (16 + (width kind * k + j)) (omega arith) ∙ moved_map kind s e k j m n)

    named : (e k : ℕ) → e < entries kind → is_empty s e ≡ false → k < numbers kind → (map_number kind s e k ≡ 0 → ⊥)
        → is_numbered kind s (numbers kind * e + k) ≡ true
    named e k l u m w = names_flat kind s e k (record { entry_there = l; place_there = m; entry_used = u; some = w })

    pub pair : (e : ℕ) → e < entries kind → is_empty s e ≡ false → Pair kind s (packed kind s) e (goes e)
    pair e l u =
        let a = goes_low e l u in
        let b = entries_fit kind s in
        record {
          from_there = l;
          to_there = omega arith;
          from_used = u;
          to_used = empty_same s e (packed kind s) (goes e) (head e l u) ∙ u;
          head = head e l u;
          counts = stays e l u 15 (omega arith);
          held = λ k m. record {
            nothing = λ z. renumbered e k l u m ∙ number_no (numbers kind * e + k) (hole_so e k m z);
            something = λ w z.
                let i = numbers kind * e + k in
                let q : 2 + count (is_numbered kind s) i ≡ 0 = sym (number_yes i (named e k l u m w)) ∙ sym (renumbered e k l u m) ∙ z in
                absurd (omega arith);
            bytes = λ w j h.
                let i = numbers kind * e + k in
                let y = named e k l u m w in
                let o = flat_below kind e k l m in
                let c = count_below (is_numbered kind s) i (all_numbers kind) o y in
                let q : met_at kind s i ≡ map_number kind s e k = rw (flat_entry kind e k m, flat_place kind e k m) refl in
                ap (λ (n : ℕ). byte (packed kind s) (block_size kind * n + j)) (renumbered e k l u m ∙ number_yes i y)
                ∙ block_byte kind s g (count (is_numbered kind s) i) j c h
                ∙ ap (λ (n : ℕ). byte s (block_size kind * met_at kind s n + j)) (met_at_lem i o y)
                ∙ ap (λ (n : ℕ). byte s (block_size kind * n + j)) q;
          };
        }

    pub came : (d : ℕ) → d < entries kind → is_empty (packed kind s) d ≡ false
        → (e : ℕ) × (e < entries kind) × (is_empty s e ≡ false) × (goes e ≡ d)
    unfolding used_entries
    came d l u =
        ⊎_elim
        (λ (c : ltb d (many kind s) ≡ true).
        let w = passing_is (is_used_entry s) (entries kind) d 0 (ltb-true d (many kind s) c) in
        (get_or (used_entries kind s) d 0, w.below, used_is _ w.passes, w.counted))
        (λ (c : ltb d (many kind s) ≡ false). absurd (never (empty_so d (ltb-false d (many kind s) c) l) u)) (either (ltb d (many kind s)))

    -- it is the book moved
    pub packed_moved : Moved kind s (packed kind s) goes
    packed_moved = record { forth = pair; back = came }

    -- ---- its block numbers

    -- where the number in place k of its entry d came from
    pub record New (d k : ℕ) : Type 0 where
      pub entry : ℕ
      pub below : entry < entries kind
      pub in_use : is_empty s entry ≡ false
      pub there : goes entry ≡ d
      pub numbered : is_numbered kind s (numbers kind * entry + k) ≡ true
      pub number : map_number kind (packed kind s) d k ≡ 2 + count (is_numbered kind s) (numbers kind * entry + k)

    pub new_of : (d k : ℕ) → Names kind (packed kind s) d k → New d k
    new_of d k n =
        let b = came d n.entry_there n.entry_used in
        let e = b.0 in
        let i = numbers kind * e + k in
        let q : map_number kind (packed kind s) d k ≡ new_number kind s i =
        ap (λ (x : ℕ). map_number kind (packed kind s) x k) (sym b.3) ∙ renumbered e k b.1 b.2 n.place_there in
        ⊎_elim
        (λ (y : is_numbered kind s i ≡ true).
        record { entry = e; below = b.1; in_use = b.2; there = b.3; numbered = y; number = q ∙ number_yes i y })
        (λ (y : is_numbered kind s i ≡ false). absurd (n.some (q ∙ number_no i y))) (either (is_numbered kind s i))

    -- it is below 2 and as many as the walk meets
    pub new_below : (d k : ℕ) → (n : Names kind (packed kind s) d k) → map_number kind (packed kind s) d k < 2 + met kind s
    new_below d k n =
        let w = new_of d k n in
        let l = flat_below kind w.entry k w.below n.place_there in
        let c = count_below (is_numbered kind s) (numbers kind * w.entry + k) (all_numbers kind) l w.numbered in
        rw w.number (omega arith)

    packed_maps : Maps kind (packed kind s)
    unfolding blocks
    packed_maps = record {
      range = λ d k n.
          let a = new_below d k n in
          let b = (new_of d k n).number in
          let f = blocks_fit kind s g in
          (omega arith, rw (packed_long kind s g) (omega arith));
      once = λ c j d k n m q.
          let v = new_of c j n in
          let w = new_of d k m in
          let a : 2 + count (is_numbered kind s) (numbers kind * v.entry + j) ≡ 2 + count (is_numbered kind s) (numbers kind * w.entry + k) =
          sym v.number ∙ q ∙ w.number in
          let p = count_apart (is_numbered kind s) (numbers kind * v.entry + j) (numbers kind * w.entry + k) v.numbered w.numbered (omega arith) in
          let e : v.entry ≡ w.entry =
          sym (flat_entry kind v.entry j n.place_there) ∙ ap (λ (x : ℕ). x / numbers kind) p ∙ flat_entry kind w.entry k m.place_there in
          let o : j ≡ k =
          sym (flat_place kind v.entry j n.place_there) ∙ ap (λ (x : ℕ). x % numbers kind) p ∙ flat_place kind w.entry k m.place_there in
          (sym v.there ∙ ap goes e ∙ w.there, o);
    }

    pub packed_is_sound : SoundImage kind (packed kind s)
    packed_is_sound = record {
      long = long_same kind s (packed kind s) (packed_long kind s g) g.long;
      files = moved_entries kind s (packed kind s) goes packed_moved g.files;
      maps = packed_maps;
    }

-- A packed book is sound.
pub packed_sound : (kind : Kind) (s : List ℕ) → sound_image kind s ≡ true → sound_image kind (packed kind s) ≡ true
packed_sound kind s h = sound_so kind (packed kind s) (packed_is_sound kind s (sound_of kind s h))
