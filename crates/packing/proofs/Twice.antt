-- Packing twice equals packing once; as many blocks are free, and they are the highest ones. Assumes nothing.
use Prim.Native.Nat.{ℕ, zero, suc, ◌+◌, ◌-◌, ◌*◌, ◌/◌, ◌%◌, ◌≤◌, ◌<◌}
use mathlib.Core.Path.{◌≡◌, refl, sym, ap, ◌∙◌}
use mathlib.Core.Bool.{true, false}
use mathlib.Core.List.{List, ◌++◌}
use mathlib.Core.Logic.{⊎_elim}
use native.Mathlib.Omega.{arith}
use native.Mathlib.Numerals.{add-one}
use lib.ListN.{length, get_or}
use lib.Dec.{leb}
use borrow.Author.Tests.{eq-eqb, eqb-true, leb-true, leb-false, le-leb, not-true}
use Rattle.words.specs.Tests.{count}
use Rattle.words.specs.Lists.{tab, flat, passing}
use Rattle.words.specs.Bytes.{byte_from, bytes_from, le}
use Rattle.words.proofs.Tests.{either, equal?, and_fst, and_snd, any_some, any_found, never, same_test}
use Rattle.words.proofs.Counts.{count_yes, count_not, count_up, count_all, count_shift}
use Rattle.words.proofs.Passing.{passing_is}
use Rattle.words.proofs.Sets.{and_left, and_both, not_of_false, not_of_true}
use Rattle.words.proofs.Lists.{tab_ext, flat_same}
use Rattle.words.proofs.Bytes.{from_tab}
use Rattle.rules.specs.declared.kind.Kind.{Kind}
use Rattle.rules.specs.Kinds.{block_size, entries, numbers, width}
use Rattle.rules.specs.Drive.{blocks, is_empty, map_number, holds_number, names_block, is_used, all_numbers, is_numbered, blocks_in_use, is_free, free_blocks, sound_image}
use Rattle.rules.proofs.Sizes.{flat_both, flat_next, flat_within, flat_past, flat_up, flat_there}
use Rattle.rules.proofs.Sound.{Names, SoundImage, sound_of}
use Rattle.soundness.proofs.Blocks.{names_flat, numbered_names}
use Rattle.packing.specs.Packed.{is_used_entry, used_entries, walk, met_at, new_number, new_map, moved_entry, moved_block, packed_directory, packed_blocks, packed}
use Rattle.packing.proofs.Laid.{many, met, entries_long, walk_long, entries_fit, blocks_fit, block_byte, packed_long, all_free, met_used}
use Rattle.packing.proofs.Sound.{goes, used_so, used_is, hole_so, number_yes, renumbered, stays, empty_so, pair, came, new_below, packed_is_sound}

-- ---- empty entries

-- no place of theirs is numbered
pub numbered_off : (kind : Kind) (s : List ℕ) (i : ℕ) → is_empty s (i / numbers kind) ≡ true → is_numbered kind s i ≡ false
unfolding is_numbered
numbered_off kind s i h = and_left _ _ (not_of_true _ h)

unused_so : (s : List ℕ) (e : ℕ) → is_empty s e ≡ true → is_used_entry s e ≡ false
unfolding is_used_entry
unused_so s e h = not_of_true _ h

module _ (kind : Kind) (s : List ℕ) (g : SoundImage kind s) where
  abbrev t : List ℕ
  t = packed kind s

  -- ---- the walk meets the same places in the same order

  numbered_same : (e k : ℕ) → e < entries kind → is_empty s e ≡ false → k < numbers kind
      → is_numbered kind t (numbers kind * goes kind s e + k) ≡ is_numbered kind s (numbers kind * e + k)
  numbered_same e k l u m =
      let p = pair kind s g e l u in
      ⊎_elim
      (λ (z : map_number kind s e k ≡ 0). hole_so kind t (goes kind s e) k m ((p.held k m).nothing z) ∙ sym (hole_so kind s e k m z))
      (λ (z : map_number kind s e k ≡ 0 → ⊥).
      names_flat kind t (goes kind s e) k
      (record { entry_there = p.to_there; place_there = m; entry_used = p.to_used; some = (p.held k m).something z })
      ∙ sym (names_flat kind s e k (record { entry_there = l; place_there = m; entry_used = u; some = z })))
      (equal? (map_number kind s e k) 0)

  walked : (e : ℕ) → e ≤ entries kind → count (is_numbered kind t) (numbers kind * goes kind s e) ≡ count (is_numbered kind s) (numbers kind * e)
  walked zero l = unfold count in let z : numbers kind * 0 ≡ 0 = omega arith in rw z refl
  walked (suc e) l =
      let k = walked e (omega arith) in
      let q : numbers kind * suc e ≡ numbers kind * e + numbers kind = ap (λ (n : ℕ). numbers kind * n) (sym (add-one e)) ∙ flat_next kind e in
      ⊎_elim
      (λ (c : is_empty s e ≡ true).
      let a = count_not (is_used_entry s) e (unused_so s e c) in
      let b = count_up (is_numbered kind s) (numbers kind * e) (numbers kind * e + numbers kind) (omega arith)
      (λ i m n. numbered_off kind s i (rw (flat_within kind e i m n) c)) in
      ap (λ (n : ℕ). count (is_numbered kind t) (numbers kind * n)) a ∙ k ∙ sym b ∙ ap (count (is_numbered kind s)) (sym q))
      (λ (c : is_empty s e ≡ false).
      let y : goes kind s (suc e) ≡ goes kind s e + 1 = count_yes (is_used_entry s) e (used_so kind s e c) in
      ap (λ (n : ℕ). count (is_numbered kind t) (numbers kind * n)) y ∙ ap (count (is_numbered kind t)) (flat_next kind (goes kind s e))
      ∙ count_shift (is_numbered kind t) (is_numbered kind s) (numbers kind * goes kind s e) (numbers kind * e) k (numbers kind)
      (λ i m. numbered_same e i (omega arith) c m)
      ∙ ap (count (is_numbered kind s)) (sym q))
      (either (is_empty s e))

  walked_at : (e k : ℕ) → e < entries kind → is_empty s e ≡ false → k < numbers kind
      → count (is_numbered kind t) (numbers kind * goes kind s e + k) ≡ count (is_numbered kind s) (numbers kind * e + k)
  walked_at e k l u m =
      count_shift (is_numbered kind t) (is_numbered kind s) (numbers kind * goes kind s e) (numbers kind * e) (walked e (omega arith)) k
      (λ i n. numbered_same e i l u (omega arith))

  -- so its numbers are the new numbers already
  new_same : (e k : ℕ) → e < entries kind → is_empty s e ≡ false → k < numbers kind
      → new_number kind t (numbers kind * goes kind s e + k) ≡ new_number kind s (numbers kind * e + k)
  unfolding new_number
  new_same e k l u m = rw (numbered_same e k l u m, walked_at e k l u m) refl

  -- ---- as many entries, as many blocks

  used_low : (d : ℕ) → d < many kind s → is_empty t d ≡ false
  used_low d l =
      let w = passing_is (is_used_entry s) (entries kind) d 0 l in
      rw w.counted at (pair kind s g (get_or (passing (is_used_entry s) (entries kind)) d 0) w.below (used_is kind s _ w.passes)).to_used

  many_same : many kind t ≡ many kind s
  many_same =
      count_up (is_used_entry t) (many kind s) (entries kind) (entries_fit kind s) (λ d m l. unused_so t d (empty_so kind s d m l))
      ∙ count_all (is_used_entry t) (many kind s) (λ d l. used_so kind t d (used_low d l))

  met_same : met kind t ≡ met kind s
  met_same =
      count_up (is_numbered kind t) (numbers kind * many kind s) (all_numbers kind) (flat_up kind (many kind s) (entries kind) (entries_fit kind s))
      (λ i m l. numbered_off kind t i (empty_so kind s (i / numbers kind) (flat_past kind (many kind s) i m) (flat_there kind i l)))
      ∙ walked (entries kind) (omega arith)

  blocks_same : blocks kind t ≡ blocks kind s
  unfolding blocks
  blocks_same = ap (λ (n : ℕ). n / block_size kind) (packed_long kind s g)

  -- ---- packed again

  -- used entry d is the one that was laid down there
  nth_used : (d : ℕ) → d < many kind s → get_or (used_entries kind t) d 0 ≡ d
  unfolding used_entries
  nth_used d l =
      let f = entries_fit kind s in
      let a : goes kind t d ≡ d = count_all (is_used_entry t) d (λ i m. used_so kind t i (used_low i (omega arith))) in
      let w = Rattle.words.proofs.Passing.passing_at (is_used_entry t) (entries kind) d 0 (omega arith) (used_so kind t d (used_low d l)) in
      rw a at w

  entry_again : (d : ℕ) → d < many kind s → moved_entry kind t (get_or (used_entries kind t) d 0) ≡ moved_entry kind s (get_or (used_entries kind s) d 0)
  unfolding moved_entry used_entries new_map
  entry_again d l =
      let w = passing_is (is_used_entry s) (entries kind) d 0 l in
      let e = get_or (passing (is_used_entry s) (entries kind)) d 0 in
      let u = used_is kind s e w.passes in
      let q : get_or (used_entries kind t) d 0 ≡ goes kind s e = nth_used d l ∙ sym w.counted in
      let a : bytes_from t (32 * goes kind s e) 16 ≡ bytes_from s (32 * e) 16 =
      from_tab t _ 16 ∙ tab_ext (byte_from t (32 * goes kind s e)) (byte_from s (32 * e)) 16 (λ k m. stays kind s e w.below u k m) ∙ sym (from_tab s _ 16) in
      let b : tab (new_map kind t (goes kind s e)) (numbers kind) ≡ tab (new_map kind s e) (numbers kind) =
      tab_ext (new_map kind t (goes kind s e)) (new_map kind s e) (numbers kind) (λ k m. new_same e k w.below u m) in
      ap (moved_entry kind t) q ∙ ap (λ (x : List ℕ). x ++ flat (le (width kind)) (tab (new_map kind t (goes kind s e)) (numbers kind))) a
      ∙ ap (λ (x : List ℕ). bytes_from s (32 * e) 16 ++ flat (le (width kind)) x) b

  -- the number at a place is the one that the walk gives it
  met_number : (i : ℕ) → i < all_numbers kind → is_numbered kind t i ≡ true → met_at kind t i ≡ 2 + count (is_numbered kind t) i
  met_number i l h =
      let n = numbered_names kind t i l h in
      let c = came kind s g (i / numbers kind) n.entry_there n.entry_used in
      let e = c.0 in
      let k = i % numbers kind in
      let m = n.place_there in
      let q : numbers kind * goes kind s e + k ≡ i = ap (λ (d : ℕ). numbers kind * d + k) c.3 ∙ flat_both kind i in
      let y : is_numbered kind s (numbers kind * e + k) ≡ true = sym (numbered_same e k c.1 c.2 m) ∙ ap (is_numbered kind t) q ∙ h in
      ap (λ (d : ℕ). map_number kind t d k) (sym c.3) ∙ renumbered kind s g e k c.1 c.2 m ∙ number_yes kind s (numbers kind * e + k) y
      ∙ ap (λ (x : ℕ). 2 + x) (sym (walked_at e k c.1 c.2 m) ∙ ap (count (is_numbered kind t)) q)

  nth_met : (j : ℕ) → j < met kind s → met_at kind t (get_or (walk kind t) j 0) ≡ 2 + j
  unfolding walk
  nth_met j m =
      let w = passing_is (is_numbered kind t) (all_numbers kind) j 0 (let q = met_same in omega arith) in
      met_number (get_or (passing (is_numbered kind t) (all_numbers kind)) j 0) w.below w.passes ∙ ap (λ (n : ℕ). 2 + n) w.counted

  block_again : (j : ℕ) → j < met kind s → moved_block kind t (get_or (walk kind t) j 0) ≡ moved_block kind s (get_or (walk kind s) j 0)
  unfolding moved_block
  block_again j m =
      ap (λ (n : ℕ). bytes_from t (block_size kind * n) (block_size kind)) (nth_met j m)
      ∙ from_tab t (block_size kind * (2 + j)) (block_size kind)
      ∙ tab_ext (byte_from t (block_size kind * (2 + j))) (byte_from s (block_size kind * met_at kind s (get_or (walk kind s) j 0))) (block_size kind)
      (λ i l. block_byte kind s g j i m l)
      ∙ sym (from_tab s (block_size kind * met_at kind s (get_or (walk kind s) j 0)) (block_size kind))

  packed_again : packed kind t ≡ packed kind s
  unfolding packed packed_directory packed_blocks
  packed_again =
      let a = entries_long kind s in
      let b = walk_long kind s in
      let c : length (used_entries kind t) ≡ length (used_entries kind s) = entries_long kind t ∙ many_same ∙ sym a in
      let d : length (walk kind t) ≡ length (walk kind s) = walk_long kind t ∙ met_same ∙ sym b in
      rw (
        flat_same (moved_entry kind t) (moved_entry kind s) 0 (used_entries kind t) (used_entries kind s) c (λ i l. entry_again i (omega arith)),
        flat_same (moved_block kind t) (moved_block kind s) 0 (walk kind t) (walk kind s) d (λ i l. block_again i (omega arith)),
        c,
        d,
        blocks_same,
      ) refl

  -- ---- its free blocks

  free_same : free_blocks kind t ≡ free_blocks kind s
  free_same =
      let a = all_free kind s g in
      let b = all_free kind t (packed_is_sound kind s g) in
      let c = met_same in
      let d = blocks_same in
      let e = blocks_fit kind s g in
      omega arith

  -- block 2 + j is named, of those that the walk meets
  named_low : (j : ℕ) → j < met kind s → is_used kind t (2 + j) ≡ true
  unfolding is_used names_block holds_number walk
  named_low j m =
      let w = passing_is (is_numbered kind t) (all_numbers kind) j 0 (let q = met_same in omega arith) in
      let i = get_or (passing (is_numbered kind t) (all_numbers kind)) j 0 in
      let n = numbered_names kind t i w.below w.passes in
      any_found (names_block kind t (2 + j)) (entries kind) (i / numbers kind) n.entry_there
      (and_both _ _ (not_of_false _ n.entry_used)
      (any_found (holds_number kind t (2 + j) (i / numbers kind)) (numbers kind) (i % numbers kind) n.place_there (eq-eqb _ _ (nth_met j m))))

  -- and no other
  named_below : (b : ℕ) → 2 ≤ b → is_used kind t b ≡ true → b < 2 + met kind s
  unfolding is_used names_block holds_number
  named_below b l h =
      let e = any_some (names_block kind t b) (entries kind) h in
      let k = any_some (holds_number kind t b e.0) (numbers kind) (and_snd _ _ e.2) in
      let q : map_number kind t e.0 k.0 ≡ b = eqb-true _ _ k.2 in
      let n : Names kind t e.0 k.0 = record {
        entry_there = e.1;
        place_there = k.1;
        entry_used = not-true _ (and_fst _ _ e.2);
        some = λ (z : map_number kind t e.0 k.0 ≡ 0). absurd (omega arith);
      } in
      rw q at (new_below kind s g e.0 k.0 n)

  free_high : (b : ℕ) → 2 ≤ b → is_free kind t b ≡ leb (2 + met kind s) b
  unfolding is_free
  free_high b l = same_test _ _
      (λ h. ⊎_elim (λ (c : leb (2 + met kind s) b ≡ true). c)
      (λ (c : leb (2 + met kind s) b ≡ false).
      let k = leb-false (2 + met kind s) b c in
      let q : 2 + (b - 2) ≡ b = omega arith in
      absurd (never (rw q at (named_low (b - 2) (omega arith))) (not-true _ (and_snd _ _ h)))) (either (leb (2 + met kind s) b)))
      (λ h. and_both _ _ (le-leb 2 b l) (not_of_false _ (⊎_elim
      (λ (c : is_used kind t b ≡ true). let k = named_below b l c in let m = leb-true (2 + met kind s) b h in absurd (omega arith)) (λ c. c)
      (either (is_used kind t b)))))

-- ---- of every sound book

-- Packing twice equals packing once.
pub packed_twice : (kind : Kind) (s : List ℕ) → sound_image kind s ≡ true → packed kind (packed kind s) ≡ packed kind s
packed_twice kind s h = packed_again kind s (sound_of kind s h)

-- As many blocks are free, ..
pub free_packed : (kind : Kind) (s : List ℕ) → sound_image kind s ≡ true → free_blocks kind (packed kind s) ≡ free_blocks kind s
free_packed kind s h = free_same kind s (sound_of kind s h)

-- .. and they are the highest ones: a block is free exactly when it comes after as many as are in use.
pub free_highest : (kind : Kind) (s : List ℕ) → sound_image kind s ≡ true → (b : ℕ) → 2 ≤ b → is_free kind (packed kind s) b ≡ leb (2 + blocks_in_use kind s) b
free_highest kind s h b l = let g = sound_of kind s h in free_high kind s g b l ∙ ap (λ (n : ℕ). leb (2 + n) b) (sym (met_used kind s g))
