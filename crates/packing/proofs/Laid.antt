-- The bytes of a packed book, by place: the entries laid down, those after them, the blocks laid down, and the free ones. Assumes nothing.
use Prim.Native.Nat.{ℕ, ◌+◌, ◌-◌, ◌*◌, ◌≤◌, ◌<◌}
use mathlib.Core.Path.{◌≡◌, ap, ◌∙◌}
use mathlib.Core.Bool.{true, false}
use mathlib.Core.List.{List, ◌++◌}
use mathlib.Core.Logic.{⊎_elim}
use native.Mathlib.Omega.{arith}
use lib.ListN.{length, get_or, replicate, length-append, length-replicate, get_or-replicate}
use lib.Dec.{leb}
use borrow.Author.Tests.{leb-true, leb-false}
use Rattle.words.specs.Tests.{count}
use Rattle.words.specs.Lists.{tab, flat}
use Rattle.words.specs.Bytes.{byte, byte_from, bytes_from, le}
use Rattle.words.proofs.Tests.{either}
use Rattle.words.proofs.Counts.{count_within}
use Rattle.words.proofs.Passing.{passing_long, passing_size}
use Rattle.words.proofs.Lists.{tab_at, length-tab, flat_at, length-flat}
use Rattle.words.proofs.Bytes.{first_byte, second_byte, from_tab, from_size, le_long}
use Rattle.rules.specs.declared.kind.Kind.{Kind}
use Rattle.rules.specs.Kinds.{block_size, entries, numbers, width}
use Rattle.rules.specs.Drive.{blocks, blocks_in_use, free_blocks, all_numbers, is_numbered}
use Rattle.rules.proofs.Sizes.{directory_size, map_size, block_inside, blocks_rest, block_behind, block_low}
use Rattle.rules.proofs.Sound.{SoundImage, length_whole, length_long, add_up}
use Rattle.soundness.proofs.InUse.{in_use}
use Rattle.packing.specs.Packed.{is_used_entry, used_entries, walk, met_at, new_map, moved_entry, moved_block, packed_directory, packed_blocks, packed}

module _ (kind : Kind) (s : List ℕ) where
  -- ---- what is laid down for one entry, and for one block

  abbrev new_numbers : ℕ → List ℕ
  new_numbers e = flat (le (width kind)) (tab (new_map kind s e) (numbers kind))

  numbers_long : (e : ℕ) → length (new_numbers e) ≡ 16
  numbers_long e =
      length-flat (le (width kind)) (width kind) (le_long (width kind)) (tab (new_map kind s e) (numbers kind))
      ∙ ap (λ (n : ℕ). width kind * n) (length-tab (new_map kind s e) (numbers kind)) ∙ map_size kind

  pub entry_long : (e : ℕ) → length (moved_entry kind s e) ≡ 32
  unfolding moved_entry
  entry_long e =
      let a = from_size s (32 * e) 16 in
      let b = numbers_long e in
      length-append (bytes_from s (32 * e) 16) (new_numbers e) ∙ omega arith

  -- bytes 0 to 15 stay, ..
  pub moved_head : (e k : ℕ) → k < 16 → byte (moved_entry kind s e) k ≡ byte s (32 * e + k)
  unfolding moved_entry
  moved_head e k l =
      first_byte (bytes_from s (32 * e) 16) (new_numbers e) 16 (from_size s (32 * e) 16) k l
      ∙ ap (λ (x : List ℕ). byte x k) (from_tab s (32 * e) 16) ∙ tab_at (byte_from s (32 * e)) 16 k 0 l

  -- .. and the others are those of the new numbers
  pub moved_map : (e k j : ℕ) → k < numbers kind → j < width kind
      → byte (moved_entry kind s e) (16 + (width kind * k + j)) ≡ byte (le (width kind) (new_map kind s e k)) j
  unfolding moved_entry
  moved_map e k j l m =
      let p : 16 + (width kind * k + j) - 16 ≡ width kind * k + j = omega arith in
      let c = length-tab (new_map kind s e) (numbers kind) in
      second_byte (bytes_from s (32 * e) 16) (new_numbers e) 16 (from_size s (32 * e) 16) (16 + (width kind * k + j)) (omega arith)
      ∙ ap (byte (new_numbers e)) p
      ∙ flat_at (le (width kind)) (width kind) (le_long (width kind)) k j (tab (new_map kind s e) (numbers kind)) 0 (omega arith) m
      ∙ ap (λ (x : ℕ). byte (le (width kind) x) j) (tab_at (new_map kind s e) (numbers kind) k 0 l)

  pub block_long : (i : ℕ) → length (moved_block kind s i) ≡ block_size kind
  unfolding moved_block
  block_long i = from_size s (block_size kind * met_at kind s i) (block_size kind)

  -- ---- all of them

  -- how many entries are used, and how many blocks the walk meets
  abbrev pub many : ℕ
  many = count (is_used_entry s) (entries kind)

  abbrev pub met : ℕ
  met = count (is_numbered kind s) (all_numbers kind)

  pub entries_long : length (used_entries kind s) ≡ many
  unfolding used_entries
  entries_long = passing_long (is_used_entry s) (entries kind)

  pub walk_long : length (walk kind s) ≡ met
  unfolding walk
  walk_long = passing_long (is_numbered kind s) (all_numbers kind)

  pub entries_fit : many ≤ entries kind
  entries_fit = count_within (is_used_entry s) (entries kind)

  abbrev laid_entries : List ℕ
  laid_entries = flat (moved_entry kind s) (used_entries kind s)

  abbrev laid_blocks : List ℕ
  laid_blocks = flat (moved_block kind s) (walk kind s)

  abbrev empties : List ℕ
  empties = replicate (32 * (entries kind - length (used_entries kind s))) 0xE5

  abbrev zeros : List ℕ
  zeros = replicate (block_size kind * (blocks kind s - 2 - length (walk kind s))) 0

  moved_long : length laid_entries ≡ 32 * many
  unfolding used_entries
  moved_long = passing_size (moved_entry kind s) (is_used_entry s) 32 entry_long (entries kind)

  copied_long : length laid_blocks ≡ block_size kind * met
  unfolding walk
  copied_long = passing_size (moved_block kind s) (is_numbered kind s) (block_size kind) block_long (all_numbers kind)

  pub directory_long : length (packed_directory kind s (used_entries kind s)) ≡ 32 * entries kind
  unfolding packed_directory
  directory_long =
      let a = moved_long in
      let b = entries_long in
      let c = entries_fit in
      let d : length empties ≡ 32 * (entries kind - length (used_entries kind s)) = length-replicate (32 * (entries kind - length (used_entries kind s))) 0xE5 in
      length-append laid_entries empties ∙ omega arith

  -- a byte of the directory
  in_directory : (i : ℕ) → i < 32 * entries kind → byte (packed kind s) i ≡ byte (laid_entries ++ empties) i
  unfolding packed packed_directory
  in_directory i l = first_byte (packed_directory kind s (used_entries kind s)) (packed_blocks kind s (walk kind s)) (32 * entries kind) directory_long i l

  -- entry d, of those laid down
  pub entry-byte : (d k : ℕ) → d < many → k < 32 → byte (packed kind s) (32 * d + k) ≡ byte (moved_entry kind s (get_or (used_entries kind s) d 0)) k
  entry-byte d k l m =
      let c = entries_fit in
      in_directory (32 * d + k) (omega arith)
      ∙ first_byte laid_entries empties (32 * many) moved_long (32 * d + k) (omega arith)
      ∙ flat_at (moved_entry kind s) 32 entry_long d k (used_entries kind s) 0 (let b = entries_long in omega arith) m

  -- those after them
  pub empty_byte : (i : ℕ) → 32 * many ≤ i → i < 32 * entries kind → byte (packed kind s) i ≡ 0xE5
  empty_byte i l m =
      in_directory i m
      ∙ second_byte laid_entries empties (32 * many) moved_long i l
      ∙ get_or-replicate (32 * (entries kind - length (used_entries kind s))) (i - 32 * many) 0xE5 0 (let b = entries_long in omega arith)

  -- ---- of a sound book

  module _ (g : SoundImage kind s) where
    -- the blocks that the walk meets are those in use, ..
    pub met_used : blocks_in_use kind s ≡ met
    met_used = in_use kind s g

    pub all_free : free_blocks kind s + met ≡ blocks kind s - 2
    all_free = let a = add_up kind s in let b = met_used in omega arith

    -- .. and there is room for them
    pub blocks_fit : 2 + met ≤ blocks kind s
    blocks_fit =
        let a = all_free in
        ⊎_elim (λ (c : leb 2 (blocks kind s) ≡ true). let b = leb-true 2 (blocks kind s) c in omega arith)
        (λ (c : leb 2 (blocks kind s) ≡ false).
        let b = block_inside kind (blocks kind s) 2 (leb-false 2 (blocks kind s) c) in
        let d = directory_size kind in
        let e = length_whole kind s g.long in
        let f = length_long kind s g.long in
        absurd (omega arith)) (either (leb 2 (blocks kind s)))

    pub packed_long : length (packed kind s) ≡ length s
    unfolding packed packed_blocks
    packed_long =
        let a = copied_long in
        let z = directory_long in
        let c : length zeros ≡ block_size kind * (blocks kind s - 2 - met) =
        length-replicate (block_size kind * (blocks kind s - 2 - length (walk kind s))) 0 ∙ ap (λ (n : ℕ). block_size kind * (blocks kind s - 2 - n)) walk_long in
        let r = blocks_rest kind (blocks kind s) met blocks_fit in
        let w = length_whole kind s g.long in
        length-append (packed_directory kind s (used_entries kind s)) (laid_blocks ++ zeros)
        ∙ ap (λ (n : ℕ). length (packed_directory kind s (used_entries kind s)) + n) (length-append laid_blocks zeros)
        ∙ omega arith

    -- block j + 2, of those laid down
    pub block_byte : (j i : ℕ) → j < met → i < block_size kind
        → byte (packed kind s) (block_size kind * (2 + j) + i) ≡ byte s (block_size kind * met_at kind s (get_or (walk kind s) j 0) + i)
    unfolding packed packed_blocks moved_block
    block_byte j i l m =
        let q = block_behind kind j i in
        let p : block_size kind * (2 + j) + i - 32 * entries kind ≡ block_size kind * j + i = omega arith in
        let o = met_at kind s (get_or (walk kind s) j 0) in
        second_byte (packed_directory kind s (used_entries kind s)) (packed_blocks kind s (walk kind s)) (32 * entries kind) directory_long
        (block_size kind * (2 + j) + i) (omega arith)
        ∙ ap (byte (packed_blocks kind s (walk kind s))) p
        ∙ first_byte laid_blocks zeros (block_size kind * met) copied_long (block_size kind * j + i) (block_low kind j met i l m)
        ∙ flat_at (moved_block kind s) (block_size kind) block_long j i (walk kind s) 0 (let b = walk_long in omega arith) m
        ∙ ap (λ (x : List ℕ). byte x i) (from_tab s (block_size kind * o) (block_size kind))
        ∙ tab_at (byte_from s (block_size kind * o)) (block_size kind) i 0 m
