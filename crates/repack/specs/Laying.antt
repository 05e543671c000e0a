-- How far a book is packed into a buffer: what the buffer begins with, and the numbers that come next. Assumes nothing.
use Rattle.std.specs.Prelude.{ℕ, ◌+◌, ◌*◌, ◌≤◌, ◌≡◌, List, ◌++◌, length, take}
use Rattle.words.specs.Tests.{count}
use Rattle.words.specs.Lists.{tab, flat, passing}
use Rattle.words.specs.Bytes.{bytes_from, le}
use Rattle.rules.specs.declared.kind.Kind.{Kind}
use Rattle.rules.specs.Kinds.{numbers, width}
use Rattle.rules.specs.Drive.{is_numbered}
use Rattle.packing.specs.Packed.{is_used_entry, used_entries, new_map, moved_entry, moved_block, packed_directory}

-- the used ones of the entries before e, moved
unfoldable pub entries_to : Kind → List ℕ → ℕ → List ℕ
entries_to kind s e = flat (moved_entry kind s) (passing (is_used_entry s) e)

-- .. and entry e to place k of its map
unfoldable pub places_to : Kind → List ℕ → ℕ → ℕ → List ℕ
places_to kind s e k = entries_to kind s e ++ (bytes_from s (32 * e) 16 ++ flat (le (width kind)) (tab (new_map kind s e) k))

-- the directory, and the blocks that the walk meets before place i
unfoldable pub blocks_to : Kind → List ℕ → ℕ → List ℕ
blocks_to kind s i = packed_directory kind s (used_entries kind s) ++ flat (moved_block kind s) (passing (is_numbered kind s) i)

-- the number that the block met at place i gets
unfoldable pub next_number : Kind → List ℕ → ℕ → ℕ
next_number kind s i = 2 + count (is_numbered kind s) i

pub record LaidEntries (kind : Kind) (s : List ℕ) (e to next : ℕ) (out : List ℕ) : Type 0 where
  pub begins : take (length (entries_to kind s e)) out ≡ entries_to kind s e
  pub to_is : to ≡ count (is_used_entry s) e
  pub next_is : next ≡ next_number kind s (numbers kind * e)
  pub few : next ≤ 1026

pub record LaidPlaces (kind : Kind) (s : List ℕ) (e k to next : ℕ) (out : List ℕ) : Type 0 where
  pub begins : take (length (places_to kind s e k)) out ≡ places_to kind s e k
  pub to_is : to ≡ count (is_used_entry s) e
  pub next_is : next ≡ next_number kind s (numbers kind * e + k)
  pub few : next ≤ 1026

pub record LaidBlocks (kind : Kind) (s : List ℕ) (i next : ℕ) (out : List ℕ) : Type 0 where
  pub begins : take (length (blocks_to kind s i)) out ≡ blocks_to kind s i
  pub next_is : next ≡ next_number kind s i
  pub few : next ≤ 1026
  pub size : length out ≡ length s
