-- "Packing a book" (T-12): the same files, entries moved to the lowest places in their order and blocks numbered from 2 in the
-- order in which that walk meets them. Assumes nothing.
use Rattle.std.specs.Prelude.{ℕ, ◌+◌, ◌-◌, ◌*◌, ◌/◌, ◌%◌, Bool, not, List, ◌++◌, length, replicate}
use Rattle.words.specs.Tests.{◌if◌else◌, count}
use Rattle.words.specs.Lists.{tab, flat, passing}
use Rattle.words.specs.Bytes.{le, bytes_from}
use Rattle.rules.specs.declared.kind.Kind.{Kind}
use Rattle.rules.specs.Kinds.{block_size, entries, numbers, width}
use Rattle.rules.specs.Drive.{entry_size, blocks, is_empty, map_number, all_numbers, is_numbered}

-- ---- The walk

-- the used entries in their order
unfoldable pub is_used_entry : List ℕ → ℕ → Bool
is_used_entry s e = not (is_empty s e)

unfoldable pub used_entries : Kind → List ℕ → List ℕ
used_entries kind s = passing (is_used_entry s) (entries kind)

-- It goes from entry to entry and through the map of each: the places, of all the maps, at which it meets a block, in their
-- order; the block that it meets at place i
unfoldable pub walk : Kind → List ℕ → List ℕ
walk kind s = passing (is_numbered kind s) (all_numbers kind)

abbrev pub met_at : Kind → List ℕ → ℕ → ℕ
met_at kind s i = map_number kind s (i / numbers kind) (i % numbers kind)

-- blocks numbered from 2 in the order in which that walk meets them; a place with none stays so
unfoldable pub new_number : Kind → List ℕ → ℕ → ℕ
new_number kind s i = 2 + count (is_numbered kind s) i if is_numbered kind s i else 0

-- ---- What is laid down

-- the numbers of entry e's map, now
unfoldable pub new_map : Kind → List ℕ → ℕ → ℕ → ℕ
new_map kind s e k = new_number kind s (numbers kind * e + k)

-- entry e with its new block numbers: bytes 0 to 15 stay
unfoldable pub moved_entry : Kind → List ℕ → ℕ → List ℕ
moved_entry kind s e = bytes_from s (entry_size * e) 16 ++ flat (le (width kind)) (tab (new_map kind s e) (numbers kind))

-- the block met at place i
unfoldable pub moved_block : Kind → List ℕ → ℕ → List ℕ
moved_block kind s i = bytes_from s (block_size kind * met_at kind s i) (block_size kind)

-- Entries moved to the lowest places in their order; empty entries are E5h throughout.
unfoldable pub packed_directory : Kind → List ℕ → List ℕ → List ℕ
packed_directory kind s es = flat (moved_entry kind s) es ++ replicate (entry_size * (entries kind - length es)) 0xE5

-- Blocks in the order in which that walk meets them; free blocks zero.
unfoldable pub packed_blocks : Kind → List ℕ → List ℕ → List ℕ
packed_blocks kind s is = flat (moved_block kind s) is ++ replicate (block_size kind * (blocks kind s - 2 - length is)) 0

unfoldable pub packed : Kind → List ℕ → List ℕ
packed kind s = packed_directory kind s (used_entries kind s) ++ packed_blocks kind s (walk kind s)
