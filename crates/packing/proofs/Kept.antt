-- What packing leaves as it was: Look, and of every extent of every file its name with all attributes, its numbers and its count. Assumes nothing.
use Prim.Native.Nat.{ℕ, ◌+◌, ◌-◌, ◌*◌, ◌<◌}
use mathlib.Core.Path.{◌≡◌, ap, ◌∙◌}
use mathlib.Core.Bool.{true}
use mathlib.Core.List.{List, ◌++◌}
use native.Mathlib.Omega.{arith}
use lib.ListN.{length, drop, replicate}
use Rattle.words.specs.Lists.{flat}
use Rattle.words.specs.Bytes.{byte, bytes_from, le, are_bytes}
use Rattle.words.proofs.AreBytes.{bytes_append, bytes_take, bytes_drop, bytes_replicate, bytes_flat, bytes_le}
use Rattle.rules.specs.declared.kind.Kind.{Kind}
use Rattle.rules.specs.Kinds.{block_size, entries, width}
use Rattle.rules.specs.declared.file.File.{File}
use Rattle.rules.specs.Drive.{blocks, no_entry, entry_byte, entry_of, file_from, sound_image}
use Rattle.rules.specs.Look.{look}
use Rattle.rules.proofs.Sound.{SoundImage, sound_of, from_long, found_is}
use Rattle.packing.specs.Packed.{used_entries, walk, moved_entry, moved_block, packed_directory, packed_blocks, packed}
use Rattle.packing.proofs.Laid.{packed_long}
use Rattle.packing.proofs.Moved.{found_moved, missing_moved, shown_moved}
use Rattle.packing.proofs.Sound.{goes, stays, packed_moved, packed_sound}
use Rattle.packing.proofs.Looks.{shown_look}

module _ (kind : Kind) (s : List ℕ) (h : sound_image kind s ≡ true) where
  abbrev g : SoundImage kind s
  g = sound_of kind s h

  -- A packed book has the same length.
  pub length-packed : length (packed kind s) ≡ length s
  length-packed = packed_long kind s g

  -- Look shows the same, for every user, name and record.
  pub look-packed : (u : ℕ) (name : List ℕ) (r : ℕ) → look kind u name r (packed kind s) ≡ look kind u name r s
  look-packed u name r =
      shown_look kind u name r s (packed kind s) h (packed_sound kind s h)
      (shown_moved kind s (packed kind s) (goes kind s) (packed_moved kind s g) g.files (file_from u name 0) r (from_long u name 0))

  -- The same extents are missing.
  pub missing-packed : (f : File) (x : ℕ) → length f.name ≡ 11 → no_entry kind (entry_of kind (packed kind s) f x) ≡ no_entry kind (entry_of kind s f x)
  missing-packed f x n = missing_moved kind s (packed kind s) (goes kind s) (packed_moved kind s g) g.files f x n

  -- Bytes 0 to 15 of every extent of every file stay.
  pub entry_packed : (f : File) (x k : ℕ) → length f.name ≡ 11 → entry_of kind s f x < entries kind → k < 16
      → entry_byte (packed kind s) (entry_of kind (packed kind s) f x) k ≡ entry_byte s (entry_of kind s f x) k
  entry_packed f x k n l m =
      ap (λ (d : ℕ). byte (packed kind s) (32 * d + k)) (found_moved kind s (packed kind s) (goes kind s) (packed_moved kind s g) g.files f x n l)
      ∙ stays kind s (entry_of kind s f x) l (found_is kind s f x n l).used k m

-- ---- bytes stay bytes

from_bytes : (s : List ℕ) (at n : ℕ) → are_bytes s ≡ true → are_bytes (bytes_from s at n) ≡ true
unfolding bytes_from
from_bytes s at n h =
    bytes_take n (drop at s ++ replicate n 0) (bytes_append (drop at s) (replicate n 0) (bytes_drop at s h) (bytes_replicate n 0 (omega arith)))

-- A book of bytes is packed into bytes.
pub bytes_packed : (kind : Kind) (s : List ℕ) → are_bytes s ≡ true → are_bytes (packed kind s) ≡ true
unfolding packed packed_directory packed_blocks moved_entry moved_block
bytes_packed kind s h =
    bytes_append _ _
    (bytes_append (flat (moved_entry kind s) (used_entries kind s)) _
    (bytes_flat (moved_entry kind s) 0 (used_entries kind s) (λ d l. bytes_append _ _ (from_bytes s _ 16 h)
    (bytes_flat (le (width kind)) 0 _ (λ i m. bytes_le (width kind) _))))
    (bytes_replicate (32 * (entries kind - length (used_entries kind s))) 0xE5 (omega arith)))
    (bytes_append (flat (moved_block kind s) (walk kind s)) _
    (bytes_flat (moved_block kind s) 0 (walk kind s) (λ i l. from_bytes s _ (block_size kind) h))
    (bytes_replicate (block_size kind * (blocks kind s - 2 - length (walk kind s))) 0 (omega arith)))
