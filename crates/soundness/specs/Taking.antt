-- Which bits of the allocation vector a change of the image sets and clears (T-04). Assumes nothing.
use Rattle.std.specs.Prelude.{ℕ, Bool, List, leb}
use Rattle.words.specs.Tests.{◌and◌, ◌if◌else◌, any}
use Rattle.words.specs.Bits.{with_bit}
use Rattle.rules.specs.declared.kind.Kind.{Kind}
use Rattle.rules.specs.declared.file.File.{File}
use Rattle.rules.specs.declared.spot.Spot.{Spot}
use Rattle.rules.specs.Kinds.{numbers}
use Rattle.rules.specs.Drive.{is_of, holds_number}

-- a record written at a spot: the bit of the block that it takes is set
unfoldable pub taken_by : Spot → List ℕ → List ℕ
taken_by w v = with_bit w.block v if w.taken else v

-- entry e is of the file and has block x in its map
unfoldable pub holds_block : Kind → List ℕ → File → ℕ → ℕ → Bool
holds_block kind s f x e = is_of s f e and any (holds_number kind s x e) (numbers kind)

-- one of the first n entries does, of a data block: over all entries, the bits that the file's end clears
unfoldable pub is_block_of : Kind → List ℕ → File → ℕ → ℕ → Bool
is_block_of kind s f n x = leb 2 x and any (holds_block kind s f x) n
