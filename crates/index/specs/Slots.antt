-- The slot of an extent of a file. Any number made of the two would do: a poor one costs time and never an answer.
-- Assumes nothing.
use Rattle.std.specs.Prelude.{ℕ, ◌+◌, ◌*◌, ◌%◌, Bool, not, List}
use Rattle.words.specs.Bytes.{byte}
use Rattle.rules.specs.declared.file.File.{File}
use Rattle.rules.specs.Drive.{is_empty, extent_at, file_at}

unfoldable pub mix : List ℕ → ℕ
mix n =
    byte n 0 + 11 * byte n 1 + 121 * byte n 2 + 51 * byte n 3 + 49 * byte n 4 + 27 * byte n 5 + 41 * byte n 6 + 195 * byte n 7
    + 97 * byte n 8 + 43 * byte n 9 + 217 * byte n 10

unfoldable pub slot_of : File → ℕ → ℕ
slot_of f x = (mix f.name + 85 * f.user + 17 * (x % 256)) % 256

-- that of entry e
unfoldable pub slot_at : List ℕ → ℕ → ℕ
slot_at s e = slot_of (file_at s e) (extent_at s e)

-- entry e is one to look for
unfoldable pub in_use : List ℕ → ℕ → Bool
in_use s e = not (is_empty s e)
