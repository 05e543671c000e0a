-- The general refusals of a call with a vector beside the image (T-04). Assumes nothing.
use Rattle.std.specs.Prelude.{ℕ, Bool, not, List, [], ◌∷◌, ◌++◌, length, eqb, leb, ltb}
use Rattle.words.specs.Tests.{◌or◌}
use Rattle.words.specs.Tables.{Row, ◌∕◌, ◌when◌}
use Rattle.rules.specs.declared.kind.Kind.{Kind}
use Rattle.rules.specs.Kinds.{vector_size}
use Rattle.rules.specs.Drive.{sound_image}
use Rattle.rules.specs.Locks.{sound_list}
use Rattle.rules.specs.Codes.{bad_numbers, bad_drive}
use Rattle.rules.specs.Serves.{Buffers, processes}
use Rattle.rules.specs.Vector.{agrees, rows_vector}

-- 255/13 also for the vector's length
unfoldable pub bad_lengths : Kind → ℕ → ℕ → ℕ → List ℕ → List ℕ → List ℕ → List ℕ → Bool
bad_lengths kind n p c fcb dma list v = bad_numbers n p c fcb dma list or not (eqb (length v) (vector_size kind))

-- the rows that look into the buffers
unfoldable pub rows_within : Kind → ℕ → List ℕ → List ℕ → List ℕ → List ℕ → List Row
rows_within kind n fcb list s v =
    255 ∕ 1 when not (sound_image kind s)
    ∷ 255 ∕ 12 when not (sound_list kind list s)
    ∷ 255 ∕ 14 when not (agrees kind v s)
    ∷ 255 ∕ 4 when bad_drive n fcb
    ∷ []

-- all of them: those of the vector's table, then 255/4
unfoldable pub rows_five : Kind → ℕ → ℕ → ℕ → List ℕ → Buffers → List Row
rows_five kind n p c v b = rows_vector kind n p c v b ++ (255 ∕ 4 when bad_drive n b.fcb ∷ [])

-- ---- What only proofs need

-- 255/13 of a known function on an FCB, a DMA and a list of their lengths: process over 15, count outside 1 to 16, vector of wrong length
unfoldable pub bad_sizes : Kind → ℕ → ℕ → List ℕ → Bool
bad_sizes kind p c v = leb processes p or ltb c 1 or ltb 16 c or not (eqb (length v) (vector_size kind))
