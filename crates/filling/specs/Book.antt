-- A book with 64 files, the first of which has 64 records. Assumes nothing.
use Rattle.std.specs.Prelude.{ℕ, ◌+◌, ◌/◌, ◌%◌, List, [], ◌∷◌, ◌++◌, replicate}
use Rattle.words.specs.Lists.{tab, flat}
use Rattle.rules.specs.declared.file.File.{File}

-- the name of file j: two letters, then blanks
unfoldable pub name_of : ℕ → List ℕ
name_of j = (65 + j / 8) ∷ (65 + j % 8) ∷ replicate 9 32

-- its entry, with nothing in it
unfoldable pub entry_for : ℕ → List ℕ
entry_for j = 0 ∷ (name_of j ++ replicate 20 0)

-- blocks 2 to 9 are the first file's
unfoldable pub first_entry : List ℕ
first_entry = 0 ∷ (name_of 0 ++ (0 ∷ 0 ∷ 0 ∷ 64 ∷ 2 ∷ 3 ∷ 4 ∷ 5 ∷ 6 ∷ 7 ∷ 8 ∷ 9 ∷ replicate 8 0))

unfoldable pub later_entry : ℕ → List ℕ
later_entry j = entry_for (1 + j)

unfoldable pub book : List ℕ
book = first_entry ++ (flat later_entry (tab (λ (j : ℕ). j) 63) ++ replicate 8192 0)

-- an FCB for file j, byte 5's high bit set, with a record number
unfoldable pub fcb_for : ℕ → ℕ → List ℕ
fcb_for j r = 0 ∷ (65 + j / 8) ∷ (65 + j % 8) ∷ 32 ∷ 32 ∷ 160 ∷ 32 ∷ 32 ∷ 32 ∷ 32 ∷ 32 ∷ 32 ∷ (replicate 21 0 ++ (r ∷ 0 ∷ 0 ∷ []))

-- a DMA with a File ID
unfoldable pub dma_for : ℕ → List ℕ
dma_for id = id ∷ replicate 2047 0

-- file j, under user 0
unfoldable pub file_no : ℕ → File
file_no j = record { user = 0; name = name_of j }
