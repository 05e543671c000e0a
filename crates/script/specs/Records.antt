-- The records that `mpmcalls` reads. Assumes nothing.
use Rattle.std.specs.Prelude.{ℕ, ◌+◌, Bool, List, [], ◌∷◌, ◌++◌, length, eqb}
use Rattle.words.specs.Tests.{◌and◌}
use Rattle.words.specs.Bytes.{byte, part}
use Rattle.rules.specs.Serves.{processes, fcb_size, dma_size}

-- Two mark bytes.
abbrev pub mark_size : ℕ
mark_size = 2

-- Three numbers of a byte each, in both records.
abbrev pub numbers_size : ℕ
numbers_size = 3

-- 4D 53 and the list's first 19 bytes: capacity, open limit, lock limit and sixteen users; the rule "after the 19" (T-11)
abbrev pub start_size : ℕ
start_size = mark_size + numbers_size + processes + 1

-- 4D 43, function, process, count (a byte each), FCB, DMA
abbrev pub call_size : ℕ
call_size = mark_size + numbers_size + fcb_size + dma_size

-- a record is whole and well marked
unfoldable pub is_record : ℕ → ℕ → List ℕ → Bool
is_record size mark s = eqb (length s) size and eqb (byte s 0) 0x4D and eqb (byte s 1) mark

abbrev pub is_start : List ℕ → Bool
is_start s = is_record start_size 0x53 s

abbrev pub is_call : List ℕ → Bool
is_call s = is_record call_size 0x43 s

-- the three numbers of a record
abbrev pub first_number : List ℕ → ℕ
first_number s = byte s mark_size

abbrev pub second_number : List ℕ → ℕ
second_number s = byte s (mark_size + 1)

abbrev pub third_number : List ℕ → ℕ
third_number s = byte s (mark_size + 2)

-- the users of a start record
abbrev pub users_in : List ℕ → List ℕ
users_in s = part (mark_size + numbers_size) processes s

-- its rule
abbrev pub rule_number : List ℕ → ℕ
rule_number s = byte s (mark_size + numbers_size + processes)

-- FCB and DMA of a call record
abbrev pub fcb_in : List ℕ → List ℕ
fcb_in s = part (mark_size + numbers_size) fcb_size s

abbrev pub dma_in : List ℕ → List ℕ
dma_in s = part (mark_size + numbers_size + fcb_size) dma_size s

-- ---- What only proofs need

-- the records that their parts make
unfoldable pub start_record : ℕ → ℕ → ℕ → List ℕ → ℕ → List ℕ
start_record capacity opens locks users rule = 0x4D ∷ 0x53 ∷ capacity ∷ opens ∷ locks ∷ (users ++ (rule ∷ []))

unfoldable pub call_record : ℕ → ℕ → ℕ → List ℕ → List ℕ → List ℕ
call_record function process count fcb dma = 0x4D ∷ 0x43 ∷ function ∷ process ∷ count ∷ (fcb ++ dma)
