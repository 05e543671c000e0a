-- "A session": S0 to S13, and what each answers and leaves. Assumes nothing.
use Rattle.std.specs.Prelude.{ℕ, ◌≡◌, List, [], ◌∷◌, ◌++◌, replicate}
use Rattle.words.specs.Tables.{◌∕◌}
use Rattle.rules.specs.declared.kind.Kind.TheVariants.{Small}
use Rattle.rules.specs.declared.kind.Rule.TheVariants.{Mpm}
use Rattle.rules.specs.Serves.{Outcome, buffers, outcome}
use Rattle.rules.specs.Several.{call_run}

-- ---- What the calls are given

-- ORDERS.DAT
unfoldable pub orders : List ℕ
orders = 0x4F ∷ 0x52 ∷ 0x44 ∷ 0x45 ∷ 0x52 ∷ 0x53 ∷ 0x20 ∷ 0x20 ∷ 0x44 ∷ 0x41 ∷ 0x54 ∷ []

-- a fresh FCB for ORDERS.DAT, byte 5's high bit set, with a record number in bytes 33 to 35
unfoldable pub fcb_with : ℕ → List ℕ
fcb_with r = 0 ∷ 0x4F ∷ 0x52 ∷ 0x44 ∷ 0x45 ∷ 0xD2 ∷ 0x53 ∷ 0x20 ∷ 0x20 ∷ 0x44 ∷ 0x41 ∷ 0x54 ∷ (replicate 21 0 ++ (r ∷ 0 ∷ 0 ∷ []))

-- a DMA whose bytes 0 and 1 are the caller's File ID, the rest zeros
unfoldable pub dma_with : ℕ → List ℕ
dma_with id = id ∷ replicate 2047 0

-- process, function, record, count, File ID
pub record Step : Type 0 where
  pub process : ℕ
  pub function : ℕ
  pub record_number : ℕ
  pub count : ℕ
  pub id : ℕ

abbrev pub step : ℕ → ℕ → ℕ → ℕ → ℕ → Step
step p n r c id = record { process = p; function = n; record_number = r; count = c; id = id }

-- ---- What they find and leave

-- 4,096 bytes E5h
unfoldable pub first_image : List ℕ
first_image = replicate 4096 0xE5

-- capacity 3, open limit 2, lock limit 2, all users 0, rule 0
unfoldable pub first_list : List ℕ
first_list = 3 ∷ 2 ∷ 2 ∷ (replicate 1296 0 ++ (replicate 16 64 ++ (0 ∷ [])))

-- entry 0 with its first byte, its count and its first two map bytes, the rest of the directory empty, then blocks 2 and 3
unfoldable pub image_with : ℕ → ℕ → ℕ → ℕ → List ℕ → List ℕ → List ℕ
image_with first count m₀ m₁ two three =
    first ∷ (orders ++ (0 ∷ 0 ∷ 0 ∷ count ∷ m₀ ∷ m₁ ∷ (replicate 14 0 ++ (replicate 2016 0xE5 ++ (two ++ three)))))

-- a block nobody has written
unfoldable pub unwritten : List ℕ
unwritten = replicate 1024 0xE5

-- a block whose first record came from a DMA with that File ID
unfoldable pub written_with : ℕ → List ℕ
written_with id = id ∷ (replicate 127 0 ++ replicate 896 0xE5)

-- the list with places 0, 1 and 2
unfoldable pub list_with : List ℕ → List ℕ → List ℕ → List ℕ
list_with place₀ place₁ place₂ = 3 ∷ 2 ∷ 2 ∷ (replicate 16 0 ++ (place₀ ++ (place₁ ++ (place₂ ++ (replicate 1220 0 ++ (replicate 16 64 ++ (0 ∷ [])))))))

unfoldable pub open_by : ℕ → List ℕ
open_by p = 0x4F ∷ 0x46 ∷ p ∷ (orders ++ (1 ∷ 0 ∷ 0 ∷ 0 ∷ 0 ∷ 0 ∷ []))

unfoldable pub lock_by : ℕ → ℕ → List ℕ
lock_by p r = 0x4C ∷ 0x52 ∷ p ∷ (orders ++ (1 ∷ 0 ∷ r ∷ 0 ∷ 0 ∷ 0 ∷ []))

unfoldable pub none : List ℕ
none = replicate 20 0

-- ---- The states between the calls: what is in the list, and what is in the image

-- after S0, S1, S3, S11, S12 and S13
unfoldable pub list0 : List ℕ
list0 = list_with (open_by 1) none none

unfoldable pub list1 : List ℕ
list1 = list_with (open_by 1) (open_by 2) none

unfoldable pub list3 : List ℕ
list3 = list_with (open_by 1) (open_by 2) (lock_by 1 0)

unfoldable pub list11 : List ℕ
list11 = list_with none (open_by 2) none

unfoldable pub list12 : List ℕ
list12 = list_with (lock_by 2 8) (open_by 2) none

unfoldable pub list13 : List ℕ
list13 = list_with none none none

-- after S0, S2, S5 and S13
unfoldable pub image0 : List ℕ
image0 = image_with 0 0 0 0 unwritten unwritten

unfoldable pub image2 : List ℕ
image2 = image_with 0 1 2 0 (written_with 0) unwritten

unfoldable pub image5 : List ℕ
image5 = image_with 0 9 2 3 (written_with 0) (written_with 1)

unfoldable pub image13 : List ℕ
image13 = image_with 0xE5 9 2 3 (written_with 0) (written_with 1)

-- ---- The calls, and what each answers and leaves

-- a call, and its outcome: the answer, the FCB, the DMA, the list and the image
pub record Line : Type 0 where
  pub asks : Step
  pub gives : Outcome

abbrev pub line : Step → ℕ → List ℕ → List ℕ → List ℕ → List ℕ → Line
line s a fcb dma l i = record { asks = s; gives = outcome a (buffers fcb dma l i) }

unfoldable pub session : List Line
session =
    -- S0, 1 Make: File ID 0
    line (step 1 22 0 1 0) (0 ∕ 0) (fcb_with 0) (dma_with 0) list0 image0
    -- S1, 2 Open: File ID 1
    ∷ line (step 2 15 0 1 0) (0 ∕ 0) (fcb_with 1) (dma_with 0) list1 image0
    -- S2, 1 34, record 0: block 2
    ∷ line (step 1 34 0 1 0) (0 ∕ 0) (fcb_with 0) (dma_with 0) list1 image2
    -- S3, 1 42, record 0: place 2
    ∷ line (step 1 42 0 1 0) (0 ∕ 0) (fcb_with 0) (dma_with 0) list3 image2
    -- S4, 2 34, record 0
    ∷ line (step 2 34 0 1 1) (8 ∕ 0) (fcb_with 0) (dma_with 1) list3 image2
    -- S5, 2 34, record 8: block 3
    ∷ line (step 2 34 8 1 1) (0 ∕ 0) (fcb_with 8) (dma_with 1) list3 image5
    -- S6, 2 42, record 8
    ∷ line (step 2 42 8 1 1) (14 ∕ 0) (fcb_with 8) (dma_with 1) list3 image5
    -- S7, 2 34, record 16
    ∷ line (step 2 34 16 1 1) (2 ∕ 0) (fcb_with 16) (dma_with 1) list3 image5
    -- S8, 1 46: 0 records
    ∷ line (step 1 46 0 1 0) (0 ∕ 0) (fcb_with 0) (dma_with 0) list3 image5
    -- S9, 1 42, record 0: nothing new
    ∷ line (step 1 42 0 1 0) (0 ∕ 0) (fcb_with 0) (dma_with 0) list3 image5
    -- S10, 1 42, record 0, count 2
    ∷ line (step 1 42 0 2 0) (12 ∕ 0) (fcb_with 0) (dma_with 0) list3 image5
    -- S11, 1 143: places 0, 2 empty
    ∷ line (step 1 143 0 1 0) (0 ∕ 0) (fcb_with 0) (dma_with 0) list11 image5
    -- S12, 2 42, record 8: place 0
    ∷ line (step 2 42 8 1 1) (0 ∕ 0) (fcb_with 8) (dma_with 1) list12 image5
    -- S13, 2 Delete: places 0, 1 and entry 0 empty (0/0 since T-03)
    ∷ line (step 2 19 0 1 1) (0 ∕ 0) (fcb_with 0) (dma_with 1) list13 image13
    ∷ []

-- each call, from what the one before it left, has the outcome listed
unfoldable pub AsListed : List ℕ → List ℕ → List Line → Type 0
AsListed l i [] = Unit {0}
AsListed l i (x ∷ xs) =
    (call_run (Small Mpm) x.asks.function x.asks.process x.asks.count (buffers (fcb_with x.asks.record_number) (dma_with x.asks.id) l i)
    ≡ x.gives)
    × AsListed x.gives.left.list x.gives.left.image xs
