-- "What the engine serves". Assumes nothing.
use Rattle.std.specs.Prelude.{ℕ, ◌≡◌, Bool, true, false, List, eqb, Option, Some, None}
use Rattle.words.specs.Tests.{◌if◌else◌}
use Rattle.rules.specs.declared.routine.Routine.{Routine}
use Rattle.rules.specs.declared.routine.Routine.TheVariants.{Open, Close, SearchFirst, SearchNext, Delete, Make, Rename, Read, Write, Size, WriteZeros, TestWrite, Lock, Unlock, FreeSpace, Terminate}

-- Sixteen processes, 0 to 15.
abbrev pub processes : ℕ
processes = 16

-- Calls: 15 Open, 16 Close, 19 Delete, 22 Make, 23 Rename, 33 Read Random, 34 Write Random, 40 Write Random with Zero
-- Fill, 41 Test and Write, 42 Lock Record, 43 Unlock Record, 46 Get Disk Free Space, 143 Terminate; 35 Compute File Size (T-05); 17 Search
-- First, 18 Search Next (T-02).
unfoldable pub function_of : Routine → ℕ
function_of Open = 15
function_of Close = 16
function_of SearchFirst = 17
function_of SearchNext = 18
function_of Delete = 19
function_of Make = 22
function_of Rename = 23
function_of Read = 33
function_of Write = 34
function_of Size = 35
function_of WriteZeros = 40
function_of TestWrite = 41
function_of Lock = 42
function_of Unlock = 43
function_of FreeSpace = 46
function_of Terminate = 143

-- the call that a function number chooses
unfoldable pub chosen : ℕ → Option Routine
chosen n =
    Some Open if eqb n 15 else
    Some Close if eqb n 16 else
    Some SearchFirst if eqb n 17 else
    Some SearchNext if eqb n 18 else
    Some Delete if eqb n 19 else
    Some Make if eqb n 22 else
    Some Rename if eqb n 23 else
    Some Read if eqb n 33 else
    Some Write if eqb n 34 else
    Some Size if eqb n 35 else
    Some WriteZeros if eqb n 40 else
    Some TestWrite if eqb n 41 else
    Some Lock if eqb n 42 else
    Some Unlock if eqb n 43 else
    Some FreeSpace if eqb n 46 else
    Some Terminate if eqb n 143 else
    None

unfoldable pub is_unknown : Option Routine → Bool
is_unknown (Some k) = false
is_unknown None = true

-- 17 and 18, whose answer is no 0/0 where they are accepted (T-02)
unfoldable pub is_search : Option Routine → Bool
is_search (Some SearchFirst) = true
is_search (Some SearchNext) = true
is_search (Some Open) = false
is_search (Some Close) = false
is_search (Some Delete) = false
is_search (Some Make) = false
is_search (Some Rename) = false
is_search (Some Read) = false
is_search (Some Write) = false
is_search (Some Size) = false
is_search (Some WriteZeros) = false
is_search (Some TestWrite) = false
is_search (Some Lock) = false
is_search (Some Unlock) = false
is_search (Some FreeSpace) = false
is_search (Some Terminate) = false
is_search None = false

-- A call has four separate lent buffers: FCB (36 bytes), DMA (2,048 since T-07), list (1,316 since T-11), image.
abbrev pub fcb_size : ℕ
fcb_size = 36

abbrev pub dma_size : ℕ
dma_size = 2048

abbrev pub list_size : ℕ
list_size = 1316

pub record Buffers : Type 0 where
  pub fcb : List ℕ
  pub dma : List ℕ
  pub list : List ℕ
  pub image : List ℕ

abbrev pub buffers : List ℕ → List ℕ → List ℕ → List ℕ → Buffers
buffers f d l s = record { fcb = f; dma = d; list = l; image = s }

-- buffers of which one has changed
abbrev pub with_fcb : Buffers → List ℕ → Buffers
with_fcb b f = buffers f b.dma b.list b.image

abbrev pub with_dma : Buffers → List ℕ → Buffers
with_dma b d = buffers b.fcb d b.list b.image

abbrev pub with_list : Buffers → List ℕ → Buffers
with_list b l = buffers b.fcb b.dma l b.image

abbrev pub with_image : Buffers → List ℕ → Buffers
with_image b s = buffers b.fcb b.dma b.list s

-- The answer is A and H, as A + 256·H. An outcome is the answer and every byte of the four buffers.
pub record Outcome : Type 0 where
  pub answer : ℕ
  pub left : Buffers

abbrev pub outcome : ℕ → Buffers → Outcome
outcome a b = record { answer = a; left = b }

-- what a routine answered and left is that outcome
pub record Did (o : Outcome) (answer : ℕ) (left : Buffers) : Type 0 where
  pub gives : answer ≡ o.answer
  pub leaves : left ≡ o.left
