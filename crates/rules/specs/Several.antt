-- "Several records in one call" (T-07): single calls made one after another. Assumes nothing.
use Rattle.std.specs.Prelude.{ℕ, suc, ◌+◌, ◌*◌, ◌/◌, ◌%◌, Bool, List, [], ◌∷◌, take, eqb}
use Rattle.words.specs.Tests.{◌or◌, ◌if◌else◌}
use Rattle.words.specs.Lists.{turns}
use Rattle.words.specs.Bytes.{part, put}
use Rattle.words.specs.Tables.{◌∕◌, first_of}
use Rattle.rules.specs.Serves.{Buffers, Outcome, buffers, outcome}
use Rattle.rules.specs.Drive.{record_size}
use Rattle.rules.specs.Asks.{record_of}
use Rattle.rules.specs.Codes.{rows_all}
use Rattle.rules.specs.Call.{unless, rows_call, call}
use Rattle.rules.specs.declared.kind.Kind.{Kind}

-- Count now serves 33, 34 and 40 also.
unfoldable pub serves_run : ℕ → Bool
serves_run n = eqb n 33 or eqb n 34 or eqb n 40

-- ---- The single call for the record at distance i from the first

-- a record number in three bytes, low byte first (the last is no byte past 16,777,215; 6/0 comes long before)
unfoldable pub three_of : ℕ → List ℕ
three_of r = r % 256 ∷ r / 256 % 256 ∷ r / 256 / 256 ∷ []

-- its number is in FCB bytes 33 to 35; ..
unfoldable pub fcb_at : ℕ → List ℕ → List ℕ
fcb_at i fcb = put 33 (three_of (record_of fcb + i)) fcb

-- .. the record has DMA bytes 128·i to 128·i + 127, which stand in front; ..
unfoldable pub dma_at : ℕ → List ℕ → List ℕ
dma_at i dma = put 0 (part (record_size * i) record_size dma) dma

unfoldable pub single : ℕ → Buffers → Buffers
single i b = buffers (fcb_at i b.fcb) (dma_at i b.dma) b.list b.image

-- .. and what it leaves in front goes back to its place. The FCB is not advanced.
unfoldable pub back_at : ℕ → Buffers → Buffers → Buffers
back_at i b left =
    buffers b.fcb (put (record_size * i) (take record_size left.dma) b.dma) left.list left.image

-- ---- One after another

-- a run of records: the code of the refusal that stopped it (0: none yet), how many records are done, and the buffers
pub record Run : Type 0 where
  pub code : ℕ
  pub done : ℕ
  pub left : Buffers

abbrev pub run : ℕ → ℕ → Buffers → Run
run code n b = record { code = code; done = n; left = b }

-- The record at distance i, its single call's refusal (0: none) and what it left: the refused record leaves no trace.
unfoldable pub goes_on : ℕ → Buffers → ℕ → Buffers → Run
goes_on i b code left = run 0 (suc i) (back_at i b left) if eqb code 0 else run code i b

-- The first refusal stops the call, what was done stays done.
unfoldable pub turn_at : Kind → ℕ → ℕ → ℕ → Run → Run
turn_at kind n p i g =
    goes_on i g.left (first_of (rows_call kind n p 1 (single i g.left))) (call kind n p 1 (single i g.left)).left
    if eqb g.code 0 else g

-- Records go in rising order.
unfoldable pub several : Kind → ℕ → ℕ → ℕ → Buffers → Run
several kind n p c b = turns (turn_at kind n p) c (run 0 0 b)

-- ---- The call

-- what single calls made one after another answer: as the last of them
unfoldable pub singly : Run → Outcome
singly g = outcome g.code g.left

-- The high four bits of H tell how many records were done, zero when count is 1 or all went well.
unfoldable pub told : Run → Outcome
told g = outcome (0 ∕ 0) g.left if eqb g.code 0 else outcome (g.code + 0 ∕ (16 * g.done)) g.left

-- Refusals: those of 01, per record; general ones before any record.
unfoldable pub call_run : Kind → ℕ → ℕ → ℕ → Buffers → Outcome
call_run kind n p c b = unless (rows_all kind n p c b) b (told (several kind n p c b)) if serves_run n else call kind n p c b

-- the same made by the plain engine, without those four bits
unfoldable pub call_singly : Kind → ℕ → ℕ → ℕ → Buffers → Outcome
call_singly kind n p c b = unless (rows_all kind n p c b) b (singly (several kind n p c b)) if serves_run n else call kind n p c b
