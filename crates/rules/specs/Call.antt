-- A call: any three numbers and any four buffers, to one outcome. Assumes nothing.
use Rattle.std.specs.Prelude.{ℕ, ◌+◌, ◌*◌, ◌/◌, ◌≤◌, ◌≡◌, true, false, List, [], ◌++◌, length, eqb, Option, Some, None}
use Rattle.words.specs.Tests.{◌if◌else◌}
use Rattle.words.specs.Tables.{Row, first_of}
use Rattle.rules.specs.declared.kind.Kind.{Kind}
use Rattle.rules.specs.Kinds.{entries, most}
use Rattle.rules.specs.declared.file.File.{File}
use Rattle.rules.specs.declared.file.Found.{Found}
use Rattle.rules.specs.declared.list.LockList.{LockList}
use Rattle.rules.specs.declared.routine.Routine.TheVariants.{Open, Close, SearchFirst, SearchNext, Delete, Make, Rename, Read, Write, Size, WriteZeros, TestWrite, Lock, Unlock, FreeSpace, Terminate}
use Rattle.rules.specs.declared.routine.Routine.{Routine}
use Rattle.rules.specs.Serves.{Buffers, Outcome, outcome, chosen, fcb_size, dma_size, list_size}
use Rattle.rules.specs.Drive.{extent_records, entry_size, blocks, entry_of, look_up, sound_image}
use Rattle.rules.specs.Locks.{open_of, unpack, sound_list}
use Rattle.rules.specs.Asks.{caller_file, new_file, record_of}
use Rattle.rules.specs.Codes.{rows_all, rows15, rows16, rows19, rows22, rows23, rows33, rows34, rows35, rows41, rows42, rows43}
use Rattle.rules.specs.Effects.{accept, does15, does16, does17, does18, does19, does22, does23, does33, does34, does35, does41, does42, does43, does46, does143}

-- a refusal leaves all four buffers unchanged; code 0 is no refusal
unfoldable pub decided : ℕ → Buffers → Outcome → Outcome
decided code b done = done if eqb code 0 else outcome code b

-- A refusal is the first row that applies; where none does, the effect.
unfoldable pub unless : List Row → Buffers → Outcome → Outcome
unless rows b done = decided (first_of rows) b done

-- what a call has found before it decides: the list, the caller's file and open, the file's and the extent's entry, the record
pub record Asked : Type 0 where
  pub kind : Kind
  pub process : ℕ
  pub count : ℕ
  pub list : LockList
  pub file : File
  pub found : Found
  pub place : ℕ
  pub record_number : ℕ
  pub entry : ℕ

unfoldable pub asked_by : Kind → ℕ → ℕ → LockList → File → ℕ → List ℕ → Asked
asked_by kind p c l f r s = record {
  kind = kind;
  process = p;
  count = c;
  list = l;
  file = f;
  found = look_up kind s f;
  place = open_of l p f;
  record_number = r;
  entry = entry_of kind s f (r / extent_records);
}

unfoldable pub asked : Kind → ℕ → ℕ → Buffers → Asked
asked kind p c b =
    asked_by kind p c (unpack b.list) (caller_file p (unpack b.list) b.fcb) (record_of b.fcb) b.image

-- the table of a call
unfoldable pub rows_of : Option Routine → Asked → Buffers → List Row
rows_of (Some Open) a b = rows15 a.kind a.process a.list a.place a.file a.found b.fcb
rows_of (Some Close) a b = rows16 a.place
rows_of (Some SearchFirst) a b = []
rows_of (Some SearchNext) a b = []
rows_of (Some Delete) a b = rows19 a.kind a.process a.list a.file a.found b.fcb b.image
rows_of (Some Make) a b = rows22 a.kind a.process a.list a.found b.fcb b.image
rows_of (Some Rename) a b =
    rows23 a.kind a.list a.file a.found (look_up a.kind b.image (new_file a.process a.list b.fcb)) b.fcb b.image
rows_of (Some Read) a b = rows33 a.kind a.place a.entry a.record_number b.image
rows_of (Some Write) a b = rows34 a.kind a.process a.list a.place a.file a.found.entry a.entry a.record_number b.image
rows_of (Some Size) a b = rows35 a.kind a.found b.fcb
rows_of (Some WriteZeros) a b = rows34 a.kind a.process a.list a.place a.file a.found.entry a.entry a.record_number b.image
rows_of (Some TestWrite) a b = rows41 a.kind a.process a.list a.place a.file a.found.entry a.entry a.record_number b.dma b.image
rows_of (Some Lock) a b = rows42 a.kind a.process a.list a.place a.file a.record_number a.count b.dma b.image
rows_of (Some Unlock) a b = rows43 a.kind a.list a.place a.record_number a.count b.dma
rows_of (Some FreeSpace) a b = []
rows_of (Some Terminate) a b = []
rows_of None a b = []

-- the effect of a call (an unknown function's is never reached)
unfoldable pub effect_of : Option Routine → Asked → Buffers → Outcome
effect_of (Some Open) a b = does15 a.process a.list a.place a.file a.found b
effect_of (Some Close) a b = does16 a.process a.list a.file b
effect_of (Some SearchFirst) a b = does17 a.kind a.process a.list b
effect_of (Some SearchNext) a b = does18 a.kind a.process a.list b
effect_of (Some Delete) a b = does19 a.kind a.process a.list a.place a.file b
effect_of (Some Make) a b = does22 a.kind a.process a.list a.file b
effect_of (Some Rename) a b = does23 a.kind a.file (new_file a.process a.list b.fcb) b
effect_of (Some Read) a b = does33 a.kind a.entry a.record_number b
effect_of (Some Write) a b = does34 a.kind false a.file a.found.entry a.entry a.record_number b
effect_of (Some Size) a b = does35 a.found b
effect_of (Some WriteZeros) a b = does34 a.kind true a.file a.found.entry a.entry a.record_number b
effect_of (Some TestWrite) a b = does41 a.kind a.file a.found.entry a.entry a.record_number b
effect_of (Some Lock) a b = does42 a.process a.list a.place a.file a.record_number a.count b
effect_of (Some Unlock) a b = does43 a.process a.list a.place a.file a.record_number a.count b
effect_of (Some FreeSpace) a b = does46 a.kind b
effect_of (Some Terminate) a b = does143 a.kind a.process a.list b
effect_of None a b = accept b

-- A call is one table and one effect.
unfoldable pub rows_call : Kind → ℕ → ℕ → ℕ → Buffers → List Row
rows_call kind n p c b = rows_all kind n p c b ++ rows_of (chosen n) (asked kind p c b) b

unfoldable pub call : Kind → ℕ → ℕ → ℕ → Buffers → Outcome
call kind n p c b = unless (rows_call kind n p c b) b (effect_of (chosen n) (asked kind p c b) b)

-- ---- What only proofs need

-- a call's own table and effect, once the general table lets it pass
unfoldable pub served : Kind → Option Routine → ℕ → ℕ → Buffers → Outcome
served kind k p c b = unless (rows_of k (asked kind p c b) b) b (effect_of k (asked kind p c b) b)

-- what the general table leaves to rely on (the image's length follows from its soundness)
pub record Ready (kind : Kind) (b : Buffers) : Type 0 where
  pub fcb_long : length b.fcb ≡ fcb_size
  pub dma_long : length b.dma ≡ dma_size
  pub list_long : length b.list ≡ list_size
  pub image_long : entry_size * entries kind + entry_size ≤ length b.image
  pub blocks_few : blocks kind b.image ≤ most kind
  pub image_sound : sound_image kind b.image ≡ true
  pub list_sound : sound_list kind b.list b.image ≡ true
