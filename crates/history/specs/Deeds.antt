-- What a call did, told by the call and its answer alone. Assumes nothing.
use Rattle.std.specs.Prelude.{ℕ, ◌/◌, Bool, not, List, leb, eqb, Option, Some, None}
use Rattle.words.specs.Tests.{◌and◌, ◌or◌, ◌if◌else◌}
use Rattle.words.specs.Bytes.{byte}
use Rattle.words.specs.Tables.{◌∕◌}
use Rattle.rules.specs.declared.file.File.{File}
use Rattle.rules.specs.declared.routine.Routine.TheVariants.{Open, Close, SearchFirst, SearchNext, Delete, Make, Rename, Read, Write, Size, WriteZeros, TestWrite, Lock, Unlock, FreeSpace, Terminate}
use Rattle.rules.specs.declared.routine.Routine.{Routine}
use Rattle.rules.specs.Serves.{chosen, is_search}
use Rattle.rules.specs.Drive.{file_from}
use Rattle.rules.specs.Asks.{record_of, open_mode, make_mode}
use Rattle.history.specs.History.{Ask, Event}

-- what a call may do: 15 and 22 open a file for a process in a mode, 16 closes it, 42 and 43 lock and unlock a run of
-- records from a first on, 143 ends the process, 34 and 40 touch such a run, 19 drops a file, 23 carries it over, 46 tells a figure
pub data Deed : Type 0 where
  nothing : Deed
  opens : ℕ → File → ℕ → Deed
  closes : ℕ → File → Deed
  locks : ℕ → File → ℕ → ℕ → Deed
  unlocks : ℕ → File → ℕ → ℕ → Deed
  ends : ℕ → Deed
  touches : File → ℕ → ℕ → Deed
  drops : ℕ → File → Deed
  carries : File → File → Deed
  tells : Deed

-- the caller's file; (23) its new name
unfoldable pub file_by : List ℕ → Ask → File
file_by users q = file_from (byte users q.process) q.fcb 1

unfoldable pub new_by : List ℕ → Ask → File
new_by users q = file_from (byte users q.process) q.fcb 17

-- An open, by each accepted 15 or 22; the run's records, by each accepted 42; an accepted 34 or 40 has touched the
-- groups of its records; an accepted Rename carries them over, an accepted Delete drops them. 33, 35 and 41 do none of these.
unfoldable pub deed_by : Option Routine → List ℕ → Ask → Deed
deed_by (Some Open) users q = opens q.process (file_by users q) (open_mode q.fcb)
deed_by (Some Close) users q = closes q.process (file_by users q)
deed_by (Some SearchFirst) users q = nothing
deed_by (Some SearchNext) users q = nothing
deed_by (Some Delete) users q = drops q.process (file_by users q)
deed_by (Some Make) users q = opens q.process (file_by users q) (make_mode q.fcb)
deed_by (Some Rename) users q = carries (file_by users q) (new_by users q)
deed_by (Some Read) users q = nothing
deed_by (Some Write) users q = touches (file_by users q) (record_of q.fcb) q.count
deed_by (Some Size) users q = nothing
deed_by (Some WriteZeros) users q = touches (file_by users q) (record_of q.fcb) q.count
deed_by (Some TestWrite) users q = nothing
deed_by (Some Lock) users q = locks q.process (file_by users q) (record_of q.fcb) q.count
deed_by (Some Unlock) users q = unlocks q.process (file_by users q) (record_of q.fcb) q.count
deed_by (Some FreeSpace) users q = tells
deed_by (Some Terminate) users q = ends q.process
deed_by None users q = nothing

-- how many records were done of a call that was refused: the high four bits of H tell it
abbrev pub done_in : ℕ → ℕ
done_in answer = answer / (0 ∕ 16)

-- A call was refused where its answer is not 0/0. 17 and 18 (T-02) answer a place, 0 to 3, and no match is no refusal though it answers 255/0.
unfoldable pub is_refused : ℕ → ℕ → Bool
is_refused n answer = (leb 4 answer and not (eqb answer (255 ∕ 0))) if is_search (chosen n) else not (eqb answer (0 ∕ 0))

-- 34 and 40
unfoldable pub writes_run : ℕ → Bool
writes_run n = eqb n 34 or eqb n 40

-- A refused call did nothing, but a refused 34 or 40 touched the records before the refused one (T-07, demand 3 counts the
-- records done).
unfoldable pub deed : List ℕ → Event → Deed
deed users e =
    deed_by (chosen e.ask.function) users e.ask if eqb e.answer (0 ∕ 0) else
    touches (file_by users e.ask) (record_of e.ask.fcb) (done_in e.answer) if writes_run e.ask.function else
    nothing
