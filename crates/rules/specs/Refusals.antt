-- The refusals by name, and the codes of document 01 and 02 for them. Assumes nothing.
use Rattle.std.specs.Prelude.{ℕ, Result, Ok, Err}
use Rattle.words.specs.Tables.{◌∕◌}
use Rattle.rules.specs.declared.code.Refusal.{Refusal}
use Rattle.rules.specs.declared.code.Refusal.TheVariants.{BadCall, BadImage, BadList, BadVector, BadDrive, NotFound, NoEmptyEntry, ReadOnly, InUse, CloseNotOpen, Exists, BadName, OpenLimit, OpenListFull, NoBlock, DiskFull, NoExtent, DirectoryFull, PastEnd, Differs, Locked, NotOpen, LockLimit, BadFileId, LockListFull}

-- A and H of a refusal
abbrev pub code_of : Refusal → ℕ
code_of BadCall = 255 ∕ 13
code_of BadImage = 255 ∕ 1
code_of BadList = 255 ∕ 12
code_of BadVector = 255 ∕ 14
code_of BadDrive = 255 ∕ 4
code_of NotFound = 255 ∕ 0
code_of NoEmptyEntry = 255 ∕ 0
code_of ReadOnly = 255 ∕ 3
code_of InUse = 255 ∕ 5
code_of CloseNotOpen = 255 ∕ 6
code_of Exists = 255 ∕ 8
code_of BadName = 255 ∕ 9
code_of OpenLimit = 255 ∕ 10
code_of OpenListFull = 255 ∕ 11
code_of NoBlock = 1 ∕ 0
code_of DiskFull = 2 ∕ 0
code_of NoExtent = 4 ∕ 0
code_of DirectoryFull = 5 ∕ 0
code_of PastEnd = 6 ∕ 0
code_of Differs = 7 ∕ 0
code_of Locked = 8 ∕ 0
code_of NotOpen = 10 ∕ 0
code_of LockLimit = 12 ∕ 0
code_of BadFileId = 13 ∕ 0
code_of LockListFull = 14 ∕ 0

-- the answer to a call: 0/0 where it is accepted, whatever is told then
abbrev pub answer_of : {A : Type 0} → Result A Refusal → ℕ
answer_of (Ok x) = 0
answer_of (Err r) = code_of r
