-- "What each call does": what a call asks for. Assumes nothing.
use Rattle.std.specs.Prelude.{ℕ, ◌+◌, ◌-◌, ◌*◌, List, leb}
use Rattle.words.specs.Tests.{◌if◌else◌}
use Rattle.words.specs.Bytes.{byte}
use Rattle.rules.specs.declared.file.File.{File}
use Rattle.rules.specs.declared.list.LockList.{LockList}
use Rattle.rules.specs.Drive.{file_from}
use Rattle.rules.specs.Locks.{user_of, mode_locked, mode_unlocked, mode_read_only}

-- The FCB name is looked up under the caller's user.
unfoldable pub caller_file : ℕ → LockList → List ℕ → File
caller_file p l fcb = file_from (user_of l p) fcb 1

-- (23, new name in bytes 17 to 27)
unfoldable pub new_file : ℕ → LockList → List ℕ → File
new_file p l fcb = file_from (user_of l p) fcb 17

-- The record number is byte 33 + 256·byte 34 + 65,536·byte 35.
unfoldable pub record_of : List ℕ → ℕ
record_of fcb = byte fcb 33 + 256 * byte fcb 34 + 65536 * byte fcb 35

-- the last record of a run of n from r on
abbrev pub last_of : ℕ → ℕ → ℕ
last_of r n = r + n - 1

-- On 15, the high bit of byte 6 set means read-only; else that of byte 5 unlocked; else locked.
unfoldable pub open_mode : List ℕ → ℕ
open_mode fcb = mode_read_only if leb 128 (byte fcb 6) else mode_unlocked if leb 128 (byte fcb 5) else mode_locked

-- On 22 only byte 5's counts.
unfoldable pub make_mode : List ℕ → ℕ
make_mode fcb = mode_unlocked if leb 128 (byte fcb 5) else mode_locked
