-- Which calls look at FCB byte 0, and which use count. Assumes nothing.
use Rattle.std.specs.Prelude.{Bool, true, false}
use Rattle.rules.specs.declared.routine.Routine.{Routine}
use Rattle.rules.specs.declared.routine.Routine.TheVariants.{Open, Close, SearchFirst, SearchNext, Delete, Make, Rename, Read, Write, Size, WriteZeros, TestWrite, Lock, Unlock, FreeSpace, Terminate}

-- (not for 46, 143)
unfoldable pub reads_drive : Routine → Bool
reads_drive Open = true
reads_drive Close = true
reads_drive SearchFirst = true
reads_drive SearchNext = true
reads_drive Delete = true
reads_drive Make = true
reads_drive Rename = true
reads_drive Read = true
reads_drive Write = true
reads_drive Size = true
reads_drive WriteZeros = true
reads_drive TestWrite = true
reads_drive Lock = true
reads_drive Unlock = true
reads_drive FreeSpace = false
reads_drive Terminate = false

-- only 42 and 43 use it
unfoldable pub uses_count : Routine → Bool
uses_count Open = false
uses_count Close = false
uses_count SearchFirst = false
uses_count SearchNext = false
uses_count Delete = false
uses_count Make = false
uses_count Rename = false
uses_count Read = false
uses_count Write = false
uses_count Size = false
uses_count WriteZeros = false
uses_count TestWrite = false
uses_count Lock = true
uses_count Unlock = true
uses_count FreeSpace = false
uses_count Terminate = false
