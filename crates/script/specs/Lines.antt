-- The lines that `mpmcalls` prints. Assumes nothing.
use Rattle.std.specs.Prelude.{ℕ, ◌+◌, ◌/◌, ◌%◌, List, [], ◌∷◌, ◌++◌}
use Rattle.script.specs.Text.{text, digits}

abbrev pub space : ℕ
space = 0x20

abbrev pub newline : ℕ
newline = 0x0A

-- a number in decimal, and the byte after it
unfoldable pub field : ℕ → ℕ → List ℕ
field n after = digits n ++ (after ∷ [])

unfoldable pub header_line : List ℕ
header_line = text "call process function A H\n"

-- number, process, function, A, H of a call in decimal; its answer is A + 256·H
unfoldable pub call_line : ℕ → ℕ → ℕ → ℕ → List ℕ
call_line number process function answer =
    field number space ++ field process space ++ field function space ++ field (answer % 256) space ++ field (answer / 256) newline

-- `end` and the number of calls
unfoldable pub end_line : ℕ → List ℕ
end_line calls = text "end " ++ field calls newline

-- `bad record` and the record's number
unfoldable pub bad_line : ℕ → List ℕ
bad_line number = text "bad record " ++ field number newline

-- the start record is 0, ..
unfoldable pub bad_start_line : List ℕ
bad_start_line = bad_line 0

-- .. and call k is record k + 1
unfoldable pub bad_call_line : ℕ → List ℕ
bad_call_line calls = bad_line (calls + 1)

unfoldable pub long_image_line : List ℕ
long_image_line = text "image too long\n"
