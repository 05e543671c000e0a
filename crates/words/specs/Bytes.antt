-- Lists of bytes. Nothing but `are_bytes` asks that a byte is below 256. Assumes nothing.
use Rattle.std.specs.Prelude.{ℕ, zero, suc, ◌+◌, ◌*◌, ◌/◌, ◌%◌, Bool, true, List, [], ◌∷◌, ◌++◌, length, get_or, take, drop, replicate, eqb, ltb}
use Rattle.words.specs.Tests.{◌and◌}

-- byte i of s
abbrev pub byte : List ℕ → ℕ → ℕ
byte s i = get_or s i 0

-- two lists have the same byte k
unfoldable pub same_byte : List ℕ → List ℕ → ℕ → Bool
same_byte a b k = eqb (byte a k) (byte b k)

-- byte k is zero
unfoldable pub is_zero : List ℕ → ℕ → Bool
is_zero s k = eqb (byte s k) 0

-- byte k of those from a place on; the same in its low seven bits
abbrev pub byte_from : List ℕ → ℕ → ℕ → ℕ
byte_from s at k = byte s (at + k)

abbrev pub low_from : List ℕ → ℕ → ℕ → ℕ
low_from s at k = byte s (at + k) % 128

-- k bytes from a place on
abbrev pub part : ℕ → ℕ → List ℕ → List ℕ
part at k s = take k (drop at s)

-- the same, with 0 for each byte past the end
unfoldable pub bytes_from : List ℕ → ℕ → ℕ → List ℕ
bytes_from s at k = take k (drop at s ++ replicate k 0)

-- s with v from a place on
unfoldable pub put : ℕ → List ℕ → List ℕ → List ℕ
put at v s = take at s ++ v ++ drop (at + length v) s

-- a number in k bytes, low byte first
unfoldable pub le : ℕ → ℕ → List ℕ
le zero n = []
le (suc k) n = n % 256 ∷ le k (n / 256)

-- the number that four bytes say, low byte first
abbrev pub word : ℕ → ℕ → ℕ → ℕ → ℕ
word a b c d = a + 256 * (b + 256 * (c + 256 * d))

-- the number in k bytes from a place on, low byte first
unfoldable pub number_at : ℕ → List ℕ → ℕ → ℕ
number_at zero s at = 0
number_at (suc k) s at = byte s at + 256 * number_at k s (at + 1)

-- each number of a list is a byte
unfoldable pub are_bytes : List ℕ → Bool
are_bytes [] = true
are_bytes (x ∷ xs) = ltb x 256 and are_bytes xs
