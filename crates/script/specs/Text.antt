-- Text as bytes, and numbers in decimal. Assumes nothing.
use Rattle.std.specs.Prelude.{ℕ, zero, suc, ◌+◌, ◌-◌, ◌*◌, ◌/◌, ◌%◌, List, [], ◌∷◌, ◌++◌, ltb}
use Prim.Native.Char.{code}
use Prim.Native.String.{String, [] as none, ◌∷◌ as ◌then◌}
use Rattle.words.specs.Tests.{◌if◌else◌}

-- the bytes of a text, one for each of its characters
unfoldable pub text : String → List ℕ
text none = []
text (c then s) = code c ∷ text s

-- the digits of a number below k
unfoldable pub digits_below : ℕ → ℕ → List ℕ
digits_below zero n = []
digits_below (suc k) n = ([] if ltb n 10 else digits_below k (n / 10)) ++ ((48 + n % 10) ∷ [])

-- the decimal digits of a number, the most significant first; those of 0 are "0"
unfoldable pub digits : ℕ → List ℕ
digits n = digits_below (suc n) n

-- ---- What only proofs need

-- the number that digits say, after those that said n
unfoldable pub read_on : ℕ → List ℕ → ℕ
read_on n [] = n
read_on n (d ∷ ds) = read_on (10 * n + (d - 48)) ds

unfoldable pub read_number : List ℕ → ℕ
read_number ds = read_on 0 ds
