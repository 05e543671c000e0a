-- Tables of codes, in the order tested. Assumes nothing.
use Rattle.std.specs.Prelude.{ℕ, ◌+◌, ◌*◌, Bool, true, false, not, List, [], ◌∷◌, eqb}
use Rattle.words.specs.Tests.{◌and◌, ◌or◌, ◌if◌else◌}

-- A row is a code and the test under which it is given: `255 ∕ 9 when test`.
pub record Row : Type 0 where
  pub code : ℕ
  pub test : Bool

-- A and H as one number
infix 75 ◌∕◌
abbrev pub ◌∕◌ : ℕ → ℕ → ℕ
a ∕ h = a + 256 * h

infix 70 ◌when◌
abbrev pub ◌when◌ : ℕ → Bool → Row
c when t = record { code = c; test = t }

-- rows that are looked at only where a test holds
unfoldable pub only_if : Bool → List Row → List Row
only_if t rows = rows if t else []

-- the code of the first row that applies, and 0 where none does
unfoldable pub first_of : List Row → ℕ
first_of [] = 0
first_of (x ∷ xs) = x.code if x.test else first_of xs

-- some row applies
unfoldable pub any_row : List Row → Bool
any_row [] = false
any_row (x ∷ xs) = x.test or any_row xs

-- ---- What only proofs need

-- no row has the code 0
unfoldable pub none_zero : List Row → Bool
none_zero [] = true
none_zero (x ∷ xs) = not (eqb x.code 0) and none_zero xs
