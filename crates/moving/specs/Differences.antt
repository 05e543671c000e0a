-- Why two images do not hold the same book, and the number of each answer. Assumes nothing.
use Rattle.std.specs.Prelude.{ℕ, Result, Ok, Err}
use Rattle.moving.specs.declared.difference.Difference.{Difference}
use Rattle.moving.specs.declared.difference.Difference.TheVariants.{FirstUnsound, SecondUnsound, Different}

-- the refusals of `rows_same`
abbrev pub difference_code : Difference → ℕ
difference_code FirstUnsound = 1
difference_code SecondUnsound = 2
difference_code Different = 3

-- 0 where they hold the same book
abbrev pub same_answer : Result (Unit {0}) Difference → ℕ
same_answer (Ok x) = 0
same_answer (Err d) = difference_code d
