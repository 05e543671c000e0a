-- The refusals of a repair by name, and their numbers. Assumes nothing.
use Rattle.std.specs.Prelude.{ℕ, Result, Ok, Err}
use Rattle.salvage.specs.declared.mend.SalvageRefusal.{SalvageRefusal}
use Rattle.salvage.specs.declared.mend.SalvageRefusal.TheVariants.{WrongLength, WrongReport}

-- 1 wrong image length, 2 report buffer not of a byte for each entry
abbrev pub salvage_code : SalvageRefusal → ℕ
salvage_code WrongLength = 1
salvage_code WrongReport = 2

-- the answer to a repair: 0 where it is done
abbrev pub salvage_answer : Result (Unit {0}) SalvageRefusal → ℕ
salvage_answer (Ok x) = 0
salvage_answer (Err r) = salvage_code r
