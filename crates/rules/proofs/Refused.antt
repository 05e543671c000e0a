-- What a routine that answers by name tells of its table. Assumes nothing.
use Rattle.std.proofs.Common.{ℕ, ◌≡◌, ◌<◌, refl, List, arith}
use Rattle.words.specs.Tables.{Row, first_of}
use Rattle.rules.specs.declared.code.Refusal.{Refusal}
use Rattle.rules.specs.Refusals.{code_of}
use Rattle.rules.specs.Serves.{Buffers, Outcome, Did}
use Rattle.rules.specs.Call.{unless}
use Rattle.rules.proofs.Ends.{did_refuse, did_pass}

-- no refusal has the code 0
pub code_above : (why : Refusal) → 0 < code_of why
code_above why = grind arith

pub code_some : (why : Refusal) → code_of why ≡ 0 → ⊥
code_some why h =
    let m = code_above why in
    omega arith

module _ (rows : List Row) (b : Buffers) (o : Outcome) where
  -- some row applies
  pub did_err : (why : Refusal) → code_of why ≡ first_of rows → Did (unless rows b o) (code_of why) b
  did_err why h = did_refuse rows b o (code_of why) h (code_some why)

  -- none does
  pub did_ok : (a : ℕ) (left : Buffers) → 0 ≡ first_of rows → Did o a left → Did (unless rows b o) a left
  did_ok a left h d = did_pass rows b o 0 h a left refl d
