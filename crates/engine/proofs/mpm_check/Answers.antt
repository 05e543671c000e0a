-- `engine::mpm_check` meets its contract.
use borrow.Author.Rules.{rules}
use Rattle.rules.specs.Drive.{fault_number}
use Rattle.rules.proofs.Checks.{told_byte}
use Rattle.engine.proofs.Told.{check_known, check_other}
use Rattle.engine.proofs.mpm_check.Goals as goal

pub returns-in_default : goal.returns-in_default
unfolding fault_number
returns-in_default c = rw c.number.ensures.0 (search (check_known, check_other))

pub image_told-requires : goal.image_told-requires
image_told-requires c = search (rules, told_byte)

pub returns : goal.returns
returns c = search (check_known, check_other)
