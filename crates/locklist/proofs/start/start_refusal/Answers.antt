-- `locklist::start::start_refusal` meets its contract.
use Rattle.std.proofs.Common.{arith}
use Rattle.words.proofs.Sets.{choices}
use Rattle.rules.specs.Locks.{bad_start}
use Rattle.locklist.proofs.Starts.{may_start}
use Rattle.locklist.proofs.start.start_refusal.Goals as goal

pub returns-then-list-eq-LIST_SIZE-clause-may : goal.returns-then-list-eq-LIST_SIZE-clause-may
unfolding bad_start
returns-then-list-eq-LIST_SIZE-clause-may c = may_start _ _ _ _ _ _ (grind (arith, choices))
