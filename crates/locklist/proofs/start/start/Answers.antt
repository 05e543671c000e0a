-- `locklist::start::start` meets its contract.
use Rattle.std.proofs.Common.{rules}
use Rattle.locklist.proofs.Starts.{start_refused, start_begun, fresh_packed}
use Rattle.locklist.proofs.start.start.Goals as goal

pub returns-in_err-start_refusal : goal.returns-in_err-start_refusal
returns-in_err-start_refusal c = start_refused _ _ _ _ _ _ _ _ _ (search rules) c.in_err-start_refusal.ensures.told

pub returns : goal.returns
returns c = start_begun _ _ _ _ _ _ _ _ _ c.in_ok-start_refusal.ensures.told (search (rules, fresh_packed))
