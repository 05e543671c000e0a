-- `rules::list::LockList::unlock` meets its contract.
use Rattle.std.proofs.Common.{rules}
use Rattle.words.proofs.Lists.{length-mapped}
use Rattle.rules.specs.Effects.{unlocked_run}
use Rattle.rules.proofs.Lists.{mapped_turn, mapped_all}
use Rattle.rules.proofs.list.LockList.unlock.Goals as goal

pub loop-it-preserved : goal.loop-it-preserved
loop-it-preserved c = mapped_turn _ _ _ _ _ (search (rules, length-mapped)) (search rules) c.loop-it.invariant c.unless_in_run.ensures

pub returns : goal.returns
unfolding unlocked_run
returns c = mapped_all _ c.args.self _ _ (search (rules, length-mapped)) c.loop-it.invariant (search rules) (search rules)
