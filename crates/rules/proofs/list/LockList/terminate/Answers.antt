-- `rules::list::LockList::terminate` meets its contract.
use Rattle.std.proofs.Common.{rules}
use Rattle.words.proofs.Lists.{length-mapped}
use Rattle.rules.specs.Effects.{without_by}
use Rattle.rules.proofs.Lists.{mapped_turn, mapped_all}
use Rattle.rules.proofs.list.LockList.terminate.Goals as goal

pub loop-it-preserved : goal.loop-it-preserved
loop-it-preserved c = mapped_turn _ _ _ _ _ (search (rules, length-mapped)) (search rules) c.loop-it.invariant c.unless_by.ensures

pub returns : goal.returns
unfolding without_by
returns c = mapped_all _ c.args.self _ _ (search (rules, length-mapped)) c.loop-it.invariant (search rules) (search rules)
