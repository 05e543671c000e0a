-- `rules::list::LockList::close` meets its contract.
use Rattle.std.proofs.Common.{rules}
use Rattle.words.proofs.Lists.{length-mapped}
use Rattle.rules.specs.Effects.{closed}
use Rattle.rules.proofs.Lists.{mapped_turn, mapped_all}
use Rattle.rules.proofs.list.LockList.close.Goals as goal

pub loop-it-preserved : goal.loop-it-preserved
loop-it-preserved c = mapped_turn _ _ _ _ _ (search (rules, length-mapped)) (search rules) c.loop-it.invariant c.unless_of_file.ensures

pub returns : goal.returns
unfolding closed
returns c = mapped_all _ c.args.self _ _ (search (rules, length-mapped)) c.loop-it.invariant (search rules) (search rules)
