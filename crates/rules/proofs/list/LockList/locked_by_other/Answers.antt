-- `rules::list::LockList::locked_by_other` meets its contract.
use Rattle.std.proofs.Common.{rules, tests}
use Rattle.std.proofs.lemmas.Iterator.{YieldsList-from_slice}
use Rattle.std.proofs.lemmas.Iterator.Search.{any_from_yields_List}
use Rattle.words.proofs.Lists.{length-mapped}
use Rattle.rules.proofs.Asked.{others_in, locked_told}
use Rattle.rules.proofs.list.LockList.locked_by_other.Goals as goal

pub returns : goal.returns
returns c =
    locked_told _ c.args.self.now c.args.p c.args.f c.args.r (search (rules, length-mapped))
    (any_from_yields_List (others_in c.args.self.now.users c.args.p c.args.f c.args.r) _ _ _ c.any.ensures.ran (YieldsList-from_slice c.args.self.now.items cc) (λ x b q k. search (rules, tests)))
