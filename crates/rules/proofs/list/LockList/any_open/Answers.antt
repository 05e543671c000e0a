-- `rules::list::LockList::any_open` meets its contract.
use Rattle.std.proofs.Common.{rules, tests}
use Rattle.std.proofs.lemmas.Iterator.{YieldsList-from_slice}
use Rattle.std.proofs.lemmas.Iterator.Search.{any_from_yields_List}
use Rattle.words.proofs.Lists.{length-mapped}
use Rattle.rules.proofs.Asked.{opens_in, any_open_told}
use Rattle.rules.proofs.list.LockList.any_open.Goals as goal

pub returns : goal.returns
returns c =
    any_open_told _ c.args.self.now c.args.f (search (rules, length-mapped))
    (any_from_yields_List (opens_in c.args.self.now.users c.args.f) _ _ _ c.any.ensures.ran (YieldsList-from_slice c.args.self.now.items cc) (λ x b q k. search (rules, tests)))
