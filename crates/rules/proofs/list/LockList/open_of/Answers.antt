-- `rules::list::LockList::open_of` meets its contract.
use Rattle.std.proofs.Common.{rules, tests}
use Rattle.std.proofs.lemmas.Iterator.{YieldsList-from_slice}
use Rattle.std.proofs.lemmas.Iterator.Search.{position_from_yields_List}
use Rattle.words.proofs.Lists.{length-mapped}
use Rattle.rules.specs.Locks.{opens_name}
use Rattle.rules.proofs.Asked.{open_of_told}
use Rattle.rules.proofs.list.LockList.open_of.Goals as goal

pub returns : goal.returns
returns c =
    open_of_told _ c.args.self.now c.args.p c.args.f c.position.result (search (rules, length-mapped))
    (position_from_yields_List (opens_name c.args.p c.args.f.name) _ _ _ c.position.ensures.ran (YieldsList-from_slice c.args.self.now.items cc) (λ x b q k. search (rules, tests)))
    c.unwrap_or.ensures
