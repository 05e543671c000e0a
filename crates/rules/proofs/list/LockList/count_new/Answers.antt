-- `rules::list::LockList::count_new` meets its contract.
use Rattle.std.proofs.Common.{not, take, rules, tests, arith}
use Rattle.std.proofs.lemmas.Iterator.{YieldsList-from_slice}
use Rattle.std.proofs.lemmas.Iterator.Consumers.{YieldsList-from_filter, count_from_yields_List}
use Rattle.rules.proofs.Runs.{new_told}
use Rattle.rules.proofs.list.LockList.count_new.Goals as goal

pub returns : goal.returns
returns c =
    new_told c.args.self.now c.args.p c.args.f c.args.r c.args.n _ c.loop-it.mine c.requires (grind arith)
    (count_from_yields_List c.filter.result _ c.count.ensures.ran (YieldsList-from_filter _ not (YieldsList-from_slice (take c.args.n c.loop-it.mine) cc) c.filter.ensures.closure (λ x b q k. search (rules, tests))))
