-- `rules::list::LockList::count_new` meets its contract.
use Rattle.std.proofs.Common.{◌≡◌}
use Rattle.words.specs.Lists.{tab}
use Rattle.rules.proofs.Runs.{held_to}
use Rattle.rules.proofs.list.LockList.count_new.Given as goal

abbrev pub invariant-loop-it : goal.invariant-loop-it
invariant-loop-it l = l.mine ≡ tab (held_to l.fn.self l.p l.f l.r l.n l.it-index) 16
