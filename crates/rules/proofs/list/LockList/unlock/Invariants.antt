-- `rules::list::LockList::unlock` meets its contract.
use Rattle.std.proofs.Common.{◌≡◌}
use Rattle.words.proofs.Lists.{map_to}
use Rattle.rules.specs.Effects.{unless_in_run}
use Rattle.rules.proofs.list.LockList.unlock.Given as goal

abbrev pub invariant-loop-it : goal.invariant-loop-it
invariant-loop-it l = l.it-items ≡ map_to (unless_in_run l.p l.f l.r l.n) l.it-index l.initial.it-items
