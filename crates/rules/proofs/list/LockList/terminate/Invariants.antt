-- `rules::list::LockList::terminate` meets its contract.
use Rattle.std.proofs.Common.{◌≡◌}
use Rattle.words.proofs.Lists.{map_to}
use Rattle.rules.specs.Effects.{unless_by}
use Rattle.rules.proofs.list.LockList.terminate.Given as goal

abbrev pub invariant-loop-it : goal.invariant-loop-it
invariant-loop-it l = l.it-items ≡ map_to (unless_by l.p) l.it-index l.initial.it-items
