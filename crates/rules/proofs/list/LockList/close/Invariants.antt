-- `rules::list::LockList::close` meets its contract.
use Rattle.std.proofs.Common.{◌≡◌}
use Rattle.words.proofs.Lists.{map_to}
use Rattle.rules.specs.Effects.{unless_of_file}
use Rattle.rules.proofs.list.LockList.close.Given as goal

abbrev pub invariant-loop-it : goal.invariant-loop-it
invariant-loop-it l = l.it-items ≡ map_to (unless_of_file l.p l.f) l.it-index l.initial.it-items
