-- `rules::list::LockList::free_places` meets its contract.
use Rattle.std.proofs.Common.{◌≡◌, ◌≤◌}
use Rattle.words.specs.Tests.{count}
use Rattle.rules.specs.Locks.{is_empty_at}
use Rattle.rules.proofs.list.LockList.free_places.Given as goal

abbrev pub invariant-loop-it : goal.invariant-loop-it
invariant-loop-it l = (l.n ≤ l.it-index) × (l.n ≡ count (is_empty_at l.fn.self) l.it-index)
