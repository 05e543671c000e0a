-- `rules::list::LockList::kinds_by` meets its contract.
use Rattle.std.proofs.Common.{◌≡◌, ◌≤◌}
use Rattle.words.specs.Tests.{count}
use Rattle.rules.specs.Locks.{is_kind_by_at}
use Rattle.rules.proofs.list.LockList.kinds_by.Given as goal

abbrev pub invariant-loop-it : goal.invariant-loop-it
invariant-loop-it l = (l.n ≤ l.it-index) × (l.n ≡ count (is_kind_by_at l.fn.self l.kind l.p) l.it-index)
