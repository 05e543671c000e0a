-- `rules::list::LockList::free_place` meets its contract.
use Rattle.std.proofs.Common.{◌≡◌, ◌≤◌, false}
use Rattle.words.specs.Tests.{any}
use Rattle.rules.specs.Locks.{is_empty_at}
use Rattle.rules.proofs.list.LockList.free_place.Given as goal

abbrev pub invariant-loop-i : goal.invariant-loop-i
invariant-loop-i l = (l.i ≤ l.end) × (any (is_empty_at l.fn.self) l.i ≡ false)
