-- `rules::list::LockList::first_others` meets its contract.
use Rattle.std.proofs.Common.{◌≡◌}
use Rattle.words.specs.Tests.{lowest}
use Rattle.rules.proofs.Runs.{others_to}
use Rattle.rules.proofs.list.LockList.first_others.Given as goal

abbrev pub invariant-loop-it : goal.invariant-loop-it
invariant-loop-it l = l.first ≡ lowest (others_to l.fn.self l.p l.f l.r l.it-index) l.n
