-- `rules::list::LockList::lock_run` meets its contract.
use Rattle.std.proofs.Common.{◌≡◌}
use Rattle.words.specs.Lists.{turns}
use Rattle.rules.specs.Effects.{locked_at}
use Rattle.rules.proofs.list.LockList.lock_run.Given as goal

abbrev pub invariant-loop-k : goal.invariant-loop-k
invariant-loop-k l = l.l ≡ turns (locked_at l.p l.f l.r) l.k l.initial.l
