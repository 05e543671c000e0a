-- `salvage::empty::begin` meets its contract.
use Rattle.words.specs.Lists.{turns}
use Rattle.rules.specs.Kinds.{entries}
use Rattle.repair.specs.Salvage.{begun_at}
use Rattle.salvage.specs.Passes.{Known}
use Rattle.salvage.proofs.empty.begin.Given as goal

abbrev pub invariant-loop-e : goal.invariant-loop-e
invariant-loop-e l = Known (turns (begun_at l.kind) l.e l.initial.image) (entries l.kind) l.image l.hints
