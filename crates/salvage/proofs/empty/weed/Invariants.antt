-- `salvage::empty::weed` meets its contract.
use Rattle.words.specs.Lists.{turns}
use Rattle.repair.specs.Salvage.{weeded_at}
use Rattle.salvage.specs.Passes.{Known}
use Rattle.salvage.proofs.empty.weed.Given as goal

abbrev pub invariant-loop-e : goal.invariant-loop-e
invariant-loop-e l = Known (turns (weeded_at l.kind) l.e l.initial.image) l.e l.image l.hints
