-- `salvage::empty::note_used` meets its contract.
use Rattle.std.proofs.Common.{◌≡◌}
use Rattle.words.proofs.Lists.{filled}
use Rattle.repair.specs.Salvage.{emptied_told}
use Rattle.salvage.proofs.empty.note_used.Given as goal

abbrev pub invariant-loop-e : goal.invariant-loop-e
invariant-loop-e l = l.report ≡ filled (emptied_told l.fn.directory.image.now) l.e l.initial.report
