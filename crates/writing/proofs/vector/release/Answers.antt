-- No entry yet, and one more.
use Rattle.std.proofs.Common.{rules}
use Rattle.writing.proofs.Releasing.{of_none, of_more}
use Rattle.writing.proofs.vector.release.Goals as goal

pub loop-e-init : goal.loop-e-init
loop-e-init c = search (rules, of_none)

pub loop-e-preserved : goal.loop-e-preserved
loop-e-preserved c = search (rules, of_more)
