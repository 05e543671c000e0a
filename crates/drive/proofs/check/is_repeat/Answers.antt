-- `drive::check::is_repeat` meets its contract.
use Rattle.drive.proofs.Walks.{repeats_by}
use Rattle.drive.proofs.check.is_repeat.Goals as goal

pub returns : goal.returns
returns c = search repeats_by
