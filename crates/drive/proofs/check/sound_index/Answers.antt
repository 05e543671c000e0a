-- `drive::check::sound_index` meets its contract.
use Rattle.drive.proofs.Walks.{walking}
use Rattle.drive.proofs.check.sound_index.Goals as goal

pub returns : goal.returns
returns c = search walking
