-- `drive::check::sound_marked` meets its contract.
use Rattle.drive.proofs.Walks.{surveying}
use Rattle.drive.proofs.check.sound_marked.Goals as goal

pub returns : goal.returns
returns c = search surveying
