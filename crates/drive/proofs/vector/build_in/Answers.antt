-- `drive::vector::build_in` meets its contract.
use Rattle.drive.proofs.Taken.{building}
use Rattle.drive.proofs.vector.build_in.Goals as goal

pub returns : goal.returns
returns c = search building depth 8 fits 20000
