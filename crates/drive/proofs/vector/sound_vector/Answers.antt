-- `drive::vector::sound_vector` meets its contract.
use Rattle.drive.proofs.Taken.{vectoring}
use Rattle.drive.proofs.vector.sound_vector.Goals as goal

pub sound_marked-requires : goal.sound_marked-requires
sound_marked-requires c = search vectoring

pub returns : goal.returns
returns c = search vectoring depth 8 fits 20000
