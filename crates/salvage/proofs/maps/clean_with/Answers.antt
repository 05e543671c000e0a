-- `salvage::maps::clean_with` meets its contract.
use Rattle.std.proofs.Common.{rules}
use Rattle.drive.proofs.Marks.{zeros}
use Rattle.salvage.proofs.maps.clean_with.Goals as goal

pub clean_all-requires : goal.clean_all-requires
clean_all-requires g c = search (rules, zeros)
