-- `words::bits::weight` meets its contract.
use Rattle.words.proofs.Bitwise.{weight_is}
use Rattle.words.proofs.bits.weight.Goals as goal

pub returns : goal.returns
returns c = search weight_is
