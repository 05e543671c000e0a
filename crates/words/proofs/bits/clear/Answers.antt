-- `words::bits::clear` meets its contract.
use Rattle.words.proofs.Bitwise.{common, set_less}
use Rattle.words.proofs.bits.clear.Goals as goal

pub overflow_sub-bits : goal.overflow_sub-bits
overflow_sub-bits c = search common

pub returns : goal.returns
returns c = search set_less
