-- `words::bits::is_set` meets its contract.
use Rattle.words.proofs.Bitwise.{set_and}
use Rattle.words.proofs.bits.is_set.Goals as goal

pub returns : goal.returns
returns c = search set_and
