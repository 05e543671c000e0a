-- `words::bits::set` meets its contract.
use Rattle.words.proofs.Bitwise.{set_or}
use Rattle.words.proofs.bits.set.Goals as goal

pub returns : goal.returns
returns c = search set_or
