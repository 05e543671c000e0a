-- The bytes are those of the item, one by one.
use Rattle.std.proofs.Common.{rules}
use Rattle.locklist.proofs.Packs.{item_packed}
use Rattle.locklist.proofs.pack.item_bytes.Goals as goal

pub returns : goal.returns
returns c = search (rules, item_packed)
