-- Each byte of the name is the byte there in its low seven bits.
use Rattle.std.proofs.Common.{rules}
use Rattle.words.specs.Bytes.{low_from}
use Rattle.words.proofs.Made.{tab_made}
use Rattle.directory.proofs.name.name_from.Goals as goal

pub returns : goal.returns
returns c = tab_made (low_from c.args.s.now c.args.at) (λ x y q k. search rules) 11 c.from_fn.result c.from_fn.ensures.items
