-- Each byte of the array is the byte there.
use Rattle.std.proofs.Common.{rules}
use Rattle.words.specs.Bytes.{byte_from}
use Rattle.words.proofs.Made.{tab_made}
use Rattle.words.proofs.byte.array_from.Goals as goal

pub returns : goal.returns
returns g c = tab_made (byte_from c.args.s.now c.args.at) (λ x y q k. search rules) g.row.N c.from_fn.result c.from_fn.ensures.items
