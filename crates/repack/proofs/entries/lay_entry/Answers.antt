-- `repack::entries::lay_entry` meets its contract.
use Rattle.std.proofs.Common.{rules}
use Rattle.words.proofs.Sets.{answers}
use Rattle.repack.proofs.Laying.{laying}
use Rattle.repack.proofs.entries.lay_entry.Goals as goal

pub returns-then-is_empty : goal.returns-then-is_empty
returns-then-is_empty c = search laying depth 8 fits 20000

pub lay_map-requires : goal.lay_map-requires
lay_map-requires c = (search rules, search (rules, answers), search rules, search laying depth 8 fits 20000)

pub returns : goal.returns
returns c = search laying depth 8 fits 20000
