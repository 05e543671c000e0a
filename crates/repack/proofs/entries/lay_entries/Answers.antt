-- `repack::entries::lay_entries` meets its contract.
use Rattle.std.proofs.Common.{rules}
use Rattle.repack.proofs.Laying.{laying, one_from, entries_turn}
use Rattle.repack.proofs.entries.lay_entries.Goals as goal

pub loop-e-init : goal.loop-e-init
loop-e-init c = search laying depth 8 fits 20000

pub loop-e-preserved : goal.loop-e-preserved
loop-e-preserved c =
    let one = one_from _ _ c.from-to.ensures in
    let at = c.entry-entry.ensures in
    let laid = rw (at.0, at.1) at c.lay_entry-next.ensures in
    let empty = rw (at.0, at.1) at c.is_empty.ensures in
    (search (rules, one_from), entries_turn _ _ _ _ _ _ _ _ laid empty one)
