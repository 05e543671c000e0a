-- `repack::entries::lay_map` meets its contract.
use Rattle.std.proofs.Common.{rules}
use Rattle.repack.proofs.Laying.{mapping, places_more, one_from}
use Rattle.repack.proofs.entries.lay_map.Goals as goal

pub loop-k-preserved : goal.loop-k-preserved
loop-k-preserved c =
    let asked = c.requires in
    places_more _ _ _ _ _ _ _ _ _ _ _ _ c.loop-k.invariant asked.0 asked.1 c.numbers-k-end.ensures.0 c.loop-k-test.true
    (search rules) c.map_number-n.ensures.0 c.new_number.ensures (one_from _ _ c.from-next.ensures) c.put_number.ensures

pub returns : goal.returns
returns c = search mapping depth 8 fits 20000
