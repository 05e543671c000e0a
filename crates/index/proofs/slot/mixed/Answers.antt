-- Byte after byte.
use Rattle.std.proofs.Common.{arith, rules}
use Rattle.index.proofs.Mixing.{mix_none, mix_more, mix_all, mix_low}
use Rattle.index.proofs.slot.mixed.Goals as goal

pub loop-k-init : goal.loop-k-init
loop-k-init c = (mix_none _, omega arith)

pub loop-k-preserved : goal.loop-k-preserved
loop-k-preserved c =
    (mix_more _ _ _ _ c.loop-k.invariant.0 c.from.ensures, mix_low _ _ _ c.loop-k-test.true (search rules) c.loop-k.invariant.1)

pub returns : goal.returns
returns c = (mix_all _ _ _ c.loop-k.invariant.0 (omega arith) (omega arith), omega arith)
