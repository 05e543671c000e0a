-- No number yet, and one more.
use Rattle.std.proofs.Common.{rules}
use Rattle.writing.proofs.Releasing.{in_none, number_bit, in_more}
use Rattle.writing.proofs.vector.release_entry.Goals as goal

pub loop-k-init : goal.loop-k-init
loop-k-init c = search (rules, in_none)

pub release_block-requires : goal.release_block-requires
release_block-requires c = search (rules, number_bit)

pub loop-k-preserved : goal.loop-k-preserved
loop-k-preserved c = search (rules, in_more, number_bit)
