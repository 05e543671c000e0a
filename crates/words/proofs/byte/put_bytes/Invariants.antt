-- The first `i` bytes of `v` are put.
use Rattle.words.proofs.Items.{Pasted}
use Rattle.words.proofs.byte.put_bytes.Given as goal

abbrev pub invariant-loop-i : goal.invariant-loop-i
invariant-loop-i l = Pasted l.initial.s l.at l.fn.v l.s l.i
