-- The bytes so far are zero.
use Rattle.std.proofs.Common.{◌≡◌}
use Rattle.words.specs.Tests.{all}
use Rattle.words.specs.Bytes.{is_zero}
use Rattle.words.proofs.compare.zeros.Given as goal

abbrev pub invariant-loop-byte : goal.invariant-loop-byte
invariant-loop-byte l = l.good ≡ all (is_zero l.s) l.byte-index
