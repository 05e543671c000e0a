-- `words::byte::three_bytes` meets its contract.
use mathlib.Core.Path.{refl}
use borrow.Author.Rules.{rules}
use Rattle.words.specs.Bytes.{le}
use Rattle.words.proofs.byte.three_bytes.Goals as goal

pub overflow_cast-result : goal.overflow_cast-result
unfolding le
overflow_cast-result c = search rules

pub overflow_cast-result-2 : goal.overflow_cast-result-2
unfolding le
overflow_cast-result-2 c = search rules

pub overflow_cast-result-3 : goal.overflow_cast-result-3
unfolding le
overflow_cast-result-3 c = search rules

pub returns : goal.returns
unfolding le
returns c = search refl
