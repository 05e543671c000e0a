-- `words::test::both` meets its contract.
use mathlib.Core.Path.{refl}
use Rattle.words.proofs.Sets.{choices}
use Rattle.words.proofs.test.both.Goals as goal

pub returns-then-a : goal.returns-then-a
returns-then-a c = search (choices, refl) depth 8 fits 20000

pub returns : goal.returns
returns c = search (choices, refl) depth 8 fits 20000
