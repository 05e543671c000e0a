-- `words::hint::note` meets its contract.
use Rattle.words.proofs.Hints.{noting-hints}
use Rattle.words.proofs.hint.note.Goals as goal

pub returns-then-hints-h : goal.returns-then-hints-h
returns-then-hints-h c = search noting-hints

pub returns : goal.returns
returns c = search noting-hints
