-- `moving::same::same_entries` meets its contract.
use Rattle.words.proofs.Sets.{alls_as}
use Rattle.moving.proofs.same.same_entries.Goals as goal

pub returns-then-not-same_entry : goal.returns-then-not-same_entry
returns-then-not-same_entry c = search alls_as
