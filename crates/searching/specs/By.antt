-- The entry that a search has found, as its routine tells it. Assumes nothing.
use Rattle.std.specs.Prelude.{ℕ, Option, Some, None}
use Rattle.words.specs.Tests.{◌if◌else◌}
use Rattle.rules.specs.declared.kind.Kind.{Kind}
use Rattle.rules.specs.Drive.{no_entry}

-- none where the number of entries stands for it
unfoldable pub entry_by : Kind → ℕ → Option ℕ
entry_by kind e = None if no_entry kind e else Some e
