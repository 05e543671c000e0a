-- What is known of the extents of a run of records so far. Assumes nothing.
use Rattle.std.specs.Prelude.{ℕ, ◌+◌, ◌-◌, ◌/◌, ◌≤◌, ◌<◌, ◌≡◌, List}
use Rattle.rules.specs.declared.kind.Kind.{Kind}
use Rattle.rules.specs.declared.file.File.{File}
use Rattle.rules.specs.Kinds.{entries}
use Rattle.rules.specs.Drive.{entry_of}

-- e is the entry of the extent with the record before the one at distance i
pub record Known (kind : Kind) (s : List ℕ) (f : File) (r i e : ℕ) : Type 0 where
  pub extent : 0 < i → e ≡ entry_of kind s f ((r + i - 1) / 128)
  pub within : e ≤ entries kind
