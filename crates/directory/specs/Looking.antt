-- What a walk over the directory that looks up a file has found so far. Assumes nothing.
use Rattle.std.specs.Prelude.{ℕ, List}
use Rattle.words.specs.Tests.{greatest, lowest_or}
use Rattle.rules.specs.declared.file.File.{File}
use Rattle.rules.specs.declared.file.Found.{Found}
use Rattle.rules.specs.Drive.{extent_at, is_of, is_entry}

-- the entry of extent 0, the highest extent, the entry of that
abbrev pub found : ℕ → ℕ → ℕ → Found
found e x d = record { entry = e; extent = x; last = d }

-- the highest extent among the entries before e
unfoldable pub highest_to : List ℕ → File → ℕ → ℕ
highest_to s f e = greatest (is_of s f) (extent_at s) e

-- what the entries before e tell; `none` stands for an entry that there is not
unfoldable pub found_to : ℕ → List ℕ → File → ℕ → Found
found_to none s f e = found (lowest_or (is_entry s f 0) e none) (highest_to s f e) (lowest_or (is_entry s f (highest_to s f e)) e none)
