-- The blocks that an entry names lie in the image. Assumes nothing.
use Rattle.std.specs.Prelude.{ℕ, ◌+◌, ◌*◌, ◌≤◌, ◌<◌, List, length}
use Rattle.rules.specs.declared.kind.Kind.{Kind}
use Rattle.rules.specs.Kinds.{block_size, numbers}
use Rattle.packing.specs.Same.{number_in}

-- entry e, or none
pub record Fits (kind : Kind) (s : List ℕ) (e : ℕ) : Type 0 where
  pub fits : (k : ℕ) → k < numbers kind → block_size kind * number_in kind s e k + block_size kind ≤ length s
