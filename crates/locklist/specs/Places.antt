-- The places of a list's bytes. Assumes nothing.
use Rattle.std.specs.Prelude.{ℕ, ◌+◌, ◌*◌, ◌≤◌, ◌<◌, ◌≡◌, List}
use Rattle.words.specs.Bytes.{byte}

-- no place from n on is used: all of their bytes are zeros
pub record Unused (s : List ℕ) (n : ℕ) : Type 0 where
  pub within : n ≤ 64
  pub zero : (k : ℕ) → 19 + 20 * n ≤ k → k < 1299 → byte s k ≡ 0
