-- A record's block, by its extent's entry. Assumes nothing.
use Rattle.std.proofs.Common.{ℕ, ◌≤◌, ◌<◌, ◌≡◌, ap, ◌∙◌, List, arith, le-leb}
use borrow.Author.Tests.{lt-leb}
use Rattle.words.specs.Tests.{◌if◌else◌}
use Rattle.rules.specs.declared.kind.Kind.{Kind}
use Rattle.rules.specs.Kinds.{entries}
use Rattle.rules.specs.Drive.{map_number, map_place, block_in}

module _ (kind : Kind) (s : List ℕ) (m e r : ℕ) (q : m ≡ entries kind) where
  pub block_none : m ≤ e → 0 ≡ block_in kind s e r
  unfolding block_in ◌if◌else◌
  block_none h = rw (le-leb (entries kind) e (omega arith))

  pub block_found : (b k : ℕ) → e < m → k ≡ map_place kind r → b ≡ map_number kind s e k → b ≡ block_in kind s e r
  unfolding block_in ◌if◌else◌
  block_found b k h p g = rw (lt-leb (entries kind) e (omega arith)) (g ∙ ap (λ (i : ℕ). map_number kind s e i) p)
