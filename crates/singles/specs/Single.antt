-- A single call of the plain engine, for one record of a run. Assumes nothing.
use Rattle.std.specs.Prelude.{ℕ, ◌≡◌, List}
use Rattle.rules.specs.declared.kind.Kind.{Kind}
use Rattle.rules.specs.Serves.{Buffers, buffers}
use Rattle.rules.specs.Call.{call}
use Rattle.rules.specs.Several.{single, back_at}
use Rattle.rules.specs.Vector.{vector_of}

-- the single call for the record at distance i: its answer, what is left where it is accepted and where not, and the vector of the image left
pub record DidSingle (kind : Kind) (n p i : ℕ) (b : Buffers) (answer : ℕ) (dma list image vector : List ℕ) : Type 0 where
  pub gives : answer ≡ (call kind n p 1 (single i b)).answer
  pub done : answer ≡ 0 → buffers b.fcb dma list image ≡ back_at i b (call kind n p 1 (single i b)).left
  pub kept : (answer ≡ 0 → ⊥) → buffers b.fcb dma list image ≡ b
  pub agrees : vector ≡ vector_of kind image
