-- "Give also a sequence with one place fewer where one of them is" (T-10). Assumes nothing.
use Rattle.std.specs.Prelude.{ℕ, ◌+◌, ◌-◌, ◌*◌, ◌≤◌, ◌≡◌, true, List, replicate}
use Rattle.words.specs.Lists.{tab}
use Rattle.words.specs.Bytes.{are_bytes}
use Rattle.words.specs.Tables.{◌∕◌}
use Rattle.rules.specs.declared.kind.Kind.{Kind}
use Rattle.rules.specs.declared.kind.Kind.TheVariants.{Small}
use Rattle.rules.specs.declared.kind.Rule.TheVariants.{Mpm}
use Rattle.rules.specs.Serves.{buffers}
use Rattle.rules.specs.Locks.{fresh_list}
use Rattle.rules.specs.Several.{call_run}
use Rattle.sizing.specs.Sizes.{is_caller}
use Rattle.filling.specs.Book.{book}

-- calls by some processes, one after the other, of bytes, that leave the image as it was; and the list that they leave
pub data Calls (kind : Kind) (callers image fresh : List ℕ) : List ℕ → Type 0 where
  none : Calls kind callers image fresh fresh
  then : (list : List ℕ) → Calls kind callers image fresh list → (n p m : ℕ) (fcb dma : List ℕ) → is_caller callers p ≡ true
      → are_bytes fcb ≡ true → are_bytes dma ≡ true
      → (call_run kind n p m (buffers fcb dma list image)).left.image ≡ image
      → Calls kind callers image fresh (call_run kind n p m (buffers fcb dma list image)).left.list

-- .. and one more, with its answer
pub record EndsIn (kind : Kind) (callers image fresh : List ℕ) (answer : ℕ) : Type 0 where
  pub list : List ℕ
  pub calls : Calls kind callers image fresh list
  pub function : ℕ
  pub process : ℕ
  pub count : ℕ
  pub fcb : List ℕ
  pub dma : List ℕ
  pub by : is_caller callers process ≡ true
  pub fcb_bytes : are_bytes fcb ≡ true
  pub dma_bytes : are_bytes dma ≡ true
  pub answers : (call_run kind function process count (buffers fcb dma list image)).answer ≡ answer

-- the processes 0 to p - 1
unfoldable pub first_ones : ℕ → List ℕ
first_ones p = tab (λ (x : ℕ). x) p

-- with one place fewer than p times the sum of the limits
unfoldable pub one_fewer : ℕ → ℕ → ℕ → List ℕ
one_fewer p o k = fresh_list (Small Mpm) (p * (o + k) - 1) o k 0 (replicate 16 0)

-- for all limits and numbers of processes for which a list can have one place fewer
pub record Least : Type 0 where
  pub too_few : (p o k : ℕ) → 1 ≤ p → p ≤ 16 → 1 ≤ o → 1 ≤ k → p * (o + k) ≤ 65 → EndsIn (Small Mpm) (first_ones p) book (one_fewer p o k) (14 ∕ 0)
  pub no_place : (p o k : ℕ) → 1 ≤ p → p ≤ 16 → 2 ≤ o → 1 ≤ k → p * (o + k) ≤ 65 → EndsIn (Small Mpm) (first_ones p) book (one_fewer p o k) (255 ∕ 11)
