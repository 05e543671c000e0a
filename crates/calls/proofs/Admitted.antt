-- What the general refusals of a call tell: its routine, or the first that applies. Assumes nothing.
use Rattle.std.proofs.Common.{◌≡◌, ℕ, Bool, true, false, List, refl, sym, ap, ◌∙◌, ⊎_elim, Some, not, length, eqb, leb, ltb}
use Rattle.words.specs.Tests.{◌or◌}
use Rattle.words.specs.Tables.{◌∕◌, first_of}
use Rattle.words.proofs.Tests.{either}
use Rattle.rules.specs.declared.kind.Kind.{Kind}
use Rattle.rules.specs.declared.routine.Routine.{Routine}
use Rattle.rules.specs.Kinds.{vector_size}
use Rattle.rules.specs.Serves.{Buffers, buffers, chosen, function_of, is_unknown, processes}
use Rattle.rules.specs.Codes.{bad_numbers}
use Rattle.rules.specs.Vector.{Five, DidFive}
use Rattle.calls.specs.Five.{bad_lengths, bad_sizes, rows_within, rows_five}
use Rattle.calls.proofs.Passing.{fcb_there, dma_there, list_there, chosen_number}
use Rattle.calls.proofs.Fives.{table_five, code_long}

-- FCB, DMA and list are not all of their lengths
pub sized_wrong : (kind : Kind) (n p c : ℕ) (v : List ℕ) (b : Buffers) → (length b.fcb ≡ 36 → length b.dma ≡ 2048 → length b.list ≡ 1316 → ⊥)
    → 255 ∕ 13 ≡ first_of (rows_five kind n p c v b)
sized_wrong kind n p c v b wrong =
    ⊎_elim (λ (y : bad_lengths kind n p c b.fcb b.dma b.list v ≡ true). code_long kind n p c v b _ refl y)
    (λ (y : bad_lengths kind n p c b.fcb b.dma b.list v ≡ false). absurd (wrong (fcb_there kind n p c b.fcb b.dma b.list v _ refl y)
    (dma_there kind n p c b.fcb b.dma b.list v _ refl y) (list_there kind n p c b.fcb b.dma b.list v _ refl y)))
    (either (bad_lengths kind n p c b.fcb b.dma b.list v))

-- what a call is to come to, where a general refusal ends it
module _ (kind : Kind) (n p c : ℕ) (v : List ℕ) (b : Buffers) (five : Five) (stopped : 255 ∕ 13 ≡ first_of (rows_five kind n p c v b) → DidFive five (255 ∕ 13) b v)
    (fcb dma list : List ℕ) (answer : ℕ) (hf : fcb ≡ b.fcb) (hd : dma ≡ b.dma) (hl : list ≡ b.list) (ha : answer ≡ 255 ∕ 13) where
  ends_wrong : (length b.fcb ≡ 36 → length b.dma ≡ 2048 → length b.list ≡ 1316 → ⊥) → DidFive five answer (buffers fcb dma list b.image) v
  ends_wrong wrong = rw (ha, hf, hd, hl) (stopped (sized_wrong kind n p c v b wrong))

  -- the FCB, ..
  pub wrong_fcb : (length fcb ≡ 36 → ⊥) → DidFive five answer (buffers fcb dma list b.image) v
  wrong_fcb h = ends_wrong (λ x y t. h (ap (λ (s : List ℕ). length s) hf ∙ x))

  -- .. the DMA ..
  pub wrong_dma : (length dma ≡ 2048 → ⊥) → DidFive five answer (buffers fcb dma list b.image) v
  wrong_dma h = ends_wrong (λ x y t. h (ap (λ (s : List ℕ). length s) hd ∙ y))

  -- .. or the list is of wrong length
  pub wrong_list : (length list ≡ 1316 → ⊥) → DidFive five answer (buffers fcb dma list b.image) v
  wrong_list h = ends_wrong (λ x y t. h (ap (λ (s : List ℕ). length s) hl ∙ t))

-- tests that are left out
fewer : (x y z t : Bool) → ((x or y or z or false) or t) ≡ (x or y or z or t)
unfolding ◌or◌
fewer true y z t = refl
fewer false true z t = refl
fewer false false true t = refl
fewer false false false t = refl

module _ (kind : Kind) (n p c : ℕ) (v : List ℕ) (b : Buffers) (k : Routine) (known : chosen n ≡ Some k)
    (fcb : length b.fcb ≡ 36) (dma : length b.dma ≡ 2048) (list : length b.list ≡ 1316) where
  -- of a known function, on buffers of their lengths, the sizes are what is left
  pub sizes_so : (t : Bool) → t ≡ bad_sizes kind p c v → t ≡ bad_lengths kind n p c b.fcb b.dma b.list v
  unfolding bad_sizes bad_lengths bad_numbers is_unknown ◌or◌
  sizes_so t h =
      h ∙ sym (rw (known, fcb, dma, list)
      (fewer (leb processes p) (ltb c 1) (ltb 16 c) (not (eqb (length v) (vector_size kind)))))

  -- a bad one
  pub sized_badly : (t : Bool) → t ≡ bad_sizes kind p c v → t ≡ true → 255 ∕ 13 ≡ first_of (rows_five kind n p c v b)
  sized_badly t h = code_long kind n p c v b t (sizes_so t h)

  -- none: what the rows that look into the buffers tell
  pub sized_well : (t : Bool) → t ≡ bad_sizes kind p c v → t ≡ false → (code : ℕ)
      → code ≡ first_of (rows_within kind (function_of k) b.fcb b.list b.image v) → code ≡ first_of (rows_five kind n p c v b)
  sized_well t h e code g =
      table_five kind n p c v b t (sizes_so t h) e code
      (g ∙ ap (λ (m : ℕ). first_of (rows_within kind m b.fcb b.list b.image v)) (sym (chosen_number n k known)))
