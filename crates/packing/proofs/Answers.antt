-- What packing answers: 0 exactly when no row applies, and then the book is packed; else the first that does, and the second buffer is left. Assumes nothing.
use Prim.Native.Nat.{ℕ}
use mathlib.Core.Path.{◌≡◌, refl, sym, ap, ◌∙◌}
use mathlib.Core.Bool.{true, false}
use mathlib.Core.List.{List}
use mathlib.Core.Logic.{⊎_elim}
use native.Mathlib.Omega.{arith}
use lib.ListN.{length}
use borrow.Author.Tests.{eq-eqb, ne_eqb, eqb-true, not-false}
use Rattle.words.specs.Tests.{◌or◌, ◌if◌else◌}
use Rattle.words.specs.Tables.{◌∕◌, first_of, any_row, none_zero}
use Rattle.words.proofs.Tests.{equal?, or_fst, or_snd}
use Rattle.words.proofs.Tables.{none_applies, zero_none, nonzeros}
use Rattle.rules.specs.declared.kind.Kind.{Kind}
use Rattle.std.specs.Prelude.{Option, Some, None}
use Rattle.rules.specs.Serves.{list_size}
use Rattle.rules.specs.Drive.{sound_image}
use Rattle.rules.specs.Locks.{unpack, sound_list}
use Rattle.packing.specs.Packed.{packed}
use Rattle.packing.specs.Packs.{Packs, packs, holds_open, rows_pack, pack, pack_told}

module _ (kind : Kind) (s list out : List ℕ) where
  nonzero_pack : none_zero (rows_pack kind s list out) ≡ true
  unfolding rows_pack
  nonzero_pack = search nonzeros depth 20 fits 20000

  -- no code: the book is packed
  pub pack_done : first_of (rows_pack kind s list out) ≡ 0 → pack kind s list out ≡ packs (0 ∕ 0) (packed kind s)
  unfolding pack ◌if◌else◌
  pack_done z = rw (eq-eqb _ _ z)

  -- a code: it is the answer, and the second buffer is left
  pub pack_refused : (first_of (rows_pack kind s list out) ≡ 0 → ⊥) → pack kind s list out ≡ packs (first_of (rows_pack kind s list out)) out
  unfolding pack ◌if◌else◌
  pack_refused n = rw (ne_eqb _ _ n)

  answer_is : (pack kind s list out).answer ≡ first_of (rows_pack kind s list out)
  answer_is =
      ⊎_elim (λ (z : first_of (rows_pack kind s list out) ≡ 0). ap (λ (x : Packs). x.answer) (pack_done z) ∙ sym z)
      (λ (n : first_of (rows_pack kind s list out) ≡ 0 → ⊥). ap (λ (x : Packs). x.answer) (pack_refused n)) (equal? (first_of (rows_pack kind s list out)) 0)

-- Where no row applies the answer is 0 and the second buffer holds the book packed, ..
pub pack_accepts : (kind : Kind) (s list out : List ℕ) → any_row (rows_pack kind s list out) ≡ false
    → pack_told (Some kind) s list out ≡ packs (0 ∕ 0) (packed kind s)
unfolding pack_told
pack_accepts kind s list out h = pack_done kind s list out (none_applies (rows_pack kind s list out) h)

-- .. and where the answer is 0 the kind is known and no row applies.
pub pack_zero : (told : Option Kind) (s list out : List ℕ) → (pack_told told s list out).answer ≡ 0
    → (kind : Kind) × (told ≡ Some kind) × (any_row (rows_pack kind s list out) ≡ false)
unfolding pack_told
pack_zero (Some kind) s list out z =
    (kind, refl, zero_none (rows_pack kind s list out) (nonzero_pack kind s list out) (sym (answer_is kind s list out) ∙ z))
pack_zero None s list out z = absurd (omega arith)

-- A nonzero answer leaves the second buffer.
pub pack_leaves : (told : Option Kind) (s list out : List ℕ) → ((pack_told told s list out).answer ≡ 0 → ⊥) → (pack_told told s list out).out ≡ out
unfolding pack_told
pack_leaves (Some kind) s list out n =
    ap (λ (x : Packs). x.out) (pack_refused kind s list out (λ (z : first_of (rows_pack kind s list out) ≡ 0). n (answer_is kind s list out ∙ z)))
pack_leaves None s list out n = refl

-- ---- the first row that applies

module _ (kind : Kind) (s list out : List ℕ) where
  -- 255/13 for a list of wrong length, ..
  pub refused_list_length : (length list ≡ list_size → ⊥) → pack_told (Some kind) s list out ≡ packs (255 ∕ 13) out
  unfolding pack_told pack rows_pack first_of ◌or◌ ◌if◌else◌
  refused_list_length n = rw (ne_eqb (length list) list_size n) refl

  module _ (l : length list ≡ list_size) where
    -- .. and for a second buffer that is not as long as the image;
    pub refused_room : (length out ≡ length s → ⊥) → pack_told (Some kind) s list out ≡ packs (255 ∕ 13) out
    unfolding pack_told pack rows_pack first_of ◌or◌ ◌if◌else◌
    refused_room n = rw (eq-eqb (length list) list_size l, ne_eqb (length out) (length s) n) refl

    module _ (m : length out ≡ length s) where
      -- then 255/1 for an unsound image, ..
      pub refused_image : sound_image kind s ≡ false → pack_told (Some kind) s list out ≡ packs (255 ∕ 1) out
      unfolding pack_told pack rows_pack first_of ◌or◌ ◌if◌else◌
      refused_image g = rw (eq-eqb (length list) list_size l, eq-eqb (length out) (length s) m, g) refl

      -- .. 255/12 for an unsound list, whether it holds an open or not, ..
      pub refused_list : sound_image kind s ≡ true → sound_list kind list s ≡ false → pack_told (Some kind) s list out ≡ packs (255 ∕ 12) out
      unfolding pack_told pack rows_pack first_of ◌or◌ ◌if◌else◌
      refused_list g h = rw (eq-eqb (length list) list_size l, eq-eqb (length out) (length s) m, g, h) refl

      -- .. and 255/5 for a sound one that holds one.
      pub refused_open : sound_image kind s ≡ true → sound_list kind list s ≡ true → holds_open (unpack list) ≡ true
          → pack_told (Some kind) s list out ≡ packs (255 ∕ 5) out
      unfolding pack_told pack rows_pack first_of ◌or◌ ◌if◌else◌
      refused_open g h q = rw (eq-eqb (length list) list_size l, eq-eqb (length out) (length s) m, g, h, q) refl

-- ---- what is known where no row applies

pub record Packable (kind : Kind) (s list out : List ℕ) : Type 0 where
  pub listed : length list ≡ list_size
  pub room : length out ≡ length s
  pub sound : sound_image kind s ≡ true
  pub locks : sound_list kind list s ≡ true
  pub shut : holds_open (unpack list) ≡ false

-- The lengths are right, image and list are sound, and no file is open.
pub pack_may : (kind : Kind) (s list out : List ℕ) → any_row (rows_pack kind s list out) ≡ false → Packable kind s list out
unfolding rows_pack any_row
pack_may kind s list out h =
    let h₁ = or_fst _ _ h in
    let h₂ = or_snd _ _ h in
    let h₃ = or_snd _ _ h₂ in
    let h₄ = or_snd _ _ h₃ in
    record {
      listed = eqb-true _ _ (not-false _ (or_fst _ _ h₁));
      room = eqb-true _ _ (not-false _ (or_snd _ _ h₁));
      sound = not-false _ (or_fst _ _ h₂);
      locks = not-false _ (or_fst _ _ h₃);
      shut = or_fst _ _ h₄;
    }

-- The same where there is no code.
pub pack_passed : (kind : Kind) (s list out : List ℕ) → first_of (rows_pack kind s list out) ≡ 0 → Packable kind s list out
pack_passed kind s list out z = pack_may kind s list out (zero_none (rows_pack kind s list out) (nonzero_pack kind s list out) z)
