-- What the routine answers: 0 exactly where no row applies, and whatever else it answers changes nothing. Assumes nothing.
use Prim.Native.Nat.{ℕ}
use mathlib.Core.Path.{◌≡◌, refl, sym, ap, ◌∙◌}
use mathlib.Core.Bool.{Bool, true, false}
use mathlib.Core.List.{List}
use mathlib.Core.Logic.{⊎_elim}
use native.Mathlib.Omega.{arith}
use lib.ListN.{length, replicate}
use lib.Dec.{eqb}
use borrow.Author.Tests.{eq-eqb, ne_eqb, eqb-true, not-false}
use Rattle.words.specs.Tests.{◌if◌else◌}
use Rattle.words.specs.Tables.{first_of, any_row}
use Rattle.words.proofs.Tests.{either}
use Rattle.words.proofs.Tables.{none_applies, zero_none, row_off, row_rest, nonzeros}
use Rattle.words.proofs.Sets.{or_none, not_of_true, codes}
use Rattle.rules.specs.declared.kind.Kind.{Kind}
use Rattle.std.specs.Prelude.{Option, Some, None}
use Rattle.rules.specs.Kinds.{entries}
use Rattle.rules.specs.Drive.{good_length, sound_image}
use Rattle.rules.proofs.Sound.{sound_length}
use Rattle.repair.specs.Salvage.{repaired, report_of, Salvaged, salvaged, rows_salvage, salvage, salvage_told}
use Rattle.repair.proofs.Cleaning.{repaired_sound}
use Rattle.repair.proofs.Unchanged.{repaired_same, report_none}

module _ (kind : Kind) (s r : List ℕ) where
  -- the outcome by what the rows say
  outcome : (b : Bool) → eqb (first_of (rows_salvage kind s r)) 0 ≡ b
      → salvage kind s r ≡ (salvaged 0 (repaired kind s) (report_of kind s) if b else salvaged (first_of (rows_salvage kind s r)) s r)
  unfolding salvage
  outcome b h = rw h

  -- The answer is the code of the first row that applies, 0 where none does.
  pub answer_first : (salvage kind s r).answer ≡ first_of (rows_salvage kind s r)
  unfolding ◌if◌else◌
  answer_first =
      ⊎_elim (λ (h : eqb (first_of (rows_salvage kind s r)) 0 ≡ true). ap (λ (o : Salvaged). o.answer) (outcome true h) ∙ sym (eqb-true _ _ h))
      (λ (h : eqb (first_of (rows_salvage kind s r)) 0 ≡ false). ap (λ (o : Salvaged). o.answer) (outcome false h))
      (either (eqb (first_of (rows_salvage kind s r)) 0))

  -- It is 0 only where no row applies, ..
  pub zero_accepted : (salvage kind s r).answer ≡ 0 → any_row (rows_salvage kind s r) ≡ false
  unfolding rows_salvage
  zero_accepted h = zero_none (rows_salvage kind s r) (search nonzeros) (sym answer_first ∙ h)

  -- .. and there it is: the image is then the repaired one, and the report is that of the repair.
  pub accepted_zero : any_row (rows_salvage kind s r) ≡ false → salvage kind s r ≡ salvaged 0 (repaired kind s) (report_of kind s)
  unfolding ◌if◌else◌
  accepted_zero h = outcome true (eq-eqb _ _ (none_applies (rows_salvage kind s r) h))

  -- No row applies to an image of good length and a report of as many bytes as there are entries.
  pub none_refuses : good_length kind s ≡ true → length r ≡ entries kind → any_row (rows_salvage kind s r) ≡ false
  unfolding rows_salvage any_row
  none_refuses h l = or_none _ _ (not_of_true _ h) (or_none _ _ (not_of_true _ (eq-eqb _ _ l)) refl)

  -- Where no row applies the image has a good length, ..
  pub zero_length : first_of (rows_salvage kind s r) ≡ 0 → good_length kind s ≡ true
  unfolding rows_salvage
  zero_length h = not-false _ (row_off _ _ _ (λ z. absurd (omega arith)) h)

  -- .. and the report a byte for each entry.
  pub zero_report : first_of (rows_salvage kind s r) ≡ 0 → length r ≡ entries kind
  unfolding rows_salvage
  zero_report h = eqb-true _ _ (not-false _ (row_off _ _ _ (λ z. absurd (omega arith)) (row_rest _ _ _ (λ z. absurd (omega arith)) h)))

  refused : (c : ℕ) → c ≡ first_of (rows_salvage kind s r) → eqb c 0 ≡ false → salvage kind s r ≡ salvaged c s r
  unfolding ◌if◌else◌
  refused c h n = outcome false (ap (λ (d : ℕ). eqb d 0) (sym h) ∙ n) ∙ ap (λ (d : ℕ). salvaged d s r) (sym h)

  -- Where a row applies the answer is that of the first, and nothing changes: ..
  pub refused_first : (first_of (rows_salvage kind s r) ≡ 0 → ⊥) → salvage kind s r ≡ salvaged (first_of (rows_salvage kind s r)) s r
  refused_first n = refused (first_of (rows_salvage kind s r)) refl (ne_eqb _ _ n)

  -- .. "1 wrong image length", and nothing changes; ..
  pub wrong_length : good_length kind s ≡ false → salvage kind s r ≡ salvaged 1 s r
  unfolding rows_salvage
  wrong_length h = refused 1 (search codes depth 8 fits 20000) refl

  -- .. "2 report buffer not 64 bytes" (128 on the second kind of drive), and nothing changes.
  pub wrong_report : good_length kind s ≡ true → eqb (length r) (entries kind) ≡ false → salvage kind s r ≡ salvaged 2 s r
  unfolding rows_salvage
  wrong_report h l = refused 2 (search codes depth 8 fits 20000) refl

-- An answer other than 0 changes nothing, whatever kind of drive is told; ..
pub refused_nothing : (told : Option Kind) (s r : List ℕ) → ((salvage_told told s r).answer ≡ 0 → ⊥)
    → ((salvage_told told s r).image ≡ s) × ((salvage_told told s r).report ≡ r)
unfolding salvage_told ◌if◌else◌
refused_nothing (Some kind) s r n =
    ⊎_elim
    (λ (h : eqb (first_of (rows_salvage kind s r)) 0 ≡ true). absurd (n (answer_first kind s r ∙ eqb-true _ _ h)))
    (λ (h : eqb (first_of (rows_salvage kind s r)) 0 ≡ false).
    (ap (λ (o : Salvaged). o.image) (outcome kind s r false h), ap (λ (o : Salvaged). o.report) (outcome kind s r false h)))
    (either (eqb (first_of (rows_salvage kind s r)) 0))
refused_nothing None s r n = (refl, refl)

-- .. a number that tells none is answered 1.
pub unknown_kind : (s r : List ℕ) → salvage_told None s r ≡ salvaged 1 s r
unfolding salvage_told
unknown_kind s r = refl

-- ---- the outcome of a repair

module _ (kind : Kind) (s r : List ℕ) (l : length r ≡ entries kind) where
  -- An image of good length is answered 0, and left repaired.
  pub good_answered : good_length kind s ≡ true → salvage kind s r ≡ salvaged 0 (repaired kind s) (report_of kind s)
  good_answered h = accepted_zero kind s r (none_refuses kind s r h l)

  -- A sound image is answered 0 and unchanged, the report all zeros.
  pub sound_unchanged : sound_image kind s ≡ true → salvage kind s r ≡ salvaged 0 s (replicate (entries kind) 0)
  sound_unchanged h = good_answered (sound_length kind s h) ∙ λ i. salvaged 0 (repaired_same kind s h i) (report_none kind s h i)

-- Salvaged twice is salvaged once, and the second report is all zeros.
pub salvaged_twice : (kind : Kind) (s q : List ℕ) → good_length kind s ≡ true → length q ≡ entries kind
    → salvage kind (repaired kind s) q ≡ salvaged 0 (repaired kind s) (replicate (entries kind) 0)
salvaged_twice kind s q h l = sound_unchanged kind (repaired kind s) q l (repaired_sound kind s h)
