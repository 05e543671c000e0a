-- The repair's passes one after the other, and the ends of the routine. Assumes nothing.
use Rattle.std.proofs.Common.{ℕ, ◌*◌, ◌≤◌, ◌≡◌, refl, sym, ap, ◌∙◌, true, false, List, arith, length, get_or, eqb, rules, eq-eqb, ne_eqb}
use Rattle.words.specs.Lists.{tab}
use Rattle.words.specs.Tables.{first_of}
use Rattle.words.specs.Bytes.{byte}
use Rattle.words.proofs.Lists.{tab_ext, tab_at}
use Rattle.words.proofs.Sets.{row_yes, row_no, row_none, not_of_false, not_of_true, not_yes, not_no}
use Rattle.rules.specs.declared.kind.Kind.{Kind}
use Rattle.rules.specs.Kinds.{entries, most}
use Rattle.rules.specs.Drive.{blocks, good_length}
use Rattle.rules.proofs.Sound.{length_long, length_few}
use Rattle.repair.specs.Salvage.{kept, cleaned_to, repaired, emptied_told, told_of, told_at, report_of, salvaged, rows_salvage, salvage}
use Rattle.repair.proofs.Outcome.{refused_first, zero_length, zero_report, good_answered}
use Rattle.salvage.specs.Passes.{EntriesDone, told_from, Repaired}
use Rattle.salvage.proofs.Zeroed.{blocks_kept}

-- the report begun, entries emptied, numbers zeroed
pub all_passes : (kind : Kind) (s r₁ t u r₂ : List ℕ) → r₁ ≡ tab (emptied_told s) (entries kind) → t ≡ kept kind s → EntriesDone kind r₁ t u r₂
    → Repaired kind s u r₂
unfolding repaired report_of told_from told_at
all_passes kind s r₁ t u r₂ a b d = record {
  image = d.image ∙ ap (cleaned_to kind (entries kind)) b;
  told =
      d.told ∙ tab_ext (told_from kind r₁ t) (told_at kind s) (entries kind) (λ i m.
      let was : byte r₁ i ≡ emptied_told s i = ap (λ (x : List ℕ). get_or x i 0) a ∙ tab_at (emptied_told s) (entries kind) i 0 m in
      ap (λ (x : ℕ). told_of kind x (cleaned_to kind i t) i) was ∙ ap (λ (x : List ℕ). told_of kind (emptied_told s i) (cleaned_to kind i x) i) b);
}

pub ruleset passing = (rules, all_passes, blocks_kept)

-- ---- the rows

-- a length compared with what a callee answered: they are the same, ..
pub as_many : (x n m : ℕ) → n ≡ m → x ≡ n → eqb x m ≡ true
as_many x n m q h = eq-eqb x m (h ∙ q)

-- .. or they are not
pub not_as_many : (x n m : ℕ) → n ≡ m → (x ≡ n → ⊥) → eqb x m ≡ false
not_as_many x n m q h = ne_eqb x m (λ z. h (z ∙ sym q))

pub ruleset refusing = (row_yes, row_no, row_none, not_of_false, not_of_true, not_yes, not_no, as_many, not_as_many, refl)

-- ---- the ends

module _ (kind : Kind) (s r : List ℕ) (why : ℕ) (h : why ≡ first_of (rows_salvage kind s r)) where
  -- refused: nothing has changed; ..
  pub ends_refused : (why ≡ 0 → ⊥) → salvaged why s r ≡ salvage kind s r
  ends_refused n = ap (λ (c : ℕ). salvaged c s r) h ∙ sym (refused_first kind s r (λ z. n (h ∙ z)))

  module _ (z : why ≡ 0) where
    good : good_length kind s ≡ true
    good = zero_length kind s r (sym h ∙ z)

    -- .. else the image has a directory, ..
    pub good_long : 32 * entries kind ≤ length s
    good_long = let w = length_long kind s good in omega arith

    -- .. no more blocks than its kind may have, ..
    pub good_few : blocks kind s ≤ most kind
    good_few = length_few kind s good

    -- .. the report a byte for each entry, ..
    pub report_long : length r ≡ entries kind
    report_long = zero_report kind s r (sym h ∙ z)

    -- .. and both are left as the repair has them
    pub ends_repaired : (u r₂ : List ℕ) → Repaired kind s u r₂ → salvaged 0 u r₂ ≡ salvage kind s r
    ends_repaired u r₂ w = (λ i. salvaged 0 (w.image i) (w.told i)) ∙ sym (good_answered kind s r report_long good)

pub ruleset ending = (rules, ends_refused, ends_repaired, good_long, good_few, report_long)
