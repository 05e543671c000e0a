-- A sound image is unchanged and nothing is reported, so that salvaged twice is salvaged once. Assumes nothing.
use Prim.Native.Nat.{ℕ, zero, suc, ◌≤◌, ◌<◌}
use mathlib.Core.Path.{◌≡◌, refl, ap, ◌∙◌}
use mathlib.Core.Bool.{true, false, not}
use mathlib.Core.List.{List, ◌∷◌}
use mathlib.Core.Logic.{⊎_elim}
use native.Mathlib.Omega.{arith}
use lib.ListN.{replicate}
use borrow.Author.Tests.{not-true}
use Rattle.words.specs.Tests.{◌and◌, ◌if◌else◌, all, count}
use Rattle.words.specs.Lists.{tab, turns}
use Rattle.words.proofs.Tests.{either, and_fst, and_snd, or_so, all_at, any_never}
use Rattle.words.proofs.Lists.{tab_ext}
use Rattle.words.proofs.Counts.{count_zero}
use Rattle.words.proofs.Sets.{and_both, and_left, and_right, or_none, not_of_true, not_of_false}
use Rattle.rules.specs.declared.kind.Kind.{Kind}
use Rattle.rules.specs.Kinds.{entries, numbers}
use Rattle.rules.specs.Drive.{good_length, is_empty, good_fields, in_range, is_first, is_repeat, good_entry, has_first, sound_directory, sound_image}
use Rattle.repair.specs.Salvage.{must_go, weeded_at, weeded, begun_at, begun, must_zero, zeroed_at, zeroed_to, cleaned_at, cleaned_to, kept, repaired, is_zeroed}
use Rattle.repair.specs.Salvage.{emptied_told, told_of, told_at, report_of}
use Rattle.repair.proofs.Cleaning.{repaired_sound}

-- steps that change nothing
turns_still : {A : Type 0} (step : ℕ → A → A) (x : A) (n : ℕ) → ((e : ℕ) → e < n → step e x ≡ x) → turns step n x ≡ x
unfolding turns
turns_still step x zero h = refl
turns_still {A} step x (suc n) h = ap (λ (y : A). step n y) (turns_still step x n (λ e l. h e (omega arith))) ∙ h n (omega arith)

abbrev none : ℕ → ℕ
none e = 0

tab_none : (n : ℕ) → tab none n ≡ replicate n 0
unfolding tab
tab_none zero = refl
tab_none (suc n) = ap (λ (t : List ℕ). 0 ∷ t) (tab_none n)

module _ (kind : Kind) (s : List ℕ) (h : sound_image kind s ≡ true) where
  entry_good : (e : ℕ) → e < entries kind → is_empty s e ≡ false
      → (good_fields kind s e and all (in_range kind s e) (numbers kind) and all (is_first kind s e) (numbers kind) and not (is_repeat s e)) ≡ true
  unfolding sound_image sound_directory good_entry
  entry_good e l u = or_so _ _ (all_at (good_entry kind s) (entries kind) e (and_fst _ _ (and_snd _ _ h)) l) u

  none_goes : (e : ℕ) → e < entries kind → must_go kind s e ≡ false
  unfolding must_go
  none_goes e l =
      ⊎_elim (λ (u : is_empty s e ≡ true). and_left _ _ (not_of_true _ u))
      (λ (u : is_empty s e ≡ false).
      let g = entry_good e l u in
      let new = not-true _ (and_snd _ _ (and_snd _ _ (and_snd _ _ g))) in
      and_right _ _ (not_of_false _ u) (or_none _ _ (not_of_true _ (and_fst _ _ g)) new))
      (either (is_empty s e))

  all_begun : (e : ℕ) → e < entries kind → has_first kind s e ≡ true
  unfolding sound_image sound_directory
  all_begun e l = all_at (has_first kind s) (entries kind) e (and_snd _ _ (and_snd _ _ h)) l

  none_zeroed : (e k : ℕ) → e < entries kind → k < numbers kind → is_empty s e ≡ false → must_zero kind s e k ≡ false
  unfolding must_zero
  none_zeroed e k l m u =
      let g = and_snd _ _ (entry_good e l u) in
      let range = all_at (in_range kind s e) (numbers kind) k (and_fst _ _ g) m in
      ap not (and_both _ _ range (all_at (is_first kind s e) (numbers kind) k (and_fst _ _ (and_snd _ _ g)) m))

  weeded_same : weeded kind s ≡ s
  unfolding weeded weeded_at ◌if◌else◌
  weeded_same = turns_still (weeded_at kind) s (entries kind) (λ e l. rw (none_goes e l))

  begun_same : begun kind s ≡ s
  unfolding begun begun_at ◌if◌else◌
  begun_same = turns_still (begun_at kind) s (entries kind) (λ e l. rw (all_begun e l))

  zeroed_same : (e k : ℕ) → e < entries kind → k ≤ numbers kind → is_empty s e ≡ false → zeroed_to kind e k s ≡ s
  unfolding zeroed_to zeroed_at ◌if◌else◌
  zeroed_same e k l m u = turns_still (zeroed_at kind e) s k (λ j i. rw (none_zeroed e j l (omega arith) u))

  entry_same : (e : ℕ) → e < entries kind → cleaned_at kind e s ≡ s
  unfolding cleaned_at ◌if◌else◌
  entry_same e l =
      ⊎_elim (λ (u : is_empty s e ≡ true). rw u) (λ (u : is_empty s e ≡ false). rw u (zeroed_same e (numbers kind) l (omega arith) u))
      (either (is_empty s e))

  cleaned_same : (n : ℕ) → n ≤ entries kind → cleaned_to kind n s ≡ s
  unfolding cleaned_to
  cleaned_same n m = turns_still (cleaned_at kind) s n (λ e l. entry_same e (omega arith))

  kept_same : kept kind s ≡ s
  unfolding kept
  kept_same = ap (begun kind) weeded_same ∙ begun_same

  -- "A sound image is unchanged", ..
  pub repaired_same : repaired kind s ≡ s
  unfolding repaired
  repaired_same = ap (cleaned_to kind (entries kind)) kept_same ∙ cleaned_same (entries kind) (omega arith)

  none_told : (e : ℕ) → e < entries kind → is_empty s e ≡ false → count (is_zeroed kind s e) (numbers kind) ≡ 0
  unfolding is_zeroed
  none_told e l u =
      count_zero (is_zeroed kind s e) (numbers kind)
      (any_never (is_zeroed kind s e) (numbers kind)
      (λ k m. ap (λ (t : List ℕ). must_zero kind t e k) (zeroed_same e k l (omega arith) u) ∙ none_zeroed e k l m u))

  told_none : (e : ℕ) → e < entries kind → told_at kind s e ≡ 0
  unfolding told_at told_of emptied_told ◌if◌else◌
  told_none e l =
      ap (λ (t : List ℕ). told_of kind (emptied_told s e) t e) (ap (cleaned_to kind e) kept_same ∙ cleaned_same e (omega arith))
      ∙ ⊎_elim (λ (u : is_empty s e ≡ true). rw u) (λ (u : is_empty s e ≡ false). rw u (none_told e l u)) (either (is_empty s e))

  -- .. and its report is all zeros.
  pub report_none : report_of kind s ≡ replicate (entries kind) 0
  unfolding report_of
  report_none = tab_ext (told_at kind s) none (entries kind) told_none ∙ tab_none (entries kind)

-- Salvaged twice is salvaged once, ..
pub twice_once : (kind : Kind) (s : List ℕ) → good_length kind s ≡ true → repaired kind (repaired kind s) ≡ repaired kind s
twice_once kind s h = repaired_same kind (repaired kind s) (repaired_sound kind s h)

-- .. and the second report is all zeros.
pub twice_zeros : (kind : Kind) (s : List ℕ) → good_length kind s ≡ true → report_of kind (repaired kind s) ≡ replicate (entries kind) 0
twice_zeros kind s h = report_none kind (repaired kind s) (repaired_sound kind s h)
