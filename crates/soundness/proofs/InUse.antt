-- As many blocks are in use as block numbers stand in the maps. Assumes nothing.
use Prim.Native.Nat.{ℕ, zero, suc, ◌+◌, ◌*◌, ◌/◌, ◌%◌, ◌≤◌, ◌<◌}
use mathlib.Core.Path.{◌≡◌, refl, sym, ap, ◌∙◌}
use mathlib.Core.Bool.{Bool, true, false}
use mathlib.Core.List.{List}
use mathlib.Core.Logic.{⊎_elim}
use native.Mathlib.Omega.{arith}
use lib.Dec.{eqb, leb}
use borrow.Author.Tests.{eqb-true, eq-eqb, ne_eqb, le-leb, leb-true, not-true}
use Rattle.words.specs.Tests.{◌and◌, ◌or◌, any, count}
use Rattle.words.proofs.Tests.{either, and_fst, and_snd, and_false, any_found, any_some, any_never, same_test}
use Rattle.words.proofs.Counts.{count_ext, count_one, count_yes, count_not, count_zero}
use Rattle.words.proofs.Sets.{and_both, and_left, and_last, not_of_false, count_none}
use Rattle.rules.specs.declared.kind.Kind.{Kind}
use Rattle.rules.specs.Kinds.{entries, numbers}
use Rattle.rules.specs.Drive.{blocks, map_number, holds_number, names_block, is_used, is_numbered, is_in_use, blocks_in_use, all_numbers}
use Rattle.rules.proofs.Sizes.{flat_entry, flat_place, flat_both, flat_below}
use Rattle.rules.proofs.Sound.{Names, SoundImage}
use Rattle.soundness.proofs.Blocks.{numbered_names, names_flat}

-- ---- numbers m i below n, no two the same: each number is met once

module _ (m : ℕ → ℕ) (t : ℕ → Bool) (n : ℕ) (top : ℕ) where
  -- b stands at one of the first k places
  met : ℕ → ℕ → Bool
  met k b = any (λ (i : ℕ). t i and eqb (m i) b) k

  module _ (range : (i : ℕ) → i < top → t i ≡ true → (2 ≤ m i) × (m i < n))
      (once : (i j : ℕ) → i < top → j < top → t i ≡ true → t j ≡ true → m i ≡ m j → i ≡ j) where
    meets : (k : ℕ) → k ≤ top → count (λ (b : ℕ). leb 2 b and met k b) n ≡ count t k
    unfolding met any
    meets zero s = count_zero _ n (any_never _ n (λ b l. and_false (leb 2 b))) ∙ count_none t
    meets (suc k) s =
        let z = meets k (omega arith) in
        let below : k < top = omega arith in
        ⊎_elim
        (λ (q : t k ≡ true).
        let w = range k below q in
        let a = m k in
        let fresh : (leb 2 a and met k a) ≡ false = absent k a (λ i l. ⊎_elim
        (λ (d : (t i and eqb (m i) a) ≡ true).
        let e : i ≡ k = once i k (omega arith) below (and_fst _ _ d) q (eqb-true _ _ (and_snd _ _ d)) in absurd (omega arith)) (λ d. d)
        (either (t i and eqb (m i) a))) in
        let here : (leb 2 a and met (suc k) a) ≡ true = and_both _ _ (le-leb 2 a w.0)
        (any_found (λ (i : ℕ). t i and eqb (m i) a) (suc k) k (omega arith) (and_both _ _ q (eq-eqb a a refl))) in
        count_one (λ (b : ℕ). leb 2 b and met k b) (λ (b : ℕ). leb 2 b and met (suc k) b) a n w.1 fresh here
        (λ b l y. ap (λ (x : Bool). leb 2 b and x) (skip (met k b) (t k and eqb (m k) b) (and_last (t k) (eqb (m k) b) (ne_eqb (m k) b (λ d. y (sym d))))))
        ∙ ap (λ (x : ℕ). x + 1) z ∙ sym (count_yes t k q))
        (λ (q : t k ≡ false).
        count_ext (λ (b : ℕ). leb 2 b and met (suc k) b) (λ (b : ℕ). leb 2 b and met k b) n
        (λ b l. ap (λ (x : Bool). leb 2 b and x) (skip (met k b) (t k and eqb (m k) b) (and_left _ _ q)))
        ∙ z ∙ sym (count_not t k q))
        (either (t k))
      where
        skip : (x y : Bool) → y ≡ false → (x or y) ≡ x
        skip true y e = unfold ◌or◌ in refl
        skip false y e = unfold ◌or◌ in e

        absent : (k a : ℕ) → ((i : ℕ) → i < k → (t i and eqb (m i) a) ≡ false) → (leb 2 a and met k a) ≡ false
        absent k a h = and_last (leb 2 a) (met k a) (any_never (λ (i : ℕ). t i and eqb (m i) a) k h)

-- ---- the numbers in the maps of a sound image

module _ (kind : Kind) (s : List ℕ) (g : SoundImage kind s) where
  abbrev number : ℕ → ℕ
  number i = map_number kind s (i / numbers kind) (i % numbers kind)

  used_met : (b : ℕ) → 2 ≤ b → is_used kind s b ≡ met number (is_numbered kind s) (blocks kind s) (all_numbers kind) (all_numbers kind) b
  unfolding is_used names_block holds_number met is_numbered
  used_met b l = same_test _ _
      (λ h.
      let e = any_some (names_block kind s b) (entries kind) h in
      let k = any_some (holds_number kind s b e.0) (numbers kind) (and_snd _ _ e.2) in
      let q : map_number kind s e.0 k.0 ≡ b = eqb-true _ _ k.2 in
      let m : e.0 < entries kind = e.1 in
      let j : k.0 < numbers kind = k.1 in
      let n : Names kind s e.0 k.0 =
      record {
        entry_there = m;
        place_there = j;
        entry_used = not-true _ (and_fst _ _ e.2);
        some = λ (z : map_number kind s e.0 k.0 ≡ 0). absurd (omega arith);
      } in
      any_found (λ (i : ℕ). is_numbered kind s i and eqb (number i) b) (all_numbers kind) (numbers kind * e.0 + k.0) (flat_below kind e.0 k.0 m j)
      (and_both _ _ (names_flat kind s e.0 k.0 n) (rw (flat_entry kind e.0 k.0 j, flat_place kind e.0 k.0 j) k.2)))
      (λ h.
      let w = any_some (λ (i : ℕ). is_numbered kind s i and eqb (number i) b) (all_numbers kind) h in
      let n = numbered_names kind s w.0 w.1 (and_fst _ _ w.2) in
      any_found (names_block kind s b) (entries kind) (w.0 / numbers kind) n.entry_there
      (and_both _ _ (not_of_false _ n.entry_used)
      (any_found (holds_number kind s b (w.0 / numbers kind)) (numbers kind) (w.0 % numbers kind) n.place_there (and_snd _ _ w.2))))

  -- the blocks in use are as many as the places of the maps that hold a number
  pub in_use : blocks_in_use kind s ≡ count (is_numbered kind s) (all_numbers kind)
  unfolding blocks_in_use is_in_use
  in_use =
      count_ext (is_in_use kind s) (λ (b : ℕ). leb 2 b and met number (is_numbered kind s) (blocks kind s) (all_numbers kind) (all_numbers kind) b) (blocks kind s)
      (λ b l. ⊎_elim
      (λ (q : leb 2 b ≡ true). ap (λ (x : Bool). leb 2 b and x) (used_met b (leb-true 2 b q)))
      (λ (q : leb 2 b ≡ false). and_left _ _ q ∙ sym (and_left _ _ q)) (either (leb 2 b)))
      ∙ meets number (is_numbered kind s) (blocks kind s) (all_numbers kind)
      (λ i l q. g.maps.range (i / numbers kind) (i % numbers kind) (numbered_names kind s i l q))
      (λ i j k l p q e.
      let w = g.maps.once (i / numbers kind) (i % numbers kind) (j / numbers kind) (j % numbers kind) (numbered_names kind s i k p)
      (numbered_names kind s j l q) e in
      sym (flat_both kind i) ∙ ap (λ (x : ℕ). numbers kind * x + i % numbers kind) w.0
      ∙ ap (λ (x : ℕ). numbers kind * (j / numbers kind) + x) w.1 ∙ flat_both kind j)
      (all_numbers kind) (omega arith)
