-- Laws of the places of a list's bytes: the item in each, and those that are not used. Assumes nothing.
use Rattle.std.proofs.Common.{ℕ, ◌+◌, ◌-◌, ◌*◌, ◌/◌, ◌≤◌, ◌<◌, ◌≡◌, refl, sym, ap, ◌∙◌, Bool, true, false, not, List, length, take, drop, replicate, ltb, ⊎_elim, arith, rules, ltb-true, ltb-false, eq-eqb, eqb-true}
use Rattle.words.specs.Tests.{◌and◌, ◌if◌else◌, all}
use Rattle.words.specs.Lists.{tab}
use Rattle.words.specs.Bytes.{byte, byte_from, is_zero, part}
use Rattle.words.proofs.Tests.{either, all_at}
use Rattle.words.proofs.Sets.{not_yes}
use Rattle.words.proofs.Lists.{tab_at, tab_same}
use Rattle.words.proofs.Bytes.{part-byte, part_long}
use Rattle.rules.specs.declared.item.Item.{Item}
use Rattle.rules.specs.Locks.{blank, empty_place, item_at, item_from, item_in, kind_of, place_at, unpack, zero_at}
use Rattle.locklist.specs.Places.{Unused}

module _ (s : List ℕ) where
  -- ---- the item in a place

  -- its part of the list says it
  pub item_from_lem : (i : ℕ) (r : Item) → r ≡ item_from (take (19 + 20 * i + 20 - (19 + 20 * i)) (drop (19 + 20 * i) s)) → r ≡ item_in s i
  unfolding item_in
  item_from_lem i r h = let q : 19 + 20 * i + 20 - (19 + 20 * i) ≡ 20 = omega arith in rw q at h

  pub item_in_lem : (i : ℕ) → i < 64 → item_at (unpack s) i ≡ item_in s i
  unfolding unpack
  item_in_lem i h = tab_at (item_in s) 64 i blank h

  pub item_as : (i : ℕ) (r : Item) → i < 64 → r ≡ item_from (take (19 + 20 * i + 20 - (19 + 20 * i)) (drop (19 + 20 * i) s)) → r ≡ item_at (unpack s) i
  item_as i r h e = item_from_lem i r e ∙ sym (item_in_lem i h)

  -- ---- places that are not used

  pub unused_none : Unused s 64
  unused_none = record { within = omega arith; zero = λ k l h. absurd (omega arith) }

  -- the upper half of the others is zeros too
  pub unused_half : (n : ℕ) (r : Bool) → length s ≡ 1316 → Unused s n
      → r ≡ all (is_zero (take (19 + 20 * n - (19 + 20 * (n / 2))) (drop (19 + 20 * (n / 2)) s)))
      (length (take (19 + 20 * n - (19 + 20 * (n / 2))) (drop (19 + 20 * (n / 2)) s)))
      → not r ≡ false → Unused s (n / 2)
  unfolding is_zero
  unused_half n r long u e h =
      let at = 19 + 20 * (n / 2) in
      let w = 19 + 20 * n - at in
      let half : n / 2 ≤ n = omega arith in
      let m : length (part at w s) ≡ w = part_long s at w (omega (arith, u.within)) in
      record {
        within = omega (arith, u.within);
        zero = λ k l g. ⊎_elim
            (λ (q : ltb k (19 + 20 * n) ≡ true).
            let b = ltb-true k (19 + 20 * n) q in
            let z : k - at < w = omega arith in
            let back : at + (k - at) ≡ k = omega arith in
            ap (byte s) (sym back) ∙ sym (part-byte s at w (k - at) z)
            ∙ eqb-true _ _ (all_at (is_zero (part at w s)) (length (part at w s)) (k - at) (not_yes r _ e h) (omega arith)))
            (λ (q : ltb k (19 + 20 * n) ≡ false). u.zero k (ltb-false k (19 + 20 * n) q) g)
            (either (ltb k (19 + 20 * n)));
      }

  module _ (n i : ℕ) (u : Unused s n) (m : n ≤ i) (h : i < 64) where
    nothing : (j : ℕ) → j < 20 → byte (part (place_at i) 20 s) j ≡ 0
    nothing j l = part-byte s (19 + 20 * i) 20 j l ∙ u.zero (19 + 20 * i + j) (omega arith) (omega arith)

    -- the empty place, ..
    pub unused_in : item_in s i ≡ empty_place
    unfolding item_in item_from kind_of ◌if◌else◌ ◌and◌
    unused_in =
        let b = part (place_at i) 20 s in
        let name : tab (byte_from b 3) 11 ≡ replicate 11 0 = sym (tab_same (byte_from b 3) 11 0 (λ k l. nothing (3 + k) (omega arith))) in
        rw (
          nothing 0 (omega arith),
          nothing 1 (omega arith),
          nothing 2 (omega arith),
          name,
          nothing 14 (omega arith),
          nothing 16 (omega arith),
          nothing 17 (omega arith),
          nothing 18 (omega arith),
          nothing 19 (omega arith),
        ) refl

    pub unused_item : item_at (unpack s) i ≡ empty_place
    unused_item = item_in_lem i h ∙ unused_in

    -- .. with its zero
    pub unused_zero : zero_at s i ≡ true
    unfolding zero_at
    unused_zero = eq-eqb _ 0 (nothing 15 (omega arith))

pub ruleset halving = (rules, unused_none, unused_half)
