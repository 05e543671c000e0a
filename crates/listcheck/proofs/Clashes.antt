-- Items apart: those that clash have the same slot. Assumes nothing.
use Rattle.std.proofs.Common.{◌≡◌, ℕ, ◌+◌, ◌≤◌, ◌<◌, Bool, true, false, true≢false, not, List, get_or, replicate, eqb, sym, ap, refl, ◌∙◌, ⊎_elim, arith, rules, eq-eqb, ne_eqb, eqb-true}
use Rattle.words.specs.Tests.{◌and◌, ◌if◌else◌, all, any}
use Rattle.words.specs.Hints.{Hints, Noted}
use Rattle.words.proofs.Tests.{either, never, and_fst, and_snd, or_so, all_none, all_more, all_at, any_never, any_found}
use Rattle.words.proofs.Sets.{answers, and_left, or_none, not_of_false, not_of_true, any_goes}
use Rattle.words.proofs.Hints.{hints_none, hints_skip, hints_more, hints_below}
use Rattle.rules.specs.declared.item.Item.{Item}
use Rattle.rules.specs.declared.list.LockList.{LockList}
use Rattle.rules.specs.Locks.{item_at, unpack, stand_beside, clash, clash_at, is_apart}
use Rattle.locklist.specs.Places.{Unused}
use Rattle.index.proofs.Slots.{slot_same}
use Rattle.listcheck.specs.Check.{lock_number, item_slot, item_slot_at, is_item}
use Rattle.listcheck.proofs.Checks.{empty_up}

-- ---- items that do not clash

clash_empty : (a b : Item) → a.kind ≡ 0 → clash a b ≡ false
unfolding clash
clash_empty a b h =
    or_none _ _ (and_left _ _ (ne_eqb a.kind 1 (λ q. absurd (omega arith)))) (and_left _ _ (ne_eqb a.kind 2 (λ q. absurd (omega arith))))

-- two tests for different kinds
kinds_apart : (m n k : ℕ) → (n ≡ m → ⊥) → (eqb m k and eqb n k) ≡ false
unfolding ◌and◌
kinds_apart m n k h = ⊎_elim
    (λ (y : eqb m k ≡ true). rw y (ne_eqb n k (λ q. h (q ∙ sym (eqb-true m k y)))))
    (λ (y : eqb m k ≡ false). rw y)
    (either (eqb m k))

join_three : (x y z : Bool) → (x and y) ≡ false → (x and y and z) ≡ false
unfolding ◌and◌
join_three true true z h = absurd (true≢false h)
join_three true false z h = refl
join_three false y z h = refl

clash-not : (l : LockList) (i j : ℕ) → ((item_at l j).kind ≡ (item_at l i).kind → ⊥) → clash_at l i j ≡ false
unfolding clash_at clash
clash-not l i j h =
    let m = (item_at l i).kind in
    let n = (item_at l j).kind in
    and_left _ _ (or_none _ _ (join_three _ _ _ (kinds_apart m n 1 h)) (join_three _ _ _ (kinds_apart m n 2 h)))

-- ---- the slot of items that clash

number_open : (it : Item) → it.kind ≡ 1 → lock_number it ≡ 0
unfolding lock_number ◌if◌else◌
number_open it h = rw (ne_eqb it.kind 2 (λ q. absurd (let z : 1 ≡ 2 = sym h ∙ q in omega arith)))

number_lock : (it : Item) → it.kind ≡ 2 → lock_number it ≡ it.number
unfolding lock_number ◌if◌else◌
number_lock it h = rw (eq-eqb it.kind 2 h)

numbers_same : (a b : Item) → clash a b ≡ true → lock_number a ≡ lock_number b
unfolding clash
numbers_same a b h =
    ⊎_elim
    (λ (y : (eqb a.kind 1 and eqb b.kind 1 and not (stand_beside a b)) ≡ true).
    number_open a (eqb-true _ _ (and_fst _ _ y)) ∙ sym (number_open b (eqb-true _ _ (and_fst _ _ (and_snd _ _ y)))))
    (λ (n : (eqb a.kind 1 and eqb b.kind 1 and not (stand_beside a b)) ≡ false).
    let y = or_so _ _ h n in
    number_lock a (eqb-true _ _ (and_fst _ _ y)) ∙ eqb-true _ _ (and_snd _ _ (and_snd _ _ y))
    ∙ sym (number_lock b (eqb-true _ _ (and_fst _ _ (and_snd _ _ y)))))
    (either (eqb a.kind 1 and eqb b.kind 1 and not (stand_beside a b)))

clash_slot : (l : LockList) (i j : ℕ) → clash_at l i j ≡ true → item_slot_at l j ≡ item_slot_at l i
unfolding clash_at item_slot_at item_slot
clash_slot l i j h = sym (slot_same _ _ _ _ (and_snd _ _ h) (numbers_same (item_at l i) (item_at l j) (and_fst _ _ h)))

clash_item : (l : LockList) (i j : ℕ) → ((item_at l i).kind ≡ 0 → ⊥) → clash_at l i j ≡ true → is_item l j ≡ true
unfolding is_item
clash_item l i j n h = not_of_false _ (ne_eqb _ _ (λ z. never h (clash-not l i j (λ q. n (sym q ∙ z)))))

-- ---- a walk over the places

module _ (l : LockList) where
  pub items_none : (v : ℕ) → Hints (item_slot_at l) (is_item l) 0 (replicate 256 v)
  items_none v = hints_none (item_slot_at l) (is_item l) v

  module _ (i : ℕ) where
    -- no item there
    pub apart_empty : (item_at l i).kind ≡ 0 → true ≡ is_apart l i
    unfolding is_apart clash_at
    apart_empty k = sym (not_of_false _ (any_never (clash_at l i) i (λ j m. and_left _ _ (clash_empty (item_at l i) (item_at l j) k))))

    pub apart_yes : (j : ℕ) → any (clash_at l i) j ≡ false → i ≤ j → j ≤ i → true ≡ is_apart l i
    unfolding is_apart
    apart_yes j h g k = let q : j ≡ i = omega arith in sym (not_of_false _ (rw q at h))

    pub apart_no : (j : ℕ) → j < i → clash_at l i j ≡ true → false ≡ is_apart l i
    unfolding is_apart
    apart_no j k y = sym (not_of_true _ (any_found (clash_at l i) i j k y))

    module _ (hints : List ℕ) (k : Hints (item_slot_at l) (is_item l) i hints) where
      pub items_skip : (item_at l i).kind ≡ 0 → Hints (item_slot_at l) (is_item l) (i + 1) hints
      unfolding is_item
      items_skip h = hints_skip (item_slot_at l) (is_item l) i hints k (rw h)

      pub items_more : (h : ℕ) (after : List ℕ) → h ≡ item_slot_at l i → Noted h i hints after → Hints (item_slot_at l) (is_item l) (i + 1) after
      items_more h after is w = hints_more (item_slot_at l) (is_item l) i h hints after k is w

      -- below the hint of its slot no item clashes with it
      pub clash_none : (h r : ℕ) → h ≡ item_slot_at l i → ((item_at l i).kind ≡ 0 → ⊥) → r ≤ i → r ≤ get_or hints h 0 → any (clash_at l i) r ≡ false
      clash_none h r is used m g =
          hints_below (item_slot_at l) (is_item l) (clash_at l i) i h r hints k m g
          (λ d y. (clash_item l i d used y, clash_slot l i d y ∙ sym is))

pub ruleset apart_ones = (rules, answers, any_goes, apart_empty, apart_yes, apart_no, items_skip, items_more, clash_none)

-- ---- all of them

pub apart_up : (s : List ℕ) (n i : ℕ) → Unused s n → n ≤ i → all (is_apart (unpack s)) i ≡ true → true ≡ all (is_apart (unpack s)) 64
apart_up s n i u g h =
    empty_up s n i u g (is_apart (unpack s)) (λ k e. sym (apart_empty (unpack s) k (ap (λ (x : Item). x.kind) e))) h

pub has_apart_at : (l : LockList) (i : ℕ) → all (is_apart l) 64 ≡ true → i < 64 → is_apart l i ≡ true
has_apart_at l i h m = all_at (is_apart l) 64 i h m

pub ruleset aparts = (rules, answers, all_none, all_more, has_apart_at, items_none, apart_up)
