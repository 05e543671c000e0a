-- The items that the history holds and the free places add up to the capacity. Assumes nothing.
use Prim.Native.Nat.{ℕ, zero, suc, ◌+◌, ◌≤◌, ◌<◌}
use mathlib.Core.Path.{◌≡◌, refl, sym, ◌∙◌}
use mathlib.Core.Bool.{Bool, true, false}
use mathlib.Core.List.{List}
use mathlib.Core.Logic.{◌⊎◌, inl, inr, ⊎_elim}
use native.Mathlib.Omega.{arith}
use lib.ListN.{length}
use lib.Dec.{eqb}
use borrow.Author.Tests.{eq-eqb, ne_eqb, leb-true}
use Rattle.words.specs.Tests.{◌and◌, ◌if◌else◌, count, sum_below}
use Rattle.words.proofs.Tests.{and_fst}
use Rattle.words.proofs.Sets.{and_left, not_of_true}
use Rattle.words.proofs.Counts.{count_up}
use Rattle.words.proofs.Sums.{sum_ext, sum_add, sum_none, sum_one}
use Rattle.rules.specs.declared.kind.Kind.{Kind}
use Rattle.rules.specs.declared.item.Item.{Item}
use Rattle.rules.specs.declared.list.LockList.{LockList}
use Rattle.rules.specs.Locks.{item_at, is_kind_by, is_kind_by_at, opens_by, locks_by, is_empty_at, free_places}
use Rattle.rules.proofs.SoundList.{GoodOpen, GoodLock, Used, Vacant, SoundLocks, is_plain, capacity_fits}
use Rattle.history.specs.Demands.{AddUp, items_by}
use Rattle.history.proofs.Tallied.{Tally, OfItems, passes_at}
use Rattle.history.proofs.Solid.{Solid, is_item, split, empty_or_not}

abbrev bit : Bool → ℕ
bit t = 1 if t else 0

kinds : (k p : ℕ) → (k ≡ 0 → ⊥) → OfItems (is_kind_by k p)
unfolding is_kind_by
kinds k p n = record { not_empty = λ it z. and_left _ _ (ne_eqb it.kind k (λ q. n (sym q ∙ z))) }

items : OfItems is_item
unfolding is_item
items = record { not_empty = λ it z. not_of_true _ (eq-eqb it.kind 0 z) }

-- ---- an item is an open or a lock of one process

module _ (it : Item) where
  one_kind : (k q : ℕ) → it.kind ≡ k → it.process ≡ q → (p : ℕ) → is_kind_by k p it ≡ eqb q p
  unfolding is_kind_by ◌and◌
  one_kind k q e d p = rw (e, eq-eqb k k refl, d) refl

  other_kind : (k : ℕ) → (it.kind ≡ k → ⊥) → (p : ℕ) → is_kind_by k p it ≡ false
  unfolding is_kind_by
  other_kind k n p = and_left _ _ (ne_eqb it.kind k n)

  item_sum : (it.kind ≡ 1) ⊎ (it.kind ≡ 2) → it.process < 16 → sum_below (λ (p : ℕ). bit (is_kind_by 1 p it) + bit (is_kind_by 2 p it)) 16 ≡ 1
  unfolding ◌if◌else◌
  item_sum c m =
      ⊎_elim
      (λ (e : it.kind ≡ 1).
      sum_ext _ (λ (p : ℕ). 1 if eqb it.process p else 0) 16
      (λ p. rw (one_kind 1 it.process e refl p, other_kind 2 (λ (z : it.kind ≡ 2). absurd (omega arith)) p) (omega arith))
      ∙ sum_one it.process 16 m)
      (λ (e : it.kind ≡ 2).
      sum_ext _ (λ (p : ℕ). 1 if eqb it.process p else 0) 16
      (λ p. rw (one_kind 2 it.process e refl p, other_kind 1 (λ (z : it.kind ≡ 1). absurd (omega arith)) p) (omega arith))
      ∙ sum_one it.process 16 m) c

  no_sum : it.kind ≡ 0 → sum_below (λ (p : ℕ). bit (is_kind_by 1 p it) + bit (is_kind_by 2 p it)) 16 ≡ 0
  unfolding ◌if◌else◌
  no_sum e =
      sum_ext _ (λ (p : ℕ). 0) 16 (λ p. rw (
        other_kind 1 (λ (z : it.kind ≡ 1). absurd (omega arith)) p,
        other_kind 2
            (λ (z : it.kind ≡ 2). absurd (omega arith)) p,
      ) (omega arith))
      ∙ sum_none 16

module _ (kind : Kind) (l : LockList) (s : List ℕ) (g : SoundLocks kind l s) where
  place_sum : (i : ℕ) → i < 64 → sum_below (λ (p : ℕ). bit (is_kind_by 1 p (item_at l i)) + bit (is_kind_by 2 p (item_at l i))) 16 ≡ bit (passes_at is_item l i)
  unfolding passes_at is_item is_plain ◌if◌else◌
  place_sum i m =
      ⊎_elim
      (λ (v : Vacant l i). no_sum (item_at l i) v.kind_zero ∙ rw (eq-eqb (item_at l i).kind 0 v.kind_zero) refl)
      (λ (v : Used kind s l i).
      let q : (item_at l i).process ≤ 15 = leb-true _ _ (and_fst _ _ v.plain) in
      let c : ((item_at l i).kind ≡ 1) ⊎ ((item_at l i).kind ≡ 2) =
      ⊎_elim (λ (o : GoodOpen kind s l (item_at l i)). inl o.kind_one) (λ (o : GoodLock kind s l (item_at l i)). inr o.kind_two) v.good in
      let n : eqb (item_at l i).kind 0 ≡ false = ne_eqb _ _ (λ (z : (item_at l i).kind ≡ 0). ⊎_elim (λ (e : (item_at l i).kind ≡ 1). absurd (omega arith))
      (λ (e : (item_at l i).kind ≡ 2). absurd (omega arith)) c) in
      item_sum (item_at l i) c (omega arith) ∙ rw n refl)
      (g.place i m)

  -- the sum over the processes of the opens and locks in the first n places
  places_sum : (n : ℕ) → n ≤ 64 → sum_below (λ (p : ℕ). count (is_kind_by_at l 1 p) n + count (is_kind_by_at l 2 p) n) 16 ≡ count (passes_at is_item l) n
  unfolding count is_kind_by_at
  places_sum zero m = sum_none 16
  places_sum (suc n) m =
      let k = places_sum n (omega arith) in
      let j = place_sum n (omega arith) in
      sum_ext _ (λ (p : ℕ). (count (is_kind_by_at l 1 p) n + count (is_kind_by_at l 2 p) n) + (bit (is_kind_by 1 p (item_at l n)) + bit (is_kind_by 2 p (item_at l n)))) 16
      (λ p. omega arith)
      ∙ sum_add (λ (p : ℕ). count (is_kind_by_at l 1 p) n + count (is_kind_by_at l 2 p) n)
      (λ (p : ℕ). bit (is_kind_by 1 p (item_at l n)) + bit (is_kind_by 2 p (item_at l n))) 16
      ∙ omega arith

  beyond_empty : (i : ℕ) → l.capacity ≤ i → i < 64 → is_empty_at l i ≡ true
  unfolding is_empty_at
  beyond_empty i m n =
      ⊎_elim (λ (v : Vacant l i). eq-eqb _ _ v.kind_zero) (λ (v : Used kind s l i). let k = v.below in absurd (omega arith)) (g.place i n)

  module _ (held : List Item) (t : Tally l held) (w : Solid held) where
    held_many : length held ≡ count (passes_at is_item l) 64
    held_many = let a = split held in let b = w.none in let c = t.as_many is_item items in omega arith

    -- what is held and what is free add up, and what is held is the sum over the processes
    pub adds_up : AddUp l.capacity l held
    unfolding free_places opens_by locks_by items_by passes_at is_item is_kind_by_at is_empty_at
    adds_up = record {
      adds =
          let a = held_many in
          let b = count_up (passes_at is_item l) l.capacity 64 (capacity_fits l g.limits) (λ i m n. not_of_true _ (beyond_empty i m n)) in
          let c = empty_or_not l l.capacity in
          omega arith;
      beyond = beyond_empty;
      opens-by = λ p. t.as_many (is_kind_by 1 p) (kinds 1 p (λ (z : 1 ≡ 0). absurd (omega arith)));
      locks-by = λ p. t.as_many (is_kind_by 2 p) (kinds 2 p (λ (z : 2 ≡ 0). absurd (omega arith)));
      sum = held_many ∙ sym (places_sum 64 (omega arith));
    }
