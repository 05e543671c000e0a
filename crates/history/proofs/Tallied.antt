-- The list's places against the items held: as many pass any test. Assumes nothing.
use Prim.Native.Nat.{ℕ, ◌+◌, ◌<◌}
use mathlib.Core.Path.{◌≡◌, refl, sym, ap, ◌∙◌}
use mathlib.Core.Bool.{Bool, true, false, not}
use mathlib.Core.List.{List, ◌∷◌, map}
use mathlib.Core.Logic.{⊎_elim}
use lib.ListN.{set}
use borrow.Author.Tests.{ne_eqb}
use Rattle.words.specs.Tests.{◌and◌, ◌if◌else◌, count}
use Rattle.words.proofs.Tests.{either, any_found, any_some, any_never}
use Rattle.words.proofs.Counts.{count_ext, count_zero, any_count, count_any, count_set}
use Rattle.words.proofs.Sets.{and_left, and_last}
use Rattle.words.specs.Lists.{tally, without}
use Rattle.rules.specs.declared.item.Item.{Item}
use Rattle.rules.specs.declared.list.LockList.{LockList}
use Rattle.rules.specs.Locks.{item_at, with_items, with_positions, empty_place}
use Rattle.rules.proofs.SoundList.{Shape}
use Rattle.soundness.proofs.Placed.{at_here, at_other}
use Rattle.soundness.proofs.Emptied.{Empties, at_gone, at_kept}
use Rattle.history.specs.Held.{same_item, is_among}
use Rattle.words.proofs.Tallies.{tally-without}
use Rattle.history.proofs.Items.{among_so, among_not, among_tally}

-- a test that no empty place passes
pub record OfItems (test : Item → Bool) : Type 0 where
  -- an item of the empty kind does not pass
  pub not_empty : (it : Item) → it.kind ≡ 0 → test it ≡ false

-- the item at place i passes
unfoldable pub passes_at : (Item → Bool) → LockList → ℕ → Bool
passes_at test l i = test (item_at l i)

-- as many in the list pass as of those held
pub record Tally (l : LockList) (g : List Item) : Type 0 where
  -- the places whose item passes are as many as the items held that pass, for each such test
  pub as_many : (test : Item → Bool) → OfItems test → count (passes_at test l) 64 ≡ tally test g

-- a list with other positions has the same items
pub tally_moved : (l : LockList) (xs : List ℕ) (g : List Item) → Tally l g → Tally (with_positions l xs) g
unfolding passes_at
tally_moved l xs g t = record { as_many = t.as_many }

-- ---- the same item

-- being the same as an item is such a test
pub same_items : (x : Item) → (x.kind ≡ 0 → ⊥) → OfItems (same_item x)
unfolding same_item
same_items x n = record { not_empty = λ it z. and_left _ _ (ne_eqb x.kind it.kind (λ q. n (q ∙ z))) }

module _ (l : LockList) (g : List Item) (t : Tally l g) (x : Item) (n : x.kind ≡ 0 → ⊥) where
  -- an item that stands in the list is among those held, ..
  pub held_listed : (i : ℕ) → i < 64 → same_item x (item_at l i) ≡ true → is_among x g ≡ true
  unfolding passes_at
  held_listed i m h =
      let k = any_count (passes_at (same_item x) l) 64 (any_found (passes_at (same_item x) l) 64 i m h) in
      among_so x g (rw (t.as_many (same_item x) (same_items x n)) at k)

  -- .. one that does not is not, ..
  pub not_held : ((i : ℕ) → i < 64 → same_item x (item_at l i) ≡ false) → is_among x g ≡ false
  unfolding passes_at
  not_held h =
      let k = count_zero (passes_at (same_item x) l) 64 (any_never (passes_at (same_item x) l) 64 h) in
      among_not x g (sym (t.as_many (same_item x) (same_items x n)) ∙ k)

  -- .. and one that is among them stands there
  pub listed_held : is_among x g ≡ true → (i : ℕ) × (i < 64) × (same_item x (item_at l i) ≡ true)
  unfolding passes_at
  listed_held h =
      let k = among_tally x g h in
      any_some (passes_at (same_item x) l) 64 (count_any (passes_at (same_item x) l) 64 (rw (t.as_many (same_item x) (same_items x n)) k))

-- ---- one place set

module _ (l : LockList) (j : ℕ) (it : Item) (h : Shape l) (inside : j < 64) (empty : (item_at l j).kind ≡ 0) (g : List Item) (t : Tally l g) where
  -- an item put into an empty place is one more that is held
  pub tally-set : Tally (with_items l (set l.items j it)) (it ∷ g)
  unfolding passes_at tally
  tally-set = record {
    as_many = λ test w.
        let now = with_items l (set l.items j it) in
        let k = count_set (passes_at test l) (passes_at test now) j 64 inside (w.not_empty (item_at l j) empty)
        (λ i m q. ap test (at_other l j it h inside i q)) in
        let e : test (item_at now j) ≡ test it = ap test (at_here l j it h inside) in
        k ∙ ap (λ (n : ℕ). n + (1 if test (item_at now j) else 0)) (t.as_many test w) ∙ ap (λ (b : Bool). tally test g + (1 if b else 0)) e;
  }

-- ---- places emptied

module _ (l : LockList) (away : Item → Bool) (turn : Item → Item) (e : Empties away turn) (h : Shape l) (g : List Item) (t : Tally l g) where
  -- items whose places are emptied are held no more
  pub tally_gone : Tally (with_items l (map turn l.items)) (without away g)
  unfolding passes_at ◌and◌
  tally_gone = record {
    as_many = λ test w.
        let now = with_items l (map turn l.items) in
        let stays : Item → Bool = λ (it : Item). test it and not (away it) in
        let v : OfItems stays = record { not_empty = λ it z. rw (w.not_empty it z) refl } in
        let k : count (passes_at test now) 64 ≡ count (passes_at stays l) 64 =
        count_ext (passes_at test now) (passes_at stays l) 64 (λ i m. ⊎_elim
        (λ (q : away (item_at l i) ≡ true). ap test (at_gone l away turn e h i m q) ∙ w.not_empty empty_place refl
        ∙ sym (and_last (test (item_at l i)) (not (away (item_at l i))) (rw q refl)))
        (λ (q : away (item_at l i) ≡ false). ap test (at_kept l away turn e h i m q) ∙ sym (and_true (test (item_at l i)) (not (away (item_at l i))) (rw q refl)))
        (either (away (item_at l i)))) in
        k ∙ t.as_many stays v ∙ sym (tally-without test away g);
  }
    where
      and_true : (x y : Bool) → y ≡ true → (x and y) ≡ x
      and_true true y q = q
      and_true false y q = refl

  -- where none goes, none is taken back
  pub tally_idle : ((i : ℕ) → i < 64 → away (item_at l i) ≡ false) → Tally l (without away g)
  unfolding passes_at
  tally_idle none = record {
    as_many = λ test w.
        let now = with_items l (map turn l.items) in
        count_ext (passes_at test l) (passes_at test now) 64 (λ i m. sym (ap test (at_kept l away turn e h i m (none i m)))) ∙ tally_gone.as_many test w;
  }
