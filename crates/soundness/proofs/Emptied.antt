-- Places emptied, by Close, 43 and 143, leave the list sound. Assumes nothing.
use Prim.Native.Nat.{ℕ, ◌≤◌, ◌<◌}
use mathlib.Core.Path.{◌≡◌, refl, sym, ap, ◌∙◌}
use mathlib.Core.Bool.{Bool, true, false}
use mathlib.Core.List.{List, map}
use mathlib.Core.Logic.{◌⊎◌, inl, ⊎_elim}
use native.Mathlib.Omega.{arith}
use lib.ListN.{length-map}
use lib.Dec.{eqb}
use borrow.Author.Tests.{eqb-true, eq-eqb, leb-true, le-leb, ne_eqb}
use Rattle.words.specs.Tests.{◌and◌, ◌if◌else◌, all, count}
use Rattle.words.specs.Bytes.{is_zero}
use Rattle.words.proofs.Tests.{either, and_fst, and_snd, fails_too}
use Rattle.words.proofs.Counts.{count_less}
use Rattle.words.proofs.Lists.{map_at}
use Rattle.words.proofs.Sets.{and_both, and_left, not_of_false}
use Rattle.rules.specs.declared.kind.Kind.{Kind}
use Rattle.rules.specs.declared.file.File.{File}
use Rattle.rules.specs.declared.item.Item.{Item}
use Rattle.rules.specs.declared.list.LockList.{LockList}
use Rattle.rules.specs.Locks.{blank, empty_place, item_at, with_items, opens_name, is_kind_by, is_kind_by_at, opens_by, locks_by, good_empty, clash_at, keeps_limits}
use Rattle.rules.specs.Effects.{is_of_file, unless_of_file, is_in_run, unless_in_run, unless_by}
use Rattle.rules.proofs.Items.{clash_none, clash_no, open_is, name_then, name_sym}
use Rattle.rules.proofs.SoundList.{Shape, Holder, GoodLock, Used, Vacant, SoundLocks}
use Rattle.soundness.proofs.Placed.{limits_with, place_with}

empty_good : good_empty empty_place ≡ true
unfolding good_empty is_zero all ◌and◌
empty_good = refl

-- `turn` empties what `away` says, and leaves the rest
pub record Empties (away : Item → Bool) (turn : Item → Item) : Type 0 where
  -- an item that `away` says becomes an empty place, any other stays
  pub turned : (it : Item) → turn it ≡ (empty_place if away it else it)

-- an open goes only with the locks of its process on its file
pub record Whole (l : LockList) (away : Item → Bool) : Type 0 where
  -- where a lock stays, the open of its process of that name stays too
  pub with_locks : (i o : ℕ) → i < 64 → o < 64 → (item_at l i).kind ≡ 2 → opens_name (item_at l i).process (item_at l i).name (item_at l o) ≡ true
      → away (item_at l i) ≡ false → away (item_at l o) ≡ false

module _ (l : LockList) (away : Item → Bool) (turn : Item → Item) (t : Empties away turn) (h : Shape l) where
  abbrev after : LockList
  after = with_items l (map turn l.items)

  at_turn : (i : ℕ) → i < 64 → item_at after i ≡ (empty_place if away (item_at l i) else item_at l i)
  at_turn i m = map_at turn l.items i blank blank (let k = h.items_long in omega arith) ∙ t.turned (item_at l i)

  -- a place that is to be emptied is then empty, ..
  pub at_gone : (i : ℕ) → i < 64 → away (item_at l i) ≡ true → item_at after i ≡ empty_place
  unfolding ◌if◌else◌
  at_gone i m q = at_turn i m ∙ rw q refl

  -- .. any other holds what it held;
  pub at_kept : (i : ℕ) → i < 64 → away (item_at l i) ≡ false → item_at after i ≡ item_at l i
  unfolding ◌if◌else◌
  at_kept i m q = at_turn i m ∙ rw q refl

  -- the list keeps its shape, ..
  pub gone_shape : Shape after
  gone_shape = record {
    users_long = h.users_long;
    items_long = length-map l.items turn ∙ h.items_long;
    positions_long = h.positions_long;
    names_long = λ i m. ⊎_elim (λ (q : away (item_at l i) ≡ true). rw (at_gone i m q) refl)
        (λ (q : away (item_at l i) ≡ false). rw (at_kept i m q) (h.names_long i m)) (either (away (item_at l i)));
  }

  module _ (kind : Kind) (s : List ℕ) (g : SoundLocks kind l s) (whole : Whole l away) where
    holder_after : (i : ℕ) → i < 64 → away (item_at l i) ≡ false → GoodLock kind s l (item_at l i) → Holder after (item_at l i).process (item_at l i).name
    holder_after i m q o =
        let k = o.holder in
        let e = at_kept k.place k.below (whole.with_locks i k.place m k.below o.kind_two k.opens q) in
        record { place = k.place; below = k.below; opens = rw e k.opens; mode = rw e k.mode }

    place_after : (i : ℕ) → i < 64 → Vacant after i ⊎ Used kind s after i
    place_after i m =
        ⊎_elim
        (λ (q : away (item_at l i) ≡ true).
        let e = at_gone i m q in
        inl (record { kind_zero = rw e refl; zeros = rw e empty_good }))
        (λ (q : away (item_at l i) ≡ false). place_with l (map turn l.items) kind s i (at_kept i m q) (holder_after i m q) (g.place i m))
        (either (away (item_at l i)))

    apart_after : (i k : ℕ) → i < 64 → k < 64 → (i ≡ k → ⊥) → clash_at after i k ≡ false
    unfolding clash_at
    apart_after i k m n q =
        ⊎_elim
        (λ (y : away (item_at l i) ≡ true). and_left _ _ (clash_none (item_at after i) (item_at after k) (rw (at_gone i m y) refl)))
        (λ (y : away (item_at l i) ≡ false). ⊎_elim
        (λ (z : away (item_at l k) ≡ true). and_left _ _ (clash_no (item_at after i) (item_at after k) (rw (at_gone k n z) refl)))
        (λ (z : away (item_at l k) ≡ false). rw (at_kept i m y, at_kept k n z) (g.apart i k m n q))
        (either (away (item_at l k))))
        (either (away (item_at l i)))

    fewer_kind : (k p : ℕ) → (k ≡ 0 → ⊥) → count (is_kind_by_at after k p) 64 ≤ count (is_kind_by_at l k p) 64
    unfolding is_kind_by_at is_kind_by
    fewer_kind k p n = count_less (is_kind_by_at after k p) (is_kind_by_at l k p) 64 (λ i m y. ⊎_elim
        (λ (q : away (item_at l i) ≡ true).
        let z : 0 ≡ k = sym (ap (λ (x : Item). x.kind) (at_gone i m q)) ∙ eqb-true _ _ (and_fst _ _ y) in
        absurd (n (sym z)))
        (λ (q : away (item_at l i) ≡ false). rw (at_kept i m q) at y) (either (away (item_at l i))))

    keeps_after : (p : ℕ) → p < 16 → keeps_limits after p ≡ true
    unfolding keeps_limits opens_by locks_by
    keeps_after p m =
        let k = g.keeps p m in
        let a : count (is_kind_by_at l 1 p) 64 ≤ l.openlimit = leb-true _ _ (and_fst _ _ k) in
        let b : count (is_kind_by_at l 2 p) 64 ≤ l.locklimit = leb-true _ _ (and_snd _ _ k) in
        let c = fewer_kind 1 p (λ (z : 1 ≡ 0). absurd (omega arith)) in
        let d = fewer_kind 2 p (λ (z : 2 ≡ 0). absurd (omega arith)) in
        and_both _ _ (le-leb (count (is_kind_by_at after 1 p) 64) l.openlimit (omega arith))
        (le-leb (count (is_kind_by_at after 2 p) 64) l.locklimit (omega arith))

    -- .. and stays sound
    pub gone_sound : SoundLocks kind after s
    gone_sound = record {
      limits = limits_with l (map turn l.items) g.limits;
      place = place_after;
      apart = apart_after;
      keeps = keeps_after;
      next = g.next;
    }

-- ---- the three that empty

-- Close empties the places of the process's items on the file, ..
pub close_empties : (p : ℕ) (f : File) → Empties (is_of_file p f) (unless_of_file p f)
unfolding unless_of_file
close_empties p f = record { turned = λ it. refl }

-- .. 43 those of its locks in the run, ..
pub unlock_empties : (p : ℕ) (f : File) (r n : ℕ) → Empties (is_in_run p f r n) (unless_in_run p f r n)
unfolding unless_in_run
unlock_empties p f r n = record { turned = λ it. refl }

-- (an item of the process)
abbrev pub by_process : ℕ → Item → Bool
by_process p it = eqb it.process p

-- .. and 143 all of its places
pub end_empties : (p : ℕ) → Empties (by_process p) (unless_by p)
unfolding unless_by
end_empties p = record { turned = λ it. refl }

-- (a search empties none)
pub none_empties : Empties (λ (it : Item). false) (λ (it : Item). it)
unfolding ◌if◌else◌
none_empties = record { turned = λ it. refl }

-- (so no open goes without its locks)
pub none_whole : (l : LockList) → Whole l (λ (it : Item). false)
none_whole l = record { with_locks = λ i o m k two a q. refl }

-- an open goes only with its locks: by Close, ..
pub close_whole : (l : LockList) (p : ℕ) (f : File) → Whole l (is_of_file p f)
unfolding is_of_file
close_whole l p f = record {
  with_locks = λ i o m k two a q.
      let w = open_is _ _ (item_at l o) a in
      fails_too (is_of_file p f (item_at l i)) (is_of_file p f (item_at l o)) (λ (z : is_of_file p f (item_at l o) ≡ true).
      let z₁ = and_snd _ _ z in
      let b : (item_at l o).process ≡ p = eqb-true _ _ (and_fst _ _ z₁) in
      let nz : eqb (item_at l i).kind 0 ≡ false = ne_eqb _ _ (λ (y : (item_at l i).kind ≡ 0). absurd (omega arith)) in
      and_both _ _ (not_of_false _ nz) (and_both _ _ (eq-eqb (item_at l i).process p (sym w.by ∙ b))
      (name_then _ _ _ (name_sym _ _ w.named) (and_snd _ _ z₁)))) q;
}

-- .. by 43, which takes no open, ..
pub unlock_whole : (l : LockList) (p : ℕ) (f : File) (r n : ℕ) → Whole l (is_in_run p f r n)
unfolding is_in_run
unlock_whole l p f r n = record {
  with_locks = λ i o m k two a q. and_left _ _ (ne_eqb _ _ (λ (y : (item_at l o).kind ≡ 2). let w = (open_is _ _ (item_at l o) a).kind_one in
      absurd (omega arith)));
}

-- .. and by 143
pub end_whole : (l : LockList) (p : ℕ) → Whole l (by_process p)
end_whole l p = record {
  with_locks = λ i o m k two a q. rw (open_is _ _ (item_at l o) a).by q;
}
