-- One empty place set to an item that fits leaves the list sound. Assumes nothing.
use Prim.Native.Nat.{ℕ, ◌+◌, ◌<◌}
use mathlib.Core.Path.{◌≡◌, refl, sym, ap, subst, ◌∙◌}
use mathlib.Core.Bool.{true, false}
use mathlib.Core.List.{List}
use mathlib.Core.Logic.{◌⊎◌, inl, inr, ⊎_elim}
use native.Mathlib.Omega.{arith}
use lib.ListN.{length, set, length-set}
use lib.Seq.{get_or-set_same, get_or-set_other}
use borrow.Author.Tests.{eqb-true, ne_eqb, le-leb}
use Rattle.words.specs.Tests.{◌and◌, count}
use Rattle.words.proofs.Tests.{either, equal?, and_fst, and_snd, lowest_holds, fails_too}
use Rattle.words.proofs.Counts.{count_ext, count_one}
use Rattle.words.proofs.Sets.{and_both, and_left}
use Rattle.rules.specs.declared.kind.Kind.{Kind}
use Rattle.rules.specs.declared.item.Item.{Item}
use Rattle.rules.specs.declared.list.LockList.{LockList}
use Rattle.rules.specs.Locks.{blank, item_at, with_items, file_of, opens_name, is_kind_by, is_kind_by_at, opens_by, locks_by, is_empty_at, free_place, same_file, clash}
use Rattle.rules.specs.Locks.{clash_at, keeps_limits}
use Rattle.rules.proofs.Items.{clash_at-sym}
use Rattle.rules.proofs.SoundList.{Shape, Holder, GoodOpen, GoodLock, is_plain, Used, Vacant, Limits, SoundLocks, capacity_fits}

-- ---- a list with other items

module _ (l : LockList) (xs : List Item) where
  -- its limits are as good as before; ..
  pub limits_with : Limits l → Limits (with_items l xs)
  limits_with g = record {
    capacity_good = g.capacity_good;
    open_good = g.open_good;
    lock_good = g.lock_good;
    users_good = g.users_good;
    rule_good = g.rule_good;
  }

  module _ (kind : Kind) (s : List ℕ) where
    -- .. so is an item, a lock if its process still has that file open unlocked, ..
    pub good_with : (x : Item) → (GoodLock kind s l x → Holder (with_items l xs) x.process x.name)
        → GoodOpen kind s l x ⊎ GoodLock kind s l x → GoodOpen kind s (with_items l xs) x ⊎ GoodLock kind s (with_items l xs) x
    good_with x holder c =
        ⊎_elim (λ (o : GoodOpen kind s l x). inl (record { kind_one = o.kind_one; mode_fits = o.mode_fits; number_zero = o.number_zero; there = o.there }))
        (λ (o : GoodLock kind s l x). inr (record { kind_two = o.kind_two; mode_one = o.mode_one; holder = holder o; block = o.block })) c

    -- .. and a place whose item stays
    pub place_with : (i : ℕ) → item_at (with_items l xs) i ≡ item_at l i
        → (GoodLock kind s l (item_at l i) → Holder (with_items l xs) (item_at l i).process (item_at l i).name)
        → Vacant l i ⊎ Used kind s l i → Vacant (with_items l xs) i ⊎ Used kind s (with_items l xs) i
    place_with i q holder c =
        let e : item_at l i ≡ item_at (with_items l xs) i = sym q in
        ⊎_elim
        (λ (v : Vacant l i). inl (record { kind_zero = rw (← e) v.kind_zero; zeros = rw (← e) v.zeros }))
        (λ (v : Used kind s l i). inr (record {
          below = v.below;
          plain = rw (← e) v.plain;
          good = subst (λ (x : Item). GoodOpen kind s (with_items l xs) x ⊎ GoodLock kind s (with_items l xs) x) e (good_with (item_at l i) holder v.good);
        }))
        c

-- ---- one place set

-- a place below the capacity that holds nothing
pub record Room (l : LockList) (j : ℕ) : Type 0 where
  -- the place is below the capacity
  pub below : j < l.capacity
  -- it is empty
  pub empty : (item_at l j).kind ≡ 0

-- the lowest empty place is such a place, where there is one
pub free_room : (l : LockList) → free_place l < l.capacity → Room l (free_place l)
unfolding free_place is_empty_at
free_room l h = record { below = h; empty = eqb-true _ _ (lowest_holds (is_empty_at l) l.capacity h) }

module _ (l : LockList) (j : ℕ) (it : Item) (h : Shape l) (inside : j < 64) where
  abbrev now : LockList
  now = with_items l (set l.items j it)

  -- the place holds the item, ..
  pub at_here : item_at now j ≡ it
  at_here = get_or-set_same l.items j it blank (let k = h.items_long in omega arith)

  -- .. every other what it held; ..
  pub at_other : (i : ℕ) → (i ≡ j → ⊥) → item_at now i ≡ item_at l i
  at_other i q = get_or-set_other l.items j i it blank q

  -- .. the list keeps its shape
  pub set_shape : length it.name ≡ 11 → Shape now
  set_shape n = record {
    users_long = h.users_long;
    items_long = length-set l.items j it ∙ h.items_long;
    positions_long = h.positions_long;
    names_long = λ i m. ⊎_elim (λ (q : i ≡ j). rw (q, at_here) n) (λ (q : i ≡ j → ⊥). rw (at_other i q) (h.names_long i m)) (equal? i j);
  }

  module _ (empty : (item_at l j).kind ≡ 0) where
    -- an open stays an open
    pub holder_set : (p : ℕ) (name : List ℕ) → Holder l p name → Holder now p name
    unfolding opens_name
    holder_set p name o =
        let q : o.place ≡ j → ⊥ = λ (q : o.place ≡ j).
        let k : (item_at l o.place).kind ≡ 1 = eqb-true _ _ (and_fst _ _ o.opens) in
        let z : (item_at l o.place).kind ≡ 0 = ap (λ (i : ℕ). (item_at l i).kind) q ∙ empty in
        absurd (omega arith) in
        record { place = o.place; below = o.below; opens = rw (at_other o.place q) o.opens; mode = rw (at_other o.place q) o.mode }

    -- a process has as many items of a kind as before, where the new one is none of these, ..
    pub kind_count : (k p : ℕ) → (k ≡ 0 → ⊥) → is_kind_by k p it ≡ false → count (is_kind_by_at now k p) 64 ≡ count (is_kind_by_at l k p) 64
    unfolding is_kind_by_at is_kind_by
    kind_count k p n none =
        count_ext (is_kind_by_at now k p) (is_kind_by_at l k p) 64 (λ i m. ⊎_elim
        (λ (q : i ≡ j). rw (q, at_here, none) (sym (and_left _ _ (ne_eqb _ _ (λ (z : (item_at l j).kind ≡ k). n (sym z ∙ empty))))))
        (λ (q : i ≡ j → ⊥). rw (at_other i q) refl) (equal? i j))

    -- .. and one more where it is
    pub kind_more : (k p : ℕ) → (k ≡ 0 → ⊥) → is_kind_by k p it ≡ true → count (is_kind_by_at now k p) 64 ≡ count (is_kind_by_at l k p) 64 + 1
    unfolding is_kind_by_at is_kind_by
    kind_more k p n some =
        count_one (is_kind_by_at l k p) (is_kind_by_at now k p) j 64 inside
        (and_left _ _ (ne_eqb _ _ (λ (z : (item_at l j).kind ≡ k). n (sym z ∙ empty))))
        (rw at_here some) (λ i m q. rw (at_other i q) refl)

-- the item is good, clashes with none, and its process keeps its limits
pub record Fits (kind : Kind) (s : List ℕ) (l : LockList) (j : ℕ) (it : Item) : Type 0 where
  -- the item's name has eleven bytes
  pub name_long : length it.name ≡ 11
  -- its process is one of 0 to 15, its name legal with high bits zero, its record number not above the highest
  pub plain : is_plain kind it ≡ true
  -- it is a good open or a good lock
  pub good : GoodOpen kind s l it ⊎ GoodLock kind s l it
  -- it clashes with no item of its file at another place
  pub no_clash : (i : ℕ) → i < 64 → (i ≡ j → ⊥) → (clash it (item_at l i) and same_file (file_of l it) (file_of l (item_at l i))) ≡ false
  -- where it is an open, its process has fewer opens than the open limit; ..
  pub opens_fit : (p : ℕ) → is_kind_by 1 p it ≡ true → opens_by l p < l.openlimit
  -- .. where it is a lock, fewer locks than the lock limit
  pub locks_fit : (p : ℕ) → is_kind_by 2 p it ≡ true → locks_by l p < l.locklimit

module _ (kind : Kind) (s : List ℕ) (l : LockList) (j : ℕ) (it : Item) (h : Shape l) (g : SoundLocks kind l s) (r : Room l j) (w : Fits kind s l j it) where
  inside : j < 64
  inside = let c = capacity_fits l g.limits in let b = r.below in omega arith

  abbrev after : LockList
  after = with_items l (set l.items j it)

  holder_after : (x : Item) → GoodLock kind s l x → Holder after x.process x.name
  holder_after x o = holder_set l j it h inside r.empty x.process x.name o.holder

  place_after : (i : ℕ) → i < 64 → Vacant after i ⊎ Used kind s after i
  place_after i m =
      ⊎_elim
      (λ (q : i ≡ j).
      let e : it ≡ item_at after i = sym (at_here l j it h inside) ∙ ap (λ (n : ℕ). item_at after n) (sym q) in
      inr (record {
        below = rw q r.below;
        plain = rw e at w.plain;
        good = subst (λ (x : Item). GoodOpen kind s after x ⊎ GoodLock kind s after x) e
            (good_with l (set l.items j it) kind s it (holder_after it) w.good);
      }))
      (λ (q : i ≡ j → ⊥). place_with l (set l.items j it) kind s i (at_other l j it h inside i q) (holder_after (item_at l i)) (g.place i m))
      (equal? i j)

  here_apart : (i : ℕ) → i < 64 → (i ≡ j → ⊥) → clash_at after j i ≡ false
  unfolding clash_at
  here_apart i m q = rw (at_here l j it h inside, at_other l j it h inside i q) (w.no_clash i m q)

  apart_after : (i k : ℕ) → i < 64 → k < 64 → (i ≡ k → ⊥) → clash_at after i k ≡ false
  unfolding clash_at
  apart_after i k m n q =
      ⊎_elim
      (λ (y : i ≡ j). rw y (here_apart k n (λ (z : k ≡ j). q (y ∙ sym z))))
      (λ (y : i ≡ j → ⊥). ⊎_elim
      (λ (z : k ≡ j). rw z (fails_too (clash_at after j i) (clash_at after i j) (clash_at-sym after i j) (here_apart i m y)))
      (λ (z : k ≡ j → ⊥). rw (at_other l j it h inside i y, at_other l j it h inside k z) (g.apart i k m n q))
      (equal? k j))
      (equal? i j)

  keeps_after : (p : ℕ) → p < 16 → keeps_limits after p ≡ true
  unfolding keeps_limits opens_by locks_by
  keeps_after p m =
      let k = g.keeps p m in
      and_both _ _
      (⊎_elim
      (λ (q : is_kind_by 1 p it ≡ true). rw (kind_more l j it h inside r.empty 1 p (λ (z : 1 ≡ 0). absurd (omega arith)) q)
      (le-leb (count (is_kind_by_at l 1 p) 64 + 1) l.openlimit (let u : count (is_kind_by_at l 1 p) 64 < l.openlimit = w.opens_fit p q in omega arith)))
      (λ (q : is_kind_by 1 p it ≡ false). rw (kind_count l j it h inside r.empty 1 p (λ (z : 1 ≡ 0). absurd (omega arith)) q) (and_fst _ _ k))
      (either (is_kind_by 1 p it)))
      (⊎_elim
      (λ (q : is_kind_by 2 p it ≡ true). rw (kind_more l j it h inside r.empty 2 p (λ (z : 2 ≡ 0). absurd (omega arith)) q)
      (le-leb (count (is_kind_by_at l 2 p) 64 + 1) l.locklimit (let u : count (is_kind_by_at l 2 p) 64 < l.locklimit = w.locks_fit p q in omega arith)))
      (λ (q : is_kind_by 2 p it ≡ false). rw (kind_count l j it h inside r.empty 2 p (λ (z : 2 ≡ 0). absurd (omega arith)) q) (and_snd _ _ k))
      (either (is_kind_by 2 p it)))

  -- an item that fits leaves the list sound
  pub set_sound : SoundLocks kind after s
  set_sound = record {
    limits = limits_with l (set l.items j it) g.limits;
    place = place_after;
    apart = apart_after;
    keeps = keeps_after;
    next = g.next;
  }
