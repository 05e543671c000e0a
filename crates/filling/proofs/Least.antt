-- With one place fewer somebody is turned away, whatever the limits: the last Lock answers 14/0, or the last Open 255/11. Assumes nothing.
use Prim.Native.Nat.{ℕ, zero, suc, ◌+◌, ◌-◌, ◌*◌, ◌<◌, ◌≤◌}
use mathlib.Core.Path.{◌≡◌, refl, sym, ap, subst, ◌∙◌}
use mathlib.Core.Bool.{true, false}
use mathlib.Core.List.{List}
use mathlib.Core.Logic.{⊎_elim}
use native.Mathlib.Omega.{arith}
use native.Mathlib.Nat.{mul-suc, mul_comm}
use lib.ListN.{replicate}
use lib.Dec.{eqb}
use borrow.Author.Tests.{eq-eqb, ne_eqb, lt-ltb, le-ltb, le-leb}
use Rattle.words.specs.Tests.{◌and◌, ◌if◌else◌, all, count}
use Rattle.words.specs.Lists.{tab}
use Rattle.words.specs.Tables.{◌∕◌}
use Rattle.words.proofs.Tests.{either, equal?, any_never}
use Rattle.words.proofs.Counts.{count_zero}
use Rattle.words.proofs.Sets.{and_both, or_left, or_right}
use Rattle.rules.specs.declared.kind.Kind.TheVariants.{Small}
use Rattle.rules.specs.declared.kind.Rule.TheVariants.{Mpm}
use Rattle.rules.specs.declared.item.Item.{Item}
use Rattle.rules.specs.declared.list.LockList.{LockList}
use Rattle.rules.specs.Locks.{item_at, is_limit, is_user, is_rule, is_kind_by, is_kind_by_at, opens_by, locks_by, open_of, is_empty_at, free_places, fresh_list, unpack, pack}
use Rattle.rules.proofs.SoundList.{Limits, list_sound_of, list_sound_so, unpacked}
use Rattle.rules.proofs.Packing.{pack_long}
use Rattle.sizing.specs.Sizes.{is_caller}
use Rattle.sizing.proofs.Fresh.{fresh, fresh_packed, fresh_at, fresh_shape, fresh_sound}
use Rattle.filling.specs.Book.{book, fcb_for, dma_for, file_no}
use Rattle.filling.specs.Least.{none, EndsIn, first_ones, one_fewer, Least}
use Rattle.filling.proofs.Book.{book_sound, fcb_bytes, dma_bytes}
use Rattle.filling.proofs.Codes.{open_full, lock_full}
use Rattle.filling.proofs.Placed.{Facts, no_place, can_open, can_lock}
use Rattle.filling.proofs.Steps.{At, more, below, opens_more, locks_more, all_open, all_locked}

-- ---- the processes 0 to p - 1

is_one : (f : ℕ → ℕ) (p x : ℕ) → x < p → is_caller (tab f p) (f x) ≡ true
unfolding tab is_caller
is_one f zero x m = absurd (omega arith)
is_one f (suc p) zero m = or_left _ _ (eq-eqb (f 0) (f 0) refl)
is_one f (suc p) (suc x) m =
    ⊎_elim (λ (e : eqb (f 0) (f (suc x)) ≡ true). or_left _ _ e)
    (λ (e : eqb (f 0) (f (suc x)) ≡ false). or_right _ _ e (is_one (λ (y : ℕ). f (suc y)) p x (omega arith))) (either (eqb (f 0) (f (suc x))))

one_of : (p x : ℕ) → x < p → is_caller (first_ones p) x ≡ true
unfolding first_ones
one_of p x m = is_one (λ (y : ℕ). y) p x m

-- ---- the fresh list

module _ (c o k : ℕ) (callers : List ℕ) (limits : (1 ≤ c) × (c ≤ 64)) (opening : (1 ≤ o) × (o ≤ 64)) (locking : (1 ≤ k) × (k ≤ 64)) where
  abbrev l : LockList
  l = fresh (Small Mpm) c o k 0 (replicate 16 0)

  good : Limits l
  unfolding is_limit is_user is_rule all ◌and◌
  good = record {
    capacity_good = and_both _ _ (le-leb 1 c limits.0) (le-leb c 64 limits.1);
    open_good = and_both _ _ (le-leb 1 o opening.0) (le-leb o 64 opening.1);
    lock_good = and_both _ _ (le-leb 1 k locking.0) (le-leb k 64 locking.1);
    users_good = refl;
    rule_good = refl;
  }

  empty : (i : ℕ) → i < 64 → (item_at l i).kind ≡ 0
  empty i m = ap (λ (it : Item). it.kind) (fresh_at i m (Small Mpm) c o k 0 (replicate 16 0))

  none_kind : (n x : ℕ) → (n ≡ 0 → ⊥) → count (is_kind_by_at l n x) 64 ≡ 0
  unfolding is_kind_by_at is_kind_by
  none_kind n x z = count_zero (is_kind_by_at l n x) 64 (any_never (is_kind_by_at l n x) 64 (λ i m.
      Rattle.words.proofs.Sets.and_left _ _ (ne_eqb (item_at l i).kind n (λ q. z (sym q ∙ empty i m)))))

  all_free : (n : ℕ) → n ≤ 64 → count (is_empty_at l) n ≡ n
  unfolding count is_empty_at ◌if◌else◌
  all_free zero m = refl
  all_free (suc n) m = let e = all_free n (omega arith) in rw (eq-eqb _ _ (empty n (omega arith))) (omega arith)

  facts : Facts c o k (λ (x : ℕ). 0) (λ (x : ℕ). 0) 0 c l
  unfolding opens_by locks_by free_places
  facts = record {
    users = refl;
    capacity = refl;
    openlimit = refl;
    locklimit = refl;
    opens-by = λ x. none_kind 1 x (λ (z : 1 ≡ 0). absurd (omega arith));
    locks-by = λ x. none_kind 2 x (λ (z : 2 ≡ 0). absurd (omega arith));
    opens_are = λ i m one. absurd (let z = empty i m in omega arith);
    locks_are = λ i m two. absurd (let z = empty i m in omega arith);
    first = λ x y. absurd (omega arith);
    free = all_free c limits.1;
  }

  list_is : fresh_list (Small Mpm) c o k 0 (replicate 16 0) ≡ pack l
  list_is = sym (fresh_packed (Small Mpm) c o k 0 (replicate 16 0) refl)

  -- nothing is open and nothing locked at the start
  pub begin : At c o k callers (λ (x : ℕ). 0) (λ (x : ℕ). 0) 0 c
  begin =
      let shape = fresh_shape (Small Mpm) c o k 0 (replicate 16 0) refl in
      let sound = fresh_sound (Small Mpm) c o k 0 (replicate 16 0) book good in
      record {
        list = fresh_list (Small Mpm) c o k 0 (replicate 16 0);
        calls = none;
        both = rw list_is (record {
          image_sound = book_sound;
          list_long = pack_long l shape.items_long;
          list_sound = list_sound_so (Small Mpm) l book sound shape;
        });
        facts = rw list_is (rw (unpacked (Small Mpm) l book sound shape) facts);
      }

-- ---- numbers

spread : (p o k : ℕ) → (o + k) * p ≡ o * p + k * p
spread zero o k = omega arith
spread (suc p) o k = omega (arith, mul-suc (o + k) p, mul-suc o p, mul-suc k p, spread p o k)

at_own : (q d f : ℕ) → more q d (below q f) q ≡ d
unfolding ◌if◌else◌
at_own q d f = rw (eq-eqb q q refl, le-ltb q q (omega arith)) (omega arith)

at_below : (q f x : ℕ) → x < q → below q f x ≡ f
unfolding ◌if◌else◌
at_below q f x m = rw (lt-ltb x q m) refl

-- ---- 14/0: each has opened all its files, and all records but one are locked

-- p is suc p', k is suc k'
module _ (p o k : ℕ) (few : suc p ≤ 16) (some : 1 ≤ o) (fits : suc p * (o + suc k) ≤ 65) where
  abbrev callers : List ℕ
  callers = first_ones (suc p)

  abbrev c : ℕ
  c = suc p * (o + suc k) - 1

  whole : suc p * (o + suc k) ≡ o * suc p + suc k * suc p
  whole = mul_comm (suc p) (o + suc k) ∙ spread (suc p) o (suc k)

  opens_grow : o * suc p ≡ o * p + o
  opens_grow = let e = mul-suc o p in omega arith

  locks_grow : suc k * suc p ≡ suc k * p + suc k
  locks_grow = let e = mul-suc (suc k) p in omega arith

  ones : (q : ℕ) → q < suc p → is_caller callers q ≡ true
  ones q m = one_of (suc p) q m

  fresh_one : At c o (suc k) callers (λ (x : ℕ). 0) (λ (x : ℕ). 0) 0 c
  fresh_one =
      let w = whole in
      let a = opens_grow in
      let b = locks_grow in
      begin c o (suc k) callers (omega arith, omega arith) (omega arith, omega arith) (omega arith, omega arith)

  opened-all : At c o (suc k) callers (below (suc p) o) (λ (x : ℕ). 0) 0 (suc k * p + k)
  opened-all =
      let w = whole in
      let a = opens_grow in
      let b = locks_grow in
      let e : c ≡ o * suc p + (suc k * p + k) = omega arith in
      all_open c o (suc k) (suc p) callers few ones (suc p) (suc k * p + k) (omega arith)
      (subst (λ (x : ℕ). At c o (suc k) callers (λ (y : ℕ). 0) (λ (y : ℕ). 0) 0 x) e fresh_one)

  locked_most : At c o (suc k) callers (below (suc p) o) (more p k (below p (suc k))) (suc k * p + k) 0
  locked_most =
      let w = whole in
      let a = opens_grow in
      let b = locks_grow in
      let z : k ≡ 0 + k = omega arith in
      let opens = below (suc p) o in
      let before = all_locked c o (suc k) (suc p) callers few ones opens (λ x m. rw (at_below (suc p) o x m) some) p k (omega arith) (omega arith) opened-all in
      locks_more c o (suc k) callers k opens (below p (suc k)) (suc k * p) 0 p (omega arith) (ones p (omega arith))
      (rw (at_below (suc p) o p (omega arith)) some)
      (rw none_yet (omega arith)) (omega arith) (subst (λ (x : ℕ). At c o (suc k) callers opens (below p (suc k)) (suc k * p) x) z before)
    where
      none_yet : below p (suc k) p ≡ 0
      none_yet = unfold ◌if◌else◌ in rw (le-ltb p p (omega arith)) refl

  -- the last Lock
  pub ends_14 : EndsIn (Small Mpm) callers book (fresh_list (Small Mpm) c o (suc k) 0 (replicate 16 0)) (14 ∕ 0)
  ends_14 =
      let w = whole in
      let a = opens_grow in
      let b = locks_grow in
      let at = locked_most in
      let opens = below (suc p) o in
      let locks = more p k (below p (suc k)) in
      let sound = list_sound_of (Small Mpm) at.list book at.both.list_sound in
      let can = can_lock c o (suc k) opens locks (suc k * p + k) 0 (unpack at.list) sound at.facts p (rw (at_below (suc p) o p (omega arith)) some)
      (rw (at_own p k (suc k)) (omega arith)) (omega arith) in
      record {
        list = at.list;
        calls = at.calls;
        function = 42;
        process = p;
        count = 1;
        fcb = fcb_for 0 (suc k * p + k);
        dma = dma_for (open_of (unpack at.list) p (file_no 0));
        by = ones p (omega arith);
        fcb_bytes = fcb_bytes 0 (suc k * p + k) (omega arith) (omega arith);
        dma_bytes = dma_bytes _ (let y = can.below in omega arith);
        answers = lock_full p (suc k * p + k) _ at.list (omega arith) at.both can at.facts.free;
      }

-- ---- 255/11: all records are locked, and each has opened all its files but the last, who has one left

-- p is suc p', o is suc o'
module _ (p o k : ℕ) (few : suc p ≤ 16) (some : 1 ≤ o) (one : 1 ≤ k) (fits : suc p * (suc o + k) ≤ 65) where
  abbrev those : List ℕ
  those = first_ones (suc p)

  abbrev size : ℕ
  size = suc p * (suc o + k) - 1

  sum : suc p * (suc o + k) ≡ suc o * suc p + k * suc p
  sum = mul_comm (suc p) (suc o + k) ∙ spread (suc p) (suc o) k

  grow : suc o * suc p ≡ suc o * p + suc o
  grow = let e = mul-suc (suc o) p in omega arith

  grow_locks : k * suc p ≡ k * p + k
  grow_locks = let e = mul-suc k p in omega arith

  each_one : (q : ℕ) → q < suc p → is_caller those q ≡ true
  each_one q m = one_of (suc p) q m

  first-list : At size (suc o) k those (λ (x : ℕ). 0) (λ (x : ℕ). 0) 0 size
  first-list =
      let w = sum in
      let a = grow in
      let b = grow_locks in
      begin size (suc o) k those (omega arith, omega arith) (omega arith, omega arith) (omega arith, omega arith)

  abbrev nearly : ℕ → ℕ
  nearly = more p o (below p (suc o))

  opened_most : At size (suc o) k those nearly (λ (x : ℕ). 0) 0 (k * suc p)
  opened_most =
      let w = sum in
      let a = grow in
      let e : size ≡ suc o * p + (k * suc p + o) = omega arith in
      let before = all_open size (suc o) k (suc p) those few each_one p (k * suc p + o) (omega arith)
      (subst (λ (x : ℕ). At size (suc o) k those (λ (y : ℕ). 0) (λ (y : ℕ). 0) 0 x) e first-list) in
      opens_more size (suc o) k those o (below p (suc o)) (λ (x : ℕ). 0) 0 (k * suc p) p (omega arith) (each_one p (omega arith))
      (rw none_yet (omega arith)) before
    where
      none_yet : below p (suc o) p ≡ 0
      none_yet = unfold ◌if◌else◌ in rw (le-ltb p p (omega arith)) refl

  -- each has the first file open
  has_one : (x : ℕ) → x < suc p → 1 ≤ nearly x
  has_one x m =
      ⊎_elim (λ (e : x ≡ p). rw (e, at_own p o (suc o)) some) (λ (e : x ≡ p → ⊥). let b = at_below p (suc o) x (omega arith) in omega arith)
      (equal? x p)

  locked_all : At size (suc o) k those nearly (below (suc p) k) (k * suc p) 0
  locked_all =
      let w = sum in
      let a = grow in
      let z : k * suc p ≡ k * suc p + 0 = omega arith in
      all_locked size (suc o) k (suc p) those few each_one nearly has_one (suc p) 0 (omega arith) (omega arith)
      (subst (λ (x : ℕ). At size (suc o) k those nearly (λ (y : ℕ). 0) 0 x) z opened_most)

  -- the last Open
  pub ends_11 : EndsIn (Small Mpm) those book (fresh_list (Small Mpm) size (suc o) k 0 (replicate 16 0)) (255 ∕ 11)
  ends_11 =
      let at = locked_all in
      let sound = list_sound_of (Small Mpm) at.list book at.both.list_sound in
      let can = can_open size (suc o) k nearly (below (suc p) k) (k * suc p) 0 (unpack at.list) sound at.facts p
      (rw (at_own p o (suc o)) (omega arith)) in
      record {
        list = at.list;
        calls = at.calls;
        function = 15;
        process = p;
        count = 1;
        fcb = fcb_for (nearly p) 0;
        dma = dma_for 0;
        by = each_one p (omega arith);
        fcb_bytes = fcb_bytes (nearly p) 0 can.file_fits (omega arith);
        dma_bytes = dma_bytes 0 (omega arith);
        answers = open_full p (nearly p) 0 at.list (omega arith) at.both can
            (no_place size (suc o) k nearly (below (suc p) k) (k * suc p) 0 (unpack at.list) sound at.facts refl);
      }

-- ---- the statement

short : (p o k : ℕ) → 1 ≤ p → p ≤ 16 → 1 ≤ o → 1 ≤ k → p * (o + k) ≤ 65 → EndsIn (Small Mpm) (first_ones p) book (one_fewer p o k) (14 ∕ 0)
unfolding one_fewer
short zero o k a b c d e = absurd (omega arith)
short (suc p) o zero a b c d e = absurd (omega arith)
short (suc p) o (suc k) a b c d e = ends_14 p o k b c e

full : (p o k : ℕ) → 1 ≤ p → p ≤ 16 → 2 ≤ o → 1 ≤ k → p * (o + k) ≤ 65 → EndsIn (Small Mpm) (first_ones p) book (one_fewer p o k) (255 ∕ 11)
unfolding one_fewer
full zero o k a b c d e = absurd (omega arith)
full (suc p) zero k a b c d e = absurd (omega arith)
full (suc p) (suc o) k a b c d e = ends_11 p o k b (omega arith) d e

-- with one place fewer than p times the sum of the limits a call answers 14/0, or 255/11
pub least : Least
least = record { too_few = short; no_place = full }
