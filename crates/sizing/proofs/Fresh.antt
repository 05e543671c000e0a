-- A fresh list: as it reads, its shape, and that it is sound against any image. Assumes nothing.
use Prim.Native.Nat.{ℕ, ◌*◌, ◌<◌}
use mathlib.Core.Path.{◌≡◌, refl, sym, ap}
use mathlib.Core.Bool.{true, false}
use mathlib.Core.List.{List, [], ◌∷◌, ◌++◌}
use mathlib.Core.Logic.{inl, ⊎_elim}
use native.Mathlib.Omega.{arith}
use lib.ListN.{length, replicate, get_or-replicate, length-replicate}
use lib.Dec.{eqb}
use borrow.Author.Tests.{eqb-true, eqb-false, le-leb, not-false, ne_eqb}
use Rattle.words.specs.Tests.{◌and◌, ◌if◌else◌, all, count}
use Rattle.words.specs.Lists.{tab, flat}
use Rattle.words.specs.Bytes.{le, is_zero}
use Rattle.words.specs.Tables.{◌∕◌, first_of}
use Rattle.words.proofs.Tests.{either, any_never, or_fst, or_snd}
use Rattle.words.proofs.Lists.{tab_get_d}
use Rattle.words.proofs.Sets.{and_both, and_left}
use Rattle.words.proofs.Tables.{row_off}
use Rattle.words.proofs.Counts.{count_zero}
use Rattle.rules.specs.declared.kind.Kind.{Kind}
use Rattle.rules.specs.declared.item.Item.{Item}
use Rattle.rules.specs.declared.list.LockList.{LockList}
use Rattle.rules.specs.Kinds.{entries}
use Rattle.rules.specs.Locks.{places, place_size, blank, empty_place, item_at, first_mark, second_mark, pack_item, pack, is_kind_by, is_kind_by_at, opens_by, locks_by}
use Rattle.rules.specs.Locks.{good_empty, clash_at, keeps_limits, bad_start, rows_start, fresh_list, start_ends, start}
use Rattle.rules.proofs.Items.{clash_none}
use Rattle.rules.proofs.SoundList.{Shape, Limits, SoundLocks}

-- as it reads: the limits, users and rule given, its places, all empty, and no search begun
abbrev pub fresh : Kind → ℕ → ℕ → ℕ → ℕ → List ℕ → LockList
fresh kind c o k u users = record {
  capacity = c;
  openlimit = o;
  locklimit = k;
  users = users;
  items = replicate 64 empty_place;
  positions = replicate 16 (entries kind);
  rule = u;
}

fresh_bytes : flat pack_item (replicate 64 empty_place) ≡ replicate (place_size * places) 0
unfolding flat pack_item tab le first_mark second_mark ◌if◌else◌
fresh_bytes = refl

-- packed it is the one that Start writes, ..
pub fresh_packed : (kind : Kind) (c o k u : ℕ) (users : List ℕ) → length users ≡ 16 → pack (fresh kind c o k u users) ≡ fresh_list kind c o k u users
unfolding pack fresh_list tab
fresh_packed kind c o k u users h =
    rw fresh_bytes
    (ap (λ (w : List ℕ). c ∷ o ∷ k ∷ (w ++ (replicate (place_size * places) 0 ++ (replicate 16 (entries kind) ++ (u ∷ []))))) (tab_get_d users 0 16 h))

-- .. its places are empty, ..
pub fresh_at : (i : ℕ) → i < 64 → (kind : Kind) (c o k u : ℕ) (users : List ℕ) → item_at (fresh kind c o k u users) i ≡ empty_place
fresh_at i m kind c o k u users = get_or-replicate 64 i empty_place blank m

-- .. it has the shape of a list, ..
pub fresh_shape : (kind : Kind) (c o k u : ℕ) (users : List ℕ) → length users ≡ 16 → Shape (fresh kind c o k u users)
fresh_shape kind c o k u users h = record {
  users_long = h;
  items_long = length-replicate 64 empty_place;
  positions_long = length-replicate 16 (entries kind);
  names_long = λ i m. ap (λ (it : Item). length it.name) (fresh_at i m kind c o k u users);
}

module _ (kind : Kind) (c o k u : ℕ) (users s : List ℕ) (g : Limits (fresh kind c o k u users)) where
  none_kind : (n p : ℕ) → (n ≡ 0 → ⊥) → count (is_kind_by_at (fresh kind c o k u users) n p) 64 ≡ 0
  unfolding is_kind_by_at is_kind_by
  none_kind n p z =
      count_zero (is_kind_by_at (fresh kind c o k u users) n p) 64 (any_never (is_kind_by_at (fresh kind c o k u users) n p) 64 (λ i m.
      rw (fresh_at i m kind c o k u users) (and_left _ _ (ne_eqb 0 n (λ q. z (sym q))))))

  -- .. and is sound against any image
  pub fresh_sound : SoundLocks kind (fresh kind c o k u users) s
  unfolding clash_at keeps_limits opens_by locks_by good_empty is_zero all ◌and◌
  fresh_sound = record {
    limits = g;
    place = λ i m. inl (record {
      kind_zero = ap (λ (it : Item). it.kind) (fresh_at i m kind c o k u users);
      zeros = ap good_empty (fresh_at i m kind c o k u users);
    });
    apart = λ i j m n q. and_left _ _ (clash_none (item_at (fresh kind c o k u users) i) (item_at (fresh kind c o k u users) j)
        (ap (λ (it : Item). it.kind) (fresh_at i m kind c o k u users)));
    keeps = λ p m.
        and_both _ _ (le-leb (count (is_kind_by_at (fresh kind c o k u users) 1 p) 64) o (rw (none_kind 1 p (λ (z : 1 ≡ 0). absurd (omega arith))) (omega arith)))
        (le-leb (count (is_kind_by_at (fresh kind c o k u users) 2 p) 64) k (rw (none_kind 2 p (λ (z : 2 ≡ 0). absurd (omega arith))) (omega arith)));
    next = λ p m. let z = get_or-replicate 16 p (entries kind) 0 m in omega arith;
  }

-- what an accepted Start has tested
pub record Started (kind : Kind) (c o k u : ℕ) (users list : List ℕ) : Type 0 where
  pub written : (start kind c o k u users list).list ≡ fresh_list kind c o k u users
  pub limits : Limits (fresh kind c o k u users)
  pub users_long : length users ≡ 16

module _ (kind : Kind) (c o k u : ℕ) (users list : List ℕ) where
  good_start : bad_start c o k u users list ≡ false → Limits (fresh kind c o k u users) × (length users ≡ 16)
  unfolding bad_start
  good_start n =
      let n₁ = or_snd _ _ n in
      let n₂ = or_snd _ _ n₁ in
      let n₃ = or_snd _ _ n₂ in
      let n₄ = or_snd _ _ n₃ in (
        record {
          capacity_good = not-false _ (or_fst _ _ n);
          open_good = not-false _ (or_fst _ _ n₁);
          lock_good = not-false _ (or_fst _ _ n₂);
          users_good = not-false _ (or_fst _ _ (or_snd _ _ n₄));
          rule_good = not-false _ (or_fst _ _ n₃);
        },
        eqb-true _ _ (not-false _ (or_fst _ _ n₄)),
      )

  none_bad : eqb (first_of (rows_start c o k u users list)) 0 ≡ true → bad_start c o k u users list ≡ false
  unfolding rows_start
  none_bad z = row_off (255 ∕ 13) (bad_start c o k u users list) [] (λ y. omega arith) (eqb-true _ _ z)

  -- a Start that was accepted has tested all of it
  pub started : (start kind c o k u users list).answer ≡ 0 ∕ 0 → Started kind c o k u users list
  unfolding start start_ends ◌if◌else◌
  started h =
      ⊎_elim
      (λ (z : eqb (first_of (rows_start c o k u users list)) 0 ≡ true).
      let g = good_start (none_bad z) in
      record { written = rw z refl; limits = g.0; users_long = g.1 })
      (λ (z : eqb (first_of (rows_start c o k u users list)) 0 ≡ false). absurd (eqb-false _ _ z (rw z at h)))
      (either (eqb (first_of (rows_start c o k u users list)) 0))
