-- A sound list, said of its places, and back. Assumes nothing.
use Prim.Native.Nat.{ℕ, zero, suc, ◌≤◌, ◌<◌}
use mathlib.Core.Path.{◌≡◌, refl, sym, ap, ◌∙◌}
use mathlib.Core.Bool.{Bool, true, false}
use mathlib.Core.List.{List}
use mathlib.Core.Logic.{◌⊎◌, inl, inr, ⊎_elim}
use native.Mathlib.Omega.{arith}
use lib.ListN.{length}
use lib.Dec.{eqb, leb, ltb}
use borrow.Author.Tests.{eqb-true, eqb-false, eq-eqb, ne_eqb, leb-true, leb-false, lt-leb, le-leb, ltb-true, ltb-false, lt-ltb, not-true}
use Rattle.words.specs.Tests.{◌and◌, ◌if◌else◌, all}
use Rattle.words.proofs.Tests.{either, equal?, never, fails_too, all_at, all_make, any_at, any_found, any_never, lowest_holds, lowest_below, and_fst, and_snd}
use Rattle.words.proofs.Lists.{length-tab}
use Rattle.words.proofs.Sets.{and_both, not_of_false}
use Rattle.rules.specs.declared.kind.Kind.{Kind}
use Rattle.rules.specs.Kinds.{entries, top}
use Rattle.rules.specs.declared.file.File.{File}
use Rattle.rules.specs.declared.item.Item.{Item}
use Rattle.rules.specs.declared.list.LockList.{LockList}
use Rattle.rules.specs.Drive.{legal_name, entry_of, look_up, missing, block_of}
use Rattle.rules.specs.Locks.{item_at, user_of, position_of, is_position, is_rule, file_of, same_file, opens_name, opens_name_at, open_of, is_opened, is_limit, is_user}
use Rattle.rules.specs.Locks.{is_low, good_empty, good_open, opens_unlocked, good_lock, good_item, good_place, clash_at, is_apart, keeps_limits, sound_locks}
use Rattle.rules.specs.Locks.{sound_list, item_in, item_from, pack, unpack}
use Rattle.rules.proofs.Items.{name_sym, name_then, clash_at-sym, clash_opens, open_is}
use Rattle.rules.proofs.Packing.{ListInRange, unpack_pack, unpack_at, zero_packed}
use Rattle.rules.proofs.Sizes.{top_fits}

-- what reading a list gives, sound or not
pub record Shape (l : LockList) : Type 0 where
  pub users_long : length l.users ≡ 16
  pub items_long : length l.items ≡ 64
  pub positions_long : length l.positions ≡ 16
  pub names_long : (i : ℕ) → i < 64 → length (item_at l i).name ≡ 11

pub unpack_shape : (list : List ℕ) → Shape (unpack list)
unfolding unpack
unpack_shape list = record {
  users_long = length-tab _ 16;
  positions_long = length-tab _ 16;
  items_long = length-tab _ 64;
  names_long = λ i l. ap (λ (it : Item). length it.name) (unpack_at list i l) ∙ from_name list i;
}
  where
    from_name : (s : List ℕ) (i : ℕ) → length (item_in s i).name ≡ 11
    from_name s i = unfold item_in item_from in length-tab _ 11

-- the process has an open of that name, unlocked
pub record Holder (l : LockList) (p : ℕ) (name : List ℕ) : Type 0 where
  pub place : ℕ
  pub below : place < 64
  pub opens : opens_name p name (item_at l place) ≡ true
  pub mode : (item_at l place).mode ≡ 1

pub record GoodOpen (kind : Kind) (s : List ℕ) (l : LockList) (it : Item) : Type 0 where
  pub kind_one : it.kind ≡ 1
  pub mode_fits : it.mode ≤ 2
  pub number_zero : it.number ≡ 0
  pub there : entry_of kind s (file_of l it) 0 < entries kind

pub record GoodLock (kind : Kind) (s : List ℕ) (l : LockList) (it : Item) : Type 0 where
  pub kind_two : it.kind ≡ 2
  pub mode_one : it.mode ≡ 1
  pub holder : Holder l it.process it.name
  pub block : block_of kind s (file_of l it) it.number ≡ 0 → ⊥

-- processes to 15; names legal, high bits zero; records to the highest
unfoldable pub is_plain : Kind → Item → Bool
is_plain kind it = leb it.process 15 and legal_name it.name 0 and all (is_low it.name) 11 and leb it.number (top kind)

pub record Used (kind : Kind) (s : List ℕ) (l : LockList) (i : ℕ) : Type 0 where
  pub below : i < l.capacity
  pub plain : is_plain kind (item_at l i) ≡ true
  pub good : GoodOpen kind s l (item_at l i) ⊎ GoodLock kind s l (item_at l i)

pub record Vacant (l : LockList) (i : ℕ) : Type 0 where
  pub kind_zero : (item_at l i).kind ≡ 0
  pub zeros : good_empty (item_at l i) ≡ true

pub record Limits (l : LockList) : Type 0 where
  pub capacity_good : is_limit l.capacity ≡ true
  pub open_good : is_limit l.openlimit ≡ true
  pub lock_good : is_limit l.locklimit ≡ true
  pub users_good : all (is_user l.users) 16 ≡ true
  pub rule_good : is_rule l.rule ≡ true

pub record SoundLocks (kind : Kind) (l : LockList) (s : List ℕ) : Type 0 where
  pub limits : Limits l
  pub place : (i : ℕ) → i < 64 → Vacant l i ⊎ Used kind s l i
  pub apart : (i j : ℕ) → i < 64 → j < 64 → (i ≡ j → ⊥) → clash_at l i j ≡ false
  pub keeps : (p : ℕ) → p < 16 → keeps_limits l p ≡ true
  pub next : (p : ℕ) → p < 16 → position_of l p ≤ entries kind

pub capacity_fits : (l : LockList) → Limits l → l.capacity ≤ 64
unfolding is_limit
capacity_fits l h = leb-true _ _ (and_snd _ _ h.capacity_good)

pub user_fits : (l : LockList) (p : ℕ) → Limits l → p < 16 → user_of l p ≤ 15
unfolding is_user
user_fits l p h k = leb-true _ _ (all_at (is_user l.users) 16 p h.users_good k)

-- ---- from the test

module _ (kind : Kind) (l : LockList) (s : List ℕ) (h : sound_locks kind l s ≡ true) where
  places_of : (all (good_place kind s l) 64 and all (is_apart l) 64 and all (keeps_limits l) 16 and all (is_position kind l.positions) 16 and is_rule l.rule)
      ≡ true
  unfolding sound_locks
  places_of = and_snd _ _ (and_snd _ _ (and_snd _ _ (and_snd _ _ h)))

  pub limits_of : Limits l
  unfolding sound_locks
  limits_of = record {
    capacity_good = and_fst _ _ h;
    open_good = and_fst _ _ (and_snd _ _ h);
    lock_good = and_fst _ _ (and_snd _ _ (and_snd _ _ h));
    users_good = and_fst _ _ (and_snd _ _ (and_snd _ _ (and_snd _ _ h)));
    rule_good = and_snd _ _ (and_snd _ _ (and_snd _ _ (and_snd _ _ places_of)));
  }

  open_of_lem : (it : Item) → eqb it.kind 1 ≡ true → good_open kind s l it ≡ true → GoodOpen kind s l it
  unfolding good_open missing look_up
  open_of_lem it k g = record {
    kind_one = eqb-true _ _ k;
    mode_fits = leb-true _ _ (and_fst _ _ g);
    number_zero = eqb-true _ _ (and_fst _ _ (and_snd _ _ g));
    there = leb-false _ _ (not-true _ (and_snd _ _ (and_snd _ _ g)));
  }

  holder_of : (p : ℕ) (f : File) → opens_unlocked l (open_of l p f) ≡ true → Holder l p f.name
  unfolding opens_unlocked is_opened open_of opens_name_at
  holder_of p f g =
      let k = ltb-true _ _ (and_fst _ _ g) in
      record { place = open_of l p f; below = k; opens = lowest_holds (opens_name_at l p f.name) 64 k; mode = eqb-true _ _ (and_snd _ _ g) }

  lock_of : (it : Item) → it.kind ≡ 2 → good_lock kind s l it ≡ true → GoodLock kind s l it
  unfolding good_lock
  lock_of it k g = record {
    kind_two = k;
    mode_one = eqb-true _ _ (and_fst _ _ g);
    holder = holder_of it.process (file_of l it) (and_fst _ _ (and_snd _ _ g));
    block = eqb-false _ _ (not-true _ (and_snd _ _ (and_snd _ _ g)));
  }

  used_of : (i : ℕ) → eqb (item_at l i).kind 0 ≡ false → (ltb i l.capacity and leb (item_at l i).kind 2 and good_item kind s l (item_at l i)) ≡ true
      → Used kind s l i
  unfolding good_item is_plain ◌if◌else◌
  used_of i z g =
      let it = item_at l i in
      let g₁ = and_snd _ _ (and_snd _ _ g) in
      let g₂ = and_snd _ _ g₁ in
      let g₃ = and_snd _ _ g₂ in
      let g₄ = and_snd _ _ g₃ in
      record {
        below = ltb-true _ _ (and_fst _ _ g);
        plain = and_both _ _ (and_fst _ _ g₁) (and_both _ _ (and_fst _ _ g₂) (and_both _ _ (and_fst _ _ g₃) (and_fst _ _ g₄)));
        good = ⊎_elim
            (λ (q : eqb it.kind 1 ≡ true). inl (open_of_lem it q (rw q at (and_snd _ _ g₄))))
            (λ (q : eqb it.kind 1 ≡ false).
            let a : it.kind ≤ 2 = leb-true _ _ (and_fst _ _ (and_snd _ _ g)) in
            let b = eqb-false _ _ q in
            let c = eqb-false _ _ z in
            inr (lock_of it (two it.kind a b c) (rw q at (and_snd _ _ g₄))))
            (either (eqb it.kind 1));
      }
    where
      two : (k : ℕ) → k ≤ 2 → (k ≡ 1 → ⊥) → (k ≡ 0 → ⊥) → k ≡ 2
      two zero a b c = absurd (c refl)
      two (suc zero) a b c = absurd (b refl)
      two (suc (suc k)) a b c = omega arith

  place_of : (i : ℕ) → i < 64 → Vacant l i ⊎ Used kind s l i
  unfolding good_place ◌if◌else◌
  place_of i m =
      let g = all_at (good_place kind s l) 64 i (and_fst _ _ places_of) m in
      ⊎_elim
      (λ (q : eqb (item_at l i).kind 0 ≡ true). inl (record { kind_zero = eqb-true _ _ q; zeros = rw q at g }))
      (λ (q : eqb (item_at l i).kind 0 ≡ false). inr (used_of i q (rw q at g)))
      (either (eqb (item_at l i).kind 0))

  before_of : (i j : ℕ) → i < 64 → j < i → clash_at l i j ≡ false
  unfolding is_apart
  before_of i j m k = any_at (clash_at l i) i j (not-true _ (all_at (is_apart l) 64 i (and_fst _ _ (and_snd _ _ places_of)) m)) k

  apart_of : (i j : ℕ) → i < 64 → j < 64 → (i ≡ j → ⊥) → clash_at l i j ≡ false
  apart_of i j m k n =
      ⊎_elim (λ (q : ltb j i ≡ true). before_of i j m (ltb-true _ _ q))
      (λ (q : ltb j i ≡ false).
      let w = ltb-false j i q in
      let v : i < j = less i j w n in
      fails_too (clash_at l j i) (clash_at l i j) (clash_at-sym l i j) (before_of j i k v)) (either (ltb j i))
    where
      less : (a b : ℕ) → a ≤ b → (a ≡ b → ⊥) → a < b
      less a b w n = ⊎_elim (λ (q : ltb a b ≡ true). ltb-true _ _ q) (λ (q : ltb a b ≡ false). let v = ltb-false a b q in absurd (n (omega arith)))
          (either (ltb a b))

  pub locks_of : SoundLocks kind l s
  locks_of = record {
    limits = limits_of;
    place = place_of;
    apart = apart_of;
    keeps = λ p k. all_at (keeps_limits l) 16 p (and_fst _ _ (and_snd _ _ (and_snd _ _ places_of))) k;
    next = λ p k. unfold is_position in leb-true _ _
        (all_at (is_position kind l.positions) 16 p (and_fst _ _ (and_snd _ _ (and_snd _ _ (and_snd _ _ places_of)))) k);
  }

-- ---- and back

-- two opens of one name by one process stand at one place
pub one_open : (kind : Kind) (l : LockList) (s : List ℕ) (i j p : ℕ) (name : List ℕ) → SoundLocks kind l s → i < 64 → j < 64
    → opens_name p name (item_at l i) ≡ true → opens_name p name (item_at l j) ≡ true → i ≡ j
unfolding clash_at same_file
one_open kind l s i j p name g m k a b =
    let x = open_is p name (item_at l i) a in
    let y = open_is p name (item_at l j) b in
    let q : (item_at l i).process ≡ (item_at l j).process = x.by ∙ sym y.by in
    ⊎_elim (λ (z : i ≡ j). z)
    (λ (z : i ≡ j → ⊥). absurd (never
    (and_both _ _ (clash_opens (item_at l i) (item_at l j) x.kind_one y.kind_one q)
    (and_both _ _ (eq-eqb _ _ (ap (λ (n : ℕ). user_of l n) q)) (name_then _ _ _ x.named (name_sym _ _ y.named))))
    (g.apart i j m k z)))
    (equal? i j)

module _ (kind : Kind) (l : LockList) (s : List ℕ) (g : SoundLocks kind l s) where
  pub holder_open : (p : ℕ) (f : File) → (h : Holder l p f.name) → h.place ≡ open_of l p f
  unfolding open_of opens_name_at
  holder_open p f h =
      let k = lowest_below (opens_name_at l p f.name) 64 (any_found (opens_name_at l p f.name) 64 h.place h.below h.opens) in
      one_open kind l s h.place (open_of l p f) p f.name g h.below k h.opens (lowest_holds (opens_name_at l p f.name) 64 k)

  holder_so : (p : ℕ) (f : File) → Holder l p f.name → opens_unlocked l (open_of l p f) ≡ true
  unfolding opens_unlocked is_opened
  holder_so p f h =
      let q = holder_open p f h in
      rw (← q) (and_both _ _ (lt-ltb _ _ h.below) (eq-eqb _ _ h.mode))

  item_so : (it : Item) → is_plain kind it ≡ true → GoodOpen kind s l it ⊎ GoodLock kind s l it → (leb it.kind 2 and good_item kind s l it) ≡ true
  unfolding good_item is_plain good_open good_lock missing look_up ◌if◌else◌
  item_so it h c =
      let h₁ = and_snd _ _ h in
      let h₂ = and_snd _ _ h₁ in
      ⊎_elim
      (λ (o : GoodOpen kind s l it).
      rw o.kind_one (and_both _ _ refl (and_both _ _ (and_fst _ _ h)
      (and_both _ _ (and_fst _ _ h₁) (and_both _ _ (and_fst _ _ h₂) (and_both _ _ (and_snd _ _ h₂)
      (and_both _ _ (le-leb _ _ o.mode_fits) (and_both _ _ (eq-eqb _ _ o.number_zero) (not_of_false _ (lt-leb _ _ o.there)))))))))
      )
      (λ (o : GoodLock kind s l it).
      rw o.kind_two (and_both _ _ refl (and_both _ _ (and_fst _ _ h)
      (and_both _ _ (and_fst _ _ h₁) (and_both _ _ (and_fst _ _ h₂) (and_both _ _ (and_snd _ _ h₂)
      (and_both _ _ (eq-eqb _ _ o.mode_one) (and_both _ _ (holder_so it.process (file_of l it) o.holder) (not_of_false _ (ne_eqb _ _ o.block))))))))
      )) c

  place_so : (i : ℕ) → i < 64 → good_place kind s l i ≡ true
  unfolding good_place ◌if◌else◌
  place_so i m =
      ⊎_elim
      (λ (v : Vacant l i). rw (eq-eqb _ _ v.kind_zero) v.zeros)
      (λ (v : Used kind s l i).
      let z : eqb (item_at l i).kind 0 ≡ false = ⊎_elim
      (λ (o : GoodOpen kind s l (item_at l i)). ne_eqb _ _ (λ (q : (item_at l i).kind ≡ 0). let w = o.kind_one in absurd (omega arith)))
      (λ (o : GoodLock kind s l (item_at l i)). ne_eqb _ _ (λ (q : (item_at l i).kind ≡ 0). let w = o.kind_two in absurd (omega arith))) v.good in
      rw z (and_both _ _ (lt-ltb _ _ v.below) (item_so (item_at l i) v.plain v.good)))
      (g.place i m)

  pub locks_so : sound_locks kind l s ≡ true
  unfolding sound_locks is_apart
  locks_so =
      and_both _ _ g.limits.capacity_good (and_both _ _ g.limits.open_good (and_both _ _ g.limits.lock_good (and_both _ _ g.limits.users_good
      (and_both _ _ (all_make (good_place kind s l) 64 place_so)
      (and_both _ _
      (all_make (is_apart l) 64 (λ i m. not_of_false _ (any_never (clash_at l i) i (λ j k. g.apart i j m (omega arith) (λ (q : i ≡ j). absurd (omega arith))))))
      (and_both _ _ (all_make (keeps_limits l) 16 (λ p k. g.keeps p k))
      (and_both _ _ (all_make (is_position kind l.positions) 16 (λ p k. unfold is_position in le-leb _ _ (g.next p k)))
      g.limits.rule_good)))))))

  -- its parts are in range
  number_fits : (i : ℕ) → i < 64 → ((item_at l i).kind < 3) × ((item_at l i).number < 4294967296)
  unfolding good_empty is_plain
  number_fits i m =
      ⊎_elim
      (λ (v : Vacant l i).
      let n : (item_at l i).number ≡ 0 = eqb-true _ _ (and_snd _ _ (and_snd _ _ (and_snd _ _ v.zeros))) in
      let k = v.kind_zero in
      (omega arith, omega arith))
      (λ (v : Used kind s l i).
      let n : (item_at l i).number ≤ top kind = leb-true _ _ (and_snd _ _ (and_snd _ _ (and_snd _ _ v.plain))) in
      let t = top_fits kind in (
        ⊎_elim (λ (o : GoodOpen kind s l (item_at l i)). let w = o.kind_one in omega arith)
            (λ (o : GoodLock kind s l (item_at l i)). let w = o.kind_two in omega arith) v.good,
        omega arith,
      ))
      (g.place i m)

  pub in-range : Shape l → ListInRange l
  in-range h = record {
    users_long = h.users_long;
    items_long = h.items_long;
    positions_long = h.positions_long;
    each = λ i m. record { kind_fits = (number_fits i m).0; name_long = h.names_long i m; number_fits = (number_fits i m).1 };
  }

-- ---- a list in bytes and its places

pub list_sound_of : (kind : Kind) (list s : List ℕ) → sound_list kind list s ≡ true → SoundLocks kind (unpack list) s
unfolding sound_list
list_sound_of kind list s h = locks_of kind (unpack list) s (and_snd _ _ h)

module _ (kind : Kind) (l : LockList) (s : List ℕ) (g : SoundLocks kind l s) (h : Shape l) where
  pub unpacked : unpack (pack l) ≡ l
  unpacked = unpack_pack l (in-range kind l s g h)

  pub list_sound_so : sound_list kind (pack l) s ≡ true
  unfolding sound_list
  list_sound_so = and_both _ _ (zero_packed l h.items_long) (rw unpacked (locks_so kind l s g))
