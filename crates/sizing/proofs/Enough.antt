-- Where the capacity is at least as many times the sum of both limits as there are callers, a call finds the places that it needs. Assumes nothing.
use Prim.Native.Nat.{ℕ, zero, suc, ◌+◌, ◌<◌, ◌≤◌}
use mathlib.Core.Path.{◌≡◌, refl, sym, ap, ◌∙◌}
use mathlib.Core.Bool.{true, false}
use mathlib.Core.List.{List}
use mathlib.Core.Logic.{⊎_elim}
use native.Mathlib.Omega.{arith}
use native.Mathlib.Nat.{mul_comm, mul-le-mul_left}
use lib.ListN.{length}
use borrow.Author.Tests.{eqb-true, eq-eqb, leb-true}
use Rattle.words.specs.Tests.{◌if◌else◌, count}
use Rattle.words.proofs.Tests.{either, never, and_fst, and_snd, any_never, lowest_over}
use Rattle.words.proofs.Counts.{count_zero, count_up, count_within}
use Rattle.words.proofs.Sets.{not_of_true}
use Rattle.rules.specs.declared.kind.Kind.{Kind}
use Rattle.rules.specs.declared.list.LockList.{LockList}
use Rattle.rules.specs.Serves.{Buffers}
use Rattle.rules.specs.Locks.{item_at, unpack, is_kind_by, is_kind_by_at, opens_by, locks_by, is_empty_at, free_place, free_places, keeps_limits, sound_locks, sound_list}
use Rattle.rules.specs.Asks.{caller_file, record_of}
use Rattle.rules.specs.Codes.{is_new}
use Rattle.rules.specs.Call.{call}
use Rattle.rules.proofs.Lists.{is_used_at, items_add_up}
use Rattle.rules.proofs.SoundList.{SoundLocks, Vacant, Used, locks_of, capacity_fits}
use Rattle.rules.proofs.Passed.{Passed}
use Rattle.sizing.specs.Sizes.{is_caller, OnlyBy, Suffices, NotTurnedAway}
use Rattle.sizing.proofs.Codes.{gives_11, gives_14}
use Rattle.sizing.proofs.Sums.{callers_few, sum_less}

-- each place is used or empty
used_or_not : (l : LockList) (n : ℕ) → count (is_used_at l) n + count (is_empty_at l) n ≡ n
unfolding is_used_at count ◌if◌else◌
used_or_not l zero = refl
used_or_not l (suc n) =
    let k = used_or_not l n in
    ⊎_elim (λ (e : is_empty_at l n ≡ true). rw e (omega arith)) (λ (e : is_empty_at l n ≡ false). rw e (omega arith)) (either (is_empty_at l n))

module _ (kind : Kind) (callers : List ℕ) (l : LockList) (s : List ℕ) (h : sound_locks kind l s ≡ true) (only : OnlyBy callers l) where
  sound : SoundLocks kind l s
  sound = locks_of kind l s h

  abbrev both : ℕ
  both = l.openlimit + l.locklimit

  -- a process that never calls has no item
  none_by : (k q : ℕ) → (k ≡ 0 → ⊥) → is_caller callers q ≡ false → count (is_kind_by_at l k q) 64 ≡ 0
  unfolding is_kind_by_at is_kind_by
  none_by k q n out = count_zero (is_kind_by_at l k q) 64 (any_never (is_kind_by_at l k q) 64 (λ i m. ⊎_elim
      (λ (y : is_kind_by_at l k q i ≡ true).
      let a : (item_at l i).kind ≡ k = eqb-true _ _ (and_fst _ _ y) in
      let b : (item_at l i).process ≡ q = eqb-true _ _ (and_snd _ _ y) in
      absurd (never (only.each i m (λ z. n (sym a ∙ z))) (ap (is_caller callers) b ∙ out)))
      (λ (y : is_kind_by_at l k q i ≡ false). y) (either (is_kind_by_at l k q i))))

  -- one that does has at most both limits
  each_most : (q : ℕ) → q < 16 → opens_by l q + locks_by l q ≤ (both if is_caller callers q else 0)
  unfolding opens_by locks_by keeps_limits ◌if◌else◌
  each_most q m =
      ⊎_elim
      (λ (y : is_caller callers q ≡ true).
      let w = sound.keeps q m in
      let a : count (is_kind_by_at l 1 q) 64 ≤ l.openlimit = leb-true _ _ (and_fst _ _ w) in
      let b : count (is_kind_by_at l 2 q) 64 ≤ l.locklimit = leb-true _ _ (and_snd _ _ w) in
      rw y (omega arith))
      (λ (y : is_caller callers q ≡ false).
      let a = none_by 1 q (λ (z : 1 ≡ 0). absurd (omega arith)) y in
      let b = none_by 2 q (λ (z : 2 ≡ 0). absurd (omega arith)) y in
      rw y (omega arith))
      (either (is_caller callers q))

  beyond : (i : ℕ) → l.capacity ≤ i → i < 64 → is_used_at l i ≡ false
  unfolding is_used_at is_empty_at
  beyond i m n =
      ⊎_elim (λ (v : Vacant l i). not_of_true _ (eq-eqb _ _ v.kind_zero)) (λ (v : Used kind s l i). let k = v.below in absurd (omega arith))
      (sound.place i n)

  -- a caller that can still take d items finds d places
  pub room : (p d : ℕ) → p < 16 → is_caller callers p ≡ true → opens_by l p + locks_by l p + d ≤ both
      → Suffices (length callers) l.capacity l.openlimit l.locklimit → d ≤ free_places l
  unfolding Suffices free_places
  room p d m on w enough =
      let a = items_add_up kind l s h in
      let b = count_up (is_used_at l) l.capacity 64 (capacity_fits l sound.limits) beyond in
      let c = used_or_not l l.capacity in
      let e = sum_less (λ (q : ℕ). opens_by l q + locks_by l q) (is_caller callers) both p d 16 m on w each_most in
      let f = mul-le-mul_left both (callers_few callers 16) in
      let g = mul_comm both (length callers) in
      omega arith

-- ---- one call

module _ (kind : Kind) (callers : List ℕ) (n p c : ℕ) (b : Buffers) (on : is_caller callers p ≡ true) (only : OnlyBy callers (unpack b.list))
    (enough : Suffices (length callers) (unpack b.list).capacity (unpack b.list).openlimit (unpack b.list).locklimit) where
  abbrev l : LockList
  l = unpack b.list

  sound_of : Passed kind p c b → sound_locks kind l b.image ≡ true
  unfolding sound_list
  sound_of ok = and_snd _ _ ok.ready.list_sound

  keeps_of : Passed kind p c b → (opens_by l p ≤ l.openlimit) × (locks_by l p ≤ l.locklimit)
  unfolding keeps_limits
  keeps_of ok = let w = (locks_of kind l b.image (sound_of ok)).keeps p ok.process_fits in (leb-true _ _ (and_fst _ _ w), leb-true _ _ (and_snd _ _ w))

  -- a place below the capacity is empty where some are
  full_none : l.capacity ≤ free_place l → free_places l ≡ 0
  unfolding free_place free_places
  full_none w = count_zero (is_empty_at l) l.capacity (any_never (is_empty_at l) l.capacity (λ j m. lowest_over (is_empty_at l) l.capacity j w m))

  -- the call answers neither 255/11 nor 14/0
  pub not_turned_away : NotTurnedAway (call kind n p c b)
  not_turned_away = record {
    place_left = λ e.
        let w = gives_11 kind n p c b e in
        let a = w.1.within in
        let z = (keeps_of w.0).1 in
        let k = room kind callers l b.image (sound_of w.0) only p 1 w.0.process_fits on (omega arith) enough in
        let f = full_none w.1.full in
        absurd (omega arith);
    places_left = λ e.
        let w = gives_14 kind n p c b e in
        let a = w.1.within in
        let z = (keeps_of w.0).0 in
        let k = room kind callers l b.image (sound_of w.0) only p c w.0.process_fits on (omega arith) enough in
        let f = w.1.few in
        let v = count_within (is_new l p (caller_file p l b.fcb) (record_of b.fcb)) c in
        absurd (omega arith);
  }
