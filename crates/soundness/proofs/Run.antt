-- 42: the run's records locked one after the other, each with a place left for it. Assumes nothing.
use Prim.Native.Nat.{ℕ, zero, suc, ◌+◌, ◌≤◌, ◌<◌}
use mathlib.Core.Path.{◌≡◌, refl, sym, ap, subst, ◌∙◌}
use mathlib.Core.Bool.{true, false}
use mathlib.Core.List.{List}
use mathlib.Core.Logic.{◌⊎◌, inl, inr, ⊎_elim}
use native.Mathlib.Omega.{arith}
use lib.ListN.{length, set}
use lib.Dec.{eqb}
use borrow.Author.Tests.{eqb-true, eq-eqb, le-leb}
use Rattle.words.specs.Tests.{◌and◌, ◌or◌, ◌if◌else◌, all, count}
use Rattle.words.specs.Lists.{turns}
use Rattle.words.proofs.Tests.{either, equal?, never, and_fst, and_snd, lowest_below, same_test}
use Rattle.words.proofs.Counts.{count_one, count_yes, count_not, count_any, count_grows}
use Rattle.words.proofs.Sets.{and_both, not_of_false, not_of_true}
use Rattle.rules.specs.declared.kind.Kind.{Kind}
use Rattle.rules.specs.declared.file.File.{File}
use Rattle.rules.specs.declared.item.Item.{Item}
use Rattle.rules.specs.declared.list.LockList.{LockList}
use Rattle.rules.specs.Drive.{legal_name, block_of}
use Rattle.rules.specs.Locks.{item_at, user_of, file_of, with_items, fresh_lock, is_kind_by, is_kind_by_at, is_empty_at, free_place, free_places, is_low, locks_by, held}
use Rattle.rules.specs.Locks.{locked_by_other, same_file, clash, opens_name}
use Rattle.rules.specs.Codes.{is_new}
use Rattle.rules.specs.Effects.{placed, locked_at}
use Rattle.rules.proofs.Items.{name_sym}
use Rattle.rules.proofs.SoundList.{Shape, Holder, is_plain, SoundLocks, capacity_fits}
use Rattle.soundness.proofs.Placed.{Room, free_room, Fits, at_here, at_other, set_shape, set_sound, kind_more}
use Rattle.soundness.proofs.Held.{IsLock, held_found, held_some, others_found}
use Rattle.rules.specs.Kinds.{top}

clash_two : (p : ℕ) (name : List ℕ) (k : ℕ) (x : Item) → clash (fresh_lock p name k) x ≡ true → (eqb x.kind 2 and eqb k x.number) ≡ true
unfolding clash ◌and◌ ◌or◌
clash_two p name k x h = h

-- what 42 has made sure of
pub record Takes (kind : Kind) (s : List ℕ) (l : LockList) (p : ℕ) (f : File) (r n : ℕ) : Type 0 where
  -- the process is one of 0 to 15
  pub process_fits : p ≤ 15
  -- the file is under the process's user
  pub under : f.user ≡ user_of l p
  -- its name has eleven bytes, ..
  pub name_long : length f.name ≡ 11
  -- .. is legal, ..
  pub legal : legal_name f.name 0 ≡ true
  -- .. and has its high bits zero
  pub low : all (is_low f.name) 11 ≡ true
  -- the process has the file open unlocked
  pub holder : Holder l p f.name
  -- no record number of the run is above the highest
  pub fits : (k : ℕ) → k < n → r + k ≤ top kind
  -- each record of the run has a block, ..
  pub have_blocks : (k : ℕ) → k < n → block_of kind s f (r + k) ≡ 0 → ⊥
  -- .. and no other process has locked it
  pub none_others : (k : ℕ) → k < n → locked_by_other l p f (r + k) ≡ false
  -- the process's locks and the records of the run together are within the lock limit
  pub within : locks_by l p + n ≤ l.locklimit
  -- the records of the run that the process does not hold are no more than the free places
  pub room : count (is_new l p f r) n ≤ free_places l

-- a place that the run has filled so far
pub record Filled (l₀ l : LockList) (p : ℕ) (f : File) (r k i : ℕ) : Type 0 where
  -- how far into the run the record is whose lock stands there, ..
  pub step : ℕ
  -- .. one of the k records so far
  pub before : step < k
  -- the place was empty before the run
  pub was_empty : (item_at l₀ i).kind ≡ 0
  -- it holds a lock of that record by the process
  pub now : item_at l i ≡ fresh_lock p f.name (r + step)

-- after k records
pub record Running (kind : Kind) (s : List ℕ) (l₀ : LockList) (p : ℕ) (f : File) (r k : ℕ) : Type 0 where
  -- the items that the list then has
  pub items : List Item
  -- the list left is the one before the run with these items
  pub is : turns (locked_at p f r) k l₀ ≡ with_items l₀ items
  -- the list left has its shape, ..
  pub shape : Shape (with_items l₀ items)
  -- .. and is sound against the image
  pub sound : SoundLocks kind (with_items l₀ items) s
  -- each place holds what it held before the run, or is one that the run has filled
  pub place : (i : ℕ) → i < 64 → (item_at (with_items l₀ items) i ≡ item_at l₀ i) ⊎ Filled l₀ (with_items l₀ items) p f r k i
  -- the free places left, and the records so far that the process did not hold, add up to the free places before
  pub free : free_places (with_items l₀ items) + count (is_new l₀ p f r) k ≡ free_places l₀
  -- the process has at most k locks more than before
  pub locks : locks_by (with_items l₀ items) p ≤ locks_by l₀ p + k

module _ (kind : Kind) (s : List ℕ) (l₀ : LockList) (p : ℕ) (f : File) (r n : ℕ) (h₀ : Shape l₀) (g₀ : SoundLocks kind l₀ s) (t : Takes kind s l₀ p f r n) where
  mine : record { user = user_of l₀ p; name = f.name } ≡ f
  mine = λ i. record { user = sym t.under i; name = f.name }

  module _ (k : ℕ) (below : k < n) (w : Running kind s l₀ p f r k) where
    abbrev l : LockList
    l = with_items l₀ w.items

    abbrev it : Item
    it = fresh_lock p f.name (r + k)

    -- what the run has filled so far is no lock of this record
    held_same : held l p f (r + k) ≡ held l₀ p f (r + k)
    held_same = same_test _ _
        (λ (q : held l p f (r + k) ≡ true).
        let x = held_some l p f (r + k) q in
        ⊎_elim
        (λ (e : item_at l x.0 ≡ item_at l₀ x.0).
        held_found l₀ p f (r + k) x.0 x.1 (rw e at x.2) (subst (λ (y : Item). IsLock f (r + k) (user_of l₀ y.process) y) e x.3))
        (λ (e : Filled l₀ l p f r k x.0).
        let a : r + e.step ≡ r + k = sym (ap (λ (y : Item). y.number) e.now) ∙ x.3.number in
        let b = e.before in
        absurd (omega arith)) (w.place x.0 x.1))
        (λ (q : held l₀ p f (r + k) ≡ true).
        let x = held_some l₀ p f (r + k) q in
        ⊎_elim
        (λ (e : item_at l x.0 ≡ item_at l₀ x.0).
        held_found l p f (r + k) x.0 x.1 (rw e x.2) (subst (λ (y : Item). IsLock f (r + k) (user_of l₀ y.process) y) (sym e) x.3))
        (λ (e : Filled l₀ l p f r k x.0).
        let a = e.was_empty in
        let b = x.3.kind_two in
        absurd (omega arith)) (w.place x.0 x.1))

    holder_now : Holder l p f.name
    unfolding opens_name
    holder_now =
        let o = t.holder in
        ⊎_elim
        (λ (e : item_at l o.place ≡ item_at l₀ o.place). record { place = o.place; below = o.below; opens = rw e o.opens; mode = rw e o.mode })
        (λ (e : Filled l₀ l p f r k o.place).
        let a = e.was_empty in
        let b : (item_at l₀ o.place).kind ≡ 1 = eqb-true _ _ (and_fst _ _ o.opens) in
        absurd (omega arith)) (w.place o.place o.below)

    module _ (new : held l p f (r + k) ≡ false) where
      new_count : count (is_new l₀ p f r) (suc k) ≡ count (is_new l₀ p f r) k + 1
      unfolding is_new
      new_count = count_yes (is_new l₀ p f r) k (not_of_false _ (sym held_same ∙ new))

      some_free : 1 ≤ free_places l
      some_free =
          let a = w.free in
          let b = count_grows (is_new l₀ p f r) (suc k) n below in
          let c = t.room in
          omega (arith, new_count)

      -- a record that the process does not hold yet has a place left for it
      pub run_room : free_place l < l₀.capacity
      unfolding free_place free_places
      run_room = lowest_below (is_empty_at l) l₀.capacity (count_any (is_empty_at l) l₀.capacity some_free)

      abbrev j : ℕ
      j = free_place l

      here : Room l j
      here = free_room l run_room

      inside : j < 64
      inside = let a = capacity_fits l w.sound.limits in let b = run_room in omega arith

      -- a clash is a lock of this record, by the caller or by another
      clash_lock : (x : Item) → (clash it x and same_file (file_of l it) (file_of l x)) ≡ true → IsLock f (r + k) (user_of l x.process) x
      unfolding same_file
      clash_lock x q =
          let a = clash_two p f.name (r + k) x (and_fst _ _ q) in
          let b = and_snd _ _ q in
          record {
            kind_two = eqb-true x.kind 2 (and_fst _ _ a);
            number = sym (eqb-true (r + k) x.number (and_snd _ _ a));
            under = sym (t.under ∙ eqb-true (user_of l p) (user_of l x.process) (and_fst _ _ b));
            named = name_sym f.name x.name (and_snd _ _ b);
          }

      none_clash : (i : ℕ) → i < 64 → (clash it (item_at l i) and same_file (file_of l it) (file_of l (item_at l i))) ≡ false
      none_clash i m =
          ⊎_elim
          (λ (q : (clash it (item_at l i) and same_file (file_of l it) (file_of l (item_at l i))) ≡ true).
          let x = clash_lock (item_at l i) q in
          ⊎_elim
          (λ (z : (item_at l i).process ≡ p). absurd (never (held_found l p f (r + k) i m z x) new))
          (λ (z : (item_at l i).process ≡ p → ⊥). ⊎_elim
          (λ (e : item_at l i ≡ item_at l₀ i).
          absurd (never (others_found l₀ p f (r + k) i m (λ y. z (ap (λ (v : Item). v.process) e ∙ y))
          (subst (λ (y : Item). IsLock f (r + k) (user_of l₀ y.process) y) e x)) (t.none_others k below)))
          (λ (e : Filled l₀ l p f r k i). absurd (z (ap (λ (v : Item). v.process) e.now))) (w.place i m))
          (equal? (item_at l i).process p))
          (λ q. q) (either (clash it (item_at l i) and same_file (file_of l it) (file_of l (item_at l i))))

      it_plain : is_plain kind it ≡ true
      unfolding is_plain
      it_plain = and_both _ _ (le-leb p 15 t.process_fits) (and_both _ _ t.legal (and_both _ _ t.low (le-leb (r + k) (top kind) (t.fits k below))))

      it_fits : Fits kind s l j it
      unfolding is_kind_by ◌and◌
      it_fits = record {
        name_long = t.name_long;
        plain = it_plain;
        good = inr (record { kind_two = refl; mode_one = refl; holder = holder_now; block = rw mine (t.have_blocks k below) });
        no_clash = λ i m q. none_clash i m;
        opens_fit = λ q z. absurd (never z refl);
        locks_fit = λ q z.
            let e : p ≡ q = eqb-true p q z in
            let a = w.locks in
            let b = t.within in
            rw (← e) (omega arith);
      }

      placed_now : Running kind s l₀ p f r (suc k)
      unfolding turns locked_at placed ◌if◌else◌ free_places is_empty_at locks_by
      placed_now =
          let xs = set w.items j it in
          record {
            items = xs;
            is = ap (λ (m : LockList). locked_at p f r k m) w.is ∙ rw new refl;
            shape = set_shape l j it w.shape inside t.name_long;
            sound = set_sound kind s l j it w.shape w.sound here it_fits;
            place = λ i m.
                ⊎_elim
                (λ (q : i ≡ j). inr (record {
                  step = k;
                  before = omega arith;
                  was_empty = rw q (⊎_elim (λ (e : item_at l j ≡ item_at l₀ j). sym (ap (λ (v : Item). v.kind) e) ∙ here.empty)
                      (λ (e : Filled l₀ l p f r k j). e.was_empty) (w.place j inside));
                  now = rw q (at_here l j it w.shape inside);
                }))
                (λ (q : i ≡ j → ⊥). ⊎_elim
                (λ (e : item_at l i ≡ item_at l₀ i). inl (at_other l j it w.shape inside i q ∙ e))
                (λ (e : Filled l₀ l p f r k i). inr (record {
                  step = e.step;
                  before = (let b = e.before in omega arith);
                  was_empty = e.was_empty;
                  now = at_other l j it w.shape inside i q ∙ e.now;
                }))
                (w.place i m))
                (equal? i j);
            free =
                let c : count (is_empty_at l) l₀.capacity ≡ count (is_empty_at (with_items l₀ xs)) l₀.capacity + 1 =
                count_one (is_empty_at (with_items l₀ xs)) (is_empty_at l) j l₀.capacity run_room
                (ap (λ (v : Item). eqb v.kind 0) (at_here l j it w.shape inside)) (eq-eqb (item_at l j).kind 0 here.empty)
                (λ i m q. ap (λ (v : Item). eqb v.kind 0) (sym (at_other l j it w.shape inside i q))) in
                let a : count (is_empty_at l) l₀.capacity + count (is_new l₀ p f r) k ≡ count (is_empty_at l₀) l₀.capacity = w.free in
                omega (arith, new_count);
            locks =
                let a : count (is_kind_by_at l 2 p) 64 ≤ count (is_kind_by_at l₀ 2 p) 64 + k = w.locks in
                let b = kind_more l j it w.shape inside here.empty 2 p (λ (z : 2 ≡ 0). absurd (omega arith)) (unfold is_kind_by ◌and◌ in eq-eqb p p refl) in
                omega arith;
          }

    kept_now : held l p f (r + k) ≡ true → Running kind s l₀ p f r (suc k)
    unfolding turns locked_at ◌if◌else◌ is_new
    kept_now old = record {
      items = w.items;
      is = ap (λ (m : LockList). locked_at p f r k m) w.is ∙ rw old refl;
      shape = w.shape;
      sound = w.sound;
      place = λ i m. ⊎_elim (λ e. inl e)
          (λ (e : Filled l₀ l p f r k i). inr (record { step = e.step; before = (let b = e.before in omega arith); was_empty = e.was_empty; now = e.now }))
          (w.place i m);
      free =
          let c = count_not (is_new l₀ p f r) k (not_of_true _ (sym held_same ∙ old)) in
          let a = w.free in
          omega arith;
      locks = let a = w.locks in omega arith;
    }

  -- after each record of the run the list is sound, and holds the locks so far
  pub running : (k : ℕ) → k ≤ n → Running kind s l₀ p f r k
  unfolding turns count
  running zero m = record {
    items = l₀.items;
    is = refl;
    shape = h₀;
    sound = g₀;
    place = λ i m. inl refl;
    free = omega arith;
    locks = omega arith;
  }
  running (suc k) m =
      let w = running k (omega arith) in
      let below : k < n = omega arith in
      ⊎_elim (λ (q : held (with_items l₀ w.items) p f (r + k) ≡ true). kept_now k below w q)
      (λ (q : held (with_items l₀ w.items) p f (r + k) ≡ false). placed_now k below w q)
      (either (held (with_items l₀ w.items) p f (r + k)))
