-- Calls that fill a list: each process opens its files, then locks its records, as far as places go. Assumes nothing.
use Prim.Native.Nat.{ℕ, zero, suc, ◌+◌, ◌*◌, ◌<◌, ◌≤◌}
use mathlib.Core.Path.{◌≡◌, refl, ap, subst, ◌∙◌}
use mathlib.Core.Bool.{true, false}
use mathlib.Core.List.{List}
use mathlib.Core.Logic.{⊎_elim}
use native.Mathlib.Omega.{arith}
use native.Mathlib.Nat.{mul-suc}
use lib.ListN.{replicate}
use lib.Dec.{eqb, ltb}
use borrow.Author.Tests.{eqb-true, eqb-false, eq-eqb, ltb-true, ltb-false, lt-ltb, le-ltb}
use Rattle.words.specs.Tests.{◌if◌else◌, count}
use Rattle.words.specs.Lists.{turns}
use Rattle.words.proofs.Tests.{either}
use Rattle.rules.specs.declared.kind.Kind.TheVariants.{Small}
use Rattle.rules.specs.declared.kind.Rule.TheVariants.{Mpm}
use Rattle.rules.specs.Kinds.{rule_of, highest, entries, top}
use Rattle.rules.specs.declared.file.File.{File}
use Rattle.rules.specs.declared.list.LockList.{LockList}
use Rattle.rules.specs.Serves.{Buffers, buffers, chosen, is_unknown}
use Rattle.rules.specs.Locks.{fresh_open, fresh_lock, unpack, pack, open_of, free_place, free_places, fresh_list, item_at}
use Rattle.rules.specs.Asks.{caller_file}
use Rattle.rules.specs.Codes.{is_new}
use Rattle.rules.specs.Effects.{placed, opened, locked_at, locked_run}
use Rattle.rules.specs.Several.{call_run}
use Rattle.rules.proofs.Packing.{pack_long}
use Rattle.rules.proofs.SoundList.{unpack_shape, list_sound_of, list_sound_so}
use Rattle.soundness.proofs.Kept.{SoundBoth}
use Rattle.soundness.proofs.Leaves.{MayOpen, MayLock}
use Rattle.soundness.proofs.Shapes.{SoundShape, packed, opened_shape, locked_shape}
use Rattle.sizing.specs.Sizes.{is_caller}
use Rattle.filling.specs.Book.{name_of, book, fcb_for, dma_for, file_no}
use Rattle.filling.specs.Least.{Calls, then}
use Rattle.filling.proofs.Book.{there, blocked, legal, caller-file, fcb_mode, fcb_record, fcb_bytes, dma_bytes}
use Rattle.filling.proofs.Codes.{CanOpen, CanLock, Leaves, through, open_does, lock_does}
use Rattle.filling.proofs.Placed.{one_more, Facts, has_place, can_open, can_lock, opened_facts, locked_facts}

-- the list after some calls, with what it holds
pub record At (c o k : ℕ) (callers : List ℕ) (opens locks : ℕ → ℕ) (r n : ℕ) : Type 0 where
  pub list : List ℕ
  pub calls : Calls (Small Mpm) callers book (fresh_list (Small Mpm) c o k 0 (replicate 16 0)) list
  pub both : SoundBoth (Small Mpm) list book
  pub facts : Facts c o k opens locks r n (unpack list)

-- the list that a call left, where that has its shape and is sound
module _ (l : LockList) (w : SoundShape (Small Mpm) l book) (list was : List ℕ) (e : list ≡ pack l) (s : SoundBoth (Small Mpm) was book) where
  left_both : SoundBoth (Small Mpm) list book
  left_both = rw e (record {
    image_sound = s.image_sound;
    list_long = pack_long l w.shape.items_long;
    list_sound = list_sound_so (Small Mpm) l book w.sound w.shape;
  })

  left_facts : (P : LockList → Type 0) → P l → P (unpack list)
  left_facts P x = rw e (packed P (Small Mpm) l book w x)

module _ (c o k : ℕ) (callers : List ℕ) (opens locks : ℕ → ℕ) (r n q : ℕ) (m : q < 16) (on : is_caller callers q ≡ true)
    (a : At c o k callers opens locks r (suc n)) where
  abbrev l : LockList
  l = unpack a.list

  room : free_place l < l.capacity
  room = has_place c o k opens locks r (suc n) l (list_sound_of (Small Mpm) a.list book a.both.list_sound) a.facts (omega arith)

  module _ (fits : opens q < o) where
    can : CanOpen q (opens q) l
    can = can_open c o k opens locks r (suc n) l (list_sound_of (Small Mpm) a.list book a.both.list_sound) a.facts q fits

    abbrev lent : Buffers
    lent = buffers (fcb_for (opens q) 0) (dma_for 0) a.list book

    file : caller_file q l (fcb_for (opens q) 0) ≡ file_no (opens q)
    file = caller-file q l (opens q) 0 m can.users can.file_fits

    may : MayOpen (Small Mpm) q lent
    unfolding entries
    may = record {
      legal = legal (opens q) 0 can.file_fits;
      there = rw file (there (opens q) can.file_fits);
      unopened = rw file (let e = can.unopened in omega arith);
      none_against = rw (file, fcb_mode (opens q) 0) can.none_against;
      within = can.within;
      room = room;
    }

    passes : Rattle.rules.proofs.Passed.Passed (Small Mpm) q 1 lent
    unfolding chosen is_unknown ◌if◌else◌
    passes = through 15 q (opens q) 0 0 a.list refl m a.both

    shape : SoundShape (Small Mpm) (placed (fresh_open q (name_of (opens q)) 1) l) book
    unfolding opened file_no
    shape = rw (file, fcb_mode (opens q) 0) at (opened_shape (Small Mpm) q 1 lent passes may)

    does : Leaves (call_run (Small Mpm) 15 q 1 lent) (pack (placed (fresh_open q (name_of (opens q)) 1) l))
    unfolding opened file_no
    does = open_does q (opens q) 0 a.list m a.both can room

    -- a process opens its next file; ..
    pub open_step : At c o k callers (one_more q opens) locks r n
    open_step = record {
      list = (call_run (Small Mpm) 15 q 1 lent).left.list;
      calls = then a.list a.calls 15 q 1 (fcb_for (opens q) 0) (dma_for 0) on
          (fcb_bytes (opens q) 0 can.file_fits (omega arith)) (dma_bytes 0 (omega arith)) does.image_is;
      both = left_both _ shape _ a.list does.list_is a.both;
      facts = left_facts _ shape _ a.list does.list_is a.both (Facts c o k (one_more q opens) locks r n)
          (opened_facts c o k opens locks r n l (unpack_shape a.list) (list_sound_of (Small Mpm) a.list book a.both.list_sound) a.facts q);
    }

  module _ (some : 1 ≤ opens q) (few : locks q < k) (high : r < 64) where
    abbrev id : ℕ
    id = open_of l q (file_no 0)

    may_lock : CanLock q r id l
    may_lock = can_lock c o k opens locks r (suc n) l (list_sound_of (Small Mpm) a.list book a.both.list_sound) a.facts q some few high

    abbrev lent_lock : Buffers
    lent_lock = buffers (fcb_for 0 r) (dma_for id) a.list book

    first_file : caller_file q l (fcb_for 0 r) ≡ file_no 0
    first_file = caller-file q l 0 r m may_lock.users (omega arith)

    places : 1 ≤ free_places l
    places = let e = a.facts.free in omega arith

    may_take : MayLock (Small Mpm) q 1 lent_lock
    unfolding is_new count top highest rule_of ◌if◌else◌
    may_take =
        let z : r + 0 ≡ r = omega arith in
        let v = may_lock.record_fits in
        record {
          is_open = rw first_file may_lock.below;
          is-unlocked = ap (λ (f : File). (item_at l (open_of l q f)).mode) first_file ∙ may_lock.unlocked;
          fits = rw (fcb_record 0 r) (omega arith);
          have_blocks = λ i l. rw (first_file, fcb_record 0 r) (blocked (r + i) (omega arith));
          none_others = λ i l. rw (first_file, fcb_record 0 r) (let y : r + i ≡ r = omega arith in rw y may_lock.none_others);
          within = may_lock.within;
          room = rw (first_file, fcb_record 0 r, z, may_lock.unheld) (let p = places in omega arith);
        }

    passes_lock : Rattle.rules.proofs.Passed.Passed (Small Mpm) q 1 lent_lock
    unfolding chosen is_unknown ◌if◌else◌
    passes_lock = through 42 q 0 r id a.list refl m a.both

    run_is : locked_run q (file_no 0) r 1 l ≡ placed (fresh_lock q (name_of 0) r) l
    unfolding locked_run locked_at turns file_no ◌if◌else◌
    run_is = let z : r + 0 ≡ r = omega arith in rw (z, may_lock.unheld) refl

    lock_shape : SoundShape (Small Mpm) (placed (fresh_lock q (name_of 0) r) l) book
    lock_shape = rw (first_file, fcb_record 0 r, run_is) at (locked_shape (Small Mpm) q 1 lent_lock passes_lock may_take)

    lock_left : Leaves (call_run (Small Mpm) 42 q 1 lent_lock) (pack (placed (fresh_lock q (name_of 0) r) l))
    lock_left = lock_does q r id a.list m a.both may_lock places

    -- .. or locks the next record
    pub lock_step : At c o k callers opens (one_more q locks) (suc r) n
    lock_step = record {
      list = (call_run (Small Mpm) 42 q 1 lent_lock).left.list;
      calls = then a.list a.calls 42 q 1 (fcb_for 0 r) (dma_for id) on (fcb_bytes 0 r (omega arith) (omega arith))
          (dma_bytes id (let y = may_lock.below in omega arith)) lock_left.image_is;
      both = left_both _ lock_shape _ a.list lock_left.list_is a.both;
      facts = left_facts _ lock_shape _ a.list lock_left.list_is a.both (Facts c o k opens (one_more q locks) (suc r) n)
          (locked_facts c o k opens locks r n l (unpack_shape a.list) (list_sound_of (Small Mpm) a.list book a.both.list_sound) a.facts q);
    }

-- ---- many

-- d more for a process
abbrev pub more : ℕ → ℕ → (ℕ → ℕ) → ℕ → ℕ
more q d f x = f x + (d if eqb q x else 0)

more_none : (q : ℕ) (f : ℕ → ℕ) → f ≡ more q 0 f
unfolding ◌if◌else◌
more_none q f = λ i x. same x i
  where
    same : (x : ℕ) → f x ≡ f x + (0 if eqb q x else 0)
    same x = ⊎_elim (λ (e : eqb q x ≡ true). rw e (omega arith)) (λ (e : eqb q x ≡ false). rw e (omega arith)) (either (eqb q x))

more_next : (q d : ℕ) (f : ℕ → ℕ) → more q d (one_more q f) ≡ more q (suc d) f
unfolding ◌if◌else◌
more_next q d f = λ i x. same x i
  where
    same : (x : ℕ) → f x + (1 if eqb q x else 0) + (d if eqb q x else 0) ≡ f x + (suc d if eqb q x else 0)
    same x = ⊎_elim (λ (e : eqb q x ≡ true). rw e (omega arith)) (λ (e : eqb q x ≡ false). rw e (omega arith)) (either (eqb q x))

one_own : (q : ℕ) (f : ℕ → ℕ) → one_more q f q ≡ suc (f q)
unfolding ◌if◌else◌
one_own q f = rw (eq-eqb q q refl) (omega arith)

module _ (c o k : ℕ) (callers : List ℕ) where
  -- a process opens d files, ..
  pub opens_more : (d : ℕ) (opens locks : ℕ → ℕ) (r n q : ℕ) → q < 16 → is_caller callers q ≡ true → opens q + d ≤ o
      → At c o k callers opens locks r (n + d) → At c o k callers (more q d opens) locks r n
  opens_more zero opens locks r n q m on fits a =
      let y : n + 0 ≡ n = omega arith in
      subst (λ (f : ℕ → ℕ). At c o k callers f locks r n) (more_none q opens) (subst (λ (x : ℕ). At c o k callers opens locks r x) y a)
  opens_more (suc d) opens locks r n q m on fits a =
      let y : n + suc d ≡ suc (n + d) = omega arith in
      subst (λ (f : ℕ → ℕ). At c o k callers f locks r n) (more_next q d opens)
      (opens_more d (one_more q opens) locks r n q m on (let e = one_own q opens in omega arith)
      (open_step c o k callers opens locks r (n + d) q m on (subst (λ (x : ℕ). At c o k callers opens locks r x) y a) (omega arith)))

  -- .. or locks d records
  pub locks_more : (d : ℕ) (opens locks : ℕ → ℕ) (r n q : ℕ) → q < 16 → is_caller callers q ≡ true → 1 ≤ opens q → locks q + d ≤ k → r + d ≤ 64
      → At c o k callers opens locks r (n + d) → At c o k callers opens (more q d locks) (r + d) n
  locks_more zero opens locks r n q m on some fits high a =
      let y : n + 0 ≡ n = omega arith in
      let z : r ≡ r + 0 = omega arith in
      subst (λ (x : ℕ). At c o k callers opens (more q 0 locks) x n) z
      (subst (λ (f : ℕ → ℕ). At c o k callers opens f r n) (more_none q locks) (subst (λ (x : ℕ). At c o k callers opens locks r x) y a))
  locks_more (suc d) opens locks r n q m on some fits high a =
      let y : n + suc d ≡ suc (n + d) = omega arith in
      let z : suc r + d ≡ r + suc d = omega arith in
      subst (λ (x : ℕ). At c o k callers opens (more q (suc d) locks) x n) z
      (subst (λ (f : ℕ → ℕ). At c o k callers opens f (suc r + d) n) (more_next q d locks)
      (locks_more d opens (one_more q locks) (suc r) n q m on some (let e = one_own q locks in omega arith) (omega arith)
      (lock_step c o k callers opens locks r (n + d) q m on (subst (λ (x : ℕ). At c o k callers opens locks r x) y a) some (omega arith) (omega arith))))

-- ---- process after process

-- so much for each process below q, ..
abbrev pub below : ℕ → ℕ → ℕ → ℕ
below q d x = d if ltb x q else 0

below_next : (q d : ℕ) → more q d (below q d) ≡ below (suc q) d
unfolding ◌if◌else◌
below_next q d = λ i x. same x i
  where
    same : (x : ℕ) → (d if ltb x q else 0) + (d if eqb q x else 0) ≡ (d if ltb x (suc q) else 0)
    same x =
        ⊎_elim
        (λ (e : eqb q x ≡ true). let z = eqb-true q x e in rw (e, le-ltb x q (omega arith), lt-ltb x (suc q) (omega arith)) (omega arith))
        (λ (e : eqb q x ≡ false). let z = eqb-false q x e in ⊎_elim
        (λ (m : ltb x q ≡ true). let w = ltb-true x q m in rw (e, m, lt-ltb x (suc q) (omega arith)) (omega arith))
        (λ (m : ltb x q ≡ false). let w = ltb-false x q m in rw (e, m, le-ltb x (suc q) (past x w z)) (omega arith))
        (either (ltb x q)))
        (either (eqb q x))
      where
        past : (x : ℕ) → q ≤ x → (q ≡ x → ⊥) → suc q ≤ x
        past x w z = ⊎_elim (λ (m : ltb q x ≡ true). let v = ltb-true q x m in omega arith)
            (λ (m : ltb q x ≡ false). let v = ltb-false q x m in absurd (z (omega arith))) (either (ltb q x))

none_below : (d : ℕ) → (λ (x : ℕ). 0) ≡ below 0 d
unfolding ◌if◌else◌
none_below d = λ i x. same x i
  where
    same : (x : ℕ) → 0 ≡ (d if ltb x 0 else 0)
    same x = rw (le-ltb x 0 (omega arith)) refl

own_below : (q d : ℕ) → below q d q ≡ 0
unfolding ◌if◌else◌
own_below q d = rw (le-ltb q q (omega arith)) refl

module _ (c o k p : ℕ) (callers : List ℕ) (m : p ≤ 16) (on : (q : ℕ) → q < p → is_caller callers q ≡ true) where
  -- .. opened, ..
  pub all_open : (q n : ℕ) → q ≤ p → At c o k callers (λ (x : ℕ). 0) (λ (x : ℕ). 0) 0 (o * q + n) → At c o k callers (below q o) (λ (x : ℕ). 0) 0 n
  all_open zero n h a =
      let z : o * 0 + n ≡ n = omega arith in
      subst (λ (f : ℕ → ℕ). At c o k callers f (λ (x : ℕ). 0) 0 n) (none_below o) (subst (λ (x : ℕ). At c o k callers (λ (y : ℕ). 0) (λ (y : ℕ). 0) 0 x) z a)
  all_open (suc q) n h a =
      let z : o * suc q + n ≡ o * q + (n + o) = omega (arith, mul-suc o q) in
      let b = all_open q (n + o) (omega arith) (subst (λ (x : ℕ). At c o k callers (λ (y : ℕ). 0) (λ (y : ℕ). 0) 0 x) z a) in
      subst (λ (f : ℕ → ℕ). At c o k callers f (λ (x : ℕ). 0) 0 n) (below_next q o)
      (opens_more c o k callers o (below q o) (λ (x : ℕ). 0) 0 n q (omega arith) (on q (omega arith)) (let e = own_below q o in omega arith) b)

  -- .. and locked
  module _ (opens : ℕ → ℕ) (some : (x : ℕ) → x < p → 1 ≤ opens x) where
    -- each process below q locks k records, where each has the first file open
    pub all_locked : (q n : ℕ) → q ≤ p → k * q ≤ 64 → At c o k callers opens (λ (x : ℕ). 0) 0 (k * q + n) → At c o k callers opens (below q k) (k * q) n
    all_locked zero n h few a =
        let z : k * 0 + n ≡ n = omega arith in
        let y : 0 ≡ k * 0 = omega arith in
        subst (λ (x : ℕ). At c o k callers opens (below 0 k) x n) y
        (subst (λ (f : ℕ → ℕ). At c o k callers opens f 0 n) (none_below k) (subst (λ (x : ℕ). At c o k callers opens (λ (y : ℕ). 0) 0 x) z a))
    all_locked (suc q) n h few a =
        let s = mul-suc k q in
        let z : k * suc q + n ≡ k * q + (n + k) = omega arith in
        let y : k * q + k ≡ k * suc q = omega arith in
        let b = all_locked q (n + k) (omega arith) (omega arith) (subst (λ (x : ℕ). At c o k callers opens (λ (y : ℕ). 0) 0 x) z a) in
        subst (λ (x : ℕ). At c o k callers opens (below (suc q) k) x n) y
        (subst (λ (f : ℕ → ℕ). At c o k callers opens f (k * q + k) n) (below_next q k)
        (locks_more c o k callers k opens (below q k) (k * q) n q (omega arith) (on q (omega arith)) (some q (omega arith))
        (let e = own_below q k in omega arith)
        (omega arith) b))
