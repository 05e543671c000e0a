-- What a list holds after opens of the book's files and locks of its first file's records, and that one more leaves it so. Assumes nothing.
use Prim.Native.Nat.{ℕ, suc, ◌+◌, ◌<◌, ◌≤◌}
use mathlib.Core.Path.{◌≡◌, refl, sym, ap, subst, ◌∙◌}
use mathlib.Core.Bool.{true, false}
use mathlib.Core.List.{List}
use mathlib.Core.Logic.{◌⊎◌, inl, inr, ⊎_elim}
use native.Mathlib.Omega.{arith}
use lib.ListN.{set, replicate}
use lib.Dec.{eqb}
use borrow.Author.Tests.{eqb-true, eq-eqb, ne_eqb, leb-true}
use Rattle.words.specs.Tests.{◌and◌, ◌or◌, ◌if◌else◌, any, count, lowest}
use Rattle.words.proofs.Tests.{either, equal?, and_snd, any_found, any_some, any_never, lowest_none, lowest_below, lowest_holds}
use Rattle.words.proofs.Counts.{count_one, count_any, any_count}
use Rattle.words.proofs.Sets.{and_left, and_last}
use Rattle.rules.specs.declared.kind.Kind.TheVariants.{Small}
use Rattle.rules.specs.declared.kind.Rule.TheVariants.{Mpm}
use Rattle.rules.specs.declared.item.Item.{Item}
use Rattle.rules.specs.declared.list.LockList.{LockList}
use Rattle.rules.specs.Locks.{item_at, with_items, fresh_open, fresh_lock, opens_name, opens_name_at, open_of, opens_file, opens_file_at, locks_record, locks_record_at}
use Rattle.rules.specs.Locks.{is_others_lock, locked_by_other, is_own_lock, held, is_kind_by, is_kind_by_at, opens_by, locks_by, is_empty_at, free_place, free_places, is_limit}
use Rattle.rules.specs.Codes.{stands_against, stands_against_at}
use Rattle.rules.specs.Effects.{placed}
use Rattle.rules.proofs.Items.{open_is, open_so, name_refl}
use Rattle.rules.proofs.SoundList.{Shape, SoundLocks, capacity_fits}
use Rattle.soundness.proofs.Placed.{Room, free_room, at_here, at_other, kind_count, kind_more}
use Rattle.filling.specs.Book.{name_of, book, file_no}
use Rattle.filling.proofs.Book.{name_tells}
use Rattle.filling.proofs.Codes.{CanOpen, CanLock}

-- one more for a process
abbrev pub one_more : ℕ → (ℕ → ℕ) → ℕ → ℕ
one_more q f x = f x + (1 if eqb q x else 0)

-- an open, unlocked, of one of the files that its process has opened
pub record OpenOf (opens : ℕ → ℕ) (it : Item) : Type 0 where
  pub mode : it.mode ≡ 1
  pub file : ℕ
  pub below : file < opens it.process
  pub name : it.name ≡ name_of file

-- each process x has the files 0 to opens x - 1 open and holds locks x locks, all of records below r; n places are empty
pub record Facts (c o k : ℕ) (opens locks : ℕ → ℕ) (r n : ℕ) (l : LockList) : Type 0 where
  pub users : l.users ≡ replicate 16 0
  pub capacity : l.capacity ≡ c
  pub openlimit : l.openlimit ≡ o
  pub locklimit : l.locklimit ≡ k
  pub opens-by : (x : ℕ) → opens_by l x ≡ opens x
  pub locks-by : (x : ℕ) → locks_by l x ≡ locks x
  pub opens_are : (i : ℕ) → i < 64 → (item_at l i).kind ≡ 1 → OpenOf opens (item_at l i)
  pub locks_are : (i : ℕ) → i < 64 → (item_at l i).kind ≡ 2 → (item_at l i).number < r
  pub first : (x : ℕ) → 1 ≤ opens x → any (opens_name_at l x (name_of 0)) 64 ≡ true
  pub free : free_places l ≡ n

-- ---- what the tables ask

module _ (c o k : ℕ) (opens locks : ℕ → ℕ) (r n : ℕ) (l : LockList) (g : SoundLocks (Small Mpm) l book) (w : Facts c o k opens locks r n l) where
  limit_fits : l.openlimit ≤ 64
  unfolding is_limit
  limit_fits = leb-true _ _ (and_snd _ _ g.limits.open_good)

  -- a place is empty below the capacity, or none is
  pub has_place : 1 ≤ n → free_place l < l.capacity
  unfolding free_place free_places
  has_place m = lowest_below (is_empty_at l) l.capacity (count_any (is_empty_at l) l.capacity (let e = w.free in omega arith))

  -- (as the table of 15 asks it)
  pub no_place : n ≡ 0 → l.capacity ≤ free_place l
  unfolding free_place free_places
  no_place z =
      let e : lowest (is_empty_at l) l.capacity ≡ l.capacity = lowest_none (is_empty_at l) l.capacity (⊎_elim
      (λ (y : any (is_empty_at l) l.capacity ≡ true). let a = any_count (is_empty_at l) l.capacity y in let b = w.free in absurd (omega arith))
      (λ (y : any (is_empty_at l) l.capacity ≡ false). y) (either (any (is_empty_at l) l.capacity))) in
      omega arith

  module _ (q : ℕ) (fits : opens q < o) where
    file_fits : opens q < 64
    file_fits = let a = limit_fits in let b = w.openlimit in omega arith

    not_opened : (i : ℕ) → i < 64 → opens_name_at l q (name_of (opens q)) i ≡ false
    unfolding opens_name_at
    not_opened i m =
        ⊎_elim
        (λ (y : opens_name q (name_of (opens q)) (item_at l i) ≡ true).
        let a = open_is q (name_of (opens q)) (item_at l i) y in
        let d = w.opens_are i m a.kind_one in
        let b : d.file < opens q = subst (λ (x : ℕ). d.file < opens x) a.by d.below in
        let e : d.file ≡ opens q = name_tells d.file (opens q) (let z = file_fits in omega arith) file_fits (rw d.name at a.named) in
        absurd (omega arith))
        (λ (y : opens_name q (name_of (opens q)) (item_at l i) ≡ false). y)
        (either (opens_name q (name_of (opens q)) (item_at l i)))

    not_against : (i : ℕ) → i < 64 → stands_against_at l q (file_no (opens q)) 1 i ≡ false
    unfolding stands_against_at stands_against opens_file_at opens_file ◌or◌
    not_against i m =
        ⊎_elim
        (λ (y : eqb (item_at l i).kind 1 ≡ true).
        let e = (w.opens_are i m (eqb-true _ _ y)).mode in
        and_last _ _ (and_last _ _ (rw e refl)))
        (λ (y : eqb (item_at l i).kind 1 ≡ false). and_left _ _ (and_left _ _ y))
        (either (eqb (item_at l i).kind 1))

    -- a process below its open limit can open its next file, but for a place; ..
    pub can_open : CanOpen q (opens q) l
    unfolding open_of file_no
    can_open = record {
      file_fits = file_fits;
      users = w.users;
      unopened = lowest_none (opens_name_at l q (name_of (opens q))) 64 (any_never (opens_name_at l q (name_of (opens q))) 64 not_opened);
      none_against = any_never (stands_against_at l q (file_no (opens q)) 1) 64 not_against;
      within = let a = w.opens-by q in let b = w.openlimit in omega arith;
    }

  module _ (q : ℕ) (some : 1 ≤ opens q) (few : locks q < k) (high : r < 64) where
    abbrev id : ℕ
    id = open_of l q (file_no 0)

    id_below : id < 64
    unfolding open_of file_no
    id_below = lowest_below (opens_name_at l q (name_of 0)) 64 (w.first q some)

    id_open : (item_at l id).kind ≡ 1
    unfolding open_of file_no opens_name_at
    id_open = (open_is q (name_of 0) (item_at l id) (lowest_holds (opens_name_at l q (name_of 0)) 64 id_below)).kind_one

    not_locked : (i : ℕ) → i < 64 → locks_record_at l (file_no 0) r i ≡ false
    unfolding locks_record_at locks_record
    not_locked i m =
        ⊎_elim
        (λ (y : eqb (item_at l i).kind 2 ≡ true).
        let a = w.locks_are i m (eqb-true _ _ y) in
        and_last _ _ (and_left _ _ (ne_eqb (item_at l i).number r (λ (z : (item_at l i).number ≡ r). absurd (omega arith)))))
        (λ (y : eqb (item_at l i).kind 2 ≡ false). and_left _ _ y)
        (either (eqb (item_at l i).kind 2))

    -- .. one below its lock limit can lock the next record
    pub can_lock : CanLock q r id l
    unfolding locked_by_other is_others_lock held is_own_lock
    can_lock = record {
      record_fits = high;
      users = w.users;
      is_open = refl;
      below = id_below;
      unlocked = (w.opens_are id id_below id_open).mode;
      none_others = any_never (is_others_lock l q (file_no 0) r) 64 (λ i m. and_last _ _ (not_locked i m));
      unheld = any_never (is_own_lock l q (file_no 0) r) 64 (λ i m. and_last _ _ (not_locked i m));
      within = let a = w.locks-by q in let b = w.locklimit in omega arith;
    }

-- ---- one item more

module _ (l : LockList) (h : Shape l) (g : SoundLocks (Small Mpm) l book) (room : free_place l < l.capacity) (it : Item) (some : it.kind ≡ 0 → ⊥) where
  abbrev j : ℕ
  j = free_place l

  here : Room l j
  here = free_room l room

  inside : j < 64
  inside = let a = capacity_fits l g.limits in omega arith

  abbrev now : LockList
  now = with_items l (set l.items j it)

  at : (i : ℕ) → ((i ≡ j) × (item_at now i ≡ it)) ⊎ (item_at now i ≡ item_at l i)
  at i =
      ⊎_elim (λ (q : i ≡ j). inl (q, ap (item_at now) q ∙ at_here l j it h inside)) (λ (q : i ≡ j → ⊥). inr (at_other l j it h inside i q)) (equal? i j)

  by_kind : (k x : ℕ) → (k ≡ 0 → ⊥) → count (is_kind_by_at now k x) 64 ≡ count (is_kind_by_at l k x) 64 + (1 if is_kind_by k x it else 0)
  unfolding ◌if◌else◌
  by_kind k x n =
      ⊎_elim (λ (y : is_kind_by k x it ≡ true). rw y (kind_more l j it h inside here.empty k x n y))
      (λ (y : is_kind_by k x it ≡ false). rw y (let e = kind_count l j it h inside here.empty k x n y in omega arith)) (either (is_kind_by k x it))

  one_less : free_places now + 1 ≡ free_places l
  unfolding free_places is_empty_at
  one_less = sym (count_one (is_empty_at now) (is_empty_at l) j l.capacity room
      (ap (λ (v : Item). eqb v.kind 0) (at_here l j it h inside) ∙ ne_eqb it.kind 0 some) (eq-eqb (item_at l j).kind 0 here.empty)
      (λ i m q. ap (λ (v : Item). eqb v.kind 0) (sym (at_other l j it h inside i q))))

  -- an open that was there is there
  still_open : (x : ℕ) (name : List ℕ) → any (opens_name_at l x name) 64 ≡ true → any (opens_name_at now x name) 64 ≡ true
  unfolding opens_name_at
  still_open x name y =
      let a = any_some (opens_name_at l x name) 64 y in
      let b = (open_is x name (item_at l a.0) a.2).kind_one in
      let e : item_at now a.0 ≡ item_at l a.0 = at_other l j it h inside a.0 (λ (q : a.0 ≡ j).
      let z : (item_at l a.0).kind ≡ 0 = ap (λ (i : ℕ). (item_at l i).kind) q ∙ here.empty in absurd (omega arith)) in
      any_found (opens_name_at now x name) 64 a.0 a.1 (ap (opens_name x name) e ∙ a.2)

module _ (c o k : ℕ) (opens locks : ℕ → ℕ) (r n : ℕ) (l : LockList) (h : Shape l) (g : SoundLocks (Small Mpm) l book)
    (w : Facts c o k opens locks r (suc n) l) (q : ℕ) where
  room : free_place l < l.capacity
  room = has_place c o k opens locks r (suc n) l g w (omega arith)

  more : (f : ℕ → ℕ) (x : ℕ) → f x ≤ one_more q f x
  more f x = omega arith

  own_more : (f : ℕ → ℕ) → f q < one_more q f q
  unfolding ◌if◌else◌
  own_more f = rw (eq-eqb q q refl) (omega arith)

  -- the process opens its next file; ..
  pub opened_facts : Facts c o k (one_more q opens) locks r n (placed (fresh_open q (name_of (opens q)) 1) l)
  unfolding placed opens_by locks_by is_kind_by opens_name_at ◌and◌ ◌if◌else◌
  opened_facts =
      let it = fresh_open q (name_of (opens q)) 1 in
      let s : it.kind ≡ 0 → ⊥ = λ (z : ◌≡◌ {A = ℕ} 1 0). absurd (omega arith) in
      record {
        users = w.users;
        capacity = w.capacity;
        openlimit = w.openlimit;
        locklimit = w.locklimit;
        opens-by = λ x. by_kind l h g room it s 1 x (λ (z : 1 ≡ 0). absurd (omega arith)) ∙ ap (λ (y : ℕ). y + (1 if eqb q x else 0)) (w.opens-by x);
        locks-by = λ x. by_kind l h g room it s 2 x (λ (z : 2 ≡ 0). absurd (omega arith)) ∙ ap (λ (y : ℕ). y + 0) (w.locks-by x) ∙ omega arith;
        opens_are = λ i m one. ⊎_elim
            (λ (e : (i ≡ j l h g room it s) × (item_at (now l h g room it s) i ≡ it)).
            subst (λ (x : Item). OpenOf (one_more q opens) x) (sym e.1) (record { mode = refl; file = opens q; below = own_more opens; name = refl }))
            (λ (e : item_at (now l h g room it s) i ≡ item_at l i).
            let d = w.opens_are i m (sym (ap (λ (x : Item). x.kind) e) ∙ one) in
            let b = more opens (item_at l i).process in
            let v = d.below in
            subst (λ (x : Item). OpenOf (one_more q opens) x) (sym e) (record { mode = d.mode; file = d.file; below = omega arith; name = d.name }))
            (at l h g room it s i);
        locks_are = λ i m two. ⊎_elim
            (λ (e : (i ≡ j l h g room it s) × (item_at (now l h g room it s) i ≡ it)).
            let z : ◌≡◌ {A = ℕ} 1 2 = sym (ap (λ (x : Item). x.kind) e.1) ∙ two in absurd (omega arith))
            (λ (e : item_at (now l h g room it s) i ≡ item_at l i). rw e (w.locks_are i m (sym (ap (λ (x : Item). x.kind) e) ∙ two)))
            (at l h g room it s i);
        first = λ x y. ⊎_elim
            (λ (z : 1 ≤ opens x). still_open l h g room it s x (name_of 0) (w.first x z))
            (λ (z : opens x ≡ 0). newly s x z y)
            (some_or_none (opens x));
        free = let e = one_less l h g room it s in let f = w.free in omega arith;
      }
    where
      some_or_none : (x : ℕ) → (1 ≤ x) ⊎ (x ≡ 0)
      some_or_none x = ⊎_elim (λ (z : x ≡ 0). inr z) (λ (z : x ≡ 0 → ⊥). inl (omega arith)) (equal? x 0)

      -- its first open is of the first file
      newly : (s : (fresh_open q (name_of (opens q)) 1).kind ≡ 0 → ⊥) (x : ℕ) → opens x ≡ 0 → 1 ≤ one_more q opens x
          → any (opens_name_at (now l h g room (fresh_open q (name_of (opens q)) 1) s) x (name_of 0)) 64 ≡ true
      newly s x z y =
          let it = fresh_open q (name_of (opens q)) 1 in
          let e : q ≡ x = ⊎_elim (λ (d : eqb q x ≡ true). eqb-true q x d) (λ (d : eqb q x ≡ false). let v : 1 ≤ opens x + 0 = rw d at y in absurd (omega arith))
          (either (eqb q x)) in
          let f : opens q ≡ 0 = ap opens e ∙ z in
          any_found (opens_name_at (now l h g room it s) x (name_of 0)) 64 (j l h g room it s) (inside l h g room it s)
          (ap (opens_name x (name_of 0)) (at_here l (j l h g room it s) it h (inside l h g room it s))
          ∙ open_so x (name_of 0) it (record { kind_one = refl; by = e; named = rw f (name_refl (name_of 0)) }))

  -- .. or locks the next record
  pub locked_facts : Facts c o k opens (one_more q locks) (suc r) n (placed (fresh_lock q (name_of 0) r) l)
  unfolding placed opens_by locks_by is_kind_by opens_name_at ◌and◌ ◌if◌else◌
  locked_facts =
      let it = fresh_lock q (name_of 0) r in
      let s : it.kind ≡ 0 → ⊥ = λ (z : ◌≡◌ {A = ℕ} 2 0). absurd (omega arith) in
      record {
        users = w.users;
        capacity = w.capacity;
        openlimit = w.openlimit;
        locklimit = w.locklimit;
        opens-by = λ x. by_kind l h g room it s 1 x (λ (z : 1 ≡ 0). absurd (omega arith)) ∙ ap (λ (y : ℕ). y + 0) (w.opens-by x) ∙ omega arith;
        locks-by = λ x. by_kind l h g room it s 2 x (λ (z : 2 ≡ 0). absurd (omega arith)) ∙ ap (λ (y : ℕ). y + (1 if eqb q x else 0)) (w.locks-by x);
        opens_are = λ i m one. ⊎_elim
            (λ (e : (i ≡ j l h g room it s) × (item_at (now l h g room it s) i ≡ it)).
            let z : ◌≡◌ {A = ℕ} 2 1 = sym (ap (λ (x : Item). x.kind) e.1) ∙ one in absurd (omega arith))
            (λ (e : item_at (now l h g room it s) i ≡ item_at l i).
            subst (λ (x : Item). OpenOf opens x) (sym e) (w.opens_are i m (sym (ap (λ (x : Item). x.kind) e) ∙ one)))
            (at l h g room it s i);
        locks_are = λ i m two. ⊎_elim
            (λ (e : (i ≡ j l h g room it s) × (item_at (now l h g room it s) i ≡ it)). rw e.1 (omega arith))
            (λ (e : item_at (now l h g room it s) i ≡ item_at l i).
            rw e (let z = w.locks_are i m (sym (ap (λ (x : Item). x.kind) e) ∙ two) in omega arith))
            (at l h g room it s i);
        first = λ x y. still_open l h g room it s x (name_of 0) (w.first x y);
        free = let e = one_less l h g room it s in let f = w.free in omega arith;
      }
