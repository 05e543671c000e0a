-- 42, 43 and 143: what their routines test, and the outcome at each end. Assumes nothing.
use Rattle.std.proofs.Common.{ℕ, ◌+◌, ◌/◌, ◌≤◌, ◌<◌, ◌≡◌, refl, sym, ap, ◌∙◌, Bool, true, false, not, List, [], ◌∷◌, ◌++◌, eqb, leb, ltb, Option, Some, ⊎_elim, arith, rules, lt-ltb, le-ltb, le-leb, leb-true, eq-eqb, ne_eqb}
use borrow.Author.Tests.{lt-leb}
use Rattle.words.specs.Tests.{◌if◌else◌, all, any, lowest}
use Rattle.words.specs.Tables.{Row, first_of, only_if, none_zero}
use Rattle.words.proofs.Tests.{either, and_fst, and_snd, any_none, lowest_none, lowest_found}
use Rattle.words.proofs.Tables.{nonzeros, first_then, first_stays}
use Rattle.words.proofs.Sets.{codes, and_left, and_right, and_both, any_goes, lowest-any, row_none, part_first, part_then}
use Rattle.rules.specs.declared.code.Refusal.{Refusal}
use Rattle.rules.specs.declared.file.File.{File}
use Rattle.rules.specs.declared.kind.Kind.{Kind}
use Rattle.rules.specs.declared.list.LockList.{LockList}
use Rattle.rules.specs.declared.routine.Routine.TheVariants.{Lock, Unlock, Terminate}
use Rattle.rules.specs.Refusals.{code_of}
use Rattle.rules.specs.Serves.{Buffers, Did, with_list}
use Rattle.rules.specs.Kinds.{entries}
use Rattle.rules.specs.Drive.{entry_of, block_in, block_of}
use Rattle.rules.specs.Locks.{moved_to, unpack, pack, open_of, item_at, is_limit, zero_at, sound_locks, sound_list}
use Rattle.rules.specs.Asks.{caller_file, record_of}
use Rattle.rules.specs.Codes.{no_extent, lacks, first_lacking, rows_run, rows_lacking, rows_take, rows42, rows43}
use Rattle.rules.specs.Effects.{locked_run, unlocked_run, without_by, terminated, does42, does43, does143}
use Rattle.rules.specs.Call.{asked_by, asked, rows_of, effect_of, served}
use Rattle.rules.proofs.Ends.{did_none, did_left}
use Rattle.rules.proofs.Sizes.{entries_cast}
use Rattle.rules.proofs.Refused.{code_some, did_err, did_ok}
use Rattle.directory.proofs.Runs.{known_none, known_more}
use Rattle.locking.specs.By.{by42, by43}

-- ---- the tests

-- some number below the bound passes exactly where the lowest that does is below it
pub some_lowest : (f : ℕ → Bool) (n k : ℕ) → k ≡ lowest f n → k < n → any f n ≡ true
some_lowest f n k h l = sym (lowest-any f n k h) ∙ lt-ltb k n l

pub none_lowest : (f : ℕ → Bool) (n k : ℕ) → k ≡ lowest f n → n ≤ k → any f n ≡ false
none_lowest f n k h l = sym (lowest-any f n k h) ∙ le-ltb k n l

-- two answers compared
pub below_as : (x y a b : ℕ) → a ≡ x → b ≡ y → a < b → ltb x y ≡ true
below_as x y a b h g l = lt-ltb x y (omega arith)

pub not_below_as : (x y a b : ℕ) → a ≡ x → b ≡ y → b ≤ a → ltb x y ≡ false
not_below_as x y a b h g l = le-ltb x y (omega arith)

pub plus_as : (a x n : ℕ) → a ≡ x → a + n ≡ x + n
plus_as a x n h = rw h refl

pub ruleset takes = (codes, some_lowest, none_lowest, below_as, not_below_as, plus_as)

-- ---- a run of which a record lacks its extent or block

no_block : (kind : Kind) (s : List ℕ) (e r : ℕ) → leb (entries kind) e ≡ true → 0 ≡ block_in kind s e r
unfolding block_in ◌if◌else◌
no_block kind s e r t = rw t refl

module _ (kind : Kind) (s : List ℕ) (f : File) (r n k : ℕ) where
  -- e is the entry of record r + k's extent, m the number of entries, b the record's block
  module _ (none : any (lacks kind s f r) k ≡ false) (e : ℕ) (he : e ≡ entry_of kind s f ((r + k) / 128)) where
    lacks_by : (b : ℕ) → b ≡ block_in kind s e (r + k) → eqb b 0 ≡ lacks kind s f r k
    unfolding lacks block_of
    lacks_by b h = rw (h, he) refl

    first_is : k < n → (b : ℕ) → b ≡ block_in kind s e (r + k) → b ≡ 0 → first_lacking kind s f r n ≡ k
    unfolding first_lacking
    first_is l b h z = lowest_found (lacks kind s f r) n k l none (sym (lacks_by b h) ∙ eq-eqb b 0 z)

    module _ (m : ℕ) (hm : m ≡ entries kind) where
      pub extent_lacking : k < n → m ≤ e → 4 ≡ first_of (rows_lacking kind s f r n (first_lacking kind s f r n))
      unfolding rows_lacking no_extent
      extent_lacking l g =
          let t : leb (entries kind) e ≡ true = le-leb _ _ (omega arith) in
          let u : leb (entries kind) (entry_of kind s f ((r + k) / 128)) ≡ true = rw he at t in
          rw (first_is l 0 (no_block kind s e (r + k) t) refl) (search (codes, and_both))

      pub block_lacking : (b : ℕ) → k < n → e < m → b ≡ block_in kind s e (r + k) → b ≡ 0
          → 1 ≡ first_of (rows_lacking kind s f r n (first_lacking kind s f r n))
      unfolding rows_lacking no_extent
      block_lacking b l g h z =
          let u : leb (entries kind) (entry_of kind s f ((r + k) / 128)) ≡ false = lt-leb _ _ (omega arith) in
          rw (first_is l b h z) (search (codes, and_right))

    pub goes_on : (b : ℕ) → b ≡ block_in kind s e (r + k) → (b ≡ 0 → ⊥) → any (lacks kind s f r) (k + 1) ≡ false
    goes_on b h z = any_goes _ _ none (sym (lacks_by b h) ∙ ne_eqb b 0 z)

  pub none_lacking : any (lacks kind s f r) n ≡ false → 0 ≡ first_of (rows_lacking kind s f r n (first_lacking kind s f r n))
  unfolding first_lacking rows_lacking
  none_lacking none = let past : ltb n n ≡ false = le-ltb n n (omega arith) in rw (lowest_none (lacks kind s f r) n none) (search (codes, and_left))

-- each row of what lacks something has a code
pub nonzero_lacking : (kind : Kind) (s : List ℕ) (f : File) (r n k : ℕ) → none_zero (rows_lacking kind s f r n k) ≡ true
unfolding rows_lacking
nonzero_lacking kind s f r n k = search nonzeros depth 20 fits 20000

pub ruleset lackings = (rules, known_none, known_more, any_none, extent_lacking, block_lacking, goes_on, none_lacking)

-- ---- the table that 42 and 43 begin with, and the rows of 42 after it

module _ (kind : Kind) (l : LockList) (o r n : ℕ) (dma : List ℕ) (more : List Row) where
  run_more : eqb (item_at l o).mode 1 ≡ true → rows_run kind l o r n dma more ≡ rows_run kind l o r n dma [] ++ more
  unfolding rows_run only_if ◌if◌else◌
  run_more e = rw e refl

  run_only : eqb (item_at l o).mode 1 ≡ false → rows_run kind l o r n dma more ≡ rows_run kind l o r n dma []
  unfolding rows_run only_if ◌if◌else◌
  run_only e = rw e refl

  nonzero_run : none_zero (rows_run kind l o r n dma []) ≡ true
  unfolding rows_run
  nonzero_run = search nonzeros depth 20 fits 20000

  pub run_refused : (why : Refusal) → code_of why ≡ first_of (rows_run kind l o r n dma []) → code_of why ≡ first_of (rows_run kind l o r n dma more)
  run_refused why h =
      ⊎_elim
      (λ (e : eqb (item_at l o).mode 1 ≡ true). rw (run_more e) (h ∙ sym (first_stays _ more (λ z. code_some why (h ∙ z)))))
      (λ (e : eqb (item_at l o).mode 1 ≡ false). rw (run_only e) h) (either (eqb (item_at l o).mode 1))

  -- modes 0 and 2
  pub run_passed : 0 ≡ first_of (rows_run kind l o r n dma []) → eqb (item_at l o).mode 1 ≡ false → 0 ≡ first_of (rows_run kind l o r n dma more)
  run_passed h e = rw (run_only e) h

  pub run_then : 0 ≡ first_of (rows_run kind l o r n dma []) → eqb (item_at l o).mode 1 ≡ true → (c : ℕ) → c ≡ first_of more
      → c ≡ first_of (rows_run kind l o r n dma more)
  run_then h e c g = rw (run_more e) (g ∙ sym (first_then _ more (sym h) nonzero_run))

-- ---- the ends of 42 and 43

module _ (kind : Kind) (p : ℕ) (l : LockList) (o : ℕ) (f : File) (r n : ℕ) (b : Buffers) where
  pub lock_refused : (why : Refusal) → code_of why ≡ first_of (rows_run kind l o r n b.dma []) → Did (by42 kind p l o f r n b) (code_of why) b
  unfolding by42 rows42
  lock_refused why h = did_err _ b _ why (run_refused kind l o r n b.dma _ why h)

  pub unlock_refused : (why : Refusal) → code_of why ≡ first_of (rows_run kind l o r n b.dma []) → Did (by43 kind p l o f r n b) (code_of why) b
  unfolding by43 rows43
  unlock_refused why h = did_err _ b _ why h

  -- t is what was told of the open: that it is unlocked
  module _ (h : 0 ≡ first_of (rows_run kind l o r n b.dma [])) (t : Bool) (ht : t ≡ eqb (item_at l o).mode 1) where
    pub lock_passed : t ≡ false → Did (by42 kind p l o f r n b) 0 b
    unfolding by42 rows42 does42 ◌if◌else◌
    lock_passed z =
        let q : eqb (item_at l o).mode 1 ≡ false = sym ht ∙ z in
        did_ok _ b _ 0 b (run_passed kind l o r n b.dma _ h q) (rw q (did_none 0 b))

    pub unlock_passed : t ≡ false → Did (by43 kind p l o f r n b) 0 b
    unfolding by43 rows43 does43 ◌if◌else◌
    unlock_passed z = let q : eqb (item_at l o).mode 1 ≡ false = sym ht ∙ z in did_ok _ b _ 0 b h (rw q (did_none 0 b))

    module _ (z : t ≡ true) where
      pub unlock_done : (m : LockList) (list : List ℕ) → m ≡ unlocked_run p f r n l → list ≡ pack m → Did (by43 kind p l o f r n b) 0 (with_list b list)
      unfolding by43 rows43 does43 ◌if◌else◌
      unlock_done m list hm hp =
          let q : eqb (item_at l o).mode 1 ≡ true = sym ht ∙ z in
          did_ok _ b _ 0 _ h (rw q (did_left refl refl refl (hp ∙ ap pack hm) refl))

      then_rows : (c : ℕ) → c ≡ first_of (rows_lacking kind b.image f r n (first_lacking kind b.image f r n) ++ rows_take p l f r n)
          → c ≡ first_of (rows42 kind p l o f r n b.dma b.image)
      unfolding rows42
      then_rows c g = run_then kind l o r n b.dma _ h (sym ht ∙ z) c g

      pub lock_lacking : (why : Refusal) → code_of why ≡ first_of (rows_lacking kind b.image f r n (first_lacking kind b.image f r n))
          → Did (by42 kind p l o f r n b) (code_of why) b
      unfolding by42
      lock_lacking why g = did_err _ b _ why (then_rows _ (part_first _ _ _ g (code_some why)))

      module _ (g : 0 ≡ first_of (rows_lacking kind b.image f r n (first_lacking kind b.image f r n))) where
        pub not_taken : (why : Refusal) → code_of why ≡ first_of (rows_take p l f r n) → Did (by42 kind p l o f r n b) (code_of why) b
        unfolding by42
        not_taken why k = did_err _ b _ why (then_rows _ (part_then _ _ _ _ g refl (nonzero_lacking kind b.image f r n _) k))

        pub lock_done : (m : LockList) (list : List ℕ) → 0 ≡ first_of (rows_take p l f r n) → m ≡ locked_run p f r n l → list ≡ pack m
            → Did (by42 kind p l o f r n b) 0 (with_list b list)
        unfolding by42 does42 ◌if◌else◌
        lock_done m list k hm hp =
            let q : eqb (item_at l o).mode 1 ≡ true = sym ht ∙ z in
            did_ok _ b _ 0 _ (then_rows _ (part_then _ _ _ _ g refl (nonzero_lacking kind b.image f r n _) k)) (rw q (did_left refl refl refl (hp ∙ ap pack hm) refl))

pub ruleset locked = (lock_refused, lock_passed, lock_lacking, not_taken, lock_done)

pub ruleset unlocked = (unlock_refused, unlock_passed, unlock_done)

-- ---- the calls on the buffers

-- the capacity of a sound list
pub capacity_fits : (kind : Kind) (l : LockList) (list s : List ℕ) → l ≡ unpack list → sound_list kind list s ≡ true → l.capacity ≤ 64
unfolding sound_list sound_locks is_limit
capacity_fits kind l list s h g =
    let k = leb-true (unpack list).capacity 64 (and_snd _ _ (and_fst _ _ (and_snd (all (zero_at list) 64) _ g))) in
    let e : l.capacity ≡ (unpack list).capacity = ap (λ (m : LockList). m.capacity) h in
    omega arith

pub lock_served : (kind : Kind) (p c : ℕ) (b : Buffers)
    → (let l = unpack b.list in let f = caller_file p l b.fcb in served kind (Some Lock) p c b ≡ by42 kind p l (open_of l p f) f (record_of b.fcb) c b)
unfolding served rows_of effect_of asked asked_by by42
lock_served kind p c b = refl

pub unlock_served : (kind : Kind) (p c : ℕ) (b : Buffers)
    → (let l = unpack b.list in let f = caller_file p l b.fcb in served kind (Some Unlock) p c b ≡ by43 kind p l (open_of l p f) f (record_of b.fcb) c b)
unfolding served rows_of effect_of asked asked_by by43
unlock_served kind p c b = refl

pub ruleset lock_called = (capacity_fits, lock_served)

-- ---- 143

pub terminate_done : (kind : Kind) (p c : ℕ) (b : Buffers) (list : List ℕ) → list ≡ pack (moved_to p (entries kind) (without_by p (unpack b.list)))
    → Did (served kind (Some Terminate) p c b) 0 (with_list b list)
unfolding served rows_of effect_of does143 terminated asked asked_by
terminate_done kind p c b list h = did_ok [] b _ 0 _ (row_none 0 refl) (did_left refl refl refl h refl)

pub ruleset terminates = (entries_cast, terminate_done)
