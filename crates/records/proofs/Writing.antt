-- The write of one record, and 34 and 40: the outcome at each end of their routines. Assumes nothing.
use Rattle.std.proofs.Common.{◌≡◌, ℕ, ◌+◌, ◌*◌, ◌/◌, ◌<◌, ◌≤◌, Bool, true, false, leb, eqb, List, [], ◌∷◌, ◌++◌, length, Some, refl, sym, ⊎_elim, arith, eq-eqb, ne_eqb, ltb-false, le-leb}
use Rattle.std.proofs.lemmas.Bool.{lt-leb}
use Rattle.words.specs.Tests.{◌and◌, ◌or◌, ◌if◌else◌}
use Rattle.words.specs.Tables.{Row, ◌∕◌, ◌when◌, first_of, none_zero}
use Rattle.words.proofs.Tests.{either}
use Rattle.words.proofs.Tables.{row_off, row_rest, nonzeros, first_then, first_stays}
use Rattle.rules.specs.declared.kind.Kind.{Kind}
use Rattle.rules.specs.declared.file.File.{File}
use Rattle.rules.specs.declared.list.LockList.{LockList}
use Rattle.rules.specs.declared.spot.Spot.{Spot}
use Rattle.rules.specs.Kinds.{block_size, entries, top}
use Rattle.rules.specs.Serves.{Buffers, outcome, with_image}
use Rattle.rules.specs.Drive.{blocks, entry_of, look_up, read_only, record_at, block_in, sound_image}
use Rattle.rules.specs.Locks.{item_at, unpack, open_of, locked_by_other}
use Rattle.rules.specs.Asks.{caller_file, record_of}
use Rattle.rules.specs.Codes.{rows_may, rows_room, rows34}
use Rattle.rules.specs.Effects.{spot_at, written, does34}
use Rattle.rules.specs.Call.{decided, unless, asked_by, asked, rows_of, effect_of, served}
use Rattle.rules.proofs.Sizes.{record_room, top_fits}
use Rattle.rules.proofs.Room.{room_within}
use Rattle.rules.proofs.Rows.{opened_so}
use Rattle.records.specs.By.{write_routine, rows_may_by, by34}

-- ---- a spot tells whether there is room

-- what is not wanted, or is to be had, is not lacking
had : (wanted : Bool) (n k : ℕ) → (wanted ≡ true → k < n) → (wanted and leb n k) ≡ false
unfolding ◌and◌
had true n k h = lt-leb n k (h refl)
had false n k h = refl

module _ (kind : Kind) (s : List ℕ) (e r : ℕ) where
  abbrev w : Spot
  w = spot_at kind s e r

  missing_none : leb (entries kind) e ≡ true → eqb (block_in kind s e r) 0 ≡ true
  unfolding block_in ◌if◌else◌
  missing_none q = rw q

  -- the rows of what is not to be had, by the spot
  pub room_told : rows_room kind s e r ≡ 5 ∕ 0 when (w.fresh and leb (entries kind) w.entry) ∷ 2 ∕ 0 when (w.taken and leb (blocks kind s) w.block) ∷ []
  unfolding rows_room spot_at ◌if◌else◌ ◌and◌
  room_told =
      ⊎_elim (λ (q : leb (entries kind) e ≡ true). rw (q, missing_none q))
      (λ (q : leb (entries kind) e ≡ false).
      ⊎_elim (λ (z : eqb (block_in kind s e r) 0 ≡ true). rw (q, z)) (λ (z : eqb (block_in kind s e r) 0 ≡ false). rw (q, z))
      (either (eqb (block_in kind s e r) 0)))
      (either (leb (entries kind) e))

  -- no entry, ..
  pub entry_lacks : w.fresh ≡ true → entries kind ≤ w.entry → first_of (rows_room kind s e r) ≡ 5
  unfolding first_of ◌if◌else◌ ◌and◌
  entry_lacks f h = rw (room_told, f, le-leb (entries kind) w.entry h)

  -- .. no block, ..
  pub block_lacks : (w.fresh ≡ true → w.entry < entries kind) → w.taken ≡ true → blocks kind s ≤ w.block → first_of (rows_room kind s e r) ≡ 2
  unfolding first_of ◌if◌else◌ ◌and◌
  block_lacks g t h = rw (room_told, had w.fresh (entries kind) w.entry g, t, le-leb (blocks kind s) w.block h)

  -- .. or room
  pub has_room : (w.fresh ≡ true → w.entry < entries kind) → (w.taken ≡ true → w.block < blocks kind s) → first_of (rows_room kind s e r) ≡ 0
  unfolding first_of ◌if◌else◌
  has_room g h = rw (room_told, had w.fresh (entries kind) w.entry g, had w.taken (blocks kind s) w.block h)

pub ruleset rooms = (entry_lacks, block_lacks, has_room)

-- ---- what 34, 40 and 41 share

pub nonzero_may : (kind : Kind) (p : ℕ) (l : LockList) (o : ℕ) (f : File) (e₀ r : ℕ) (s : List ℕ) → none_zero (rows_may kind p l o f e₀ r s) ≡ true
unfolding rows_may
nonzero_may kind p l o f e₀ r s = search nonzeros depth 20 fits 20000

-- the rows from the answers to their tests
pub may_by : (kind : Kind) (p : ℕ) (l : LockList) (o : ℕ) (f : File) (e₀ r : ℕ) (s : List ℕ)
    → rows_may_by kind o (read_only s e₀ or eqb (item_at l o).mode 2) r (locked_by_other l p f r) ≡ rows_may kind p l o f e₀ r s
unfolding rows_may_by rows_may
may_by kind p l o f e₀ r s = refl

-- no row has the code 0
pub may_real : (kind : Kind) (o : ℕ) (stopped : Bool) (r : ℕ) (locked : Bool) → none_zero (rows_may_by kind o stopped r locked) ≡ true
unfolding rows_may_by
may_real kind o stopped r locked = search nonzeros depth 20 fits 20000

-- none applies: the file is open, and the record number in range, so that it has 18 bits
pub write_may : (kind : Kind) (o : ℕ) (stopped : Bool) (r : ℕ) (locked : Bool) → first_of (rows_may_by kind o stopped r locked) ≡ 0
    → (first_of (rows_may_by kind o stopped r locked) ≡ 0) × (o < 64) × (r ≤ top kind) × (r < 262144)
unfolding rows_may_by
write_may kind o stopped r locked z =
    let k = row_rest 1023 _ _ (λ y. omega arith) (row_rest 10 _ _ (λ y. omega arith) z) in
    let far : r ≤ top kind = ltb-false (top kind) r (row_off 6 _ _ (λ y. omega arith) k) in
    (z, opened_so o (row_off 10 _ _ (λ y. omega arith) z), far, let small = top_fits kind in omega arith)

pub may_number : (kind : Kind) (p : ℕ) (l : LockList) (o : ℕ) (f : File) (e₀ r : ℕ) (s : List ℕ) → first_of (rows_may kind p l o f e₀ r s) ≡ 0
    → (first_of (rows_may kind p l o f e₀ r s) ≡ 0) × (o < 64) × (r ≤ top kind) × (r < 262144)
may_number kind p l o f e₀ r s z =
    rw (may_by kind p l o f e₀ r s) at (write_may kind o (read_only s e₀ or eqb (item_at l o).mode 2) r (locked_by_other l p f r) (rw (may_by kind p l o f e₀ r s) z))

-- ---- one record's write

module _ (kind : Kind) (o : ℕ) (stopped locked : Bool) (s : List ℕ) (e r : ℕ) where
  -- not to be written, ..
  pub may_first : 0 < first_of (rows_may_by kind o stopped r locked)
      → first_of (rows_may_by kind o stopped r locked ++ rows_room kind s e r) ≡ first_of (rows_may_by kind o stopped r locked)
  may_first h = first_stays _ _ (λ z. omega arith)

  -- .. else as far as there is room
  pub may_then : first_of (rows_may_by kind o stopped r locked) ≡ 0
      → first_of (rows_may_by kind o stopped r locked ++ rows_room kind s e r) ≡ first_of (rows_room kind s e r)
  may_then z = first_then _ _ z (may_real kind o stopped r locked)

-- there is room: the spot lies in the image
pub room_spot : (kind : Kind) (s : List ℕ) (f : File) (r : ℕ) → sound_image kind s ≡ true → first_of (rows_room kind s (entry_of kind s f (r / 128)) r) ≡ 0
    → ((spot_at kind s (entry_of kind s f (r / 128)) r).block < 65536)
    × ((spot_at kind s (entry_of kind s f (r / 128)) r).entry < entries kind)
    × (block_size kind * (spot_at kind s (entry_of kind s f (r / 128)) r).block + block_size kind ≤ length s)
room_spot kind s f r h rows =
    let w = room_within kind s h f r _ (entry_of kind s f (r / 128)) 0 refl refl (sym rows) refl in (w.block_fits, w.entry_within, w.block_inside)

-- with the record in it
pub record_within : (kind : Kind) (block r : ℕ) → record_at kind block r + 128 ≤ block_size kind * block + block_size kind
record_within kind block r = record_room kind block r _ (omega arith)

-- ---- 34 and 40

module _ (kind : Kind) (zeros : Bool) (p : ℕ) (l : LockList) (o : ℕ) (f : File) (r : ℕ) (b : Buffers) where
  abbrev first : ℕ
  first = entry_of kind b.image f 0

  abbrev e : ℕ
  e = entry_of kind b.image f (r / 128)

  abbrev rows : List Row
  rows = rows_may_by kind o (read_only b.image first or eqb (item_at l o).mode 2) r (locked_by_other l p f r) ++ rows_room kind b.image e r

  -- refused, ..
  pub write_refused : 0 < first_of rows → by34 kind zeros p l o f r b ≡ outcome (first_of rows) b
  unfolding by34 rows34 rows_may rows_may_by unless decided ◌if◌else◌
  write_refused h = rw (ne_eqb (first_of rows) 0 (λ z. omega arith))

  -- .. or written
  pub write_done : first_of rows ≡ 0
      → by34 kind zeros p l o f r b ≡ outcome 0 (with_image b (written kind zeros (spot_at kind b.image e r) first f r b.dma b.image))
  unfolding by34 rows34 rows_may rows_may_by unless decided ◌if◌else◌ does34
  write_done z = rw (eq-eqb (first_of rows) 0 z)

-- the call on the buffers
pub write_called : (kind : Kind) (zeros : Bool) (p c : ℕ) (b : Buffers) → served kind (Some (write_routine zeros)) p c b ≡ by34 kind zeros p (unpack b.list)
    (open_of (unpack b.list) p (caller_file p (unpack b.list) b.fcb)) (caller_file p (unpack b.list) b.fcb) (record_of b.fcb) b
unfolding by34 served asked asked_by rows_of effect_of look_up
write_called kind false p c b = refl
write_called kind true p c b = refl
