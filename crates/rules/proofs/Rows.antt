-- What a call that passes its table may rely on: for each table a record with a field for each row. Assumes nothing.
use Prim.Native.Nat.{ℕ, ◌+◌, ◌≤◌, ◌<◌}
use mathlib.Core.Path.{◌≡◌, refl}
use mathlib.Core.Bool.{true, false, not}
use mathlib.Core.List.{List, ◌++◌}
use lib.Dec.{leb, ltb, eqb}
use borrow.Author.Tests.{eqb-true, eqb-false, eq-eqb, leb-true, leb-false, ltb-true, ltb-false, lt-ltb, le-ltb, not-false}
use Rattle.words.specs.Tests.{◌and◌, any, count, lowest}
use Rattle.words.specs.Tables.{Row, any_row}
use Rattle.words.proofs.Tests.{never, and_rest, or_fst, or_snd, any_at, lowest_over}
use Rattle.words.proofs.Tables.{any_append, any_only}
use Rattle.rules.specs.declared.kind.Kind.{Kind}
use Rattle.rules.specs.declared.file.File.{File}
use Rattle.rules.specs.declared.file.Found.{Found}
use Rattle.rules.specs.declared.list.LockList.{LockList}
use Rattle.rules.specs.Kinds.{entries, top}
use Rattle.rules.specs.Drive.{record_size, legal_name, missing, no_entry, read_only, free_entry, free_block, blocks, block_in, block_of, record_at}
use Rattle.rules.specs.Locks.{places, item_at, mode_unlocked, mode_read_only, is_opened, locked_by_other, opens_by, locks_by, free_place, free_places}
use Rattle.rules.specs.Asks.{open_mode, last_of}
use Rattle.rules.specs.Codes.{stands_against_at, rows_new, rows15, rows16, stops_delete, rows19, rows22, stops_rename, rows23, rows_there, rows33, rows_may}
use Rattle.rules.specs.Codes.{rows_room, rows34, rows35, differs, rows_differ, rows41, is_file_id, rows_run, lacks, first_lacking, rows_lacking, is_others, is_new}
use Rattle.rules.specs.Codes.{rows_take, rows42}

-- ---- whether the caller has the file open

pub opened_so : (o : ℕ) → not (is_opened o) ≡ false → o < places
unfolding is_opened
opened_so o h = ltb-true o 64 (not-false _ h)

is-opened : (o : ℕ) → o < places → is_opened o ≡ true
unfolding is_opened
is-opened o h = lt-ltb o 64 h

not_opened : (o : ℕ) → places ≤ o → not (is_opened o) ≡ true
unfolding is_opened
not_opened o h = rw (le-ltb o 64 h) refl

-- ---- 15

pub record Passes15 (kind : Kind) (p : ℕ) (l : LockList) (o : ℕ) (f : File) (x : Found) (fcb : List ℕ) : Type 0 where
  pub legal : legal_name fcb 1 ≡ true
  pub there : x.entry < entries kind
  pub same-mode : o < places → (item_at l o).mode ≡ open_mode fcb
  pub none_against : places ≤ o → any (stands_against_at l p f (open_mode fcb)) places ≡ false
  pub within : places ≤ o → opens_by l p < l.openlimit
  pub room : places ≤ o → free_place l < l.capacity

-- the rows for a file that the caller has not open
record PassesNew (p : ℕ) (l : LockList) (f : File) (fcb : List ℕ) : Type 0 where
  none_against : any (stands_against_at l p f (open_mode fcb)) places ≡ false
  within : opens_by l p < l.openlimit
  room : free_place l < l.capacity

passes_new : (p : ℕ) (l : LockList) (f : File) (fcb : List ℕ) → any_row (rows_new p l f fcb) ≡ false → PassesNew p l f fcb
unfolding rows_new any_row
passes_new p l f fcb h =
    let limit = or_snd _ _ h in
    record { none_against = or_fst _ _ h; within = leb-false _ _ (or_fst _ _ limit); room = leb-false _ _ (or_fst _ _ (or_snd _ _ limit)) }

pub passes_15 : (kind : Kind) (p : ℕ) (l : LockList) (o : ℕ) (f : File) (x : Found) (fcb : List ℕ) → any_row (rows15 kind p l o f x fcb) ≡ false
    → Passes15 kind p l o f x fcb
unfolding rows15 missing any_row
passes_15 kind p l o f x fcb h =
    let file = or_snd _ _ h in
    let mode = or_snd _ _ file in
    let fresh : places ≤ o → PassesNew p l f fcb = λ m. passes_new p l f fcb (any_only (not (is_opened o)) _ (not_opened o m) (or_snd _ _ mode)) in
    record {
      legal = not-false _ (or_fst _ _ h);
      there = leb-false _ _ (or_fst _ _ file);
      same-mode = λ m. eqb-true _ _ (not-false _ (and_rest (is_opened o) _ (is-opened o m) (or_fst _ _ mode)));
      none_against = λ m. (fresh m).none_against;
      within = λ m. (fresh m).within;
      room = λ m. (fresh m).room;
    }

-- ---- 22

pub record Passes22 (kind : Kind) (p : ℕ) (l : LockList) (x : Found) (fcb s : List ℕ) : Type 0 where
  pub legal : legal_name fcb 1 ≡ true
  pub gone : entries kind ≤ x.entry
  pub within : opens_by l p < l.openlimit
  pub room : free_place l < l.capacity
  pub entry_room : free_entry kind s < entries kind

pub passes_22 : (kind : Kind) (p : ℕ) (l : LockList) (x : Found) (fcb s : List ℕ) → any_row (rows22 kind p l x fcb s) ≡ false → Passes22 kind p l x fcb s
unfolding rows22 missing any_row
passes_22 kind p l x fcb s h =
    let exists = or_snd _ _ h in
    let limit = or_snd _ _ exists in
    let place = or_snd _ _ limit in
    record {
      legal = not-false _ (or_fst _ _ h);
      gone = leb-true _ _ (not-false _ (or_fst _ _ exists));
      within = leb-false _ _ (or_fst _ _ limit);
      room = leb-false _ _ (or_fst _ _ place);
      entry_room = leb-false _ _ (or_fst _ _ (or_snd _ _ place));
    }

-- ---- 16

pub passes_16 : (o : ℕ) → any_row (rows16 o) ≡ false → o < places
unfolding rows16 any_row
passes_16 o h = opened_so o (or_fst _ _ h)

-- ---- 19

pub record Passes19 (kind : Kind) (p : ℕ) (l : LockList) (f : File) (x : Found) (fcb s : List ℕ) : Type 0 where
  pub legal : legal_name fcb 1 ≡ true
  pub there : x.entry < entries kind
  pub unstopped : stops_delete p l f ≡ false
  pub writable : read_only s x.entry ≡ false

pub passes_19 : (kind : Kind) (p : ℕ) (l : LockList) (f : File) (x : Found) (fcb s : List ℕ) → any_row (rows19 kind p l f x fcb s) ≡ false
    → Passes19 kind p l f x fcb s
unfolding rows19 missing any_row
passes_19 kind p l f x fcb s h =
    let file = or_snd _ _ h in
    let opens = or_snd _ _ file in
    record {
      legal = not-false _ (or_fst _ _ h);
      there = leb-false _ _ (or_fst _ _ file);
      unstopped = or_fst _ _ opens;
      writable = or_fst _ _ (or_snd _ _ opens);
    }

-- ---- 23

pub record Passes23 (kind : Kind) (l : LockList) (f : File) (x y : Found) (fcb s : List ℕ) : Type 0 where
  pub legal : legal_name fcb 1 ≡ true
  pub legal_new : legal_name fcb 17 ≡ true
  pub there : x.entry < entries kind
  pub unstopped : stops_rename l f ≡ false
  pub writable : read_only s x.entry ≡ false
  pub gone_new : entries kind ≤ y.entry

pub passes_23 : (kind : Kind) (l : LockList) (f : File) (x y : Found) (fcb s : List ℕ) → any_row (rows23 kind l f x y fcb s) ≡ false
    → Passes23 kind l f x y fcb s
unfolding rows23 missing any_row
passes_23 kind l f x y fcb s h =
    let file = or_snd _ _ h in
    let opens = or_snd _ _ file in
    let attribute = or_snd _ _ opens in
    record {
      legal = not-false _ (or_fst _ _ (or_fst _ _ h));
      legal_new = not-false _ (or_snd _ _ (or_fst _ _ h));
      there = leb-false _ _ (or_fst _ _ file);
      unstopped = or_fst _ _ opens;
      writable = or_fst _ _ attribute;
      gone_new = leb-true _ _ (not-false _ (or_fst _ _ (or_snd _ _ attribute)));
    }

-- ---- 33

-- the record is there
pub record PassesThere (kind : Kind) (s : List ℕ) (e r : ℕ) : Type 0 where
  pub extent : e < entries kind
  pub block : block_in kind s e r ≡ 0 → ⊥

passes_there : (kind : Kind) (s : List ℕ) (e r : ℕ) → any_row (rows_there kind s e r) ≡ false → PassesThere kind s e r
unfolding rows_there any_row
passes_there kind s e r h = record { extent = leb-false _ _ (or_fst _ _ h); block = eqb-false _ _ (or_fst _ _ (or_snd _ _ h)) }

pub record Passes33 (kind : Kind) (o e r : ℕ) (s : List ℕ) : Type 0 where
  pub is_open : o < places
  pub fits : r ≤ top kind
  pub there : PassesThere kind s e r

pub passes_33 : (kind : Kind) (o e r : ℕ) (s : List ℕ) → any_row (rows33 kind o e r s) ≡ false → Passes33 kind o e r s
unfolding rows33 any_row
passes_33 kind o e r s h =
    let end = or_snd _ _ h in
    record { is_open = opened_so o (or_fst _ _ h); fits = ltb-false (top kind) r (or_fst _ _ end); there = passes_there kind s e r (or_snd _ _ end) }

-- ---- 34, 40

-- the caller may write the record
pub record PassesMay (kind : Kind) (p : ℕ) (l : LockList) (o : ℕ) (f : File) (e₀ r : ℕ) (s : List ℕ) : Type 0 where
  pub is_open : o < places
  pub writable : read_only s e₀ ≡ false
  pub not_reading : (item_at l o).mode ≡ mode_read_only → ⊥
  pub fits : r ≤ top kind
  pub none_others : locked_by_other l p f r ≡ false

passes_may : (kind : Kind) (p : ℕ) (l : LockList) (o : ℕ) (f : File) (e₀ r : ℕ) (s : List ℕ) → any_row (rows_may kind p l o f e₀ r s) ≡ false
    → PassesMay kind p l o f e₀ r s
unfolding rows_may any_row
passes_may kind p l o f e₀ r s h =
    let reading = or_snd _ _ h in
    let end = or_snd _ _ reading in
    record {
      is_open = opened_so o (or_fst _ _ h);
      writable = or_fst _ _ (or_fst _ _ reading);
      not_reading = eqb-false _ _ (or_snd _ _ (or_fst _ _ reading));
      fits = ltb-false (top kind) r (or_fst _ _ end);
      none_others = or_fst _ _ (or_snd _ _ end);
    }

-- an entry and a block are there or to be had
pub record PassesRoom (kind : Kind) (s : List ℕ) (e r : ℕ) : Type 0 where
  pub entry_room : (no_entry kind e and no_entry kind (free_entry kind s)) ≡ false
  pub block_room : (eqb (block_in kind s e r) 0 and leb (blocks kind s) (free_block kind s)) ≡ false

passes_room : (kind : Kind) (s : List ℕ) (e r : ℕ) → any_row (rows_room kind s e r) ≡ false → PassesRoom kind s e r
unfolding rows_room any_row
passes_room kind s e r h = record { entry_room = or_fst _ _ h; block_room = or_fst _ _ (or_snd _ _ h) }

pub record Passes34 (kind : Kind) (p : ℕ) (l : LockList) (o : ℕ) (f : File) (e₀ e r : ℕ) (s : List ℕ) : Type 0 where
  pub may : PassesMay kind p l o f e₀ r s
  pub room : PassesRoom kind s e r

pub passes_34 : (kind : Kind) (p : ℕ) (l : LockList) (o : ℕ) (f : File) (e₀ e r : ℕ) (s : List ℕ) → any_row (rows34 kind p l o f e₀ e r s) ≡ false
    → Passes34 kind p l o f e₀ e r s
unfolding rows34
passes_34 kind p l o f e₀ e r s h =
    let g = any_append (rows_may kind p l o f e₀ r s) (rows_room kind s e r) h in
    record { may = passes_may kind p l o f e₀ r s g.0; room = passes_room kind s e r g.1 }

-- ---- 35

pub record Passes35 (kind : Kind) (x : Found) (fcb : List ℕ) : Type 0 where
  pub legal : legal_name fcb 1 ≡ true
  pub there : x.entry < entries kind

pub passes_35 : (kind : Kind) (x : Found) (fcb : List ℕ) → any_row (rows35 kind x fcb) ≡ false → Passes35 kind x fcb
unfolding rows35 missing any_row
passes_35 kind x fcb h = record { legal = not-false _ (or_fst _ _ h); there = leb-false _ _ (or_fst _ _ (or_snd _ _ h)) }

-- ---- 41

pub record Passes41 (kind : Kind) (p : ℕ) (l : LockList) (o : ℕ) (f : File) (e₀ e r : ℕ) (dma s : List ℕ) : Type 0 where
  pub may : PassesMay kind p l o f e₀ r s
  pub there : PassesThere kind s e r
  pub same : any (differs dma s (record_at kind (block_in kind s e r) r)) record_size ≡ false

pub passes_41 : (kind : Kind) (p : ℕ) (l : LockList) (o : ℕ) (f : File) (e₀ e r : ℕ) (dma s : List ℕ) → any_row (rows41 kind p l o f e₀ e r dma s) ≡ false
    → Passes41 kind p l o f e₀ e r dma s
unfolding rows41 rows_differ any_row
passes_41 kind p l o f e₀ e r dma s h =
    let differ = rows_differ kind dma s (block_in kind s e r) r in
    let g = any_append (rows_may kind p l o f e₀ r s) (rows_there kind s e r ++ differ) h in
    let k = any_append (rows_there kind s e r) differ g.1 in
    record { may = passes_may kind p l o f e₀ r s g.0; there = passes_there kind s e r k.0; same = or_fst _ _ k.1 }

-- ---- 42, 43

-- in unlocked mode
pub record PassesRun (kind : Kind) (o r n : ℕ) (dma : List ℕ) (more : List Row) : Type 0 where
  pub is_id : is_file_id dma o ≡ true
  pub fits : last_of r n ≤ top kind
  pub rest : any_row more ≡ false

pub run_open : (kind : Kind) (l : LockList) (o r n : ℕ) (dma : List ℕ) (more : List Row) → any_row (rows_run kind l o r n dma more) ≡ false → o < places
unfolding rows_run any_row
run_open kind l o r n dma more h = opened_so o (or_fst _ _ h)

pub passes_run : (kind : Kind) (l : LockList) (o r n : ℕ) (dma : List ℕ) (more : List Row) → (item_at l o).mode ≡ mode_unlocked
    → any_row (rows_run kind l o r n dma more) ≡ false
    → PassesRun kind o r n dma more
unfolding rows_run any_row
passes_run kind l o r n dma more m h =
    let id = any_only (eqb (item_at l o).mode mode_unlocked) _ (eq-eqb _ _ m) (or_snd _ _ h) in
    let end = or_snd _ _ id in
    record { is_id = not-false _ (or_fst _ _ id); fits = ltb-false (top kind) _ (or_fst _ _ end); rest = or_snd _ _ end }

pub record Passes42 (kind : Kind) (p : ℕ) (l : LockList) (o : ℕ) (f : File) (r n : ℕ) (dma s : List ℕ) : Type 0 where
  pub is_id : is_file_id dma o ≡ true
  pub fits : last_of r n ≤ top kind
  pub have_blocks : (k : ℕ) → k < n → block_of kind s f (r + k) ≡ 0 → ⊥
  pub none_others : (k : ℕ) → k < n → locked_by_other l p f (r + k) ≡ false
  pub within : locks_by l p + n ≤ l.locklimit
  pub room : count (is_new l p f r) n ≤ free_places l

pub passes_42 : (kind : Kind) (p : ℕ) (l : LockList) (o : ℕ) (f : File) (r n : ℕ) (dma s : List ℕ) → (item_at l o).mode ≡ mode_unlocked
    → any_row (rows42 kind p l o f r n dma s) ≡ false → Passes42 kind p l o f r n dma s
unfolding rows42 rows_lacking rows_take any_row first_lacking lacks is_others
passes_42 kind p l o f r n dma s m h =
    let lacking = rows_lacking kind s f r n (first_lacking kind s f r n) in
    let w = passes_run kind l o r n dma (lacking ++ rows_take p l f r n) m h in
    let g = any_append lacking (rows_take p l f r n) w.rest in
    let none : ltb (lowest (lacks kind s f r) n) n ≡ false = or_fst _ _ (or_snd _ _ g.0) in
    let limit = or_snd _ _ g.1 in
    record {
      is_id = w.is_id;
      fits = w.fits;
      have_blocks = λ k i z. never (eq-eqb _ _ z) (lowest_over (lacks kind s f r) n k (ltb-false _ _ none) i);
      none_others = λ k i. any_at (is_others l p f r) n k (or_fst _ _ g.1) i;
      within = ltb-false _ _ (or_fst _ _ limit);
      room = ltb-false _ _ (or_fst _ _ (or_snd _ _ limit));
    }
