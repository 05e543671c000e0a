-- 41 and 46: the outcome at each end of their routines. Assumes nothing.
use Rattle.std.proofs.Common.{◌≡◌, ℕ, ◌+◌, ◌-◌, ◌*◌, ◌/◌, ◌<◌, ◌≤◌, true, false, not, leb, eqb, List, ◌++◌, length, take, drop, Some, refl, sym, ap, ◌∙◌, ⊎_elim, arith, ne_eqb, eqb-true, length-take-le, get_or-take, ext_get_or}
use Rattle.std.proofs.lemmas.Bool.{not-true, not-false, eqb-false, false_from_ne_true}
use Rattle.std.proofs.lemmas.Slice.Eq.{bytes_eq-Decides}
use Rattle.std.specs.Cmp.Lexicographic.{pointwise}
use Rattle.words.specs.Tests.{◌if◌else◌, any}
use Rattle.words.specs.Bytes.{byte, put, part, le}
use Rattle.words.specs.Tables.{Row, first_of, none_zero}
use Rattle.words.proofs.Tests.{either, any_at, any_some}
use Rattle.words.proofs.Bytes.{part_long, part-byte}
use Rattle.words.proofs.Tables.{row_off, row_rest, nonzeros, first_then, first_stays}
use Rattle.words.proofs.Sets.{not_of_true, not_of_false}
use Rattle.rules.specs.declared.kind.Kind.{Kind}
use Rattle.rules.specs.declared.file.File.{File}
use Rattle.rules.specs.declared.list.LockList.{LockList}
use Rattle.rules.specs.declared.routine.Routine.TheVariants.{TestWrite, FreeSpace}
use Rattle.rules.specs.Kinds.{block_size, block_records, most, entries}
use Rattle.rules.specs.Serves.{Buffers, Outcome, outcome, with_dma, with_image}
use Rattle.rules.specs.Drive.{blocks, entry_of, look_up, block_in, record_at, free_blocks, sound_image}
use Rattle.rules.specs.Locks.{unpack, open_of}
use Rattle.rules.specs.Asks.{caller_file, record_of}
use Rattle.rules.specs.Codes.{rows_may, rows_there, differs, rows_differ, rows41}
use Rattle.rules.specs.Effects.{spot_at, written, does41, does46}
use Rattle.rules.specs.Call.{decided, unless, asked_by, asked, rows_of, effect_of, served}
use Rattle.rules.proofs.Sizes.{records_few}
use Rattle.rules.proofs.Room.{there_within}
use Rattle.records.specs.By.{by41}
use Rattle.rules.proofs.Refused.{code_above}
use Rattle.records.proofs.Writing.{nonzero_may, may_number, record_within}
use Rattle.records.proofs.Marking.{vectors}

-- ---- the bytes compared

-- the slices are the same where no byte differs
pub differing : (dma s : List ℕ) (at : ℕ) → 128 ≤ length dma → at + 128 ≤ length s
    → not (pointwise eqb (take 128 dma) (take (at + 128 - at) (drop at s))) ≡ any (differs dma s at) 128
unfolding differs
differing dma s at l m =
    let n : at + 128 - at ≡ 128 = omega arith in
    let same = bytes_eq-Decides (take 128 dma) (part at 128 s) in
    rw n
    (⊎_elim
    (λ (e : any (differs dma s at) 128 ≡ true).
    let w = any_some _ 128 e in
    rw e (not_of_false _ (false_from_ne_true _ (λ q. eqb-false _ _ (not-true _ w.2)
    (sym (get_or-take 128 dma w.0 0 w.1) ∙ ap (λ (v : List ℕ). byte v w.0) (same.0 q) ∙ part-byte s at 128 w.0 w.1)))))
    (λ (e : any (differs dma s at) 128 ≡ false).
    rw e (not_of_true _ (same.1 (ext_get_or 0 _ _ (length-take-le 128 dma l ∙ sym (part_long s at 128 m))
    (λ k h. let below : k < 128 = omega (arith, length-take-le 128 dma l) in
    get_or-take 128 dma k 0 below ∙ eqb-true _ _ (not-false _ (any_at _ 128 k e below)) ∙ sym (part-byte s at 128 k below))))))
    (either (any (differs dma s at) 128)))

-- ---- a table in two parts

unless_first : (xs ys : List Row) (b : Buffers) (o : Outcome) → 0 < first_of xs → unless (xs ++ ys) b o ≡ outcome (first_of xs) b
unfolding unless decided ◌if◌else◌
unless_first xs ys b o h = let n : first_of xs ≡ 0 → ⊥ = (λ (z : first_of xs ≡ 0). omega arith) in rw (first_stays xs ys n, ne_eqb (first_of xs) 0 n)

unless_then : (xs ys : List Row) (b : Buffers) (o : Outcome) → first_of xs ≡ 0 → none_zero xs ≡ true → unless (xs ++ ys) b o ≡ unless ys b o
unfolding unless
unless_then xs ys b o z h = rw (first_then xs ys z h)

nonzero_there : (kind : Kind) (s : List ℕ) (e r : ℕ) → none_zero (rows_there kind s e r) ≡ true
unfolding rows_there
nonzero_there kind s e r = search nonzeros depth 20 fits 20000

-- ---- 41, table by table

module _ (kind : Kind) (p : ℕ) (l : LockList) (o : ℕ) (f : File) (r : ℕ) (b : Buffers) where
  abbrev first : ℕ
  first = entry_of kind b.image f 0

  abbrev e : ℕ
  e = entry_of kind b.image f (r / 128)

  abbrev at : ℕ
  at = record_at kind (block_in kind b.image e r) r

  -- not to be written
  pub test_refused : 0 < first_of (rows_may kind p l o f first r b.image)
      → by41 kind p l o f r b ≡ outcome (first_of (rows_may kind p l o f first r b.image)) b
  unfolding by41 rows41
  test_refused h = unless_first _ _ b _ h

  module _ (may : first_of (rows_may kind p l o f first r b.image) ≡ 0) where
    -- not there
    pub test_lacking : 0 < first_of (rows_there kind b.image e r)
        → by41 kind p l o f r b ≡ outcome (first_of (rows_there kind b.image e r)) b
    unfolding by41 rows41
    test_lacking h = unless_then _ _ b _ may (nonzero_may kind p l o f first r b.image) ∙ unless_first _ _ b _ h

    module _ (there : first_of (rows_there kind b.image e r) ≡ 0) where
      compared : by41 kind p l o f r b ≡ unless (rows_differ kind b.dma b.image (block_in kind b.image e r) r) b (does41 kind f first e r b)
      unfolding by41 rows41
      compared = unless_then _ _ b _ may (nonzero_may kind p l o f first r b.image)
          ∙ unless_then _ _ b _ there (nonzero_there kind b.image e r)

      -- another record than was tested for
      pub test_differs : any (differs b.dma b.image at) 128 ≡ true → by41 kind p l o f r b ≡ outcome 7 b
      unfolding rows_differ unless decided first_of ◌if◌else◌
      test_differs h = rw (compared, h)

      -- written
      pub test_done : any (differs b.dma b.image at) 128 ≡ false
          → by41 kind p l o f r b ≡ outcome 0 (with_image b (written kind false (spot_at kind b.image e r) first f r (part 128 128 b.dma) b.image))
      unfolding rows_differ unless decided first_of ◌if◌else◌ does41
      test_done h = rw (compared, h)

-- a spot that is there has the record's own block
pub own_block : (kind : Kind) (s : List ℕ) (e r : ℕ) → first_of (rows_there kind s e r) ≡ 0 → (spot_at kind s e r).block ≡ block_in kind s e r
unfolding rows_there spot_at ◌if◌else◌
own_block kind s e r rows =
    let q : leb (entries kind) e ≡ false = row_off 4 _ _ (λ y. omega arith) rows in
    let y : eqb (block_in kind s e r) 0 ≡ false = row_off 1 _ _ (λ y. omega arith) (row_rest 4 _ _ (λ y. omega arith) rows) in
    rw (q, y)

-- .. which lies in the image
pub there_spot : (kind : Kind) (s : List ℕ) (f : File) (r : ℕ) → sound_image kind s ≡ true → first_of (rows_there kind s (entry_of kind s f (r / 128)) r) ≡ 0
    → ((spot_at kind s (entry_of kind s f (r / 128)) r).block < 65536)
    × ((spot_at kind s (entry_of kind s f (r / 128)) r).entry < entries kind)
    × (block_size kind * (spot_at kind s (entry_of kind s f (r / 128)) r).block + block_size kind ≤ length s)
there_spot kind s f r h rows =
    let w = there_within kind s h f r _ (entry_of kind s f (r / 128)) 0 refl refl (sym rows) refl in (w.block_fits, w.entry_within, w.block_inside)

pub ruleset tested = (code_above, test_refused, test_lacking, test_differs, test_done, own_block, there_spot, record_within, may_number, vectors)

-- the call on the buffers
pub test_called : (kind : Kind) (p c : ℕ) (b : Buffers) → served kind (Some TestWrite) p c b ≡ by41 kind p (unpack b.list)
    (open_of (unpack b.list) p (caller_file p (unpack b.list) b.fcb)) (caller_file p (unpack b.list) b.fcb) (record_of b.fcb) b
unfolding by41 served asked asked_by rows_of effect_of look_up
test_called kind p c b = refl

-- ---- 46

pub space_fits : (kind : Kind) (s : List ℕ) → blocks kind s ≤ most kind → free_blocks kind s ≤ blocks kind s
    → block_records kind * free_blocks kind s < 18446744073709551616
space_fits kind s m l = let k = records_few kind (free_blocks kind s) (omega arith) in omega arith

pub space_done : (kind : Kind) (p c : ℕ) (b : Buffers) → served kind (Some FreeSpace) p c b
    ≡ outcome 0 (with_dma b (put 0 (le 3 (block_records kind * free_blocks kind b.image)) b.dma))
unfolding served asked asked_by rows_of effect_of does46 unless decided first_of ◌if◌else◌
space_done kind p c b = refl
