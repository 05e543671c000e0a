-- What passing the rows for want of room says: the spot lies in the image. Assumes nothing.
use Prim.Native.Nat.{ℕ, ◌+◌, ◌*◌, ◌/◌, ◌≤◌, ◌<◌}
use mathlib.Core.Path.{◌≡◌, refl, sym, ap, ◌∙◌}
use mathlib.Core.Bool.{true, false}
use mathlib.Core.List.{List}
use mathlib.Core.Logic.{⊎_elim}
use native.Mathlib.Omega.{arith}
use lib.ListN.{length}
use lib.Dec.{leb, eqb}
use borrow.Author.Tests.{leb-false, eqb-false}
use Rattle.words.specs.Tests.{◌and◌, ◌if◌else◌}
use Rattle.words.specs.Tables.{first_of}
use Rattle.words.proofs.Tests.{either}
use Rattle.words.proofs.Bytes.{part_long}
use Rattle.words.proofs.Tables.{row_off, row_rest}
use Rattle.rules.specs.declared.kind.Kind.{Kind}
use Rattle.rules.specs.Kinds.{block_size, most, entries}
use Rattle.rules.specs.declared.file.File.{File}
use Rattle.rules.specs.declared.spot.Spot.{Spot}
use Rattle.rules.specs.Drive.{blocks, entry_of, block_in, block_of, free_entry, free_block, record_at, sound_image}
use Rattle.rules.specs.Codes.{rows_room, rows_there, rows33}
use Rattle.rules.specs.Effects.{spot_at, contents}
use Rattle.rules.proofs.Sound.{sound_length, length_whole, length_few, block_within}
use Rattle.rules.proofs.Sizes.{block_inside, record_room, most_fits}

-- a spot that is in the image
pub record Within (kind : Kind) (w : Spot) (s : List ℕ) : Type 0 where
  pub entry_within : w.entry < entries kind
  pub block_fits : w.block < 65536
  pub block_inside : block_size kind * w.block + block_size kind ≤ length s

module _ (kind : Kind) (s : List ℕ) (h : sound_image kind s ≡ true) where
  missing_none : (e r : ℕ) → leb (entries kind) e ≡ true → eqb (block_in kind s e r) 0 ≡ true
  unfolding block_in ◌if◌else◌
  missing_none e r q = rw q

  few : blocks kind s ≤ most kind
  few = length_few kind s (sound_length kind s h)

  whole : block_size kind * blocks kind s ≡ length s
  whole = length_whole kind s (sound_length kind s h)

  inside : (w : Spot) → w.entry < entries kind → w.block < blocks kind s → Within kind w s
  inside w e b = record {
    entry_within = e;
    block_fits = omega (arith, few, most_fits kind);
    block_inside = rw (← whole) (block_inside kind w.block (blocks kind s) b);
  }

  module _ (f : File) (r : ℕ) where
    own : leb (entries kind) (entry_of kind s f (r / 128)) ≡ false → eqb (block_in kind s (entry_of kind s f (r / 128)) r) 0 ≡ false
        → Within kind (record { entry = entry_of kind s f (r / 128); fresh = false; block = block_in kind s (entry_of kind s f (r / 128)) r; taken = false }) s
    unfolding block_of
    own q z = inside _ (leb-false _ _ q) (block_within kind s f r (eqb-false _ _ z) h).1

    found : (leb (entries kind) (entry_of kind s f (r / 128)) and leb (entries kind) (free_entry kind s)) ≡ false
        → (eqb (block_in kind s (entry_of kind s f (r / 128)) r) 0 and leb (blocks kind s) (free_block kind s)) ≡ false
        → Within kind (spot_at kind s (entry_of kind s f (r / 128)) r) s
    unfolding spot_at ◌if◌else◌ ◌and◌
    found a b =
        ⊎_elim
        (λ (q : leb (entries kind) (entry_of kind s f (r / 128)) ≡ true).
        let y : eqb (block_in kind s (entry_of kind s f (r / 128)) r) 0 ≡ true = missing_none (entry_of kind s f (r / 128)) r q in
        rw q (inside _ (leb-false _ _ (rw q at a)) (leb-false _ _ (rw y at b))))
        (λ (q : leb (entries kind) (entry_of kind s f (r / 128)) ≡ false).
        ⊎_elim
        (λ (y : eqb (block_in kind s (entry_of kind s f (r / 128)) r) 0 ≡ true). rw (q, y) (inside _ (leb-false _ _ q) (leb-false _ _ (rw y at b))))
        (λ (y : eqb (block_in kind s (entry_of kind s f (r / 128)) r) 0 ≡ false). rw (q, y) (own q y))
        (either (eqb (block_in kind s (entry_of kind s f (r / 128)) r) 0)))
        (either (leb (entries kind) (entry_of kind s f (r / 128))))

    -- passing the rows for want of room
    pub room_within : (w : Spot) (e c : ℕ) → e ≡ entry_of kind s f (r / 128) → w ≡ spot_at kind s e r → c ≡ first_of (rows_room kind s e r) → c ≡ 0
        → Within kind w s
    unfolding rows_room
    room_within w e c he hw hc z =
        let rows : first_of (rows_room kind s (entry_of kind s f (r / 128)) r) ≡ 0 = ap (λ (d : ℕ). first_of (rows_room kind s d r)) (sym he) ∙ sym hc ∙ z in
        let spot : w ≡ spot_at kind s (entry_of kind s f (r / 128)) r = hw ∙ ap (λ (d : ℕ). spot_at kind s d r) he in
        rw spot (found (row_off 5 _ _ (λ y. omega arith) rows) (row_off 2 _ _ (λ y. omega arith) (row_rest 5 _ _ (λ y. omega arith) rows)))

    -- passing the rows for a record that is to be there
    pub there_within : (w : Spot) (e c : ℕ) → e ≡ entry_of kind s f (r / 128) → w ≡ spot_at kind s e r → c ≡ first_of (rows_there kind s e r) → c ≡ 0
        → Within kind w s
    unfolding rows_there spot_at ◌if◌else◌
    there_within w e c he hw hc z =
        let rows : first_of (rows_there kind s (entry_of kind s f (r / 128)) r) ≡ 0 = ap (λ (d : ℕ). first_of (rows_there kind s d r)) (sym he) ∙ sym hc ∙ z in
        let spot : w ≡ spot_at kind s (entry_of kind s f (r / 128)) r = hw ∙ ap (λ (d : ℕ). spot_at kind s d r) he in
        let q : leb (entries kind) (entry_of kind s f (r / 128)) ≡ false = row_off 4 _ _ (λ y. omega arith) rows in
        let y : eqb (block_in kind s (entry_of kind s f (r / 128)) r) 0 ≡ false = row_off 1 _ _ (λ y. omega arith) (row_rest 4 _ _ (λ y. omega arith) rows) in
        rw (spot, q, y) (own q y)

-- ---- a record that is read

-- a record that passes the rows for one that is to be there: its block lies in the image
pub there_room : (kind : Kind) (s : List ℕ) (f : File) (r e c k : ℕ) → sound_image kind s ≡ true → e ≡ entry_of kind s f (r / 128)
    → c ≡ first_of (rows_there kind s e r) → c ≡ 0 → k ≡ block_in kind s e r → block_size kind * k + block_size kind ≤ length s
unfolding rows_there block_of
there_room kind s f r e c k h he hc z hk =
    let rows : first_of (rows_there kind s (entry_of kind s f (r / 128)) r) ≡ 0 = ap (λ (d : ℕ). first_of (rows_there kind s d r)) (sym he) ∙ sym hc ∙ z in
    let some = eqb-false _ _ (row_off 1 _ _ (λ y. omega arith) (row_rest 4 _ _ (λ y. omega arith) rows)) in
    let b : block_of kind s f r < blocks kind s = (block_within kind s f r some h).1 in
    let q : k ≡ block_of kind s f r = hk ∙ ap (λ (d : ℕ). block_in kind s d r) he in
    rw (← length_whole kind s (sound_length kind s h), q) (block_inside kind (block_of kind s f r) (blocks kind s) b)

-- the same of one that passes the rows of 33
pub read_room : (kind : Kind) (o : ℕ) (s : List ℕ) (f : File) (r e c k : ℕ) → sound_image kind s ≡ true → e ≡ entry_of kind s f (r / 128)
    → c ≡ first_of (rows33 kind o e r s) → c ≡ 0 → k ≡ block_in kind s e r → block_size kind * k + block_size kind ≤ length s
unfolding rows33
read_room kind o s f r e c k h he hc z hk =
    there_room kind s f r e _ k h he refl (row_rest 6 _ _ (λ y. omega arith) (row_rest 10 _ _ (λ y. omega arith) (sym hc ∙ z))) hk

-- .. and it is 128 bytes long
pub contents_long : (kind : Kind) (s : List ℕ) (block r : ℕ) → block_size kind * block + block_size kind ≤ length s → length (contents kind s block r) ≡ 128
unfolding contents
contents_long kind s block r h = part_long s (record_at kind block r) 128 (record_room kind block r (length s) h)
