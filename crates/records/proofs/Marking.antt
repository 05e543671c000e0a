-- The vector beside the write of one record, and after 34, 40 and 41. Assumes nothing.
use Rattle.std.proofs.Common.{◌≡◌, ℕ, ◌+◌, ◌*◌, ◌/◌, ◌<◌, ◌≤◌, Bool, true, false, leb, eqb, List, [], length, refl, sym, ap, ◌∙◌, arith, ne_eqb}
use Rattle.words.specs.Tests.{◌if◌else◌}
use Rattle.words.specs.Tables.{first_of}
use Rattle.words.proofs.Tables.{row_off, row_rest}
use Rattle.words.proofs.Sets.{and_left}
use Rattle.rules.specs.declared.kind.Kind.{Kind}
use Rattle.rules.specs.declared.kind.Kind.TheVariants.{Small, Large}
use Rattle.rules.specs.declared.file.File.{File}
use Rattle.rules.specs.declared.spot.Spot.{Spot}
use Rattle.rules.specs.Kinds.{block_size, most, entries, top}
use Rattle.rules.specs.Serves.{buffers}
use Rattle.rules.specs.Drive.{blocks, entry_of, block_in, sound_image}
use Rattle.rules.specs.Locks.{unpack, open_of, sound_list}
use Rattle.rules.specs.Asks.{caller_file}
use Rattle.rules.specs.Codes.{rows_room, rows_there}
use Rattle.rules.specs.Effects.{spot_at, written}
use Rattle.rules.specs.Vector.{vector_of}
use Rattle.rules.proofs.Sizes.{vector_bits}
use Rattle.rules.proofs.Sound.{sound_of}
use Rattle.rules.proofs.SoundList.{unpack_shape, list_sound_of}
use Rattle.rules.proofs.Vector.{vector-long}
use Rattle.soundness.specs.Taking.{taken_by}
use Rattle.soundness.proofs.Taken.{caller_long, own_there}
use Rattle.soundness.proofs.Vectors.{taken_off, vector_written}
use Rattle.records.specs.By.{marked_by}
use Rattle.rules.proofs.Refused.{code_above}
use Rattle.records.proofs.Writing.{may_first, may_then, write_may, room_spot, record_within, write_refused, write_done}

-- ---- the write of one record

-- a block of the image is one of its drive's
block_below : (kind : Kind) (block : ℕ) (s : List ℕ) → block_size kind * block + block_size kind ≤ length s → block < blocks kind s
unfolding block_size blocks
block_below (Small u) block s h = omega arith
block_below (Large u) block s h = omega arith

-- a block of the image has a bit
pub block_bit : (kind : Kind) (block : ℕ) (s v : List ℕ) → blocks kind s ≤ most kind → v ≡ vector_of kind s
    → block_size kind * block + block_size kind ≤ length s → block < 8 * length v
block_bit kind block s v few h inside =
    let a : length v ≡ _ = ap length h ∙ vector-long kind s in
    let b = vector_bits kind in
    let c = block_below kind block s inside in omega arith

-- where there is room, the block taken has
pub spot_bit : (kind : Kind) (s : List ℕ) (f : File) (r : ℕ) → sound_image kind s ≡ true → blocks kind s ≤ most kind
    → first_of (rows_room kind s (entry_of kind s f (r / 128)) r) ≡ 0
    → (spot_at kind s (entry_of kind s f (r / 128)) r).block < 8 * length (vector_of kind s)
spot_bit kind s f r h few rows =
    block_bit kind (spot_at kind s (entry_of kind s f (r / 128)) r).block s (vector_of kind s) few refl (room_spot kind s f r h rows).2

-- a refusal leaves the vector, ..
pub marked_not : (code : ℕ) (w : Spot) (v : List ℕ) → 0 < code → marked_by code w v ≡ v
unfolding marked_by ◌if◌else◌
marked_not code w v h = rw (ne_eqb code 0 (λ z. omega arith))

-- .. a write marks it
pub marked_so : (w : Spot) (v : List ℕ) → marked_by 0 w v ≡ taken_by w v
unfolding marked_by ◌if◌else◌
marked_so w v = refl

pub ruleset ones = (code_above, may_first, may_then, write_may, room_spot, record_within, spot_bit, marked_not, marked_so)

-- ---- on what a call has found

-- where the caller has its file open, it is on the image
pub file_there : (kind : Kind) (p : ℕ) (s list fcb : List ℕ) → sound_list kind list s ≡ true
    → open_of (unpack list) p (caller_file p (unpack list) fcb) < 64
    → entry_of kind s (caller_file p (unpack list) fcb) 0 < entries kind
file_there kind p s list fcb h m = own_there kind s p (buffers fcb [] list s) (unpack_shape list) (list_sound_of kind list s h) m

module _ (kind : Kind) (s : List ℕ) (f : File) (r : ℕ) (d : List ℕ) (h : sound_image kind s ≡ true) (named : length f.name ≡ 11) (far : r ≤ top kind)
    (there : entry_of kind s f 0 < entries kind) (full : 128 ≤ length d) where
  abbrev e : ℕ
  e = entry_of kind s f (r / 128)

  -- the bit of the block that a record takes is set
  pub written_bit : (zeros : Bool) → first_of (rows_room kind s e r) ≡ 0
      → vector_of kind (written kind zeros (spot_at kind s e r) (entry_of kind s f 0) f r d s) ≡ taken_by (spot_at kind s e r) (vector_of kind s)
  unfolding rows_room
  written_bit zeros rows = vector_written kind zeros s f r d (sound_of kind s h) named far there full (row_off 5 _ _ (λ y. omega arith) rows)
      (row_off 2 _ _ (λ y. omega arith) (row_rest 5 _ _ (λ y. omega arith) rows))

  -- 41 takes no block: the vector is as it was
  pub test_vector : first_of (rows_there kind s e r) ≡ 0
      → vector_of kind (written kind false (spot_at kind s e r) (entry_of kind s f 0) f r d s) ≡ vector_of kind s
  unfolding rows_there
  test_vector rows =
      let a : leb (entries kind) e ≡ false = row_off 4 _ _ (λ y. omega arith) rows in
      let c : eqb (block_in kind s e r) 0 ≡ false = row_off 1 _ _ (λ y. omega arith) (row_rest 4 _ _ (λ y. omega arith) rows) in
      vector_written kind false s f r d (sound_of kind s h) named far there full (and_left _ _ a) (and_left _ _ c)
      ∙ sym (taken_off (spot_at kind s e r) (vector_of kind s) (own a c))
    where
      own : leb (entries kind) e ≡ false → eqb (block_in kind s e r) 0 ≡ false → (spot_at kind s e r).taken ≡ false
      own a c = unfold spot_at ◌if◌else◌ in rw (a, c)

pub ruleset vectors = (caller_long, file_there, test_vector)

pub ruleset written_by = (code_above, write_refused, write_done, may_first, may_then, write_may, caller_long, file_there, written_bit, marked_not, marked_so)
