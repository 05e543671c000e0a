-- The rows that look into the buffers of a call with a vector, by what the callees answered. Assumes nothing.
use Prim.Native.Nat.{ℕ}
use mathlib.Core.Path.{◌≡◌}
use mathlib.Core.Bool.{Bool, true, false, not}
use mathlib.Core.List.{List}
use lib.ListN.{length}
use Rattle.words.specs.Tests.{◌if◌else◌, all}
use Rattle.words.specs.Bytes.{same_byte}
use Rattle.words.specs.Tables.{◌∕◌, first_of}
use Rattle.words.proofs.Sets.{not_yes, not_no}
use Rattle.rules.specs.declared.kind.Kind.{Kind}
use Rattle.rules.specs.Kinds.{vector_size}
use Rattle.rules.specs.Locks.{sound_list}
use Rattle.rules.specs.Codes.{bad_drive}
use Rattle.drive.specs.Walks.{Vectored}
use Rattle.drive.proofs.Taken.{vectored_sound, vectored_agrees}
use Rattle.calls.specs.Five.{rows_within}

-- the image is sound and so is the list
module _ (kind : Kind) (n : ℕ) (fcb list s v : List ℕ) (r : Bool) (seen hints : List ℕ) (w : Vectored kind s r seen hints) (t : not r ≡ false)
    (b : Bool) (e : b ≡ sound_list kind list s) (u : not b ≡ false) (l : length v ≡ vector_size kind)
    (q : Bool) (m : q ≡ all (same_byte v seen) (length v)) where
  -- the vector lent is not the one built
  pub within_vector : not q ≡ true → 255 ∕ 14 ≡ first_of (rows_within kind n fcb list s v)
  unfolding rows_within first_of ◌if◌else◌
  within_vector y =
      rw (vectored_sound kind s r seen hints w t, not_yes b _ e u, not_no q _ (vectored_agrees kind s r seen hints w t v l q m) y)

  -- it is
  module _ (y : not q ≡ false) (d : Bool) (x : d ≡ bad_drive n fcb) where
    -- the drive byte is bad, ..
    pub within_drive : d ≡ true → 255 ∕ 4 ≡ first_of (rows_within kind n fcb list s v)
    unfolding rows_within first_of ◌if◌else◌
    within_drive z =
        rw (vectored_sound kind s r seen hints w t, not_yes b _ e u, not_yes q _ (vectored_agrees kind s r seen hints w t v l q m) y, ← x, z)

    -- .. or no row applies
    pub within_none : d ≡ false → 0 ≡ first_of (rows_within kind n fcb list s v)
    unfolding rows_within first_of ◌if◌else◌
    within_none z =
        rw (vectored_sound kind s r seen hints w t, not_yes b _ e u, not_yes q _ (vectored_agrees kind s r seen hints w t v l q m) y, ← x, z)
