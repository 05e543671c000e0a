-- Laws of the steps that change an image. Assumes nothing.
use Rattle.std.proofs.Common.{ℕ, ◌+◌, ◌-◌, ◌*◌, ◌/◌, ◌%◌, ◌≤◌, ◌<◌, ◌≡◌, refl, ap, Bool, true, false, List, [], ◌∷◌, ◌++◌, arith, length, get_or, take, drop, replicate, rules, ltb-true}
use borrow.Rule.Slice.PartMut.{put_mid}
use Rattle.words.proofs.Bytes.{lent_filled}
use Rattle.words.specs.Tests.{all, ◌if◌else◌, ◌and◌}
use Rattle.words.specs.Bytes.{put, le}
use Rattle.words.proofs.Tests.{all_at}
use Rattle.words.proofs.Lists.{tab_get_d, filled_turn}
use Rattle.words.proofs.Sets.{filled_none, filled_ends}
use Rattle.rules.specs.Locks.{is_low}
use Rattle.rules.specs.Effects.{low_changed, entered, mapped, counted, cleared, stored, written}
use Rattle.rules.specs.declared.kind.Kind.{Kind}
use Rattle.rules.specs.Kinds.{width, block_size}
use Rattle.rules.specs.Drive.{map_at, map_place, record_at}
use Rattle.rules.proofs.Sizes.{record_room}
use Rattle.rules.specs.declared.file.File.{File}
use Rattle.rules.specs.declared.spot.Spot.{Spot}

pub spot_is : (e e' b b' : ℕ) (p t : Bool) → e ≡ e' → b ≡ b'
    → ◌≡◌ {A = Spot} (record { entry = e; fresh = p; block = b; taken = t }) (record { entry = e'; fresh = p; block = b'; taken = t })
spot_is e e' b b' p t q r = rw (q, r)

-- the low seven bits of a name
pub low_at : (name : List ℕ) (k : ℕ) → all (is_low name) 11 ≡ true → k < 11 → get_or name k 0 < 128
unfolding is_low
low_at name k h l = ltb-true _ _ (all_at (is_low name) 11 k h l)

pub low_byte : (s : List ℕ) (at : ℕ) (name : List ℕ) (k x : ℕ) → x ≡ get_or s (at + k) 0 / 128 * 128 + get_or name k 0 → x ≡ low_changed s at name k
unfolding low_changed
low_byte s at name k x h = h

pub ruleset lowering = (rules, low_at, low_byte, filled_none, filled_turn, filled_ends, refl)

-- ---- a block taken, a record stored

module _ (kind : Kind) (w : Spot) (r : ℕ) (s : List ℕ) where
  pub mapped_on : (t : List ℕ) (k : ℕ) → w.taken ≡ true → k ≡ map_place kind r → t ≡ put (map_at kind w.entry k) (le (width kind) w.block) s
      → t ≡ mapped kind w r s
  unfolding mapped ◌if◌else◌
  mapped_on t k y p h = rw (y, ← p) h

  pub mapped_off : w.taken ≡ false → s ≡ mapped kind w r s
  unfolding mapped ◌if◌else◌
  mapped_off y = rw y

  pub stored_as : (t v x : List ℕ) (at : ℕ) → at ≡ record_at kind w.block r → x ≡ take 128 v → t ≡ put at x s → t ≡ stored kind w r v s
  unfolding stored
  stored_as t v x at p q h = rw (← p, ← q) h

-- a record lies in the image with its block
pub record_lies : (kind : Kind) (block r at : ℕ) (s : List ℕ) → at ≡ record_at kind block r → block_size kind * block + block_size kind ≤ length s
    → at + 128 ≤ length s
record_lies kind block r at s h g = rw h (record_room kind block r (length s) g)

-- ---- a block cleared

module _ (kind : Kind) (zeros : Bool) (w : Spot) (xs : List ℕ) where
  pub cleared_on : (ys : List ℕ) (a m : ℕ) → zeros ≡ true → w.taken ≡ true → a ≡ block_size kind * w.block → m ≡ block_size kind
      → block_size kind * w.block + block_size kind ≤ length xs → ys ≡ replicate (length (take (a + m - a) (drop a xs))) 0
      → put_mid a (a + m - a) xs ys ≡ cleared kind zeros w xs
  unfolding cleared ◌if◌else◌ ◌and◌
  cleared_on ys a m z y p q f h = rw (z, y, ← p, ← q) (lent_filled a (a + m) m 0 xs ys refl (omega arith) h)

  pub cleared_no : zeros ≡ false → xs ≡ cleared kind zeros w xs
  unfolding cleared ◌if◌else◌ ◌and◌
  cleared_no z = rw z

  pub cleared_off : zeros ≡ true → w.taken ≡ false → xs ≡ cleared kind zeros w xs
  unfolding cleared ◌if◌else◌ ◌and◌
  cleared_off z y = rw (z, y)

-- ---- the steps of a write, one after the other

pub written_as : (kind : Kind) (zeros : Bool) (w : Spot) (e₀ : ℕ) (f : File) (r : ℕ) (v s a b c d t : List ℕ) → a ≡ entered w e₀ f r s → b ≡ mapped kind w r a
    → c ≡ counted w r b → d ≡ cleared kind zeros w c → t ≡ stored kind w r v d → t ≡ written kind zeros w e₀ f r v s
unfolding written
written_as kind zeros w e₀ f r v s a b c d t ha hb hc hd ht = rw (← ha, ← hb, ← hc, ← hd) ht
