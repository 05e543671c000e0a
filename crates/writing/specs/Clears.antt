-- Which bits of a vector are cleared, entry by entry and number by number. Assumes nothing.
use Rattle.std.specs.Prelude.{ℕ, ◌<◌, ◌≡◌, Bool, true, not, List, length, eqb, leb}
use Rattle.words.specs.Tests.{◌and◌, ◌if◌else◌, any}
use Rattle.words.specs.Bytes.{are_bytes}
use Rattle.words.specs.Bits.{is_set, without_bit}
use Rattle.rules.specs.declared.kind.Kind.{Kind}
use Rattle.rules.specs.declared.file.File.{File}
use Rattle.rules.specs.Drive.{holds_number}
use Rattle.soundness.specs.Taking.{holds_block}

-- of the bits below n those that pass the test are clear in t, the others as they were in v
pub record Cleared (n : ℕ) (gone : ℕ → Bool) (v t : List ℕ) : Type 0 where
  pub long : length t ≡ length v
  pub bytes : are_bytes v ≡ true → are_bytes t ≡ true
  pub bit : (x : ℕ) → x < n → is_set t x ≡ (is_set v x and not (gone x))

-- the bit of a number in a map cleared, 0 standing for no block
unfoldable pub without_block : ℕ → List ℕ → List ℕ
without_block b v = v if eqb b 0 else without_bit b v

-- data block x stands in the first k places of entry e's map
unfoldable pub is_block_in : Kind → List ℕ → ℕ → ℕ → ℕ → Bool
is_block_in kind s e k x = leb 2 x and any (holds_number kind s x e) k

-- .. in that of entry e, which is of the file
unfoldable pub is_block_at : Kind → List ℕ → File → ℕ → ℕ → Bool
is_block_at kind s f e x = leb 2 x and holds_block kind s f x e
