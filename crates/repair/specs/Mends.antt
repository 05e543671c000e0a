-- "No byte changes but byte 0 of emptied entries and the zeroed map bytes" (T-08), byte by byte. Assumes nothing.
use Rattle.std.specs.Prelude.{ℕ, ◌+◌, ◌*◌, ◌≤◌, ◌<◌, ◌≡◌, Bool, false, not, List, ◌⊎◌, length, eqb}
use Rattle.words.specs.Tests.{◌and◌, ◌or◌}
use Rattle.words.specs.Bytes.{byte}
use Rattle.rules.specs.declared.kind.Kind.{Kind}
use Rattle.rules.specs.Kinds.{entries}
use Rattle.rules.specs.Drive.{entry_size, is_empty, map_number, in_range, named_before}

-- byte i of t is E5h, and it is byte 0 of an entry that was in use in s
pub record FirstByte (kind : Kind) (s t : List ℕ) (i : ℕ) : Type 0 where
  pub entry : ℕ
  pub there : entry < entries kind
  pub place : i ≡ entry_size * entry
  pub was_used : is_empty s entry ≡ false
  pub now : byte t i ≡ 0xE5

-- byte i of t is 0, and it is one of bytes 16 to 31 of an entry that was in use in s and still is
pub record MapByte (kind : Kind) (s t : List ℕ) (i : ℕ) : Type 0 where
  pub entry : ℕ
  pub offset : ℕ
  pub there : entry < entries kind
  pub from : 16 ≤ offset
  pub below : offset < entry_size
  pub place : i ≡ entry_size * entry + offset
  pub was_used : is_empty s entry ≡ false
  pub still_used : is_empty t entry ≡ false
  pub now : byte t i ≡ 0

-- t is as long as s, and each byte of it is that of s or one of these two
pub record Mends (kind : Kind) (s t : List ℕ) : Type 0 where
  pub same_length : length t ≡ length s
  pub each_byte : (i : ℕ) → (byte t i ≡ byte s i) ⊎ (FirstByte kind s t i ⊎ MapByte kind s t i)

-- place k of entry e, s before and t after: its number is in range, and none that stays before it names its block
unfoldable pub stays_named : Kind → List ℕ → List ℕ → ℕ → ℕ → Bool
stays_named kind s t e k =
    in_range kind s e k and (eqb (map_number kind s e k) 0 or not (named_before kind t (map_number kind s e k) e k))
