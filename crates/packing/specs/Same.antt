-- "Accepting a book moved by others" (T-14): two images that hold the same book. Assumes nothing.
use Rattle.std.specs.Prelude.{ℕ, ◌+◌, ◌*◌, ◌/◌, ◌≡◌, Bool, not, List, [], ◌∷◌, length, eqb, Option, Some, None}
use Rattle.words.specs.Tests.{◌and◌, ◌or◌, ◌if◌else◌, all}
use Rattle.words.specs.Lists.{tab}
use Rattle.words.specs.Bytes.{byte}
use Rattle.words.specs.Tables.{Row, ◌when◌, first_of}
use Rattle.rules.specs.declared.kind.Kind.{Kind}
use Rattle.rules.specs.declared.file.File.{File}
use Rattle.rules.specs.Kinds.{block_size, entries, numbers}
use Rattle.rules.specs.Drive.{no_entry, is_empty, name_at, extent_at, map_number, file_at, entry_of, look_up, missing, sound_image}
use Rattle.rules.specs.Look.{look}

-- ---- What is asked

-- the high bit of byte k of those from a place on
abbrev pub high_from : List ℕ → ℕ → ℕ → ℕ
high_from s at k = byte s (at + k) / 128

-- The file's attributes are those of extent 0: its eleven high bits, and none where there is no such file.
unfoldable pub attributes : Kind → List ℕ → File → List ℕ
attributes kind s f = [] if missing kind (look_up kind s f) else tab (high_from s (name_at (look_up kind s f).entry)) 11

-- They hold the same files with the same extent 0 attributes, and Look shows for each record the same 128 bytes or nothing in both.
pub record SameBook (kind : Kind) (s t : List ℕ) : Type 0 where
  pub files : (f : File) → length f.name ≡ 11 → missing kind (look_up kind t f) ≡ missing kind (look_up kind s f)
  pub marks : (f : File) → length f.name ≡ 11 → attributes kind t f ≡ attributes kind s f
  pub looks : (user : ℕ) (name : List ℕ) (r : ℕ) → look kind user name r t ≡ look kind user name r s

-- ---- What is tried: each used entry of the one against the other, and the other way round

-- the number in place k of an entry's map, 0 where there is no such entry
unfoldable pub number_in : Kind → List ℕ → ℕ → ℕ → ℕ
number_in kind t d k = 0 if no_entry kind d else map_number kind t d k

unfoldable pub same_byte : List ℕ → ℕ → List ℕ → ℕ → ℕ → Bool
same_byte s a t b i = eqb (byte t (b + i)) (byte s (a + i))

-- two blocks with the same bytes
unfoldable pub same_block : Kind → List ℕ → ℕ → List ℕ → ℕ → Bool
same_block kind s a t b = all (same_byte s (block_size kind * a) t (block_size kind * b)) (block_size kind)

-- numbers a of s and b of t: none in both, or the same bytes
unfoldable pub same_held : Kind → List ℕ → ℕ → List ℕ → ℕ → Bool
same_held kind s a t b = eqb b 0 if eqb a 0 else not (eqb b 0) and same_block kind s a t b

unfoldable pub same_place : Kind → List ℕ → ℕ → List ℕ → ℕ → ℕ → Bool
same_place kind s e t d k = same_held kind s (map_number kind s e k) t (number_in kind t d k)

unfoldable pub same_high : List ℕ → ℕ → List ℕ → ℕ → ℕ → Bool
same_high s at t bt k = eqb (high_from t bt k) (high_from s at k)

-- the extent 0 at entry e of s stands at entry d of t, with the same attributes
unfoldable pub same_marks : Kind → List ℕ → ℕ → List ℕ → ℕ → Bool
same_marks kind s e t d = not (no_entry kind d) and all (same_high s (name_at e) t (name_at d)) 11

-- entry e of s, and where its file and extent stand in t
unfoldable pub same_at : Kind → List ℕ → ℕ → List ℕ → ℕ → Bool
same_at kind s e t d = all (same_place kind s e t d) (numbers kind) and (not (eqb (extent_at s e) 0) or same_marks kind s e t d)

unfoldable pub same_entry : Kind → List ℕ → List ℕ → ℕ → Bool
same_entry kind s t e = is_empty s e or same_at kind s e t (entry_of kind t (file_at s e) (extent_at s e))

unfoldable pub same_book : Kind → List ℕ → List ℕ → Bool
same_book kind s t = all (same_entry kind s t) (entries kind) and all (same_entry kind t s) (entries kind)

-- Refusals: 1 first image unsound, 2 second unsound, 3 they hold different books.
unfoldable pub rows_same : Kind → List ℕ → List ℕ → List Row
rows_same kind s t =
    1 when not (sound_image kind s)
    ∷ 2 when not (sound_image kind t)
    ∷ 3 when not (same_book kind s t)
    ∷ []

-- told the kind by a number: 1 for an unknown one
unfoldable pub same_told : Option Kind → List ℕ → List ℕ → ℕ
same_told (Some kind) s t = first_of (rows_same kind s t)
same_told None s t = 1
