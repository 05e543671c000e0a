-- "Salvage for damaged books" (T-08): what a repair leaves of an image, and what it reports. Assumes nothing.
use Rattle.std.specs.Prelude.{ℕ, ◌*◌, Bool, not, List, [], ◌∷◌, length, set, eqb, Option, Some, None}
use Rattle.words.specs.Tests.{◌and◌, ◌or◌, ◌if◌else◌, count}
use Rattle.words.specs.Lists.{tab, turns}
use Rattle.words.specs.Bytes.{put, le}
use Rattle.words.specs.Tables.{Row, ◌when◌, first_of}
use Rattle.rules.specs.declared.kind.Kind.{Kind}
use Rattle.rules.specs.Kinds.{entries, numbers, width}
use Rattle.rules.specs.Drive.{entry_size, good_length, map_at, map_number, is_empty, good_fields, is_repeat, has_first, in_range, is_first}

-- ---- The three passes, each over the image as the one before left it

-- Emptying sets byte 0 to E5h.
unfoldable pub emptied : ℕ → List ℕ → List ℕ
emptied e s = set s (entry_size * e) 0xE5

-- First, in rising order, each entry with a bad user byte, name, ex, module or count, and each whose file and extent stand in an
-- earlier entry that was kept: s is the image as it then stands.
unfoldable pub must_go : Kind → List ℕ → ℕ → Bool
must_go kind s e = not (is_empty s e) and (not (good_fields kind s e) or is_repeat s e)

unfoldable pub weeded_at : Kind → ℕ → List ℕ → List ℕ
weeded_at kind e s = emptied e s if must_go kind s e else s

unfoldable pub weeded : Kind → List ℕ → List ℕ
weeded kind s = turns (weeded_at kind) (entries kind) s

-- Then entries of files lacking extent 0.
unfoldable pub begun_at : Kind → ℕ → List ℕ → List ℕ
begun_at kind e s = s if has_first kind s e else emptied e s

unfoldable pub begun : Kind → List ℕ → List ℕ
begun kind s = turns (begun_at kind) (entries kind) s

-- Then, in rising order, it zeroes map bytes out of range or naming a block already named (block numbers: on the second kind of
-- drive one has two bytes).
unfoldable pub must_zero : Kind → List ℕ → ℕ → ℕ → Bool
must_zero kind s e k = not (in_range kind s e k and is_first kind s e k)

unfoldable pub zeroed_at : Kind → ℕ → ℕ → List ℕ → List ℕ
zeroed_at kind e k s = put (map_at kind e k) (le (width kind) 0) s if must_zero kind s e k else s

-- the first k numbers of entry e done
unfoldable pub zeroed_to : Kind → ℕ → ℕ → List ℕ → List ℕ
zeroed_to kind e k s = turns (zeroed_at kind e) k s

-- an empty entry is left alone
unfoldable pub cleaned_at : Kind → ℕ → List ℕ → List ℕ
cleaned_at kind e s = s if is_empty s e else zeroed_to kind e (numbers kind) s

-- the first e entries done
unfoldable pub cleaned_to : Kind → ℕ → List ℕ → List ℕ
cleaned_to kind e s = turns (cleaned_at kind) e s

-- the entries that stay
unfoldable pub kept : Kind → List ℕ → List ℕ
kept kind s = begun kind (weeded kind s)

unfoldable pub repaired : Kind → List ℕ → List ℕ
repaired kind s = cleaned_to kind (entries kind) (kept kind s)

-- ---- The report, a byte for each entry

-- number k of entry e is zeroed in its turn; s is the image when that of the entry comes
unfoldable pub is_zeroed : Kind → List ℕ → ℕ → ℕ → Bool
is_zeroed kind s e k = must_zero kind (zeroed_to kind e k s) e k

-- 255 where an entry that was in use is no longer, ..
unfoldable pub emptied_told : List ℕ → ℕ → ℕ
emptied_told s e = 0 if is_empty s e else 255

-- .. else how many of its numbers were zeroed, 0 where it is untouched: s as it was, t when the entry's turn comes
unfoldable pub told_of : Kind → ℕ → List ℕ → ℕ → ℕ
told_of kind was t e = was if is_empty t e else count (is_zeroed kind t e) (numbers kind)

unfoldable pub told_at : Kind → List ℕ → ℕ → ℕ
told_at kind s e = told_of kind (emptied_told s e) (cleaned_to kind e (kept kind s)) e

unfoldable pub report_of : Kind → List ℕ → List ℕ
report_of kind s = tab (told_at kind s) (entries kind)

-- ---- The outcome: the answer, and every byte of the two buffers

pub record Salvaged : Type 0 where
  pub answer : ℕ
  pub image : List ℕ
  pub report : List ℕ

abbrev pub salvaged : ℕ → List ℕ → List ℕ → Salvaged
salvaged n s r = record { answer = n; image = s; report = r }

-- Refusals: 1 wrong image length, 2 report buffer not 64 bytes (128 on the second kind of drive), both changing nothing.
unfoldable pub rows_salvage : Kind → List ℕ → List ℕ → List Row
rows_salvage kind s r =
    1 when not (good_length kind s)
    ∷ 2 when not (eqb (length r) (entries kind))
    ∷ []

unfoldable pub salvage : Kind → List ℕ → List ℕ → Salvaged
salvage kind s r =
    salvaged 0 (repaired kind s) (report_of kind s) if eqb (first_of (rows_salvage kind s r)) 0 else
    salvaged (first_of (rows_salvage kind s r)) s r

-- told the kind by a number: 1 for an unknown one too
unfoldable pub salvage_told : Option Kind → List ℕ → List ℕ → Salvaged
salvage_told (Some kind) s r = salvage kind s r
salvage_told None s r = salvaged 1 s r

-- ---- What a comparison of the image before and after tells (the report is that, a theorem)

unfoldable pub number_changed : Kind → List ℕ → List ℕ → ℕ → ℕ → Bool
number_changed kind s t e k = not (eqb (map_number kind t e k) (map_number kind s e k))

unfoldable pub compared : Kind → List ℕ → List ℕ → ℕ → ℕ
compared kind s t e = emptied_told s e if is_empty t e else count (number_changed kind s t e) (numbers kind)
