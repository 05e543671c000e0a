-- T-12: its refusals, and what is left. Assumes nothing.
use Rattle.std.specs.Prelude.{ℕ, Bool, not, List, [], ◌∷◌, length, eqb, Option, Some, None}
use Rattle.words.specs.Tests.{◌or◌, ◌if◌else◌, any}
use Rattle.words.specs.Tables.{Row, ◌∕◌, ◌when◌, first_of}
use Rattle.rules.specs.declared.kind.Kind.{Kind}
use Rattle.rules.specs.declared.list.LockList.{LockList}
use Rattle.rules.specs.Serves.{list_size}
use Rattle.rules.specs.Drive.{sound_image}
use Rattle.rules.specs.Locks.{places, an_open, item_at, unpack, sound_list}
use Rattle.packing.specs.Packed.{packed}

-- the list holds an open
unfoldable pub is_open_at : LockList → ℕ → Bool
is_open_at l i = eqb (item_at l i).kind an_open

unfoldable pub holds_open : LockList → Bool
holds_open l = any (is_open_at l) places

-- Refusals: 255/13 wrong lengths; 255/1; 255/12; 255/5 while the list holds an open. out is the second buffer.
unfoldable pub rows_pack : Kind → List ℕ → List ℕ → List ℕ → List Row
rows_pack kind s list out =
    255 ∕ 13 when (not (eqb (length list) list_size) or not (eqb (length out) (length s)))
    ∷ 255 ∕ 1 when not (sound_image kind s)
    ∷ 255 ∕ 12 when not (sound_list kind list s)
    ∷ 255 ∕ 5 when holds_open (unpack list)
    ∷ []

-- the answer, and the second buffer, unchanged on a refusal (the image and the list are only read)
pub record Packs : Type 0 where
  pub answer : ℕ
  pub out : List ℕ

abbrev pub packs : ℕ → List ℕ → Packs
packs a out = record { answer = a; out = out }

unfoldable pub pack : Kind → List ℕ → List ℕ → List ℕ → Packs
pack kind s list out =
    packs (0 ∕ 0) (packed kind s) if eqb (first_of (rows_pack kind s list out)) 0 else
    packs (first_of (rows_pack kind s list out)) out

-- told the kind by a number: 255/13 for an unknown one
unfoldable pub pack_told : Option Kind → List ℕ → List ℕ → List ℕ → Packs
pack_told (Some kind) s list out = pack kind s list out
pack_told None s list out = packs (255 ∕ 13) out
