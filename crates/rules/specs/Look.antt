-- "For screens there is also Look". Assumes nothing.
use Rattle.std.specs.Prelude.{ℕ, Bool, List, [], length, leb, eqb}
use Rattle.words.specs.Tests.{◌and◌, ◌if◌else◌}
use Rattle.words.specs.Bytes.{part}
use Rattle.rules.specs.declared.kind.Kind.{Kind}
use Rattle.rules.specs.Drive.{record_size, legal_name, file_from, block_of, record_at, sound_image}

-- the image sound, the user and name legal (eleven bytes long)
unfoldable pub may_look : Kind → ℕ → List ℕ → List ℕ → Bool
may_look kind user name s =
    sound_image kind s and leb user 15 and eqb (length name) 11 and legal_name name 0

-- the block of that record, 0 where it may not be looked at or has none
unfoldable pub look_block : Kind → ℕ → List ℕ → ℕ → List ℕ → ℕ
look_block kind user name r s = block_of kind s (file_from user name 0) r if may_look kind user name s else 0

-- where the part of a record begins that has this block; 0 where it has none
unfoldable pub part_at : Kind → ℕ → ℕ → ℕ
part_at kind block r = 0 if eqb block 0 else record_at kind block r

-- where that 128-byte part of the image begins, 0 where the part is empty
unfoldable pub look_at : Kind → ℕ → List ℕ → ℕ → List ℕ → ℕ
look_at kind user name r s = part_at kind (look_block kind user name r s) r

-- the part that begins there
unfoldable pub part_from : ℕ → List ℕ → List ℕ
part_from at s = [] if eqb at 0 else part at record_size s

-- User, eleven name bytes, record and image in; out comes that 128-byte part of the image itself, or an empty part where
-- the image is unsound, the user or name illegal (any length but eleven too), or the record has no block.
unfoldable pub look : Kind → ℕ → List ℕ → ℕ → List ℕ → List ℕ
look kind user name r s = part_from (look_at kind user name r s) s
