-- "History's groups": the pairs of file and record number divided by eight (by sixteen, on a drive of the second kind) that had a
-- block at the start or that an accepted 34 or 40 has touched; an accepted Rename carries them over, an accepted Delete drops
-- them. Of a 34 or 40 that was refused the records done count (T-07). Assumes nothing.
use Rattle.std.specs.Prelude.{ℕ, zero, suc, ◌+◌, ◌*◌, ◌/◌, ◌%◌, Bool, false, not, List, [], ◌∷◌, map, eqb}
use Rattle.words.specs.Tests.{◌and◌, ◌or◌, ◌if◌else◌}
use Rattle.words.specs.Lists.{turns, without}
use Rattle.rules.specs.declared.kind.Kind.{Kind}
use Rattle.rules.specs.Kinds.{block_records, numbers}
use Rattle.rules.specs.declared.file.File.{File}
use Rattle.rules.specs.Drive.{file_at, extent_at, block_of, all_numbers, is_numbered}
use Rattle.rules.specs.Locks.{same_file}
use Rattle.history.specs.History.{Event}
use Rattle.history.specs.Deeds.{Deed, nothing, opens, closes, locks, unlocks, ends, touches, drops, carries, tells, deed}

pub record Group : Type 0 where
  pub file : File
  pub number : ℕ

abbrev pub group : File → ℕ → Group
group f n = record { file = f; number = n }

unfoldable pub same_group : Group → Group → Bool
same_group a b = eqb a.number b.number and same_file a.file b.file

unfoldable pub is_counted : Group → List Group → Bool
is_counted x [] = false
is_counted x (y ∷ ys) = same_group x y or is_counted x ys

-- ---- On the image

-- the record has a block
unfoldable pub has_block : Kind → List ℕ → File → ℕ → Bool
has_block kind s f r = not (eqb (block_of kind s f r) 0)

-- the group that it is in
abbrev pub group_of : Kind → File → ℕ → Group
group_of kind f r = group f (r / block_records kind)

-- the group that place i of all the maps is of
unfoldable pub group_at : Kind → List ℕ → ℕ → Group
group_at kind s i = group (file_at s (i / numbers kind)) (numbers kind * extent_at s (i / numbers kind) + i % numbers kind)

-- those below n
unfoldable pub groups_below : Kind → List ℕ → ℕ → List Group
groups_below kind s zero = []
groups_below kind s (suc n) = group_at kind s n ∷ groups_below kind s n if is_numbered kind s n else groups_below kind s n

-- the groups that have a block at the start
unfoldable pub groups_of : Kind → List ℕ → List Group
groups_of kind s = groups_below kind s (all_numbers kind)

-- ---- In the history

unfoldable pub touching : Group → List Group → List Group
touching x g = g if is_counted x g else x ∷ g

-- .. by each record of a run
unfoldable pub touching_at : Kind → File → ℕ → ℕ → List Group → List Group
touching_at kind f r k g = touching (group_of kind f (r + k)) g

unfoldable pub touching_run : Kind → File → ℕ → ℕ → List Group → List Group
touching_run kind f r n g = turns (touching_at kind f r) n g

unfoldable pub of_file : File → Group → Bool
of_file f x = same_file x.file f

unfoldable pub carried : File → File → Group → Group
carried f h x = group h x.number if of_file f x else x

unfoldable pub counting : Kind → Deed → List Group → List Group
counting kind nothing g = g
counting kind (opens p f mode) g = g
counting kind (closes p f) g = g
counting kind (locks p f r n) g = g
counting kind (unlocks p f r n) g = g
counting kind (ends p) g = g
counting kind (touches f r n) g = touching_run kind f r n g
counting kind (drops p f) g = without (of_file f) g
counting kind (carries f h) g = map (carried f h) g
counting kind tells g = g

-- the groups after the events, g before them
unfoldable pub counted_after : Kind → List ℕ → List Event → List Group → List Group
counted_after kind users [] g = g
counted_after kind users (e ∷ es) g = counted_after kind users es (counting kind (deed users e) g)
