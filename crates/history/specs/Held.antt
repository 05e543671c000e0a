-- "What the history grants": the opens and record locks that it holds. Assumes nothing.
use Rattle.std.specs.Prelude.{ℕ, ◌+◌, Bool, false, List, [], ◌∷◌, eqb}
use Rattle.words.specs.Tests.{◌and◌, ◌or◌, ◌if◌else◌}
use Rattle.words.specs.Lists.{turns, without}
use Rattle.rules.specs.declared.item.Item.{Item}
use Rattle.rules.specs.Locks.{fresh_open, fresh_lock, mode_unlocked, same_name}
use Rattle.rules.specs.Effects.{is_of_file, is_in_run}
use Rattle.history.specs.History.{Event}
use Rattle.history.specs.Deeds.{Deed, nothing, opens, closes, locks, unlocks, ends, touches, drops, carries, tells, deed}

unfoldable pub same_item : Item → Item → Bool
same_item a b =
    eqb a.kind b.kind and eqb a.process b.process and same_name a.name b.name
    and eqb a.mode b.mode and eqb a.number b.number

-- the item is among those
unfoldable pub is_among : Item → List Item → Bool
is_among x [] = false
is_among x (y ∷ ys) = same_item x y or is_among x ys

-- What is held already is held once.
unfoldable pub granting : Item → List Item → List Item
granting x g = g if is_among x g else x ∷ g

unfoldable pub granting_at : ℕ → List ℕ → ℕ → ℕ → List Item → List Item
granting_at p name r k g = granting (fresh_lock p name (r + k)) g

unfoldable pub granting_run : ℕ → List ℕ → ℕ → ℕ → List Item → List Item
granting_run p name r n g = turns (granting_at p name r) n g

unfoldable pub is_by : ℕ → Item → Bool
is_by p it = eqb it.process p

-- An open, by each accepted 15 or 22; the run's records, by each accepted 42 of a file open unlocked (in modes 0 and 2 it
-- grants nothing). Close, 43 and 143 take back, and Delete does (T-03).
unfoldable pub holding : Deed → List Item → List Item
holding nothing g = g
holding (opens p f mode) g = granting (fresh_open p f.name mode) g
holding (closes p f) g = without (is_of_file p f) g
holding (locks p f r n) g = granting_run p f.name r n g if is_among (fresh_open p f.name mode_unlocked) g else g
holding (unlocks p f r n) g = without (is_in_run p f r n) g
holding (ends p) g = without (is_by p) g
holding (touches f r n) g = g
holding (drops p f) g = without (is_of_file p f) g
holding (carries f h) g = g
holding tells g = g

-- what is held after the events, g before them
unfoldable pub held_after : List ℕ → List Event → List Item → List Item
held_after users [] g = g
held_after users (e ∷ es) g = held_after users es (holding (deed users e) g)

-- the call grants the process an open (a lock needs one)
unfoldable pub is_grant : ℕ → Deed → Bool
is_grant p nothing = false
is_grant p (opens q f mode) = eqb q p
is_grant p (closes q f) = false
is_grant p (locks q f r n) = false
is_grant p (unlocks q f r n) = false
is_grant p (ends q) = false
is_grant p (touches f r n) = false
is_grant p (drops q f) = false
is_grant p (carries f h) = false
is_grant p tells = false

-- some of the events does
unfoldable pub any_open_by : List ℕ → ℕ → List Event → Bool
any_open_by users p [] = false
any_open_by users p (e ∷ es) = is_grant p (deed users e) or any_open_by users p es
