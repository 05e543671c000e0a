-- The list check in the order in which the code goes: what an item shows by itself, then what it needs of the others.
-- Assumes nothing.
use Rattle.std.specs.Prelude.{ℕ, ◌+◌, Bool, true, not, List, get_or, set, leb, ltb, eqb}
use Rattle.words.specs.Tests.{◌and◌, ◌if◌else◌, all, count}
use Rattle.words.specs.Lists.{tab}
use Rattle.rules.specs.declared.file.File.{File}
use Rattle.rules.specs.declared.item.Item.{Item}
use Rattle.rules.specs.declared.list.LockList.{LockList}
use Rattle.rules.specs.Drive.{legal_name, look_up, missing, block_of}
use Rattle.rules.specs.Locks.{an_empty, an_open, a_lock, mode_unlocked, item_at, file_of, is_low, good_empty, open_of, opens_unlocked, is_kind_by_at, is_limit, is_user, is_position, is_rule}
use Rattle.rules.specs.declared.kind.Kind.{Kind}
use Rattle.rules.specs.Kinds.{top}
use Rattle.index.specs.Slots.{slot_of}

-- the file that an item names, of each process's user
abbrev pub file_by : List ℕ → Item → File
file_by users it = record { user = get_or users it.process 0; name = it.name }

-- an open: modes 0 to 2, record 0, its file on the image
unfoldable pub open_alone : Kind → List ℕ → List ℕ → Item → Bool
open_alone kind s users it = leb it.mode 2 and eqb it.number 0 and not (missing kind (look_up kind s (file_by users it)))

-- a lock: mode 1, its record has a block
unfoldable pub lock_alone : Kind → List ℕ → List ℕ → Item → Bool
lock_alone kind s users it = eqb it.mode mode_unlocked and not (eqb (block_of kind s (file_by users it) it.number) 0)

-- an item: a process to 15, a legal name with high bits zero, a record to the highest
unfoldable pub item_alone : Kind → List ℕ → List ℕ → Item → Bool
item_alone kind s users it =
    leb it.process 15 and legal_name it.name 0 and all (is_low it.name) 11 and leb it.number (top kind)
    and (open_alone kind s users it if eqb it.kind an_open else lock_alone kind s users it)

-- a place: empty, or below the capacity with an item
unfoldable pub place_alone : Kind → List ℕ → List ℕ → ℕ → ℕ → Item → Bool
place_alone kind s users capacity i it =
    good_empty it if eqb it.kind an_empty else (ltb i capacity and leb it.kind a_lock and item_alone kind s users it)

unfoldable pub place_alone_at : Kind → List ℕ → LockList → ℕ → Bool
place_alone_at kind s l i = place_alone kind s l.users l.capacity i (item_at l i)

-- a lock's process has that file open unlocked
unfoldable pub lock_opened : LockList → Item → Bool
lock_opened l it = opens_unlocked l (open_of l it.process (file_of l it)) if eqb it.kind a_lock else true

unfoldable pub lock_opened_at : LockList → ℕ → Bool
lock_opened_at l i = lock_opened l (item_at l i)

-- the three limits and each process's user
unfoldable pub good_head : LockList → Bool
good_head l = is_limit l.capacity and is_limit l.openlimit and is_limit l.locklimit and all (is_user l.users) 16

-- the positions and the rule
unfoldable pub good_tail : Kind → LockList → Bool
good_tail kind l = all (is_position kind l.positions) 16 and is_rule l.rule

-- the record of a lock, 0 for an open
unfoldable pub lock_number : Item → ℕ
lock_number it = it.number if eqb it.kind a_lock else 0

-- the slot of an item: items that clash have the same
unfoldable pub item_slot : List ℕ → Item → ℕ
item_slot users it = slot_of (file_by users it) (lock_number it)

-- that of the item in place i
unfoldable pub item_slot_at : LockList → ℕ → ℕ
item_slot_at l i = item_slot l.users (item_at l i)

-- there is one
unfoldable pub is_item : LockList → ℕ → Bool
is_item l i = not (eqb (item_at l i).kind an_empty)

-- how many items of that kind a process has, of the first n places, ..
unfoldable pub count_of : LockList → ℕ → ℕ → ℕ → ℕ
count_of l kind n p = count (is_kind_by_at l kind p) n

-- .. and each of the sixteen
unfoldable pub counted : LockList → ℕ → ℕ → List ℕ
counted l kind n = tab (count_of l kind n) 16

-- counts with the item counted, where it is of that kind and of a process
unfoldable pub count_item : ℕ → Item → List ℕ → List ℕ
count_item kind it counts =
    set counts it.process (get_or counts it.process 0 + 1) if eqb it.kind kind and ltb it.process 16 else counts

unfoldable pub at_most : List ℕ → ℕ → ℕ → Bool
at_most counts most p = leb (get_or counts p 0) most

-- a process has at most so many items of that kind
unfoldable pub keeps_kind : LockList → ℕ → ℕ → ℕ → Bool
keeps_kind l kind most p = leb (count (is_kind_by_at l kind p) 64) most
