-- "The lock list". Assumes nothing.
use Rattle.std.specs.Prelude.{ℕ, ◌+◌, ◌*◌, Bool, not, List, [], ◌∷◌, ◌++◌, length, get_or, set, replicate, leb, ltb, eqb}
use Rattle.words.specs.Tests.{◌and◌, ◌or◌, ◌if◌else◌, all, any, lowest, count}
use Rattle.words.specs.Lists.{tab, flat}
use Rattle.words.specs.Bytes.{byte, same_byte, is_zero, byte_from, part, le, word}
use Rattle.words.specs.Tables.{Row, ◌∕◌, ◌when◌, first_of}
use Rattle.rules.specs.declared.kind.Rule.{Rule}
use Rattle.rules.specs.declared.kind.Kind.{Kind}
use Rattle.rules.specs.declared.file.File.{File}
use Rattle.rules.specs.declared.item.Item.{Item}
use Rattle.rules.specs.declared.list.LockList.{LockList}
use Rattle.rules.specs.Serves.{processes, list_size}
use Rattle.rules.specs.Drive.{legal_name, look_up, missing, block_of}
use Rattle.rules.specs.Kinds.{told_rule, entries, top}

-- ---- Places and items

-- 64 places of 20 bytes
abbrev pub places : ℕ
places = 64

abbrev pub place_size : ℕ
place_size = 20

abbrev pub place_at : ℕ → ℕ
place_at i = 19 + place_size * i

-- the kinds of places: empty, an open, a record lock (3 is one with a mark that is none of these)
abbrev pub an_empty : ℕ
an_empty = 0

abbrev pub an_open : ℕ
an_open = 1

abbrev pub a_lock : ℕ
a_lock = 2

-- A two-byte mark stands before each item, 4F 46 (open) or 4C 52 (record lock).
unfoldable pub kind_of : ℕ → ℕ → ℕ
kind_of a b =
    an_open if eqb a 0x4F and eqb b 0x46 else
    a_lock if eqb a 0x4C and eqb b 0x52 else
    an_empty if eqb a 0 and eqb b 0 else
    3

unfoldable pub first_mark : ℕ → ℕ
first_mark k = 0x4F if eqb k an_open else 0x4C if eqb k a_lock else 0

unfoldable pub second_mark : ℕ → ℕ
second_mark k = 0x46 if eqb k an_open else 0x52 if eqb k a_lock else 0

-- Modes: 0 locked, 1 unlocked, 2 read-only.
abbrev pub mode_locked : ℕ
mode_locked = 0

abbrev pub mode_unlocked : ℕ
mode_unlocked = 1

abbrev pub mode_read_only : ℕ
mode_read_only = 2

-- An empty place is twenty zeros.
abbrev pub empty_place : Item
empty_place = record { kind = an_empty; process = 0; name = replicate 11 0; mode = 0; number = 0 }

-- An open has record 0.
abbrev pub fresh_open : ℕ → List ℕ → ℕ → Item
fresh_open p name mode = record { kind = an_open; process = p; name = name; mode = mode; number = 0 }

-- A lock has mode 1.
abbrev pub fresh_lock : ℕ → List ℕ → ℕ → Item
fresh_lock p name r = record { kind = a_lock; process = p; name = name; mode = mode_unlocked; number = r }

-- what stands past the last place
abbrev pub blank : Item
blank = record { kind = an_empty; process = 0; name = []; mode = 0; number = 0 }

abbrev pub item_at : LockList → ℕ → Item
item_at l i = get_or l.items i blank

abbrev pub user_of : LockList → ℕ → ℕ
user_of l p = get_or l.users p 0

abbrev pub with_items : LockList → List Item → LockList
with_items l xs = record { capacity = l.capacity; openlimit = l.openlimit; locklimit = l.locklimit; users = l.users; items = xs; positions = l.positions; rule = l.rule }

-- one next entry per process (T-02)
abbrev pub position_of : LockList → ℕ → ℕ
position_of l p = byte l.positions p

abbrev pub with_positions : LockList → List ℕ → LockList
with_positions l xs = record { capacity = l.capacity; openlimit = l.openlimit; locklimit = l.locklimit; users = l.users; items = l.items; positions = xs; rule = l.rule }

-- the process's next entry is e
unfoldable pub moved_to : ℕ → ℕ → LockList → LockList
moved_to p e l = with_positions l (set l.positions p e)

-- ---- The bytes

-- The mark, then process (1), name (11), mode (1), a zero, record (4, low byte first).
unfoldable pub item_from : List ℕ → Item
item_from b = record {
  kind = kind_of (byte b 0) (byte b 1);
  process = byte b 2;
  name = tab (byte_from b 3) 11;
  mode = byte b 14;
  number = word (byte b 16) (byte b 17) (byte b 18) (byte b 19);
}

unfoldable pub pack_item : Item → List ℕ
pack_item it =
    first_mark it.kind ∷ second_mark it.kind ∷ it.process
    ∷ (tab (byte_from it.name 0) 11 ++ (it.mode ∷ 0 ∷ le 4 it.number))

unfoldable pub item_in : List ℕ → ℕ → Item
item_in s i = item_from (part (place_at i) place_size s)

-- Bytes 0 to 2: capacity, open limit and lock limit. Bytes 3 to 18: each process's user. Then 64 places. Sixteen bytes join the
-- end, one next entry per process (T-02), then a last byte (1,316 in all) that chooses the rule (T-11).
abbrev pub rule_at : ℕ
rule_at = place_at places + processes

unfoldable pub unpack : List ℕ → LockList
unpack s = record {
  capacity = byte s 0;
  openlimit = byte s 1;
  locklimit = byte s 2;
  users = tab (byte_from s 3) processes;
  items = tab (item_in s) places;
  positions = tab (byte_from s (place_at places)) processes;
  rule = byte s rule_at;
}

unfoldable pub pack : LockList → List ℕ
pack l =
    l.capacity ∷ l.openlimit ∷ l.locklimit
    ∷ (tab (byte_from l.users 0) processes ++ (flat pack_item l.items ++ (tab (byte_from l.positions 0) processes ++ (l.rule ∷ []))))

-- the rule that a list chooses, whatever stands in it: where the byte is neither 0 nor 1, rule 0
unfoldable pub rule_in : List ℕ → Rule
rule_in list = told_rule (byte list rule_at)

-- ---- Whose an item is

unfoldable pub same_name : List ℕ → List ℕ → Bool
same_name a b = all (same_byte a b) 11

-- the file that an item names, under its process's user
abbrev pub file_of : LockList → Item → File
file_of l it = record { user = user_of l it.process; name = it.name }

unfoldable pub same_file : File → File → Bool
same_file f g = eqb f.user g.user and same_name f.name g.name

-- an open of the file with that name by the process
unfoldable pub opens_name : ℕ → List ℕ → Item → Bool
opens_name p name it = eqb it.kind an_open and eqb it.process p and same_name it.name name

-- an open of the file by anybody; user is that of the item's process
unfoldable pub opens_file : File → ℕ → Item → Bool
opens_file f user it = eqb it.kind an_open and eqb user f.user and same_name it.name f.name

-- a lock of the file's record by anybody
unfoldable pub locks_record : File → ℕ → ℕ → Item → Bool
locks_record f r user it = eqb it.kind a_lock and eqb it.number r and eqb user f.user and same_name it.name f.name

-- an item of that kind by the process
unfoldable pub is_kind_by : ℕ → ℕ → Item → Bool
is_kind_by k p it = eqb it.kind k and eqb it.process p

-- ---- What is asked of a list

unfoldable pub opens_name_at : LockList → ℕ → List ℕ → ℕ → Bool
opens_name_at l p name i = opens_name p name (item_at l i)

-- the place of the process's open of the file, 64 where it has none
unfoldable pub open_of : LockList → ℕ → File → ℕ
open_of l p f = lowest (opens_name_at l p f.name) places

unfoldable pub is_opened : ℕ → Bool
is_opened o = ltb o places

unfoldable pub opens_file_at : LockList → File → ℕ → Bool
opens_file_at l f i = opens_file f (user_of l (item_at l i).process) (item_at l i)

-- anybody has the file open
unfoldable pub any_open : LockList → File → Bool
any_open l f = any (opens_file_at l f) places

unfoldable pub locks_record_at : LockList → File → ℕ → ℕ → Bool
locks_record_at l f r i = locks_record f r (user_of l (item_at l i).process) (item_at l i)

unfoldable pub is_others_lock : LockList → ℕ → File → ℕ → ℕ → Bool
is_others_lock l p f r i = not (eqb (item_at l i).process p) and locks_record_at l f r i

-- another process has locked the record
unfoldable pub locked_by_other : LockList → ℕ → File → ℕ → Bool
locked_by_other l p f r = any (is_others_lock l p f r) places

unfoldable pub is_own_lock : LockList → ℕ → File → ℕ → ℕ → Bool
is_own_lock l p f r i = eqb (item_at l i).process p and locks_record_at l f r i

-- the process holds the record
unfoldable pub held : LockList → ℕ → File → ℕ → Bool
held l p f r = any (is_own_lock l p f r) places

unfoldable pub is_kind_by_at : LockList → ℕ → ℕ → ℕ → Bool
is_kind_by_at l k p i = is_kind_by k p (item_at l i)

unfoldable pub opens_by : LockList → ℕ → ℕ
opens_by l p = count (is_kind_by_at l an_open p) places

unfoldable pub locks_by : LockList → ℕ → ℕ
locks_by l p = count (is_kind_by_at l a_lock p) places

unfoldable pub is_empty_at : LockList → ℕ → Bool
is_empty_at l i = eqb (item_at l i).kind an_empty

-- Only those numbered below the capacity are free: the lowest empty place, the capacity where there is none, ..
unfoldable pub free_place : LockList → ℕ
free_place l = lowest (is_empty_at l) l.capacity

-- .. and how many there are
unfoldable pub free_places : LockList → ℕ
free_places l = count (is_empty_at l) l.capacity

-- ---- Sound list, against the image

-- capacity, open limit and lock limit, each 1 to 64
unfoldable pub is_limit : ℕ → Bool
is_limit n = leb 1 n and leb n places

-- each process's user, 0 to 15
unfoldable pub is_user : List ℕ → ℕ → Bool
is_user users p = leb (byte users p) 15

-- (name, high bits zero)
unfoldable pub is_low : List ℕ → ℕ → Bool
is_low name k = ltb (byte name k) 128

-- twenty zeros, of a place whose mark is zero (the zero byte is tested by itself)
unfoldable pub good_empty : Item → Bool
good_empty it = eqb it.process 0 and all (is_zero it.name) 11 and eqb it.mode 0 and eqb it.number 0

-- Modes 0 to 2; an open has record 0; each open's file is on the image.
unfoldable pub good_open : Kind → List ℕ → LockList → Item → Bool
good_open kind s l it = leb it.mode 2 and eqb it.number 0 and not (missing kind (look_up kind s (file_of l it)))

-- the open at place o is unlocked
unfoldable pub opens_unlocked : LockList → ℕ → Bool
opens_unlocked l o = is_opened o and eqb (item_at l o).mode mode_unlocked

-- A lock has mode 1; each lock's process has that file open unlocked, its record has a block.
unfoldable pub good_lock : Kind → List ℕ → LockList → Item → Bool
good_lock kind s l it =
    eqb it.mode mode_unlocked and opens_unlocked l (open_of l it.process (file_of l it))
    and not (eqb (block_of kind s (file_of l it) it.number) 0)

-- Processes to 15; names legal; records below 262,144 (under rule 1 below 65,536, T-11).
unfoldable pub good_item : Kind → List ℕ → LockList → Item → Bool
good_item kind s l it =
    leb it.process 15 and legal_name it.name 0 and all (is_low it.name) 11 and leb it.number (top kind)
    and (good_open kind s l it if eqb it.kind an_open else good_lock kind s l it)

-- Places from the capacity on empty.
unfoldable pub good_place : Kind → List ℕ → LockList → ℕ → Bool
good_place kind s l i =
    good_empty (item_at l i) if eqb (item_at l i).kind an_empty else
    (ltb i l.capacity and leb (item_at l i).kind a_lock and good_item kind s l (item_at l i))

-- A process has at most one open per file; opens of one file by different processes are all unlocked or all read-only.
unfoldable pub stand_beside : Item → Item → Bool
stand_beside a b = not (eqb a.process b.process) and eqb a.mode b.mode and not (eqb a.mode mode_locked)

-- what two items of one file may not be: opens that cannot stand beside each other, or locks of the same record
unfoldable pub clash : Item → Item → Bool
clash a b =
    (eqb a.kind an_open and eqb b.kind an_open and not (stand_beside a b))
    or (eqb a.kind a_lock and eqb b.kind a_lock and eqb a.number b.number)

unfoldable pub clash_at : LockList → ℕ → ℕ → Bool
clash_at l i j = clash (item_at l i) (item_at l j) and same_file (file_of l (item_at l i)) (file_of l (item_at l j))

-- the item at place i clashes with none before it
unfoldable pub is_apart : LockList → ℕ → Bool
is_apart l i = not (any (clash_at l i) i)

-- a process keeps both limits
unfoldable pub keeps_limits : LockList → ℕ → Bool
keeps_limits l p = leb (opens_by l p) l.openlimit and leb (locks_by l p) l.locklimit

-- one next entry, 0 to 64, per process (to 128 on the second kind of drive): a position above makes the list unsound
unfoldable pub is_position : Kind → List ℕ → ℕ → Bool
is_position kind positions p = leb (byte positions p) (entries kind)

-- (T-11) 255/12 for a byte above 1
unfoldable pub is_rule : ℕ → Bool
is_rule u = leb u 1

unfoldable pub sound_locks : Kind → LockList → List ℕ → Bool
sound_locks kind l s =
    is_limit l.capacity and is_limit l.openlimit and is_limit l.locklimit and all (is_user l.users) processes
    and all (good_place kind s l) places and all (is_apart l) places and all (keeps_limits l) processes
    and all (is_position kind l.positions) processes and is_rule l.rule

-- the zero in each place
unfoldable pub zero_at : List ℕ → ℕ → Bool
zero_at list i = eqb (byte (part (place_at i) place_size list) 15) 0

unfoldable pub sound_list : Kind → List ℕ → List ℕ → Bool
sound_list kind list s = all (zero_at list) places and sound_locks kind (unpack list) s

-- ---- Start

-- a value out of range or a wrong buffer length
unfoldable pub bad_start : ℕ → ℕ → ℕ → ℕ → List ℕ → List ℕ → Bool
bad_start c o k u users list =
    not (is_limit c) or not (is_limit o) or not (is_limit k) or not (is_rule u)
    or not (eqb (length users) processes) or not (all (is_user users) processes) or not (eqb (length list) list_size)

unfoldable pub rows_start : ℕ → ℕ → ℕ → ℕ → List ℕ → List ℕ → List Row
rows_start c o k u users list = 255 ∕ 13 when bad_start c o k u users list ∷ []

-- a fresh list from three numbers, the rule and sixteen users: its 64 places empty; Start sets the positions to 64 (to 128)
unfoldable pub fresh_list : Kind → ℕ → ℕ → ℕ → ℕ → List ℕ → List ℕ
fresh_list kind c o k u users =
    c ∷ o ∷ k ∷ (users ++ (replicate (place_size * places) 0 ++ (replicate processes (entries kind) ++ (u ∷ []))))

-- what Start answers, and the list that it leaves
pub record Started : Type 0 where
  pub answer : ℕ
  pub list : List ℕ

unfoldable pub start_ends : ℕ → List ℕ → List ℕ → Started
start_ends code fresh list =
    record { answer = 0 ∕ 0; list = fresh } if eqb code 0 else record { answer = code; list = list }

-- "Start takes the byte"
unfoldable pub start : Kind → ℕ → ℕ → ℕ → ℕ → List ℕ → List ℕ → Started
start kind c o k u users list = start_ends (first_of (rows_start c o k u users list)) (fresh_list kind c o k u users) list
