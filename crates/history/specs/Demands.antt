-- Demands 1, 2 and 3, each a statement about an engine. Assumes nothing.
use Rattle.std.specs.Prelude.{ℕ, ◌+◌, ◌-◌, ◌*◌, ◌≤◌, ◌<◌, ◌≡◌, Bool, true, false, not, List, [], ◌∷◌, ◌++◌, ◌⊎◌, length, take, ltb, eqb}
use Rattle.words.specs.Tests.{◌and◌, count, sum_below}
use Rattle.words.specs.Bytes.{byte, part, put, le}
use Rattle.words.specs.Tables.{◌∕◌}
use Rattle.words.specs.Lists.{tally}
use Rattle.rules.specs.declared.kind.Kind.{Kind}
use Rattle.rules.specs.Kinds.{block_records, entries}
use Rattle.rules.specs.declared.file.File.{File}
use Rattle.rules.specs.declared.item.Item.{Item}
use Rattle.rules.specs.declared.list.LockList.{LockList}
use Rattle.rules.specs.Serves.{Outcome, outcome, processes, list_size}
use Rattle.rules.specs.Drive.{entry_size, blocks, record_size, record_at, is_empty, user_byte, block_of, blocks_in_use, free_blocks, sound_image}
use Rattle.rules.specs.Locks.{an_empty, an_open, a_lock, places, item_at, position_of, rule_at, unpack, fresh_lock, is_kind_by, opens_by, locks_by, is_empty_at, free_places, sound_list}
use Rattle.rules.specs.Asks.{record_of}
use Rattle.rules.specs.Look.{look}
use Rattle.rules.specs.Several.{call_run}
use Rattle.history.specs.History.{Ask, State, Serving, Engine, Event, Begun, with_count, is_possible, are_possible, EachCall, lent, outcome_of, kept, events_of, event, after, history_of, outcome_after}
use Rattle.history.specs.Deeds.{ends, tells, deed, done_in, is_refused, file_by}
use Rattle.history.specs.Held.{same_item, is_among, is_by, held_after, any_open_by}
use Rattle.history.specs.Groups.{Group, group_of, has_block, is_counted, groups_of, counted_after}

-- ---- Demand 1: a refusal leaves all four buffers unchanged. Of several records the refused one and those after it leave no
-- trace: what is left is what a call of just the records done leaves, and that call is accepted.

pub record NoTrace (e : Serving) (q : Ask) (s : State) : Type 0 where
  pub unchanged : is_refused q.function (outcome_of e q s).answer ≡ true → done_in (outcome_of e q s).answer ≡ 0 → (outcome_of e q s).left ≡ lent q s
  pub no_trace : (done_in (outcome_of e q s).answer ≡ 0 → ⊥)
      → outcome_of e (with_count (done_in (outcome_of e q s).answer) q) s ≡ outcome (0 ∕ 0) (outcome_of e q s).left

unfoldable pub Demand1 : Engine → Type 0
Demand1 e = EachCall (λ (before : List Ask) (q : Ask) (s : State). NoTrace (e before) q s)

-- ---- Demand 2: for each input one outcome, that of the rules

unfoldable pub Demand2 : Kind → Engine → Type 0
Demand2 kind e = EachCall (λ (before : List Ask) (q : Ask) (s : State). outcome_of (e before) q s ≡ outcome_of (call_run kind) q s)

-- ---- What a history says

-- the items that it holds
unfoldable pub items_of : (kind : Kind) → Begun kind → List Event → List Item
items_of kind g es = held_after g.users es []

-- the groups that it counts
unfoldable pub groups_by : (kind : Kind) → Begun kind → List Event → List Group
groups_by kind g es = counted_after kind g.users es (groups_of kind g.image)

-- ---- 1. Sound stays sound: after every call the image and the list are sound again.

pub record SoundState (kind : Kind) (s : State) : Type 0 where
  pub image_sound : sound_image kind s.image ≡ true
  pub list_long : length s.list ≡ list_size
  pub list_sound : sound_list kind s.list s.image ≡ true

-- ---- 2. Bytes 0 to 18 of the list are those that Start wrote: the three limits and the users; so is the last, the rule (T-11). ..

pub record HeadStays {kind : Kind} (g : Begun kind) (s : State) : Type 0 where
  pub head : take 19 s.list ≡ g.capacity ∷ g.openlimit ∷ g.locklimit ∷ g.users
  pub rule : byte s.list rule_at ≡ g.rule

-- .. The list holds just the opens and record locks that the history granted and no later Close, Unlock or process end took
-- back, each as often as the history holds it, that is once.

unfoldable pub is_item_at : Item → LockList → ℕ → Bool
is_item_at x l i = same_item x (item_at l i)

pub record Holds (x : Item) (l : LockList) (items : List Item) : Type 0 where
  pub as_often : count (is_item_at x l) places ≡ tally (same_item x) items
  pub once : tally (same_item x) items ≤ 1

-- ---- 3. The items that the history holds and the free places (those that 255/11 and 14/0 count) add up to the capacity; no place
-- from the capacity on is used; the items are the sum over the processes of their opens and locks.

-- a process's opens and locks in the list
unfoldable pub items_by : LockList → ℕ → ℕ
items_by l p = opens_by l p + locks_by l p

pub record AddUp (capacity : ℕ) (l : LockList) (items : List Item) : Type 0 where
  pub adds : length items + free_places l ≡ capacity
  pub beyond : (i : ℕ) → capacity ≤ i → i < places → is_empty_at l i ≡ true
  pub opens-by : (p : ℕ) → opens_by l p ≡ tally (is_kind_by an_open p) items
  pub locks-by : (p : ℕ) → locks_by l p ≡ tally (is_kind_by a_lock p) items
  pub sum : length items ≡ sum_below (items_by l) processes

-- ---- 4. The blocks in use are as many as the groups that the history counts, and a group has a block exactly when the history
-- counts it: a record of a file (a user and eleven name bytes) has one exactly when its group is counted.

pub record Groups (kind : Kind) (s : List ℕ) (groups : List Group) : Type 0 where
  pub as_many : blocks_in_use kind s ≡ length groups
  pub each : (f : File) (r : ℕ) → length f.name ≡ 11 → has_block kind s f r ≡ is_counted (group_of kind f r) groups

-- ---- 5. No block serves two groups. The groups that the history counts and the free blocks add up to n − 2, ..

pub record Figure (kind : Kind) (n : ℕ) (s : List ℕ) (groups : List Group) : Type 0 where
  pub no_two : (f h : File) (r q : ℕ) → length f.name ≡ 11 → length h.name ≡ 11
      → has_block kind s f r ≡ true → block_of kind s f r ≡ block_of kind s h q → group_of kind f r ≡ group_of kind h q
  pub adds : length groups + free_blocks kind s ≡ n - 2

-- .. and 46's figure is eight times the free ones (sixteen times, on a drive of the second kind), so the history fixes it.
unfoldable pub figure_in : Kind → ℕ → List Group → List ℕ → List ℕ
figure_in kind n groups dma = put 0 (le 3 (block_records kind * (n - 2 - length groups))) dma

-- ---- 6. While a process holds a record lock, no call of another process changes that record: Look shows the same 128 bytes, and
-- not an empty part, before and after.

pub record Unchanged (kind : Kind) (user : ℕ) (name : List ℕ) (r : ℕ) (s t : List ℕ) : Type 0 where
  pub shown : length (look kind user name r s) ≡ record_size
  pub same : look kind user name r t ≡ look kind user name r s

-- ---- 7. Isolation: a call of a process changes no byte of any file under another user, no directory entry of it, ..

-- entry e is in use and under that user
unfoldable pub is_under : ℕ → List ℕ → ℕ → Bool
is_under u s e = not (is_empty s e) and eqb (user_byte s e) u

-- the process is one of the sixteen, and its user is u
unfoldable pub is_user_of : List ℕ → ℕ → ℕ → Bool
is_user_of users p u = ltb p processes and eqb (byte users p) u

-- s before a call of a process whose user is not u, t after it
pub record FilesApart (kind : Kind) (u : ℕ) (s t : List ℕ) : Type 0 where
  pub entry_same : (e : ℕ) → e < entries kind → (is_under u s e ≡ true) ⊎ (is_under u t e ≡ true)
      → part (entry_size * e) entry_size t ≡ part (entry_size * e) entry_size s
  pub block_same : (f : File) (r : ℕ) → f.user ≡ u → length f.name ≡ 11 → block_of kind t f r ≡ block_of kind s f r
  pub bytes_same : (f : File) (r : ℕ) → f.user ≡ u → length f.name ≡ 11 → has_block kind s f r ≡ true
      → part (record_at kind (block_of kind s f r) r) record_size t ≡ part (record_at kind (block_of kind s f r) r) record_size s

-- .. and no item of another process, nor (T-02) its position.
unfoldable pub is_anothers : ℕ → Item → Bool
is_anothers p it = not (eqb it.kind an_empty) and not (eqb it.process p)

-- l before a call of process p, k after it
pub record ItemsApart (p : ℕ) (l k : LockList) : Type 0 where
  pub item_same : (i : ℕ) → i < places
      → (is_anothers p (item_at l i) ≡ true) ⊎ (is_anothers p (item_at k i) ≡ true) → item_at k i ≡ item_at l i
  pub position_same : (q : ℕ) → (q ≡ p → ⊥) → position_of k q ≡ position_of l q

-- ---- 8. The dead hold nothing: after an accepted 143 of a process none of its items is left until it is granted one anew.

pub record NoneLeft (p : ℕ) (l : LockList) (items : List Item) : Type 0 where
  pub none_held : tally (is_by p) items ≡ 0
  pub none_listed : items_by l p ≡ 0

-- 255/11 is given only when the items held by the history are as many as the capacity; 14/0 only when these and the records of
-- the run not yet held are more than the capacity.

-- the process does not hold record r + k
unfoldable pub is_unheld : List Item → ℕ → List ℕ → ℕ → ℕ → Bool
is_unheld items p name r k = not (is_among (fresh_lock p name (r + k)) items)

pub record Full (capacity : ℕ) (users : List ℕ) (items : List Item) (q : Ask) (answer : ℕ) : Type 0 where
  pub no_place : answer ≡ 255 ∕ 11 → length items ≡ capacity
  pub too_few : answer ≡ 14 ∕ 0
      → capacity < length items + count (is_unheld items q.process (file_by users q).name (record_of q.fcb)) q.count

-- ---- Demand 3

-- what stands after the events es of a history that began with g: the list and the image in s
pub record Stands (kind : Kind) (g : Begun kind) (es : List Event) (s : State) : Type 0 where
  -- 1
  pub sound_stays : SoundState kind s
  -- 2
  pub head_stays : HeadStays g s
  pub list_is_grants : (x : Item) → (x.kind ≡ an_empty → ⊥) → Holds x (unpack s.list) (items_of kind g es)
  -- 3
  pub places_add_up : AddUp g.capacity (unpack s.list) (items_of kind g es)
  -- 4
  pub blocks_are_groups : Groups kind s.image (groups_by kind g es)
  -- 5
  pub figure_fixed : Figure kind (blocks kind g.image) s.image (groups_by kind g es)

-- and of one more call q, whose outcome is o
pub record Next (kind : Kind) (g : Begun kind) (es : List Event) (s : State) (q : Ask) (o : Outcome) : Type 0 where
  -- 5
  pub figure_told : deed g.users (event q o.answer) ≡ tells
      → o.left.dma ≡ figure_in kind (blocks kind g.image) (groups_by kind g es) q.dma
  -- 6
  pub locked_stays : (p : ℕ) (name : List ℕ) (r : ℕ)
      → length name ≡ 11 → is_among (fresh_lock p name r) (items_of kind g es) ≡ true → (q.process ≡ p → ⊥)
      → Unchanged kind (byte g.users p) name r s.image o.left.image
  -- 7
  pub files_apart : (u : ℕ) → (is_user_of g.users q.process u ≡ true → ⊥) → FilesApart kind u s.image o.left.image
  pub items_apart : ItemsApart q.process (unpack s.list) (unpack o.left.list)
  -- 8
  pub full_when : Full g.capacity g.users (items_of kind g es) q o.answer

-- for every beginning g, every list of calls qs, every call q after them and all calls later than that
pub record Demand3 (kind : Kind) (e : Engine) : Type 0 where
  pub stands : (g : Begun kind) (qs : List Ask) → are_possible qs ≡ true → Stands kind g (history_of kind e g qs) (after kind e g qs)
  pub next : (g : Begun kind) (qs : List Ask) (q : Ask) → are_possible qs ≡ true → is_possible q ≡ true
      → Next kind g (history_of kind e g qs) (after kind e g qs) q (outcome_after kind e g qs q)
  -- 8
  pub dead_hold_nothing : (g : Begun kind) (qs later : List Ask) (q : Ask) (p : ℕ)
      → are_possible (qs ++ (q ∷ later)) ≡ true
      → deed g.users (event q (outcome_after kind e g qs q).answer) ≡ ends p
      → any_open_by g.users p (events_of e (qs ++ (q ∷ [])) later (kept (outcome_after kind e g qs q))) ≡ false
      → NoneLeft p (unpack (after kind e g (qs ++ (q ∷ later))).list) (items_of kind g (history_of kind e g (qs ++ (q ∷ later))))
