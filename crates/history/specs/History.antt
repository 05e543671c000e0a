-- Engines, and a history of calls: Start's numbers, rule and users, the image at the start, the calls as lent, and their answers.
-- Assumes nothing.
use Rattle.std.specs.Prelude.{ℕ, ◌≡◌, Bool, true, List, [], ◌∷◌, ◌++◌, length, ltb}
use Rattle.words.specs.Tests.{◌and◌}
use Rattle.words.specs.Bytes.{are_bytes}
use Rattle.words.specs.Tables.{◌∕◌}
use Rattle.rules.specs.declared.kind.Kind.{Kind}
use Rattle.rules.specs.Kinds.{told_rule, rule_of}
use Rattle.rules.specs.Serves.{Buffers, Outcome, buffers}
use Rattle.rules.specs.Drive.{sound_image}
use Rattle.rules.specs.Locks.{start}

-- ---- What a host can hand over

-- a number of 32 bits
unfoldable pub is_word : ℕ → Bool
is_word n = ltb n 4294967296

-- bytes in memory, of which there are fewer than 2⁶³
unfoldable pub is_lendable : List ℕ → Bool
is_lendable s = are_bytes s and ltb (length s) 9223372036854775808

-- ---- Calls

-- A call: its function, process and count, and the FCB and the DMA as lent.
pub record Ask : Type 0 where
  pub function : ℕ
  pub process : ℕ
  pub count : ℕ
  pub fcb : List ℕ
  pub dma : List ℕ

-- the same with another count
abbrev pub with_count : ℕ → Ask → Ask
with_count n q = record { function = q.function; process = q.process; count = n; fcb = q.fcb; dma = q.dma }

-- one that a host can make
unfoldable pub is_possible : Ask → Bool
is_possible q = is_word q.function and is_word q.process and is_word q.count and is_lendable q.fcb and is_lendable q.dma

unfoldable pub are_possible : List Ask → Bool
are_possible [] = true
are_possible (q ∷ qs) = is_possible q and are_possible qs

-- what the host keeps from call to call
pub record State : Type 0 where
  pub list : List ℕ
  pub image : List ℕ

abbrev pub state : List ℕ → List ℕ → State
state l s = record { list = l; image = s }

unfoldable pub is_kept : State → Bool
is_kept s = is_lendable s.list and is_lendable s.image

-- so it is of every call that a host can make, on whatever it has kept, after whatever calls before
abbrev pub EachCall : (List Ask → Ask → State → Type 0) → Type 0
EachCall So = (before : List Ask) (q : Ask) (s : State) → is_possible q ≡ true → is_kept s ≡ true → So before q s

-- the buffers that a call is lent
abbrev pub lent : Ask → State → Buffers
lent q s = buffers q.fcb q.dma s.list s.image

-- ---- Engines, of drives of one kind

-- How a call is served: three numbers and four buffers in, an answer and four buffers out.
abbrev pub Serving : Type 0
Serving = ℕ → ℕ → ℕ → Buffers → Outcome

-- An engine may remember: how it serves a call may depend on the calls before it, the first of them first.
abbrev pub Engine : Type 0
Engine = List Ask → Serving

-- one that takes no notice of them
unfoldable pub forgetful : Serving → Engine
forgetful e before = e

unfoldable pub outcome_of : Serving → Ask → State → Outcome
outcome_of e q s = e q.function q.process q.count (lent q s)

abbrev pub kept : Outcome → State
kept o = state o.left.list o.left.image

-- the state after calls, which stood at s after those before them
unfoldable pub state_after : Engine → List Ask → List Ask → State → State
state_after e before [] s = s
state_after e before (q ∷ qs) s = state_after e (before ++ (q ∷ [])) qs (kept (outcome_of (e before) q s))

-- a call and its answer
pub record Event : Type 0 where
  pub ask : Ask
  pub answer : ℕ

abbrev pub event : Ask → ℕ → Event
event q a = record { ask = q; answer = a }

unfoldable pub events_of : Engine → List Ask → List Ask → State → List Event
events_of e before [] s = []
events_of e before (q ∷ qs) s = event q (outcome_of (e before) q s).answer ∷ events_of e (before ++ (q ∷ [])) qs (kept (outcome_of (e before) q s))

-- ---- Histories

-- A beginning: a fresh list of the kind's rule that Start accepted, and a sound image of that kind of drive, which a host can lend.
pub record Begun (kind : Kind) : Type 0 where
  pub capacity : ℕ
  pub openlimit : ℕ
  pub locklimit : ℕ
  pub rule : ℕ
  pub users : List ℕ
  pub given : List ℕ
  pub image : List ℕ
  pub told : told_rule rule ≡ rule_of kind
  pub accepted : (start kind capacity openlimit locklimit rule users given).answer ≡ 0 ∕ 0
  pub sound : sound_image kind image ≡ true
  pub lendable : is_lendable image ≡ true

abbrev pub first_state : (kind : Kind) → Begun kind → State
first_state kind g = state (start kind g.capacity g.openlimit g.locklimit g.rule g.users g.given).list g.image

unfoldable pub after : (kind : Kind) → Engine → Begun kind → List Ask → State
after kind e g qs = state_after e [] qs (first_state kind g)

unfoldable pub history_of : (kind : Kind) → Engine → Begun kind → List Ask → List Event
history_of kind e g qs = events_of e [] qs (first_state kind g)

-- the outcome of one more call
unfoldable pub outcome_after : (kind : Kind) → Engine → Begun kind → List Ask → Ask → Outcome
outcome_after kind e g qs q = outcome_of (e qs) q (after kind e g qs)
