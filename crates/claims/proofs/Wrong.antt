-- The wrong engines fall, on drives of the first kind already. Assumes nothing.
use Prim.Native.Nat.{ℕ, zero, suc, ◌-◌, ◌*◌, ◌/◌, ◌%◌, ◌≤◌, ◌<◌}
use mathlib.Core.Path.{◌≡◌, refl, sym, ap, subst, ◌∙◌}
use mathlib.Core.Bool.{true}
use mathlib.Core.List.{List, [], ◌∷◌}
use native.Mathlib.Omega.{arith}
use lib.ListN.{length, take, replicate, get_or-replicate}
use borrow.Author.Tests.{eq-eqb}
use Rattle.words.specs.Bytes.{byte, put, le}
use Rattle.words.specs.Tables.{◌∕◌}
use Rattle.words.specs.Tests.{◌and◌, ◌if◌else◌, count}
use Rattle.words.specs.Lists.{tally}
use Rattle.rules.specs.declared.kind.Kind.TheVariants.{Small}
use Rattle.rules.specs.declared.kind.Rule.TheVariants.{Mpm}
use Rattle.rules.specs.Serves.{Outcome, buffers, outcome}
use Rattle.rules.specs.Kinds.{entries, numbers}
use Rattle.rules.specs.Drive.{is_empty, blocks, is_numbered, blocks_in_use}
use Rattle.rules.specs.Locks.{fresh_open, unpack}
use Rattle.rules.specs.Several.{call_run}
use Rattle.session.specs.Open.{rules}
use Rattle.session.specs.Session.{AsListed, session, orders, fcb_with, dma_with, first_image, first_list, list0, list3, image0, image2, image5}
use Rattle.session.proofs.Session.{the_session}
use Rattle.history.specs.History.{Ask, Engine, Event, Begun, state, is_possible, are_possible, outcome_of, event, events_of, after, history_of, outcome_after}
use Rattle.history.specs.Deeds.{tells, deed}
use Rattle.history.specs.Held.{same_item}
use Rattle.history.specs.Groups.{Group, groups_below, groups_of, counted_after}
use Rattle.history.specs.Demands.{Demand2, Demand3, items_of, groups_by, is_item_at, figure_in}
use Rattle.claims.specs.Wrong.{refusing, accepting, unstored, idle, pretending, but_after, figured, made_up, unbitted, unlimited, lavish, promoted}
use Rattle.claims.specs.Wrong.{is_writing, promoting}
use Rattle.history.proofs.Opened.{history, listed}

-- ---- the session's beginning, and calls of it

begun : Begun (Small Mpm)
unfolding rules listed history
begun = record {
  capacity = 3;
  openlimit = 2;
  locklimit = 2;
  rule = 0;
  users = replicate 16 0;
  given = first_list;
  image = first_image;
  told = refl;
  accepted = refl;
  sound = refl;
  lendable = refl;
}

by : ℕ → ℕ → Ask
by p function = record { function = function; process = p; count = 1; fcb = fcb_with 0; dma = dma_with 0 }

makes : Ask
makes = by 1 22

opens : Ask
opens = by 2 15

writes : Ask
writes = by 1 34

asks : Ask
asks = by 1 46

dies : Ask
dies = by 1 143

-- 34 of records 262,143 and 262,144
writes_two : Ask
writes_two = record { function = 34; process = 1; count = 2; fcb = put 33 (255 ∷ 255 ∷ 3 ∷ []) (fcb_with 0); dma = dma_with 0 }

-- a host can make them
may_none : are_possible [] ≡ true
unfolding are_possible
may_none = refl

may_ask : is_possible asks ≡ true
unfolding rules listed history by asks
may_ask = refl

may_asks : are_possible (asks ∷ []) ≡ true
unfolding rules listed history by asks
may_asks = refl

may_die : are_possible (dies ∷ []) ≡ true
unfolding rules listed history by dies
may_die = refl

may_make : are_possible (makes ∷ []) ≡ true
unfolding rules listed history by makes
may_make = refl

may_make_open : are_possible (makes ∷ opens ∷ []) ≡ true
unfolding rules listed history by makes opens
may_make_open = refl

may_make_write : are_possible (makes ∷ writes ∷ []) ≡ true
unfolding rules listed history by makes writes
may_make_write = refl

may_make_two : are_possible (makes ∷ writes_two ∷ []) ≡ true
unfolding rules listed history by makes writes_two
may_make_two = refl

-- no group has a block at the beginning
none_below : (s : List ℕ) → ((e : ℕ) → e < 64 → is_empty s e ≡ true) → (n : ℕ) → n ≤ 1024 → groups_below (Small Mpm) s n ≡ []
unfolding groups_below is_numbered numbers ◌and◌ ◌if◌else◌
none_below s h zero m = refl
none_below s h (suc n) m = rw (h (n / 16) (omega arith)) (none_below s h n (omega arith))

begun_groups : groups_of (Small Mpm) begun.image ≡ []
unfolding groups_of begun first_image is_empty numbers entries
begun_groups = none_below (replicate 4096 0xE5) (λ e m. eq-eqb _ _ (get_or-replicate 4096 (32 * e) 0xE5 0 (omega arith))) 1024 (omega arith)

counted_from : (es : List Event) → groups_by (Small Mpm) begun es ≡ counted_after (Small Mpm) begun.users es []
unfolding groups_by
counted_from es = ap (λ (gs : List Group). counted_after (Small Mpm) begun.users es gs) begun_groups

-- ---- demand 3

-- storing nothing, the list fails at the first Make: the history holds an open that the list does not
not_held : (e : Engine) (qs : List Ask) (p : ℕ) → count (is_item_at (fresh_open p orders 1) (unpack (after (Small Mpm) e begun qs).list)) 64 ≡ 0
    → tally (same_item (fresh_open p orders 1)) (items_of (Small Mpm) begun (history_of (Small Mpm) e begun qs)) ≡ 1
    → (Demand3 (Small Mpm) e → are_possible qs ≡ true → ⊥)
not_held e qs p none some d may =
    let z = ((d.stands begun qs may).list_is_grants (fresh_open p orders 1) (λ (y : ◌≡◌ {A = ℕ} 1 0). absurd (omega arith))).as_often in
    omega arith

idle_listed : count (is_item_at (fresh_open 1 orders 1) (unpack (after (Small Mpm) (idle (Small Mpm)) begun (makes ∷ [])).list)) 64 ≡ 0
unfolding rules listed history begun by makes idle unstored
idle_listed = refl

idle_held : tally (same_item (fresh_open 1 orders 1)) (items_of (Small Mpm) begun (history_of (Small Mpm) (idle (Small Mpm)) begun (makes ∷ []))) ≡ 1
unfolding rules listed history begun by makes idle unstored
idle_held = refl

-- the engine that stores nothing falls, ..
pub not_idle : Demand3 (Small Mpm) (idle (Small Mpm)) → ⊥
not_idle d = not_held (idle (Small Mpm)) (makes ∷ []) 1 idle_listed idle_held d may_make

-- doing the first call's work and then pretending, it fails at the second
pretending_listed : count (is_item_at (fresh_open 2 orders 1) (unpack (after (Small Mpm) (pretending (Small Mpm)) begun (makes ∷ opens ∷ [])).list)) 64 ≡ 0
unfolding rules listed history begun by makes opens pretending unstored
pretending_listed = refl

pretending_held : tally (same_item (fresh_open 2 orders 1))
    (items_of (Small Mpm) begun (history_of (Small Mpm) (pretending (Small Mpm)) begun (makes ∷ opens ∷ []))) ≡ 1
unfolding rules listed history begun by makes opens pretending unstored
pretending_held = refl

-- .. the one that pretends from the second call on, ..
pub not_pretending : Demand3 (Small Mpm) (pretending (Small Mpm)) → ⊥
not_pretending d = not_held (pretending (Small Mpm)) (makes ∷ opens ∷ []) 2 pretending_listed pretending_held d may_make_open

-- a made-up figure fails at once, unless it is that of the session's drive, of which two blocks are free; ..
told_so : (figure : ℕ) → deed begun.users (event asks (outcome_after (Small Mpm) (made_up (Small Mpm) figure) begun [] asks).answer) ≡ tells
unfolding rules listed history begun by asks made_up but_after figured
told_so figure = refl

told_first : (figure : ℕ)
    → take 3 (outcome_after (Small Mpm) (made_up (Small Mpm) figure) begun [] asks).left.dma ≡ figure % 256 ∷ figure / 256 % 256 ∷ figure / 256 / 256 % 256 ∷ []
unfolding rules listed history begun by asks made_up but_after figured
told_first figure = refl

due_of : (groups : List Group) (k : ℕ) → length groups ≡ k
    → take 3 (figure_in (Small Mpm) (blocks (Small Mpm) begun.image) groups asks.dma) ≡ take 3 (put 0 (le 3 (8 * (2 - k))) (dma_with 0))
unfolding rules listed figure_in begun by asks
due_of groups k h = rw h refl

none_counted : (e : Engine) → length (groups_by (Small Mpm) begun (history_of (Small Mpm) e begun [])) ≡ 0
unfolding history_of events_of counted_after
none_counted e = ap length (counted_from [])

-- .. then it fails after a write, when one is
told_then_so : deed begun.users (event asks (outcome_after (Small Mpm) (made_up (Small Mpm) 16) begun (makes ∷ writes ∷ []) asks).answer) ≡ tells
unfolding rules listed history begun by makes writes asks made_up but_after figured
told_then_so = refl

told_then : take 3 (outcome_after (Small Mpm) (made_up (Small Mpm) 16) begun (makes ∷ writes ∷ []) asks).left.dma ≡ 16 ∷ 0 ∷ 0 ∷ []
unfolding rules listed history begun by makes writes asks made_up but_after figured
told_then = refl

one_count : length (counted_after (Small Mpm) begun.users (history_of (Small Mpm) (made_up (Small Mpm) 16) begun (makes ∷ writes ∷ [])) []) ≡ 1
unfolding rules listed history begun by makes writes made_up but_after figured
one_count = refl

one_counted : length (groups_by (Small Mpm) begun (history_of (Small Mpm) (made_up (Small Mpm) 16) begun (makes ∷ writes ∷ []))) ≡ 1
one_counted = ap length (counted_from (history_of (Small Mpm) (made_up (Small Mpm) 16) begun (makes ∷ writes ∷ []))) ∙ one_count

figure_bytes : (figure : ℕ) → take 3 (put 0 (le 3 figure) (dma_with 0)) ≡ figure % 256 ∷ figure / 256 % 256 ∷ figure / 256 / 256 % 256 ∷ []
unfolding put le dma_with
figure_bytes figure = refl

-- a figure below 2²⁴ is told by its three bytes
figure_is : (figure a : ℕ) → figure < 16777216 → a < 256 → figure % 256 ∷ figure / 256 % 256 ∷ figure / 256 / 256 % 256 ∷ [] ≡ a ∷ 0 ∷ 0 ∷ [] → figure ≡ a
figure_is figure a m l h =
    let x : figure % 256 ≡ a = ap (λ (s : List ℕ). byte s 0) h in
    let y : figure / 256 % 256 ≡ 0 = ap (λ (s : List ℕ). byte s 1) h in
    let z : figure / 256 / 256 % 256 ≡ 0 = ap (λ (s : List ℕ). byte s 2) h in
    omega arith

not_always_two : Demand3 (Small Mpm) (made_up (Small Mpm) 16) → ⊥
not_always_two d =
    let then : ◌≡◌ {A = List ℕ} (16 ∷ 0 ∷ 0 ∷ []) (8 ∷ 0 ∷ 0 ∷ []) =
    sym told_then ∙ ap (take 3) ((d.next begun (makes ∷ writes ∷ []) asks may_make_write may_ask).figure_told told_then_so)
    ∙ due_of (groups_by (Small Mpm) begun (history_of (Small Mpm) (made_up (Small Mpm) 16) begun (makes ∷ writes ∷ []))) 1 one_counted ∙ figure_bytes 8 in
    let z : ◌≡◌ {A = ℕ} 16 8 = ap (λ (s : List ℕ). byte s 0) then in
    omega arith

-- .. the one with a made-up figure, ..
pub not_made_up : (figure : ℕ) → figure < 16777216 → Demand3 (Small Mpm) (made_up (Small Mpm) figure) → ⊥
not_made_up figure m d =
    let first : figure ≡ 16 = figure_is figure 16 m (omega arith)
    (sym (told_first figure) ∙ ap (take 3) ((d.next begun [] asks may_none may_ask).figure_told (told_so figure))
    ∙ due_of (groups_by (Small Mpm) begun (history_of (Small Mpm) (made_up (Small Mpm) figure) begun [])) 0 (none_counted (made_up (Small Mpm) figure))
    ∙ figure_bytes 16) in
    not_always_two (subst (λ (f : ℕ). Demand3 (Small Mpm) (made_up (Small Mpm) f)) first d)

-- without the four bits single calls fail: the 34 takes a block for the first record, and 6/0 tells of none
singly_count : length (counted_after (Small Mpm) begun.users (history_of (Small Mpm) (unbitted (Small Mpm)) begun (makes ∷ writes_two ∷ [])) []) ≡ 0
unfolding rules listed history begun by makes writes_two unbitted
singly_count = refl

singly_counted : length (groups_by (Small Mpm) begun (history_of (Small Mpm) (unbitted (Small Mpm)) begun (makes ∷ writes_two ∷ []))) ≡ 0
singly_counted = ap length (counted_from (history_of (Small Mpm) (unbitted (Small Mpm)) begun (makes ∷ writes_two ∷ []))) ∙ singly_count

singly_used : blocks_in_use (Small Mpm) (after (Small Mpm) (unbitted (Small Mpm)) begun (makes ∷ writes_two ∷ [])).image ≡ 1
unfolding rules listed history begun by makes writes_two unbitted
singly_used = refl

-- .. single calls without the four bits, ..
pub not_unbitted : Demand3 (Small Mpm) (unbitted (Small Mpm)) → ⊥
not_unbitted d = let z = (d.stands begun (makes ∷ writes_two ∷ []) may_make_two).blocks_are_groups.as_many in let a = singly_counted in let b = singly_used in
    omega arith

-- another limit, and another user, fail at once: the list's head is no longer the one that Start wrote
begun_limit : begun.openlimit ≡ 2
unfolding begun
begun_limit = refl

begun_user : byte begun.users 1 ≡ 0
unfolding begun
begun_user = refl

lavish_limit : byte (take 19 (after (Small Mpm) (lavish (Small Mpm)) begun (asks ∷ [])).list) 1 ≡ 64
unfolding rules listed history begun by asks lavish but_after unlimited
lavish_limit = refl

-- .. the one that sets both limits to 64, ..
pub not_lavish : Demand3 (Small Mpm) (lavish (Small Mpm)) → ⊥
not_lavish d =
    let z : byte (take 19 (after (Small Mpm) (lavish (Small Mpm)) begun (asks ∷ [])).list) 1 ≡ begun.openlimit = ap (λ (s : List ℕ). byte s 1)
    (d.stands begun (asks ∷ []) may_asks).head_stays.head in
    let y = lavish_limit in
    let x = begun_limit in
    omega arith

promoted_user : byte (take 19 (after (Small Mpm) (promoting (Small Mpm)) begun (dies ∷ [])).list) 4 ≡ 1
unfolding rules listed history begun by dies promoting is_writing but_after promoted
promoted_user = refl

-- .. and the one that adds to the caller's user
pub not_promoting : Demand3 (Small Mpm) (promoting (Small Mpm)) → ⊥
not_promoting d =
    let z : byte (take 19 (after (Small Mpm) (promoting (Small Mpm)) begun (dies ∷ [])).list) 4 ≡ byte begun.users 1 = ap (λ (s : List ℕ). byte s 4)
    (d.stands begun (dies ∷ []) may_die).head_stays.head in
    let y = promoted_user in
    let x = begun_user in
    omega arith

-- ---- demand 2

-- S0, S4 and S8 of the session
writes_held : Ask
writes_held = record { function = 34; process = 2; count = 1; fcb = fcb_with 0; dma = dma_with 1 }

s0 : outcome_of (call_run (Small Mpm)) makes (state first_list first_image) ≡ outcome (0 ∕ 0) (buffers (fcb_with 0) (dma_with 0) list0 image0)
unfolding AsListed session outcome_of by makes
s0 = the_session.0

s4 : outcome_of (call_run (Small Mpm)) writes_held (state list3 image2) ≡ outcome (8 ∕ 0) (buffers (fcb_with 0) (dma_with 1) list3 image2)
unfolding AsListed session outcome_of writes_held
s4 = the_session.1.1.1.1.0

s8 : outcome_of (call_run (Small Mpm)) asks (state list3 image5) ≡ outcome (0 ∕ 0) (buffers (fcb_with 0) (dma_with 0) list3 image5)
unfolding AsListed session outcome_of by asks
s8 = the_session.1.1.1.1.1.1.1.1.0

-- refusing everything fails at S0
pub refusing_differs : Demand2 (Small Mpm) refusing → ⊥
unfolding Demand2 refusing rules listed history by makes
refusing_differs d =
    let e : ◌≡◌ {A = ℕ} (255 ∕ 13) (0 ∕ 0) = ap (λ (o : Outcome). o.answer) (d [] makes (state first_list first_image) refl refl ∙ s0) in
    omega arith

-- answering 0/0 to everything at S4
pub accepting_differs : Demand2 (Small Mpm) accepting → ⊥
unfolding Demand2 accepting rules listed history writes_held
accepting_differs d =
    let e : ◌≡◌ {A = ℕ} (0 ∕ 0) (8 ∕ 0) = ap (λ (o : Outcome). o.answer) (d [] writes_held (state list3 image2) refl refl ∙ s4) in
    omega arith

-- storing nothing at S0: byte 19 of the list is the mark of an open
pub idle_differs : Demand2 (Small Mpm) (idle (Small Mpm)) → ⊥
unfolding Demand2 idle unstored rules listed history by makes
idle_differs d =
    let e : ◌≡◌ {A = ℕ} 0 0x4F = ap (λ (o : Outcome). byte o.left.list 19) (d [] makes (state first_list first_image) refl refl ∙ s0) in
    omega arith

-- a made-up figure from 46 at S8, where the drive is full, or before S0, where it is not
made_up_full : (figure : ℕ) → take 3 (outcome_of (made_up (Small Mpm) figure []) asks
    (state list3 image5)).left.dma ≡ figure % 256 ∷ figure / 256 % 256 ∷ figure / 256 / 256 % 256 ∷ []
unfolding rules listed history by asks made_up but_after figured
made_up_full figure = refl

made_up_free : take 3 (outcome_of (made_up (Small Mpm) 0 []) asks (state first_list first_image)).left.dma ≡ 0 ∷ 0 ∷ 0 ∷ []
unfolding rules listed history by asks made_up but_after figured
made_up_free = refl

true_free : take 3 (outcome_of (call_run (Small Mpm)) asks (state first_list first_image)).left.dma ≡ 16 ∷ 0 ∷ 0 ∷ []
unfolding rules listed history by asks
true_free = refl

not_none : Demand2 (Small Mpm) (made_up (Small Mpm) 0) → ⊥
unfolding Demand2 rules listed history by asks
not_none d =
    let free = sym made_up_free ∙ ap (λ (o : Outcome). take 3 o.left.dma) (d [] asks (state first_list first_image) refl refl) ∙ true_free in
    let z : ◌≡◌ {A = ℕ} 0 16 = ap (λ (s : List ℕ). byte s 0) free in
    omega arith

-- so no made-up figure is right at both
pub made_up_differs : (figure : ℕ) → figure < 16777216 → Demand2 (Small Mpm) (made_up (Small Mpm) figure) → ⊥
unfolding Demand2 rules listed history by asks
made_up_differs figure m d =
    let full : figure ≡ 0 = figure_is figure 0 m (omega arith)
    (sym (made_up_full figure) ∙ ap (λ (o : Outcome). take 3 o.left.dma) (d [] asks (state list3 image5) refl refl ∙ s8)) in
    not_none (subst (λ (f : ℕ). Demand2 (Small Mpm) (made_up (Small Mpm) f)) full d)
