-- The statements tried on the session, on a drive of the first kind: both sides are computed from the calls and answers listed. Assumes nothing.
use Prim.Native.Nat.{ℕ, ◌+◌}
use mathlib.Core.Path.{◌≡◌, refl}
use mathlib.Core.Bool.{Bool, true, false}
use mathlib.Core.List.{List, [], ◌∷◌, map}
use lib.ListN.{length, take, replicate}
use Rattle.words.specs.Tests.{count, sum_below}
use Rattle.words.specs.Lists.{tally}
use Rattle.rules.specs.declared.item.Item.{Item}
use Rattle.rules.specs.declared.kind.Kind.TheVariants.{Small}
use Rattle.rules.specs.declared.kind.Rule.TheVariants.{Mpm}
use Rattle.rules.specs.Drive.{blocks, blocks_in_use, free_blocks, file_from, sound_image}
use Rattle.rules.specs.Locks.{unpack, item_at, free_places, fresh_open, fresh_lock, sound_list}
use Rattle.rules.specs.Look.{look}
use Rattle.session.specs.Open.{rules}
use Rattle.session.specs.Session.{Step, Line, session, orders, fcb_with, dma_with, first_image, list0, list3, list11, list12, list13, image0, image2, image5}
use Rattle.session.specs.Session.{image13}
use Rattle.history.specs.History.{Ask, Event, event}
use Rattle.history.specs.Held.{same_item, is_by, held_after}
use Rattle.history.specs.Groups.{Group, group, is_counted, has_block, groups_of, counted_after}
use Rattle.history.specs.Demands.{is_item_at, items_by, is_unheld, figure_in}
use Rattle.history.proofs.Opened.{history, listed}

asked : Step → Ask
asked x = record { function = x.function; process = x.process; count = x.count; fcb = fcb_with x.record_number; dma = dma_with x.id }

told : Line → Event
told x = event (asked x.asks) x.gives.answer

-- what the history of the first n calls holds, and the groups that it counts
held_to : ℕ → List Item
held_to n = held_after (replicate 16 0) (map told (take n session)) []

groups_to : ℕ → List Group
groups_to n = counted_after (Small Mpm) (replicate 16 0) (map told (take n session)) (groups_of (Small Mpm) first_image)

-- items in the list by process, items held, free places; blocks in use, groups counted, free blocks
figures : ℕ → List ℕ → List ℕ → List ℕ
figures n list image =
    sum_below (items_by (unpack list)) 16 ∷ length (held_to n) ∷ free_places (unpack list) ∷ blocks_in_use (Small Mpm) image ∷ length
    (groups_to n) ∷ free_blocks (Small Mpm) image ∷ []

after_s0 : figures 1 list0 image0 ≡ 1 ∷ 1 ∷ 2 ∷ 0 ∷ 0 ∷ 2 ∷ []
unfolding rules listed history asked told held_to groups_to figures
after_s0 = refl

after_s10 : figures 11 list3 image5 ≡ 3 ∷ 3 ∷ 0 ∷ 2 ∷ 2 ∷ 0 ∷ []
unfolding rules listed history asked told held_to groups_to figures
after_s10 = refl

after_s12 : figures 13 list12 image5 ≡ 2 ∷ 2 ∷ 1 ∷ 2 ∷ 2 ∷ 0 ∷ []
unfolding rules listed history asked told held_to groups_to figures
after_s12 = refl

after_s13 : figures 14 list13 image13 ≡ 0 ∷ 0 ∷ 3 ∷ 0 ∷ 0 ∷ 2 ∷ []
unfolding rules listed history asked told held_to groups_to figures
after_s13 = refl

-- each item in the list as often as held: after S10 the opens of 1 and 2 and the lock of record 0 once, that of record 8 never
often : Item → List ℕ → ℕ → List ℕ
often x list n = count (is_item_at x (unpack list)) 64 ∷ tally (same_item x) (held_to n) ∷ []

as_often : often (fresh_open 1 orders 1) list3 11 ≡ 1 ∷ 1 ∷ []
unfolding rules listed history asked told held_to often
as_often = refl

as_often_lock : often (fresh_lock 1 orders 0) list3 11 ≡ 1 ∷ 1 ∷ []
unfolding rules listed history asked told held_to often
as_often_lock = refl

never_there : often (fresh_lock 2 orders 8) list3 11 ≡ 0 ∷ 0 ∷ []
unfolding rules listed history asked told held_to often
never_there = refl

-- after S10 the groups of records 0 and 8 are counted, that of record 16 is not; they are those with a block
is_counted_to : ℕ → ℕ → Bool
is_counted_to n number = is_counted (group (file_from 0 orders 0) number) (groups_to n)

counted_groups : is_counted_to 11 0 ∷ is_counted_to 11 1 ∷ is_counted_to 11 2 ∷ [] ≡ true ∷ true ∷ false ∷ []
unfolding rules listed history asked told groups_to is_counted_to
counted_groups = refl

with_block : has_block (Small Mpm) image5 (file_from 0 orders 0) 7 ∷ has_block (Small Mpm) image5 (file_from 0 orders 0) 15 ∷ has_block (Small Mpm) image5
    (file_from 0 orders 0) 16 ∷ []
    ≡ true ∷ true ∷ false ∷ []
unfolding rules listed history
with_block = refl

-- S5 by process 2 leaves the record that process 1 has locked
looks_same : look (Small Mpm) 0 orders 0 image5 ≡ look (Small Mpm) 0 orders 0 image2
unfolding rules listed
looks_same = refl

looks_long : length (look (Small Mpm) 0 orders 0 image2) ≡ 128
unfolding rules listed
looks_long = refl

-- S6 answers 14/0: three held, and a record not yet held, of a capacity of three
too_few : length (held_to 6) + count (is_unheld (held_to 6) 2 orders 8) 1 ≡ 4
unfolding rules listed history asked told held_to
too_few = refl

-- after S11 none of process 1's items is left
none_left : tally (is_by 1) (held_to 12) ∷ items_by (unpack list11) 1 ∷ [] ≡ 0 ∷ 0 ∷ []
unfolding rules listed history asked told held_to
none_left = refl

-- the states are sound
sound_s12 : sound_image (Small Mpm) image5 ∷ sound_list (Small Mpm) list12 image5 ∷ [] ≡ true ∷ true ∷ []
unfolding rules listed
sound_s12 = refl

sound_s13 : sound_image (Small Mpm) image13 ∷ sound_list (Small Mpm) list13 image13 ∷ [] ≡ true ∷ true ∷ []
unfolding rules listed
sound_s13 = refl

-- S8 tells 0 records: two groups of the two data blocks
figure_s8 : figure_in (Small Mpm) (blocks (Small Mpm) image5) (groups_to 8) (dma_with 0) ≡ dma_with 0
unfolding rules listed history asked told groups_to
figure_s8 = refl

-- S11 by process 1 leaves the open of process 2
others_item : item_at (unpack list11) 1 ≡ item_at (unpack list3) 1
unfolding rules listed
others_item = refl
