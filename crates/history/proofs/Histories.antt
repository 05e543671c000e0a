-- Short histories, computed: what each kind of call does to what is held and counted. Assumes nothing.
use Prim.Native.Nat.{ℕ}
use mathlib.Core.Path.{◌≡◌, refl}
use mathlib.Core.List.{List, [], ◌∷◌, ◌++◌}
use lib.ListN.{replicate}
use Rattle.words.specs.Tables.{◌∕◌}
use Rattle.rules.specs.declared.item.Item.{Item}
use Rattle.rules.specs.declared.kind.Kind.{Kind}
use Rattle.rules.specs.declared.kind.Kind.TheVariants.{Small, Large}
use Rattle.rules.specs.declared.kind.Rule.TheVariants.{Mpm}
use Rattle.rules.specs.Drive.{file_from}
use Rattle.rules.specs.Locks.{fresh_open, fresh_lock}
use Rattle.session.specs.Open.{rules}
use Rattle.session.specs.Session.{orders, fcb_with}
use Rattle.history.specs.History.{Event, event}
use Rattle.history.specs.Held.{held_after}
use Rattle.history.specs.Groups.{Group, group, counted_after}
use Rattle.history.specs.Demands.{figure_in}
use Rattle.history.proofs.Opened.{history, listed}

-- a call of process 1 with that FCB and count, and its answer; one of count 1
does_run : ℕ → List ℕ → ℕ → ℕ → Event
does_run function fcb count answer = event (record { function = function; process = 1; count = count; fcb = fcb; dma = [] }) answer

does : ℕ → List ℕ → ℕ → Event
does function fcb answer = does_run function fcb 1 answer

-- ORDERS.DAT, asked for unlocked (as in the session), and locked; with a new name
locked : List ℕ
locked = 0 ∷ (orders ++ replicate 24 0)

other : List ℕ
other = replicate 11 0x41

renaming : List ℕ
renaming = 0 ∷ (orders ++ (replicate 5 0 ++ (other ++ replicate 8 0)))

held : List Event → List Item
held es = held_after (replicate 16 0) es []

counted : Kind → List Event → List Group
counted kind es = counted_after kind (replicate 16 0) es []

-- Make grants an open, Close takes it back, and so do 143 and Delete
made : held (does 22 (fcb_with 0) 0 ∷ []) ≡ fresh_open 1 orders 1 ∷ []
unfolding rules listed history does_run does held
made = refl

closed : held (does 22 (fcb_with 0) 0 ∷ does 16 (fcb_with 0) 0 ∷ []) ≡ []
unfolding rules listed history does_run does held
closed = refl

ended : held (does 22 (fcb_with 0) 0 ∷ does 143 (fcb_with 0) 0 ∷ []) ≡ []
unfolding rules listed history does_run does held
ended = refl

deleted : held (does 22 (fcb_with 0) 0 ∷ does 42 (fcb_with 3) 0 ∷ does 19 (fcb_with 0) 0 ∷ []) ≡ []
unfolding rules listed history does_run does held
deleted = refl

-- a lock is granted, and held once; in mode 0 none is
locked_once : held (does 22 (fcb_with 0) 0 ∷ does 42 (fcb_with 3) 0 ∷ does 42 (fcb_with 3) 0 ∷ []) ≡ fresh_lock 1 orders 3 ∷ fresh_open 1 orders 1 ∷ []
unfolding rules listed history does_run does held
locked_once = refl

locked_none : held (does 22 locked 0 ∷ does 42 locked 0 ∷ []) ≡ fresh_open 1 orders 0 ∷ []
unfolding rules listed history locked does_run does held
locked_none = refl

-- a refused call does nothing
refused : counted (Small Mpm) (does 34 (fcb_with 8) (2 ∕ 0) ∷ []) ≡ []
unfolding rules listed history does_run does counted
refused = refl

-- 34 touches a group, once; Delete drops it, Rename carries it over
touched : counted (Small Mpm) (does 34 (fcb_with 8) 0 ∷ does 40 (fcb_with 9) 0 ∷ []) ≡ group (file_from 0 orders 0) 1 ∷ []
unfolding rules listed history does_run does counted
touched = refl

dropped : counted (Small Mpm) (does 34 (fcb_with 8) 0 ∷ does 19 (fcb_with 0) 0 ∷ []) ≡ []
unfolding rules listed history does_run does counted
dropped = refl

carried_over : counted (Small Mpm) (does 34 (fcb_with 8) 0 ∷ does 23 renaming 0 ∷ []) ≡ group (file_from 0 other 0) 1 ∷ []
unfolding rules listed history other renaming does_run does counted
carried_over = refl

-- 34 of records 6 to 14 touches two groups; refused with 2/0 after records 7 and 8 (of sixteen) it touches theirs, and a refused 33 none
touched_run : counted (Small Mpm) (does_run 34 (fcb_with 6) 9 (0 ∕ 0) ∷ []) ≡ group (file_from 0 orders 0) 1 ∷ group (file_from 0 orders 0) 0 ∷ []
unfolding rules listed history does_run counted
touched_run = refl

touched_partly : counted (Small Mpm) (does_run 34 (fcb_with 7) 16 (2 ∕ 32) ∷ []) ≡ group (file_from 0 orders 0) 1 ∷ group (file_from 0 orders 0) 0 ∷ []
unfolding rules listed history does_run counted
touched_partly = refl

read_partly : counted (Small Mpm) (does_run 33 (fcb_with 7) 16 (1 ∕ 32) ∷ []) ≡ []
unfolding rules listed history does_run counted
read_partly = refl

-- on a drive of the second kind sixteen records are a group, and 46 tells sixteen for each free block
touched_large : counted (Large Mpm) (does_run 34 (fcb_with 6) 9 (0 ∕ 0) ∷ does_run 34 (fcb_with 16) 1 (0 ∕ 0) ∷ [])
    ≡ group (file_from 0 orders 0) 1 ∷ group (file_from 0 orders 0) 0 ∷ []
unfolding rules listed history does_run counted
touched_large = refl

told_large : figure_in (Large Mpm) 257 (group (file_from 0 orders 0) 0 ∷ []) (replicate 4 0) ≡ 224 ∷ 15 ∷ 0 ∷ 0 ∷ []
unfolding rules listed history
told_large = refl
