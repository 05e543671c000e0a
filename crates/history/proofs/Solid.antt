-- What is held is an open or a lock, and the items and the free places add up. Assumes nothing.
use Prim.Native.Nat.{ℕ, zero, suc, ◌+◌}
use mathlib.Core.Path.{◌≡◌, refl}
use mathlib.Core.Bool.{Bool, true, false, not}
use mathlib.Core.List.{List, [], ◌∷◌}
use mathlib.Core.Logic.{⊎_elim}
use native.Mathlib.Omega.{arith}
use lib.ListN.{length}
use lib.Dec.{eqb}
use Rattle.words.specs.Tests.{◌if◌else◌, count}
use Rattle.words.proofs.Tests.{either}
use Rattle.words.specs.Lists.{tally}
use Rattle.rules.specs.declared.item.Item.{Item}
use Rattle.rules.specs.declared.list.LockList.{LockList}
use Rattle.rules.specs.Locks.{fresh_open, item_at, is_empty_at}
use Rattle.history.specs.Deeds.{Deed, nothing, opens, closes, locks, unlocks, ends, touches, drops, carries, tells}
use Rattle.history.specs.Held.{is_among, granting_run, holding}
use Rattle.history.proofs.Items.{NonePass, none_granting, none_run, none_without}
use Rattle.history.proofs.Tallied.{passes_at}

-- an empty place, ..
unfoldable pub is_none : Item → Bool
is_none it = eqb it.kind 0

-- .. and an item
unfoldable pub is_item : Item → Bool
is_item it = not (eqb it.kind 0)

-- no empty place is held
abbrev pub Solid : List Item → Type 0
Solid g = NonePass is_none g

-- what a call did makes no empty place held
pub solid_holding : (d : Deed) (g : List Item) → Solid g → Solid (holding d g)
unfolding holding granting_run is_none ◌if◌else◌
solid_holding nothing g w = w
solid_holding (opens p f m) g w = none_granting is_none _ _ refl w
solid_holding (closes p f) g w = none_without is_none _ g w
solid_holding (locks p f r n) g w =
    ⊎_elim (λ q. rw q (none_run is_none p f.name r n g (λ k. refl) w)) (λ q. rw q w) (either (is_among (fresh_open p f.name 1) g))
solid_holding (unlocks p f r n) g w = none_without is_none _ g w
solid_holding (ends p) g w = none_without is_none _ g w
solid_holding (touches f r n) g w = w
solid_holding (drops p f) g w = none_without is_none _ g w
solid_holding (carries f h) g w = w
solid_holding tells g w = w

-- each is an item or an empty place
pub split : (g : List Item) → tally is_item g + tally is_none g ≡ length g
unfolding tally is_item is_none ◌if◌else◌
split [] = refl
split (x ∷ xs) =
    let k = split xs in
    ⊎_elim (λ (q : eqb x.kind 0 ≡ true). rw q (omega arith)) (λ (q : eqb x.kind 0 ≡ false). rw q (omega arith)) (either (eqb x.kind 0))

-- ---- places

-- of n places each is empty or not
pub empty_or_not : (l : LockList) (n : ℕ) → count (passes_at is_item l) n + count (is_empty_at l) n ≡ n
unfolding count passes_at is_item is_empty_at ◌if◌else◌
empty_or_not l zero = refl
empty_or_not l (suc n) =
    let k = empty_or_not l n in
    ⊎_elim (λ (q : eqb (item_at l n).kind 0 ≡ true). rw q (omega arith))
    (λ (q : eqb (item_at l n).kind 0 ≡ false). rw q (omega arith)) (either (eqb (item_at l n).kind 0))
