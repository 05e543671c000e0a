-- What a leaf of the walk did, as the history tells it. Assumes nothing.
use Prim.Native.Nat.{ℕ, ◌<◌}
use mathlib.Core.Path.{◌≡◌, refl, sym, ap, ◌∙◌}
use mathlib.Core.Bool.{Bool, true, false, true≢false}
use mathlib.Core.List.{List}
use mathlib.Core.Logic.{⊎_elim}
use native.Mathlib.Omega.{arith}
use borrow.Author.Tests.{ne_eqb}
use Rattle.words.proofs.Tests.{equal?}
use Rattle.rules.specs.declared.kind.Kind.{Kind}
use Rattle.rules.specs.declared.routine.Routine.TheVariants.{Open, Close, SearchFirst, SearchNext, Delete, Make, Rename, Read, Write, Size, WriteZeros}
use Rattle.rules.specs.declared.routine.Routine.TheVariants.{TestWrite, Lock, Unlock, FreeSpace, Terminate}
use Rattle.std.specs.Prelude.{Option, Some, None}
use Rattle.rules.specs.declared.routine.Routine.{Routine}
use Rattle.words.specs.Tests.{◌if◌else◌}
use Rattle.words.specs.Lists.{turns}
use Rattle.words.specs.Tables.{◌∕◌}
use Rattle.rules.specs.declared.file.File.{File}
use Rattle.rules.specs.declared.item.Item.{Item}
use Rattle.rules.specs.declared.list.LockList.{LockList}
use Rattle.rules.specs.Serves.{chosen, is_search}
use Rattle.rules.specs.Asks.{caller_file, new_file, record_of}
use Rattle.rules.specs.Locks.{unpack}
use Rattle.history.specs.History.{Ask, State, event}
use Rattle.history.specs.Deeds.{Deed, nothing, touches, tells, deed_by, done_in, writes_run, deed, file_by, new_by}
use Rattle.history.specs.Held.{holding}
use Rattle.history.specs.Groups.{Group, touching_run, counting}

-- the users in the list
abbrev pub users_in : State → List ℕ
users_in s = (unpack s.list).users

-- an accepted call did what its function does
pub deed_done : (users : List ℕ) (q : Ask) (k : Option Routine) → chosen q.function ≡ k → deed users (event q (0 ∕ 0)) ≡ deed_by k users q
unfolding deed ◌if◌else◌
deed_done users q k e = ap (λ (x : Option Routine). deed_by x users q) e

-- a refused call touched the records done if it writes, and else did nothing: ..
pub deed_refused : (users : List ℕ) (q : Ask) (code : ℕ) → (code ≡ 0 → ⊥)
    → deed users (event q code) ≡ (touches (file_by users q) (record_of q.fcb) (done_in code) if writes_run q.function else nothing)
unfolding deed ◌if◌else◌
deed_refused users q code z = rw (ne_eqb code 0 z) refl

-- .. what is held stays, ..
pub held_refused : (users : List ℕ) (q : Ask) (code : ℕ) (g : List Item) → (code ≡ 0 → ⊥) → holding (deed users (event q code)) g ≡ g
held_refused users q code g z =
    ap (λ (d : Deed). holding d g) (deed_refused users q code z) ∙ same (writes_run q.function) (file_by users q) (record_of q.fcb) (done_in code)
  where
    same : (t : Bool) (f : File) (r n : ℕ) → holding (touches f r n if t else nothing) g ≡ g
    same true f r n = unfold holding ◌if◌else◌ in refl
    same false f r n = unfold holding ◌if◌else◌ in refl

-- .. and what is counted too, where the code tells of no record done
pub count_refused : (kind : Kind) (users : List ℕ) (q : Ask) (code : ℕ) (g : List Group) → (code ≡ 0 → ⊥) → code < 4096
    → counting kind (deed users (event q code)) g ≡ g
count_refused kind users q code g z low =
    ap (λ (d : Deed). counting kind d g) (deed_refused users q code z)
    ∙ same (writes_run q.function) (file_by users q) (record_of q.fcb) (done_in code) (omega arith)
  where
    same : (t : Bool) (f : File) (r n : ℕ) → n ≡ 0 → counting kind (touches f r n if t else nothing) g ≡ g
    same true f r n e = unfold counting touching_run turns ◌if◌else◌ in rw e refl
    same false f r n e = unfold counting ◌if◌else◌ in refl

-- a search did nothing of what a history tells, ..
searches_nothing : (k : Option Routine) → is_search k ≡ true → (users : List ℕ) (q : Ask) → deed_by k users q ≡ nothing
unfolding is_search deed_by
searches_nothing (Some SearchFirst) h users q = refl
searches_nothing (Some SearchNext) h users q = refl
searches_nothing (Some Open) h users q = absurd (true≢false (sym h))
searches_nothing (Some Close) h users q = absurd (true≢false (sym h))
searches_nothing (Some Delete) h users q = absurd (true≢false (sym h))
searches_nothing (Some Make) h users q = absurd (true≢false (sym h))
searches_nothing (Some Rename) h users q = absurd (true≢false (sym h))
searches_nothing (Some Read) h users q = absurd (true≢false (sym h))
searches_nothing (Some Write) h users q = absurd (true≢false (sym h))
searches_nothing (Some Size) h users q = absurd (true≢false (sym h))
searches_nothing (Some WriteZeros) h users q = absurd (true≢false (sym h))
searches_nothing (Some TestWrite) h users q = absurd (true≢false (sym h))
searches_nothing (Some Lock) h users q = absurd (true≢false (sym h))
searches_nothing (Some Unlock) h users q = absurd (true≢false (sym h))
searches_nothing (Some FreeSpace) h users q = absurd (true≢false (sym h))
searches_nothing (Some Terminate) h users q = absurd (true≢false (sym h))
searches_nothing None h users q = absurd (true≢false (sym h))

module _ (users : List ℕ) (q : Ask) (answer : ℕ) (k : is_search (chosen q.function) ≡ true) where
  found_nothing : answer ≡ 0 → deed users (event q answer) ≡ nothing
  found_nothing z = ap (λ (a : ℕ). deed users (event q a)) z ∙ deed_done users q _ refl ∙ searches_nothing (chosen q.function) k users q

  -- .. so what is held stays, ..
  pub held_searched : (g : List Item) → holding (deed users (event q answer)) g ≡ g
  unfolding holding
  held_searched g =
      ⊎_elim (λ (z : answer ≡ 0). ap (λ (d : Deed). holding d g) (found_nothing z)) (λ (z : answer ≡ 0 → ⊥). held_refused users q answer g z) (equal? answer 0)

  -- .. and what is counted
  pub count_searched : (kind : Kind) (g : List Group) → answer < 4096 → counting kind (deed users (event q answer)) g ≡ g
  unfolding counting
  count_searched kind g low =
      ⊎_elim (λ (z : answer ≡ 0). ap (λ (d : Deed). counting kind d g) (found_nothing z))
      (λ (z : answer ≡ 0 → ⊥). count_refused kind users q answer g z low) (equal? answer 0)

-- the file that the history names is the one that the call meant, ..
pub file_meant : (q : Ask) (l : LockList) → file_by l.users q ≡ caller_file q.process l q.fcb
unfolding file_by caller_file
file_meant q l = refl

-- .. and so is the new one of 23
pub new_meant : (q : Ask) (l : LockList) → new_by l.users q ≡ new_file q.process l q.fcb
unfolding new_by new_file
new_meant q l = refl

-- only 46 tells a figure
tells_is : (k : Option Routine) (users : List ℕ) (q : Ask) → deed_by k users q ≡ tells → k ≡ Some FreeSpace
unfolding deed_by
tells_is (Some Open) users q h = let z : ◌≡◌ {A = ℕ} 0 1 = cc in absurd (omega arith)
tells_is (Some Close) users q h = let z : ◌≡◌ {A = ℕ} 0 1 = cc in absurd (omega arith)
tells_is (Some SearchFirst) users q h = let z : ◌≡◌ {A = ℕ} 0 1 = cc in absurd (omega arith)
tells_is (Some SearchNext) users q h = let z : ◌≡◌ {A = ℕ} 0 1 = cc in absurd (omega arith)
tells_is (Some Delete) users q h = let z : ◌≡◌ {A = ℕ} 0 1 = cc in absurd (omega arith)
tells_is (Some Make) users q h = let z : ◌≡◌ {A = ℕ} 0 1 = cc in absurd (omega arith)
tells_is (Some Rename) users q h = let z : ◌≡◌ {A = ℕ} 0 1 = cc in absurd (omega arith)
tells_is (Some Read) users q h = let z : ◌≡◌ {A = ℕ} 0 1 = cc in absurd (omega arith)
tells_is (Some Write) users q h = let z : ◌≡◌ {A = ℕ} 0 1 = cc in absurd (omega arith)
tells_is (Some Size) users q h = let z : ◌≡◌ {A = ℕ} 0 1 = cc in absurd (omega arith)
tells_is (Some WriteZeros) users q h = let z : ◌≡◌ {A = ℕ} 0 1 = cc in absurd (omega arith)
tells_is (Some TestWrite) users q h = let z : ◌≡◌ {A = ℕ} 0 1 = cc in absurd (omega arith)
tells_is (Some Lock) users q h = let z : ◌≡◌ {A = ℕ} 0 1 = cc in absurd (omega arith)
tells_is (Some Unlock) users q h = let z : ◌≡◌ {A = ℕ} 0 1 = cc in absurd (omega arith)
tells_is (Some FreeSpace) users q h = refl
tells_is (Some Terminate) users q h = let z : ◌≡◌ {A = ℕ} 0 1 = cc in absurd (omega arith)
tells_is None users q h = let z : ◌≡◌ {A = ℕ} 0 1 = cc in absurd (omega arith)

refused_tells : (t : Bool) (f : File) (r n : ℕ) → (touches f r n if t else nothing) ≡ tells → ⊥
unfolding ◌if◌else◌
refused_tells true f r n h = let y : touches f r n ≡ tells = h in let z : ◌≡◌ {A = ℕ} 0 1 = cc in omega arith
refused_tells false f r n h = let y : nothing ≡ tells = h in let z : ◌≡◌ {A = ℕ} 0 1 = cc in omega arith

-- a call that told a figure is an accepted 46
pub told : (users : List ℕ) (q : Ask) (answer : ℕ) → deed users (event q answer) ≡ tells → (answer ≡ 0 ∕ 0) × (chosen q.function ≡ Some FreeSpace)
told users q answer h =
    ⊎_elim
    (λ (z : answer ≡ 0).
    let e : deed users (event q 0) ≡ tells = ap (λ (a : ℕ). deed users (event q a)) (sym z) ∙ h in
    (z, tells_is (chosen q.function) users q (sym (deed_done users q _ refl) ∙ e)))
    (λ (z : answer ≡ 0 → ⊥). absurd (refused_tells (writes_run q.function) _ _ _ (sym (deed_refused users q answer z) ∙ h)))
    (equal? answer 0)
