-- What the tables promise of every call. Assumes nothing.
use Prim.Native.Nat.{ℕ, ◌<◌, ◌≤◌}
use mathlib.Core.Path.{◌≡◌, refl, sym, ap, ◌∙◌}
use mathlib.Core.Bool.{Bool, true, false, true≢false}
use mathlib.Core.List.{List, ◌∷◌, ◌++◌}
use mathlib.Core.Logic.{◌⊎◌, inl, inr, ⊎_elim}
use native.Mathlib.Omega.{arith}
use lib.Dec.{eqb}
use borrow.Author.Tests.{ne_eqb, eqb-false}
use Rattle.words.specs.Tests.{◌if◌else◌}
use Rattle.words.specs.Tables.{Row, ◌∕◌, ◌when◌, first_of, any_row, none_zero}
use Rattle.words.proofs.Tests.{either}
use Rattle.words.proofs.Tables.{none_applies, first_applies, some_applies, first_then, first_stays, nonzeros, nonzero_append, codes_below, first_below}
use Rattle.words.proofs.Tables.{below_append, belows}
use Rattle.rules.specs.declared.kind.Kind.{Kind}
use Rattle.rules.specs.declared.list.LockList.{LockList}
use Rattle.rules.specs.declared.routine.Routine.TheVariants.{Open, Close, SearchFirst, SearchNext, Delete, Make, Rename, Read, Write, Size, WriteZeros}
use Rattle.rules.specs.declared.routine.Routine.TheVariants.{TestWrite, Lock, Unlock, FreeSpace, Terminate}
use Rattle.std.specs.Prelude.{Option, Some, None}
use Rattle.rules.specs.declared.routine.Routine.{Routine}
use Rattle.rules.specs.Serves.{is_search, Buffers, Outcome, Did, outcome, chosen}
use Rattle.rules.specs.Drive.{no_entry}
use Rattle.rules.specs.Locks.{item_at, mode_unlocked, is_opened}
use Rattle.rules.specs.Codes.{rows_inside, rows_all, rows_new, rows15, rows16, rows19, rows22, rows23, rows33, rows34, rows35, rows41, rows42, rows43}
use Rattle.rules.specs.Codes.{rows_there, rows_may, rows_room, rows_differ, rows_run, rows_lacking, rows_take}
use Rattle.rules.specs.Effects.{searched, finds, finds_none, does15, does16, does17, does18, does19, does22, makes, does23, does33, does34, does35, does41}
use Rattle.rules.specs.Effects.{does42, does43, does46, does143}
use Rattle.rules.specs.Call.{Asked, decided, unless, asked, rows_of, effect_of, served, rows_call, call}

-- ---- no row has the answer 0/0

pub nonzero_all : (kind : Kind) (n p c : ℕ) (b : Buffers) → none_zero (rows_all kind n p c b) ≡ true
unfolding rows_inside rows_all
nonzero_all kind n p c b = search nonzeros depth 20 fits 20000

pub nonzero_of : (k : Option Routine) (a : Asked) (b : Buffers) → none_zero (rows_of k a b) ≡ true
unfolding rows_of rows_new rows15 rows16 rows19 rows22 rows23 rows33 rows34 rows35 rows41 rows42 rows43 rows_there rows_may rows_room rows_differ rows_run rows_lacking
    rows_take
nonzero_of (Some Open) a b = search nonzeros depth 20 fits 20000
nonzero_of (Some Close) a b = search nonzeros depth 20 fits 20000
nonzero_of (Some SearchFirst) a b = search nonzeros depth 20 fits 20000
nonzero_of (Some SearchNext) a b = search nonzeros depth 20 fits 20000
nonzero_of (Some Delete) a b = search nonzeros depth 20 fits 20000
nonzero_of (Some Make) a b = search nonzeros depth 20 fits 20000
nonzero_of (Some Rename) a b = search nonzeros depth 20 fits 20000
nonzero_of (Some Read) a b = search nonzeros depth 20 fits 20000
nonzero_of (Some Write) a b = search nonzeros depth 20 fits 20000
nonzero_of (Some Size) a b = search nonzeros depth 20 fits 20000
nonzero_of (Some WriteZeros) a b = search nonzeros depth 20 fits 20000
nonzero_of (Some TestWrite) a b = search nonzeros depth 20 fits 20000
nonzero_of (Some Lock) a b = search nonzeros depth 20 fits 20000
nonzero_of (Some Unlock) a b = search nonzeros depth 20 fits 20000
nonzero_of (Some FreeSpace) a b = search nonzeros depth 20 fits 20000
nonzero_of (Some Terminate) a b = search nonzeros depth 20 fits 20000
nonzero_of None a b = search nonzeros depth 20 fits 20000

pub nonzero_call : (kind : Kind) (n p c : ℕ) (b : Buffers) → none_zero (rows_call kind n p c b) ≡ true
unfolding rows_call
nonzero_call kind n p c b = nonzero_append (rows_all kind n p c b) _ (nonzero_all kind n p c b) (nonzero_of (chosen n) (asked kind p c b) b)

-- ---- .. and the high four bits of H are zero in each

below_all : (kind : Kind) (n p c : ℕ) (b : Buffers) → codes_below 4096 (rows_all kind n p c b) ≡ true
unfolding rows_inside rows_all
below_all kind n p c b = search belows depth 20 fits 20000

below_of : (k : Option Routine) (a : Asked) (b : Buffers) → codes_below 4096 (rows_of k a b) ≡ true
unfolding rows_of rows_new rows15 rows16 rows19 rows22 rows23 rows33 rows34 rows35 rows41 rows42 rows43 rows_there rows_may rows_room rows_differ rows_run rows_lacking
    rows_take
below_of (Some Open) a b = search belows depth 20 fits 20000
below_of (Some Close) a b = search belows depth 20 fits 20000
below_of (Some SearchFirst) a b = search belows depth 20 fits 20000
below_of (Some SearchNext) a b = search belows depth 20 fits 20000
below_of (Some Delete) a b = search belows depth 20 fits 20000
below_of (Some Make) a b = search belows depth 20 fits 20000
below_of (Some Rename) a b = search belows depth 20 fits 20000
below_of (Some Read) a b = search belows depth 20 fits 20000
below_of (Some Write) a b = search belows depth 20 fits 20000
below_of (Some Size) a b = search belows depth 20 fits 20000
below_of (Some WriteZeros) a b = search belows depth 20 fits 20000
below_of (Some TestWrite) a b = search belows depth 20 fits 20000
below_of (Some Lock) a b = search belows depth 20 fits 20000
below_of (Some Unlock) a b = search belows depth 20 fits 20000
below_of (Some FreeSpace) a b = search belows depth 20 fits 20000
below_of (Some Terminate) a b = search belows depth 20 fits 20000
below_of None a b = search belows depth 20 fits 20000

pub all_below : (kind : Kind) (n p c : ℕ) (b : Buffers) → first_of (rows_all kind n p c b) < 4096
all_below kind n p c b = first_below 4096 _ (omega arith) (below_all kind n p c b)

pub of_below : (k : Option Routine) (a : Asked) (b : Buffers) → first_of (rows_of k a b) < 4096
of_below k a b = first_below 4096 _ (omega arith) (below_of k a b)

pub call_below : (kind : Kind) (n p c : ℕ) (b : Buffers) → first_of (rows_call kind n p c b) < 4096
unfolding rows_call
call_below kind n p c b = first_below 4096 _ (omega arith) (below_append 4096 (rows_all kind n p c b) _ (below_all kind n p c b)
    (below_of (chosen n) (asked kind p c b) b))

-- ---- a table and an effect

module _ (rows : List Row) (b : Buffers) (done : Outcome) where
  -- accepted where no row applies
  pub accepts : first_of rows ≡ 0 → unless rows b done ≡ done
  unfolding unless decided ◌if◌else◌
  accepts h = rw h

  -- refused where one does, with nothing changed
  pub refuses : (first_of rows ≡ 0 → ⊥) → unless rows b done ≡ outcome (first_of rows) b
  unfolding unless decided ◌if◌else◌
  refuses h = rw (ne_eqb _ _ h)

-- ---- every call

module _ (kind : Kind) (n p c : ℕ) (b : Buffers) where
  -- no row applies: the effect
  pub accepted : any_row (rows_call kind n p c b) ≡ false → call kind n p c b ≡ effect_of (chosen n) (asked kind p c b) b
  unfolding call
  accepted h = accepts _ b _ (none_applies (rows_call kind n p c b) h)

  first_real : any_row (rows_call kind n p c b) ≡ true → first_of (rows_call kind n p c b) ≡ 0 → ⊥
  first_real h = eqb-false _ _ (some_applies (rows_call kind n p c b) (nonzero_call kind n p c b) h)

  -- some row applies: the first that does, and all four buffers as they were
  pub refused : any_row (rows_call kind n p c b) ≡ true → call kind n p c b ≡ outcome (first_of (rows_call kind n p c b)) b
  unfolding call
  refused h = refuses _ b _ (first_real h)

  pub refused_first : (before after : List Row) (code : ℕ) → rows_call kind n p c b ≡ before ++ (code when true ∷ after) → any_row before ≡ false
      → any_row (rows_call kind n p c b) ≡ true → call kind n p c b ≡ outcome code b
  refused_first before after code e h k =
      refused k ∙ ap (λ (a : ℕ). outcome a b) (ap first_of e ∙ first_applies before after code h)

-- every effect but a search's is success, 0/0
if_zero : (t : Bool) (x y : Outcome) → x.answer ≡ 0 → y.answer ≡ 0 → (x if t else y).answer ≡ 0
unfolding ◌if◌else◌
if_zero true x y h k = h
if_zero false x y h k = k

pub effect_zero : (k : Option Routine) (a : Asked) (b : Buffers) → is_search k ≡ false → (effect_of k a b).answer ≡ 0 ∕ 0
unfolding is_search effect_of does15 does16 does19 does22 makes does23 does33 does34 does35 does41 does42 does43 does46 does143
effect_zero (Some Open) a b h = if_zero (is_opened a.place) _ _ refl refl
effect_zero (Some Close) a b h = refl
effect_zero (Some SearchFirst) a b h = absurd (true≢false h)
effect_zero (Some SearchNext) a b h = absurd (true≢false h)
effect_zero (Some Delete) a b h = refl
effect_zero (Some Make) a b h = refl
effect_zero (Some Rename) a b h = refl
effect_zero (Some Read) a b h = refl
effect_zero (Some Write) a b h = refl
effect_zero (Some Size) a b h = refl
effect_zero (Some WriteZeros) a b h = refl
effect_zero (Some TestWrite) a b h = refl
effect_zero (Some Lock) a b h = if_zero (eqb (item_at a.list a.place).mode mode_unlocked) _ _ refl refl
effect_zero (Some Unlock) a b h = if_zero (eqb (item_at a.list a.place).mode mode_unlocked) _ _ refl refl
effect_zero (Some FreeSpace) a b h = refl
effect_zero (Some Terminate) a b h = refl
effect_zero None a b h = refl

-- a search answers a place in the directory record, 0 to 3, or 255/0
pub search_answers : (kind : Kind) (p : ℕ) (l : LockList) (e : ℕ) (b : Buffers)
    → ((searched kind p l e b).answer < 4) ⊎ ((searched kind p l e b).answer ≡ 255 ∕ 0)
unfolding searched finds finds_none ◌if◌else◌
search_answers kind p l e b =
    ⊎_elim (λ (h : no_entry kind e ≡ true). inr (rw h)) (λ (h : no_entry kind e ≡ false). inl (rw h (omega arith))) (either (no_entry kind e))

success : (k : Option Routine) (a : Asked) (b : Buffers) → is_search k ≡ false → ((effect_of k a b).answer < 4) ⊎ ((effect_of k a b).answer ≡ 255 ∕ 0)
success k a b h = inl (rw (effect_zero k a b h) (omega arith))

-- so does every effect: 0/0 is one of these
pub effect_answers : (k : Option Routine) (a : Asked) (b : Buffers) → ((effect_of k a b).answer < 4) ⊎ ((effect_of k a b).answer ≡ 255 ∕ 0)
unfolding is_search
effect_answers (Some SearchFirst) a b = unfold effect_of does17 in search_answers a.kind a.process a.list _ b
effect_answers (Some SearchNext) a b = unfold effect_of does18 in search_answers a.kind a.process a.list _ b
effect_answers (Some Open) a b = success (Some Open) a b refl
effect_answers (Some Close) a b = success (Some Close) a b refl
effect_answers (Some Delete) a b = success (Some Delete) a b refl
effect_answers (Some Make) a b = success (Some Make) a b refl
effect_answers (Some Rename) a b = success (Some Rename) a b refl
effect_answers (Some Read) a b = success (Some Read) a b refl
effect_answers (Some Write) a b = success (Some Write) a b refl
effect_answers (Some Size) a b = success (Some Size) a b refl
effect_answers (Some WriteZeros) a b = success (Some WriteZeros) a b refl
effect_answers (Some TestWrite) a b = success (Some TestWrite) a b refl
effect_answers (Some Lock) a b = success (Some Lock) a b refl
effect_answers (Some Unlock) a b = success (Some Unlock) a b refl
effect_answers (Some FreeSpace) a b = success (Some FreeSpace) a b refl
effect_answers (Some Terminate) a b = success (Some Terminate) a b refl
effect_answers None a b = success None a b refl

module _ (kind : Kind) (n p c : ℕ) (b : Buffers) where
  -- the answer is 0/0 only where no row applies, ..
  pub zero_accepted : (call kind n p c b).answer ≡ 0 ∕ 0 → any_row (rows_call kind n p c b) ≡ false
  zero_accepted z =
      ⊎_elim
      (λ (h : any_row (rows_call kind n p c b) ≡ true).
      absurd (first_real kind n p c b h (sym (ap (λ (o : Outcome). o.answer) (refused kind n p c b h)) ∙ z)))
      (λ (h : any_row (rows_call kind n p c b) ≡ false). h) (either (any_row (rows_call kind n p c b)))

  -- .. and wherever none does, of all calls but the searches
  pub accepted_zero : is_search (chosen n) ≡ false → any_row (rows_call kind n p c b) ≡ false → (call kind n p c b).answer ≡ 0 ∕ 0
  accepted_zero plain h = ap (λ (o : Outcome). o.answer) (accepted kind n p c b h) ∙ effect_zero (chosen n) (asked kind p c b) b plain

  -- the answer is the table's
  pub answer_is : is_search (chosen n) ≡ false → (call kind n p c b).answer ≡ first_of (rows_call kind n p c b)
  answer_is plain =
      ⊎_elim
      (λ (h : any_row (rows_call kind n p c b) ≡ true). ap (λ (o : Outcome). o.answer) (refused kind n p c b h))
      (λ (h : any_row (rows_call kind n p c b) ≡ false). accepted_zero plain h ∙ sym (none_applies (rows_call kind n p c b) h))
      (either (any_row (rows_call kind n p c b)))

  -- the high four bits of an answer are zero, of a search's too
  pub answer_below : (call kind n p c b).answer < 4096
  answer_below =
      ⊎_elim
      (λ (h : any_row (rows_call kind n p c b) ≡ true). rw (refused kind n p c b h) (call_below kind n p c b))
      (λ (h : any_row (rows_call kind n p c b) ≡ false). rw (accepted kind n p c b h)
      (⊎_elim (λ m. omega arith) (λ (m : (effect_of (chosen n) (asked kind p c b) b).answer ≡ 255 ∕ 0). omega arith)
      (effect_answers (chosen n) (asked kind p c b) b)))
      (either (any_row (rows_call kind n p c b)))

  -- an answer that no effect gives is the table's
  pub answer_first : (code : ℕ) → 4 ≤ code → (255 ∕ 0 ≡ code → ⊥) → (call kind n p c b).answer ≡ code → first_of (rows_call kind n p c b) ≡ code
  answer_first code low other z =
      ⊎_elim
      (λ (h : any_row (rows_call kind n p c b) ≡ true). sym (ap (λ (o : Outcome). o.answer) (refused kind n p c b h)) ∙ z)
      (λ (h : any_row (rows_call kind n p c b) ≡ false).
      let e : (effect_of (chosen n) (asked kind p c b) b).answer ≡ code = sym (ap (λ (o : Outcome). o.answer) (accepted kind n p c b h)) ∙ z in
      absurd (⊎_elim (λ (m : (effect_of (chosen n) (asked kind p c b) b).answer < 4). omega arith) (λ m. other (sym m ∙ e))
      (effect_answers (chosen n) (asked kind p c b) b)))
      (either (any_row (rows_call kind n p c b)))

  -- the general table first, then the call's own
  pub call_refused : (first_of (rows_all kind n p c b) ≡ 0 → ⊥) → call kind n p c b ≡ outcome (first_of (rows_all kind n p c b)) b
  unfolding call rows_call
  call_refused h =
      let e = first_stays (rows_all kind n p c b) (rows_of (chosen n) (asked kind p c b) b) h in
      refuses _ b _ (λ q. h (sym e ∙ q)) ∙ ap (λ (a : ℕ). outcome a b) e

  pub call-served : first_of (rows_all kind n p c b) ≡ 0 → call kind n p c b ≡ served kind (chosen n) p c b
  unfolding call rows_call served unless
  call-served h =
      ap (λ (a : ℕ). decided a b (effect_of (chosen n) (asked kind p c b) b))
      (first_then (rows_all kind n p c b) (rows_of (chosen n) (asked kind p c b) b) h (nonzero_all kind n p c b))

-- ---- a contract that says `Did` leaves one outcome

pub did_is : (o : Outcome) (a : ℕ) (left : Buffers) → Did o a left → outcome a left ≡ o
did_is o a left d = λ i. record { answer = d.gives i; left = d.leaves i }

pub did_one : (o : Outcome) (a a' : ℕ) (left left' : Buffers) → Did o a left → Did o a' left' → outcome a left ≡ outcome a' left'
did_one o a a' left left' d e = did_is o a left d ∙ sym (did_is o a' left' e)
