-- Several records in one call: what holds between calls holds after each record done. Assumes nothing.
use Prim.Native.Nat.{ℕ, suc, ◌+◌, ◌*◌, ◌<◌}
use mathlib.Core.Path.{◌≡◌, refl, ap, ◌∙◌}
use mathlib.Core.Bool.{true}
use mathlib.Core.List.{List}
use native.Mathlib.Omega.{arith}
use lib.ListN.{length}
use Rattle.words.specs.Tests.{◌or◌, ◌if◌else◌}
use Rattle.words.specs.Lists.{turns}
use Rattle.words.specs.Bytes.{byte}
use Rattle.words.specs.Tables.{◌∕◌}
use Rattle.words.proofs.Tables.{zero_none}
use Rattle.rules.specs.declared.kind.Kind.{Kind}
use Rattle.rules.specs.declared.item.Item.{Item}
use Rattle.std.specs.Prelude.{Option}
use Rattle.rules.specs.declared.routine.Routine.{Routine}
use Rattle.rules.specs.Serves.{Buffers, chosen}
use Rattle.rules.specs.Asks.{record_of}
use Rattle.rules.specs.Codes.{rows_all}
use Rattle.rules.specs.Call.{call}
use Rattle.rules.specs.Several.{serves_run, fcb_at, dma_at, single, back_at, Run, run}
use Rattle.rules.proofs.Tables.{nonzero_all, answer_is}
use Rattle.rules.proofs.Passed.{passed}
use Rattle.rules.proofs.Singles.{Runs, is_read, is_write, is_zeros, runs_plain, run-chosen, fcb_number, fcb_from}
use Rattle.rules.proofs.Several.{Steps, begun, done, stopped, idle, steps}
use Rattle.history.specs.History.{Ask, State, with_count, Begun, state, outcome_of, kept, event, lent}
use Rattle.history.specs.Deeds.{Deed, nothing, touches, deed_by, done_in, writes_run, deed, file_by}
use Rattle.history.specs.Held.{holding}
use Rattle.history.specs.Groups.{Group, touching_run, counting}
use Rattle.history.proofs.Served.{of_three}
use Rattle.history.proofs.Ways.{Ran}
use Rattle.history.proofs.Done.{deed_done, deed_refused}
use Rattle.history.proofs.Grouping.{touching_more}
use Rattle.history.proofs.Run.{Inv, step_inv}

-- the single call for the record at distance i, from the buffers that the records before it left
abbrev ask_at : Ask → ℕ → Buffers → Ask
ask_at q i b = record { function = q.function; process = q.process; count = 1; fcb = fcb_at i b.fcb; dma = dma_at i b.dma }

-- of the buffers, what the host keeps
abbrev pub state_in : Buffers → State
state_in b = state b.list b.image

-- ---- what it did is what an accepted call of just the records done does

touched_or_none : (users : List ℕ) (q : Ask) (i n : ℕ) → serves_run n ≡ true
    → (touches (file_by users q) (record_of q.fcb) i if writes_run n else nothing) ≡ deed_by (chosen n) users (with_count i q)
unfolding writes_run chosen deed_by file_by ◌or◌ ◌if◌else◌
touched_or_none users q i n h =
    of_three (λ (m : ℕ). (touches (file_by users q) (record_of q.fcb) i if writes_run m else nothing) ≡ deed_by (chosen m) users
    (with_count i q)) refl refl refl n h

-- a call refused after i records did what an accepted call of these does
pub deed_partly : (users : List ℕ) (q : Ask) (code i : ℕ) → serves_run q.function ≡ true → (code ≡ 0 → ⊥) → code < 4096
    → deed users (event q (code + 0 ∕ (16 * i))) ≡ deed_by (chosen q.function) users (with_count i q)
deed_partly users q code i h z low =
    let e : done_in (code + 0 ∕ (16 * i)) ≡ i = omega arith in
    deed_refused users q (code + 0 ∕ (16 * i)) (λ (y : code + 0 ∕ (16 * i) ≡ 0). z (omega arith))
    ∙ ap (λ (k : ℕ). touches (file_by users q) (record_of q.fcb) k if writes_run q.function else nothing) e
    ∙ touched_or_none users q i q.function h

-- it grants nothing and takes nothing back, ..
held_run : (k : Option Routine) → Runs k → (users : List ℕ) (q : Ask) (g : List Item) → holding (deed_by k users q) g ≡ g
unfolding holding deed_by
held_run k is_read users q g = refl
held_run k is_write users q g = refl
held_run k is_zeros users q g = refl

-- .. and counts record by record
count_none : (kind : Kind) (k : Option Routine) → Runs k → (users : List ℕ) (q : Ask) (g : List Group) → counting kind (deed_by k users (with_count 0 q)) g ≡ g
unfolding counting deed_by touching_run turns
count_none kind k is_read users q g = refl
count_none kind k is_write users q g = refl
count_none kind k is_zeros users q g = refl

module _ (kind : Kind) (users : List ℕ) (q : Ask) (i : ℕ) (b : Buffers) (g : List Group) (long : length q.fcb ≡ 36) (same : b.fcb ≡ q.fcb) where
  abbrev touched_to : ℕ → List Group
  touched_to k = touching_run kind (file_by users q) (record_of q.fcb) k g

  touched_more : touching_run kind (file_by users (ask_at q i b)) (record_of (fcb_at i b.fcb)) 1 (touched_to i) ≡ touched_to (suc i)
  unfolding file_by
  touched_more =
      rw (same, fcb_number i q.fcb long, fcb_from i q.fcb long (byte users q.process))
      (touching_more kind (file_by users q) (record_of q.fcb) i g)

  count_more : (k : Option Routine) → Runs k
      → counting kind (deed_by k users (ask_at q i b)) (counting kind (deed_by k users (with_count i q)) g) ≡ counting kind (deed_by k users (with_count (suc i) q)) g
  unfolding counting deed_by file_by
  count_more k is_read = refl
  count_more k is_write = touched_more
  count_more k is_zeros = touched_more

-- ---- from record to record

module _ (kind : Kind) (g : Begun kind) (q : Ask) (s : State) (items : List Item) (groups : List Group) (i₀ : Inv kind g s items groups) where
  abbrev n : ℕ
  n = q.function

  abbrev p : ℕ
  p = q.process

  -- what i records done did
  abbrev deed_to : ℕ → Deed
  deed_to i = deed_by (chosen n) g.users (with_count i q)

  module _ (h : serves_run n ≡ true) (long : length q.fcb ≡ 36) where
    one_more : (i : ℕ) (b : Buffers) → b.fcb ≡ q.fcb → (call kind n p 1 (single i b)).answer ≡ 0
        → Inv kind g (state_in b) items (counting kind (deed_to i) groups)
        → Inv kind g (state_in (call kind n p 1 (single i b)).left) items (counting kind (deed_to (suc i)) groups)
    unfolding single outcome_of
    one_more i b same z w =
        let d = deed_done g.users (ask_at q i b) (chosen n) refl in
        let k = run-chosen n h in
        rw (z, d, held_run (chosen n) k g.users (ask_at q i b) items, count_more kind g.users q i b groups long same (chosen n) k)
        at (step_inv kind g (ask_at q i b) (state_in b) items (counting kind (deed_to i) groups) w (λ y. refl))

    inv_to : (c : ℕ) (x : Run) → Steps kind n p (lent q s) c x → (x.left.fcb ≡ q.fcb)
        × Inv kind g (state_in x.left) items (counting kind (deed_to x.done) groups)
    unfolding back_at
    inv_to c x begun = (refl, rw (count_none kind (chosen n) (run-chosen n h) g.users q groups) i₀)
    inv_to c x (done i b w z) =
        let k = inv_to i (run 0 i b) w in
        (k.0, one_more i b k.0 (answer_is kind n p 1 (single i b) (runs_plain (chosen n) (run-chosen n h)) ∙ z) k.1)
    inv_to c x (stopped i b w z) = inv_to i (run 0 i b) w
    inv_to c x (idle i y w z) = inv_to i y w

    -- what each plain call of the process keeps, and two that follow each other keep together, the records done keep
    each_to : (R : State → State → Type 0) → R s s → ((t v : State) → R s t → R t v → R s v)
        → ((a : Ask) (t : State) (gs : List Group) → a.process ≡ p → Inv kind g t items gs → R t (kept (outcome_of (call kind) a t)))
        → (c : ℕ) (x : Run) → Steps kind n p (lent q s) c x → R s (state_in x.left)
    unfolding single back_at outcome_of
    each_to R none join one c x begun = none
    each_to R none join one c x (done i b w z) =
        join (state_in b) _ (each_to R none join one i (run 0 i b) w) (one (ask_at q i b) (state_in b) _ refl (inv_to i (run 0 i b) w).1)
    each_to R none join one c x (stopped i b w z) = each_to R none join one i (run 0 i b) w
    each_to R none join one c x (idle i y w z) = each_to R none join one i y w

  -- ---- where i records of the call are done

  module _ (i : ℕ) (left : Buffers) (w : Ran kind n p q.count (lent q s) i left) where
    long : length q.fcb ≡ 36
    long =
        let quiet = zero_none (rows_all kind n p q.count (lent q s)) (nonzero_all kind n p q.count (lent q s)) w.passes in
        (passed kind n p q.count (lent q s) quiet).ready.fcb_long

    taken : Steps kind n p (lent q s) i (run 0 i left)
    taken = rw w.is at (steps kind n p (lent q s) i)

    -- what holds between calls holds after them, ..
    pub ran_inv : Inv kind g (state_in left) (holding (deed_to i) items) (counting kind (deed_to i) groups)
    ran_inv = rw (held_run (chosen n) (run-chosen n w.serves) g.users (with_count i q) items) (inv_to w.serves long i (run 0 i left) taken).1

    -- .. and what each plain call of the process keeps, and two that follow each other keep together, they keep
    pub ran_each : (R : State → State → Type 0) → R s s → ((t v : State) → R s t → R t v → R s v)
        → ((a : Ask) (t : State) (gs : List Group) → a.process ≡ p → Inv kind g t items gs → R t (kept (outcome_of (call kind) a t))) → R s (state_in left)
    ran_each R none join one = each_to w.serves long R none join one i (run 0 i left) taken
