-- From one call, of one record or of several, to every list of calls. Assumes nothing.
use mathlib.Core.Path.{◌≡◌, refl}
use mathlib.Core.List.{List, [], ◌∷◌, ◌++◌}
use Rattle.words.proofs.Tests.{never}
use Rattle.rules.specs.declared.kind.Kind.{Kind}
use Rattle.rules.specs.declared.item.Item.{Item}
use Rattle.rules.specs.Serves.{Outcome}
use Rattle.rules.specs.Call.{call}
use Rattle.rules.specs.Several.{call_run}
use Rattle.history.specs.History.{Ask, State, Engine, Begun, forgetful, outcome_of, kept, event, state_after, events_of, first_state, after, history_of, lent}
use Rattle.history.specs.Deeds.{Deed, deed}
use Rattle.history.specs.Held.{holding, held_after}
use Rattle.history.specs.Groups.{Group, counting, counted_after, groups_of}
use Rattle.history.specs.Demands.{items_of, groups_by}
use Rattle.history.proofs.Ways.{Way, refuses_low, plain, barred, whole, partly, ways}
use Rattle.history.proofs.Done.{deed_done, held_refused, count_refused}
use Rattle.history.proofs.Run.{Inv, begun_inv, step_inv}
use Rattle.history.proofs.Several.{deed_partly, ran_inv, ran_each}

-- the engine of the rules
abbrev pub ours : Kind → Engine
ours kind = forgetful (call_run kind)

module _ (kind : Kind) (g : Begun kind) (q : Ask) (s : State) (items : List Item) (groups : List Group) (i : Inv kind g s items groups) where
  abbrev After : State → Deed → Type 0
  After t d = Inv kind g t (holding d items) (counting kind d groups)

  way_inv : (o : Outcome) → Way kind q.function q.process q.count (lent q s) o → After (kept o) (deed g.users (event q o.answer))
  unfolding outcome_of
  way_inv o (plain h) = step_inv kind g q s items groups i (λ k. absurd (never k h))
  way_inv o (barred h code w) =
      rw (held_refused g.users q code items w.some, count_refused kind g.users q code groups w.some (refuses_low kind _ _ _ _ code w)) i
  way_inv o (whole left w) = rw (deed_done g.users q _ refl) (ran_inv kind g q s items groups i q.count left w)
  way_inv o (partly k m left w code r) =
      rw (deed_partly g.users q code k w.serves r.some (refuses_low kind _ _ _ _ code r)) (ran_inv kind g q s items groups i k left w)

  -- what holds before a call, of one record or of several, holds after it of what the history then tells
  pub call_inv : After (kept (outcome_of (call_run kind) q s)) (deed g.users (event q (outcome_of (call_run kind) q s).answer))
  unfolding outcome_of
  call_inv = way_inv _ (ways kind q.function q.process q.count (lent q s))

  -- what each plain call of the process keeps, and two that follow each other keep together, every call of it keeps
  module _ (R : State → State → Type 0) (none : R s s) (join : (t v : State) → R s t → R t v → R s v)
      (one : (a : Ask) (t : State) (gs : List Group) → a.process ≡ q.process → Inv kind g t items gs → R t (kept (outcome_of (call kind) a t))) where
    way_each : (o : Outcome) → Way kind q.function q.process q.count (lent q s) o → R s (kept o)
    unfolding outcome_of
    way_each o (plain h) = one q s groups refl i
    way_each o (barred h code w) = none
    way_each o (whole left w) = ran_each kind g q s items groups i q.count left w R none join one
    way_each o (partly k m left w code r) = ran_each kind g q s items groups i k left w R none join one

    -- so a call of one record or of several keeps it
    pub call-each : R s (kept (outcome_of (call_run kind) q s))
    unfolding outcome_of
    call-each = way_each _ (ways kind q.function q.process q.count (lent q s))

module _ (kind : Kind) (g : Begun kind) where
  run_inv : (before qs : List Ask) (s : State) (items : List Item) (groups : List Group) → Inv kind g s items groups
      → Inv kind g (state_after (ours kind) before qs s) (held_after g.users (events_of (ours kind) before qs s) items)
      (counted_after kind g.users (events_of (ours kind) before qs s) groups)
  unfolding state_after events_of held_after counted_after forgetful
  run_inv before [] s items groups i = i
  run_inv before (q ∷ qs) s items groups i = run_inv (before ++ (q ∷ [])) qs (kept (outcome_of (call_run kind) q s)) _ _ (call_inv kind g q s items groups i)

  -- it holds after every list of calls
  pub always : (qs : List Ask) → Inv kind g (after kind (ours kind) g qs) (items_of kind g (history_of kind (ours kind) g qs))
      (groups_by kind g (history_of kind (ours kind) g qs))
  unfolding after history_of items_of groups_by
  always qs = run_inv [] qs (first_state kind g) [] (groups_of kind g.image) (begun_inv kind g)
