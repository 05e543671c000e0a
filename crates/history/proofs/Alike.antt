-- An engine that serves as the rules do whatever a host can hand over has the histories of the rules. Assumes nothing.
use mathlib.Core.Path.{◌≡◌, refl, ap, ◌∙◌}
use mathlib.Core.Bool.{true}
use mathlib.Core.List.{List, [], ◌∷◌, ◌++◌}
use native.Mathlib.Omega.{arith}
use Rattle.words.proofs.Tests.{and_fst, and_snd}
use Rattle.words.proofs.Sets.{and_both}
use Rattle.rules.specs.declared.kind.Kind.{Kind}
use Rattle.rules.specs.Serves.{Outcome}
use Rattle.rules.specs.Several.{call_run}
use Rattle.history.specs.History.{Ask, State, Engine, Event, Begun, is_possible, are_possible, is_kept, forgetful, outcome_of, kept, state_after, event}
use Rattle.history.specs.History.{events_of, first_state, after, history_of, outcome_after}
use Rattle.history.specs.Demands.{Demand2, Demand3}
use Rattle.history.proofs.Start.{begun_bytes, begun_sound}
use Rattle.history.proofs.Lendable.{lendable_so, next_kept}
use Rattle.history.proofs.Calls.{ours}
use Rattle.history.proofs.Demands as demands

module _ (kind : Kind) (g : Begun kind) where
  -- what stands at the beginning can be lent
  pub first_kept : is_kept (first_state kind g) ≡ true
  unfolding is_kept
  first_kept = and_both _ _ (lendable_so _ (begun_bytes kind g) (let k = (begun_sound kind g).list_long in omega arith)) g.lendable

-- ---- the same histories

record Alike (kind : Kind) (e : Engine) (before qs : List Ask) (s : State) : Type 0 where
  state_same : state_after e before qs s ≡ state_after (ours kind) before qs s
  events_same : events_of e before qs s ≡ events_of (ours kind) before qs s
  stays_kept : is_kept (state_after (ours kind) before qs s) ≡ true

module _ (kind : Kind) (e : Engine) (serves : Demand2 kind e) where
  one_same : (before : List Ask) (q : Ask) (s : State) → is_possible q ≡ true → is_kept s ≡ true → outcome_of (e before) q s ≡ outcome_of (ours kind before) q s
  unfolding Demand2 forgetful
  one_same before q s may h = serves before q s may h

  alike : (before qs : List Ask) (s : State) → is_kept s ≡ true → are_possible qs ≡ true → Alike kind e before qs s
  unfolding state_after events_of are_possible forgetful
  alike before [] s h may = record { state_same = refl; events_same = refl; stays_kept = h }
  alike before (q ∷ qs) s h may =
      let o = one_same before q s (and_fst _ _ may) h in
      let w = alike (before ++ (q ∷ [])) qs (kept (outcome_of (call_run kind) q s)) (next_kept kind q s (and_fst _ _ may) h) (and_snd _ _ may) in
      record {
        state_same = rw o w.state_same;
        events_same = rw o (ap (λ (es : List Event). event q (outcome_of (call_run kind) q s).answer ∷ es) w.events_same);
        stays_kept = w.stays_kept;
      }

  module _ (g : Begun kind) (qs : List Ask) (may : are_possible qs ≡ true) where
    from_start : Alike kind e [] qs (first_state kind g)
    from_start = alike [] qs (first_state kind g) (first_kept kind g) may

    -- after the same calls what is kept is the same, ..
    pub after_same : after kind e g qs ≡ after kind (ours kind) g qs
    unfolding after
    after_same = from_start.state_same

    -- .. and so is the history; ..
    pub history_same : history_of kind e g qs ≡ history_of kind (ours kind) g qs
    unfolding history_of
    history_same = from_start.events_same

    -- .. a host can lend again what is kept, ..
    pub kept_so : is_kept (after kind (ours kind) g qs) ≡ true
    unfolding after
    kept_so = from_start.stays_kept

    -- .. and one more call has the same outcome
    pub outcome_same : (q : Ask) → is_possible q ≡ true → outcome_after kind e g qs q ≡ outcome_after kind (ours kind) g qs q
    unfolding outcome_after
    outcome_same q can = rw after_same (one_same qs q (after kind (ours kind) g qs) can kept_so)

-- ---- demand 3 of such an engine

possible_front : (qs rs : List Ask) → are_possible (qs ++ rs) ≡ true → are_possible qs ≡ true
unfolding are_possible
possible_front [] rs h = refl
possible_front (q ∷ qs) rs h = and_both _ _ (and_fst _ _ h) (possible_front qs rs (and_snd _ _ h))

possible_back : (qs rs : List Ask) → are_possible (qs ++ rs) ≡ true → are_possible rs ≡ true
unfolding are_possible
possible_back [] rs h = h
possible_back (q ∷ qs) rs h = possible_back qs rs (and_snd _ _ h)

module _ (kind : Kind) (e : Engine) (serves : Demand2 kind e) (g : Begun kind) (qs later : List Ask) (q : Ask)
    (may : are_possible (qs ++ (q ∷ later)) ≡ true) where
  first_may : are_possible qs ≡ true
  first_may = possible_front qs (q ∷ later) may

  may_now : is_possible q ≡ true
  unfolding are_possible
  may_now = and_fst _ _ (possible_back qs (q ∷ later) may)

  may_later : are_possible later ≡ true
  unfolding are_possible
  may_later = and_snd _ _ (possible_back qs (q ∷ later) may)

  later_same : events_of e (qs ++ (q ∷ [])) later (kept (outcome_after kind e g qs q)) ≡ events_of (ours kind) (qs ++ (q ∷ [])) later
      (kept (outcome_after kind (ours kind) g qs q))
  unfolding outcome_after forgetful
  later_same =
      let s = after kind (ours kind) g qs in
      let k = next_kept kind q s may_now (kept_so kind e serves g qs first_may) in
      ap (λ (o : Outcome). events_of e (qs ++ (q ∷ [])) later (kept o)) (outcome_same kind e serves g qs first_may q may_now)
      ∙ (alike kind e serves (qs ++ (q ∷ [])) later (kept (outcome_of (call_run kind) q s)) k may_later).events_same

-- an engine that meets demand 2 meets demand 3
pub meets_third : (kind : Kind) (e : Engine) → Demand2 kind e → Demand3 kind e
meets_third kind e serves = record {
  stands = λ g qs may. rw (after_same kind e serves g qs may, history_same kind e serves g qs may) (demands.stands kind g qs);
  next = λ g qs q may can. rw (outcome_same kind e serves g qs may q can, after_same kind e serves g qs may, history_same kind e serves g qs may)
      (demands.next kind g qs q);
  dead_hold_nothing = λ g qs later q p may d none.
      let front = first_may kind e serves g qs later q may in
      let o = outcome_same kind e serves g qs front q (may_now kind e serves g qs later q may) in
      rw (after_same kind e serves g (qs ++ (q ∷ later)) may, history_same kind e serves g (qs ++ (q ∷ later)) may)
      (demands.dead_hold_nothing kind g qs later q p (rw o at d) (rw (later_same kind e serves g qs later q may) at none));
}
