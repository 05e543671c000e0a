-- The dead hold nothing, until they are granted something anew. Assumes nothing.
use Prim.Native.Nat.{ℕ}
use mathlib.Core.Path.{◌≡◌, refl, sym, ◌∙◌}
use mathlib.Core.Bool.{Bool, true, false, not}
use mathlib.Core.List.{List, [], ◌∷◌, ◌++◌, append_assoc, append-nil}
use mathlib.Core.Logic.{⊎_elim}
use native.Mathlib.Omega.{arith}
use lib.Dec.{eqb}
use borrow.Author.Tests.{eqb-true, eq-eqb}
use Rattle.words.specs.Tests.{◌and◌, ◌if◌else◌}
use Rattle.words.proofs.Tests.{either, and_snd, or_fst, or_snd}
use Rattle.words.specs.Lists.{tally}
use Rattle.rules.specs.declared.kind.Kind.{Kind}
use Rattle.rules.specs.declared.item.Item.{Item}
use Rattle.rules.specs.Locks.{fresh_open, is_kind_by}
use Rattle.history.specs.History.{Engine, Ask, State, Begun, Event, event, outcome_of, kept, state_after, events_of, first_state, after, history_of}
use Rattle.history.specs.History.{outcome_after}
use Rattle.history.specs.Deeds.{Deed, nothing, opens, closes, locks, unlocks, ends, touches, drops, carries, tells, deed}
use Rattle.history.specs.Held.{same_item, is_among, granting_run, is_by, holding, held_after, is_grant, any_open_by}
use Rattle.history.specs.Demands.{items_of}
use Rattle.words.proofs.Tallies.{tally_less, tally-without, tally_none}
use Rattle.history.proofs.Items.{alike_of, among_tally, NonePass, none_granting, none_run, none_without}

-- ---- none of the process's items is held

-- the process holds nothing
abbrev pub NoneBy : ℕ → List Item → Type 0
NoneBy p g = NonePass (is_by p) g

-- who holds nothing has nothing open
no_open : (p q : ℕ) (name : List ℕ) (g : List Item) → NoneBy p g → q ≡ p → is_among (fresh_open q name 1) g ≡ true → ⊥
unfolding is_by
no_open p q name g w e h =
    let a = among_tally (fresh_open q name 1) g h in
    let b = tally_less (same_item (fresh_open q name 1)) (is_by p) g (λ x d. eq-eqb x.process p (sym (alike_of (fresh_open q name 1) x d).processes ∙ e)) in
    let c = w.none in
    omega arith

none_holding : (p : ℕ) (d : Deed) (g : List Item) → is_grant p d ≡ false → NoneBy p g → NoneBy p (holding d g)
unfolding holding granting_run is_grant is_by ◌if◌else◌
none_holding p nothing g n w = w
none_holding p (opens q f m) g n w = none_granting (is_by p) _ g n w
none_holding p (closes q f) g n w = none_without (is_by p) _ g w
none_holding p (locks q f r m) g n w =
    ⊎_elim
    (λ (e : is_among (fresh_open q f.name 1) g ≡ true). ⊎_elim
    (λ (z : eqb q p ≡ true). absurd (no_open p q f.name g w (eqb-true q p z) e))
    (λ (z : eqb q p ≡ false). rw e (none_run (is_by p) q f.name r m g (λ k. z) w)) (either (eqb q p)))
    (λ (e : is_among (fresh_open q f.name 1) g ≡ false). rw e w) (either (is_among (fresh_open q f.name 1) g))
none_holding p (unlocks q f r m) g n w = none_without (is_by p) _ g w
none_holding p (ends q) g n w = none_without (is_by p) _ g w
none_holding p (touches f r m) g n w = w
none_holding p (drops q f) g n w = none_without (is_by p) _ g w
none_holding p (carries f h) g n w = w
none_holding p tells g n w = w

-- an accepted 143 takes all
none_ended : (p : ℕ) (g : List Item) → NoneBy p (holding (ends p) g)
unfolding holding
none_ended p g = record { none = tally-without (is_by p) (is_by p) g ∙ tally_none _ g (λ x. off (is_by p x)) }
  where
    off : (t : Bool) → (t and not t) ≡ false
    off true = unfold ◌and◌ in refl
    off false = unfold ◌and◌ in refl

none_after : (users : List ℕ) (p : ℕ) (es : List Event) (g : List Item) → any_open_by users p es ≡ false → NoneBy p g → NoneBy p (held_after users es g)
unfolding any_open_by held_after
none_after users p [] g n w = w
none_after users p (e ∷ es) g n w = none_after users p es _ (or_snd _ _ n) (none_holding p (deed users e) g (or_fst _ _ n) w)

-- ---- calls one after the other

module _ (e : Engine) where
  held_append : (users : List ℕ) (before qs rs : List Ask) (s : State) (g : List Item)
      → held_after users (events_of e before (qs ++ rs) s) g
      ≡ held_after users (events_of e (before ++ qs) rs (state_after e before qs s)) (held_after users (events_of e before qs s) g)
  unfolding state_after events_of held_after
  held_append users before [] rs s g = rw (append-nil before) refl
  held_append users before (q ∷ qs) rs s g =
      rw (append_assoc before (q ∷ []) qs)
      at (held_append users (before ++ (q ∷ [])) qs rs (kept (outcome_of (e before) q s)) (holding (deed users (event q (outcome_of (e before) q s).answer)) g))

module _ (kind : Kind) (e : Engine) (g : Begun kind) (qs later : List Ask) (q : Ask) where
  abbrev did : Deed
  did = deed g.users (event q (outcome_after kind e g qs q).answer)

  abbrev then : List Event
  then = events_of e (qs ++ (q ∷ [])) later (kept (outcome_after kind e g qs q))

  items_then : items_of kind g (history_of kind e g (qs ++ (q ∷ later))) ≡ held_after g.users then (holding did (items_of kind g (history_of kind e g qs)))
  unfolding items_of history_of after events_of held_after outcome_after
  items_then = held_append e g.users [] qs (q ∷ later) (first_state kind g) []

  -- an accepted 143 of process p, and no open granted to it later: it holds nothing
  pub none_then : (p : ℕ) → did ≡ ends p → any_open_by g.users p then ≡ false → NoneBy p (items_of kind g (history_of kind e g (qs ++ (q ∷ later))))
  none_then p d none = rw (items_then, d) (none_after g.users p then _ none (none_ended p (items_of kind g (history_of kind e g qs))))

-- a process that holds nothing holds none of any kind
pub kind_by : (k p : ℕ) (g : List Item) → NoneBy p g → tally (is_kind_by k p) g ≡ 0
unfolding is_kind_by is_by
kind_by k p g w = let a = tally_less (is_kind_by k p) (is_by p) g (λ x h. and_snd _ _ h) in let b = w.none in omega arith
