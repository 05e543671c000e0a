-- "Order of unlocks" holds of every engine that serves as the rules do. Assumes nothing.
use Prim.Native.Nat.{ℕ}
use mathlib.Core.Path.{◌≡◌, refl, sym, ap, ◌∙◌}
use mathlib.Core.Bool.{true, false}
use mathlib.Core.List.{List, [], ◌∷◌, ◌++◌}
use native.Mathlib.Omega.{arith}
use borrow.Author.Tests.{lt-ltb}
use Rattle.words.specs.Bytes.{are_bytes}
use Rattle.words.specs.Tables.{◌∕◌}
use Rattle.words.proofs.Tests.{and_fst, and_snd}
use Rattle.words.proofs.Sets.{and_both}
use Rattle.rules.specs.declared.kind.Kind.{Kind}
use Rattle.rules.specs.Serves.{Outcome}
use Rattle.rules.specs.Several.{call_run}
use Rattle.rules.specs.Told.{call_told}
use Rattle.unlocking.specs.Unlocks.{Doing, after, locks, unlocks, locks_told, unlocks_told, Commutes, Repeats, GivesBack, holds_some, GivenBack}
use Rattle.unlocking.proofs.Orders.{unlocks_commute, unlock_repeats}
use Rattle.unlocking.proofs.Back.{unlock_gives_back}
use Rattle.unlocking.proofs.All.{locks_plain, unlocks_plain}
use Rattle.history.specs.History.{Ask, State, Engine, is_word, is_possible, is_kept, lent, outcome_of, kept}
use Rattle.history.specs.Demands.{Demand2}
use Rattle.history.specs.Unlocks.{asking, with_function, outcome_next, UnlockOrder}
use Rattle.history.proofs.Lendable.{lendable_bytes, next_kept}

module _ (kind : Kind) where
  -- a call of 42 or 43 is that of the rules, which takes no run
  lock_so : (q : Ask) (s : State) → q.function ≡ 42 → outcome_of (call_run kind) q s ≡ locks kind (asking q) s.list s.image
  unfolding outcome_of
  lock_so q s e = ap (λ (n : ℕ). call_run kind n q.process q.count (lent q s)) e ∙ told
    where
      told : call_run kind 42 q.process q.count (lent q s) ≡ locks kind (asking q) s.list s.image
      told = unfold locks_told call_told in ap (λ (d : Doing). d (asking q) s.list s.image) (locks_plain kind)

  unlock_so : (q : Ask) (s : State) → q.function ≡ 43 → outcome_of (call_run kind) q s ≡ unlocks kind (asking q) s.list s.image
  unfolding outcome_of
  unlock_so q s e = ap (λ (n : ℕ). call_run kind n q.process q.count (lent q s)) e ∙ told
    where
      told : call_run kind 43 q.process q.count (lent q s) ≡ unlocks kind (asking q) s.list s.image
      told = unfold unlocks_told call_told in ap (λ (d : Doing). d (asking q) s.list s.image) (unlocks_plain kind)

module _ (kind : Kind) (e : Engine) (serves : Demand2 kind e) (before : List Ask) (s : State) (h : is_kept s ≡ true) where
  served : (q : Ask) → is_possible q ≡ true → outcome_of (e before) q s ≡ outcome_of (call_run kind) q s
  unfolding Demand2
  served q may = serves before q s may h

  served_next : (u v : Ask) → is_possible u ≡ true → is_possible v ≡ true
      → outcome_next e before u v s ≡ outcome_of (call_run kind) v (kept (outcome_of (call_run kind) u s))
  unfolding Demand2 outcome_next
  served_next u v may can = rw (served u may) (serves (before ++ (u ∷ [])) v (kept (outcome_of (call_run kind) u s)) can (next_kept kind u s may h))

  first_unlock : (u : Ask) → is_possible u ≡ true → u.function ≡ 43 → outcome_of (e before) u s ≡ unlocks kind (asking u) s.list s.image
  first_unlock u may f = served u may ∙ unlock_so kind u s f

  next_unlock : (u v : Ask) → is_possible u ≡ true → is_possible v ≡ true → v.function ≡ 43 → (o : Outcome) → outcome_of (call_run kind) u s ≡ o
      → outcome_next e before u v s ≡ after (unlocks kind) (asking v) o
  next_unlock u v may can f o w =
      served_next u v may can ∙ ap (λ (x : Outcome). outcome_of (call_run kind) v (kept x)) w ∙ unlock_so kind v (kept o) f

  list_bytes : are_bytes s.list ≡ true
  unfolding is_kept
  list_bytes = lendable_bytes s.list (and_fst _ _ h)

-- the same call of 43 can be made too
unlock_possible : (q : Ask) → is_possible q ≡ true → is_possible (with_function 43 q) ≡ true
unfolding is_possible is_word
unlock_possible q may = and_both _ _ (lt-ltb 43 4294967296 (omega arith)) (and_snd _ _ may)

-- such an engine keeps the order of unlocks
pub unlock_order : (kind : Kind) (e : Engine) → Demand2 kind e → UnlockOrder e
unfolding Commutes Repeats GivesBack
unlock_order kind e serves = record {
  commute = λ before u s may h v can f g. rw (
    first_unlock kind e serves before s h u may f,
    next_unlock kind e serves before s h u v may can g _ (unlock_so kind u s f),
    first_unlock kind e serves before s h v can g,
    next_unlock kind e serves before s h v u can may f _ (unlock_so kind v s g),
  ) (unlocks_commute kind (asking u) (asking v) s.list s.image);
  repeated = λ before u s may h f. rw (
    first_unlock kind e serves before s h u may f,
    next_unlock kind e serves before s h u u may may f _ (unlock_so kind u s f),
  ) (unlock_repeats kind (asking u) s.list s.image);
  given_back = λ before q s may h f none ok. back before q s may h f none (served kind e serves before s h q may ∙ lock_so kind q s f) ok;
}
  where
    back : (before : List Ask) (q : Ask) (s : State) → is_possible q ≡ true → is_kept s ≡ true → q.function ≡ 42 → holds_some (asking q) s.list ≡ false
        → outcome_of (e before) q s ≡ locks kind (asking q) s.list s.image → (outcome_of (e before) q s).answer ≡ 0 ∕ 0
        → GivenBack (asking q) s.list s.image (outcome_of (e before) q s) (outcome_next e before q (with_function 43 q) s)
    back before q s may h f none w ok =
        rw (w, next_unlock kind e serves before s h q (with_function 43 q) may (unlock_possible q may) refl _ (lock_so kind q s f))
        (gives (asking q) s.list s.image (list_bytes kind e serves before s h) none (ap (λ (o : Outcome). o.answer) (sym w) ∙ ok))
      where
        gives : GivesBack (locks kind) (unlocks kind)
        gives = unlock_gives_back kind
