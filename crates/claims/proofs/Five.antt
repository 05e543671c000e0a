-- An engine of five buffers that serves as the rules do is, lent a vector that agrees, the engine of four. Assumes nothing.
use Prim.Native.Nat.{ℕ, ◌<◌}
use mathlib.Core.Path.{◌≡◌, refl, sym, ap, subst, ◌∙◌}
use mathlib.Core.Bool.{true, false, true≢false}
use mathlib.Core.List.{List, [], ◌∷◌, ◌++◌}
use mathlib.Core.Logic.{⊎_elim}
use native.Mathlib.Omega.{arith}
use Rattle.words.specs.Tests.{◌if◌else◌}
use Rattle.words.proofs.Tests.{either, and_fst, and_snd}
use Rattle.rules.specs.declared.kind.Rule.{Rule}
use Rattle.rules.specs.declared.kind.Rule.TheVariants.{Mpm, Cpm}
use Rattle.rules.specs.declared.kind.Kind.{Kind}
use Rattle.rules.specs.declared.kind.Kind.TheVariants.{Small, Large}
use Rattle.rules.specs.Kinds.{rule_of, same_rule, vector_size}
use Rattle.rules.specs.Locks.{rule_in}
use Rattle.rules.specs.Serves.{Outcome}
use Rattle.rules.specs.Several.{call_run}
use Rattle.rules.specs.Vector.{Five, vector_of, call_five}
use Rattle.rules.proofs.Vector.{vector-long, vector_bytes, five_is_four, five_vector, five_refused}
use Rattle.history.specs.History.{Ask, State, is_lendable, is_possible, are_possible, is_kept, lent, outcome_of, kept, state_after, first_state, after}
use Rattle.history.specs.Demands.{Demand2}
use Rattle.history.proofs.Lendable.{lendable_so, next_kept}
use Rattle.history.proofs.Alike.{first_kept}
use Rattle.history.proofs.Ruled.{first_rule, rule_stays}
use Rattle.claims.specs.Five.{FiveEngine, EachFive, OfRule, five_of, four, beside, beside_after}
use Rattle.claims.specs.Claims.{VectorClaims}

-- the test on two rules
rule_same : (u w : Rule) → same_rule u w ≡ true → u ≡ w
unfolding same_rule
rule_same Mpm Mpm h = refl
rule_same Mpm Cpm h = absurd (true≢false (sym h))
rule_same Cpm Mpm h = absurd (true≢false (sym h))
rule_same Cpm Cpm h = refl

same-rule : (u w : Rule) → u ≡ w → same_rule u w ≡ true
unfolding same_rule
same-rule Mpm w h = rw (← h) refl
same-rule Cpm w h = rw (← h) refl

-- a vector can be lent
vector_lendable : (kind : Kind) (s : List ℕ) → is_lendable (vector_of kind s) ≡ true
vector_lendable kind s = lendable_so _ (vector_bytes kind s) (let k = vector-long kind s in let m = small kind in omega arith)
  where
    small : (k : Kind) → vector_size k < 1024
    small (Small u) = unfold vector_size in omega arith
    small (Large u) = unfold vector_size in omega arith

module _ (kind : Kind) (e : FiveEngine)
    (serves : EachFive (λ (before : List Ask) (q : Ask) (s : State) (v : List ℕ).
    OfRule kind s → five_of e before q s v ≡ call_five kind q.function q.process q.count v (lent q s))) where
  -- lent the vector of the image and a list of the rule: its outcome, and the vector that it leaves
  did_so : (before : List Ask) (q : Ask) (s : State) → is_possible q ≡ true → is_kept s ≡ true → OfRule kind s
      → (five_of e before q s (vector_of kind s.image)).did ≡ call_run kind q.function q.process q.count (lent q s)
  did_so before q s may h u =
      ap (λ (x : Five). x.did) (serves before q s (vector_of kind s.image) may h (vector_lendable kind s.image) u)
      ∙ five_is_four kind q.function q.process q.count (vector_of kind s.image) (lent q s) refl

  -- as an engine of four buffers it serves as the rules do
  pub four_serves : Demand2 kind (four kind e)
  unfolding Demand2 four outcome_of five_of ◌if◌else◌
  four_serves before q s may h =
      ⊎_elim (λ (y : same_rule (rule_in s.list) (rule_of kind) ≡ true). rw y (did_so before q s may h (rule_same _ _ y)))
      (λ (y : same_rule (rule_in s.list) (rule_of kind) ≡ false). rw y refl) (either (same_rule (rule_in s.list) (rule_of kind)))

  -- on a list of the rule, it is the engine of five
  four_is : (before : List Ask) (q : Ask) (s : State) → OfRule kind s
      → outcome_of (four kind e before) q s ≡ (five_of e before q s (vector_of kind s.image)).did
  unfolding four outcome_of five_of ◌if◌else◌
  four_is before q s u = rw (same-rule _ _ u) refl

  agrees_again : (before : List Ask) (q : Ask) (s : State) → is_possible q ≡ true → is_kept s ≡ true → OfRule kind s
      → (five_of e before q s (vector_of kind s.image)).vector ≡ vector_of kind (five_of e before q s (vector_of kind s.image)).did.left.image
  agrees_again before q s may h u =
      ap (λ (x : Five). x.vector) (serves before q s (vector_of kind s.image) may h (vector_lendable kind s.image) u)
      ∙ five_vector kind q.function q.process q.count (vector_of kind s.image) (lent q s) refl
      ∙ ap (λ (o : Outcome). vector_of kind o.left.image) (sym (did_so before q s may h u))

  -- with the vector kept beside, calls leave what the engine of four leaves, and the vector of its image
  runs_beside : (before qs : List Ask) (s : State) → is_kept s ≡ true → OfRule kind s → are_possible qs ≡ true
      → beside_after e before qs (beside s (vector_of kind s.image))
      ≡ beside (state_after (four kind e) before qs s) (vector_of kind (state_after (four kind e) before qs s).image)
  unfolding beside_after state_after are_possible outcome_of
  runs_beside before [] s h u may = refl
  runs_beside before (q ∷ qs) s h u may =
      let one = and_fst _ _ may in
      let now = kept (five_of e before q s (vector_of kind s.image)).did in
      let d = did_so before q s one h u in
      let keeps : is_kept now ≡ true = subst (λ (o : Outcome). is_kept (kept o) ≡ true) (sym d) (next_kept kind q s one h) in
      let rule : OfRule kind now = subst (λ (o : Outcome). OfRule kind (kept o)) (sym d)
      (rule_stays kind q.function q.process q.count (lent q s) ∙ u) in
      ap (λ (v : List ℕ). beside_after e (before ++ (q ∷ [])) qs (beside now v)) (agrees_again before q s one h u)
      ∙ runs_beside (before ++ (q ∷ [])) qs now keeps rule (and_snd _ _ may)
      ∙ ap (λ (o : Outcome). beside (state_after (four kind e) (before ++ (q ∷ [])) qs (kept o))
      (vector_of kind (state_after (four kind e) (before ++ (q ∷ [])) qs (kept o)).image)) (sym (four_is before q s u))

  -- what is claimed of the vector
  pub vector_claims : VectorClaims kind e
  unfolding after
  vector_claims = record {
    agrees_again = agrees_again;
    refused = λ before q s v may h b u r. serves before q s v may h b u ∙ five_refused kind q.function q.process q.count v (lent q s) r;
    history = λ g qs may. runs_beside [] qs (first_state kind g) (first_kept kind g) (first_rule kind g) may;
  }
