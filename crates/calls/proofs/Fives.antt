-- The ends of a call with the vector: refused by the general table, or served. Assumes nothing.
use Prim.Native.Nat.{ℕ}
use mathlib.Core.Path.{◌≡◌, refl, sym, ap, ◌∙◌}
use mathlib.Core.Bool.{Bool, true, false}
use mathlib.Core.List.{List, [], ◌∷◌}
use mathlib.Core.Logic.{⊎_elim}
use native.Mathlib.Omega.{arith}
use Rattle.words.specs.Tests.{◌or◌, ◌if◌else◌}
use Rattle.words.specs.Tables.{◌∕◌, ◌when◌, first_of, any_row}
use Rattle.words.proofs.Tests.{equal?, or_fst}
use Rattle.words.proofs.Tables.{first_then, first_stays, both_zero, row_off, row_rest, zero_none}
use Rattle.words.proofs.Sets.{row_yes, row_no}
use Rattle.rules.specs.declared.kind.Kind.{Kind}
use Rattle.rules.specs.declared.routine.Routine.{Routine}
use Rattle.std.specs.Prelude.{Option, None}
use Rattle.rules.specs.Serves.{Buffers, Outcome, Did, outcome, chosen, function_of, is_unknown}
use Rattle.rules.specs.Codes.{bad_numbers, bad_drive, rows_inside, rows_all}
use Rattle.rules.specs.Vector.{Five, DidFive, besides, rows_vector, vector_of}
use Rattle.rules.proofs.Tables.{nonzero_all}
use Rattle.rules.proofs.Passed.{Passed, passed, drive_good}
use Rattle.rules.proofs.Answers.{chosen_back}
use Rattle.rules.proofs.Refused.{code_some}
use Rattle.rules.specs.declared.code.Refusal.{Refusal}
use Rattle.rules.specs.Refusals.{code_of}
use Rattle.rules.proofs.Ends.{did_as, did_none}
use Rattle.rules.proofs.Vector.{besides_refused, besides_passed, besides_whole, five_passed, nonzero_vector}
use Rattle.calls.specs.Calls.{DidBeside, call_by, five_by, served_by}
use Rattle.calls.specs.Five.{bad_lengths, rows_within, rows_five}
use Rattle.calls.proofs.Passing.{by_refused, by_served}

-- what stands beside an outcome is told by an equation
pub five_as : (x y : Five) (a : ℕ) (left : Buffers) (v : List ℕ) → x ≡ y → DidFive x a left v → DidFive y a left v
five_as x y a left v e d = rw (sym e) d

module _ (kind : Kind) (n p c : ℕ) (v : List ℕ) (b : Buffers) where
  -- the table, once the lengths are good
  pub table_five : (r : Bool) → r ≡ bad_lengths kind n p c b.fcb b.dma b.list v → r ≡ false → (code : ℕ)
      → code ≡ first_of (rows_within kind n b.fcb b.list b.image v) → code ≡ first_of (rows_five kind n p c v b)
  unfolding rows_five rows_vector rows_within bad_lengths
  table_five r e t code h = row_no code (255 ∕ 13) _ _ (sym e ∙ t) h

  -- bad lengths
  pub code_long : (r : Bool) → r ≡ bad_lengths kind n p c b.fcb b.dma b.list v → r ≡ true → 255 ∕ 13 ≡ first_of (rows_five kind n p c v b)
  unfolding rows_five rows_vector bad_lengths
  code_long r e t = row_yes (255 ∕ 13) (255 ∕ 13) _ _ (sym e ∙ t) refl

  -- none of the vector's rows applies: the rows of the call of four buffers come to 255/4 too
  four_rows : first_of (rows_vector kind n p c v b) ≡ 0 → first_of (rows_all kind n p c b) ≡ first_of (255 ∕ 4 when bad_drive n b.fcb ∷ [])
  unfolding rows_vector rows_all rows_inside
  four_rows z =
      let some : (h : ℕ) → 255 ∕ h ≡ 0 → ⊥ = λ h q. omega arith in
      let r₁ = row_rest _ _ _ (some 13) z in
      let r₂ = row_rest _ _ _ (some 1) r₁ in
      let bad : bad_numbers n p c b.fcb b.dma b.list ≡ false = or_fst _ _ (row_off _ _ _ (some 13) z) in
      let image = row_off _ _ _ (some 1) r₁ in
      let list = row_off _ _ _ (some 12) r₂ in
      sym (row_no _ _ _ _ bad (row_no _ _ _ _ image (row_no _ _ _ _ list refl)))

  -- refused by the general table, whatever the outcome of the call of four is where it passes
  module _ (o : Outcome) (so : (first_of (rows_all kind n p c b) ≡ 0 → ⊥) → o ≡ outcome (first_of (rows_all kind n p c b)) b) where
    pub refused_five : (code : ℕ) → code ≡ first_of (rows_five kind n p c v b) → (code ≡ 0 → ⊥)
        → DidFive (besides kind (first_of (rows_vector kind n p c v b)) v b o) code b v
    unfolding rows_five
    refused_five code h y =
        ⊎_elim
        (λ (z : first_of (rows_vector kind n p c v b) ≡ 0).
        let e : code ≡ first_of (rows_all kind n p c b) = h ∙ first_then (rows_vector kind n p c v b) _ z (nonzero_vector kind n p c v b) ∙ sym (four_rows z) in
        let q : o ≡ outcome code b = so (λ k. y (e ∙ k)) ∙ ap (λ (a : ℕ). outcome a b) (sym e) in
        five_as _ _ code b v (sym (besides_passed kind _ v b o z)) (rw q (record {
          outcome_so = did_none code b;
          vector_so = five_passed kind n p c v b z;
        })))
        (λ (z : first_of (rows_vector kind n p c v b) ≡ 0 → ⊥).
        let e : code ≡ first_of (rows_vector kind n p c v b) = h ∙ first_stays (rows_vector kind n p c v b) _ z in
        five_as _ _ code b v (sym (besides_refused kind _ v b o z)) (rw (← e) (record { outcome_so = did_none code b; vector_so = refl })))
        (equal? (first_of (rows_vector kind n p c v b)) 0)

  -- none applies
  pub passed_five : first_of (rows_five kind n p c v b) ≡ 0 → (first_of (rows_vector kind n p c v b) ≡ 0) × (first_of (rows_all kind n p c b) ≡ 0)
  unfolding rows_five
  passed_five h =
      let z = both_zero (rows_vector kind n p c v b) _ (nonzero_vector kind n p c v b) h in
      (z.0, four_rows z.0 ∙ z.1)

  -- .. and the call of four buffers left what it did, and the vector of the image left
  pub passed_did : (o : Outcome) → first_of (rows_vector kind n p c v b) ≡ 0 → (a : ℕ) (left : Buffers) (u : List ℕ) → Did o a left
      → u ≡ vector_of kind left.image → DidFive (besides kind (first_of (rows_vector kind n p c v b)) v b o) a left u
  passed_did o z a left u d w =
      five_as _ _ a left u (sym (besides_passed kind _ v b o z)) (record {
        outcome_so = d;
        vector_so = w ∙ ap (λ (x : Buffers). vector_of kind x.image) d.leaves;
      })

  -- an unknown function
  pub code_other : (r : Option Routine) → r ≡ chosen n → r ≡ None → 255 ∕ 13 ≡ first_of (rows_five kind n p c v b)
  unfolding rows_five rows_vector bad_numbers is_unknown first_of ◌or◌ ◌if◌else◌
  code_other r g u = let h : chosen n ≡ None = sym g ∙ u in rw h

-- ---- what a call that passed the general table may rely on

module _ (kind : Kind) (n p c : ℕ) (v : List ℕ) (b : Buffers) (z : 0 ≡ first_of (rows_five kind n p c v b)) where
  none : (first_of (rows_vector kind n p c v b) ≡ 0) × (first_of (rows_all kind n p c b) ≡ 0)
  none = passed_five kind n p c v b (sym z)

  no_row : any_row (rows_all kind n p c b) ≡ false
  no_row = zero_none (rows_all kind n p c b) (nonzero_all kind n p c b) none.1

  pub let_pass : Passed kind p c b
  let_pass = passed kind n p c b no_row

  pub own_drive : (k : Routine) → n ≡ function_of k → bad_drive (function_of k) b.fcb ≡ false
  own_drive k e = rw e at (drive_good kind n p c b no_row)

  pub own_vector : v ≡ vector_of kind b.image
  own_vector = five_passed kind n p c v b none.0

-- ---- the ends of a call by the fast path and by the plain engine

module _ (kind : Kind) (z : Bool) (n p c : ℕ) (v : List ℕ) (b : Buffers) where
  stopped : (code : ℕ) → code ≡ first_of (rows_five kind n p c v b) → (code ≡ 0 → ⊥) → DidFive (five_by kind z n p c v b) code b v
  unfolding five_by
  stopped code = refused_five kind n p c v b (call_by kind z n p c b) (by_refused kind z n p c b) code

  -- a general refusal
  pub ends_refused : (r : Refusal) (a : ℕ) → code_of r ≡ first_of (rows_five kind n p c v b) → a ≡ code_of r → DidFive (five_by kind z n p c v b) a b v
  ends_refused r a h e = rw e (stopped (code_of r) h (code_some r))

  -- 255/13
  pub ends_unsized : 255 ∕ 13 ≡ first_of (rows_five kind n p c v b) → DidFive (five_by kind z n p c v b) (255 ∕ 13) b v
  ends_unsized h = stopped (255 ∕ 13) h (λ y. omega arith)

  -- the call is served
  pub ends_served : 0 ≡ first_of (rows_five kind n p c v b) → (k : Routine) → n ≡ function_of k → (a : ℕ) (left : Buffers) (u : List ℕ)
      → DidBeside kind (served_by kind z (function_of k) k p c b) a left u → DidFive (five_by kind z n p c v b) a left u
  unfolding five_by
  ends_served y k e a left u d =
      let o = none kind n p c v b y in
      let f : DidBeside kind (served_by kind z n k p c b) a left u = rw e d in
      passed_did kind n p c v b (call_by kind z n p c b) o.0 a left u
      (did_as _ _ a left (sym (by_served kind z n p c b k (ap chosen e ∙ chosen_back k) o.1)) f.did) f.agrees

  -- with the vector of the image: the call of four buffers, and the vector of the image that it left
  pub five_did : (a : ℕ) (left : Buffers) (u : List ℕ) → v ≡ vector_of kind b.image → DidFive (five_by kind z n p c v b) a left u
      → DidBeside kind (call_by kind z n p c b) a left u
  unfolding five_by
  five_did a left u h d =
      let w = five_as _ _ a left u (besides_whole kind n p c v b h (call_by kind z n p c b) (by_refused kind z n p c b)) d in
      record { did = w.outcome_so; agrees = w.vector_so ∙ ap (λ (x : Buffers). vector_of kind x.image) (sym w.outcome_so.leaves) }
