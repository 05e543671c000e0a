-- Laws of tables of codes. Assumes nothing.
use Prim.Native.Nat.{ℕ, ◌<◌}
use mathlib.Core.Path.{◌≡◌, refl, sym, ap, ◌∙◌}
use mathlib.Core.Bool.{Bool, true, false, true≢false}
use mathlib.Core.List.{List, [], ◌∷◌, ◌++◌}
use mathlib.Core.Logic.{⊎_elim}
use lib.Dec.{eqb, ltb}
use borrow.Author.Tests.{ltb-true}
use Rattle.words.specs.Tests.{◌and◌, ◌or◌, ◌if◌else◌}
use Rattle.words.specs.Tables.{Row, ◌when◌, first_of, any_row, none_zero, only_if}
use Rattle.words.proofs.Tests.{either, equal?, and_fst, and_snd, or_fst, or_snd}

-- no row applies: the code is 0
pub none_applies : (rows : List Row) → any_row rows ≡ false → first_of rows ≡ 0
unfolding any_row first_of ◌or◌ ◌if◌else◌
none_applies [] h = refl
none_applies (x ∷ xs) h =
    ⊎_elim (λ (e : x.test ≡ true). absurd (true≢false (rw e at h)))
    (λ (e : x.test ≡ false). rw e (none_applies xs (rw e at h))) (either x.test)

-- the first row that applies gives its code
pub first_applies : (before after : List Row) (c : ℕ) → any_row before ≡ false → first_of (before ++ (c when true ∷ after)) ≡ c
unfolding any_row first_of ◌or◌ ◌if◌else◌
first_applies [] after c h = refl
first_applies (x ∷ xs) after c h =
    ⊎_elim (λ (e : x.test ≡ true). absurd (true≢false (rw e at h)))
    (λ (e : x.test ≡ false). rw e (first_applies xs after c (rw e at h))) (either x.test)

-- some row applies: the code is not 0
pub some_applies : (rows : List Row) → none_zero rows ≡ true → any_row rows ≡ true → eqb (first_of rows) 0 ≡ false
unfolding any_row first_of ◌or◌ ◌and◌ ◌if◌else◌ none_zero
some_applies [] r h = absurd (true≢false (sym h))
some_applies (x ∷ xs) r h =
    ⊎_elim (λ (z : eqb x.code 0 ≡ true). absurd (true≢false (sym (rw z at r))))
    (λ (z : eqb x.code 0 ≡ false).
    ⊎_elim (λ (e : x.test ≡ true). rw e z)
    (λ (e : x.test ≡ false). rw e (some_applies xs (rw z at r) (rw e at h))) (either x.test))
    (either (eqb x.code 0))

-- the code is 0: no row applies
pub zero_none : (rows : List Row) → none_zero rows ≡ true → first_of rows ≡ 0 → any_row rows ≡ false
zero_none rows r z =
    ⊎_elim (λ (h : any_row rows ≡ true). absurd (true≢false (sym (ap (λ (n : ℕ). eqb n 0) z) ∙ some_applies rows r h)))
    (λ (h : any_row rows ≡ false). h) (either (any_row rows))

-- no row of two tables applies: none of either, ..
pub any_append : (xs ys : List Row) → any_row (xs ++ ys) ≡ false → (any_row xs ≡ false) × (any_row ys ≡ false)
unfolding any_row ◌or◌
any_append [] ys h = (refl, h)
any_append (x ∷ xs) ys h =
    let a : x.test ≡ false = or_fst x.test (any_row (xs ++ ys)) h in
    let k = any_append xs ys (or_snd x.test (any_row (xs ++ ys)) h) in
    (rw a k.0, k.1)

-- .. of one that is looked at only where a test holds: none of it, where it does
pub any_only : (t : Bool) (rows : List Row) → t ≡ true → any_row (only_if t rows) ≡ false → any_row rows ≡ false
unfolding only_if ◌if◌else◌
any_only t rows e h = rw e at h

-- two tables, one after the other
pub first_then : (xs ys : List Row) → first_of xs ≡ 0 → none_zero xs ≡ true → first_of (xs ++ ys) ≡ first_of ys
unfolding first_of ◌if◌else◌ none_zero ◌and◌
first_then [] ys h r = refl
first_then (x ∷ xs) ys h r =
    ⊎_elim (λ (z : eqb x.code 0 ≡ true). absurd (true≢false (sym (rw z at r))))
    (λ (z : eqb x.code 0 ≡ false).
    ⊎_elim (λ (e : x.test ≡ true). let q : x.code ≡ 0 = rw e at h in absurd (true≢false (sym (ap (λ (n : ℕ). eqb n 0) q) ∙ z)))
    (λ (e : x.test ≡ false). rw e (first_then xs ys (rw e at h) (rw z at r))) (either x.test))
    (either (eqb x.code 0))

pub first_stays : (xs ys : List Row) → (first_of xs ≡ 0 → ⊥) → first_of (xs ++ ys) ≡ first_of xs
unfolding first_of ◌if◌else◌
first_stays [] ys h = absurd (h refl)
first_stays (x ∷ xs) ys h =
    ⊎_elim (λ (e : x.test ≡ true). rw e refl)
    (λ (e : x.test ≡ false). rw e (first_stays xs ys (rw e at h))) (either x.test)

pub both_zero : (xs ys : List Row) → none_zero xs ≡ true → first_of (xs ++ ys) ≡ 0 → (first_of xs ≡ 0) × (first_of ys ≡ 0)
both_zero xs ys r z =
    ⊎_elim (λ (e : first_of xs ≡ 0). (e, sym (first_then xs ys e r) ∙ z))
    (λ (n : first_of xs ≡ 0 → ⊥). absurd (n (sym (first_stays xs ys n) ∙ z))) (equal? (first_of xs) 0)

-- no row applies: the first does not, and none of the rest
module _ (c : ℕ) (t : Bool) (rows : List Row) (n : c ≡ 0 → ⊥) (h : first_of (c when t ∷ rows) ≡ 0) where
  pub row_off : t ≡ false
  unfolding first_of ◌if◌else◌
  row_off = ⊎_elim (λ (e : t ≡ true). absurd (n (rw e at h))) (λ (e : t ≡ false). e) (either t)

  pub row_rest : first_of rows ≡ 0
  unfolding first_of ◌if◌else◌
  row_rest = rw row_off at h

-- ---- that no row has the code 0

pub nonzero_none : none_zero [] ≡ true
unfolding none_zero
nonzero_none = refl

pub nonzero_row : (c : ℕ) (t : Bool) (rows : List Row) → eqb c 0 ≡ false → none_zero rows ≡ true → none_zero (c when t ∷ rows) ≡ true
unfolding none_zero ◌and◌
nonzero_row c t rows e h = rw e h

pub nonzero_only : (t : Bool) (rows : List Row) → none_zero rows ≡ true → none_zero (only_if t rows) ≡ true
unfolding only_if ◌if◌else◌ none_zero
nonzero_only true rows h = h
nonzero_only false rows h = refl

pub nonzero_append : (xs ys : List Row) → none_zero xs ≡ true → none_zero ys ≡ true → none_zero (xs ++ ys) ≡ true
unfolding none_zero ◌and◌
nonzero_append [] ys h k = k
nonzero_append (x ∷ xs) ys h k =
    ⊎_elim (λ (z : eqb x.code 0 ≡ true). absurd (true≢false (sym (rw z at h))))
    (λ (z : eqb x.code 0 ≡ false). rw z (nonzero_append xs ys (rw z at h) k)) (either (eqb x.code 0))

pub ruleset nonzeros = (nonzero_none, nonzero_row, nonzero_only, nonzero_append, refl)

-- ---- that every code is below a bound

unfoldable pub codes_below : ℕ → List Row → Bool
codes_below k [] = true
codes_below k (x ∷ xs) = ltb x.code k and codes_below k xs

pub first_below : (k : ℕ) (rows : List Row) → 0 < k → codes_below k rows ≡ true → first_of rows < k
unfolding codes_below first_of ◌if◌else◌
first_below k [] some h = some
first_below k (x ∷ xs) some h =
    ⊎_elim (λ (e : x.test ≡ true). rw e (ltb-true _ _ (and_fst _ _ h)))
    (λ (e : x.test ≡ false). rw e (first_below k xs some (and_snd _ _ h))) (either x.test)

pub below_none : (k : ℕ) → codes_below k [] ≡ true
unfolding codes_below
below_none k = refl

pub below_row : (k c : ℕ) (t : Bool) (rows : List Row) → ltb c k ≡ true → codes_below k rows ≡ true → codes_below k (c when t ∷ rows) ≡ true
unfolding codes_below ◌and◌
below_row k c t rows h r = rw (h, r)

pub below_only : (k : ℕ) (t : Bool) (rows : List Row) → codes_below k rows ≡ true → codes_below k (only_if t rows) ≡ true
unfolding codes_below only_if ◌if◌else◌
below_only k true rows r = r
below_only k false rows r = refl

pub below_append : (k : ℕ) (xs ys : List Row) → codes_below k xs ≡ true → codes_below k ys ≡ true → codes_below k (xs ++ ys) ≡ true
unfolding codes_below
below_append k [] ys h r = r
below_append k (x ∷ xs) ys h r = below_row k x.code x.test (xs ++ ys) (and_fst _ _ h) (below_append k xs ys (and_snd _ _ h) r)

pub ruleset belows = (below_none, below_row, below_only, below_append, refl)
