-- The laws in the form in which a function's needs ask them, as small rule sets for `search`. Assumes nothing.
use Prim.Native.Nat.{ℕ, ◌+◌, ◌≤◌, ◌<◌}
use mathlib.Core.Path.{◌≡◌, refl, sym, ap, ◌∙◌}
use mathlib.Core.Bool.{Bool, true, false, not}
use mathlib.Core.List.{List, [], ◌∷◌, ◌++◌}
use mathlib.Core.Logic.{⊎_elim}
use native.Mathlib.Numerals.{add-one}
use native.Mathlib.Omega.{arith}
use borrow.Author.Rules.{rules}
use borrow.Author.Tests.{lt-leb, le-leb, lt-ltb, le-ltb, eq-eqb, ne_eqb, not-true, not-false}
use lib.Dec.{eqb, leb, ltb}
use lib.ListN.{length}
use Rattle.words.specs.Tests.{◌and◌, ◌or◌, ◌if◌else◌, all, any, lowest, count}
use Rattle.words.specs.Lists.{tab, turns}
use Rattle.words.specs.Tables.{Row, ◌when◌, first_of, none_zero, only_if}
use Rattle.words.proofs.Tests.{and_false, all_none, all_more, all_fails, any_none, any_skip, any_found, lowest_none, lowest_found, lowest_below, either}
use Rattle.words.proofs.Counts.{count_yes, count_not}
use Rattle.words.proofs.Tables.{first_then, first_stays}
use Rattle.words.proofs.Lists.{filled, filled_turn, filled_all, turns_none, turns_more, turns_ends}

-- ---- what a callee's answer r says of the definition x that its contract cites

-- after `if f(..)`, and after `if !f(..)`
pub is_yes : (r x : Bool) → r ≡ x → r ≡ true → x ≡ true
is_yes r x e t = sym e ∙ t

pub is_no : (r x : Bool) → r ≡ x → r ≡ false → x ≡ false
is_no r x e t = sym e ∙ t

pub not_yes : (r x : Bool) → r ≡ x → not r ≡ false → x ≡ true
not_yes r x e t = sym e ∙ not-false r t

pub not_no : (r x : Bool) → r ≡ x → not r ≡ true → x ≡ false
not_no r x e t = sym e ∙ not-true r t

-- of a number that is compared
pub same_as : (r x y : ℕ) → r ≡ x → r ≡ y → eqb x y ≡ true
same_as r x y e t = eq-eqb x y (sym e ∙ t)

pub not_as : (r x y : ℕ) → r ≡ x → (r ≡ y → ⊥) → eqb x y ≡ false
not_as r x y e t = ne_eqb x y (λ q. t (e ∙ q))

pub test_as : (a r x : ℕ) → r ≡ x → eqb a r ≡ eqb a x
test_as a r x e = rw e

pub less_as : (r x a : ℕ) → r ≡ x → ltb r a ≡ ltb x a
less_as r x a e = rw e

pub most_as : (r x a : ℕ) → r ≡ x → leb r a ≡ leb x a
most_as r x a e = rw e

pub up_to_as : (r x a : ℕ) → r ≡ x → leb a r ≡ leb a x
up_to_as r x a e = rw e

-- handed on, negated
pub not_answer : (r x : Bool) → r ≡ x → not r ≡ not x
not_answer r x e = rw e

-- ---- loops

pub all_stops : (f : ℕ → Bool) (n i : ℕ) → i < n → f i ≡ false → false ≡ all f n
all_stops f n i l e = sym (all_fails f n i l e)

pub all_ends : (f : ℕ → Bool) (n i : ℕ) → all f i ≡ true → n ≤ i → i ≤ n → true ≡ all f n
all_ends f n i h l g = let q : i ≡ n = omega arith in sym (rw q at h)

pub any_goes : (f : ℕ → Bool) (i : ℕ) → any f i ≡ false → f i ≡ false → any f (i + 1) ≡ false
any_goes f i h e = any_skip f i e ∙ h

pub any_stops : (f : ℕ → Bool) (n i : ℕ) → i < n → f i ≡ true → true ≡ any f n
any_stops f n i l e = sym (any_found f n i l e)

pub any_ends : (f : ℕ → Bool) (n i : ℕ) → any f i ≡ false → n ≤ i → i ≤ n → false ≡ any f n
any_ends f n i h l g = let q : i ≡ n = omega arith in sym (rw q at h)

pub lowest_stops : (f : ℕ → Bool) (n i : ℕ) → i < n → any f i ≡ false → f i ≡ true → i ≡ lowest f n
lowest_stops f n i l h e = sym (lowest_found f n i l h e)

pub lowest_ends : (f : ℕ → Bool) (n i : ℕ) → any f i ≡ false → n ≤ i → i ≤ n → i ≡ lowest f n
lowest_ends f n i h l g = let q : i ≡ n = omega arith in q ∙ sym (lowest_none f n (rw q at h))

-- the same where the bound is what a callee answered
pub leb_yes_as : (m n i : ℕ) → m ≡ n → m ≤ i → leb n i ≡ true
leb_yes_as m n i q h = le-leb n i (omega arith)

pub leb_no_as : (m n i : ℕ) → m ≡ n → i < m → leb n i ≡ false
leb_no_as m n i q h = lt-leb n i (omega arith)

pub all_stops_as : (f : ℕ → Bool) (m n i : ℕ) → m ≡ n → i < m → f i ≡ false → false ≡ all f n
all_stops_as f m n i q l e = all_stops f n i (omega arith) e

pub all_ends_as : (f : ℕ → Bool) (m n i : ℕ) → m ≡ n → all f i ≡ true → m ≤ i → i ≤ m → true ≡ all f n
all_ends_as f m n i q h l g = all_ends f n i h (omega arith) (omega arith)

pub lowest_stops_as : (f : ℕ → Bool) (m n i : ℕ) → m ≡ n → i < m → any f i ≡ false → f i ≡ true → i ≡ lowest f n
lowest_stops_as f m n i q l h e = lowest_stops f n i (omega arith) h e

pub lowest_ends_as : (f : ℕ → Bool) (m n i : ℕ) → m ≡ n → any f i ≡ false → m ≤ i → i ≤ m → i ≡ lowest f n
lowest_ends_as f m n i q h l g = lowest_ends f n i h (omega arith) (omega arith)

-- some number passes exactly where the lowest that does is below the bound
pub lowest-any : (f : ℕ → Bool) (n k : ℕ) → k ≡ lowest f n → ltb k n ≡ any f n
lowest-any f n k h =
    ⊎_elim (λ (e : any f n ≡ true). rw (h, e) (lt-ltb _ _ (lowest_below f n e)))
    (λ (e : any f n ≡ false). rw (h, lowest_none f n e, e) (le-ltb n n (omega arith))) (either (any f n))

-- k counted so far, and x, 1 where the next number passes
pub count_none : (f : ℕ → Bool) → 0 ≡ count f 0
unfolding count
count_none f = refl

pub count_more : (f : ℕ → Bool) (i k x : ℕ) (t : Bool) → k ≡ count f i → t ≡ f i → x ≡ (1 if t else 0) → k + x ≡ count f (i + 1)
unfolding count
count_more f i k x t h e g = let q : x ≡ (1 if f i else 0) = g ∙ ap (λ (u : Bool). 1 if u else 0) e in rw (add-one, h, q)

-- the same where the code counts in one arm only
pub count_adds : (f : ℕ → Bool) (i k : ℕ) → k ≡ count f i → f i ≡ true → k + 1 ≡ count f (i + 1)
count_adds f i k h e = rw (add-one i, count_yes f i e, h)

pub count_skips : (f : ℕ → Bool) (i k : ℕ) → k ≡ count f i → f i ≡ false → k ≡ count f (i + 1)
count_skips f i k h e = rw (add-one i, count_not f i e) h

pub count_ends : (f : ℕ → Bool) (n i k : ℕ) → k ≡ count f i → n ≤ i → i ≤ n → k ≡ count f n
count_ends f n i k h l g = let q : i ≡ n = omega arith in rw q at h

pub filled_none : {A : Type 0} (f : ℕ → A) (l : List A) → l ≡ filled f 0 l
unfolding tab
filled_none f l = refl

pub filled_ends : {A : Type 0} (f : ℕ → A) (n i : ℕ) (l₀ l : List A) → length l₀ ≡ n → l ≡ filled f i l₀ → n ≤ i → i ≤ n → l ≡ tab f n
filled_ends f n i l₀ l k h g m = let q : i ≡ n = omega arith in rw q at h ∙ filled_all f n l₀ k

-- ---- choices and joined tests

module _ {A : Type 0} where
  pub if_yes : (t : Bool) (r a b : A) → t ≡ true → r ≡ a → r ≡ (a if t else b)
  unfolding ◌if◌else◌
  if_yes t r a b e h = rw e h

  pub if_no : (t : Bool) (r a b : A) → t ≡ false → r ≡ b → r ≡ (a if t else b)
  unfolding ◌if◌else◌
  if_no t r a b e h = rw e h

pub and_first : (x y : Bool) → x ≡ false → false ≡ (x and y)
unfolding ◌and◌
and_first x y e = rw e

pub and_then : (r x y : Bool) → x ≡ true → r ≡ y → r ≡ (x and y)
unfolding ◌and◌
and_then r x y e h = rw e h

pub or_first : (x y : Bool) → x ≡ true → true ≡ (x or y)
unfolding ◌or◌
or_first x y e = rw e

pub or_then : (r x y : Bool) → x ≡ false → r ≡ y → r ≡ (x or y)
unfolding ◌or◌
or_then r x y e h = rw e h

-- the same as a row's test asks them
pub or_left : (x y : Bool) → x ≡ true → (x or y) ≡ true
unfolding ◌or◌
or_left x y e = rw e

pub or_right : (x y : Bool) → x ≡ false → y ≡ true → (x or y) ≡ true
unfolding ◌or◌
or_right x y e h = rw e h

pub or_none : (x y : Bool) → x ≡ false → y ≡ false → (x or y) ≡ false
unfolding ◌or◌
or_none x y e h = rw e h

pub and_left : (x y : Bool) → x ≡ false → (x and y) ≡ false
unfolding ◌and◌
and_left x y e = rw e

pub and_right : (x y : Bool) → x ≡ true → y ≡ false → (x and y) ≡ false
unfolding ◌and◌
and_right x y e h = rw e h

pub and_last : (x y : Bool) → y ≡ false → (x and y) ≡ false
and_last x y e = rw e (and_false x)

pub and_both : (x y : Bool) → x ≡ true → y ≡ true → (x and y) ≡ true
unfolding ◌and◌
and_both x y e h = rw e h

pub not_of_false : (x : Bool) → x ≡ false → not x ≡ true
not_of_false x e = rw e

pub not_of_true : (x : Bool) → x ≡ true → not x ≡ false
not_of_true x e = rw e

-- ---- rows of a table

pub row_yes : (r c : ℕ) (t : Bool) (rows : List Row) → t ≡ true → r ≡ c → r ≡ first_of (c when t ∷ rows)
unfolding first_of ◌if◌else◌
row_yes r c t rows e h = rw e h

pub row_no : (r c : ℕ) (t : Bool) (rows : List Row) → t ≡ false → r ≡ first_of rows → r ≡ first_of (c when t ∷ rows)
unfolding first_of ◌if◌else◌
row_no r c t rows e h = rw e h

pub row_none : (r : ℕ) → r ≡ 0 → r ≡ first_of []
unfolding first_of
row_none r h = h

-- rows that are looked at only where a test holds
pub only_on : (r : ℕ) (t : Bool) (rows : List Row) → t ≡ true → r ≡ first_of rows → r ≡ first_of (only_if t rows)
unfolding only_if ◌if◌else◌
only_on r t rows e h = rw e h

pub only_off : (r : ℕ) (t : Bool) (rows : List Row) → t ≡ false → r ≡ 0 → r ≡ first_of (only_if t rows)
unfolding only_if first_of ◌if◌else◌
only_off r t rows e h = rw e h

-- a table in two parts: c is the code of the first
pub part_first : (c : ℕ) (xs ys : List Row) → c ≡ first_of xs → (c ≡ 0 → ⊥) → c ≡ first_of (xs ++ ys)
part_first c xs ys e n = e ∙ sym (first_stays xs ys (λ q. n (e ∙ q)))

pub part_then : (c r : ℕ) (xs ys : List Row) → c ≡ first_of xs → c ≡ 0 → none_zero xs ≡ true → r ≡ first_of ys → r ≡ first_of (xs ++ ys)
part_then c r xs ys e z k h = h ∙ sym (first_then xs ys (sym e ∙ z) k)

-- ---- a match on a number

-- in the arm for k, a number is no other number m
pub key_not : (n k m : ℕ) → n ≡ k → eqb k m ≡ false → eqb n m ≡ false
key_not n k m e h = rw e h

-- ---- the sets

pub ruleset tests = (lt-leb, le-leb, lt-ltb, le-ltb, eq-eqb, ne_eqb)

pub ruleset answers = (is_yes, is_no, not_yes, not_no)

pub ruleset alls = (rules, eq-eqb, ne_eqb, answers, all_none, all_more, all_stops, all_ends)

pub ruleset alls_as = (rules, eq-eqb, ne_eqb, answers, all_none, all_more, all_stops_as, all_ends_as)

pub ruleset lowests_as = (rules, answers, any_none, any_goes, lowest_stops_as, lowest_ends_as)

pub ruleset anys = (rules, answers, any_none, any_goes, any_stops, any_ends)

pub ruleset lowests = (rules, answers, any_none, any_goes, lowest_stops, lowest_ends)

pub ruleset counts = (rules, answers, count_none, count_more, count_ends)

pub ruleset fills = (rules, refl, filled_none, filled_turn, filled_ends)

pub turns_ends_as : {A : Type 0} (step : ℕ → A → A) (m n i : ℕ) (x y : A) → m ≡ n → y ≡ turns step i x → m ≤ i → i ≤ m → y ≡ turns step n x
turns_ends_as step m n i x y q h g l = turns_ends step n i x y h (omega arith) (omega arith)

pub ruleset turning_as = (rules, refl, turns_none, turns_more, turns_ends_as)

pub ruleset turning = (rules, refl, turns_none, turns_more, turns_ends)

-- a function that tests one thing after the other
pub ruleset choices = (
  if_yes,
  if_no,
  and_first,
  and_then,
  and_left,
  and_right,
  and_both,
  or_first,
  or_then,
  not_of_false,
  not_of_true,
  not_answer,
  same_as,
  not_as,
  test_as,
  tests,
  answers,
)

-- .. where a byte was made wider, or a bound is another function's
pub ruleset wides = (less_as, most_as, up_to_as, and_first, and_then, or_first, or_then, tests)

-- a table of codes
pub ruleset codes = (
  row_yes,
  row_no,
  row_none,
  only_on,
  only_off,
  or_left,
  or_right,
  or_none,
  not_of_false,
  not_of_true,
  same_as,
  not_as,
  test_as,
  tests,
  answers,
)

-- a match over numbers
pub ruleset keys = (if_yes, if_no, eq-eqb, ne_eqb, key_not, refl)
