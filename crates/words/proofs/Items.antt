-- Laws of blocks, of counting and of sums, as loops over bytes and items ask them. Assumes nothing.
use Prim.Native.Nat.{ℕ, zero, suc, ◌+◌, ◌≤◌, ◌<◌}
use mathlib.Core.Path.{◌≡◌, refl, sym, ap, ◌∙◌}
use mathlib.Core.Bool.{Bool, true, false}
use mathlib.Core.List.{List, [], ◌∷◌, ◌++◌, map, append-nil, append_assoc}
use mathlib.Core.Logic.{⊎_elim}
use native.Mathlib.Nat.{le_of_suc-le-suc, not-suc-le-zero}
use native.Mathlib.Numerals.{add-one}
use native.Mathlib.Omega.{arith}
use lib.ListN.{length, get_or, set, take, drop, length-set, length-append}
use lib.Seq.{paste, paste-zero, take_at, length-take-le}
use lib.Dec.{eqb, ltb}
use borrow.Author.Rules.{rules}
use Rattle.std.proofs.lemmas.List.Edits.{paste_more, paste_all}
use borrow.Author.Tests.{eqb-true, eqb-false, lt-ltb, le-ltb, ltb-true, ltb-false}
use Rattle.words.specs.Lists.{flat}
use Rattle.words.specs.Bytes.{put}
use Rattle.words.specs.Tests.{◌if◌else◌, count}
use Rattle.words.proofs.Tests.{either}
use Rattle.words.proofs.Sets.{count_none, count_more, count_ends, not_answer}

-- ---- copying: l is d with the first i bytes of s from a place on

pub record Pasted (d : List ℕ) (at : ℕ) (s l : List ℕ) (i : ℕ) : Type 0 where
  pub long : length l ≡ length d
  pub so : l ≡ paste d at s i

pub pasted_none : (d : List ℕ) (at : ℕ) (s : List ℕ) → Pasted d at s d 0
pasted_none d at s = record { long = refl; so = paste-zero d at s }

pub pasted_more : (d : List ℕ) (at : ℕ) (s l : List ℕ) (i : ℕ) → Pasted d at s l i → at + length s ≤ length d → i < length s
    → Pasted d at s (set l (at + i) (get_or s i 0)) (i + 1)
pasted_more d at s l i p h k = record {
  long = length-set l (at + i) (get_or s i 0) ∙ p.long;
  so = ap (λ (x : List ℕ). set x (at + i) (get_or s i 0)) p.so ∙ paste_more d at s i 0 (omega arith) k;
}

pub pasted_ends : (d : List ℕ) (at : ℕ) (s l : List ℕ) (i : ℕ) → Pasted d at s l i → length s ≤ i → i ≤ length s → l ≡ put at s d
unfolding put
pasted_ends d at s l i p h k = p.so ∙ (let q : i ≡ length s = omega arith in ap (paste d at s) q ∙ paste_all d at s (length s) refl ∙ sym (append_assoc (take at d) s (drop (at + length s) d)))

pub ruleset pastes = (rules, pasted_none, pasted_more, pasted_ends)

-- ---- what stands before the end of bytes that were put

pub take_put : (at : ℕ) (v s : List ℕ) → at + length v ≤ length s → take (at + length v) (put at v s) ≡ take at s ++ v
unfolding put
take_put at v s h =
    let k : length (take at s ++ v) ≡ at + length v = length-append (take at s) v ∙ omega (arith, length-take-le at s (omega arith)) in
    take_at (take at s ++ v) (drop (at + length v) s) (at + length v) k

-- one element more, in blocks
module _ {A : Type 0} (f : A → List ℕ) where
  flat-suc : (i : ℕ) (xs : List A) (d : A) → i < length xs → flat f (take (suc i) xs) ≡ flat f (take i xs) ++ f (get_or xs i d)
  unfolding flat
  flat-suc i [] d h = absurd (not-suc-le-zero h)
  flat-suc zero (x ∷ xs) d h = append-nil (f x)
  flat-suc (suc i) (x ∷ xs) d h =
      ap (λ (t : List ℕ). f x ++ t) (flat-suc i xs d (le_of_suc-le-suc h)) ∙ sym (append_assoc (f x) (flat f (take i xs)) (f (get_or xs i d)))

  pub flat_more : (i : ℕ) (xs : List A) (d : A) → i < length xs → flat f (take (i + 1) xs) ≡ flat f (take i xs) ++ f (get_or xs i d)
  flat_more i xs d h = rw add-one (flat-suc i xs d h)

-- ---- counting what a callee tells

pub count_adds : (f : ℕ → Bool) (i k x : ℕ) (t : Bool) → k ≡ count f i → x ≡ (1 if t else 0) → t ≡ f i → k + x ≡ count f (i + 1)
count_adds f i k x t h g e = count_more f i k x t h e g

pub ruleset adds = (rules, not_answer, count_none, count_adds, count_ends)

-- ---- sums

-- f 0 + f 1 + .. + f (n - 1)
unfoldable pub total : (ℕ → ℕ) → ℕ → ℕ
total f zero = 0
total f (suc n) = total f n + f n

pub total_ext : (f g : ℕ → ℕ) (n : ℕ) → ((i : ℕ) → f i ≡ g i) → total f n ≡ total g n
unfolding total
total_ext f g zero h = refl
total_ext f g (suc n) h = rw (total_ext f g n h, h n)

pub total_both : (f g : ℕ → ℕ) (n : ℕ) → total (λ (i : ℕ). f i + g i) n ≡ total f n + total g n
unfolding total
total_both f g zero = refl
total_both f g (suc n) = omega (arith, total_both f g n)

-- p is one of the numbers below n, or none
pub total_one : (p n : ℕ) → total (λ (i : ℕ). 1 if eqb p i else 0) n ≡ (1 if ltb p n else 0)
unfolding total ◌if◌else◌
total_one p zero = rw (le-ltb p 0 (omega arith))
total_one p (suc n) =
    ⊎_elim
    (λ (e : eqb p n ≡ true).
    let q = eqb-true p n e in
    rw (total_one p n, e, le-ltb p n (omega arith), lt-ltb p (suc n) (omega arith)))
    (λ (e : eqb p n ≡ false). rw (total_one p n, e) (⊎_elim
    (λ (l : ltb p n ≡ true). let k = ltb-true p n l in rw (l, lt-ltb p (suc n) (omega arith)))
    (λ (l : ltb p n ≡ false). let k = ltb-false p n l in rw (l, le-ltb p (suc n) (other p n (eqb-false p n e) k))) (either (ltb p n))))
    (either (eqb p n))
  where
    other : (p n : ℕ) → (p ≡ n → ⊥) → n ≤ p → suc n ≤ p
    other p n h k = ⊎_elim (λ (l : ltb n p ≡ true). let m = ltb-true n p l in omega arith)
        (λ (l : ltb n p ≡ false). let m = ltb-false n p l in absurd (h (omega arith))) (either (ltb n p))

-- ---- a list mapped twice

pub map_ext : {A B : Type 0} (f g : A → B) (xs : List A) → ((x : A) → f x ≡ g x) → map f xs ≡ map g xs
map_ext f g [] h = refl
map_ext f g (x ∷ xs) h = λ i. h x i ∷ map_ext f g xs h i
