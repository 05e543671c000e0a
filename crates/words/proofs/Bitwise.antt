-- Laws of bits. Assumes nothing.
use Prim.Native.Nat.{ℕ, zero, suc, ◌+◌, ◌-◌, ◌*◌, ◌/◌, ◌%◌, ◌^◌, ◌≤◌, ◌<◌}
use mathlib.Core.Path.{◌≡◌, refl, sym, ap, ◌∙◌}
use mathlib.Core.Bool.{Bool, true, false, not}
use mathlib.Core.List.{List}
use mathlib.Core.Logic.{⊎_elim}
use native.Mathlib.Omega.{arith}
use borrow.Author.Rules.{rules}
use borrow.Author.Tests.{eqb-true, eqb-false, eq-eqb, ne_eqb}
use lib.Bits.{bit_and, bit_or, and_high, and_le_l, or_add_and}
use lib.Dec.{eqb}
use lib.ListN.{length, set, replicate, length-set, get_or-replicate}
use lib.Pow.{pow_pos, pow-add, shl-shr, shr-shr}
use lib.Seq.{get_or-set_same, get_or-set_other, set-get_or}
use Rattle.words.specs.Tests.{◌if◌else◌}
use Rattle.words.specs.Bytes.{byte, are_bytes}
use Rattle.words.specs.Bits.{bit_of, set_bit, clear_bit, is_set, is_clear, with_bit, without_bit}
use Rattle.words.proofs.Tests.{either, equal?, any_none}
use Rattle.words.proofs.AreBytes.{byte_small, bytes_set}
use Rattle.words.proofs.Sets.{any_goes, lowest_stops, lowest_ends, count_none, count_adds, count_skips, count_ends}

-- ---- bits of a byte

-- the bits above the lowest are those of the half
pub half : (k x : ℕ) → bit_of (suc k) x ≡ bit_of k (x / 2)
unfolding bit_of
half k x = let q : suc k ≡ 1 + k = omega arith in rw (q, ← shr-shr x 1 k)

even : (x : ℕ) → bit_of 0 x ≡ false → x % 2 ≡ 0
unfolding bit_of
even x h = let m : x / 1 % 2 ≡ 1 → ⊥ = eqb-false _ _ h in omega arith

odd : (x : ℕ) → bit_of 0 x ≡ true → x % 2 ≡ 1
unfolding bit_of
odd x h = let m : x / 1 % 2 ≡ 1 = eqb-true _ _ h in omega arith

half_added : (k x : ℕ) → (x + 2 ^ suc k) / 2 ≡ x / 2 + 2 ^ k
half_added k x = omega arith

-- 2ᵏ added where bit k is clear sets it, ..
added_here : (k x : ℕ) → bit_of k x ≡ false → bit_of k (x + 2 ^ k) ≡ true
unfolding bit_of
added_here zero x h = let m = even x h in let e : (x + 1) / 1 % 2 ≡ 1 = omega arith in eq-eqb _ _ e
added_here (suc k) x h =
    half k (x + 2 ^ suc k) ∙ ap (λ (y : ℕ). bit_of k y) (half_added k x) ∙ added_here k (x / 2) (sym (half k x) ∙ h)

-- .. and leaves the others
added_there : (k j x : ℕ) → (j ≡ k → ⊥) → bit_of k x ≡ false → bit_of j (x + 2 ^ k) ≡ bit_of j x
unfolding bit_of
added_there zero zero x n h = absurd (n refl)
added_there zero (suc j) x n h =
    let m = even x h in
    let e : (x + 1) / 2 ≡ x / 2 = omega arith in half j (x + 1) ∙ ap (λ (y : ℕ). bit_of j y) e ∙ sym (half j x)
added_there (suc k) zero x n h = let e : (x + 2 ^ suc k) / 1 % 2 ≡ x / 1 % 2 = omega arith in ap (λ (y : ℕ). eqb y 1) e
added_there (suc k) (suc j) x n h =
    half j (x + 2 ^ suc k) ∙ ap (λ (y : ℕ). bit_of j y) (half_added k x)
    ∙ added_there k j (x / 2) (λ e. n (ap suc e)) (sym (half k x) ∙ h) ∙ sym (half j x)

-- .. and makes the number no longer than it was
added_short : (k n x : ℕ) → k < n → x < 2 ^ n → bit_of k x ≡ false → x + 2 ^ k < 2 ^ n
added_short k zero x l m h = absurd (omega arith)
added_short zero (suc n) x l m h = let q = even x h in omega arith
added_short (suc k) (suc n) x l m h =
    let q = added_short k n (x / 2) (omega arith) (omega arith) (sym (half k x) ∙ h) in omega arith

-- 2ᵏ taken away where bit k is set, which is no more than there is, clears it, ..
less_fits : (k x : ℕ) → bit_of k x ≡ true → 2 ^ k ≤ x
less_fits zero x h = let m = odd x h in omega arith
less_fits (suc k) x h = let m = less_fits k (x / 2) (sym (half k x) ∙ h) in omega arith

less_here : (k x : ℕ) → bit_of k x ≡ true → bit_of k (x - 2 ^ k) ≡ false
unfolding bit_of
less_here zero x h = let m = odd x h in let e : (x - 1) / 1 % 2 ≡ 0 = omega arith in ne_eqb _ _ (λ (z : (x - 1) / 1 % 2 ≡ 1). omega arith)
less_here (suc k) x h =
    let e : (x - 2 ^ suc k) / 2 ≡ x / 2 - 2 ^ k = omega arith in
    half k (x - 2 ^ suc k) ∙ ap (λ (y : ℕ). bit_of k y) e ∙ less_here k (x / 2) (sym (half k x) ∙ h)

-- .. and leaves the others
less_there : (k j x : ℕ) → (j ≡ k → ⊥) → bit_of k x ≡ true → bit_of j (x - 2 ^ k) ≡ bit_of j x
less_there k j x n h =
    let m = less_fits k x h in
    let e : x - 2 ^ k + 2 ^ k ≡ x = omega arith in
    sym (added_there k j (x - 2 ^ k) n (less_here k x h)) ∙ ap (λ (y : ℕ). bit_of j y) e

-- a bit set, whatever it was
bit_here : (k x : ℕ) → bit_of k (set_bit k x) ≡ true
unfolding set_bit ◌if◌else◌
bit_here k x = ⊎_elim (λ (h : bit_of k x ≡ true). rw h h) (λ (h : bit_of k x ≡ false). rw h (added_here k x h)) (either (bit_of k x))

bit_there : (k j x : ℕ) → (j ≡ k → ⊥) → bit_of j (set_bit k x) ≡ bit_of j x
unfolding set_bit ◌if◌else◌
bit_there k j x n = ⊎_elim (λ (h : bit_of k x ≡ true). rw h) (λ (h : bit_of k x ≡ false). rw h (added_there k j x n h)) (either (bit_of k x))

set_short : (k n x : ℕ) → k < n → x < 2 ^ n → set_bit k x < 2 ^ n
unfolding set_bit ◌if◌else◌
set_short k n x l m =
    ⊎_elim (λ (h : bit_of k x ≡ true). rw h m) (λ (h : bit_of k x ≡ false). rw h (added_short k n x l m h)) (either (bit_of k x))

-- a bit cleared, whatever it was
clear_here : (k x : ℕ) → bit_of k (clear_bit k x) ≡ false
unfolding clear_bit ◌if◌else◌
clear_here k x = ⊎_elim (λ (h : bit_of k x ≡ true). rw h (less_here k x h)) (λ (h : bit_of k x ≡ false). rw h h) (either (bit_of k x))

clear_there : (k j x : ℕ) → (j ≡ k → ⊥) → bit_of j (clear_bit k x) ≡ bit_of j x
unfolding clear_bit ◌if◌else◌
clear_there k j x n =
    ⊎_elim (λ (h : bit_of k x ≡ true). rw h (less_there k j x n h)) (λ (h : bit_of k x ≡ false). rw h) (either (bit_of k x))

clear_short : (k x : ℕ) → clear_bit k x ≤ x
unfolding clear_bit ◌if◌else◌
clear_short k x =
    ⊎_elim (λ (h : bit_of k x ≡ true). rw h (omega arith)) (λ (h : bit_of k x ≡ false). rw h (omega arith)) (either (bit_of k x))

bit_zero : (k : ℕ) → bit_of k 0 ≡ false
unfolding bit_of
bit_zero zero = refl
bit_zero (suc k) = half k 0 ∙ bit_zero k

-- ---- bits of a list of bytes

module _ (s : List ℕ) (b : ℕ) where
  pub length_bit : length (with_bit b s) ≡ length s
  unfolding with_bit
  length_bit = length-set s (b / 8) _

  pub set_here : b < 8 * length s → is_set (with_bit b s) b ≡ true
  unfolding is_set with_bit
  set_here h = rw (get_or-set_same s (b / 8) _ 0 (omega arith)) (bit_here (7 - b % 8) (byte s (b / 8)))

  pub set_there : (c : ℕ) → (c ≡ b → ⊥) → b < 8 * length s → is_set (with_bit b s) c ≡ is_set s c
  unfolding is_set with_bit
  set_there c n h =
      ⊎_elim
      (λ (q : c / 8 ≡ b / 8).
      rw (q, get_or-set_same s (b / 8) (set_bit (7 - b % 8) (byte s (b / 8))) 0 (omega arith))
      (bit_there (7 - b % 8) (7 - c % 8) (byte s (b / 8)) (λ e. n (omega arith))))
      (λ (q : c / 8 ≡ b / 8 → ⊥). rw (get_or-set_other s (b / 8) (c / 8) (set_bit (7 - b % 8) (byte s (b / 8))) 0 q)) (equal? (c / 8) (b / 8))

  -- a bit that is set stays so
  pub set_stays : (c : ℕ) → b < 8 * length s → is_set s c ≡ true → is_set (with_bit b s) c ≡ true
  set_stays c h q =
      ⊎_elim (λ (e : c ≡ b). rw e (set_here h)) (λ (n : c ≡ b → ⊥). set_there c n h ∙ q) (equal? c b)

  -- one that is set already: nothing changes
  pub set_again : is_set s b ≡ true → with_bit b s ≡ s
  unfolding is_set with_bit set_bit ◌if◌else◌
  set_again h = rw h (set-get_or s (b / 8) 0)

  -- bytes with a bit set are bytes
  pub bytes_bit : are_bytes s ≡ true → are_bytes (with_bit b s) ≡ true
  unfolding with_bit
  bytes_bit h = bytes_set s (b / 8) _ (set_short (7 - b % 8) 8 (byte s (b / 8)) (omega arith) (byte_small s (b / 8) h)) h

-- the same of a bit that is cleared
module _ (s : List ℕ) (b : ℕ) where
  -- there are as many bytes
  pub length_clear : length (without_bit b s) ≡ length s
  unfolding without_bit
  length_clear = length-set s (b / 8) _

  -- the bit is clear, ..
  pub cleared_here : b < 8 * length s → is_set (without_bit b s) b ≡ false
  unfolding is_set without_bit
  cleared_here h = rw (get_or-set_same s (b / 8) _ 0 (omega arith)) (clear_here (7 - b % 8) (byte s (b / 8)))

  -- .. every other bit is as it was
  pub cleared_there : (c : ℕ) → (c ≡ b → ⊥) → b < 8 * length s → is_set (without_bit b s) c ≡ is_set s c
  unfolding is_set without_bit
  cleared_there c n h =
      ⊎_elim
      (λ (q : c / 8 ≡ b / 8).
      rw (q, get_or-set_same s (b / 8) (clear_bit (7 - b % 8) (byte s (b / 8))) 0 (omega arith))
      (clear_there (7 - b % 8) (7 - c % 8) (byte s (b / 8)) (λ e. n (omega arith))))
      (λ (q : c / 8 ≡ b / 8 → ⊥). rw (get_or-set_other s (b / 8) (c / 8) (clear_bit (7 - b % 8) (byte s (b / 8))) 0 q)) (equal? (c / 8) (b / 8))

  -- one that is clear already: nothing changes
  pub cleared_again : is_set s b ≡ false → without_bit b s ≡ s
  unfolding is_set without_bit clear_bit ◌if◌else◌
  cleared_again h = rw h (set-get_or s (b / 8) 0)

  -- bytes with a bit cleared are bytes
  pub bytes_clear : are_bytes s ≡ true → are_bytes (without_bit b s) ≡ true
  unfolding without_bit
  bytes_clear h =
      let m = byte_small s (b / 8) h in
      let q = clear_short (7 - b % 8) (byte s (b / 8)) in bytes_set s (b / 8) _ (omega arith) h

pub set_none : (n b : ℕ) → b < 8 * n → is_set (replicate n 0) b ≡ false
unfolding is_set
set_none n b h = rw (get_or-replicate {A = ℕ} n (b / 8) 0 0 (omega arith)) (bit_zero (7 - b % 8))

-- ---- in the form in which the needs ask them

pub weight_is : (j : ℕ) → j < 8 → 128 / 2 ^ j ≡ 2 ^ (7 - j)
weight_is j h =
    let q : 7 - j + j ≡ 7 = omega arith in
    let e : 2 ^ (7 - j) * 2 ^ j ≡ 128 = sym (pow-add 2 (7 - j) j) ∙ ap (λ (n : ℕ). 2 ^ n) q in
    rw e at (shl-shr (2 ^ (7 - j)) j)

and_bit : (k x : ℕ) → bit_and x (2 ^ k) ≡ x / 2 ^ k % 2 * 2 ^ k
and_bit k x = let q : 2 ^ (1 + k) - 2 ^ k ≡ 2 ^ k = omega (arith, pow-add 2 1 k) in rw q at (and_high x 1 k)

-- a byte's bit by its weight w
module _ (k x w : ℕ) (e : w ≡ 2 ^ k) where
  and_set : bit_of k x ≡ true → bit_and x w ≡ w
  unfolding bit_of
  and_set h = let q : x / 2 ^ k % 2 ≡ 1 = eqb-true _ _ h in rw (e, and_bit k x, q) (omega arith)

  and_clear : bit_of k x ≡ false → bit_and x w ≡ 0
  unfolding bit_of
  and_clear h =
      let n : x / 2 ^ k % 2 ≡ 1 → ⊥ = eqb-false _ _ h in
      let q : x / 2 ^ k % 2 ≡ 0 = omega arith in rw (e, and_bit k x, q) (omega arith)

  bit-and : not (eqb (bit_and x w) 0) ≡ bit_of k x
  bit-and =
      ⊎_elim (λ (h : bit_of k x ≡ true). rw (h, and_set h, ne_eqb w 0 (λ z. let p = pow_pos k in omega arith)))
      (λ (h : bit_of k x ≡ false). rw (h, and_clear h)) (either (bit_of k x))

  bit-or : bit_or x w ≡ set_bit k x
  unfolding set_bit ◌if◌else◌
  bit-or =
      let s = or_add_and x w in
      ⊎_elim (λ (h : bit_of k x ≡ true). rw h (let a = and_set h in omega arith))
      (λ (h : bit_of k x ≡ false). rw h (let a = and_clear h in omega arith)) (either (bit_of k x))

  bit_less : x - bit_and x w ≡ clear_bit k x
  unfolding clear_bit ◌if◌else◌
  bit_less =
      ⊎_elim (λ (h : bit_of k x ≡ true). rw h (let a = and_set h in omega arith))
      (λ (h : bit_of k x ≡ false). rw h (let a = and_clear h in omega arith)) (either (bit_of k x))

module _ (s : List ℕ) (b w : ℕ) (e : w ≡ 2 ^ (7 - b % 8)) where
  pub set_and : not (eqb (bit_and (byte s (b / 8)) w) 0) ≡ is_set s b
  unfolding is_set
  set_and = bit-and (7 - b % 8) (byte s (b / 8)) w e

  pub set_or : set s (b / 8) (bit_or (byte s (b / 8)) w) ≡ with_bit b s
  unfolding with_bit
  set_or = ap (λ (x : ℕ). set s (b / 8) x) (bit-or (7 - b % 8) (byte s (b / 8)) w e)

  -- what the byte has in common with the weight, taken away, clears the bit
  pub set_less : set s (b / 8) (byte s (b / 8) - bit_and (byte s (b / 8)) w) ≡ without_bit b s
  unfolding without_bit
  set_less = ap (λ (x : ℕ). set s (b / 8) x) (bit_less (7 - b % 8) (byte s (b / 8)) w e)

-- what two bytes have in common is no more than the first
pub ruleset common = (rules, and_le_l)

module _ (s : List ℕ) (b : ℕ) (t : Bool) (e : t ≡ is_set s b) where
  pub clear_yes : not t ≡ true → is_clear s b ≡ true
  unfolding is_clear
  clear_yes h = ap not (sym e) ∙ h

  pub clear_no : not t ≡ false → is_clear s b ≡ false
  unfolding is_clear
  clear_no h = ap not (sym e) ∙ h

pub ruleset clears = (rules, clear_yes, clear_no, any_none, any_goes, lowest_stops, lowest_ends)

pub ruleset clear_counts = (rules, clear_yes, clear_no, count_none, count_adds, count_skips, count_ends)
