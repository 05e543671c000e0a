-- Bytes spelled by their bits: a byte built bit by bit, read back, and lists of bytes that have the same bits. Assumes nothing.
use Prim.Native.Nat.{ℕ, zero, suc, ◌+◌, ◌-◌, ◌*◌, ◌/◌, ◌%◌, ◌^◌, ◌<◌}
use mathlib.Core.Path.{◌≡◌, refl, sym, ap, ◌∙◌}
use mathlib.Core.Bool.{Bool, true, false}
use mathlib.Core.List.{List}
use mathlib.Core.Logic.{⊎_elim}
use native.Mathlib.Omega.{arith}
use borrow.Author.Tests.{eqb-true, eqb-false}
use lib.Dec.{eqb}
use lib.ListN.{length, get_or}
use Rattle.words.specs.Tests.{◌if◌else◌}
use Rattle.words.specs.Lists.{tab}
use Rattle.words.specs.Bytes.{byte, are_bytes}
use Rattle.words.specs.Bits.{bits, bit_of, is_set}
use Rattle.words.proofs.Tests.{either}
use Rattle.words.proofs.Lists.{tab_ext, tab_at, tab_get_d}
use Rattle.words.proofs.AreBytes.{byte_small}
use Rattle.words.proofs.Bitwise.{half}

-- ---- a number built of n bits, the first of them the highest

-- two rules that agree build the same number
pub bits_ext : (f g : ℕ → Bool) (n : ℕ) → ((j : ℕ) → j < n → f j ≡ g j) → bits f n ≡ bits g n
unfolding bits
bits_ext f g zero h = refl
bits_ext f g (suc n) h = rw (bits_ext f g n (λ j l. h j (omega arith)), h n (omega arith))

one_less : (t : Bool) → (1 if t else 0) < 2
unfolding ◌if◌else◌
one_less true = omega arith
one_less false = omega arith

one_is : (t : Bool) → eqb (1 if t else 0) 1 ≡ t
unfolding ◌if◌else◌
one_is true = refl
one_is false = refl

-- it has n bits and no more
pub bits_below : (f : ℕ → Bool) (n : ℕ) → bits f n < 2 ^ n
unfolding bits
bits_below f zero = omega arith
bits_below f (suc n) = let k = bits_below f n in let m = one_less (f n) in omega arith

-- read from the lowest: the k-th is the last but k
last_but : (f : ℕ → Bool) (j k : ℕ) → bit_of k (bits f (suc (j + k))) ≡ f j
unfolding bits
last_but f j zero = unfold bit_of in
    let z : j + 0 ≡ j = omega arith in
    let m = one_less (f j) in
    let e : (2 * bits f j + (1 if f j else 0)) / 1 % 2 ≡ (1 if f j else 0) = omega arith in rw (z, e) (one_is (f j))
last_but f j (suc k) =
    let z : j + suc k ≡ suc (j + k) = omega arith in
    let m = one_less (f (suc (j + k))) in
    let e : (2 * bits f (suc (j + k)) + (1 if f (suc (j + k)) else 0)) / 2 ≡ bits f (suc (j + k)) = omega arith in
    rw z (half k (bits f (suc (suc (j + k)))) ∙ ap (λ (y : ℕ). bit_of k y) e ∙ last_but f j k)

-- read from the highest: each bit is what the rule said
pub bits_at : (f : ℕ → Bool) (n j : ℕ) → j < n → bit_of (n - 1 - j) (bits f n) ≡ f j
bits_at f n j h = let q : suc (j + (n - 1 - j)) ≡ n = omega arith in
    ap (λ (m : ℕ). bit_of (n - 1 - j) (bits f m)) (sym q) ∙ last_but f j (n - 1 - j)

-- two numbers of n bits that have the same bits are equal
pub same_bits : (n x y : ℕ) → x < 2 ^ n → y < 2 ^ n → ((k : ℕ) → k < n → bit_of k x ≡ bit_of k y) → x ≡ y
same_bits zero x y a b h = omega arith
same_bits (suc n) x y a b h =
    let q : x / 2 ≡ y / 2 =
    same_bits n (x / 2) (y / 2) (omega arith) (omega arith) (λ k l. sym (half k x) ∙ h (suc k) (omega arith) ∙ half k y) in
    let r = lowest_same x y (h 0 (omega arith)) in omega arith
  where
    lowest_same : (x y : ℕ) → bit_of 0 x ≡ bit_of 0 y → x % 2 ≡ y % 2
    lowest_same x y e = unfold bit_of in
        ⊎_elim
        (λ (h : eqb (x / 1 % 2) 1 ≡ true).
        let a : x / 1 % 2 ≡ 1 = eqb-true _ _ h in
        let b : y / 1 % 2 ≡ 1 = eqb-true _ _ (sym e ∙ h) in omega arith)
        (λ (h : eqb (x / 1 % 2) 1 ≡ false).
        let a : x / 1 % 2 ≡ 1 → ⊥ = eqb-false _ _ h in
        let b : y / 1 % 2 ≡ 1 → ⊥ = eqb-false _ _ (sym e ∙ h) in omega arith)
        (either (eqb (x / 1 % 2) 1))

-- ---- lists of bytes

-- a list of bytes built bit by bit has the bits that the rule said
pub spelled_at : (f : ℕ → ℕ → Bool) (g : ℕ → ℕ) (n b : ℕ) → ((k : ℕ) → g k ≡ bits (f k) 8) → b < 8 * n → is_set (tab g n) b ≡ f (b / 8) (b % 8)
unfolding is_set
spelled_at f g n b e h =
    ap (λ (x : ℕ). bit_of (7 - b % 8) x) (tab_at g n (b / 8) 0 (omega arith) ∙ e (b / 8)) ∙ bits_at (f (b / 8)) 8 (b % 8) (omega arith)

-- bit j of byte k is one of the list's
pub bit_in : (s : List ℕ) (k j : ℕ) → j < 8 → is_set s (8 * k + (7 - j)) ≡ bit_of j (byte s k)
unfolding is_set
bit_in s k j h =
    let p : (8 * k + (7 - j)) / 8 ≡ k = omega arith in
    let q : 7 - (8 * k + (7 - j)) % 8 ≡ j = omega arith in rw (p, q)

-- bytes of the same number with the same bits are the same bytes
pub same_spelled : (n : ℕ) (s t : List ℕ) → length s ≡ n → length t ≡ n → are_bytes s ≡ true → are_bytes t ≡ true
    → ((b : ℕ) → b < 8 * n → is_set s b ≡ is_set t b) → s ≡ t
same_spelled n s t a c bs bt h =
    sym (tab_get_d s 0 n a)
    ∙ tab_ext (λ (k : ℕ). get_or s k 0) (λ (k : ℕ). get_or t k 0) n
    (λ k l. same_bits 8 (byte s k) (byte t k) (byte_small s k bs) (byte_small t k bt)
    (λ j m. sym (bit_in s k j m) ∙ h (8 * k + (7 - j)) (omega arith) ∙ bit_in t k j m))
    ∙ tab_get_d t 0 n c
