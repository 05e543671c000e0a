-- Laws of decimal digits: they read back as the number, 20 of them hold 64 bits, and the library writes them. Assumes nothing.
use Rattle.std.proofs.Common.{◌≡◌, refl, sym, ◌∙◌, ℕ, zero, suc, ◌+◌, ◌-◌, ◌*◌, ◌/◌, ◌%◌, ◌^◌, ◌≤◌, ◌<◌, true, false, List, [], ◌∷◌, ◌++◌, length, ⊎_elim, not-suc-le-zero, pow-suc, arith, ltb, ltb-true, ltb-false, lt-ltb, le-ltb, length-append, decimal}
use Rattle.std.specs.Fmt.{digits as digits_in}
use Rattle.std.proofs.lemmas.Fmt.{decimal_by_steps}
use lib.ListN.{get_or-append}
use Rattle.words.specs.Tests.{◌if◌else◌}
use Rattle.words.specs.Bytes.{byte}
use Rattle.words.proofs.Tests.{either, equal?}
use Rattle.script.specs.Text.{digits_below, digits, read_on, read_number}

-- ---- the digits before the last one

unfoldable pub ahead : ℕ → List ℕ
ahead n = [] if ltb n 10 else digits (n / 10)

-- the bound does not matter
same_digits : (j k n : ℕ) → n < j → n < k → digits_below j n ≡ digits_below k n
unfolding digits_below ◌if◌else◌
same_digits zero k n h g = absurd (not-suc-le-zero h)
same_digits (suc j) zero n h g = absurd (not-suc-le-zero g)
same_digits (suc j) (suc k) n h g =
    ⊎_elim (λ (q : ltb n 10 ≡ true). rw q)
    (λ (q : ltb n 10 ≡ false).
    let m = ltb-false n 10 q in
    let e = same_digits j k (n / 10) (omega arith) (omega arith) in
    rw (q, e)) (either (ltb n 10))

pub digits_last : (n : ℕ) → digits n ≡ ahead n ++ ((48 + n % 10) ∷ [])
unfolding digits ahead digits_below ◌if◌else◌
digits_last n =
    ⊎_elim (λ (q : ltb n 10 ≡ true). rw q)
    (λ (q : ltb n 10 ≡ false).
    let m = ltb-false n 10 q in
    let e = same_digits n (suc (n / 10)) (n / 10) (omega arith) (omega arith) in
    rw (q, e)) (either (ltb n 10))

pub ahead_none : (n : ℕ) → n ≤ 9 → ahead n ≡ []
unfolding ahead ◌if◌else◌
ahead_none n h = rw (lt-ltb n 10 (omega arith))

pub ahead_more : (n : ℕ) → 9 < n → ahead n ≡ digits (n / 10)
unfolding ahead ◌if◌else◌
ahead_more n h = rw (le-ltb n 10 (omega arith))

-- ---- read back

read-on : (n : ℕ) (ds : List ℕ) (d : ℕ) → read_on n (ds ++ (d ∷ [])) ≡ 10 * read_on n ds + (d - 48)
unfolding read_on
read-on n [] d = refl
read-on n (x ∷ ds) d = read-on (10 * n + (x - 48)) ds d

-- ---- how many there are

short : (j k n : ℕ) → n < 10 ^ suc j → length (digits_below k n) ≤ suc j
unfolding digits_below ◌if◌else◌
short j zero n h = omega arith
short zero (suc k) n h = rw (lt-ltb n 10 h) (omega arith)
short (suc j) (suc k) n h =
    ⊎_elim (λ (q : ltb n 10 ≡ true). rw q (omega arith))
    (λ (q : ltb n 10 ≡ false).
    let e : n < 10 ^ suc j * 10 = rw pow-suc at h in
    let l = short j k (n / 10) (omega arith) in
    rw (q, length-append) (omega arith)) (either (ltb n 10))

-- with so many the definition computes
enough : (j k n : ℕ) → n < j → n < 10 ^ suc k → digits_below j n ≡ digits_below (suc k) n
unfolding digits_below ◌if◌else◌
enough zero k n g h = absurd (not-suc-le-zero g)
enough (suc j) zero n g h = rw (lt-ltb n 10 h)
enough (suc j) (suc k) n g h =
    ⊎_elim (λ (q : ltb n 10 ≡ true). rw q)
    (λ (q : ltb n 10 ≡ false).
    let m = ltb-false n 10 q in
    let e : n < 10 ^ suc k * 10 = rw pow-suc at h in
    let d = enough j k (n / 10) (omega arith) (omega arith) in
    rw (q, d)) (either (ltb n 10))

pub digits_enough : (n : ℕ) → n < 10 ^ 20 → digits n ≡ digits_below 20 n
unfolding digits
digits_enough n h = enough (suc n) 19 n (omega arith) h

pub digits_short : (n : ℕ) → n ≤ 18446744073709551616 → length (digits n) ≤ 20
unfolding digits
digits_short n h = short 19 (suc n) n (omega arith)

-- ---- the digits read back give the number

read_below : (k n : ℕ) → n < k → read_number (digits_below k n) ≡ n
unfolding digits_below read_number read_on ◌if◌else◌
read_below zero n h = absurd (not-suc-le-zero h)
read_below (suc k) n h =
    ⊎_elim (λ (q : ltb n 10 ≡ true). let m = ltb-true n 10 q in rw q (omega arith))
    (λ (q : ltb n 10 ≡ false).
    let m = ltb-false n 10 q in
    let e = read_below k (n / 10) (omega arith) in
    rw (q, read-on) (omega arith)) (either (ltb n 10))

pub digits_read : (n : ℕ) → read_number (digits n) ≡ n
unfolding digits
digits_read n = read_below (suc n) n (omega arith)

-- ---- no zero stands first, but in "0"

first_below : (k n : ℕ) → n < k → 0 < n → 48 < byte (digits_below k n) 0
unfolding digits_below ◌if◌else◌
first_below zero n h g = absurd (not-suc-le-zero h)
first_below (suc k) n h g =
    ⊎_elim (λ (q : ltb n 10 ≡ true). let m = ltb-true n 10 q in rw q (omega arith))
    (λ (q : ltb n 10 ≡ false).
    let m = ltb-false n 10 q in
    let e = first_below k (n / 10) (omega arith) (omega arith) in
    rw (q, get_or-append (digits_below k (n / 10)) ((48 + n % 10) ∷ []) 0 0 (some k (n / 10) (omega arith))) e) (either (ltb n 10))
  where
    some : (k n : ℕ) → n < k → 0 < length (digits_below k n)
    some zero n h = absurd (not-suc-le-zero h)
    some (suc k) n h = omega (arith, length-append ([] if ltb n 10 else digits_below k (n / 10)) ((48 + n % 10) ∷ []))

pub digits_first : (n : ℕ) → 0 < n → 48 < byte (digits n) 0
unfolding digits
digits_first n h = first_below (suc n) n (omega arith) h

-- ---- the library writes them, up to one number past 64 bits

below : (n : ℕ) → n < 18446744073709551616 → decimal n ≡ digits n
below n h = sym (decimal_by_steps (λ (m : ℕ) (ds : List ℕ). digits m ≡ ds) one more n h)
  where
    one : (n : ℕ) → n < 10 → digits n ≡ (48 + n) ∷ []
    one n h =
        let e : n % 10 ≡ n = omega arith in
        digits_last n ∙ rw (ahead_none n (omega arith), e)

    more : (n : ℕ) (ds : List ℕ) → 10 ≤ n → digits (n / 10) ≡ ds → digits n ≡ ds ++ ((48 + n % 10) ∷ [])
    more n ds h e = digits_last n ∙ rw (ahead_more n (omega arith), e)

past : decimal 18446744073709551616 ≡ digits 18446744073709551616
unfolding digits_in digits_below ◌if◌else◌
past = sym (digits_enough 18446744073709551616 (omega arith))

pub decimal_digits : (n : ℕ) → n ≤ 18446744073709551616 → decimal n ≡ digits n
decimal_digits n h = ⊎_elim (λ (e : n ≡ 18446744073709551616). rw e past) (λ (e : n ≡ 18446744073709551616 → ⊥). below n (omega arith)) (equal? n 18446744073709551616)
