-- Tests, and what is asked of the numbers below a bound. Assumes nothing.
use Rattle.std.specs.Prelude.{ℕ, zero, suc, ◌+◌, Bool, true, false, ltb}

infixr 35 ◌and◌
unfoldable pub ◌and◌ : Bool → Bool → Bool
true and b = b
false and b = false

infixr 30 ◌or◌
unfoldable pub ◌or◌ : Bool → Bool → Bool
true or b = true
false or b = b

-- `x if test else y`
infixr 10 ◌if◌else◌
unfoldable pub ◌if◌else◌ : {A : Type 0} → A → Bool → A → A
x if true else y = x
x if false else y = y

-- f holds at each number below n
unfoldable pub all : (ℕ → Bool) → ℕ → Bool
all f zero = true
all f (suc n) = all f n and f n

-- f holds at some number below n
unfoldable pub any : (ℕ → Bool) → ℕ → Bool
any f zero = false
any f (suc n) = any f n or f n

-- the lowest number below n at which f holds, and n where there is none
unfoldable pub lowest : (ℕ → Bool) → ℕ → ℕ
lowest f zero = 0
lowest f (suc n) = lowest f n if any f n else n if f n else suc n

-- the greatest that g gives of the numbers below n that pass, 0 where none does
unfoldable pub greatest : (ℕ → Bool) → (ℕ → ℕ) → ℕ → ℕ
greatest f g zero = 0
greatest f g (suc n) = g n if f n and ltb (greatest f g n) (g n) else greatest f g n

-- how many numbers below n pass
unfoldable pub count : (ℕ → Bool) → ℕ → ℕ
count f zero = 0
count f (suc n) = count f n + (1 if f n else 0)

-- f 0 + .. + f (n - 1)
unfoldable pub sum_below : (ℕ → ℕ) → ℕ → ℕ
sum_below f zero = 0
sum_below f (suc n) = sum_below f n + f n

-- ---- What only proofs need

-- the lowest number below n at which f holds, and another where there is none
unfoldable pub lowest_or : (ℕ → Bool) → ℕ → ℕ → ℕ
lowest_or f n none = lowest f n if any f n else none
