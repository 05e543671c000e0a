-- Lists made by a rule. Assumes nothing.
use Rattle.std.specs.Prelude.{ℕ, zero, suc, ◌+◌, Bool, List, [], ◌∷◌, ◌++◌}
use Rattle.words.specs.Tests.{◌if◌else◌}

-- f 0, f 1, .., f (n - 1)
unfoldable pub tab : {A : Type 0} → (ℕ → A) → ℕ → List A
tab f zero = []
tab f (suc n) = f 0 ∷ tab (λ (k : ℕ). f (suc k)) n

-- the lists that f gives of each element, one after the other
unfoldable pub flat : {A : Type 0} → (A → List ℕ) → List A → List ℕ
flat f [] = []
flat f (x ∷ xs) = f x ++ flat f xs

-- the numbers below n that pass a test, rising
unfoldable pub passing : (ℕ → Bool) → ℕ → List ℕ
passing f zero = []
passing f (suc n) = passing f n ++ (n ∷ [] if f n else [])

-- how many of a list pass a test
unfoldable pub tally : {A : Type 0} → (A → Bool) → List A → ℕ
tally t [] = 0
tally t (x ∷ xs) = tally t xs + (1 if t x else 0)

-- those of a list that a test does not take away
unfoldable pub without : {A : Type 0} → (A → Bool) → List A → List A
without away [] = []
without away (x ∷ xs) = without away xs if away x else x ∷ without away xs

-- a step taken at 0, 1, .., n - 1
unfoldable pub turns : {A : Type 0} → (ℕ → A → A) → ℕ → A → A
turns step zero x = x
turns step (suc n) x = step n (turns step n x)
