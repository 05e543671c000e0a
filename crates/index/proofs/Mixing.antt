-- The number that is made of a name, byte after byte. Assumes nothing.
use Rattle.std.proofs.Common.{◌≡◌, ℕ, ◌+◌, ◌*◌, ◌≤◌, ◌<◌, List, [], ◌∷◌, refl, ◌∙◌, arith, add-one, rules}
use Rattle.std.proofs.Math.Nat.{mul-le-mul}
use Rattle.words.specs.Tests.{sum_below}
use Rattle.words.specs.Bytes.{byte}
use Rattle.index.specs.Slots.{mix}

-- what each byte counts
abbrev pub weights : List ℕ
weights = 1 ∷ 11 ∷ 121 ∷ 51 ∷ 49 ∷ 27 ∷ 41 ∷ 195 ∷ 97 ∷ 43 ∷ 217 ∷ []

-- the number made of the first k bytes
abbrev pub mix_to : List ℕ → ℕ → ℕ
mix_to n k = sum_below (λ (i : ℕ). byte weights i * byte n i) k

pub mix_none : (n : List ℕ) → 0 ≡ mix_to n 0
unfolding sum_below
mix_none n = refl

pub mix_more : (n : List ℕ) (k x b : ℕ) → x ≡ mix_to n k → b ≡ byte n k → x + byte weights k * b ≡ mix_to n (k + 1)
unfolding sum_below
mix_more n k x b h e = rw (add-one, h, e) refl

pub mix_all : (n : List ℕ) (k x : ℕ) → x ≡ mix_to n k → 11 ≤ k → k ≤ 11 → x ≡ mix n
unfolding sum_below mix
mix_all n k x h l m = let z : k ≡ 11 = omega arith in rw z at h ∙ omega arith

weight_low : (k : ℕ) → k < 11 → byte weights k ≤ 217
weight_low k l = search rules

pub mix_low : (k x b : ℕ) → k < 11 → b < 256 → x ≤ 55335 * k → x + byte weights k * b ≤ 55335 * (k + 1)
mix_low k x b l h g = let w = mul-le-mul {m₁ = b} {m₂ = 255} (weight_low k l) (omega arith) in omega (arith, w)
