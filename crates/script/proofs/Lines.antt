-- Laws of lines that grow. Assumes nothing.
use Rattle.std.proofs.Common.{◌≡◌, ◌∙◌, ℕ, ◌+◌, ◌≤◌, List, [], ◌∷◌, ◌++◌, append_assoc, length, length-append, arith, decimal}
use Rattle.script.proofs.Digits.{digits_short, decimal_digits}
use Rattle.script.specs.Lines.{field}
use Rattle.script.specs.Text.{digits}

-- a number as the library writes it
pub number_short : (x : ℕ) → x ≤ 18446744073709551616 → length (decimal x) ≤ 20
number_short x h = rw (decimal_digits x h) (digits_short x h)

-- .. and the byte after it
pub number_pushed : (x after : ℕ) (s t u v : List ℕ) → x ≤ 18446744073709551616 → v ≡ decimal x → t ≡ s ++ v → u ≡ t ++ (after ∷ [])
    → (u ≡ s ++ field x after) × (length u ≤ length s + 21)
unfolding field
number_pushed x after s t u v h e p q =
    let d : v ≡ digits x = e ∙ decimal_digits x h in
    let k = digits_short x h in
    let w : u ≡ s ++ (digits x ++ (after ∷ [])) = q ∙ rw (p, d) (append_assoc s (digits x) (after ∷ [])) in
    (w, rw w (omega (arith, length-append s (digits x ++ (after ∷ [])), length-append (digits x) (after ∷ []))))

-- what stands after one another in a line
pub ruleset joined = (append_assoc)
