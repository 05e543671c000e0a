-- An extent is found once for all its records of a run. Assumes nothing.
use Rattle.std.proofs.Common.{ℕ, ◌+◌, ◌-◌, ◌/◌, ◌%◌, ◌≤◌, ◌<◌, ◌≡◌, sym, ap, ◌∙◌, List, arith}
use Rattle.rules.specs.Kinds.{entries}
use Rattle.rules.specs.declared.file.File.{File}
use Rattle.rules.specs.Drive.{entry_of}
use Rattle.directory.specs.Runs.{Known}
use Rattle.rules.specs.declared.kind.Kind.{Kind}

-- before the first record
pub known_none : (kind : Kind) (s : List ℕ) (f : File) (r : ℕ) → Known kind s f r 0 0
known_none kind s f r = record { extent = λ (h : 0 < 0). absurd (omega arith); within = omega arith }

-- after one
pub known_more : (kind : Kind) (s : List ℕ) (f : File) (r i e : ℕ) → e ≡ entry_of kind s f ((r + i) / 128) → e ≤ entries kind → Known kind s f r (i + 1) e
known_more kind s f r i e h l =
    let q : r + (i + 1) - 1 ≡ r + i = omega arith in
    record { extent = λ z. h ∙ ap (λ (x : ℕ). entry_of kind s f (x / 128)) (sym q); within = l }

-- the next is in the same extent
pub known_still : (kind : Kind) (s : List ℕ) (f : File) (r i e : ℕ) → Known kind s f r i e → (i ≡ 0 → ⊥) → ((r + i) % 128 ≡ 0 → ⊥)
    → (e ≡ entry_of kind s f ((r + i) / 128)) × (e ≤ entries kind)
known_still kind s f r i e k n m =
    let q : (r + i - 1) / 128 ≡ (r + i) / 128 = omega arith in
    (k.extent (omega arith) ∙ ap (λ (x : ℕ). entry_of kind s f x) q, k.within)
