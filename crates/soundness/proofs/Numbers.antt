-- A block number put into an entry's map: it is there, and the others stay. Assumes nothing.
use Prim.Native.Nat.{ℕ, ◌+◌, ◌*◌, ◌/◌, ◌%◌, ◌≤◌, ◌<◌}
use mathlib.Core.Path.{◌≡◌, sym, ap, ◌∙◌}
use mathlib.Core.Bool.{true, false}
use mathlib.Core.List.{List, [], ◌∷◌}
use mathlib.Core.Logic.{◌⊎◌, inl, inr, ⊎_elim}
use native.Mathlib.Nat.{add-zero}
use native.Mathlib.Omega.{arith}
use lib.ListN.{length}
use lib.Dec.{ltb}
use borrow.Author.Tests.{ltb-true, ltb-false}
use Rattle.words.specs.Bytes.{byte, put, le}
use Rattle.words.proofs.Tests.{either}
use Rattle.words.proofs.Bytes.{put_in, put_out, length-put}
use Rattle.rules.specs.declared.kind.Kind.{Kind}
use Rattle.rules.specs.declared.kind.Kind.TheVariants.{Small, Large}
use Rattle.rules.specs.Kinds.{most, numbers, width}
use Rattle.rules.specs.Drive.{map_at, map_number}
use Rattle.rules.proofs.Sizes.{map_small, map_large}

-- ---- the numbers lean on bytes 16 to 31 alone

-- where bytes 16 to 31 are the same, the numbers are
pub map_later : (kind : Kind) (s t : List ℕ) (e k : ℕ) → k < numbers kind
    → ((i : ℕ) → 16 ≤ i → i < 32 → byte t (32 * e + i) ≡ byte s (32 * e + i)) → map_number kind t e k ≡ map_number kind s e k
unfolding numbers
map_later (Small u) s t e k l h = rw (← map_small u t e k, ← map_small u s e k) (h (16 + k) (omega arith) (omega arith))
map_later (Large u) s t e k l h =
    let p : 32 * e + (16 + 2 * k) + 1 ≡ 32 * e + (16 + 2 * k + 1) = omega arith in
    let a : byte t (32 * e + (16 + 2 * k) + 1) ≡ byte s (32 * e + (16 + 2 * k) + 1) = rw p (h (16 + 2 * k + 1) (omega arith) (omega arith)) in
    rw (← map_large u t e k, ← map_large u s e k, h (16 + 2 * k) (omega arith) (omega arith), a)

-- zeros name no block
pub map_none : (kind : Kind) (v : List ℕ) (k : ℕ) → k < numbers kind → ((i : ℕ) → i < 16 → byte v (16 + i) ≡ 0) → map_number kind v 0 k ≡ 0
unfolding numbers
map_none (Small u) v k l h = let z : 32 * 0 + (16 + k) ≡ 16 + k = omega arith in rw (← map_small u v 0 k, z) (h k l)
map_none (Large u) v k l h =
    let p : 16 + 2 * k + 1 ≡ 16 + (2 * k + 1) = omega arith in
    let a : byte v (16 + 2 * k) ≡ 0 = h (2 * k) (omega arith) in
    let b : byte v (16 + 2 * k + 1) ≡ 0 = rw p (h (2 * k + 1) (omega arith)) in
    let z : 32 * 0 + (16 + 2 * k) ≡ 16 + 2 * k = omega arith in
    rw (← map_large u v 0 k, z) (omega arith)

-- ---- a number put

module _ (at : ℕ) (v s : List ℕ) (fits : at + length v ≤ length s) where
  -- bytes that do not stand in v
  out : (i : ℕ) → (at ≤ i → at + length v ≤ i) → byte (put at v s) i ≡ byte s i
  out i h =
      put_out at v s fits i
      (⊎_elim (λ (x : ltb i at ≡ true). inl (ltb-true i at x)) (λ (x : ltb i at ≡ false). inr (h (ltb-false i at x))) (either (ltb i at)))

  first_in : 0 < length v → byte (put at v s) at ≡ byte v 0
  first_in l = ap (λ (i : ℕ). byte (put at v s) i) (sym (add-zero at)) ∙ put_in at v s fits 0 l

-- the image with number b in place q of entry n
abbrev pub numbered : Kind → ℕ → ℕ → ℕ → List ℕ → List ℕ
numbered kind n q b s = put (map_at kind n q) (le (width kind) b) s

-- the number stands in its place, ..
pub number_there : (kind : Kind) (s : List ℕ) (n q b : ℕ) → 32 * n + 32 ≤ length s → q < numbers kind → b < most kind
    → map_number kind (numbered kind n q b s) n q ≡ b
unfolding numbers most width le
number_there (Small u) s n q b fits l h =
    let z : 1 * q ≡ q = omega arith in
    let t = put (32 * n + (16 + q)) (b % 256 ∷ []) s in
    rw (z, ← map_small u t n q) (first_in (32 * n + (16 + q)) (b % 256 ∷ []) s (omega arith) (omega arith) ∙ omega arith)
number_there (Large u) s n q b fits l h =
    let at = 32 * n + (16 + 2 * q) in
    let v = b % 256 ∷ b / 256 % 256 ∷ [] in
    let x : byte (put at v s) at ≡ b % 256 = first_in at v s (omega arith) (omega arith) in
    let y : byte (put at v s) (at + 1) ≡ b / 256 % 256 = put_in at v s (omega arith) 1 (omega arith) in
    rw (← map_large u (put at v s) n q, x, y) (omega arith)

-- .. in every other place the one that stood there; ..
pub number_else : (kind : Kind) (s : List ℕ) (n q b e k : ℕ) → 32 * n + 32 ≤ length s → q < numbers kind → k < numbers kind
    → ((e ≡ n) × (k ≡ q) → ⊥) → map_number kind (numbered kind n q b s) e k ≡ map_number kind s e k
unfolding numbers width le
number_else (Small u) s n q b e k fits l m c =
    let z : 1 * q ≡ q = omega arith in
    let at = 32 * n + (16 + q) in
    let v = b % 256 ∷ [] in
    let i = 32 * e + (16 + k) in
    let d : i ≡ at → ⊥ = λ (w : i ≡ at). c (omega arith, omega arith) in
    rw (z, ← map_small u (put at v s) e k, ← map_small u s e k) (out at v s (omega arith) i (λ g. omega arith))
number_else (Large u) s n q b e k fits l m c =
    let at = 32 * n + (16 + 2 * q) in
    let v = b % 256 ∷ b / 256 % 256 ∷ [] in
    let i = 32 * e + (16 + 2 * k) in
    let d : i ≡ at → ⊥ = λ (w : i ≡ at).
    let j : 16 * e + k ≡ 16 * n + q = omega arith in
    let f : e ≡ n = omega arith in c (f, omega arith) in
    let x : byte (put at v s) i ≡ byte s i = out at v s (omega arith) i (λ g. omega arith) in
    let y : byte (put at v s) (i + 1) ≡ byte s (i + 1) = out at v s (omega arith) (i + 1) (λ g. omega arith) in
    rw (← map_large u (put at v s) e k, ← map_large u s e k, x, y)

-- it lies in the entry's map
number_fits : (kind : Kind) (n q b : ℕ) → q < numbers kind → map_at kind n q + length (le (width kind) b) ≤ 32 * n + 32
unfolding numbers width le
number_fits (Small u) n q b l = omega arith
number_fits (Large u) n q b l = omega arith

module _ (kind : Kind) (s : List ℕ) (n q b : ℕ) (fits : 32 * n + 32 ≤ length s) (short : q < numbers kind) where
  -- .. so inside the image; ..
  pub inside : map_at kind n q + length (le (width kind) b) ≤ length s
  inside = let w = number_fits kind n q b short in omega arith

  -- .. bytes outside of the entry's map stay, ..
  pub number_out : (i : ℕ) → (i < 32 * n + 16) ⊎ (32 * n + 32 ≤ i) → byte (numbered kind n q b s) i ≡ byte s i
  number_out i c =
      put_out (map_at kind n q) (le (width kind) b) s inside i
      (⊎_elim (λ (h : i < 32 * n + 16). inl (omega arith)) (λ (h : 32 * n + 32 ≤ i). let w = number_fits kind n q b short in inr (omega arith)) c)

  -- .. and so does the length
  pub number_long : length (numbered kind n q b s) ≡ length s
  number_long = length-put (map_at kind n q) (le (width kind) b) s inside
