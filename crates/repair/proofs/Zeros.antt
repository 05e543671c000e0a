-- A block number zeroed in a map, on a drive of either kind. Assumes nothing.
use Prim.Native.Nat.{ℕ, zero, suc, ◌+◌, ◌-◌, ◌*◌, ◌≤◌, ◌<◌}
use mathlib.Core.Path.{◌≡◌, refl, sym, ap, ◌∙◌}
use mathlib.Core.List.{List}
use mathlib.Core.Logic.{◌⊎◌, inl, inr, ⊎_elim}
use mathlib.Core.Bool.{true, false}
use lib.Dec.{ltb}
use borrow.Author.Tests.{ltb-true, ltb-false}
use native.Mathlib.Omega.{arith}
use lib.ListN.{length}
use Rattle.words.specs.Bytes.{byte, put, le}
use Rattle.words.proofs.Tests.{either}
use Rattle.words.proofs.Bytes.{put_in, put_out}
use Rattle.rules.specs.declared.kind.Kind.{Kind}
use Rattle.rules.specs.declared.kind.Kind.TheVariants.{Small, Large}
use Rattle.rules.specs.Kinds.{numbers, width}
use Rattle.rules.specs.Drive.{map_at, map_number}
use Rattle.rules.proofs.Sizes.{most_some}
use Rattle.soundness.proofs.Numbers.{numbered, number_there, number_else, inside}

-- a map has at most sixteen numbers
pub numbers_few : (kind : Kind) → numbers kind ≤ 16
unfolding numbers
numbers_few (Small u) = omega arith
numbers_few (Large u) = omega arith

-- the number 0 is zeros, in however many bytes
le_zero : (k i : ℕ) → byte (le k 0) i ≡ 0
unfolding le
le_zero zero i = refl
le_zero (suc k) zero = refl
le_zero (suc k) (suc i) = le_zero k i

-- where zeros are put, a byte is as it was or zero
put_zeros : (at : ℕ) (v s : List ℕ) (i : ℕ) → at + length v ≤ length s → ((k : ℕ) → byte v k ≡ 0)
    → (byte (put at v s) i ≡ byte s i) ⊎ (byte (put at v s) i ≡ 0)
put_zeros at v s i fits z =
    ⊎_elim (λ (a : ltb i at ≡ true). inl (put_out at v s fits i (inl (ltb-true i at a))))
    (λ (a : ltb i at ≡ false). ⊎_elim
    (λ (b : ltb i (at + length v) ≡ true).
    let x : at ≤ i = ltb-false i at a in
    let y : i < at + length v = ltb-true i (at + length v) b in
    let j : at + (i - at) ≡ i = omega arith in
    inr (ap (λ (n : ℕ). byte (put at v s) n) (sym j) ∙ put_in at v s fits (i - at) (omega arith) ∙ z (i - at)))
    (λ (b : ltb i (at + length v) ≡ false). inl (put_out at v s fits i (inr (ltb-false i (at + length v) b)))) (either (ltb i (at + length v))))
    (either (ltb i at))

module _ (kind : Kind) (s : List ℕ) (n q : ℕ) (fits : 32 * n + 32 ≤ length s) (short : q < numbers kind) where
  -- a byte of the image is as it was or zero, ..
  pub zeroed_byte : (i : ℕ) → (byte (numbered kind n q 0 s) i ≡ byte s i) ⊎ (byte (numbered kind n q 0 s) i ≡ 0)
  zeroed_byte i = put_zeros (map_at kind n q) (le (width kind) 0) s i (inside kind s n q 0 fits short) (le_zero (width kind))

  -- .. the number is zero, ..
  pub zeroed_here : map_number kind (numbered kind n q 0 s) n q ≡ 0
  zeroed_here = number_there kind s n q 0 fits short (let w = most_some kind in omega arith)

  -- .. and every other is as it was
  pub zeroed_other : (e k : ℕ) → k < numbers kind → ((e ≡ n) × (k ≡ q) → ⊥) → map_number kind (numbered kind n q 0 s) e k ≡ map_number kind s e k
  zeroed_other e k m o = number_else kind s n q 0 e k fits short m o
