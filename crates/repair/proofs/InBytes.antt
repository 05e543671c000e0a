-- Bytes stay bytes. Assumes nothing.
use Prim.Native.Nat.{ℕ, ◌<◌}
use mathlib.Core.Path.{◌≡◌}
use mathlib.Core.Bool.{true, false}
use mathlib.Core.List.{List}
use mathlib.Core.Logic.{⊎_elim}
use native.Mathlib.Omega.{arith}
use Rattle.words.specs.Tests.{◌if◌else◌}
use Rattle.words.specs.Bytes.{are_bytes, le}
use Rattle.words.proofs.Tests.{either}
use Rattle.words.proofs.Counts.{count_within}
use Rattle.words.proofs.AreBytes.{bytes_set, bytes_put, bytes_le, bytes_turns, bytes_tab}
use Rattle.rules.specs.declared.kind.Kind.{Kind}
use Rattle.rules.specs.Kinds.{numbers, entries, width}
use Rattle.rules.specs.Drive.{is_empty, has_first, map_at}
use Rattle.repair.specs.Salvage.{emptied, must_go, weeded_at, weeded, begun_at, begun, must_zero, zeroed_at, zeroed_to, cleaned_at, cleaned_to, kept, repaired}
use Rattle.repair.specs.Salvage.{is_zeroed, emptied_told, told_of, told_at, report_of}
use Rattle.repair.proofs.Zeros.{numbers_few}

emptied_bytes : (e : ℕ) (s : List ℕ) → are_bytes s ≡ true → are_bytes (emptied e s) ≡ true
unfolding emptied
emptied_bytes e s h = bytes_set s _ 229 (omega arith) h

module _ (kind : Kind) where
  zeroed_bytes : (e k : ℕ) (s : List ℕ) → are_bytes s ≡ true → are_bytes (zeroed_at kind e k s) ≡ true
  unfolding zeroed_at ◌if◌else◌
  zeroed_bytes e k s h =
      ⊎_elim (λ (q : must_zero kind s e k ≡ true). rw q (bytes_put (map_at kind e k) (le (width kind) 0) s (bytes_le (width kind) 0) h))
      (λ (q : must_zero kind s e k ≡ false). rw q h) (either (must_zero kind s e k))

  cleaned_bytes : (e : ℕ) (s : List ℕ) → are_bytes s ≡ true → are_bytes (cleaned_at kind e s) ≡ true
  unfolding cleaned_at zeroed_to ◌if◌else◌
  cleaned_bytes e s h =
      ⊎_elim (λ (q : is_empty s e ≡ true). rw q h)
      (λ (q : is_empty s e ≡ false). rw q (bytes_turns (zeroed_at kind e) (numbers kind) s (zeroed_bytes e) h)) (either (is_empty s e))

  weeded_bytes : (e : ℕ) (s : List ℕ) → are_bytes s ≡ true → are_bytes (weeded_at kind e s) ≡ true
  unfolding weeded_at ◌if◌else◌
  weeded_bytes e s h =
      ⊎_elim (λ (q : must_go kind s e ≡ true). rw q (emptied_bytes e s h)) (λ (q : must_go kind s e ≡ false). rw q h) (either (must_go kind s e))

  begun_bytes : (e : ℕ) (s : List ℕ) → are_bytes s ≡ true → are_bytes (begun_at kind e s) ≡ true
  unfolding begun_at ◌if◌else◌
  begun_bytes e s h =
      ⊎_elim (λ (q : has_first kind s e ≡ true). rw q h) (λ (q : has_first kind s e ≡ false). rw q (emptied_bytes e s h)) (either (has_first kind s e))

  -- An image of bytes is left an image of bytes, ..
  pub repaired_bytes : (s : List ℕ) → are_bytes s ≡ true → are_bytes (repaired kind s) ≡ true
  unfolding repaired cleaned_to kept begun weeded
  repaired_bytes s h =
      let a = bytes_turns (weeded_at kind) (entries kind) s weeded_bytes h in
      let b = bytes_turns (begun_at kind) (entries kind) (weeded kind s) begun_bytes a in
      bytes_turns (cleaned_at kind) (entries kind) (kept kind s) cleaned_bytes b

  emptied_small : (s : List ℕ) (e : ℕ) → emptied_told s e < 256
  unfolding emptied_told ◌if◌else◌
  emptied_small s e = ⊎_elim (λ (q : is_empty s e ≡ true). rw q (omega arith)) (λ (q : is_empty s e ≡ false). rw q (omega arith)) (either (is_empty s e))

  told_small : (was : ℕ) (t : List ℕ) (e : ℕ) → was < 256 → told_of kind was t e < 256
  unfolding told_of ◌if◌else◌
  told_small was t e l =
      ⊎_elim (λ (q : is_empty t e ≡ true). rw q l)
      (λ (q : is_empty t e ≡ false).
      let k = count_within (is_zeroed kind t e) (numbers kind) in let few = numbers_few kind in rw q (omega arith)) (either (is_empty t e))

  -- .. and the report is one of bytes.
  pub report_bytes : (s : List ℕ) → are_bytes (report_of kind s) ≡ true
  unfolding report_of told_at
  report_bytes s =
      bytes_tab (told_at kind s) (entries kind) (λ e l. told_small (emptied_told s e) (cleaned_to kind e (kept kind s)) e (emptied_small s e))
