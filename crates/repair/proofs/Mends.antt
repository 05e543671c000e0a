-- "No byte changes but byte 0 of emptied entries and the zeroed map bytes." Assumes nothing.
use Prim.Native.Nat.{ℕ, ◌+◌, ◌*◌, ◌/◌, ◌%◌, ◌≤◌, ◌<◌}
use mathlib.Core.Path.{◌≡◌, refl, sym, ap, ◌∙◌}
use mathlib.Core.Bool.{true, false}
use mathlib.Core.List.{List}
use mathlib.Core.Logic.{◌⊎◌, inl, inr, ⊎_elim}
use native.Mathlib.Omega.{arith}
use native.Mathlib.Nat.{add-zero}
use lib.Dec.{ltb}
use borrow.Author.Tests.{ltb-true, ltb-false}
use Rattle.words.specs.Bytes.{byte}
use Rattle.words.proofs.Tests.{either, equal?}
use Rattle.rules.specs.declared.kind.Kind.{Kind}
use Rattle.rules.specs.Kinds.{entries}
use Rattle.rules.specs.Drive.{good_length, is_empty}
use Rattle.rules.proofs.Frames.{Same, head_of, empty_same}
use Rattle.repair.specs.Salvage.{kept, repaired}
use Rattle.repair.specs.Mends.{FirstByte, MapByte, Mends}
use Rattle.repair.proofs.Changes.{Gone, Zeroes, gone_empty, zeroes_empty}
use Rattle.repair.proofs.Emptying.{kept_empties}
use Rattle.repair.proofs.Cleaning.{good_long, repaired_zeroes, repaired-length}

-- what byte i of u may be, s having been before
abbrev Stands : Kind → List ℕ → List ℕ → ℕ → Type 0
Stands kind s u i = (byte u i ≡ byte s i) ⊎ (FirstByte kind s u i ⊎ MapByte kind s u i)

-- t is s with entries emptied, u is t with map bytes zeroed: byte k of entry e
module _ (kind : Kind) (s t u : List ℕ) (z : Zeroes kind t u) (e k : ℕ) (l : e < entries kind) (m : k < 32) where
  byte_zeroed : Same s e t e → is_empty t e ≡ false → 16 ≤ k → byte u (32 * e + k) ≡ 0 → Stands kind s u (32 * e + k)
  byte_zeroed a used n y = inr (inr (record {
    entry = e;
    offset = k;
    there = l;
    from = n;
    below = m;
    place = refl;
    was_used = sym (empty_same s e t e (head_of s e t e a)) ∙ used;
    still_used = zeroes_empty kind t u e l z ∙ used;
    now = y;
  }))

  -- of an entry that was not emptied, ..
  byte_kept : Same s e t e → Stands kind s u (32 * e + k)
  byte_kept a =
      ⊎_elim (λ (q : is_empty t e ≡ true). inl ((z.empty e l q).at k m ∙ a.at k m))
      (λ (q : is_empty t e ≡ false). ⊎_elim
      (λ (b : ltb k 16 ≡ true). inl (z.head e k l (ltb-true k 16 b) ∙ a.at k m))
      (λ (b : ltb k 16 ≡ false). ⊎_elim
      (λ (y : byte u (32 * e + k) ≡ byte t (32 * e + k)). inl (y ∙ a.at k m))
      (λ (y : byte u (32 * e + k) ≡ 0). byte_zeroed a q (ltb-false k 16 b) y) (z.bytes (32 * e + k)))
      (either (ltb k 16)))
      (either (is_empty t e))

  -- .. and of one that was
  byte_gone : Gone s t e → Stands kind s u (32 * e + k)
  byte_gone g =
      let w : Same t e u e = z.empty e l (gone_empty kind s t e g) in
      ⊎_elim
      (λ (q : k ≡ 0). inr (inl (record {
        entry = e;
        there = l;
        place = omega arith;
        was_used = g.was;
        now = w.at k m ∙ ap (λ (j : ℕ). byte t (32 * e + j)) q ∙ ap (byte t) (add-zero (32 * e)) ∙ g.now;
      })))
      (λ (q : k ≡ 0 → ⊥). inl (w.at k m ∙ g.rest k (omega arith) m)) (equal? k 0)

-- No byte changes but byte 0 of entries that were in use, to E5h, and map bytes of entries that stay, to 0.
pub repaired_mends : (kind : Kind) (s : List ℕ) → good_length kind s ≡ true → Mends kind s (repaired kind s)
repaired_mends kind s h =
    let t = kept kind s in
    let u = repaired kind s in
    let a = kept_empties kind s (good_long kind s h) in
    let z = repaired_zeroes kind s h in
    record {
      same_length = repaired-length kind s h;
      each_byte = λ i.
          ⊎_elim
          (λ (b : ltb i (32 * entries kind) ≡ true).
          let c : i < 32 * entries kind = ltb-true _ _ b in
          let l : i / 32 < entries kind = omega arith in
          let m : i % 32 < 32 = omega arith in
          let p : 32 * (i / 32) + i % 32 ≡ i = omega arith in
          let r : Stands kind s u (32 * (i / 32) + i % 32) =
          ⊎_elim (byte_kept kind s t u z (i / 32) (i % 32) l m) (byte_gone kind s t u z (i / 32) (i % 32) l m) (a.entry (i / 32) l) in
          rw p at r)
          (λ (b : ltb i (32 * entries kind) ≡ false). let c = ltb-false _ _ b in inl (z.past i c ∙ a.past i c)) (either (ltb i (32 * entries kind)));
    }
