-- The answer for two images: 0 exactly when both are sound and hold the same book, else the first of 1, 2, 3; same book is an equivalence, and a
-- book and its packed form are always accepted. Assumes nothing.
use Prim.Native.Nat.{ℕ, ◌+◌, ◌*◌, ◌/◌}
use mathlib.Core.Path.{◌≡◌, refl, sym, ap, ◌∙◌}
use mathlib.Core.Bool.{true, false}
use mathlib.Core.List.{List}
use mathlib.Core.Logic.{⊎_elim}
use native.Mathlib.Omega.{arith}
use lib.ListN.{length}
use borrow.Author.Tests.{leb-false}
use Rattle.words.specs.Tests.{◌if◌else◌}
use Rattle.words.specs.Lists.{tab}
use Rattle.words.specs.Bytes.{byte}
use Rattle.words.specs.Tables.{first_of}
use Rattle.words.proofs.Tests.{either}
use Rattle.words.proofs.Lists.{tab_ext}
use Rattle.rules.specs.declared.kind.Kind.{Kind}
use Rattle.std.specs.Prelude.{Option, Some, None}
use Rattle.rules.specs.Kinds.{entries}
use Rattle.rules.specs.declared.file.File.{File}
use Rattle.rules.specs.Drive.{sound_image, no_entry, entry_of, name_at}
use Rattle.packing.specs.Packed.{packed}
use Rattle.packing.specs.Same.{high_from, SameBook, same_book, rows_same, same_told}
use Rattle.packing.proofs.Sound.{packed_sound}
use Rattle.packing.proofs.Kept.{look-packed, missing-packed, entry_packed}
use Rattle.packing.proofs.Decides.{missing_is, marks_there, marks_none, same_sym, same_of, same_so}

-- ---- an equivalence

-- A book is the same as itself, ..
pub same_refl : (kind : Kind) (s : List ℕ) → SameBook kind s s
same_refl kind s = record { files = λ f n. refl; marks = λ f n. refl; looks = λ u name r. refl }

-- .. and two that are the same as a third are the same (turned round: same-sym).
pub same_then : (kind : Kind) (s t v : List ℕ) → SameBook kind s t → SameBook kind t v → SameBook kind s v
same_then kind s t v a b = record {
  files = λ f n. b.files f n ∙ a.files f n;
  marks = λ f n. b.marks f n ∙ a.marks f n;
  looks = λ u name r. b.looks u name r ∙ a.looks u name r;
}

-- ---- a book and its packed form

module _ (kind : Kind) (s : List ℕ) (h : sound_image kind s ≡ true) where
  abbrev t : List ℕ
  t = packed kind s

  marks_packed : (f : File) → length f.name ≡ 11 → no_entry kind (entry_of kind s f 0) ≡ false
      → tab (high_from t (name_at (entry_of kind t f 0))) 11 ≡ tab (high_from s (name_at (entry_of kind s f 0))) 11
  marks_packed f n c =
      tab_ext (high_from t (name_at (entry_of kind t f 0))) (high_from s (name_at (entry_of kind s f 0))) 11 (λ k l.
      let a : name_at (entry_of kind t f 0) + k ≡ 32 * entry_of kind t f 0 + (1 + k) = omega arith in
      let b : name_at (entry_of kind s f 0) + k ≡ 32 * entry_of kind s f 0 + (1 + k) = omega arith in
      ap (λ (i : ℕ). byte t i / 128) a
      ∙ ap (λ (x : ℕ). x / 128) (entry_packed kind s h f 0 (1 + k) n (leb-false (entries kind) (entry_of kind s f 0) c) (omega arith))
      ∙ ap (λ (i : ℕ). byte s i / 128) (sym b))

  -- They hold the same book.
  pub same_packed : SameBook kind s (packed kind s)
  same_packed = record {
    files = λ f n. missing_is kind t f ∙ missing-packed kind s h f 0 n ∙ sym (missing_is kind s f);
    marks = λ f n. ⊎_elim
        (λ (c : no_entry kind (entry_of kind s f 0) ≡ true). marks_none kind t f (missing-packed kind s h f 0 n ∙ c) ∙ sym (marks_none kind s f c))
        (λ (c : no_entry kind (entry_of kind s f 0) ≡ false).
        marks_there kind t f (missing-packed kind s h f 0 n ∙ c) ∙ marks_packed f n c ∙ sym (marks_there kind s f c))
        (either (no_entry kind (entry_of kind s f 0)));
    looks = look-packed kind s h;
  }

-- ---- the answer

-- both are sound and hold the same book
pub record Accepted (kind : Kind) (s t : List ℕ) : Type 0 where
  pub first_sound : sound_image kind s ≡ true
  pub second_sound : sound_image kind t ≡ true
  pub same : SameBook kind s t

module _ (kind : Kind) (s t : List ℕ) where
  -- Then the answer is 0.
  pub accepted_so : Accepted kind s t → same_told (Some kind) s t ≡ 0
  unfolding same_told rows_same first_of ◌if◌else◌
  accepted_so w = rw (w.first_sound, w.second_sound, same_so kind s t w.first_sound w.second_sound w.same) refl

  -- 1: the first image is unsound, ..
  pub first_unsound : sound_image kind s ≡ false → same_told (Some kind) s t ≡ 1
  unfolding same_told rows_same first_of ◌if◌else◌
  first_unsound a = rw a refl

  -- .. 2: the second alone is, ..
  pub second_unsound : sound_image kind s ≡ true → sound_image kind t ≡ false → same_told (Some kind) s t ≡ 2
  unfolding same_told rows_same first_of ◌if◌else◌
  second_unsound a b = rw (a, b) refl

  -- .. 3: both are sound, and hold different books.
  pub different : sound_image kind s ≡ true → sound_image kind t ≡ true → (SameBook kind s t → ⊥) → same_told (Some kind) s t ≡ 3
  unfolding same_told rows_same first_of ◌if◌else◌
  different a b n =
      ⊎_elim (λ (c : same_book kind s t ≡ true). absurd (n (same_of kind s t a b c)))
      (λ (c : same_book kind s t ≡ false). rw (a, b, c) refl) (either (same_book kind s t))

-- The answer is 0 only for a known kind, of images that are both sound and hold the same book.
pub accepted_of : (told : Option Kind) (s t : List ℕ) → same_told told s t ≡ 0 → (kind : Kind) × (told ≡ Some kind) × Accepted kind s t
accepted_of (Some kind) s t z =
    ⊎_elim
    (λ (a : sound_image kind s ≡ true). ⊎_elim
    (λ (b : sound_image kind t ≡ true). ⊎_elim
    (λ (c : same_book kind s t ≡ true). (kind, refl, record { first_sound = a; second_sound = b; same = same_of kind s t a b c }))
    (λ (c : same_book kind s t ≡ false). let y : ◌≡◌ {A = ℕ} 3 0 = sym (unlike a b c) ∙ z in absurd (omega arith)) (either (same_book kind s t)))
    (λ (b : sound_image kind t ≡ false). let y : ◌≡◌ {A = ℕ} 2 0 = sym (second_unsound kind s t a b) ∙ z in absurd (omega arith))
    (either (sound_image kind t)))
    (λ (a : sound_image kind s ≡ false). let y : ◌≡◌ {A = ℕ} 1 0 = sym (first_unsound kind s t a) ∙ z in absurd (omega arith))
    (either (sound_image kind s))
  where
    unlike : sound_image kind s ≡ true → sound_image kind t ≡ true → same_book kind s t ≡ false → same_told (Some kind) s t ≡ 3
    unlike a b c = unfold same_told rows_same first_of ◌if◌else◌ in rw (a, b, c) refl
accepted_of None s t z = unfold same_told in absurd (omega arith)

-- A book and its packed form are always accepted, ..
pub packed_accepted : (kind : Kind) (s : List ℕ) → sound_image kind s ≡ true → same_told (Some kind) s (packed kind s) ≡ 0
packed_accepted kind s h = accepted_so kind s (packed kind s) (record { first_sound = h; second_sound = packed_sound kind s h; same = same_packed kind s h })

-- .. in either order.
pub accepted_packed : (kind : Kind) (s : List ℕ) → sound_image kind s ≡ true → same_told (Some kind) (packed kind s) s ≡ 0
accepted_packed kind s h =
    accepted_so kind (packed kind s) s
    (record { first_sound = packed_sound kind s h; second_sound = h; same = same_sym kind s (packed kind s) (same_packed kind s h) })
