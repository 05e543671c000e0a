-- Look shows the same of two sound images exactly where each record has the same bytes, or none, in both. Assumes nothing.
use Prim.Native.Nat.{ℕ, ◌+◌, ◌≤◌}
use mathlib.Core.Path.{◌≡◌, refl, sym, ap, ◌∙◌}
use mathlib.Core.Bool.{true, false}
use mathlib.Core.List.{List, []}
use mathlib.Core.Logic.{⊎_elim}
use native.Mathlib.Omega.{arith}
use lib.ListN.{length}
use lib.Dec.{eqb}
use borrow.Author.Tests.{ne_eqb}
use Rattle.words.specs.Tests.{◌if◌else◌}
use Rattle.words.specs.Bytes.{byte, part}
use Rattle.words.proofs.Tests.{either, equal?}
use Rattle.words.proofs.Bytes.{part_long, part-byte, part_alike}
use Rattle.rules.specs.declared.kind.Kind.{Kind}
use Rattle.rules.specs.declared.file.File.{File}
use Rattle.rules.specs.Drive.{blocks, block_of, file_from, record_at, sound_image}
use Rattle.rules.specs.Look.{may_look, look_block, part_at, look_at, part_from, look}
use Rattle.rules.proofs.Sizes.{entries_some, record_past, record_inside}
use Rattle.rules.proofs.Sound.{sound_length, length_whole, block_within}
use Rattle.packing.proofs.Moved.{Shown}

-- ---- Look by cases

module _ (kind : Kind) (u : ℕ) (name : List ℕ) (r : ℕ) (s : List ℕ) where
  look_off : may_look kind u name s ≡ false → look kind u name r s ≡ []
  unfolding look part_from look_at part_at look_block ◌if◌else◌
  look_off h = rw h refl

  look_none : block_of kind s (file_from u name 0) r ≡ 0 → look kind u name r s ≡ []
  unfolding look part_from look_at part_at look_block ◌if◌else◌
  look_none z =
      ⊎_elim (λ (h : may_look kind u name s ≡ true). rw (h, z) refl) (λ (h : may_look kind u name s ≡ false). rw h refl) (either (may_look kind u name s))

  module _ (g : sound_image kind s ≡ true) (w : block_of kind s (file_from u name 0) r ≡ 0 → ⊥) where
    abbrev at : ℕ
    at = record_at kind (block_of kind s (file_from u name 0) r) r

    fits : at + 128 ≤ length s
    fits =
        let b = block_within kind s (file_from u name 0) r w g in
        let c = record_inside kind (block_of kind s (file_from u name 0) r) (blocks kind s) r b.1 in
        let l = length_whole kind s (sound_length kind s g) in omega arith

    look_some : may_look kind u name s ≡ true → look kind u name r s ≡ part at 128 s
    unfolding look part_from look_at part_at look_block ◌if◌else◌
    look_some h =
        let b = block_within kind s (file_from u name 0) r w g in
        let c = record_past kind (block_of kind s (file_from u name 0) r) r b.0 in
        let e = entries_some kind in
        let z : eqb at 0 ≡ false = ne_eqb at 0 (λ (q : at ≡ 0). absurd (omega arith)) in
        rw (h, ne_eqb _ 0 w, z) refl

may_same : (kind : Kind) (u : ℕ) (name s t : List ℕ) → sound_image kind s ≡ true → sound_image kind t ≡ true → may_look kind u name t ≡ may_look kind u name s
unfolding may_look
may_same kind u name s t g h = rw (g, h) refl

module _ (kind : Kind) (u : ℕ) (name : List ℕ) (r : ℕ) (s t : List ℕ) (g : sound_image kind s ≡ true) (h : sound_image kind t ≡ true) where
  abbrev file : File
  file = file_from u name 0

  -- from the record to Look
  pub shown_look : Shown kind s t file r → look kind u name r t ≡ look kind u name r s
  shown_look w =
      ⊎_elim
      (λ (m : may_look kind u name s ≡ true). ⊎_elim
      (λ (z : block_of kind s file r ≡ 0). look_none kind u name r t (w.nothing z) ∙ sym (look_none kind u name r s z))
      (λ (z : block_of kind s file r ≡ 0 → ⊥).
      let y = w.something z in
      look_some kind u name r t h y (may_same kind u name s t g h ∙ m)
      ∙ part_alike s t _ _ 128 (fits kind u name r s g z) (fits kind u name r t h y) (w.bytes z)
      ∙ sym (look_some kind u name r s g z m))
      (equal? (block_of kind s file r) 0))
      (λ (m : may_look kind u name s ≡ false). look_off kind u name r t (may_same kind u name s t g h ∙ m) ∙ sym (look_off kind u name r s m))
      (either (may_look kind u name s))

  -- and back, where Look may look
  module _ (m : may_look kind u name s ≡ true) (e : look kind u name r t ≡ look kind u name r s) where
    abbrev n : may_look kind u name t ≡ true
    n = may_same kind u name s t g h ∙ m

    long : (x : List ℕ) (o : ℕ) → o + 128 ≤ length x → part o 128 x ≡ [] → ⊥
    long x o l q = let a = part_long x o 128 l in let b : length (part o 128 x) ≡ 0 = ap length q in absurd (omega arith)

    something : (block_of kind s file r ≡ 0 → ⊥) → block_of kind t file r ≡ 0 → ⊥
    something z y = long s _ (fits kind u name r s g z) (sym (look_some kind u name r s g z m) ∙ sym e ∙ look_none kind u name r t y)

    pub look_shown : Shown kind s t file r
    look_shown = record {
      nothing = λ z. ⊎_elim (λ (y : block_of kind t file r ≡ 0). y)
          (λ (y : block_of kind t file r ≡ 0 → ⊥).
          absurd (long t _ (fits kind u name r t h y) (sym (look_some kind u name r t h y n) ∙ e ∙ look_none kind u name r s z)))
          (equal? (block_of kind t file r) 0);
      something = something;
      bytes = λ z i l.
          let y = something z in
          sym (part-byte t _ 128 i l)
          ∙ ap (λ (p : List ℕ). byte p i) (sym (look_some kind u name r t h y n) ∙ e ∙ look_some kind u name r s g z m)
          ∙ part-byte s _ 128 i l;
    }
