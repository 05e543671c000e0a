-- Delete empties the file's entries and leaves the image sound. Assumes nothing.
use Prim.Native.Nat.{ℕ, ◌+◌, ◌*◌, ◌≤◌, ◌<◌}
use mathlib.Core.Path.{◌≡◌, refl, sym, ap, ◌∙◌}
use mathlib.Core.Bool.{true, false}
use mathlib.Core.List.{List}
use mathlib.Core.Logic.{inl, inr, ⊎_elim}
use native.Mathlib.Omega.{arith}
use lib.ListN.{length, set, length-set}
use lib.Seq.{get_or-set_same, get_or-set_other}
use borrow.Author.Tests.{eq-eqb}
use Rattle.words.specs.Tests.{◌if◌else◌}
use Rattle.words.specs.Bytes.{byte}
use Rattle.words.proofs.Tests.{either, equal?, never}
use Rattle.rules.specs.declared.kind.Kind.{Kind}
use Rattle.rules.specs.Kinds.{entries}
use Rattle.rules.specs.declared.file.File.{File}
use Rattle.rules.specs.Drive.{is_empty, file_at, is_of}
use Rattle.rules.specs.Effects.{erased_at, erased}
use Rattle.rules.proofs.Sound.{Names, SoundImage, length_long}
use Rattle.rules.proofs.Frames.{Head, Same, head_of, first, empty_same, extent_same, file_same, fields_same, map_same, of_same, of-file, file-of, long_same}
use Rattle.soundness.proofs.Steps.{Stays, moves, fewer}
use Rattle.soundness.proofs.Stored.{stays_same}
use Rattle.soundness.proofs.Changes.{Touches}
use Rattle.soundness.proofs.Turns.{Turned, turned}

module _ (kind : Kind) (s : List ℕ) (f : File) (g : SoundImage kind s) (size : length f.name ≡ 11) where
  erase_same : (t : List ℕ) (e : ℕ) → is_of t f e ≡ false → erased_at f e t ≡ t
  unfolding erased_at ◌if◌else◌
  erase_same t e h = rw h

  erase_it : (t : List ℕ) (e : ℕ) → is_of t f e ≡ true → erased_at f e t ≡ set t (32 * e) 229
  unfolding erased_at ◌if◌else◌
  erase_it t e h = rw h

  erase_long : (t : List ℕ) (e : ℕ) → e < entries kind → length t ≡ length s → length (erased_at f e t) ≡ length t
  erase_long t e l q = ⊎_elim (λ h. ap length (erase_it t e h) ∙ length-set t (32 * e) 229) (λ h. ap length (erase_same t e h)) (either (is_of t f e))

  erase_byte : (t : List ℕ) (e i : ℕ) → (i ≡ 32 * e → ⊥) → byte (erased_at f e t) i ≡ byte t i
  erase_byte t e i n =
      ⊎_elim (λ (h : is_of t f e ≡ true). rw (erase_it t e h) (get_or-set_other t (32 * e) i 229 0 n))
      (λ (h : is_of t f e ≡ false). rw (erase_same t e h) refl) (either (is_of t f e))

  erase_frame : (t : List ℕ) (e d : ℕ) → e < entries kind → length t ≡ length s → (d ≡ e → ⊥) → Same t d (erased_at f e t) d
  erase_frame t e d l q n = record { at = λ k m. erase_byte t e (32 * d + k) (λ (z : 32 * d + k ≡ 32 * e). n (omega arith)) }

  erase_beyond : (t : List ℕ) (e i : ℕ) → e < entries kind → length t ≡ length s → 32 * entries kind ≤ i → byte (erased_at f e t) i ≡ byte t i
  erase_beyond t e i l q k = erase_byte t e i (λ (z : i ≡ 32 * e). absurd (omega arith))

  set_first : (t : List ℕ) (e : ℕ) → e < entries kind → length t ≡ length s → byte (set t (32 * e) 229) (32 * e) ≡ 229
  set_first t e l q = get_or-set_same t (32 * e) 229 0 (let w = length_long kind s g.long in omega arith)

  erase_local : (t : List ℕ) (e : ℕ) → e < entries kind → length t ≡ length s → Same s e t e → Same (erased_at f e s) e (erased_at f e t) e
  erase_local t e l q h =
      let o = of_same s e t e (head_of s e t e h) f in
      ⊎_elim
      (λ (y : is_of s f e ≡ true). rw (erase_it s e y, erase_it t e (o ∙ y)) (record {
        at = λ k m.
            ⊎_elim
            (λ (z : k ≡ 0).
            let a : 32 * e + k ≡ 32 * e = omega arith in
            rw a (set_first t e l q ∙ sym (set_first s e l refl)))
            (λ (z : k ≡ 0 → ⊥).
            let a : (32 * e + k ≡ 32 * e → ⊥) = λ (b : 32 * e + k ≡ 32 * e). z (omega arith) in
            get_or-set_other t (32 * e) (32 * e + k) 229 0 a ∙ h.at k m ∙ sym (get_or-set_other s (32 * e) (32 * e + k) 229 0 a))
            (equal? k 0);
      }))
      (λ (y : is_of s f e ≡ false). rw (erase_same s e y, erase_same t e (o ∙ y)) h) (either (is_of s f e))

  -- Delete has gone over all entries
  pub all-erased : Turned kind (erased_at f) s (entries kind) (erased kind f s)
  unfolding erased
  all-erased = turned kind (erased_at f) s erase_long erase_frame erase_local erase_beyond (entries kind) (omega arith)

  -- the file's entries are empty, ..
  pub erased_gone : (e : ℕ) → e < entries kind → is_of s f e ≡ true → is_empty (erased kind f s) e ≡ true
  unfolding is_empty
  erased_gone e l h =
      let w : Same (set s (32 * e) 229) e (erased kind f s) e = rw (erase_it s e h) at (all-erased.done e l l) in
      eq-eqb _ _ (first (set s (32 * e) 229) e (erased kind f s) e (head_of (set s (32 * e) 229) e (erased kind f s) e w) ∙ set_first s e l refl)

  -- .. the others as they were;
  pub erased_kept : (e : ℕ) → e < entries kind → is_of s f e ≡ false → Same s e (erased kind f s) e
  erased_kept e l h = rw (erase_same s e h) at (all-erased.done e l l)

  still : (e : ℕ) → e < entries kind → is_empty (erased kind f s) e ≡ false → Same s e (erased kind f s) e
  still e l u = ⊎_elim (λ h. absurd (never (erased_gone e l h) u)) (λ h. erased_kept e l h) (either (is_of s f e))

  heads : (e : ℕ) → e < entries kind → is_empty (erased kind f s) e ≡ false → Head s e (erased kind f s) e
  heads e l u = head_of s e (erased kind f s) e (still e l u)

  files : (e : ℕ) → e < entries kind → is_empty (erased kind f s) e ≡ false → file_at (erased kind f s) e ≡ file_at s e
  files e l u = file_same s e (erased kind f s) e (heads e l u)

  -- block numbers stay or go, ..
  pub erased_stays : (e k : ℕ) → Names kind (erased kind f s) e k → Stays kind s (erased kind f s) e k
  erased_stays e k n =
      let w = still e n.entry_there n.entry_used in
      stays_same kind s (erased kind f s) e k (head_of s e (erased kind f s) e w) (map_same kind s (erased kind f s) e k w n.place_there) n

  -- .. the image is sound, ..
  pub erased_sound : SoundImage kind (erased kind f s)
  erased_sound =
      let t = erased kind f s in
      record {
        long = long_same kind s t all-erased.len g.long;
        files = moves kind s t (λ e l u. sym (empty_same s e t e (heads e l u)) ∙ u) (λ e l u q. fields_same kind s e t e (still e l u) q)
            (λ e l u. extent_same s e t e (heads e l u)) (λ d e k l u v q. sym (files d k u) ∙ q ∙ files e l v)
            (λ d e k l u v q.
            let p = ⊎_elim (λ (h : is_of s f d ≡ true).
            absurd (never (erased_gone e l (file-of s f e (sym (empty_same s e t e (heads e l v)) ∙ v) (sym q ∙ of-file s f d size h))) v))
            (λ (h : is_of s f d ≡ false). erased_kept d k h) (either (is_of s f d)) in
            let h = head_of s d t d p in
            (empty_same s d t d h ∙ u, file_same s d t d h ∙ q ∙ sym (files e l v)))
            g.files;
        maps = fewer kind s t all-erased.len erased_stays g.maps;
      }

  -- .. and no other file's entry was touched
  pub erased_touches : Touches kind s (erased kind f s) f f
  erased_touches = record {
    long = all-erased.len;
    entry = λ e l. ⊎_elim
        (λ (h : is_of s f e ≡ true). inr (record { was = λ w. of-file s f e size h; now = λ w. absurd (never (erased_gone e l h) w) }))
        (λ (h : is_of s f e ≡ false). inl (erased_kept e l h)) (either (is_of s f e));
  }
