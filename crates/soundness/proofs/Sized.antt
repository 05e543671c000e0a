-- The size of a file that 35 tells: what makes it rise, and that nothing but the file's own Delete or Rename makes it fall.
-- Assumes nothing.
use Prim.Native.Nat.{ℕ, ◌+◌, ◌*◌, ◌≤◌, ◌<◌}
use mathlib.Core.Path.{◌≡◌, refl, sym, ap, subst, ◌∙◌}
use mathlib.Core.Bool.{true, false}
use mathlib.Core.List.{List}
use mathlib.Core.Logic.{⊎_elim}
use native.Mathlib.Omega.{arith}
use lib.ListN.{length}
use lib.Dec.{leb}
use borrow.Author.Tests.{leb-true, leb-false, lt-leb, le-leb}
use Rattle.words.specs.Tests.{◌if◌else◌, any}
use Rattle.words.specs.Bytes.{byte}
use Rattle.words.proofs.Tests.{either, equal?, never, and_fst, and_snd, any_found}
use Rattle.words.proofs.Greatest.{greatest_had, is_so}
use Rattle.rules.specs.declared.kind.Kind.{Kind}
use Rattle.rules.specs.declared.file.File.{File}
use Rattle.rules.specs.Kinds.{entries}
use Rattle.rules.specs.Drive.{extent_at, is_of, is_entry, entry_of, highest_extent, look_up, missing}
use Rattle.rules.specs.Effects.{size_of, file_size}
use Rattle.rules.proofs.Sound.{Is, SoundImage, entry_splits, entry_so, found_is}
use Rattle.rules.proofs.Frames.{count_good}
use Rattle.rules.proofs.Highest.{highest_most}
use Rattle.soundness.proofs.Changes.{Grown, Touches}
use Rattle.soundness.proofs.Blocks.{only, found_below, is_grown, kept_forth, is_forth}

-- ---- a file of a sound image

module _ (kind : Kind) (s : List ℕ) (f : File) (g : SoundImage kind s) (named : length f.name ≡ 11) where
  -- an entry of the file at extent x
  pub of_is : (x e : ℕ) → Is s f x e → is_of s f e ≡ true
  of_is x e i = and_fst _ _ (sym (entry_splits s f x e) ∙ entry_so s f x e i)

  -- the entry of the highest extent
  last_is : any (is_of s f) (entries kind) ≡ true
      → (entry_of kind s f (highest_extent kind s f) < entries kind) × Is s f (highest_extent kind s f) (entry_of kind s f (highest_extent kind s f))
  unfolding highest_extent entry_of
  last_is h =
      let k = greatest_had (is_of s f) (extent_at s) (entries kind) h in
      let i : is_entry s f (highest_extent kind s f) k.0 ≡ true = is_so (is_of s f) (extent_at s) (is_entry s f) (entry_splits s f) _ k.0 k.2 k.3 in
      let l : entry_of kind s f (highest_extent kind s f) < entries kind = found_at (highest_extent kind s f) k.0 k.1 i in
      (l, found_is kind s f (highest_extent kind s f) named l)
    where
      found_at : (x e : ℕ) → e < entries kind → is_entry s f x e ≡ true → entry_of kind s f x < entries kind
      found_at x e l h = Rattle.words.proofs.Tests.lowest_below (is_entry s f x) (entries kind) (any_found (is_entry s f x) (entries kind) e l h)

  -- a file that has an entry is not missing, ..
  pub there : (x e : ℕ) → e < entries kind → Is s f x e → entry_of kind s f 0 < entries kind
  there x e l i =
      let b = g.files.begun e l i.used in
      found_below kind s f 0 b.0 b.1 (subst (λ (h : File). Is s h 0 b.0) i.file b.2)

  -- .. and its size is told by the entry of its highest extent
  size-by : entry_of kind s f 0 < entries kind
      → file_size kind s f ≡ 128 * highest_extent kind s f + byte s (32 * entry_of kind s f (highest_extent kind s f) + 15)
  unfolding file_size missing look_up size_of ◌if◌else◌
  size-by l = rw (lt-leb _ _ l) refl

  -- a file that is missing has size 0
  pub size_none : entries kind ≤ entry_of kind s f 0 → file_size kind s f ≡ 0
  unfolding file_size missing look_up ◌if◌else◌
  size_none l = rw (le-leb _ _ l) refl

  -- the size is at least what any extent of the file asks
  pub size_least : (x e : ℕ) → e < entries kind → Is s f x e → 128 * x + byte s (32 * e + 15) ≤ file_size kind s f
  size_least x e l i =
      let o = of_is x e i in
      let h = last_is (any_found (is_of s f) (entries kind) e l o) in
      let most : x ≤ highest_extent kind s f = rw i.extent at (highest_most kind s f e l o) in
      let few = count_good kind s e (g.files.fields e l i.used) in
      rw (size-by (there x e l i)) (⊎_elim
      (λ (q : x ≡ highest_extent kind s f).
      let one : e ≡ entry_of kind s f (highest_extent kind s f) =
      only kind s f (highest_extent kind s f) e _ g.files l h.0 (subst (λ (y : ℕ). Is s f y e) q i) h.1 in
      let two : byte s (32 * e + 15) ≡ byte s (32 * entry_of kind s f (highest_extent kind s f) + 15) = ap (λ (d : ℕ). byte s (32 * d + 15)) one in
      omega arith)
      (λ (q : x ≡ highest_extent kind s f → ⊥). omega (arith, q))
      (equal? x (highest_extent kind s f)))

  -- and some extent asks just that
  pub size_had : entry_of kind s f 0 < entries kind → (x : ℕ) × (e : ℕ) × (e < entries kind) × Is s f x e × (file_size kind s f ≡ 128 * x + byte s (32 * e + 15))
  size_had l =
      let i = found_is kind s f 0 named l in
      let h = last_is (any_found (is_of s f) (entries kind) _ l (of_is 0 _ i)) in
      (highest_extent kind s f, entry_of kind s f (highest_extent kind s f), h.0, h.1, size-by l)

-- ---- two images

-- where each extent of the one file is one of the other, whose count is no less, its size is no less
pub size_rises : (kind : Kind) (s t : List ℕ) (f h : File) → SoundImage kind s → SoundImage kind t → length f.name ≡ 11 → length h.name ≡ 11
    → ((x e : ℕ) → e < entries kind → Is s f x e → Is t h x e × (byte s (32 * e + 15) ≤ byte t (32 * e + 15)))
    → file_size kind s f ≤ file_size kind t h
size_rises kind s t f h g k n m w =
    ⊎_elim
    (λ (q : leb (entries kind) (entry_of kind s f 0) ≡ true). let z = size_none kind s f g n (leb-true _ _ q) in omega arith)
    (λ (q : leb (entries kind) (entry_of kind s f 0) ≡ false).
    let a = size_had kind s f g n (leb-false _ _ q) in
    let b = w a.0 a.1 a.2 a.3 in
    let c = size_least kind t h k m a.0 a.1 a.2 b.0 in
    let d : byte s (32 * a.1 + 15) ≤ byte t (32 * a.1 + 15) = b.1 in
    let e : file_size kind s f ≡ 128 * a.0 + byte s (32 * a.1 + 15) = a.4 in
    omega arith)
    (either (leb (entries kind) (entry_of kind s f 0)))

-- where nothing is taken away no size falls, ..
pub size_grown : (kind : Kind) (s t : List ℕ) (f : File) → SoundImage kind s → SoundImage kind t → length f.name ≡ 11 → Grown kind s t
    → file_size kind s f ≤ file_size kind t f
size_grown kind s t f g k n w = size_rises kind s t f f g k n n (λ x e l i. (is_grown kind s t f x e w l i, w.rises e l i.used))

-- .. nor that of a file whose entries were not touched
pub size_untouched : (kind : Kind) (s t : List ℕ) (f h k : File) → SoundImage kind s → SoundImage kind t → length k.name ≡ 11 → Touches kind s t f h
    → (k ≡ f → ⊥) → file_size kind s k ≤ file_size kind t k
size_untouched kind s t f h k g w n c o =
    size_rises kind s t k k g w n n (λ x e l i.
    let z : byte t (32 * e + 15) ≡ byte s (32 * e + 15) = (kept_forth kind s t f h k c o e x l i).at 15 (omega arith) in
    (is_forth kind s t f h k c o x e l i, omega arith))
