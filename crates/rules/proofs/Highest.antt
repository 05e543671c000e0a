-- The highest extent of a file, and its size. Assumes nothing.
use Prim.Native.Nat.{ℕ, ◌+◌, ◌*◌, ◌≤◌, ◌<◌}
use mathlib.Core.Path.{◌≡◌}
use mathlib.Core.Bool.{true, false}
use mathlib.Core.List.{List}
use mathlib.Core.Logic.{⊎_elim}
use native.Mathlib.Omega.{arith}
use borrow.Author.Tests.{leb-true, not-true}
use Rattle.words.specs.Tests.{any}
use Rattle.words.proofs.Tests.{either, and_fst, and_snd}
use Rattle.words.proofs.Greatest.{greatest_most, greatest_none, greatest_had}
use Rattle.rules.specs.declared.kind.Kind.{Kind}
use Rattle.rules.specs.declared.file.File.{File}
use Rattle.rules.specs.Kinds.{entries, top, last_module}
use Rattle.rules.specs.Drive.{extent_at, entry_byte, is_empty, is_of, highest_extent, good_fields, good_numbers, sound_image}
use Rattle.rules.proofs.Sizes.{top_fits, top_whole}
use Rattle.rules.proofs.Sound.{sound_of}

-- what ex, module and count of a sound entry are at most
record Numbers (kind : Kind) (s : List ℕ) (e : ℕ) : Type 0 where
  ex : entry_byte s e 12 ≤ 31
  module-fits : entry_byte s e 14 ≤ last_module kind
  count_fits : entry_byte s e 15 ≤ 128

numbers_of : (kind : Kind) (s : List ℕ) (e : ℕ) → good_fields kind s e ≡ true → Numbers kind s e
unfolding good_fields good_numbers
numbers_of kind s e h =
    let g = and_snd _ _ (and_snd _ _ h) in
    record {
      ex = leb-true _ _ (and_fst _ _ g);
      module-fits = leb-true _ _ (and_fst _ _ (and_snd _ _ g));
      count_fits = leb-true _ _ (and_snd _ _ (and_snd _ _ g));
    }

-- an entry of the file is in use
of_used : (s : List ℕ) (f : File) (e : ℕ) → is_of s f e ≡ true → is_empty s e ≡ false
unfolding is_of
of_used s f e h = not-true _ (and_fst _ _ h)

-- no entry of the file has a higher extent
pub highest_most : (kind : Kind) (s : List ℕ) (f : File) (e : ℕ) → e < entries kind → is_of s f e ≡ true → extent_at s e ≤ highest_extent kind s f
unfolding highest_extent
highest_most kind s f e l h = greatest_most (is_of s f) (extent_at s) (entries kind) e l h

-- the records of the highest extent of a file on a sound image end at the highest record, ..
pub highest_ends : (kind : Kind) (s : List ℕ) (f : File) → sound_image kind s ≡ true → 128 * highest_extent kind s f + 128 ≤ top kind + 1
unfolding highest_extent
highest_ends kind s f h =
    ⊎_elim
    (λ (q : any (is_of s f) (entries kind) ≡ true).
    let k = greatest_had (is_of s f) (extent_at s) (entries kind) q in
    let n = numbers_of kind s k.0 ((sound_of kind s h).files.fields k.0 k.1 (of_used s f k.0 k.2)) in
    let a = n.ex in
    let b = n.module-fits in
    let d : extent_at s k.0 ≡ highest_extent kind s f = k.3 in
    let e = top_whole kind in
    omega arith)
    (λ (q : any (is_of s f) (entries kind) ≡ false).
    let z : highest_extent kind s f ≡ 0 = greatest_none (is_of s f) (extent_at s) (entries kind) q in
    let e = top_whole kind in
    omega arith)
    (either (any (is_of s f) (entries kind)))

-- .. so that it is below 2,048
pub highest_small : (kind : Kind) (s : List ℕ) (f : File) → sound_image kind s ≡ true → highest_extent kind s f ≤ 2047
highest_small kind s f h = let a = highest_ends kind s f h in let b = top_fits kind in omega arith
