-- The block of a record: where its number stands, and that it stands there alone. Assumes nothing.
use Prim.Native.Nat.{ℕ, ◌+◌, ◌*◌, ◌/◌, ◌%◌, ◌<◌}
use mathlib.Core.Path.{◌≡◌, sym, ◌∙◌}
use mathlib.Core.Bool.{true, false}
use mathlib.Core.List.{List}
use mathlib.Core.Logic.{⊎_elim}
use native.Mathlib.Omega.{arith}
use lib.ListN.{length}
use lib.Dec.{ltb}
use borrow.Author.Tests.{eqb-false, ne_eqb, ltb-true, ltb-false, lt-leb, not-true}
use Rattle.words.specs.Tests.{◌if◌else◌}
use Rattle.words.proofs.Tests.{either, equal?, and_fst, and_snd, any_found, lowest_below}
use Rattle.words.proofs.Sets.{and_both, not_of_false}
use Rattle.rules.specs.declared.kind.Kind.{Kind}
use Rattle.rules.specs.Kinds.{entries, numbers}
use Rattle.rules.specs.declared.file.File.{File}
use Rattle.rules.specs.Drive.{map_number, map_place, is_entry, entry_of, block_in, block_of, all_numbers, is_numbered}
use Rattle.rules.proofs.Sizes.{place_fits, flat_entry, flat_place, flat_short, flat_there}
use Rattle.rules.proofs.Sound.{Is, Entries, Names, SoundImage, entry_so, found_is, block_is, block_named}
use Rattle.rules.proofs.Frames.{Same, head_of, same_back, is_same, map_same}
use Rattle.soundness.proofs.Changes.{Grown, Theirs, Touches}

-- the record's block is b
pub record At (kind : Kind) (s : List ℕ) (f : File) (r b : ℕ) : Type 0 where
  -- the entry of the record's extent, ..
  pub entry : ℕ
  -- .. one of the directory
  pub below : entry < entries kind
  -- it is in use, and that extent of the file
  pub is : Is s f (r / 128) entry
  -- the record's place in its map holds the number b, ..
  pub number : map_number kind s entry (map_place kind r) ≡ b
  -- .. which is not 0
  pub some : b ≡ 0 → ⊥

-- the place of its number names a block
pub at_names : (kind : Kind) (s : List ℕ) (f : File) (r b : ℕ) → (a : At kind s f r b) → Names kind s a.entry (map_place kind r)
at_names kind s f r b a = record {
  entry_there = a.below;
  place_there = place_fits kind r;
  entry_used = a.is.used;
  some = λ z. a.some (sym a.number ∙ z);
}

-- an extent that stands at an entry is found
pub found_below : (kind : Kind) (s : List ℕ) (f : File) (x e : ℕ) → e < entries kind → Is s f x e → entry_of kind s f x < entries kind
unfolding entry_of
found_below kind s f x e l h = lowest_below (is_entry s f x) (entries kind) (any_found (is_entry s f x) (entries kind) e l (entry_so s f x e h))

-- an extent of a file stands at one entry only
pub only : (kind : Kind) (s : List ℕ) (f : File) (x e d : ℕ) → Entries kind s → e < entries kind → d < entries kind → Is s f x e → Is s f x d → e ≡ d
only kind s f x e d g l k a b =
    ⊎_elim
    (λ (c : ltb e d ≡ true). absurd (g.single e d (ltb-true e d c) k b.used
    (record { used = a.used; file = a.file ∙ sym b.file; extent = a.extent ∙ sym b.extent })))
    (λ (c : ltb e d ≡ false). ⊎_elim
    (λ (c' : ltb d e ≡ true). absurd (g.single d e (ltb-true d e c') l a.used
    (record { used = b.used; file = b.file ∙ sym a.file; extent = b.extent ∙ sym a.extent })))
    (λ (c' : ltb d e ≡ false). let m = ltb-false e d c in let n = ltb-false d e c' in omega arith) (either (ltb d e)))
    (either (ltb e d))

-- a block that is found is the one that the record has, ..
pub at_of : (kind : Kind) (s : List ℕ) (f : File) (r : ℕ) → length f.name ≡ 11 → (block_of kind s f r ≡ 0 → ⊥) → At kind s f r (block_of kind s f r)
at_of kind s f r n h =
    let m = block_named kind s f r h in
    record {
      entry = entry_of kind s f (r / 128);
      below = m.entry_there;
      is = found_is kind s f (r / 128) n m.entry_there;
      number = sym (block_is kind s f r h);
      some = h;
    }

-- .. and the one that it has is found
pub of_at : (kind : Kind) (s : List ℕ) (f : File) (r b : ℕ) → length f.name ≡ 11 → SoundImage kind s → At kind s f r b → block_of kind s f r ≡ b
unfolding block_of block_in ◌if◌else◌
of_at kind s f r b n g a =
    let e = entry_of kind s f (r / 128) in
    let l = found_below kind s f (r / 128) a.entry a.below a.is in
    let q : a.entry ≡ e = only kind s f (r / 128) a.entry e g.files a.below l a.is (found_is kind s f (r / 128) n l) in
    rw (lt-leb (entries kind) e l, ← q) a.number

-- ---- place k of entry e, and place numbers·e + k of all

-- a place, numbered through all the maps, that holds a number names a block, ..
pub numbered_names : (kind : Kind) (s : List ℕ) (i : ℕ) → i < all_numbers kind → is_numbered kind s i ≡ true → Names kind s (i / numbers kind) (i % numbers kind)
unfolding is_numbered
numbered_names kind s i m h = record {
  entry_there = flat_there kind i m;
  place_there = flat_short kind i;
  entry_used = not-true _ (and_fst _ _ h);
  some = eqb-false _ _ (not-true _ (and_snd _ _ h));
}

-- .. one that names a block holds a number, ..
pub names_numbered : (kind : Kind) (s : List ℕ) (i : ℕ) → Names kind s (i / numbers kind) (i % numbers kind) → is_numbered kind s i ≡ true
unfolding is_numbered
names_numbered kind s i n = and_both _ _ (not_of_false _ n.entry_used) (not_of_false _ (ne_eqb _ _ n.some))

-- .. and so it is of place k of entry e
pub names_flat : (kind : Kind) (s : List ℕ) (e k : ℕ) → Names kind s e k → is_numbered kind s (numbers kind * e + k) ≡ true
names_flat kind s e k n =
    names_numbered kind s (numbers kind * e + k) (rw (flat_entry kind e k n.place_there, flat_place kind e k n.place_there) n)

-- ---- in two images

-- two images in which the record has the same block, or both none
pub blocks_same : (kind : Kind) (s t : List ℕ) (f : File) (r : ℕ) → length f.name ≡ 11 → SoundImage kind s → SoundImage kind t
    → ((b : ℕ) → At kind s f r b → At kind t f r b) → ((b : ℕ) → At kind t f r b → At kind s f r b) → block_of kind t f r ≡ block_of kind s f r
blocks_same kind s t f r n g h forth back =
    ⊎_elim
    (λ (z : block_of kind s f r ≡ 0). ⊎_elim
    (λ (y : block_of kind t f r ≡ 0). y ∙ sym z)
    (λ (y : block_of kind t f r ≡ 0 → ⊥). absurd (y (sym (of_at kind s f r (block_of kind t f r) n g (back (block_of kind t f r) (at_of kind t f r n y))) ∙ z)))
    (equal? (block_of kind t f r) 0))
    (λ (z : block_of kind s f r ≡ 0 → ⊥). of_at kind t f r (block_of kind s f r) n h (forth (block_of kind s f r) (at_of kind s f r n z)))
    (equal? (block_of kind s f r) 0)

-- ---- what changes leave

-- where nothing is taken away a record keeps its block, ..
pub at_grown : (kind : Kind) (s t : List ℕ) (f : File) (r b : ℕ) → Grown kind s t → At kind s f r b → At kind t f r b
at_grown kind s t f r b g a = record {
  entry = a.entry;
  below = a.below;
  is = is_same s t f (r / 128) a.entry (g.head a.entry a.below a.is.used) a.is;
  number = g.number a.entry (map_place kind r) (at_names kind s f r b a) ∙ a.number;
  some = a.some;
}

-- .. and an extent its entry
pub is_grown : (kind : Kind) (s t : List ℕ) (f : File) (x e : ℕ) → Grown kind s t → e < entries kind → Is s f x e → Is t f x e
is_grown kind s t f x e g l i = is_same s t f x e (g.head e l i.used) i

at_same : (kind : Kind) (s t : List ℕ) (f : File) (r b : ℕ) (a : At kind s f r b) → Same s a.entry t a.entry → At kind t f r b
at_same kind s t f r b a h = record {
  entry = a.entry;
  below = a.below;
  is = is_same s t f (r / 128) a.entry (head_of s a.entry t a.entry h) a.is;
  number = map_same kind s t a.entry (map_place kind r) h (place_fits kind r) ∙ a.number;
  some = a.some;
}

-- the entries of a file that was not touched
module _ (kind : Kind) (s t : List ℕ) (f h k : File) (c : Touches kind s t f h) where
  -- an entry of any file but f stays as it was, ..
  pub kept_forth : (k ≡ f → ⊥) → (e x : ℕ) → e < entries kind → Is s k x e → Same s e t e
  kept_forth n e x l i =
      ⊎_elim (λ (q : Same s e t e). q) (λ (q : Theirs s t f h e). absurd (n (sym i.file ∙ q.was i.used))) (c.entry e l)

  -- .. and one that is then of any file but h was so before;
  pub kept_back : (k ≡ h → ⊥) → (e x : ℕ) → e < entries kind → Is t k x e → Same s e t e
  kept_back n e x l i =
      ⊎_elim (λ (q : Same s e t e). q) (λ (q : Theirs s t f h e). absurd (n (sym i.file ∙ q.now i.used))) (c.entry e l)

  -- a record of any file but f keeps its block, ..
  pub at_forth : (k ≡ f → ⊥) → (r b : ℕ) → At kind s k r b → At kind t k r b
  at_forth n r b a = at_same kind s t k r b a (kept_forth n a.entry (r / 128) a.below a.is)

  -- .. one that is then of any file but h had its block before, ..
  pub at_back : (k ≡ h → ⊥) → (r b : ℕ) → At kind t k r b → At kind s k r b
  at_back n r b a = at_same kind t s k r b a (same_back s t a.entry (kept_back n a.entry (r / 128) a.below a.is))

  -- .. and an extent of any file but f stands where it stood
  pub is_forth : (k ≡ f → ⊥) → (x e : ℕ) → e < entries kind → Is s k x e → Is t k x e
  is_forth n x e l i = is_same s t k x e (head_of s e t e (kept_forth n e x l i)) i
