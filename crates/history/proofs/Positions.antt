-- The groups that the block numbers of all the maps are of. Assumes nothing.
use Prim.Native.Nat.{ℕ, zero, suc, ◌+◌, ◌*◌, ◌/◌, ◌%◌, ◌≤◌, ◌<◌}
use mathlib.Core.Path.{◌≡◌, refl, sym, ap, ◌∙◌}
use mathlib.Core.Bool.{Bool, true, false}
use mathlib.Core.List.{List, [], ◌∷◌}
use mathlib.Core.Logic.{⊎_elim}
use native.Mathlib.Omega.{arith}
use lib.ListN.{length}
use borrow.Author.Tests.{eqb-true, eqb-false, eq-eqb, ne_eqb, not-true}
use Rattle.words.specs.Tests.{◌and◌, ◌or◌, ◌if◌else◌, count}
use Rattle.words.proofs.Tests.{either, never, and_fst, and_snd, any_found, any_some, same_test}
use Rattle.words.proofs.Sets.{and_both, not_of_false}
use Rattle.words.proofs.Counts.{any_count, count_any}
use Rattle.words.specs.Lists.{tally}
use Rattle.rules.specs.declared.kind.Kind.{Kind}
use Rattle.rules.specs.Kinds.{block_records, numbers}
use Rattle.rules.specs.declared.file.File.{File}
use Rattle.rules.specs.Drive.{file_at, extent_at, map_number, map_place, all_numbers, is_numbered}
use Rattle.rules.specs.Locks.{same_file}
use Rattle.rules.proofs.Sizes.{place_fits, flat_entry, flat_place, flat_below, flat-group}
use Rattle.rules.proofs.Sound.{Is, SoundImage, file_long}
use Rattle.rules.proofs.Items.{file_is, file_refl}
use Rattle.soundness.proofs.Blocks.{At, at_of, of_at, at_names, numbered_names, names_flat}
use Rattle.history.specs.Groups.{Group, group, same_group, is_counted, has_block, group_at, groups_below, groups_of}

-- ---- groups

-- what two groups that are the same have in common
pub record Likewise (x y : Group) : Type 0 where
  -- their numbers are the same, ..
  pub number_same : x.number ≡ y.number
  -- .. and so are their files
  pub files : same_file x.file y.file ≡ true

-- groups that are the same have both in common, ..
pub likewise_of : (x y : Group) → same_group x y ≡ true → Likewise x y
unfolding same_group
likewise_of x y h = record { number_same = eqb-true _ _ (and_fst _ _ h); files = and_snd _ _ h }

-- .. and groups that have are the same
pub likewise_so : (x y : Group) → Likewise x y → same_group x y ≡ true
unfolding same_group
likewise_so x y h = and_both _ _ (eq-eqb _ _ h.number_same) h.files

-- place i holds a number, and the group that it is of passes
unfoldable pub holds_group : Kind → (Group → Bool) → List ℕ → ℕ → Bool
holds_group kind test s i = is_numbered kind s i and test (group_at kind s i)

-- as many groups on the image pass a test as in the list
pub record Counted (kind : Kind) (s : List ℕ) (g : List Group) : Type 0 where
  -- the places of all the maps with a number whose group passes are as many as the groups in the list that pass
  pub as_many : (test : Group → Bool) → count (holds_group kind test s) (all_numbers kind) ≡ tally test g

below_many : (kind : Kind) (s : List ℕ) (test : Group → Bool) (n : ℕ) → count (holds_group kind test s) n ≡ tally test (groups_below kind s n)
unfolding count holds_group groups_below tally ◌if◌else◌ ◌and◌
below_many kind s test zero = refl
below_many kind s test (suc n) =
    let k = below_many kind s test n in
    ⊎_elim
    (λ (q : is_numbered kind s n ≡ true). rw q (ap (λ (m : ℕ). m + (1 if test (group_at kind s n) else 0)) k))
    (λ (q : is_numbered kind s n ≡ false). rw q (omega arith)) (either (is_numbered kind s n))

-- so it is of the groups that have a block at the start
pub start_counted : (kind : Kind) (s : List ℕ) → Counted kind s (groups_of kind s)
unfolding groups_of
start_counted kind s = record { as_many = λ test. below_many kind s test (all_numbers kind) }

-- ---- among the groups

-- a group that is counted is in the tally, ..
pub counted_tally : (x : Group) (g : List Group) → is_counted x g ≡ true → 1 ≤ tally (same_group x) g
unfolding is_counted tally ◌or◌ ◌if◌else◌
counted_tally x [] h = absurd (never h refl)
counted_tally x (y ∷ ys) h =
    ⊎_elim (λ (q : same_group x y ≡ true). rw q (omega arith))
    (λ (q : same_group x y ≡ false). rw q (let k = counted_tally x ys (rw q at h) in omega arith)) (either (same_group x y))

-- .. and one in the tally is counted
pub tally_counted : (x : Group) (g : List Group) → 1 ≤ tally (same_group x) g → is_counted x g ≡ true
unfolding is_counted tally ◌or◌ ◌if◌else◌
tally_counted x [] h = absurd (omega arith)
tally_counted x (y ∷ ys) h =
    ⊎_elim (λ (q : same_group x y ≡ true). rw q refl)
    (λ (q : same_group x y ≡ false). rw q (tally_counted x ys (less (rw q at h)))) (either (same_group x y))
  where
    less : 1 ≤ tally (same_group x) ys + 0 → 1 ≤ tally (same_group x) ys
    less h = omega arith

-- ---- a group that the history counts has a block, and the other way round

-- the place of a record's block number is of the record's group
pub at_group : (kind : Kind) (s : List ℕ) (f : File) (r n e : ℕ) → Is s f (r / 128) e → n ≡ map_place kind r → n < numbers kind
    → group_at kind s (numbers kind * e + n) ≡ group f (r / block_records kind)
unfolding group_at
at_group kind s f r n e w h l =
    let x : numbers kind * extent_at s e + n ≡ r / block_records kind =
    ap (λ (m : ℕ). numbers kind * m + n) w.extent ∙ ap (λ (m : ℕ). numbers kind * (r / 128) + m) h ∙ flat-group kind r in
    rw (flat_entry kind e n l, flat_place kind e n l) (λ i. record { file = w.file i; number = x i })

module _ (kind : Kind) (s : List ℕ) (g : List Group) (c : Counted kind s g) where
  -- a group of a place that holds a number is counted, ..
  pub place_counted : (x : Group) (i : ℕ) → i < all_numbers kind → is_numbered kind s i ≡ true → same_group x (group_at kind s i) ≡ true → is_counted x g ≡ true
  unfolding holds_group
  place_counted x i m h k =
      let w = any_count (holds_group kind (same_group x) s) (all_numbers kind)
      (any_found (holds_group kind (same_group x) s) (all_numbers kind) i m (and_both _ _ h k)) in
      tally_counted x g (rw (c.as_many (same_group x)) at w)

  -- .. and one that is counted has such a place;
  pub counted_place : (x : Group) → is_counted x g ≡ true → (i : ℕ) × (i < all_numbers kind) × (is_numbered kind s i ≡ true)
      × (same_group x (group_at kind s i) ≡ true)
  unfolding holds_group
  counted_place x h =
      let w = any_some (holds_group kind (same_group x) s) (all_numbers kind)
      (count_any (holds_group kind (same_group x) s) (all_numbers kind) (rw (c.as_many (same_group x)) (counted_tally x g h))) in
      (w.0, w.1, and_fst _ _ w.2, and_snd _ _ w.2)

  -- a record whose group is counted has a block, ..
  pub counted_at : (f : File) (r : ℕ) → length f.name ≡ 11 → is_counted (group f (r / block_records kind)) g ≡ true → (b : ℕ) × At kind s f r b
  unfolding group_at
  counted_at f r l h =
      let w = counted_place (group f (r / block_records kind)) h in
      let i = w.0 in
      let n = numbered_names kind s i w.1 w.2 in
      let k = likewise_of (group f (r / block_records kind)) (group_at kind s i) w.3 in
      let e : file_at s (i / numbers kind) ≡ f = sym (file_is f (file_at s (i / numbers kind)) l (file_long s (i / numbers kind)) k.files) in
      let m = i % numbers kind in
      let x : numbers kind * (r / 128) + map_place kind r ≡ numbers kind * extent_at s (i / numbers kind) + m = flat-group kind r ∙ k.number_same in
      let d : r / 128 ≡ extent_at s (i / numbers kind) =
      sym (flat_entry kind (r / 128) (map_place kind r) (place_fits kind r)) ∙ ap (λ (j : ℕ). j / numbers kind) x ∙ flat_entry kind _ m n.place_there in
      let y : map_place kind r ≡ m =
      sym (flat_place kind (r / 128) (map_place kind r) (place_fits kind r)) ∙ ap (λ (j : ℕ). j % numbers kind) x ∙ flat_place kind _ m n.place_there in (
        map_number kind s (i / numbers kind) m,
        record {
          entry = i / numbers kind;
          below = n.entry_there;
          is = record { used = n.entry_used; file = e; extent = sym d };
          number = ap (λ (j : ℕ). map_number kind s (i / numbers kind) j) y;
          some = n.some;
        },
      )

  -- .. and the group of one that has a block is counted: ..
  pub at_counted : (f : File) (r b : ℕ) → At kind s f r b → is_counted (group f (r / block_records kind)) g ≡ true
  at_counted f r b a =
      let n = at_names kind s f r b a in
      let l = n.place_there in
      let x = group f (r / block_records kind) in
      place_counted x (numbers kind * a.entry + map_place kind r) (flat_below kind _ _ n.entry_there l) (names_flat kind s a.entry (map_place kind r) n)
      (rw (at_group kind s f r (map_place kind r) a.entry a.is refl l) (likewise_so x x (record { number_same = refl; files = file_refl f })))

  -- .. a record has a block exactly where its group is counted
  pub each_counted : SoundImage kind s → (f : File) (r : ℕ) → length f.name ≡ 11
      → has_block kind s f r ≡ is_counted (group f (r / block_records kind)) g
  unfolding has_block
  each_counted w f r l =
      same_test _ _
      (λ h. at_counted f r _ (at_of kind s f r l (eqb-false _ _ (not-true _ h))))
      (λ h.
      let a = counted_at f r l h in
      not_of_false _ (ne_eqb _ _ (λ z. a.1.some (sym (of_at kind s f r a.0 l w a.1) ∙ z))))
