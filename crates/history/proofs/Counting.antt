-- Each call leaves on the image just the groups that the history counts. Assumes nothing.
use Prim.Native.Nat.{ℕ, ◌+◌, ◌*◌, ◌/◌, ◌%◌, ◌<◌}
use mathlib.Core.Path.{◌≡◌, refl, sym, ap, ◌∙◌}
use mathlib.Core.Bool.{Bool, true, false, not}
use mathlib.Core.List.{List, ◌∷◌, map}
use mathlib.Core.Logic.{⊎_elim}
use native.Mathlib.Omega.{arith}
use lib.ListN.{length}
use borrow.Author.Tests.{not-true}
use Rattle.words.specs.Tests.{◌and◌, ◌if◌else◌}
use Rattle.words.proofs.Tests.{either, and_fst, same_test}
use Rattle.words.proofs.Counts.{count_ext, count_set}
use Rattle.words.proofs.Sets.{and_left, not_of_true}
use Rattle.words.specs.Lists.{tally, without}
use Rattle.rules.specs.declared.kind.Kind.{Kind}
use Rattle.rules.specs.Kinds.{block_records, entries, numbers}
use Rattle.rules.specs.declared.file.File.{File}
use Rattle.rules.specs.Drive.{file_at, extent_at, map_number, map_place, is_of, all_numbers, is_numbered}
use Rattle.rules.specs.Effects.{erased, renamed}
use Rattle.rules.proofs.Sizes.{place_fits, flat_entry, flat_place, flat_both, flat_short, flat_there, flat_below}
use Rattle.rules.proofs.Sound.{Names, SoundImage, file_long}
use Rattle.rules.proofs.Frames.{head_of, file_same, extent_same, empty_same, of-file, file-of, map_same}
use Rattle.rules.proofs.Items.{file_is, file_refl}
use Rattle.soundness.proofs.Steps.{Stays}
use Rattle.soundness.proofs.Changes.{Grown, names_grown}
use Rattle.soundness.proofs.Blocks.{At, only, is_grown, at_names, numbered_names, names_numbered, names_flat}
use Rattle.soundness.proofs.Written.{Old, New}
use Rattle.soundness.proofs.Erased.{erased_gone, erased_kept}
use Rattle.soundness.proofs.Renamed.{renamed_empty, renamed_extent, renamed_number, renamed_kept}
use Rattle.soundness.proofs.Stored.{free_low}
use Rattle.history.specs.Groups.{Group, group, is_counted, group_at, touching, of_file, carried}
use Rattle.words.proofs.Tallies.{tally-without, tally-map}
use Rattle.history.proofs.Positions.{Counted, holds_group, at_group, counted_at, at_counted}

-- two tests of the places that agree where a number stands
holds_same : (kind : Kind) (s t : List ℕ) (p q : Group → Bool) (i : ℕ) → is_numbered kind t i ≡ is_numbered kind s i
    → (is_numbered kind s i ≡ true → p (group_at kind t i) ≡ q (group_at kind s i)) → holds_group kind p t i ≡ holds_group kind q s i
unfolding holds_group ◌and◌
holds_same kind s t p q i e h =
    ⊎_elim (λ (z : is_numbered kind s i ≡ true). rw (e, z) (h z)) (λ (z : is_numbered kind s i ≡ false). rw (e, z) refl) (either (is_numbered kind s i))

holds_off : (kind : Kind) (s : List ℕ) (test : Group → Bool) (i : ℕ) → is_numbered kind s i ≡ false → holds_group kind test s i ≡ false
unfolding holds_group
holds_off kind s test i h = and_left _ _ h

holds_on : (kind : Kind) (s : List ℕ) (test : Group → Bool) (i : ℕ) (x : Group) → is_numbered kind s i ≡ true → group_at kind s i ≡ x
    → holds_group kind test s i ≡ test x
unfolding holds_group ◌and◌
holds_on kind s test i x h e = rw (h, e) refl

-- ---- a change that takes nothing away

module _ (kind : Kind) (s t : List ℕ) (w : Grown kind s t) where
  group_grown : (i : ℕ) → Names kind s (i / numbers kind) (i % numbers kind) → group_at kind t i ≡ group_at kind s i
  unfolding group_at
  group_grown i n =
      let e = i / numbers kind in
      let h = w.head e n.entry_there n.entry_used in
      λ j. record { file = file_same s e t e h j; number = numbers kind * extent_same s e t e h j + i % numbers kind }

  -- place i keeps its number and its group, or has none
  place_grown : (i : ℕ) → i < all_numbers kind → (Names kind t (i / numbers kind) (i % numbers kind) → Stays kind s t (i / numbers kind) (i % numbers kind))
      → (test : Group → Bool) → holds_group kind test t i ≡ holds_group kind test s i
  place_grown i m back test =
      holds_same kind s t test test i
      (same_test _ _ (λ h. names_numbered kind s i (back (numbered_names kind t i m h)).named)
      (λ h. names_numbered kind t i (names_grown kind s t w (i / numbers kind) (i % numbers kind) (numbered_names kind s i m h))))
      (λ h. ap test (group_grown i (numbered_names kind s i m h)))

  -- where no block number is new the groups stay
  pub counted_grown : (g : List Group) → ((e k : ℕ) → Names kind t e k → Stays kind s t e k) → Counted kind s g → Counted kind t g
  counted_grown g back c = record {
    as_many = λ test.
        count_ext (holds_group kind test t) (holds_group kind test s) (all_numbers kind) (λ i m. place_grown i m (back (i / numbers kind) (i % numbers kind)) test)
        ∙ c.as_many test;
  }

-- ---- 34 and 40

touching_old : (x : Group) (g : List Group) → is_counted x g ≡ true → touching x g ≡ g
unfolding touching ◌if◌else◌
touching_old x g h = rw h refl

touching_new : (x : Group) (g : List Group) → is_counted x g ≡ false → touching x g ≡ x ∷ g
unfolding touching ◌if◌else◌
touching_new x g h = rw h refl

module _ (kind : Kind) (s t : List ℕ) (f : File) (r : ℕ) (l : length f.name ≡ 11) (g : List Group) (c : Counted kind s g) where
  -- the block was there
  old_stays : (w : Old kind s t f r) (e k : ℕ) → Names kind t e k → Stays kind s t e k
  old_stays w e k n =
      let m : Names kind s w.entry (map_place kind r) =
      record { entry_there = w.wrote.below; place_there = place_fits kind r; entry_used = w.was_is.used; some = λ z. w.some (sym w.was ∙ z) } in
      ⊎_elim
      (λ (z : (e ≡ w.entry) × (k ≡ map_place kind r)).
      let y : Stays kind s t w.entry (map_place kind r) = record { named = m; number = w.wrote.change.grown.number w.entry (map_place kind r) m } in
      rw (z.0, z.1) y)
      (λ (z : Stays kind s t e k). z) (w.wrote.change.rest e k n)

  -- a record written in the block that it has: the groups stay, ..
  pub counted_old : Old kind s t f r → Counted kind t g
  counted_old w = counted_grown kind s t w.wrote.change.grown g (old_stays w) c

  -- .. its own among them
  pub touched_old : Old kind s t f r → Counted kind t (touching (group f (r / block_records kind)) g)
  touched_old w =
      let a : At kind s f r w.block = record { entry = w.entry; below = w.wrote.below; is = w.was_is; number = w.was; some = w.some } in
      rw (touching_old (group f (r / block_records kind)) g (at_counted kind s g c f r w.block a)) (counted_old w)

  -- a record that gets a block had none, ..
  pub new_none : New kind s t f r → (b : ℕ) → At kind s f r b → ⊥
  new_none w b a =
      let h = w.wrote.change in
      let i = is_grown kind s t f (r / 128) a.entry h.grown a.below a.is in
      let e : a.entry ≡ w.entry = only kind t f (r / 128) a.entry w.entry h.sound.files a.below w.wrote.below i w.wrote.is in
      w.unnamed (rw e at (at_names kind s f r b a))

  -- .. and its group is then counted too
  pub touched_new : New kind s t f r → Counted kind t (touching (group f (r / block_records kind)) g)
  unfolding tally
  touched_new w =
      let x = group f (r / block_records kind) in
      let n = w.entry in
      let k = map_place kind r in
      let j = numbers kind * n + k in
      let q = place_fits kind r in
      let v = w.wrote in
      let below = flat_below kind n k v.below q in
      let none : is_counted x g ≡ false = ⊎_elim
      (λ (h : is_counted x g ≡ true). let a = counted_at kind s g c f r l h in absurd (new_none w a.0 a.1)) (λ h. h) (either (is_counted x g)) in
      let was : is_numbered kind s j ≡ false = ⊎_elim
      (λ (h : is_numbered kind s j ≡ true). absurd (w.unnamed (rw (flat_entry kind n k q, flat_place kind n k q) at (numbered_names kind s j below h))))
      (λ h. h) (either (is_numbered kind s j)) in
      let now : Names kind t n k = record {
        entry_there = v.below;
        place_there = q;
        entry_used = v.is.used;
        some = λ (z : map_number kind t n k ≡ 0). (let y = free_low kind s w.block w.free in let u : w.block ≡ 0 = sym v.number ∙ z in
            absurd (omega arith));
      } in
      let flat : (i : ℕ) → (i / numbers kind ≡ n) × (i % numbers kind ≡ k) → i ≡ j = λ i u.
      sym (flat_both kind i) ∙ ap (λ (m : ℕ). numbers kind * m + i % numbers kind) u.0 ∙ ap (λ (m : ℕ). numbers kind * n + m) u.1 in
      rw (touching_new x g none) (record {
        as_many = λ test.
            count_set (holds_group kind test s) (holds_group kind test t) j (all_numbers kind) below (holds_off kind s test j was)
            (λ i m z. place_grown kind s t v.change.grown i m (λ y. ⊎_elim
            (λ (u : (i / numbers kind ≡ n) × (i % numbers kind ≡ k)). absurd (z (flat i u)))
            (λ (u : Stays kind s t (i / numbers kind) (i % numbers kind)). u) (v.change.rest (i / numbers kind) (i % numbers kind) y)) test)
            ∙ ap (λ (m : ℕ). m + (1 if holds_group kind test t j else 0)) (c.as_many test)
            ∙ ap (λ (d : Bool). tally test g + (1 if d else 0)) (holds_on kind t test j x (names_flat kind t n k now) (at_group kind t f r k n v.is refl q));
      })

-- ---- Delete

-- the group's file is f exactly where the entry is f's
group_of : (kind : Kind) (s : List ℕ) (f : File) (i : ℕ) → length f.name ≡ 11 → is_numbered kind s i ≡ true
    → of_file f (group_at kind s i) ≡ is_of s f (i / numbers kind)
unfolding of_file group_at is_numbered
group_of kind s f i l h =
    let u = not-true _ (and_fst _ _ h) in
    same_test _ _
    (λ k. file-of s f (i / numbers kind) u (file_is (file_at s (i / numbers kind)) f (file_long s (i / numbers kind)) l k))
    (λ k. rw (of-file s f (i / numbers kind) l k) (file_refl f))

module _ (kind : Kind) (s : List ℕ) (f : File) (w : SoundImage kind s) (l : length f.name ≡ 11) (g : List Group) (c : Counted kind s g) where
  abbrev stays : (Group → Bool) → Group → Bool
  stays test x = test x and not (of_file f x)

  numbered_kept : (i : ℕ) → i < all_numbers kind → is_of s f (i / numbers kind) ≡ false → is_numbered kind (erased kind f s) i ≡ is_numbered kind s i
  unfolding is_numbered
  numbered_kept i m h =
      let e = i / numbers kind in
      let t = erased kind f s in
      let k = erased_kept kind s f w l e (flat_there kind i m) h in
      rw (empty_same s e t e (head_of s e t e k), map_same kind s t e (i % numbers kind) k (flat_short kind i)) refl

  numbered_gone : (i : ℕ) → i < all_numbers kind → is_of s f (i / numbers kind) ≡ true → is_numbered kind (erased kind f s) i ≡ false
  unfolding is_numbered
  numbered_gone i m h = and_left _ _ (not_of_true _ (erased_gone kind s f w l (i / numbers kind) (flat_there kind i m) h))

  group_kept : (i : ℕ) → i < all_numbers kind → is_of s f (i / numbers kind) ≡ false → group_at kind (erased kind f s) i ≡ group_at kind s i
  unfolding group_at
  group_kept i m h =
      let e = i / numbers kind in
      let t = erased kind f s in
      let k = head_of s e t e (erased_kept kind s f w l e (flat_there kind i m) h) in
      λ j. record { file = file_same s e t e k j; number = numbers kind * extent_same s e t e k j + i % numbers kind }

  holds_erased : (test : Group → Bool) (i : ℕ) → i < all_numbers kind → holds_group kind test (erased kind f s) i ≡ holds_group kind (stays test) s i
  unfolding holds_group
  holds_erased test i m =
      ⊎_elim
      (λ (h : is_of s f (i / numbers kind) ≡ true).
      and_left _ _ (numbered_gone i m h)
      ∙ sym (off (is_numbered kind s i) (test (group_at kind s i)) (of_file f (group_at kind s i)) (λ z. group_of kind s f i l z ∙ h)))
      (λ (h : is_of s f (i / numbers kind) ≡ false).
      rw (numbered_kept i m h, group_kept i m h)
      (on (is_numbered kind s i) (test (group_at kind s i)) (of_file f (group_at kind s i)) (λ z. group_of kind s f i l z ∙ h)))
      (either (is_of s f (i / numbers kind)))
    where
      off : (a x y : Bool) → (a ≡ true → y ≡ true) → (a and (x and not y)) ≡ false
      off true true y h = unfold ◌and◌ in rw (h refl) refl
      off true false y h = unfold ◌and◌ in refl
      off false x y h = unfold ◌and◌ in refl

      on : (a x y : Bool) → (a ≡ true → y ≡ false) → (a and x) ≡ (a and (x and not y))
      on true true y h = unfold ◌and◌ in rw (h refl) refl
      on true false y h = unfold ◌and◌ in refl
      on false x y h = unfold ◌and◌ in refl

  -- Delete drops the file's groups
  pub dropped : Counted kind (erased kind f s) (without (of_file f) g)
  dropped = record {
    as_many = λ test.
        count_ext (holds_group kind test (erased kind f s)) (holds_group kind (stays test) s) (all_numbers kind) (λ i m. holds_erased test i m)
        ∙ c.as_many (stays test) ∙ sym (tally-without test (of_file f) g);
  }

-- ---- Rename

carried_yes : (f h : File) (x : Group) → of_file f x ≡ true → carried f h x ≡ group h x.number
unfolding carried ◌if◌else◌
carried_yes f h x e = rw e refl

carried_no : (f h : File) (x : Group) → of_file f x ≡ false → carried f h x ≡ x
unfolding carried ◌if◌else◌
carried_no f h x e = rw e refl

module _ (kind : Kind) (s : List ℕ) (f new : File) (w : SoundImage kind s) (l : length f.name ≡ 11)
    (files : (e : ℕ) → e < entries kind → is_of s f e ≡ true → file_at (renamed kind f new.name s) e ≡ new) (g : List Group) (c : Counted kind s g) where
  abbrev t : List ℕ
  t = renamed kind f new.name s

  numbered_same : (i : ℕ) → i < all_numbers kind → is_numbered kind t i ≡ is_numbered kind s i
  unfolding is_numbered
  numbered_same i m =
      let l = flat_there kind i m in
      rw (
        renamed_empty kind s f new.name w (i / numbers kind) l,
        renamed_number kind s f new.name w (i / numbers kind) (i % numbers kind) l
            (flat_short kind i),
      ) refl

  group_now : (i : ℕ) → i < all_numbers kind → is_numbered kind s i ≡ true → group_at kind t i ≡ carried f new (group_at kind s i)
  unfolding group_at
  group_now i m z =
      let e = i / numbers kind in
      let d = flat_there kind i m in
      let x : extent_at t e ≡ extent_at s e = renamed_extent kind s f new.name w e d in
      ⊎_elim
      (λ (h : is_of s f e ≡ true).
      let y : group_at kind t i ≡ group new (numbers kind * extent_at s e + i % numbers kind) = λ j. record {
        file = files e d h j;
        number = numbers kind * x j + i % numbers kind;
      } in
      y ∙ sym (carried_yes f new (group_at kind s i) (group_of kind s f i l z ∙ h)))
      (λ (h : is_of s f e ≡ false).
      let k = file_same s e t e (head_of s e t e (renamed_kept kind s f new.name w e d h)) in
      let y : group_at kind t i ≡ group_at kind s i = λ j. record { file = k j; number = numbers kind * x j + i % numbers kind } in
      y ∙ sym (carried_no f new (group_at kind s i) (group_of kind s f i l z ∙ h)))
      (either (is_of s f e))

  -- Rename carries them over
  pub carried_over : Counted kind t (map (carried f new) g)
  carried_over = record {
    as_many = λ test.
        count_ext (holds_group kind test t) (holds_group kind (λ (x : Group). test (carried f new x)) s) (all_numbers kind)
        (λ i m. holds_same kind s t test (λ (x : Group). test (carried f new x)) i (numbered_same i m) (λ z. ap test (group_now i m z)))
        ∙ c.as_many (λ (x : Group). test (carried f new x)) ∙ sym (tally-map test (carried f new) g);
  }
