-- The test of two images tells exactly whether they hold the same book. Assumes nothing.
use Prim.Native.Nat.{ℕ, ◌+◌, ◌*◌, ◌/◌, ◌%◌, ◌<◌}
use mathlib.Core.Path.{◌≡◌, refl, sym, ap, ◌∙◌}
use mathlib.Core.Bool.{true, false, not}
use mathlib.Core.List.{List, []}
use mathlib.Core.Logic.{⊎_elim}
use native.Mathlib.Omega.{arith}
use native.Mathlib.Nat.{zero-add}
use lib.ListN.{length, get_or}
use lib.Dec.{eqb}
use borrow.Author.Tests.{eq-eqb, eqb-true, eqb-false, ne_eqb, leb-true, leb-false, lt-leb, not-true, not-false}
use Rattle.words.specs.Tests.{◌and◌, ◌if◌else◌, all}
use Rattle.words.specs.Lists.{tab}
use Rattle.words.specs.Bytes.{byte, low_from}
use Rattle.words.proofs.Tests.{either, equal?, never, and_fst, and_snd, or_so, or_case, all_at, all_make}
use Rattle.words.proofs.Sets.{and_both, not_of_false}
use Rattle.words.proofs.Lists.{tab_ext, tab_at}
use Rattle.rules.specs.declared.kind.Kind.{Kind}
use Rattle.rules.specs.Kinds.{block_size, entries, numbers}
use Rattle.rules.specs.declared.file.File.{File}
use Rattle.rules.specs.Drive.{is_empty, user_byte, name_at, extent_at, map_number, map_place, no_entry, file_from, file_at, entry_of, look_up, missing, block_in, block_of}
use Rattle.rules.specs.Drive.{record_at, sound_image, good_fields, good_user}
use Rattle.rules.specs.Look.{may_look}
use Rattle.rules.proofs.Sizes.{directory_size, entries_some, place_fits, record_over, over_extent, over_place, over_byte}
use Rattle.rules.proofs.Sound.{Is, sound_of, found_is, file_long, from_long}
use Rattle.soundness.proofs.Blocks.{only, found_below}
use Rattle.soundness.proofs.Taken.{name_legal}
use Rattle.soundness.proofs.Entered.{low_low}
use Rattle.packing.specs.Same.{high_from, attributes, SameBook, number_in, same_byte, same_block, same_held, same_place, same_high, same_marks, same_at, same_entry}
use Rattle.packing.specs.Same.{same_book}
use Rattle.packing.proofs.Moved.{Held, Shown, block_at, block_none, held_shown}
use Rattle.packing.proofs.Looks.{shown_look, look_shown}

-- ---- one place

module _ (kind : Kind) (s : List ℕ) (a : ℕ) (t : List ℕ) (b : ℕ) where
  held_of : same_held kind s a t b ≡ true → Held kind s a t b
  unfolding same_held ◌if◌else◌ same_block same_byte
  held_of h =
      ⊎_elim
      (λ (z : a ≡ 0).
      let w : eqb b 0 ≡ true = rw (eq-eqb a 0 z) at h in
      record { nothing = λ q. eqb-true b 0 w; something = λ q. absurd (q z); bytes = λ q. absurd (q z) })
      (λ (z : a ≡ 0 → ⊥).
      let w : (not (eqb b 0) and same_block kind s a t b) ≡ true = rw (ne_eqb a 0 z) at h in
      record {
        nothing = λ q. absurd (z q);
        something = λ q. eqb-false b 0 (not-true _ (and_fst _ _ w));
        bytes = λ q i l. eqb-true _ _ (all_at (same_byte s (block_size kind * a) t (block_size kind * b)) (block_size kind) i (and_snd _ _ w) l);
      })
      (equal? a 0)

  held_so : Held kind s a t b → same_held kind s a t b ≡ true
  unfolding same_held ◌if◌else◌ same_block same_byte
  held_so h =
      ⊎_elim
      (λ (z : a ≡ 0). rw (eq-eqb a 0 z) (eq-eqb b 0 (h.nothing z)))
      (λ (z : a ≡ 0 → ⊥). rw (ne_eqb a 0 z)
      (and_both _ _ (not_of_false _ (ne_eqb b 0 (h.something z)))
      (all_make (same_byte s (block_size kind * a) t (block_size kind * b)) (block_size kind) (λ i l. eq-eqb _ _ (h.bytes z i l)))))
      (equal? a 0)

-- the number at a record's place
number_of : (kind : Kind) (t : List ℕ) (f : File) (r : ℕ) → block_of kind t f r ≡ number_in kind t (entry_of kind t f (r / 128)) (map_place kind r)
unfolding block_of block_in number_in
number_of kind t f r = refl

-- ---- a file that is there, or missing

module _ (kind : Kind) (s : List ℕ) (f : File) where
  pub missing_is : missing kind (look_up kind s f) ≡ no_entry kind (entry_of kind s f 0)
  unfolding missing look_up
  missing_is = refl

  pub marks_there : no_entry kind (entry_of kind s f 0) ≡ false → attributes kind s f ≡ tab (high_from s (name_at (entry_of kind s f 0))) 11
  unfolding attributes missing look_up ◌if◌else◌
  marks_there h = rw h refl

  pub marks_none : no_entry kind (entry_of kind s f 0) ≡ true → attributes kind s f ≡ []
  unfolding attributes missing look_up ◌if◌else◌
  marks_none h = rw h refl

-- ---- from the test to the statement

module _ (kind : Kind) (s t : List ℕ) (h : all (same_entry kind s t) (entries kind) ≡ true) where
  -- an extent that s has
  at_found : (f : File) (x : ℕ) → length f.name ≡ 11 → entry_of kind s f x < entries kind → same_at kind s (entry_of kind s f x) t (entry_of kind t f x) ≡ true
  unfolding same_entry
  at_found f x n l =
      let i = found_is kind s f x n l in
      let w = or_so _ _ (all_at (same_entry kind s t) (entries kind) (entry_of kind s f x) h l) i.used in
      rw (i.file, i.extent) at w

  place_found : (f : File) (x k : ℕ) → length f.name ≡ 11 → k < numbers kind → entry_of kind s f x < entries kind
      → Held kind s (map_number kind s (entry_of kind s f x) k) t (number_in kind t (entry_of kind t f x) k)
  unfolding same_at same_place
  place_found f x k n m l =
      held_of kind s _ t _
      (all_at (same_place kind s (entry_of kind s f x) t (entry_of kind t f x)) (numbers kind) k (and_fst _ _ (at_found f x n l)) m)

  marks_found : (f : File) → length f.name ≡ 11 → entry_of kind s f 0 < entries kind → same_marks kind s (entry_of kind s f 0) t (entry_of kind t f 0) ≡ true
  unfolding same_at
  marks_found f n l = or_so _ _ (and_snd _ _ (at_found f 0 n l)) (ap not (eq-eqb _ _ (found_is kind s f 0 n l).extent))

  first_found : (f : File) → length f.name ≡ 11 → entry_of kind s f 0 < entries kind → no_entry kind (entry_of kind t f 0) ≡ false
  unfolding same_marks
  first_found f n l = not-true _ (and_fst _ _ (marks_found f n l))

module _ (kind : Kind) (s t : List ℕ) (h : all (same_entry kind s t) (entries kind) ≡ true) (k : all (same_entry kind t s) (entries kind) ≡ true) where
  held_both : (f : File) (r : ℕ) → length f.name ≡ 11 → Held kind s (block_of kind s f r) t (block_of kind t f r)
  held_both f r n =
      ⊎_elim
      (λ (c : no_entry kind (entry_of kind s f (r / 128)) ≡ true).
      let z = block_none kind s f r (leb-true (entries kind) _ c) in
      record {
        nothing = λ q. ⊎_elim
            (λ (d : no_entry kind (entry_of kind t f (r / 128)) ≡ true). block_none kind t f r (leb-true (entries kind) _ d))
            (λ (d : no_entry kind (entry_of kind t f (r / 128)) ≡ false).
            let l = leb-false (entries kind) _ d in
            let w = place_found kind t s k f (r / 128) (map_place kind r) n (place_fits kind r) l in
            let o = map_number kind t (entry_of kind t f (r / 128)) (map_place kind r) in
            block_at kind t f r l
            ∙ ⊎_elim (λ (v : o ≡ 0). v) (λ (v : o ≡ 0 → ⊥). absurd (w.something v (sym (number_of kind s f r) ∙ z))) (equal? o 0))
            (either (no_entry kind (entry_of kind t f (r / 128))));
        something = λ q. absurd (q z);
        bytes = λ q. absurd (q z);
      })
      (λ (c : no_entry kind (entry_of kind s f (r / 128)) ≡ false).
      let l = leb-false (entries kind) _ c in
      rw (block_at kind s f r l, number_of kind t f r) (place_found kind s t h f (r / 128) (map_place kind r) n (place_fits kind r) l))
      (either (no_entry kind (entry_of kind s f (r / 128))))

  files_both : (f : File) → length f.name ≡ 11 → no_entry kind (entry_of kind t f 0) ≡ no_entry kind (entry_of kind s f 0)
  files_both f n =
      ⊎_elim
      (λ (c : no_entry kind (entry_of kind s f 0) ≡ true). ⊎_elim
      (λ (d : no_entry kind (entry_of kind t f 0) ≡ true). d ∙ sym c)
      (λ (d : no_entry kind (entry_of kind t f 0) ≡ false). absurd (never c (first_found kind t s k f n (leb-false (entries kind) _ d))))
      (either (no_entry kind (entry_of kind t f 0))))
      (λ (c : no_entry kind (entry_of kind s f 0) ≡ false). first_found kind s t h f n (leb-false (entries kind) _ c) ∙ sym c)
      (either (no_entry kind (entry_of kind s f 0)))

  marks_both : (f : File) → length f.name ≡ 11 → attributes kind t f ≡ attributes kind s f
  unfolding same_marks same_high
  marks_both f n =
      ⊎_elim
      (λ (c : no_entry kind (entry_of kind s f 0) ≡ true). marks_none kind t f (files_both f n ∙ c) ∙ sym (marks_none kind s f c))
      (λ (c : no_entry kind (entry_of kind s f 0) ≡ false).
      let at = name_at (entry_of kind s f 0) in
      let bt = name_at (entry_of kind t f 0) in
      marks_there kind t f (files_both f n ∙ c)
      ∙ tab_ext (high_from t bt) (high_from s at) 11
      (λ i l. eqb-true _ _ (all_at (same_high s at t bt) 11 i (and_snd _ _ (marks_found kind s t h f n (leb-false (entries kind) _ c))) l))
      ∙ sym (marks_there kind s f c))
      (either (no_entry kind (entry_of kind s f 0)))

-- ---- and back

module _ (kind : Kind) (s t : List ℕ) (g : sound_image kind s ≡ true) (h : sound_image kind t ≡ true) (w : SameBook kind s t)
    (e : ℕ) (l : e < entries kind) (u : is_empty s e ≡ false) where
  abbrev f : File
  f = file_at s e

  abbrev x : ℕ
  x = extent_at s e

  -- the file as Look is told it
  told : file_from (user_byte s e) f.name 0 ≡ f
  unfolding file_at file_from
  told = λ i. record {
    user = user_byte s e;
    name = tab_ext (low_from (tab (low_from s (name_at e)) 11) 0) (low_from s (name_at e)) 11
        (λ k m. ap (λ (n : ℕ). byte (tab (low_from s (name_at e)) 11) n % 128) (zero-add k)
        ∙ ap (λ (b : ℕ). b % 128) (tab_at (low_from s (name_at e)) 11 k 0 m) ∙ low_low (byte s (name_at e + k))) i;
  }

  may : may_look kind (user_byte s e) f.name s ≡ true
  unfolding may_look good_fields good_user file_at
  may =
      let q = (sound_of kind s g).files.fields e l u in
      and_both _ _ g (and_both _ _ (and_fst _ _ q) (and_both _ _ (eq-eqb _ _ (from_long (user_byte s e) s (name_at e)))
      (name_legal (user_byte s e) s (name_at e) (and_fst _ _ (and_snd _ _ q)))))

  shown : (r : ℕ) → Shown kind s t f r
  shown r = rw told at (look_shown kind (user_byte s e) f.name r s t g h may (w.looks (user_byte s e) f.name r))

  -- entry e is where its file and extent stand
  here : entry_of kind s f x ≡ e
  here =
      let i : Is s f x e = record { used = u; file = refl; extent = refl } in
      let b = found_below kind s f x e l i in
      only kind s f x (entry_of kind s f x) e (sound_of kind s g).files b l (found_is kind s f x (file_long s e) b) i

  -- place k of its map, by the records that it is of
  module _ (k : ℕ) (m : k < numbers kind) where
    abbrev rec : ℕ → ℕ
    rec i = record_over kind x k i

    block_s : (i : ℕ) → i < block_size kind → block_of kind s f (rec i) ≡ map_number kind s e k
    block_s i n =
        let q : entry_of kind s f (rec i / 128) ≡ e = ap (entry_of kind s f) (over_extent kind x k i m n) ∙ here in
        block_at kind s f (rec i) (omega arith) ∙ rw (q, over_place kind x k i m n) refl

    block_t : (i : ℕ) → i < block_size kind → block_of kind t f (rec i) ≡ number_in kind t (entry_of kind t f x) k
    block_t i n = number_of kind t f (rec i) ∙ rw (over_extent kind x k i m n, over_place kind x k i m n) refl

    some : 0 < block_size kind
    some = let a = directory_size kind in let b = entries_some kind in omega arith

    held : Held kind s (map_number kind s e k) t (number_in kind t (entry_of kind t f x) k)
    held = record {
      nothing = λ z. sym (block_t 0 some) ∙ (shown (rec 0)).nothing (block_s 0 some ∙ z);
      something = λ z y. (shown (rec 0)).something (λ q. z (sym (block_s 0 some) ∙ q)) (block_t 0 some ∙ y);
      bytes = λ z i n.
          let v = (shown (rec i)).bytes (λ q. z (sym (block_s i n) ∙ q)) (i % 128) (omega arith) in
          let a = map_number kind s e k in
          let b = number_in kind t (entry_of kind t f x) k in
          let v' : byte t (record_at kind b (rec i) + i % 128) ≡ byte s (record_at kind a (rec i) + i % 128) =
          rw (block_s i n, block_t i n) at v in
          sym (ap (byte t) (over_byte kind x k i b n)) ∙ v' ∙ ap (byte s) (over_byte kind x k i a n);
    }

  marked : x ≡ 0 → same_marks kind s e t (entry_of kind t f x) ≡ true
  unfolding same_marks same_high
  marked z =
      let d = entry_of kind t f 0 in
      let c : entry_of kind s f 0 ≡ e = ap (entry_of kind s f) (sym z) ∙ here in
      let a : no_entry kind (entry_of kind s f 0) ≡ false = lt-leb (entries kind) (entry_of kind s f 0) (omega arith) in
      let b : no_entry kind d ≡ false = sym (missing_is kind t f) ∙ w.files f (file_long s e) ∙ missing_is kind s f ∙ a in
      let q : tab (high_from t (name_at d)) 11 ≡ tab (high_from s (name_at e)) 11 =
      sym (marks_there kind t f b) ∙ w.marks f (file_long s e) ∙ marks_there kind s f a ∙ ap (λ (n : ℕ). tab (high_from s (name_at n)) 11) c in
      rw z (and_both _ _ (not_of_false _ b) (all_make (same_high s (name_at e) t (name_at d)) 11 (λ k m.
      eq-eqb _ _ (sym (tab_at (high_from t (name_at d)) 11 k 0 m) ∙ ap (λ (y : List ℕ). get_or y k 0) q ∙ tab_at (high_from s (name_at e)) 11 k 0 m))))

  entry_kept : same_at kind s e t (entry_of kind t f x) ≡ true
  unfolding same_at same_place
  entry_kept =
      and_both _ _ (all_make (same_place kind s e t (entry_of kind t f x)) (numbers kind) (λ k m. held_so kind s _ t _ (held k m)))
      (or_case _ _ (λ z. marked (eqb-true _ _ (not-false _ z))))

-- ---- the test decides the statement

-- one direction is the other with the images turned
pub same_sym : (kind : Kind) (s t : List ℕ) → SameBook kind s t → SameBook kind t s
same_sym kind s t w = record {
  files = λ f n. sym (w.files f n);
  marks = λ f n. sym (w.marks f n);
  looks = λ u name r. sym (w.looks u name r);
}

module _ (kind : Kind) (s t : List ℕ) (g : sound_image kind s ≡ true) (h : sound_image kind t ≡ true) where
  -- Of two sound images that pass the test the same book is held, ..
  pub same_of : same_book kind s t ≡ true → SameBook kind s t
  unfolding same_book missing look_up
  same_of w =
      let a = and_fst _ _ w in
      let b = and_snd _ _ w in
      record {
        files = files_both kind s t a b;
        marks = marks_both kind s t a b;
        looks = λ u name r.
            let f = file_from u name 0 in
            shown_look kind u name r s t g h (held_shown kind s t f r (held_both kind s t a b f r (from_long u name 0)));
      }

  -- .. and two that hold the same book pass it.
  pub same_so : SameBook kind s t → same_book kind s t ≡ true
  unfolding same_book same_entry
  same_so w =
      and_both _ _
      (all_make (same_entry kind s t) (entries kind) (λ e l. or_case _ _ (λ u. entry_kept kind s t g h w e l u)))
      (all_make (same_entry kind t s) (entries kind) (λ e l. or_case _ _ (λ u. entry_kept kind t s h g (same_sym kind s t w) e l u)))
