-- The third pass as the code's needs ask it: a place zeroed keeps the marks. Assumes nothing.
use Rattle.std.proofs.Common.{ℕ, ◌+◌, ◌*◌, ◌≤◌, ◌<◌, ◌≡◌, refl, sym, ap, ◌∙◌, Bool, true, false, not, List, inl, arith, length, get_or, set, drop}
use Rattle.std.proofs.Common.{get_or-append-add, get_or-drop, eqb, leb, ltb, rules, ne_eqb, ltb-true}
use borrow.Author.Tests.{not-true, not-false}
use Rattle.words.specs.Tests.{◌and◌, ◌or◌, count}
use Rattle.words.specs.Lists.{tab, turns}
use Rattle.words.specs.Bytes.{byte, put, le}
use Rattle.words.specs.Bits.{is_set, with_bit}
use Rattle.words.proofs.Tests.{any_ext, any_skip, or_so, and_snd}
use Rattle.words.proofs.Lists.{turns_more, turns_ends, filled, filled_turn, length-tab}
use Rattle.words.proofs.Counts.{count_within}
use Rattle.words.proofs.Sets.{count_adds, count_skips, and_both, and_left, and_right, not_of_true, not_of_false, if_yes, if_no, filled_ends}
use Rattle.words.proofs.Bitwise.{set_again}
use Rattle.rules.specs.declared.kind.Kind.{Kind}
use Rattle.rules.specs.Kinds.{entries, numbers, most, width}
use Rattle.rules.specs.Drive.{blocks, map_at, is_empty, map_number, holds_number, names_block, named_before, in_range}
use Rattle.soundness.proofs.Numbers.{numbered, number_out}
use Rattle.drive.specs.Marks.{Marks}
use Rattle.drive.proofs.Marks.{marks_skip, marks_set, marks_long, marks_empty, marks_used, first_zero, first_marked, first_unmarked}
use Rattle.drive.proofs.Marks.{range_as}
use Rattle.repair.specs.Salvage.{must_zero, zeroed_at, zeroed_to, is_zeroed, cleaned_at, cleaned_to, told_of}
use Rattle.repair.proofs.Zeros.{zeroed_here, zeroed_other, numbers_few}
use Rattle.repair.proofs.Changes.{to_zeroes, zeroes_empty}
use Rattle.salvage.specs.Passes.{PlaceDone, PlacesDone, EntryDone, EntriesDone, told_from}

-- an image of the same length has as many blocks
pub blocks_kept : (kind : Kind) (s t : List ℕ) → blocks kind s ≤ most kind → length t ≡ length s → blocks kind t ≤ most kind
unfolding blocks
blocks_kept kind s t h e = rw e h

-- ---- one place

-- the marks, when place k of entry e is zeroed: it names nothing, and what stands before it is as it was
module _ (kind : Kind) (s : List ℕ) (e k : ℕ) (fits : 32 * e + 32 ≤ length s) (there : k < numbers kind) where
  abbrev zeroed : List ℕ
  zeroed = numbered kind e k 0 s

  holds_same : (x d j : ℕ) → j < numbers kind → ((d ≡ e) × (j ≡ k) → ⊥) → holds_number kind zeroed x d j ≡ holds_number kind s x d j
  unfolding holds_number
  holds_same x d j l o = ap (λ (n : ℕ). eqb n x) (zeroed_other kind s e k fits there d j l o)

  empty_still : (d : ℕ) → d < e → is_empty zeroed d ≡ is_empty s d
  unfolding is_empty
  empty_still d l = ap (λ (b : ℕ). eqb b 0xE5) (number_out kind s e k 0 fits there (32 * d) (inl (omega arith)))

  names_same : (x d : ℕ) → d < e → names_block kind zeroed x d ≡ names_block kind s x d
  unfolding names_block
  names_same x d l =
      let other : (j : ℕ) → (d ≡ e) × (j ≡ k) → ⊥ = λ j z. let w = z.0 in absurd (omega arith) in
      rw (empty_still d l, any_ext (holds_number kind zeroed x d) (holds_number kind s x d) (numbers kind) (λ j i. holds_same x d j i (other j)))

  none : (x : ℕ) → 1 ≤ x → holds_number kind zeroed x e k ≡ false
  unfolding holds_number
  none x p = ne_eqb _ _ (λ (z : map_number kind zeroed e k ≡ x). let w = zeroed_here kind s e k fits there in absurd (omega arith))

  before_same : (x : ℕ) → 1 ≤ x → named_before kind zeroed x e (k + 1) ≡ named_before kind s x e k
  unfolding named_before
  before_same x p =
      let other : (j : ℕ) → j < k → (e ≡ e) × (j ≡ k) → ⊥ = λ j l z. let w = z.1 in absurd (omega arith) in
      rw (
        any_ext (names_block kind zeroed x) (names_block kind s x) e (λ d l. names_same x d l),
        any_skip (holds_number kind zeroed x e) k (none x p),
        any_ext (holds_number kind zeroed x e) (holds_number kind s x e) k (λ j l. holds_same x e j (omega arith) (other j l)),
      )

  marks_zeroed : (seen : List ℕ) → Marks kind 1 s e k seen → Marks kind 1 zeroed e (k + 1) seen
  marks_zeroed seen m = record { long = m.long; bytes = m.bytes; mark = λ x p l. m.mark x p l ∙ sym (before_same x p) }

zero_range : (kind : Kind) (s : List ℕ) (e k b : ℕ) → b ≡ map_number kind s e k → b ≡ 0 → in_range kind s e k ≡ true
unfolding in_range ◌or◌
zero_range kind s e k b h z = rw (← h, z)

module _ (kind : Kind) (s : List ℕ) (e k b : ℕ) (seen : List ℕ) (m : Marks kind 1 s e k seen) (h : b ≡ map_number kind s e k)
    (fits : 32 * e + 32 ≤ length s) (there : k < numbers kind) where
  stays : must_zero kind s e k ≡ false → (v : List ℕ) → Marks kind 1 s e (k + 1) v → PlaceDone kind s e k false s v
  unfolding zeroed_at
  stays q v w = record { image = if_no _ _ _ _ q refl; told = sym q; marks = w }

  goes : must_zero kind s e k ≡ true → (t : List ℕ) → t ≡ numbered kind e k 0 s → PlaceDone kind s e k true t seen
  unfolding zeroed_at
  goes q t w = record { image = if_yes _ _ _ _ q w; told = sym q; marks = rw w (marks_zeroed kind s e k fits there seen m) }

  -- the marks may be written anew
  done_as : (r : Bool) (t v : List ℕ) → v ≡ seen → PlaceDone kind s e k r t seen → PlaceDone kind s e k r t v
  done_as r t v w d = rw w d

  -- no block
  pub done_none : b ≡ 0 → PlaceDone kind s e k false s seen
  unfolding must_zero
  done_none z =
      stays (not_of_true _ (and_both _ _ (zero_range kind s e k b h z) (first_zero kind s e k seen b m h z))) seen (marks_skip kind s e k seen b m h z)

  module _ (r : Bool) (n : ℕ) (i : n ≡ blocks kind s) (g : r ≡ (eqb b 0 or (leb 2 b and ltb b n))) where
    in-range : r ≡ in_range kind s e k
    in-range = range_as kind r s e k b n h i g

    -- out of range
    pub done_out : (t : List ℕ) → not r ≡ true → t ≡ put (map_at kind e k) (le (width kind) 0) s → PlaceDone kind s e k true t seen
    unfolding must_zero
    done_out t q w = goes (not_of_false _ (and_left _ _ (sym in-range ∙ not-true r q))) t w

    module _ (few : blocks kind s ≤ most kind) (some : b ≡ 0 → ⊥) (q : not r ≡ false) where
      low : b < most kind
      low = let w : b < n = ltb-true b n (and_snd _ _ (or_so _ _ (sym g ∙ not-false r q) (ne_eqb b 0 some))) in omega arith

      -- a number in range has a mark: ..
      pub range_mark : b < 8 * length seen
      range_mark = marks_long kind 1 s e k seen b m low

      -- .. it was set, and the number named before; ..
      module _ (x : Bool) (is : x ≡ is_set seen b) (v : List ℕ) (w : v ≡ with_bit b seen) where
        pub done_twice : (t : List ℕ) → x ≡ true → t ≡ put (map_at kind e k) (le (width kind) 0) s → PlaceDone kind s e k x t v
        unfolding must_zero
        done_twice t y z =
            rw y (done_as true t v (w ∙ set_again seen b (sym is ∙ y))
            (goes (not_of_false _ (and_right _ _ (sym in-range ∙ not-false r q) (first_marked kind s e k seen b m h some low x is y))) t z))

        -- .. or it was not, and the number is the first
        pub done_first : x ≡ false → PlaceDone kind s e k x s v
        unfolding must_zero
        done_first y =
            rw y (stays (not_of_true _ (and_both _ _ (sym in-range ∙ not-false r q) (first_unmarked kind s e k seen b m h some low x is y)))
            v (marks_set kind 1 s e k seen b m h v w low))

pub ruleset placing = (rules, refl, range_mark, done_none, done_out, done_twice, done_first)

-- ---- one entry

-- no place yet, ..
pub places_none : (kind : Kind) (s : List ℕ) (e : ℕ) (seen : List ℕ) → Marks kind 1 s e 0 seen → PlacesDone kind s e 0 0 s seen
unfolding zeroed_to turns count
places_none kind s e seen m = record { image = refl; told = refl; marks = m }

module _ (kind : Kind) (s : List ℕ) (e k n : ℕ) (t seen : List ℕ) (g : PlacesDone kind s e k n t seen) where
  -- .. one place more, ..
  module _ (r : Bool) (u after : List ℕ) (h : PlaceDone kind t e k r u after) where
    zeroed_so : is_zeroed kind s e k ≡ r
    unfolding is_zeroed
    zeroed_so = ap (λ (v : List ℕ). must_zero kind v e k) (sym g.image) ∙ sym h.told

    one_more : (m : ℕ) → m ≡ count (is_zeroed kind s e) (k + 1) → PlacesDone kind s e (k + 1) m u after
    unfolding zeroed_to
    one_more m q = record { image = turns_more (zeroed_at kind e) k s t u g.image h.image; told = q; marks = h.marks }

    pub places_more : r ≡ true → PlacesDone kind s e (k + 1) (n + 1) u after
    places_more z = one_more (n + 1) (count_adds (is_zeroed kind s e) k n g.told (zeroed_so ∙ z))

    pub places_stay : r ≡ false → PlacesDone kind s e (k + 1) n u after
    places_stay z = one_more n (count_skips (is_zeroed kind s e) k n g.told (zeroed_so ∙ z))

  -- the count is a byte
  pub places_room : (m : ℕ) → k < m → m ≡ numbers kind → n + 1 < 256
  places_room m l f =
      let w : n ≤ k = rw g.told (count_within (is_zeroed kind s e) k) in let few = numbers_few kind in omega arith

  -- .. what is marked then, ..
  pub places_marks : Marks kind 1 t e k seen
  places_marks = g.marks

  -- .. and all places
  pub places_ends : (m : ℕ) → m ≡ numbers kind → m ≤ k → k ≤ m → PlacesDone kind s e (numbers kind) n t seen
  places_ends m i h l = let q : k ≡ numbers kind = omega arith in rw q at g

pub ruleset mapping = (rules, places_none, places_more, places_stay, places_room, places_marks, places_ends, blocks_kept)

module _ (kind : Kind) (was : ℕ) (s : List ℕ) (e : ℕ) (r : Bool) (seen : List ℕ) (h : r ≡ is_empty s e) where
  -- an empty entry is left alone, ..
  pub entry_empty : Marks kind 1 s e 0 seen → r ≡ true → EntryDone kind was s e was s seen
  unfolding cleaned_at told_of
  entry_empty m t = record {
    image = if_yes _ _ _ _ (sym h ∙ t) refl;
    told = if_yes _ _ _ _ (sym h ∙ t) refl;
    marks = marks_empty kind 1 s e seen r m h t;
  }

  -- .. one in use has had all its places
  pub entry_used : (n : ℕ) (t : List ℕ) → e < entries kind → 32 * entries kind ≤ length s → r ≡ false → PlacesDone kind s e (numbers kind) n t seen
      → EntryDone kind was s e n t seen
  unfolding cleaned_at told_of
  entry_used n t l long f g =
      let q : is_empty s e ≡ false = sym h ∙ f in
      let z = to_zeroes kind s e (numbers kind) l (omega arith) long q in
      let w : is_empty t e ≡ false = ap (λ (v : List ℕ). is_empty v e) g.image ∙ zeroes_empty kind s (zeroed_to kind e (numbers kind) s) e l z ∙ q in
      record {
        image = if_no _ _ _ _ q g.image;
        told = if_no _ _ _ _ q g.told;
        marks = marks_used kind 1 t e (numbers kind) seen g.marks refl w;
      }

pub ruleset entrywise = (rules, entry_empty, entry_used)

-- ---- all entries: the image and the report so far

-- the entries before e done: the image, the report and the marks
pub record Cleaning (kind : Kind) (r₀ s : List ℕ) (e : ℕ) (t r seen : List ℕ) : Type 0 where
  pub image : t ≡ cleaned_to kind e s
  pub told : r ≡ filled (told_from kind r₀ s) e r₀
  pub marks : Marks kind 1 t e 0 seen

-- no entry yet, ..
pub cleaning_none : (kind : Kind) (r s seen : List ℕ) → Marks kind 1 s 0 0 seen → Cleaning kind r s 0 s r seen
unfolding cleaned_to turns tab
cleaning_none kind r s seen m = record { image = refl; told = refl; marks = m }

-- a list filled as far as e has there what it had
filled_here : (f : ℕ → ℕ) (e : ℕ) (l : List ℕ) → get_or (filled f e l) e 0 ≡ get_or l e 0
filled_here f e l =
    let a : length (tab f e) + 0 ≡ e = omega (arith, length-tab f e) in
    let b : e + 0 ≡ e = omega arith in
    ap (λ (i : ℕ). get_or (filled f e l) i 0) (sym a) ∙ get_or-append-add (tab f e) (drop e l) 0 0 ∙ get_or-drop e l 0 0 ∙ ap (λ (i : ℕ). get_or l i 0) b

module _ (kind : Kind) (r₀ s : List ℕ) (e n : ℕ) (t r seen : List ℕ) (g : Cleaning kind r₀ s e t r seen) where
  -- .. one entry more, ..
  pub cleaning_more : (x : ℕ) (u after : List ℕ) → e < n → n ≡ entries kind → length r₀ ≡ entries kind → EntryDone kind (get_or r e 0) t e x u after
      → Cleaning kind r₀ s (e + 1) u (set r e x) after
  unfolding told_from cleaned_to
  cleaning_more x u after l f m h =
      let was : get_or r e 0 ≡ byte r₀ e = ap (λ (v : List ℕ). get_or v e 0) g.told ∙ filled_here (told_from kind r₀ s) e r₀ in
      record {
        image = turns_more (cleaned_at kind) e s t u g.image h.image;
        told = filled_turn (told_from kind r₀ s) e r₀ r x (omega arith) g.told
            (h.told ∙ ap (λ (w : ℕ). told_of kind w t e) was ∙ ap (λ (v : List ℕ). told_of kind (byte r₀ e) v e) g.image);
        marks = h.marks;
      }

  -- .. what is marked then, ..
  pub cleaning_marks : Marks kind 1 t e 0 seen
  cleaning_marks = g.marks

  -- .. and all entries
  pub cleaning_ends : length r₀ ≡ entries kind → n ≡ entries kind → n ≤ e → e ≤ n → EntriesDone kind r₀ s t r
  unfolding cleaned_to
  cleaning_ends m f h l = record {
    image = turns_ends (cleaned_at kind) (entries kind) e s t g.image (omega arith) (omega arith);
    told = filled_ends (told_from kind r₀ s) (entries kind) e r₀ r m g.told (omega arith) (omega arith);
  }

pub ruleset cleaning = (rules, refl, cleaning_none, cleaning_more, cleaning_marks, cleaning_ends, blocks_kept)
