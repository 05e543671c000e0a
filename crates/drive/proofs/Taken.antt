-- The marks of a sound directory, with the bits of its own two blocks, are the vector of the image. Assumes nothing.
use Rattle.std.proofs.Common.{ℕ, ◌+◌, ◌-◌, ◌*◌, ◌≤◌, ◌<◌, ◌≡◌, refl, sym, ap, ◌∙◌, Bool, true, false, not, true≢false, List, ◌++◌, append-nil}
use Rattle.std.proofs.Common.{⊎_elim, arith, length, take, drop, replicate, eqb, ltb, rules, eq-eqb, ne_eqb, eqb-true, leb-true, lt-ltb, le-ltb}
use Rattle.std.proofs.Common.{ltb-true, ltb-false}
use Rattle.std.proofs.Math.ListN.{length-replicate}
use borrow.Author.Tests.{not-true, not-false}
use Rattle.words.specs.Tests.{◌and◌, ◌or◌, ◌if◌else◌, all}
use Rattle.words.specs.Bytes.{same_byte}
use Rattle.words.specs.Bits.{is_set, with_bit}
use Rattle.words.specs.Hints.{Hints}
use Rattle.words.specs.Tables.{first_of}
use Rattle.words.proofs.Tests.{either, equal?, and_fst, and_snd, and_false, any_some}
use Rattle.words.proofs.Bitwise.{length_bit, set_here, set_there, set_stays, bytes_bit}
use Rattle.rules.specs.declared.kind.Kind.{Kind}
use Rattle.rules.specs.declared.kind.Kind.TheVariants.{Small, Large}
use Rattle.rules.specs.Kinds.{fewest, most, vector_size, entries, numbers}
use Rattle.rules.specs.Drive.{good_length, blocks, map_number, holds_number, names_block, is_used, sound_image}
use Rattle.rules.specs.Vector.{is_taken, vector_of, agrees, built, rows_build, build_ends, build}
use Rattle.rules.proofs.Sizes.{most_some, vector_bits}
use Rattle.rules.proofs.Sound.{Names, sound_of, sound_length}
use Rattle.rules.proofs.Vector.{vector-long, vector_is, agrees_same}
use Rattle.index.specs.Slots.{slot_at, in_use}
use Rattle.drive.specs.Marks.{Marks}
use Rattle.drive.specs.Walks.{Marking, Vectored}
use Rattle.drive.proofs.Marks.{zeros, to_next}

-- ---- which blocks of a sound image are taken

-- the directory's two are there
two_blocks : (kind : Kind) (s : List ℕ) → good_length kind s ≡ true → 2 ≤ blocks kind s
unfolding good_length fewest
two_blocks (Small u) s h = let k : 3 ≤ blocks (Small u) s = leb-true _ _ (and_fst _ _ (and_snd _ _ h)) in omega arith
two_blocks (Large u) s h = let k : 257 ≤ blocks (Large u) s = leb-true _ _ (and_fst _ _ (and_snd _ _ h)) in omega arith

module _ (kind : Kind) (s : List ℕ) (sound : sound_image kind s ≡ true) where
  -- a block that an entry names is one of the drive's
  used_below : (b : ℕ) → 2 ≤ b → is_used kind s b ≡ true → b < blocks kind s
  unfolding is_used names_block holds_number
  used_below b l h =
      let w = any_some (names_block kind s b) (entries kind) h in
      let v = any_some (holds_number kind s b w.0) (numbers kind) (and_snd _ _ w.2) in
      let q : map_number kind s w.0 v.0 ≡ b = eqb-true _ _ v.2 in
      let n : Names kind s w.0 v.0 = record {
        entry_there = w.1;
        place_there = v.1;
        entry_used = not-true _ (and_fst _ _ w.2);
        some = λ (z : map_number kind s w.0 v.0 ≡ 0). omega arith;
      } in
      let r : map_number kind s w.0 v.0 < blocks kind s = ((sound_of kind s sound).maps.range _ _ n).1 in omega arith

  -- the directory's blocks are taken, ..
  low_taken : (b : ℕ) → b < 2 → true ≡ is_taken kind s b
  unfolding is_taken ◌and◌ ◌or◌
  low_taken b l =
      let k = two_blocks kind s (sound_length kind s sound) in
      let m : b < blocks kind s = omega arith in rw (lt-ltb b (blocks kind s) m, lt-ltb b 2 l)

  -- .. of the others those that an entry names
  high_taken : (b : ℕ) → 2 ≤ b → is_used kind s b ≡ is_taken kind s b
  unfolding is_taken
  high_taken b l =
      ⊎_elim
      (λ (u : is_used kind s b ≡ true). rw (u, lt-ltb b (blocks kind s) (used_below b l u), le-ltb b 2 l) both)
      (λ (u : is_used kind s b ≡ false). rw (u, le-ltb b 2 l) (none (ltb b (blocks kind s)))) (either (is_used kind s b))
    where
      both : true ≡ (true and (false or true))
      both = unfold ◌and◌ ◌or◌ in refl

      none : (t : Bool) → false ≡ (t and (false or false))
      none t = unfold ◌or◌ in sym (and_false t)

  -- the marks with the bits of blocks 0 and 1
  module _ (v : List ℕ) (m : Marks kind 1 s (entries kind) 0 v) where
    bit_is : (b : ℕ) → b < most kind → is_set (with_bit 1 (with_bit 0 v)) b ≡ is_taken kind s b
    unfolding is_used
    bit_is b l =
        let some = most_some kind in
        let t = with_bit 0 v in
        let o : length t ≡ length v = length_bit v 0 in
        ⊎_elim
        (λ (k : ltb b 2 ≡ true).
        let k' = ltb-true b 2 k in
        ⊎_elim (λ (q : b ≡ 1). rw q (set_here t 1 (omega (arith, m.long))))
        (λ (q : b ≡ 1 → ⊥).
        let z : b ≡ 0 = omega arith in rw z (set_stays t 1 0 (omega (arith, m.long)) (set_here v 0 (omega (arith, m.long)))))
        (equal? b 1)
        ∙ low_taken b k')
        (λ (k : ltb b 2 ≡ false).
        let k' = ltb-false b 2 k in
        set_there t 1 b (λ q. omega arith) (omega (arith, m.long))
        ∙ set_there v 0 b (λ q. omega arith) (omega (arith, m.long))
        ∙ m.mark b (omega arith) l ∙ to_next kind s b (entries kind) ∙ high_taken b k') (either (ltb b 2))

    marks_vector : with_bit 1 (with_bit 0 v) ≡ vector_of kind s
    marks_vector =
        let n = vector_bits kind in
        let o : length (with_bit 1 (with_bit 0 v)) ≡ length v = length_bit (with_bit 0 v) 1 ∙ length_bit v 0 in
        vector_is kind s (with_bit 1 (with_bit 0 v)) (omega (arith, m.long)) (bytes_bit (with_bit 0 v) 1 (bytes_bit v 0 m.bytes)) bit_is

-- ---- the walk that leaves it

-- as it is lent, no block has a mark
pub vector_none : (kind : Kind) (s v : List ℕ) → v ≡ replicate (vector_size kind) 0 → Marks kind 1 s 0 0 v
vector_none kind s v h = rw h (zeros kind 1 s (vector_size kind) (vector_bits kind))

module _ (kind : Kind) (s : List ℕ) (r : Bool) (seen hints : List ℕ) (w : Marking kind s r seen hints) where
  -- the image is unsound
  pub vectored_not : not r ≡ true → (v : List ℕ) → Vectored kind s false v hints
  vectored_not n v = record {
    answer = sym (not-true r n) ∙ w.walk.answer;
    knows = λ z. absurd (true≢false (sym z));
    vector = λ z. absurd (true≢false (sym z));
  }

  -- it is sound: there is room for both bits, ..
  module _ (n : not r ≡ false) where
    pub first_room : (b : ℕ) → b < 2 → b < 8 * length seen
    first_room b l = let some = most_some kind in omega (arith, (w.marks (not-false r n)).long)

    pub second_room : (b : ℕ) (t : List ℕ) → t ≡ with_bit 0 seen → b < 2 → b < 8 * length t
    second_room b t h l =
        let some = most_some kind in
        let o : length t ≡ length seen = ap length h ∙ length_bit seen 0 in omega (arith, (w.marks (not-false r n)).long)

    -- .. and with them it is the vector
    pub vectored_so : (t u : List ℕ) → t ≡ with_bit 0 seen → u ≡ with_bit 1 t → Vectored kind s true u hints
    vectored_so t u h g = record {
      answer = sym (not-false r n) ∙ w.walk.answer;
      knows = λ z. w.walk.knows (not-false r n);
      vector = λ z.
          g ∙ ap (λ (x : List ℕ). with_bit 1 x) h
          ∙ marks_vector kind s (sym w.walk.answer ∙ not-false r n) seen (w.marks (not-false r n));
    }

pub ruleset vectoring = (rules, vector_none, vectored_not, first_room, second_room, vectored_so)

-- ---- what is known after `sound_vector(..)`

module _ (kind : Kind) (s : List ℕ) (r : Bool) (seen hints : List ℕ) (w : Vectored kind s r seen hints) where
  -- what it answers
  pub vectored_answer : r ≡ sound_image kind s
  vectored_answer = w.answer

  -- after `if !sound_vector(..) { return .. }`
  module _ (n : not r ≡ false) where
    -- the image is sound, ..
    pub vectored_sound : sound_image kind s ≡ true
    vectored_sound = sym w.answer ∙ not-false r n

    -- .. the hints know its entries, ..
    pub vectored_knows : Hints (slot_at s) (in_use s) (entries kind) hints
    vectored_knows = w.knows (not-false r n)

    module _ (v : List ℕ) (l : length v ≡ vector_size kind) where
      -- .. what was built is as long as a vector lent, ..
      pub vectored_long : length seen ≡ length v
      vectored_long = ap length (w.vector (not-false r n)) ∙ vector-long kind s ∙ sym l

      -- .. which agrees where both are the same
      pub vectored_agrees : (t : Bool) → t ≡ all (same_byte v seen) (length v) → t ≡ agrees kind v s
      vectored_agrees t h =
          h ∙ ap (all (same_byte v seen)) l ∙ ap (λ (x : List ℕ). all (same_byte v x) (vector_size kind)) (w.vector (not-false r n))
          ∙ sym (agrees_same kind s v)

-- ---- the ends of the routine that builds it

module _ (kind : Kind) (s v zs : List ℕ) (z : zs ≡ replicate (vector_size kind) 0) where
  size : length zs ≡ vector_size kind
  size = ap length z ∙ length-replicate (vector_size kind) 0

  -- another length
  pub build_long : (length v ≡ length zs → ⊥) → built 3583 v ≡ build kind s v
  unfolding build build_ends rows_build first_of ◌if◌else◌
  build_long n = rw (ne_eqb (length v) (vector_size kind) (λ q. n (q ∙ sym size)))

  module _ (l : length v ≡ length zs) (r : Bool) (seen hints : List ℕ) (w : Vectored kind s r seen hints) where
    fits : eqb (length v) (vector_size kind) ≡ true
    fits = eq-eqb _ _ (l ∙ size)

    -- an unsound image
    pub build_unsound : not r ≡ true → built 511 v ≡ build kind s v
    unfolding build build_ends rows_build first_of ◌if◌else◌
    build_unsound n = let q : sound_image kind s ≡ false = sym w.answer ∙ not-true r n in rw (fits, q)

    module _ (n : not r ≡ false) where
      -- the vector is built
      pub build_done : (u : List ℕ) → u ≡ seen → built 0 u ≡ build kind s v
      unfolding build build_ends rows_build first_of ◌if◌else◌
      build_done u h =
          let q : sound_image kind s ≡ true = sym w.answer ∙ not-false r n in
          let e : u ≡ vector_of kind s = h ∙ w.vector (not-false r n) in rw (fits, q, e)

-- the first bytes of an array of zeros, as many as the kind has
pub lent_first : (kind : Kind) (n : ℕ) → n ≡ vector_size kind → take {A = ℕ} n (replicate 512 0) ≡ replicate (vector_size kind) 0
unfolding vector_size
lent_first (Small u) n h = rw h refl
lent_first (Large u) n h = rw h refl

-- .. where the part is written with its beginning
pub lent_zeros : (kind : Kind) (n : ℕ) → n ≡ vector_size kind → n ≤ 512 → take {A = ℕ} (n - 0) (drop 0 (replicate 512 0)) ≡ replicate (vector_size kind) 0
lent_zeros kind n h l = let e : n - 0 ≡ n = omega arith in rw e (lent_first kind n h)

pub ruleset building = (rules, build_long, build_unsound, build_done)
