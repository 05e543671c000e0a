-- Bits of the vector set and cleared: a block taken, a file's blocks number by number and entry by entry. Assumes nothing.
use Rattle.std.proofs.Common.{ℕ, ◌+◌, ◌*◌, ◌≤◌, ◌<◌, ◌≡◌, refl, sym, ap, subst, ◌∙◌, Bool, true, false, not, List, ⊎_elim, add-one, arith, length, leb, eq-eqb, ne_eqb, leb-true, le-leb, ltb-true}
use borrow.Author.Tests.{not-true}
use Rattle.words.specs.Tests.{◌and◌, ◌or◌, ◌if◌else◌, all, any}
use Rattle.words.specs.Bits.{is_set, without_bit}
use Rattle.words.proofs.Tests.{either, equal?, all_at, and_fst, and_snd, and_false, or_so}
use Rattle.words.proofs.Bitwise.{length_clear, cleared_here, cleared_there, bytes_clear}
use Rattle.rules.specs.declared.kind.Kind.{Kind}
use Rattle.rules.specs.declared.file.File.{File}
use Rattle.rules.specs.Kinds.{entries, numbers, most, vector_size}
use Rattle.rules.specs.Drive.{blocks, is_of, map_number, holds_number, in_range, good_entry, sound_directory, sound_image}
use Rattle.rules.proofs.Sizes.{vector_bits, most_some}
use Rattle.rules.proofs.Sound.{sound_length, length_few}
use Rattle.soundness.specs.Taking.{holds_block, is_block_of}
use Rattle.writing.specs.Clears.{Cleared, without_block, is_block_in, is_block_at}

-- ---- one clearing after another

twice : (s g h : Bool) → ((s and not g) and not h) ≡ (s and not (g or h))
unfolding ◌and◌ ◌or◌
twice true true h = refl
twice true false h = refl
twice false g h = refl

kept : (s : Bool) → s ≡ (s and not false)
unfolding ◌and◌
kept true = refl
kept false = refl

spread : (l a b : Bool) → (l and (a or b)) ≡ ((l and a) or (l and b))
unfolding ◌and◌ ◌or◌
spread true a b = refl
spread false a b = refl

module _ (n : ℕ) (v : List ℕ) where
  -- nothing is cleared
  cleared_none : (g : ℕ → Bool) → ((x : ℕ) → g x ≡ false) → Cleared n g v v
  cleared_none g h = record { long = refl; bytes = λ b. b; bit = λ x l. kept (is_set v x) ∙ ap (λ (t : Bool). is_set v x and not t) (sym (h x)) }

  -- what one test clears, and then another
  cleared_both : (g h k : ℕ → Bool) (t u : List ℕ) → ((x : ℕ) → k x ≡ (g x or h x)) → Cleared n g v t → Cleared n h t u → Cleared n k v u
  cleared_both g h k t u q a b = record {
    long = b.long ∙ a.long;
    bytes = λ y. b.bytes (a.bytes y);
    bit = λ x l.
        b.bit x l ∙ ap (λ (y : Bool). y and not (h x)) (a.bit x l) ∙ twice (is_set v x) (g x) (h x) ∙ ap (λ (y : Bool). is_set v x and not y) (sym (q x));
  }

-- the same by another test
cleared_as : (n : ℕ) (g h : ℕ → Bool) (v t : List ℕ) → ((x : ℕ) → h x ≡ g x) → Cleared n g v t → Cleared n h v t
cleared_as n g h v t q a = record { long = a.long; bytes = a.bytes; bit = λ x l. a.bit x l ∙ ap (λ (y : Bool). is_set v x and not y) (sym (q x)) }

-- ---- the numbers of one entry's map

module _ (kind : Kind) (s : List ℕ) (e : ℕ) where
  -- number k is block x
  is_at : ℕ → ℕ → Bool
  is_at k x = leb 2 x and holds_number kind s x e k

  at_last : (k x : ℕ) → is_block_in kind s e (k + 1) x ≡ (is_block_in kind s e k x or is_at k x)
  unfolding is_block_in is_at any
  at_last k x = rw (add-one k) (spread (leb 2 x) (any (holds_number kind s x e) k) (holds_number kind s x e k))

  -- no number cleared yet
  pub in_none : (n : ℕ) (v : List ℕ) → Cleared n (is_block_in kind s e 0) v v
  unfolding is_block_in any
  in_none n v = cleared_none n v (is_block_in kind s e 0) (λ x. and_false (leb 2 x))

  module _ (k b : ℕ) (is : b ≡ map_number kind s e k) where
    -- another block than the one that stands there
    not_at : (x : ℕ) → (x ≡ b → ⊥) → is_at k x ≡ false
    unfolding is_at holds_number
    not_at x q = rw (ne_eqb (map_number kind s e k) x (λ z. q (sym z ∙ sym is))) (and_false (leb 2 x))

    at_here : (x : ℕ) → 2 ≤ x → x ≡ b → is_at k x ≡ true
    unfolding is_at holds_number ◌and◌
    at_here x l q = rw (le-leb 2 x l, eq-eqb (map_number kind s e k) x (sym (q ∙ is)))

    -- no block stands there
    none_at : (n : ℕ) (v : List ℕ) → b ≡ 0 → Cleared n (is_at k) v v
    none_at n v z = cleared_none n v (is_at k) (λ x. ⊎_elim
        (λ (l : leb 2 x ≡ true). not_at x (λ q. let m = leb-true 2 x l in omega arith))
        (λ (l : leb 2 x ≡ false). low x l) (either (leb 2 x)))
      where
        low : (x : ℕ) → leb 2 x ≡ false → is_at k x ≡ false
        low x l = unfold is_at ◌and◌ in rw l

    -- one does
    one_at : (n : ℕ) (v : List ℕ) → 2 ≤ b → b < 8 * length v → Cleared n (is_at k) v (without_bit b v)
    one_at n v l m = record {
      long = length_clear v b;
      bytes = bytes_clear v b;
      bit = λ x h. ⊎_elim
          (λ (q : x ≡ b).
          ap (λ (y : ℕ). is_set (without_bit b v) y) q ∙ cleared_here v b m ∙ sym (and_false (is_set v x))
          ∙ ap (λ (y : Bool). is_set v x and not y) (sym (at_here x (rw q l) q)))
          (λ (q : x ≡ b → ⊥). cleared_there v b x q m ∙ kept (is_set v x) ∙ ap (λ (y : Bool). is_set v x and not y) (sym (not_at x q)))
          (equal? x b);
    }

    module _ (c : ℕ) (size : c ≡ numbers kind) (below : k < c) (range : all (in_range kind s e) (numbers kind) ≡ true) where
      block_low : (b ≡ 0 → ⊥) → (2 ≤ b) × (b < blocks kind s)
      unfolding in_range
      block_low z =
          let r = or_so _ _ (all_at (in_range kind s e) (numbers kind) k range (omega arith)) (ne_eqb _ _ (λ w. z (is ∙ w))) in
          let l : 2 ≤ map_number kind s e k = leb-true _ _ (and_fst _ _ r) in
          let m : map_number kind s e k < blocks kind s = ltb-true _ _ (and_snd _ _ r) in (omega arith, omega arith)

      -- the number has a bit, ..
      pub number_bit : (n : ℕ) (g : ℕ → Bool) (v t : List ℕ) → blocks kind s ≤ most kind → length v ≡ vector_size kind → Cleared n g v t → b < 8 * length t
      number_bit n g v t few long a =
          let y = vector_bits kind in
          let z = a.long in
          ⊎_elim (λ (q : b ≡ 0). let w = blocks_some in omega arith) (λ (q : b ≡ 0 → ⊥). let w = (block_low q).1 in omega arith) (equal? b 0)
        where
          blocks_some : 0 < most kind
          blocks_some = let y = most_some kind in omega arith

      -- .. and with it cleared one number more is
      pub in_more : (n : ℕ) (v t u : List ℕ) → b < 8 * length t → u ≡ without_block b t → Cleared n (is_block_in kind s e k) v t
          → Cleared n (is_block_in kind s e (k + 1)) v u
      unfolding without_block ◌if◌else◌
      in_more n v t u m h a =
          cleared_both n v (is_block_in kind s e k) (is_at k) (is_block_in kind s e (k + 1)) t u (at_last k) a
          (⊎_elim
          (λ (q : b ≡ 0). subst (λ (y : List ℕ). Cleared n (is_at k) t y) (sym (h ∙ rw (eq-eqb b 0 q) refl)) (none_at n t q))
          (λ (q : b ≡ 0 → ⊥). subst (λ (y : List ℕ). Cleared n (is_at k) t y) (sym (h ∙ rw (ne_eqb b 0 q) refl)) (one_at n t (block_low q).0 m))
          (equal? b 0))

  -- all of them
  pub in_all : (n k c : ℕ) (v t : List ℕ) → c ≡ numbers kind → c ≤ k → k ≤ c → Cleared n (is_block_in kind s e k) v t
      → Cleared n (is_block_in kind s e (numbers kind)) v t
  in_all n k c v t q g l a = let z : k ≡ numbers kind = omega arith in subst (λ (y : ℕ). Cleared n (is_block_in kind s e y) v t) z a

-- ---- the entries of the file

module _ (kind : Kind) (s : List ℕ) (f : File) where
  -- an entry of another file has none of its blocks, ..
  pub at_other : (n e : ℕ) (v : List ℕ) (r : Bool) → r ≡ is_of s f e → r ≡ false → Cleared n (is_block_at kind s f e) v v
  unfolding is_block_at holds_block ◌and◌
  at_other n e v r h z =
      let q : is_of s f e ≡ false = sym h ∙ z in cleared_none n v (is_block_at kind s f e) (λ x. rw q (and_false (leb 2 x)))

  -- .. one of the file those of its map
  pub at_own : (n e : ℕ) (v t : List ℕ) (r : Bool) → r ≡ is_of s f e → r ≡ true → Cleared n (is_block_in kind s e (numbers kind)) v t
      → Cleared n (is_block_at kind s f e) v t
  unfolding is_block_at is_block_in holds_block ◌and◌
  at_own n e v t r h z a =
      let q : is_of s f e ≡ true = sym h ∙ z in
      cleared_as n (is_block_in kind s e (numbers kind)) (is_block_at kind s f e) v t (λ x. rw q refl) a

  -- an entry of the file is in use: its numbers are in range
  pub own_range : (e : ℕ) (r : Bool) → sound_image kind s ≡ true → e < entries kind → r ≡ is_of s f e → r ≡ true
      → all (in_range kind s e) (numbers kind) ≡ true
  unfolding is_of sound_image sound_directory good_entry
  own_range e r g l h z =
      let u = or_so _ _ (all_at (good_entry kind s) (entries kind) e (and_fst _ _ (and_snd _ _ g)) l) (not-true _ (and_fst _ _ (sym h ∙ z))) in
      and_fst _ _ (and_snd _ _ u)

  -- no entry gone over yet, ..
  pub of_none : (n : ℕ) (v : List ℕ) → Cleared n (is_block_of kind s f 0) v v
  unfolding is_block_of any
  of_none n v = cleared_none n v (is_block_of kind s f 0) (λ x. and_false (leb 2 x))

  -- .. one more, ..
  pub of_more : (n e : ℕ) (v t u : List ℕ) → Cleared n (is_block_of kind s f e) v t → Cleared n (is_block_at kind s f e) t u
      → Cleared n (is_block_of kind s f (e + 1)) v u
  of_more n e v t u a b = cleared_both n v (is_block_of kind s f e) (is_block_at kind s f e) (is_block_of kind s f (e + 1)) t u last a b
    where
      last : (x : ℕ) → is_block_of kind s f (e + 1) x ≡ (is_block_of kind s f e x or is_block_at kind s f e x)
      last x = unfold is_block_of is_block_at any in rw (add-one e) (spread (leb 2 x) (any (holds_block kind s f x) e) (holds_block kind s f x e))

  -- .. all of them
  pub of_all : (n e c : ℕ) (v t : List ℕ) → c ≡ entries kind → c ≤ e → e ≤ c → Cleared n (is_block_of kind s f e) v t
      → Cleared n (is_block_of kind s f (entries kind)) v t
  of_all n e c v t q g l a = let z : e ≡ entries kind = omega arith in subst (λ (y : ℕ). Cleared n (is_block_of kind s f y) v t) z a

-- the vector keeps its length
pub cleared_long : (n m : ℕ) (g : ℕ → Bool) (v t : List ℕ) → Cleared n g v t → length v ≡ m → length t ≡ m
cleared_long n m g v t a h = a.long ∙ h

-- a sound image has no more blocks than its vector bits
pub few_blocks : (kind : Kind) (s : List ℕ) → sound_image kind s ≡ true → blocks kind s ≤ most kind
few_blocks kind s h = length_few kind s (sound_length kind s h)

-- the clearing of a number or none
pub without_none : (b : ℕ) (v : List ℕ) → b ≡ 0 → v ≡ without_block b v
unfolding without_block ◌if◌else◌
without_none b v z = rw (eq-eqb b 0 z) refl

pub without_one : (b : ℕ) (v t : List ℕ) → (b ≡ 0 → ⊥) → t ≡ without_bit b v → t ≡ without_block b v
unfolding without_block ◌if◌else◌
without_one b v t z h = h ∙ rw (ne_eqb b 0 z) refl
