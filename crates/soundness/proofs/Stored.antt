-- Bytes of a used entry set, its count or a block number, and bytes past the directory, leave the image sound. Assumes nothing.
use Prim.Native.Nat.{ℕ, ◌+◌, ◌*◌, ◌≤◌, ◌<◌}
use mathlib.Core.Path.{◌≡◌, sym, ap, ◌∙◌}
use mathlib.Core.Bool.{true, false}
use mathlib.Core.List.{List}
use mathlib.Core.Logic.{◌⊎◌, inl, inr, ⊎_elim}
use native.Mathlib.Omega.{arith}
use lib.ListN.{length, set, length-set}
use lib.Seq.{get_or-set_same, get_or-set_other}
use lib.Dec.{ltb}
use borrow.Author.Tests.{eq-eqb, leb-true, ltb-true, ltb-false, not-true}
use Rattle.words.specs.Bytes.{byte, put}
use Rattle.words.proofs.Tests.{either, equal?, never, and_fst, and_snd, any_at, any_found}
use Rattle.words.proofs.Bytes.{put_out, length-put}
use Rattle.words.proofs.Sets.{and_both, not_of_false}
use Rattle.rules.specs.declared.kind.Kind.{Kind}
use Rattle.rules.specs.Kinds.{entries, numbers}
use Rattle.rules.specs.declared.file.File.{File}
use Rattle.rules.specs.Drive.{blocks, is_empty, file_at, map_number, good_fields, holds_number, names_block, is_used, is_free}
use Rattle.rules.proofs.Sound.{Names, Maps, SoundImage, length_long, length_few}
use Rattle.rules.proofs.Frames.{Head, Same, head_of, empty_same, extent_same, file_same, fields_so, map_same, names_same, count_good, long_same}
use Rattle.soundness.proofs.Numbers.{map_later, numbered, number_there, number_else, number_out, number_long}
use Rattle.soundness.proofs.Steps.{Stays, moves, fewer, takes}
use Rattle.soundness.proofs.Changes.{Change, grown_same, touches_same}

-- ---- changes that leave the entries' heads

module _ (kind : Kind) (s t : List ℕ) (len : length t ≡ length s) (heads : (e : ℕ) → e < entries kind → Head s e t e)
    (counts : (e : ℕ) → e < entries kind → good_fields kind s e ≡ true → byte t (32 * e + 15) ≤ 128) where
  empties : (e : ℕ) → e < entries kind → is_empty t e ≡ false → is_empty s e ≡ false
  empties e l u = sym (empty_same s e t e (heads e l)) ∙ u

  files : (e : ℕ) → e < entries kind → file_at t e ≡ file_at s e
  files e l = file_same s e t e (heads e l)

  -- the image stays sound where the maps do and each count is at most 128
  pub heads_sound : (Maps kind s → Maps kind t) → SoundImage kind s → SoundImage kind t
  heads_sound m g = record {
    long = long_same kind s t len g.long;
    files = moves kind s t empties (λ e l u q. fields_so s e t e (heads e l) kind (counts e l q) q) (λ e l u. extent_same s e t e (heads e l))
        (λ d e k l u v q. sym (files d k) ∙ q ∙ files e l)
        (λ d e k l u v q. (empty_same s d t d (heads d k) ∙ u, files d k ∙ q ∙ sym (files e l))) g.files;
    maps = m g.maps;
  }

-- a number that is the same, in an entry with the same head, stays
pub stays_same : (kind : Kind) (s t : List ℕ) (e k : ℕ) → Head s e t e → map_number kind t e k ≡ map_number kind s e k → Names kind t e k → Stays kind s t e k
stays_same kind s t e k h y n = record { named = names_same kind s t e k (empty_same s e t e h) y n; number = y }

-- ---- a record's or a block's bytes

module _ (kind : Kind) (s v : List ℕ) (at : ℕ) (f : File) (low : 32 * entries kind ≤ at) (fits : at + length v ≤ length s) (g : SoundImage kind s) where
  -- all entries stay as they are, ..
  pub entries_same : (e : ℕ) → e < entries kind → Same s e (put at v s) e
  entries_same e l = record { at = λ k m. put_out at v s fits (32 * e + k) (inl (omega arith)) }

  -- .. and the image sound: nothing changes but bytes inside the m from a on
  pub data_change : (a m i j : ℕ) → a ≤ at → at + length v ≤ a + m → Change kind s (put at v s) f a m i j
  data_change a m i j from to =
      let t = put at v s in
      let len = length-put at v s fits in
      let h : (e : ℕ) → e < entries kind → Head s e t e = λ e l. head_of s e t e (entries_same e l) in
      let stays : (e k : ℕ) → Names kind t e k → Stays kind s t e k = λ e k n.
      stays_same kind s t e k (h e n.entry_there) (map_same kind s t e k (entries_same e n.entry_there) n.place_there) n in
      record {
        sound = heads_sound kind s t len h (λ e l q. rw ((entries_same e l).at 15 (omega arith)) (count_good kind s e q)) (fewer kind s t len stays) g;
        rest = λ e k n. inr (stays e k n);
        grown = grown_same kind s t entries_same;
        touches = touches_same kind s t f f len entries_same;
        data_kept = record { at = λ b l c. put_out at v s fits b (⊎_elim (λ (z : b < a). inl (omega arith)) (λ (z : a + m ≤ b). inr (omega arith)) c) };
      }

-- ---- bytes 15 to 31 of an entry of the file, count and map

module _ (kind : Kind) (s t : List ℕ) (n : ℕ) (below : n < entries kind) (len : length t ≡ length s)
    (elsewhere : (i : ℕ) → (i < 32 * n + 15) ⊎ (32 * n + 32 ≤ i) → byte t i ≡ byte s i) where
  tail_others : (e : ℕ) → (e ≡ n → ⊥) → Same s e t e
  tail_others e q = record {
    at = λ k m. elsewhere (32 * e + k)
        (⊎_elim (λ (c : ltb e n ≡ true). let l = ltb-true e n c in inl (omega arith))
        (λ (c : ltb e n ≡ false). let l = ltb-false e n c in let w : (e ≡ n → ⊥) = q in inr (omega arith)) (either (ltb e n)));
  }

  -- all heads stay, ..
  pub tail_heads : (e : ℕ) → Head s e t e
  tail_heads e =
      ⊎_elim (λ (q : e ≡ n). rw q (record { at = λ k m. elsewhere (32 * n + k) (inl (omega arith)) }))
      (λ (q : e ≡ n → ⊥). head_of s e t e (tail_others e q)) (equal? e n)

  -- .. and where the image is still sound and keeps its block numbers nothing is taken away
  pub tail_change : (f : File) → file_at s n ≡ f → SoundImage kind t → ((e k : ℕ) → Names kind s e k → map_number kind t e k ≡ map_number kind s e k)
      → byte s (32 * n + 15) ≤ byte t (32 * n + 15) → (a m x y : ℕ) → ((e k : ℕ) → Names kind t e k → ((e ≡ x) × (k ≡ y)) ⊎ Stays kind s t e k)
      → Change kind s t f a m x y
  tail_change f file g stays more a m x y rest = record {
    sound = g;
    rest = rest;
    grown = record {
      head = λ e l u. tail_heads e;
      number = stays;
      rises = λ e l u. ⊎_elim (λ (q : e ≡ n). rw q more)
          (λ (q : e ≡ n → ⊥). let z : byte t (32 * e + 15) ≡ byte s (32 * e + 15) = (tail_others e q).at 15 (omega arith) in omega arith) (equal? e n);
    };
    touches = record {
      long = len;
      entry = λ e l. ⊎_elim
          (λ (q : e ≡ n). inr (record {
            was = λ w. ap (λ (i : ℕ). file_at s i) q ∙ file;
            now = λ w. file_same s e t e (tail_heads e)
                ∙ ap (λ (i : ℕ). file_at s i) q ∙ file;
          }))
          (λ (q : e ≡ n → ⊥). inl (tail_others e q)) (equal? e n);
    };
    data_kept = record { at = λ i l c. elsewhere i (inr (omega arith)) };
  }

-- the count raised, to 128 at most: the image stays sound, and nothing is taken away
pub count_change : (kind : Kind) (s : List ℕ) (n b : ℕ) (f : File) → n < entries kind → b ≤ 128 → byte s (32 * n + 15) ≤ b → file_at s n ≡ f
    → SoundImage kind s → (a m x y : ℕ) → Change kind s (set s (32 * n + 15) b) f a m x y
count_change kind s n b f below small more file g a m x y =
    let t = set s (32 * n + 15) b in
    let len = length-set s (32 * n + 15) b in
    let w = length_long kind s g.long in
    let o : (i : ℕ) → (i ≡ 32 * n + 15 → ⊥) → byte t i ≡ byte s i = λ i q. get_or-set_other s (32 * n + 15) i b 0 q in
    let far : (i : ℕ) → (i < 32 * n + 15) ⊎ (32 * n + 32 ≤ i) → byte t i ≡ byte s i = λ i c. o i (λ (q : i ≡ 32 * n + 15).
    ⊎_elim (λ (z : i < 32 * n + 15). absurd (omega arith)) (λ (z : 32 * n + 32 ≤ i). absurd (omega arith)) c) in
    let h = tail_heads kind s t n below len far in
    let maps : (e k : ℕ) → k < numbers kind → map_number kind t e k ≡ map_number kind s e k = λ e k l.
    map_later kind s t e k l (λ i u v. o (32 * e + i) (λ (q : 32 * e + i ≡ 32 * n + 15). absurd (omega arith))) in
    let stays : (e k : ℕ) → Names kind t e k → Stays kind s t e k = λ e k w. stays_same kind s t e k (h e) (maps e k w.place_there) w in
    tail_change kind s t n below len far f file
    (heads_sound kind s t len (λ e l. h e)
    (λ e l q. ⊎_elim
    (λ (z : e ≡ n). rw (z, get_or-set_same s (32 * n + 15) b 0 (omega arith)) small)
    (λ (z : e ≡ n → ⊥). rw (o (32 * e + 15) (λ (y : 32 * e + 15 ≡ 32 * n + 15). z (omega arith))) (count_good kind s e q))
    (equal? e n))
    (fewer kind s t len stays) g)
    (λ e k w. maps e k w.place_there) (rw (get_or-set_same s (32 * n + 15) b 0 (omega arith)) more) a m x y (λ e k w. inr (stays e k w))

-- ---- a free block taken

-- a free block stands in no map, ..
pub free_unnamed : (kind : Kind) (s : List ℕ) (b : ℕ) → is_free kind s b ≡ true → (e k : ℕ) → Names kind s e k → map_number kind s e k ≡ b → ⊥
unfolding is_free is_used names_block holds_number
free_unnamed kind s b h e k n q =
    never
    (and_both _ _ (not_of_false _ n.entry_used) (any_found (holds_number kind s b e) (numbers kind) k n.place_there (eq-eqb _ _ q)))
    (any_at (names_block kind s b) (entries kind) e (not-true _ (and_snd _ _ h)) n.entry_there)

-- .. and is none of the directory's
pub free_low : (kind : Kind) (s : List ℕ) (b : ℕ) → is_free kind s b ≡ true → 2 ≤ b
unfolding is_free
free_low kind s b h = leb-true 2 b (and_fst _ _ h)

module _ (kind : Kind) (s : List ℕ) (n q b : ℕ) (f : File) (below : n < entries kind) (short : q < numbers kind) (file : file_at s n ≡ f)
    (was : map_number kind s n q ≡ 0) (high : b < blocks kind s) (free : is_free kind s b ≡ true) (g : SoundImage kind s) where
  fits : 32 * n + 32 ≤ length s
  fits = omega (arith, length_long kind s g.long)

  -- it stands in its place, ..
  pub taken_there : map_number kind (numbered kind n q b s) n q ≡ b
  taken_there = number_there kind s n q b fits short (omega (arith, length_few kind s g.long))

  taken_long : length (numbered kind n q b s) ≡ length s
  taken_long = number_long kind s n q b fits short

  far : (i : ℕ) → (i < 32 * n + 15) ⊎ (32 * n + 32 ≤ i) → byte (numbered kind n q b s) i ≡ byte s i
  far i c = number_out kind s n q b fits short i (⊎_elim (λ (z : i < 32 * n + 15). inl (omega arith)) (λ (z : 32 * n + 32 ≤ i). inr z) c)

  heads : (e : ℕ) → Head s e (numbered kind n q b s) e
  heads = tail_heads kind s (numbered kind n q b s) n below taken_long far

  taken_else : (e k : ℕ) → ((e ≡ n) × (k ≡ q) → ⊥) → k < numbers kind → map_number kind (numbered kind n q b s) e k ≡ map_number kind s e k
  taken_else e k c l = number_else kind s n q b e k fits short l c

  -- .. the numbers that stood there stay, ..
  pub taken_number : (e k : ℕ) → Names kind s e k → map_number kind (numbered kind n q b s) e k ≡ map_number kind s e k
  taken_number e k m = taken_else e k (λ c. m.some (ap (λ (i : ℕ). map_number kind s i k) c.0 ∙ ap (λ (i : ℕ). map_number kind s n i) c.1 ∙ was))
      m.place_there

  -- .. no other is new; ..
  pub taken_rest : (e k : ℕ) → Names kind (numbered kind n q b s) e k → ((e ≡ n) × (k ≡ q)) ⊎ Stays kind s (numbered kind n q b s) e k
  taken_rest e k m =
      let t = numbered kind n q b s in
      ⊎_elim
      (λ (y : e ≡ n). ⊎_elim (λ (z : k ≡ q). inl (y, z))
      (λ (z : k ≡ q → ⊥). inr (stays_same kind s t e k (heads e) (taken_else e k (λ c. z c.1) m.place_there) m)) (equal? k q))
      (λ (y : e ≡ n → ⊥). inr (stays_same kind s t e k (heads e) (taken_else e k (λ c. y c.0) m.place_there) m)) (equal? e n)

  count_kept : (e : ℕ) → byte (numbered kind n q b s) (32 * e + 15) ≡ byte s (32 * e + 15)
  count_kept e =
      number_out kind s n q b fits short (32 * e + 15)
      (⊎_elim (λ (c : ltb n e ≡ true). let l = ltb-true n e c in inr (omega arith))
      (λ (c : ltb n e ≡ false). let l = ltb-false n e c in inl (omega arith)) (either (ltb n e)))

  -- .. the image stays sound, and nothing is taken away
  pub block_change : (a m : ℕ) → Change kind s (numbered kind n q b s) f a m n q
  block_change a m =
      let t = numbered kind n q b s in
      tail_change kind s t n below taken_long far f file
      (heads_sound kind s t taken_long (λ e l. heads e) (λ e l c. rw (count_kept e) (count_good kind s e c))
      (takes kind s t n q b taken_long taken_there (free_low kind s b free) high (free_unnamed kind s b free) taken_rest) g)
      taken_number (let z = count_kept n in omega arith) a m n q taken_rest
