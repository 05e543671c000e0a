-- A change of the image that takes nothing away: what it leaves, and two of them one after the other. Assumes nothing.
use Prim.Native.Nat.{ℕ, ◌+◌, ◌*◌, ◌≤◌, ◌<◌}
use mathlib.Core.Path.{◌≡◌, refl, sym, ◌∙◌}
use mathlib.Core.Bool.{false}
use mathlib.Core.List.{List}
use mathlib.Core.Logic.{◌⊎◌, inl, inr, ⊎_elim}
use native.Mathlib.Omega.{arith}
use lib.ListN.{length}
use Rattle.words.specs.Bytes.{byte}
use Rattle.rules.specs.declared.kind.Kind.{Kind}
use Rattle.rules.specs.Kinds.{entries}
use Rattle.rules.specs.declared.file.File.{File}
use Rattle.rules.specs.Drive.{is_empty, file_at, map_number}
use Rattle.rules.proofs.Sound.{Names, SoundImage}
use Rattle.rules.proofs.Frames.{Head, Same, head_of, head_then, same_refl, same_then, empty_same, file_same, map_same}
use Rattle.soundness.proofs.Steps.{Stays}

-- used entries keep their heads and their block numbers, and their counts do not fall
pub record Grown (kind : Kind) (s t : List ℕ) : Type 0 where
  -- a used entry keeps its bytes 0 to 14: all but count and map
  pub head : (e : ℕ) → e < entries kind → is_empty s e ≡ false → Head s e t e
  -- a place that names a block keeps its number
  pub number : (e k : ℕ) → Names kind s e k → map_number kind t e k ≡ map_number kind s e k
  -- the count of a used entry does not fall
  pub rises : (e : ℕ) → e < entries kind → is_empty s e ≡ false → byte s (32 * e + 15) ≤ byte t (32 * e + 15)

-- entry e is of f before, and of h after, where it is in use
pub record Theirs (s t : List ℕ) (f h : File) (e : ℕ) : Type 0 where
  -- where entry e was in use before, it was of f
  pub was : is_empty s e ≡ false → file_at s e ≡ f
  -- where it is in use after, it is of h
  pub now : is_empty t e ≡ false → file_at t e ≡ h

-- every other entry is the same
pub record Touches (kind : Kind) (s t : List ℕ) (f h : File) : Type 0 where
  -- the image keeps its length
  pub long : length t ≡ length s
  -- each entry is the same, or is of f before and of h after, where it is in use
  pub entry : (e : ℕ) → e < entries kind → Same s e t e ⊎ Theirs s t f h e

-- past the directory only the m bytes from a on differ
pub record Data (kind : Kind) (s t : List ℕ) (a m : ℕ) : Type 0 where
  -- a byte past the directory that is before a, or from a + m on, is the same
  pub at : (i : ℕ) → 32 * entries kind ≤ i → (i < a) ⊎ (a + m ≤ i) → byte t i ≡ byte s i

-- a new number stands at place q of entry n at most
pub record Change (kind : Kind) (s t : List ℕ) (f : File) (a m n q : ℕ) : Type 0 where
  -- the image left is sound
  pub sound : SoundImage kind t
  -- a place that names a block after is place q of entry n, or named the same block before
  pub rest : (e k : ℕ) → Names kind t e k → ((e ≡ n) × (k ≡ q)) ⊎ Stays kind s t e k
  -- used entries keep their heads and their block numbers, and their counts do not fall
  pub grown : Grown kind s t
  -- the image keeps its length, and an entry that differs is of f before and after, where it is in use
  pub touches : Touches kind s t f f
  -- past the directory only the m bytes from a on differ
  pub data_kept : Data kind s t a m

-- where all entries are the same no file was touched, ..
pub touches_same : (kind : Kind) (s t : List ℕ) (f h : File) → length t ≡ length s → ((e : ℕ) → e < entries kind → Same s e t e) → Touches kind s t f h
touches_same kind s t f h len g = record { long = len; entry = λ e l. inl (g e l) }

-- .. and nothing was taken away
pub grown_same : (kind : Kind) (s t : List ℕ) → ((e : ℕ) → e < entries kind → Same s e t e) → Grown kind s t
grown_same kind s t g = record {
  head = λ e l u. head_of s e t e (g e l);
  number = λ e k n. map_same kind s t e k (g e n.entry_there) n.place_there;
  rises = λ e l u. let z : byte t (32 * e + 15) ≡ byte s (32 * e + 15) = (g e l).at 15 (omega arith) in omega arith;
}

-- where nothing was taken away a block that was named is named still
pub names_grown : (kind : Kind) (s t : List ℕ) → Grown kind s t → (e k : ℕ) → Names kind s e k → Names kind t e k
names_grown kind s t g e k w = record {
  entry_there = w.entry_there;
  place_there = w.place_there;
  entry_used = empty_same s e t e (g.head e w.entry_there w.entry_used) ∙ w.entry_used;
  some = λ z. w.some (sym (g.number e k w) ∙ z);
}

-- a sound image that stays as it is
pub no_change : (kind : Kind) (s : List ℕ) (f : File) (a m n q : ℕ) → SoundImage kind s → Change kind s s f a m n q
no_change kind s f a m n q g = record {
  sound = g;
  rest = λ e k w. inr (record { named = w; number = refl });
  grown = grown_same kind s s (λ e l. same_refl s e);
  touches = touches_same kind s s f f refl (λ e l. same_refl s e);
  data_kept = record { at = λ i l c. refl };
}

module _ (kind : Kind) (s t u : List ℕ) (f : File) (a m n q : ℕ) (x : Change kind s t f a m n q) (y : Change kind t u f a m n q) where
  used_then : (e : ℕ) → e < entries kind → is_empty s e ≡ false → is_empty t e ≡ false
  used_then e l w = empty_same s e t e (x.grown.head e l w) ∙ w

  entry_then : (e : ℕ) → e < entries kind → Same s e u e ⊎ Theirs s u f f e
  entry_then e l =
      ⊎_elim
      (λ (p : Same s e t e). ⊎_elim
      (λ (z : Same t e u e). inl (same_then s t u e p z))
      (λ (z : Theirs t u f f e).
      let h = head_of s e t e p in
      inr (record { was = λ w. sym (file_same s e t e h) ∙ z.was (empty_same s e t e h ∙ w); now = z.now }))
      (y.touches.entry e l))
      (λ (p : Theirs s t f f e). ⊎_elim
      (λ (z : Same t e u e).
      let h = head_of t e u e z in
      inr (record { was = p.was; now = λ w. file_same t e u e h ∙ p.now (sym (empty_same t e u e h) ∙ w) }))
      (λ (z : Theirs t u f f e). inr (record { was = p.was; now = z.now }))
      (y.touches.entry e l))
      (x.touches.entry e l)

  rest_then : (e k : ℕ) → Names kind u e k → ((e ≡ n) × (k ≡ q)) ⊎ Stays kind s u e k
  rest_then e k w =
      ⊎_elim (λ z. inl z)
      (λ (z : Stays kind t u e k). ⊎_elim (λ v. inl v)
      (λ (v : Stays kind s t e k). inr (record { named = v.named; number = z.number ∙ v.number })) (x.rest e k z.named))
      (y.rest e k w)

  -- two changes one after the other are one
  pub change_then : Change kind s u f a m n q
  change_then = record {
    sound = y.sound;
    rest = rest_then;
    grown = record {
      head = λ e l w. head_then s t u e (x.grown.head e l w) (y.grown.head e l (used_then e l w));
      number = λ e k w. y.grown.number e k (names_grown kind s t x.grown e k w) ∙ x.grown.number e k w;
      rises = λ e l w.
          let i = x.grown.rises e l w in
          let j = y.grown.rises e l (used_then e l w) in
          omega arith;
    };
    touches = record { long = y.touches.long ∙ x.touches.long; entry = entry_then };
    data_kept = record { at = λ i l c. y.data_kept.at i l c ∙ x.data_kept.at i l c };
  }
