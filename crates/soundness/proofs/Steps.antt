-- What a change of the directory leaves sound. Assumes nothing.
use Prim.Native.Nat.{ℕ, ◌≤◌, ◌<◌}
use mathlib.Core.Path.{◌≡◌, refl, sym, ap, ◌∙◌}
use mathlib.Core.Bool.{true, false, true≢false}
use mathlib.Core.List.{List}
use mathlib.Core.Logic.{◌⊎◌, ⊎_elim}
use native.Mathlib.Omega.{arith}
use lib.ListN.{length}
use Rattle.words.proofs.Tests.{equal?}
use Rattle.rules.specs.declared.kind.Kind.{Kind}
use Rattle.rules.specs.Kinds.{entries}
use Rattle.rules.specs.declared.file.File.{File}
use Rattle.rules.specs.Drive.{blocks, is_empty, file_at, extent_at, map_number, good_fields}
use Rattle.rules.proofs.Sound.{Is, Entries, Names, Maps}
use Rattle.rules.proofs.Frames.{Head, Same, head_of, head_back, empty_same, extent_same, file_same, fields_same, is_same}

-- an empty entry filled
module _ (kind : Kind) (s t : List ℕ) (n : ℕ) (below : n < entries kind) (was : is_empty s n ≡ true)
    (others : (e : ℕ) → e < entries kind → (e ≡ n → ⊥) → Same s e t e)
    (good : good_fields kind t n ≡ true)
    (new : (d : ℕ) → d < entries kind → Is s (file_at t n) (extent_at t n) d → ⊥)
    (begun : (extent_at t n ≡ 0) ⊎ ((d : ℕ) × (d < entries kind) × Is s (file_at t n) 0 d)) where
  heads : (e : ℕ) → e < entries kind → (e ≡ n → ⊥) → Head s e t e
  heads e l q = head_of s e t e (others e l q)

  other : (f : File) (x d : ℕ) → Is s f x d → d ≡ n → ⊥
  other f x d h q = true≢false (sym was ∙ ap (λ (e : ℕ). is_empty s e) (sym q) ∙ h.used)

  goes : (f : File) (x d : ℕ) → d < entries kind → Is s f x d → Is t f x d
  goes f x d l h = is_same s t f x d (heads d l (other f x d h)) h

  comes : (f : File) (x d : ℕ) → d < entries kind → (d ≡ n → ⊥) → Is t f x d → Is s f x d
  comes f x d l q h = is_same t s f x d (head_back s t d (heads d l q)) h

  -- an entry that enters leaves the directory good
  pub enters : is_empty t n ≡ false → Entries kind s → Entries kind t
  enters u₀ g = record {
    fields = λ e l u.
        ⊎_elim (λ (q : e ≡ n). rw q good)
        (λ (q : e ≡ n → ⊥). fields_same kind s e t e (others e l q) (g.fields e l (sym (empty_same s e t e (heads e l q)) ∙ u))) (equal? e n);
    single = λ d e m l u w.
        ⊎_elim
        (λ (q : e ≡ n).
        let k : (d ≡ n → ⊥) = λ (p : d ≡ n). absurd (omega arith) in
        let w' : Is t (file_at t n) (extent_at t n) d = rw q at w in
        new d (omega arith) (comes (file_at t n) (extent_at t n) d (omega arith) k w'))
        (λ (q : e ≡ n → ⊥).
        let h = heads e l q in
        ⊎_elim
        (λ (p : d ≡ n).
        let w' : Is t (file_at t e) (extent_at t e) n = rw p at w in
        new e l (record {
          used = sym (empty_same s e t e h) ∙ u;
          file = sym (file_same s e t e h) ∙ sym w'.file;
          extent = sym (extent_same s e t e h)
              ∙ sym w'.extent;
        }))
        (λ (p : d ≡ n → ⊥).
        let w' = comes (file_at t e) (extent_at t e) d (omega arith) p w in
        g.single d e m l (sym (empty_same s e t e h) ∙ u) (rw (file_same s e t e h, extent_same s e t e h) at w'))
        (equal? d n))
        (equal? e n);
    begun = λ e l u.
        ⊎_elim
        (λ (q : e ≡ n). rw q (⊎_elim
        (λ (z : extent_at t n ≡ 0). (n, below, record { used = u₀; file = refl; extent = z }))
        (λ (z : (d : ℕ) × (d < entries kind) × Is s (file_at t n) 0 d). (z.0, z.1, goes (file_at t n) 0 z.0 z.1 z.2)) begun))
        (λ (q : e ≡ n → ⊥).
        let h = heads e l q in
        let k = g.begun e l (sym (empty_same s e t e h) ∙ u) in
        rw (file_same s e t e h) (k.0, k.1, goes (file_at s e) 0 k.0 k.1 k.2))
        (equal? e n);
  }

-- used entries of t are those of s, under another name perhaps, and with their extent 0
module _ (kind : Kind) (s t : List ℕ)
    (used : (e : ℕ) → e < entries kind → is_empty t e ≡ false → is_empty s e ≡ false)
    (good : (e : ℕ) → e < entries kind → is_empty t e ≡ false → good_fields kind s e ≡ true → good_fields kind t e ≡ true)
    (extent : (e : ℕ) → e < entries kind → is_empty t e ≡ false → extent_at t e ≡ extent_at s e)
    (back : (d e : ℕ) → d < entries kind → e < entries kind → is_empty t d ≡ false → is_empty t e ≡ false → file_at t d ≡ file_at t e → file_at s d ≡ file_at s e)
    (forth : (d e : ℕ) → d < entries kind → e < entries kind → is_empty s d ≡ false → is_empty t e ≡ false → file_at s d ≡ file_at s e → (is_empty t d ≡ false)
    × (file_at t d ≡ file_at t e)) where
  -- entries that go, or get another name, leave the directory good
  pub moves : Entries kind s → Entries kind t
  moves g = record {
    fields = λ e l u. good e l u (g.fields e l (used e l u));
    single = λ d e m l u w.
        let k : d < entries kind = omega arith in
        g.single d e m l (used e l u) (record {
          used = used d k w.used;
          file = back d e k l w.used u w.file;
          extent = sym (extent d k w.used)
              ∙ w.extent ∙ extent e l u;
        });
    begun = λ e l u.
        let k = g.begun e l (used e l u) in
        let f = forth k.0 e k.1 l k.2.used u k.2.file in
        (k.0, k.1, record { used = f.0; file = f.1; extent = extent k.0 k.1 f.0 ∙ k.2.extent });
  }

-- place k of entry e holds in t the number that it holds in s
pub record Stays (kind : Kind) (s t : List ℕ) (e k : ℕ) : Type 0 where
  -- the place names a block in s
  pub named : Names kind s e k
  -- its number in t is the one in s
  pub number : map_number kind t e k ≡ map_number kind s e k

-- numbers that stay or go leave the maps good
pub fewer : (kind : Kind) (s t : List ℕ) → length t ≡ length s → ((e k : ℕ) → Names kind t e k → Stays kind s t e k) → Maps kind s → Maps kind t
unfolding blocks
fewer kind s t len h g = record {
  range = λ e k n. let w = h e k n in rw (w.number, len) (g.range e k w.named);
  once = λ d j e k m n q.
      let v = h d j m in
      let w = h e k n in
      g.once d j e k v.named w.named (sym v.number ∙ q ∙ w.number);
}

-- one that was 0 gets a free block
module _ (kind : Kind) (s t : List ℕ) (n q b : ℕ) (len : length t ≡ length s) (now : map_number kind t n q ≡ b) (low : 2 ≤ b) (high : b < blocks kind s)
    (free : (e k : ℕ) → Names kind s e k → map_number kind s e k ≡ b → ⊥)
    (rest : (e k : ℕ) → Names kind t e k → ((e ≡ n) × (k ≡ q)) ⊎ Stays kind s t e k) where
  here : (e k : ℕ) → (e ≡ n) × (k ≡ q) → map_number kind t e k ≡ b
  here e k z = rw (z.0, z.1) now

  -- a free block taken leaves the maps good
  pub takes : Maps kind s → Maps kind t
  unfolding blocks
  takes g = record {
    range = λ e k m.
        ⊎_elim (λ (z : (e ≡ n) × (k ≡ q)). rw (here e k z, len) (low, high))
        (λ (z : Stays kind s t e k). rw (z.number, len) (g.range e k z.named)) (rest e k m);
    once = λ d j e k m m' w.
        ⊎_elim
        (λ (y : (d ≡ n) × (j ≡ q)). ⊎_elim
        (λ (z : (e ≡ n) × (k ≡ q)). (y.0 ∙ sym z.0, y.1 ∙ sym z.1))
        (λ (z : Stays kind s t e k). absurd (free e k z.named (sym z.number ∙ sym w ∙ here d j y))) (rest e k m'))
        (λ (y : Stays kind s t d j). ⊎_elim
        (λ (z : (e ≡ n) × (k ≡ q)). absurd (free d j y.named (sym y.number ∙ w ∙ here e k z)))
        (λ (z : Stays kind s t e k). g.once d j e k y.named z.named (sym y.number ∙ w ∙ z.number)) (rest e k m'))
        (rest d j m);
  }
