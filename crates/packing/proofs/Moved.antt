-- A book whose entries stand elsewhere and whose blocks have other numbers: its entries are good, and each record has the same bytes. Assumes nothing.
use Prim.Native.Nat.{ℕ, ◌+◌, ◌*◌, ◌/◌, ◌%◌, ◌≤◌, ◌<◌}
use mathlib.Core.Path.{◌≡◌, refl, sym, ap, ◌∙◌}
use mathlib.Core.Bool.{true, false}
use mathlib.Core.List.{List}
use mathlib.Core.Logic.{⊎_elim}
use native.Mathlib.Omega.{arith}
use lib.ListN.{length}
use borrow.Author.Tests.{leb-true, leb-false, lt-leb, le-leb}
use Rattle.words.specs.Tests.{◌if◌else◌}
use Rattle.words.specs.Bytes.{byte}
use Rattle.words.proofs.Tests.{either}
use Rattle.rules.specs.declared.kind.Kind.{Kind}
use Rattle.rules.specs.Kinds.{block_size, block_records, entries, numbers}
use Rattle.rules.specs.declared.file.File.{File}
use Rattle.rules.specs.Drive.{is_empty, file_at, extent_at, map_number, map_place, no_entry, entry_of, block_in, block_of, record_at}
use Rattle.rules.proofs.Sizes.{place_fits, record_byte}
use Rattle.rules.proofs.Sound.{Is, Entries, found_is}
use Rattle.rules.proofs.Frames.{Head, extent_same, file_same, fields_so, count_good}
use Rattle.soundness.proofs.Blocks.{only, found_below}
use Rattle.soundness.proofs.Entered.{none_there}

-- ---- what is the same

-- numbers a of s and b of t: none in both, or blocks with the same bytes
pub record Held (kind : Kind) (s : List ℕ) (a : ℕ) (t : List ℕ) (b : ℕ) : Type 0 where
  pub nothing : a ≡ 0 → b ≡ 0
  pub something : (a ≡ 0 → ⊥) → b ≡ 0 → ⊥
  pub bytes : (a ≡ 0 → ⊥) → (i : ℕ) → i < block_size kind → byte t (block_size kind * b + i) ≡ byte s (block_size kind * a + i)

-- the same said of a record's 128 bytes
pub record Shown (kind : Kind) (s t : List ℕ) (f : File) (r : ℕ) : Type 0 where
  pub nothing : block_of kind s f r ≡ 0 → block_of kind t f r ≡ 0
  pub something : (block_of kind s f r ≡ 0 → ⊥) → block_of kind t f r ≡ 0 → ⊥
  pub bytes : (block_of kind s f r ≡ 0 → ⊥) → (i : ℕ) → i < 128
      → byte t (record_at kind (block_of kind t f r) r + i) ≡ byte s (record_at kind (block_of kind s f r) r + i)

-- entry e of s stands in t at d: all but the block numbers, and what is in the blocks
pub record Pair (kind : Kind) (s t : List ℕ) (e d : ℕ) : Type 0 where
  pub from_there : e < entries kind
  pub to_there : d < entries kind
  pub from_used : is_empty s e ≡ false
  pub to_used : is_empty t d ≡ false
  pub head : Head s e t d
  pub counts : byte t (32 * d + 15) ≡ byte s (32 * e + 15)
  pub held : (k : ℕ) → k < numbers kind → Held kind s (map_number kind s e k) t (map_number kind t d k)

-- each used entry of s stands in t, and no others
pub record Moved (kind : Kind) (s t : List ℕ) (to : ℕ → ℕ) : Type 0 where
  pub forth : (e : ℕ) → e < entries kind → is_empty s e ≡ false → Pair kind s t e (to e)
  pub back : (d : ℕ) → d < entries kind → is_empty t d ≡ false → (e : ℕ) × (e < entries kind) × (is_empty s e ≡ false) × (to e ≡ d)

-- ---- the block of a record

module _ (kind : Kind) (s : List ℕ) (f : File) (r : ℕ) where
  -- of an extent that is there, ..
  pub block_at : entry_of kind s f (r / 128) < entries kind → block_of kind s f r ≡ map_number kind s (entry_of kind s f (r / 128)) (map_place kind r)
  unfolding block_of block_in ◌if◌else◌
  block_at l = rw (lt-leb (entries kind) (entry_of kind s f (r / 128)) l) refl

  -- .. and of one that is missing
  pub block_none : entries kind ≤ entry_of kind s f (r / 128) → block_of kind s f r ≡ 0
  unfolding block_of block_in ◌if◌else◌
  block_none l = rw (le-leb (entries kind) (entry_of kind s f (r / 128)) l) refl

-- where blocks have the same bytes, their records have
pub held_shown : (kind : Kind) (s t : List ℕ) (f : File) (r : ℕ) → Held kind s (block_of kind s f r) t (block_of kind t f r) → Shown kind s t f r
unfolding record_at
held_shown kind s t f r h = record {
  nothing = h.nothing;
  something = h.something;
  bytes = λ z i l.
      let x : (o : ℕ) → record_at kind o r + i ≡ block_size kind * o + (128 * (r % block_records kind) + i) = λ (o : ℕ). omega arith in
      rw (x (block_of kind t f r), x (block_of kind s f r)) (h.bytes z (128 * (r % block_records kind) + i) (record_byte kind r i l));
}

-- ---- one entry

module _ (kind : Kind) (s t : List ℕ) (e d : ℕ) (p : Pair kind s t e d) where
  pub is_forth : (f : File) (x : ℕ) → Is s f x e → Is t f x d
  is_forth f x h = record {
    used = p.to_used;
    file = file_same s e t d p.head ∙ h.file;
    extent = extent_same s e t d p.head ∙ h.extent;
  }

  pub is_back : (f : File) (x : ℕ) → Is t f x d → Is s f x e
  is_back f x h = record {
    used = p.from_used;
    file = sym (file_same s e t d p.head) ∙ h.file;
    extent = sym (extent_same s e t d p.head) ∙ h.extent;
  }

-- ---- all of them

module _ (kind : Kind) (s t : List ℕ) (to : ℕ → ℕ) (m : Moved kind s t to) (g : Entries kind s) where
  -- the entry that stands at d, and where it came from
  came : (d : ℕ) → d < entries kind → is_empty t d ≡ false → (e : ℕ) × (to e ≡ d) × Pair kind s t e d
  came d l u = let b = m.back d l u in (b.0, b.3, rw b.3 at (m.forth b.0 b.1 b.2))

  -- its entries are good
  pub moved_entries : Entries kind t
  moved_entries = record {
    fields = λ d l u.
        let b = came d l u in
        let p = b.2 in
        let q = g.fields b.0 p.from_there p.from_used in
        fields_so s b.0 t d p.head kind (rw p.counts (count_good kind s b.0 q)) q;
    single = λ c d n l u w.
        let a = came c (omega arith) w.used in
        let b = came d l u in
        let q : a.0 ≡ b.0 = only kind s (file_at t d) (extent_at t d) a.0 b.0 g a.2.from_there b.2.from_there
        (is_back kind s t a.0 c a.2 (file_at t d) (extent_at t d) w)
        (is_back kind s t b.0 d b.2 (file_at t d) (extent_at t d) (record { used = u; file = refl; extent = refl })) in
        let z : c ≡ d = sym a.1 ∙ ap to q ∙ b.1 in
        absurd (omega arith);
    begun = λ d l u.
        let b = came d l u in
        let p = b.2 in
        let k = g.begun b.0 p.from_there p.from_used in
        let v = m.forth k.0 k.1 k.2.used in
        let i : Is s (file_at t d) 0 k.0 = rw (file_same s b.0 t d p.head) k.2 in
        (to k.0, v.to_there, is_forth kind s t k.0 (to k.0) v (file_at t d) 0 i);
  }

  -- where an extent stands, ..
  pub found_moved : (f : File) (x : ℕ) → length f.name ≡ 11 → entry_of kind s f x < entries kind → entry_of kind t f x ≡ to (entry_of kind s f x)
  found_moved f x n l =
      let e = entry_of kind s f x in
      let a = found_is kind s f x n l in
      let p = m.forth e l a.used in
      let i = is_forth kind s t e (to e) p f x a in
      let b = found_below kind t f x (to e) p.to_there i in
      only kind t f x (entry_of kind t f x) (to e) moved_entries b p.to_there (found_is kind t f x n b) i

  -- .. or that it is missing
  pub none_moved : (f : File) (x : ℕ) → length f.name ≡ 11 → entries kind ≤ entry_of kind s f x → entries kind ≤ entry_of kind t f x
  none_moved f x n l =
      ⊎_elim (λ (c : no_entry kind (entry_of kind t f x) ≡ true). leb-true (entries kind) (entry_of kind t f x) c)
      (λ (c : no_entry kind (entry_of kind t f x) ≡ false).
      let k = leb-false (entries kind) (entry_of kind t f x) c in
      let w = found_is kind t f x n k in
      let b = came (entry_of kind t f x) k w.used in
      absurd (none_there kind s f x l b.0 b.2.from_there (is_back kind s t b.0 (entry_of kind t f x) b.2 f x w)))
      (either (no_entry kind (entry_of kind t f x)))

  -- the same extents are missing
  pub missing_moved : (f : File) (x : ℕ) → length f.name ≡ 11 → no_entry kind (entry_of kind t f x) ≡ no_entry kind (entry_of kind s f x)
  missing_moved f x n =
      ⊎_elim
      (λ (c : no_entry kind (entry_of kind s f x) ≡ true).
      le-leb (entries kind) (entry_of kind t f x) (none_moved f x n (leb-true (entries kind) (entry_of kind s f x) c)) ∙ sym c)
      (λ (c : no_entry kind (entry_of kind s f x) ≡ false).
      let l = leb-false (entries kind) (entry_of kind s f x) c in
      let v = (m.forth (entry_of kind s f x) l (found_is kind s f x n l).used).to_there in
      let q = found_moved f x n l in
      lt-leb (entries kind) (entry_of kind t f x) (omega arith) ∙ sym c) (either (no_entry kind (entry_of kind s f x)))

  -- each record has the same bytes, or none
  pub shown_moved : (f : File) (r : ℕ) → length f.name ≡ 11 → Shown kind s t f r
  shown_moved f r n =
      ⊎_elim
      (λ (c : no_entry kind (entry_of kind s f (r / 128)) ≡ true).
      let l = leb-true (entries kind) (entry_of kind s f (r / 128)) c in
      let z = block_none kind s f r l in
      record { nothing = λ w. block_none kind t f r (none_moved f (r / 128) n l); something = λ w. absurd (w z); bytes = λ w. absurd (w z) })
      (λ (c : no_entry kind (entry_of kind s f (r / 128)) ≡ false).
      let l = leb-false (entries kind) (entry_of kind s f (r / 128)) c in
      let e = entry_of kind s f (r / 128) in
      let p = m.forth e l (found_is kind s f (r / 128) n l).used in
      let q = found_moved f (r / 128) n l in
      let v = p.to_there in
      let b : block_of kind t f r ≡ map_number kind t (to e) (map_place kind r) =
      block_at kind t f r (omega arith) ∙ ap (λ (d : ℕ). map_number kind t d (map_place kind r)) q in
      held_shown kind s t f r (rw (block_at kind s f r l, b) (p.held (map_place kind r) (place_fits kind r))))
      (either (no_entry kind (entry_of kind s f (r / 128))))
