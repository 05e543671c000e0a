-- A record keeps its block and its 128 bytes when other bytes of the image change. Assumes nothing.
use Prim.Native.Nat.{ℕ, ◌+◌, ◌*◌, ◌≤◌, ◌<◌}
use mathlib.Core.Path.{◌≡◌, sym, ◌∙◌}
use mathlib.Core.Bool.{true, false}
use mathlib.Core.List.{List}
use mathlib.Core.Logic.{◌⊎◌, inl, inr, ⊎_elim}
use native.Mathlib.Omega.{arith}
use lib.ListN.{length}
use borrow.Author.Tests.{ltb-true, ltb-false}
use lib.Dec.{ltb}
use Rattle.words.specs.Bytes.{byte, part}
use Rattle.words.proofs.Tests.{equal?, either}
use Rattle.words.proofs.Bytes.{part_same}
use Rattle.rules.specs.declared.kind.Kind.{Kind}
use Rattle.rules.specs.Kinds.{block_size, entries}
use Rattle.rules.specs.declared.file.File.{File}
use Rattle.rules.specs.Drive.{blocks, map_place, block_of, record_at}
use Rattle.rules.proofs.Sizes.{record_past, record_inside, block_inside, record-over}
use Rattle.rules.proofs.Sound.{SoundImage, sound_so, length_whole}
use Rattle.rules.proofs.Look.{Apart, same_or_apart}
use Rattle.soundness.proofs.Changes.{Data}
use Rattle.soundness.proofs.Blocks.{At, of_at, at_names, at_grown}
use Rattle.soundness.proofs.Written.{Old, New}
use Rattle.soundness.proofs.Stored.{free_unnamed}

-- the record has its block still, and its bytes
pub record Seen (kind : Kind) (s t : List ℕ) (f : File) (r b : ℕ) : Type 0 where
  -- the record's block is b on the image left too
  pub there : At kind t f r b
  -- its 128 bytes there are the same
  pub bytes : part (record_at kind b r) 128 t ≡ part (record_at kind b r) 128 s

-- a block of a record lies past the directory and in the image
pub at_range : (kind : Kind) (s : List ℕ) (f : File) (r b : ℕ) → SoundImage kind s → At kind s f r b → (2 ≤ b) × (b < blocks kind s)
at_range kind s f r b g a = rw a.number at (g.maps.range a.entry (map_place kind r) (at_names kind s f r b a))

module _ (kind : Kind) (s t : List ℕ) (f : File) (r b : ℕ) (g : SoundImage kind s) (long : length t ≡ length s) (a : At kind s f r b) where
  inside : record_at kind b r + 128 ≤ length s
  inside = rw (← (length_whole kind s g.long)) (record_inside kind b (blocks kind s) r (at_range kind s f r b g a).1)

  past : 32 * entries kind ≤ record_at kind b r
  past = record_past kind b r (at_range kind s f r b g a).0

  -- a record that keeps its block keeps its bytes where all past the directory is the same, but for m bytes from x on, which are others, ..
  pub seen_kept : (x m : ℕ) → Data kind s t x m → (record_at kind b r + 128 ≤ x) ⊎ (x + m ≤ record_at kind b r) → At kind t f r b → Seen kind s t f r b
  seen_kept x m d c w = record {
    there = w;
    bytes = part_same s t (record_at kind b r) 128 inside long (λ k l. d.at (record_at kind b r + k) (let p = past in omega arith)
        (⊎_elim (λ (z : record_at kind b r + 128 ≤ x). inl (omega arith)) (λ (z : x + m ≤ record_at kind b r). inr (omega arith)) c));
  }

  -- .. and where all of it is
  pub seen_all : ((i : ℕ) → 32 * entries kind ≤ i → byte t i ≡ byte s i) → At kind t f r b → Seen kind s t f r b
  seen_all h w = seen_kept 0 0 (record { at = λ i l c. h i l }) (inr (omega arith)) w

-- ---- a record written: any other record is as it was

module _ (kind : Kind) (s t : List ℕ) (f : File) (r : ℕ) (g : SoundImage kind s) (l : length f.name ≡ 11)
    (h : File) (q b : ℕ) (m : length h.name ≡ 11) (a : At kind s h q b) where
  seen_old : Old kind s t f r → ((h ≡ f) × (q ≡ r) → ⊥) → Seen kind s t h q b
  seen_old w n =
      let c = w.wrote.change in
      let v : At kind s f r w.block = record { entry = w.entry; below = w.wrote.below; is = w.was_is; number = w.was; some = w.some } in
      let e₁ = of_at kind s f r w.block l g v in
      let e₂ = of_at kind s h q b m g a in
      let far : Apart (record_at kind b q) (record_at kind w.block r) = ⊎_elim
      (λ (z : (h ≡ f) × (q ≡ r)). absurd (n z))
      (λ (z : Apart (record_at kind (block_of kind s h q) q) (record_at kind (block_of kind s f r) r)). rw (e₁, e₂) at z)
      (same_or_apart kind s (sound_so kind s g) h f q r m l (λ z. a.some (sym e₂ ∙ z)) (λ z. w.some (sym e₁ ∙ z))) in
      seen_kept kind s t h q b g c.touches.long a (record_at kind w.block r) 128 c.data_kept far.apart (at_grown kind s t h q b c.grown a)

  seen_new : New kind s t f r → Seen kind s t h q b
  seen_new w =
      let c = w.wrote.change in
      let n : b ≡ w.block → ⊥ = λ z. free_unnamed kind s w.block w.free a.entry (map_place kind q) (at_names kind s h q b a) (a.number ∙ z) in
      seen_kept kind s t h q b g c.touches.long a (block_size kind * w.block) (block_size kind) c.data_kept (beside b w.block n)
      (at_grown kind s t h q b c.grown a)
    where
      beside : (x y : ℕ) → (x ≡ y → ⊥) → (record_at kind x q + 128 ≤ block_size kind * y) ⊎ (block_size kind * y + block_size kind ≤ record_at kind x q)
      beside x y n =
          ⊎_elim (λ (z : ltb x y ≡ true). inl (record_inside kind x y q (ltb-true x y z)))
          (λ (z : ltb x y ≡ false).
          let w = ltb-false x y z in
          let v : y < x = (⊎_elim (λ (d : x ≡ y). absurd (n d)) (λ (d : x ≡ y → ⊥). omega arith) (equal? x y)) in
          inr (omega (arith, block_inside kind y x v, record-over kind x q)))
          (either (ltb x y))

  -- it keeps its block and its bytes
  pub seen_written : Old kind s t f r ⊎ New kind s t f r → ((h ≡ f) × (q ≡ r) → ⊥) → Seen kind s t h q b
  seen_written w n = ⊎_elim (λ (k : Old kind s t f r). seen_old k n) (λ (k : New kind s t f r). seen_new k) w
