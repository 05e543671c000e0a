-- Where Look's parts lie. Assumes nothing.
use Prim.Native.Nat.{ℕ, ◌+◌, ◌*◌, ◌/◌, ◌≤◌}
use mathlib.Core.Path.{◌≡◌, refl, sym, ap, ◌∙◌}
use mathlib.Core.Bool.{true, false}
use mathlib.Core.List.{List}
use mathlib.Core.Logic.{◌⊎◌, inl, inr, ⊎_elim}
use lib.ListN.{length}
use lib.Dec.{eqb}
use borrow.Author.Tests.{eqb-false}
use Rattle.words.specs.Tests.{◌if◌else◌}
use Rattle.words.proofs.Tests.{either, equal?, and_fst}
use Rattle.rules.specs.declared.kind.Kind.{Kind}
use Rattle.rules.specs.Kinds.{block_records, entries}
use Rattle.rules.specs.declared.file.File.{File}
use Rattle.rules.specs.Drive.{block_of, record_at, file_from, file_at, entry_of, extent_at, map_place, sound_image}
use Rattle.rules.specs.Look.{may_look, look_block, part_at, look_at}
use Rattle.rules.proofs.Sound.{sound_of, sound_length, length_whole, block_within, block_is, block_named, found_is, from_long}
use Rattle.rules.proofs.Sizes.{same-places, record_block, record_rest, record_apart, record_past, record_inside}

-- two parts of 128 bytes that do not overlap
pub record Apart (a b : ℕ) : Type 0 where
  pub apart : (a + 128 ≤ b) ⊎ (b + 128 ≤ a)

-- two records that both have blocks
module _ (kind : Kind) (s : List ℕ) (h : sound_image kind s ≡ true) (f g : File) (r q : ℕ) (lf : length f.name ≡ 11)
    (lg : length g.name ≡ 11) (hr : block_of kind s f r ≡ 0 → ⊥) (hq : block_of kind s g q ≡ 0 → ⊥) where
  -- one block: the same file, and the same records of a block
  pub same-group : block_of kind s f r ≡ block_of kind s g q → (f ≡ g) × (r / block_records kind ≡ q / block_records kind)
  same-group e =
      let d = entry_of kind s f (r / 128) in
      let c = entry_of kind s g (q / 128) in
      let nr = block_named kind s f r hr in
      let nq = block_named kind s g q hq in
      let o = (sound_of kind s h).maps.once d (map_place kind r) c (map_place kind q) nr nq
      (sym (block_is kind s f r hr) ∙ e ∙ block_is kind s g q hq) in
      let i = found_is kind s f (r / 128) lf nr.entry_there in
      let j = found_is kind s g (q / 128) lg nq.entry_there in
      let x : r / 128 ≡ q / 128 = sym i.extent ∙ ap (λ (n : ℕ). extent_at s n) o.0 ∙ j.extent in
      let y : map_place kind r ≡ map_place kind q = o.1 in
      (sym i.file ∙ ap (λ (n : ℕ). file_at s n) o.0 ∙ j.file, same-places kind r q x y)

  -- two parts that begin at different places do not overlap
  unequal : (record_at kind (block_of kind s f r) r ≡ record_at kind (block_of kind s g q) q → ⊥)
      → Apart (record_at kind (block_of kind s f r) r) (record_at kind (block_of kind s g q) q)
  unequal n =
      record { apart = record_apart kind (block_of kind s f r) (block_of kind s g q) r q n }

  pub same_or_apart : ((f ≡ g) × (r ≡ q)) ⊎ Apart (record_at kind (block_of kind s f r) r) (record_at kind (block_of kind s g q) q)
  same_or_apart =
      ⊎_elim
      (λ (e : block_of kind s f r ≡ block_of kind s g q).
      let k = same-group e in
      let z = k.1 in
      ⊎_elim (λ (y : r ≡ q). inl (k.0, y)) (λ (y : r ≡ q → ⊥). inr (unequal (λ w. y (record_rest kind (block_of kind s g q) r q (rw e at w) z)))) (equal? r q))
      (λ (e : block_of kind s f r ≡ block_of kind s g q → ⊥). inr (unequal (λ w. e (record_block kind _ _ r q w))))
      (equal? (block_of kind s f r) (block_of kind s g q))

-- ---- Look

module _ (kind : Kind) (u : ℕ) (name : List ℕ) (r : ℕ) (s : List ℕ) (some : look_at kind u name r s ≡ 0 → ⊥) where
  pub look_sound : sound_image kind s ≡ true
  unfolding look_at part_at look_block may_look ◌if◌else◌
  look_sound =
      ⊎_elim (λ (m : may_look kind u name s ≡ true). and_fst _ _ m)
      (λ (m : may_look kind u name s ≡ false). absurd (some (rw m))) (either (may_look kind u name s))

  pub look-block : (block_of kind s (file_from u name 0) r ≡ 0 → ⊥) × (look_at kind u name r s ≡ record_at kind (block_of kind s (file_from u name 0) r) r)
  unfolding look_at part_at look_block ◌if◌else◌
  look-block =
      ⊎_elim
      (λ (m : may_look kind u name s ≡ true).
      ⊎_elim
      (λ (z : eqb (block_of kind s (file_from u name 0) r) 0 ≡ true). absurd (some (rw (m, z))))
      (λ (z : eqb (block_of kind s (file_from u name 0) r) 0 ≡ false). rw (m, z) (eqb-false _ _ z, refl))
      (either (eqb (block_of kind s (file_from u name 0) r) 0)))
      (λ (m : may_look kind u name s ≡ false). absurd (some (rw m))) (either (may_look kind u name s))

  -- the part lies past the directory and inside the image
  pub look_inside : (32 * entries kind ≤ look_at kind u name r s) × (look_at kind u name r s + 128 ≤ length s)
  look_inside =
      let b = block_within kind s (file_from u name 0) r look-block.0 look_sound in
      let l = length_whole kind s (sound_length kind s look_sound) in
      rw look-block.1 (record_past kind _ r b.0, rw (← l) (record_inside kind _ _ r b.1))

-- two parts that Look shows do not overlap, unless they are the same record of the same file
pub look_apart : (kind : Kind) (u v : ℕ) (m n : List ℕ) (r q : ℕ) (s : List ℕ) → (look_at kind u m r s ≡ 0 → ⊥) → (look_at kind v n q s ≡ 0 → ⊥)
    → ((file_from u m 0 ≡ file_from v n 0) × (r ≡ q)) ⊎ Apart (look_at kind u m r s) (look_at kind v n q s)
look_apart kind u v m n r q s hr hq =
    let a = look-block kind u m r s hr in
    let b = look-block kind v n q s hq in
    rw (a.1, b.1)
    (same_or_apart kind s (look_sound kind u m r s hr) (file_from u m 0) (file_from v n 0) r q (from_long u m 0) (from_long v n 0) a.0 b.0)
