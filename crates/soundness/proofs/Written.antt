-- Writing a record leaves the image sound: the record has its block still, or a free one that it takes. Assumes nothing.
use Prim.Native.Nat.{ℕ, ◌+◌, ◌*◌, ◌/◌, ◌≤◌, ◌<◌}
use mathlib.Core.Path.{◌≡◌, refl, sym, ◌∙◌}
use mathlib.Core.Bool.{Bool, true, false, true≢false}
use mathlib.Core.List.{List}
use mathlib.Core.Logic.{◌⊎◌, inl, inr, ⊎_elim}
use native.Mathlib.Omega.{arith}
use lib.ListN.{length, take, replicate, length-replicate}
use lib.Seq.{length-take-le, get_or-set_same}
use lib.Dec.{eqb, leb, ltb}
use borrow.Author.Tests.{eqb-true, eqb-false, leb-true, leb-false, le-leb, ltb-true, ltb-false, not-true}
use Rattle.words.specs.Tests.{◌and◌, ◌if◌else◌}
use Rattle.words.specs.Bytes.{byte, put}
use Rattle.words.proofs.Tests.{either, never, any_never, any_some, lowest_holds, and_fst, and_snd}
use Rattle.words.proofs.Sets.{and_both, not_of_false}
use Rattle.rules.specs.declared.kind.Kind.{Kind}
use Rattle.rules.specs.Kinds.{block_size, entries, numbers, top}
use Rattle.rules.specs.declared.file.File.{File}
use Rattle.rules.specs.declared.spot.Spot.{Spot}
use Rattle.rules.specs.Drive.{blocks, is_empty, file_at, map_number, map_place, entry_of, free_entry, holds_number, names_block, is_used, is_free, free_block, block_in}
use Rattle.rules.specs.Drive.{record_at}
use Rattle.rules.specs.Effects.{spot, spot_at, new_entry, entered, mapped, counted, cleared, stored, written, count_to}
use Rattle.rules.proofs.Sizes.{directory_size, place_fits, record_past, record_inside, block_inside, record-over, record_room}
use Rattle.rules.proofs.Sound.{Is, Names, SoundImage, found_is, length_long, length_whole}
use Rattle.rules.proofs.Frames.{is_same, file_same, empty_same}
use Rattle.soundness.proofs.Numbers.{numbered}
use Rattle.soundness.proofs.Steps.{Stays}
use Rattle.soundness.proofs.Changes.{Change, Grown, change_then, no_change}
use Rattle.soundness.proofs.Entered.{entered_change, entered_is, entered_stays, free_empty}
use Rattle.soundness.proofs.Stored.{data_change, count_change, block_change, taken_there, free_low, free_unnamed}

if_true : {A : Type 0} (x y : A) (t : Bool) → t ≡ true → (x if t else y) ≡ x
unfolding ◌if◌else◌
if_true x y t h = rw h

-- ---- count, clear, store

-- a change after which entry n counts record r
record Ended (kind : Kind) (s t : List ℕ) (f : File) (r a m i j n : ℕ) : Type 0 where
  change : Change kind s t f a m i j
  count : count_to r ≤ byte t (32 * n + 15)

module _ (kind : Kind) (f : File) (a m i j : ℕ) where
  count_step : (w : Spot) (r : ℕ) (s : List ℕ) → w.entry < entries kind → file_at s w.entry ≡ f → SoundImage kind s
      → Change kind s (counted w r s) f a m i j
  unfolding counted ◌if◌else◌
  count_step w r s l file g =
      ⊎_elim (λ h. rw h (count_change kind s w.entry (count_to r) f l (omega arith)
      (let z = ltb-true (byte s (32 * w.entry + 15)) (count_to r) h in omega arith) file g a m i j))
      (λ h. rw h (no_change kind s f a m i j g))
      (either (ltb (byte s (32 * w.entry + 15)) (count_to r)))

  module _ (w : Spot) (s : List ℕ) (low : 2 ≤ w.block) (high : w.block < blocks kind s) (g : SoundImage kind s) where
    clear_fits : block_size kind * w.block + length {A = ℕ} (replicate (block_size kind) 0) ≤ length s
    clear_fits =
        let k : length {A = ℕ} (replicate (block_size kind) 0) ≡ block_size kind = length-replicate {A = ℕ} (block_size kind) 0 in
        omega (arith, block_inside kind w.block (blocks kind s) high, length_whole kind s g.long)

    clear_past : 32 * entries kind ≤ block_size kind * w.block
    clear_past = omega (arith, directory_size kind, block_inside kind 1 w.block low)

    clear_step : (zeros : Bool) → (w.taken ≡ true → (a ≤ block_size kind * w.block) × (block_size kind * w.block + block_size kind ≤ a + m))
        → Change kind s (cleared kind zeros w s) f a m i j
    unfolding cleared ◌if◌else◌
    clear_step zeros inside =
        let k : length {A = ℕ} (replicate (block_size kind) 0) ≡ block_size kind = length-replicate {A = ℕ} (block_size kind) 0 in
        ⊎_elim
        (λ (h : (zeros and w.taken) ≡ true).
        let c = inside (and_snd _ _ h) in
        let c₀ : a ≤ block_size kind * w.block = c.0 in
        let c₁ : block_size kind * w.block + block_size kind ≤ a + m = c.1 in
        rw h (data_change kind s (replicate (block_size kind) 0) (block_size kind * w.block) f clear_past clear_fits g a m i j c₀ (omega arith)))
        (λ (h : (zeros and w.taken) ≡ false). rw h (no_change kind s f a m i j g)) (either (zeros and w.taken))

    store_step : (r : ℕ) (v : List ℕ) → 128 ≤ length v → a ≤ record_at kind w.block r → record_at kind w.block r + 128 ≤ a + m
        → Change kind s (stored kind w r v s) f a m i j
    unfolding stored
    store_step r v l from to =
        let k : length (take 128 v) ≡ 128 = length-take-le 128 v l in
        let e = record_inside kind w.block (blocks kind s) r high in
        data_change kind s (take 128 v) (record_at kind w.block r) f (record_past kind w.block r low)
        (omega (arith, length_whole kind s g.long)) g a m i j from (omega arith)

  -- the count is then at least what the record asks
  count_there : (w : Spot) (r : ℕ) (s : List ℕ) → 32 * w.entry + 15 < length s → count_to r ≤ byte (counted w r s) (32 * w.entry + 15)
  unfolding counted ◌if◌else◌
  count_there w r s l =
      ⊎_elim (λ (h : ltb (byte s (32 * w.entry + 15)) (count_to r) ≡ true). rw (h, get_or-set_same s (32 * w.entry + 15) (count_to r) 0 l) (omega arith))
      (λ (h : ltb (byte s (32 * w.entry + 15)) (count_to r) ≡ false).
      let z : count_to r ≤ byte s (32 * w.entry + 15) = ltb-false _ _ h in rw h z)
      (either (ltb (byte s (32 * w.entry + 15)) (count_to r)))

  -- all after the block is in the map
  ends_step : (zeros : Bool) (w : Spot) (r : ℕ) (v s : List ℕ) → w.entry < entries kind → file_at s w.entry ≡ f → 2 ≤ w.block → w.block < blocks kind s
      → 128 ≤ length v → SoundImage kind s
      → (w.taken ≡ true → (a ≤ block_size kind * w.block) × (block_size kind * w.block + block_size kind ≤ a + m)) → a ≤ record_at kind w.block r
      → record_at kind w.block r + 128 ≤ a + m → is_empty s w.entry ≡ false
      → Ended kind s (stored kind w r v (cleared kind zeros w (counted w r s))) f r a m i j w.entry
  unfolding blocks
  ends_step zeros w r v s l file low high k g inside from to used =
      let s₁ = counted w r s in
      let s₂ = cleared kind zeros w s₁ in
      let c₁ = count_step w r s l file g in
      let h₁ : w.block < blocks kind s₁ = rw c₁.touches.long high in
      let c₂ = clear_step w s₁ low h₁ c₁.sound zeros inside in
      let h₂ : w.block < blocks kind s₂ = rw c₂.touches.long h₁ in
      let c₃ = store_step w s₂ low h₂ c₂.sound r v k from to in
      let d = change_then kind s₁ s₂ (stored kind w r v s₂) f a m i j c₂ c₃ in
      let far = length_long kind s g.long in
      let one = count_there w r s (omega arith) in
      let two = d.grown.rises w.entry l (empty_same s w.entry s₁ w.entry (c₁.grown.head w.entry l used) ∙ used) in
      record { change = change_then kind s s₁ (stored kind w r v s₂) f a m i j c₁ d; count = omega arith }

-- ---- what writing did: the record's number stands at place (r's) of that entry

pub record Wrote (kind : Kind) (s t : List ℕ) (f : File) (r a m n b : ℕ) : Type 0 where
  -- it takes nothing away: changed are the file's entries, m data bytes from a on, and a number at the record's place of entry n, at most
  pub change : Change kind s t f a m n (map_place kind r)
  -- entry n is one of the directory
  pub below : n < entries kind
  -- on the image left it is the record's extent of the file
  pub is : Is t f (r / 128) n
  -- the record's place in its map holds the number b
  pub number : map_number kind t n (map_place kind r) ≡ b
  -- its count is at least the record's place in the extent plus one
  pub count : count_to r ≤ byte t (32 * n + 15)

-- its block was there, or it is a free one
pub record Old (kind : Kind) (s t : List ℕ) (f : File) (r : ℕ) : Type 0 where
  -- the entry of the record's extent
  pub entry : ℕ
  -- the record's block
  pub block : ℕ
  -- the record is written there, and past the directory only its 128 bytes differ
  pub wrote : Wrote kind s t f r (record_at kind block r) 128 entry block
  -- the entry was the record's extent before, ..
  pub was_is : Is s f (r / 128) entry
  -- .. and the record's place in its map held that block's number, ..
  pub was : map_number kind s entry (map_place kind r) ≡ block
  -- .. which is not 0
  pub some : block ≡ 0 → ⊥

pub record New (kind : Kind) (s t : List ℕ) (f : File) (r : ℕ) : Type 0 where
  -- the entry that is then of the record's extent
  pub entry : ℕ
  -- the block that is then the record's
  pub block : ℕ
  -- the record is written there, and past the directory only the bytes of that block differ
  pub wrote : Wrote kind s t f r (block_size kind * block) (block_size kind) entry block
  -- the block was free before
  pub free : is_free kind s block ≡ true
  -- the record's place in that entry named no block before
  pub unnamed : Names kind s entry (map_place kind r) → ⊥
  -- the block is one of the image
  pub within : block < blocks kind s

free_stays : (kind : Kind) (s t : List ℕ) (b : ℕ) → ((e k : ℕ) → Names kind t e k → Stays kind s t e k) → is_free kind s b ≡ true → is_free kind t b ≡ true
unfolding is_free is_used names_block holds_number
free_stays kind s t b h u =
    let l = free_low kind s b u in
    and_both _ _ (le-leb 2 b l) (not_of_false _ (any_never (names_block kind t b) (entries kind) (λ e k. ⊎_elim
    (λ (y : names_block kind t b e ≡ true).
    let w = any_some (holds_number kind t b e) (numbers kind) (and_snd _ _ y) in
    let q : map_number kind t e w.0 ≡ b = eqb-true _ _ w.2 in
    let n : Names kind t e w.0 =
    record {
      entry_there = k;
      place_there = w.1;
      entry_used = not-true _ (and_fst _ _ y);
      some = λ (z : map_number kind t e w.0 ≡ 0). absurd (omega arith);
    } in
    let z = h e w.0 n in
    absurd (free_unnamed kind s b u e w.0 z.named (sym z.number ∙ q)))
    (λ (y : names_block kind t b e ≡ false). y) (either (names_block kind t b e)))))

module _ (kind : Kind) (zeros : Bool) (s : List ℕ) (f : File) (r : ℕ) (v : List ℕ) (g : SoundImage kind s) (named : length f.name ≡ 11)
    (far : r ≤ top kind) (there : entry_of kind s f 0 < entries kind) (full : 128 ≤ length v) where
  free_so : free_block kind s < blocks kind s → is_free kind s (free_block kind s) ≡ true
  unfolding free_block
  free_so h = lowest_holds (is_free kind s) (blocks kind s) h

  -- a free block b into place r's of entry n of t, and what follows
  take_step : (w : Spot) (t : List ℕ) → w.taken ≡ true → w.entry < entries kind → Is t f (r / 128) w.entry
      → map_number kind t w.entry (map_place kind r) ≡ 0
      → w.block < blocks kind t → is_free kind t w.block ≡ true → SoundImage kind t
      → Wrote kind t (stored kind w r v (cleared kind zeros w (counted w r (mapped kind w r t)))) f r (block_size kind * w.block) (block_size kind) w.entry
      w.block
  unfolding mapped blocks
  take_step w t e₁ l is was high free g' =
      let q = map_place kind r in
      let a = block_size kind * w.block in
      let n = w.entry in
      let u = numbered kind n q w.block t in
      let z = stored kind w r v (cleared kind zeros w (counted w r u)) in
      let c = block_change kind t n q w.block f l (place_fits kind r) is.file was high free g' a (block_size kind) in
      let h = c.grown.head n l is.used in
      let file : file_at u n ≡ f = file_same t n u n h ∙ is.file in
      let y = free_low kind t w.block free in
      let d = ends_step kind f a (block_size kind) n q zeros w r v u l file y (rw c.touches.long high) full c.sound
      (λ x. (omega arith, omega arith)) (record-over kind w.block r) (record_room kind w.block r (a + block_size kind) (omega arith))
      (empty_same t n u n h ∙ is.used) in
      let there₀ : map_number kind u n q ≡ w.block = taken_there kind t n q w.block f l (place_fits kind r) is.file was high free g' in
      let named₀ : Names kind u n q = record {
        entry_there = l;
        place_there = place_fits kind r;
        entry_used = empty_same t n u n h ∙ is.used;
        some = λ (x : map_number kind u n q ≡ 0). absurd (let k : w.block ≡ 0 = sym there₀ ∙ x in omega arith);
      } in
      rw (if_true _ t w.taken e₁) (record {
        change = change_then kind t u z f a (block_size kind) n q c d.change;
        below = l;
        is = is_same u z f (r / 128) n (d.change.grown.head n l named₀.entry_used) (is_same t u f (r / 128) n h is);
        number = d.change.grown.number n q named₀ ∙ there₀;
        count = d.count;
      })

  -- extent and block new
  fresh_step : entries kind ≤ entry_of kind s f (r / 128) → free_entry kind s < entries kind → free_block kind s < blocks kind s
      → New kind s (written kind zeros (spot (free_entry kind s) true (free_block kind s) true) (entry_of kind s f 0) f r v s) f r
  unfolding written entered blocks ◌if◌else◌
  fresh_step gone room high =
      let w = spot (free_entry kind s) true (free_block kind s) true in
      let x : r / 128 ≤ top kind / 128 = omega arith in
      let n = free_entry kind s in
      let b = free_block kind s in
      let t = put (32 * n) (new_entry s (entry_of kind s f 0) f (r / 128)) s in
      let c = entered_change kind s f (r / 128) g named x there gone room (block_size kind * b) (block_size kind) n (map_place kind r) in
      let st = entered_stays kind s f (r / 128) g named x there gone room in
      let is = entered_is kind s f (r / 128) g named x there gone room in
      let no : Names kind s n (map_place kind r) → ⊥ = λ m. never (free_empty kind s room) m.entry_used in
      let was : map_number kind t n (map_place kind r) ≡ 0 = ⊎_elim (λ h. eqb-true _ _ h)
      (λ (h : eqb (map_number kind t n (map_place kind r)) 0 ≡ false).
      absurd (no (st n (map_place kind r) (record {
        entry_there = room;
        place_there = place_fits kind r;
        entry_used = is.used;
        some = eqb-false _ _ h;
      })).named))
      (either (eqb (map_number kind t n (map_place kind r)) 0)) in
      let k = take_step w t refl room is was (rw c.touches.long high) (free_stays kind s t b st (free_so high)) c.sound in
      record {
        entry = n;
        block = b;
        wrote = record {
          change = change_then kind s t _ f (block_size kind * b) (block_size kind) n (map_place kind r) c k.change;
          below = room;
          is = k.is;
          number = k.number;
          count = k.count;
        };
        free = free_so high;
        unnamed = no;
        within = high;
      }

  -- block new
  taken_step : (e : ℕ) → e < entries kind → Is s f (r / 128) e → map_number kind s e (map_place kind r) ≡ 0 → free_block kind s < blocks kind s
      → New kind s (written kind zeros (spot e false (free_block kind s) true) (entry_of kind s f 0) f r v s) f r
  unfolding written entered ◌if◌else◌
  taken_step e l is was high = record {
    entry = e;
    block = free_block kind s;
    wrote = take_step (spot e false (free_block kind s) true) s refl l is was high (free_so high) g;
    free = free_so high;
    unnamed = λ m. m.some was;
    within = high;
  }

  -- both there
  old_step : (e : ℕ) → e < entries kind → Is s f (r / 128) e → (map_number kind s e (map_place kind r) ≡ 0 → ⊥)
      → Old kind s (written kind zeros (spot e false (map_number kind s e (map_place kind r)) false) (entry_of kind s f 0) f r v s) f r
  unfolding written entered mapped ◌if◌else◌
  old_step e l is some =
      let b = map_number kind s e (map_place kind r) in
      let m : Names kind s e (map_place kind r) = record { entry_there = l; place_there = place_fits kind r; entry_used = is.used; some = some } in
      let k = g.maps.range e (map_place kind r) m in
      let w = spot e false b false in
      let c = ends_step kind f (record_at kind b r) 128 e (map_place kind r) zeros w r v s l is.file k.0 k.1 full g
      (λ (x : false ≡ true). absurd (true≢false (sym x))) (omega arith) (omega arith) is.used in
      record {
        entry = e;
        block = b;
        wrote = record {
          change = c.change;
          below = l;
          is = is_same s (stored kind w r v (cleared kind zeros w (counted w r s))) f (r / 128) e (c.change.grown.head e l is.used) is;
          number = c.change.grown.number e (map_place kind r) m;
          count = c.count;
        };
        was_is = is;
        was = refl;
        some = some;
      }

  abbrev here : ℕ
  here = entry_of kind s f (r / 128)

  abbrev image : List ℕ
  image = written kind zeros (spot_at kind s here r) (entry_of kind s f 0) f r v s

  -- the record is written in the block that it has, or in a free one, which is the spot's
  pub written_spot : (leb (entries kind) here and leb (entries kind) (free_entry kind s)) ≡ false
      → (eqb (block_in kind s here r) 0 and leb (blocks kind s) (free_block kind s)) ≡ false
      → (((spot_at kind s here r).taken ≡ false) × Old kind s image f r)
      ⊎ (((spot_at kind s here r).taken ≡ true) × (k : New kind s image f r) × (k.block ≡ (spot_at kind s here r).block))
  unfolding spot_at block_in ◌if◌else◌ ◌and◌ fresh_step taken_step
  written_spot room block =
      ⊎_elim
      (λ (q : leb (entries kind) here ≡ true).
      let m : leb (entries kind) (free_entry kind s) ≡ false = rw q at room in
      let k : leb (blocks kind s) (free_block kind s) ≡ false = rw q at block in
      rw q (inr (refl, fresh_step (leb-true (entries kind) here q) (leb-false (entries kind) _ m) (leb-false (blocks kind s) _ k), refl)))
      (λ (q : leb (entries kind) here ≡ false).
      let l = leb-false (entries kind) here q in
      let is = found_is kind s f (r / 128) named l in
      ⊎_elim
      (λ (z : eqb (map_number kind s here (map_place kind r)) 0 ≡ true).
      let k : leb (blocks kind s) (free_block kind s) ≡ false = rw (q, z) at block in
      rw (q, z) (inr (refl, taken_step here l is (eqb-true _ _ z) (leb-false (blocks kind s) _ k), refl)))
      (λ (z : eqb (map_number kind s here (map_place kind r)) 0 ≡ false).
      rw (q, z) (inl (refl, old_step here l is (eqb-false _ _ z))))
      (either (eqb (map_number kind s here (map_place kind r)) 0)))
      (either (leb (entries kind) here))

  -- the same where the spot does not matter
  pub written_step : (leb (entries kind) here and leb (entries kind) (free_entry kind s)) ≡ false
      → (eqb (block_in kind s here r) 0 and leb (blocks kind s) (free_block kind s)) ≡ false
      → Old kind s image f r ⊎ New kind s image f r
  written_step room block =
      ⊎_elim (λ (k : ((spot_at kind s here r).taken ≡ false) × Old kind s image f r). inl k.1)
      (λ (k : ((spot_at kind s here r).taken ≡ true) × (n : New kind s image f r) × (n.block ≡ (spot_at kind s here r).block)). inr k.1)
      (written_spot room block)

  -- the extent then stands at the spot's entry
  pub written_entry : (leb (entries kind) here and leb (entries kind) (free_entry kind s)) ≡ false
      → (eqb (block_in kind s here r) 0 and leb (blocks kind s) (free_block kind s)) ≡ false
      → Is (written kind zeros (spot_at kind s here r) (entry_of kind s f 0) f r v s) f (r / 128) (spot_at kind s here r).entry
  unfolding spot_at block_in ◌if◌else◌ ◌and◌ fresh_step taken_step old_step
  written_entry room block =
      ⊎_elim
      (λ (q : leb (entries kind) here ≡ true).
      let m : leb (entries kind) (free_entry kind s) ≡ false = rw q at room in
      let k : leb (blocks kind s) (free_block kind s) ≡ false = rw q at block in
      rw q (fresh_step (leb-true (entries kind) here q) (leb-false (entries kind) _ m) (leb-false (blocks kind s) _ k)).wrote.is)
      (λ (q : leb (entries kind) here ≡ false).
      let l = leb-false (entries kind) here q in
      let is = found_is kind s f (r / 128) named l in
      ⊎_elim
      (λ (z : eqb (map_number kind s here (map_place kind r)) 0 ≡ true).
      let k : leb (blocks kind s) (free_block kind s) ≡ false = rw (q, z) at block in
      rw (q, z) (taken_step here l is (eqb-true _ _ z) (leb-false (blocks kind s) _ k)).wrote.is)
      (λ (z : eqb (map_number kind s here (map_place kind r)) 0 ≡ false).
      rw (q, z) (old_step here l is (eqb-false _ _ z)).wrote.is)
      (either (eqb (map_number kind s here (map_place kind r)) 0)))
      (either (leb (entries kind) here))

  -- nothing is taken away, ..
  grown_to : (t : List ℕ) → Old kind s t f r ⊎ New kind s t f r → Grown kind s t
  grown_to t w = ⊎_elim (λ (k : Old kind s t f r). k.wrote.change.grown) (λ (k : New kind s t f r). k.wrote.change.grown) w

  -- .. and extent 0 stands where it stood
  pub written_first : (leb (entries kind) here and leb (entries kind) (free_entry kind s)) ≡ false
      → (eqb (block_in kind s here r) 0 and leb (blocks kind s) (free_block kind s)) ≡ false
      → Is (written kind zeros (spot_at kind s here r) (entry_of kind s f 0) f r v s) f 0 (entry_of kind s f 0)
  written_first room block =
      let i = found_is kind s f 0 named there in
      is_same s (written kind zeros (spot_at kind s here r) (entry_of kind s f 0) f r v s) f 0 (entry_of kind s f 0)
      ((grown_to _ (written_step room block)).head (entry_of kind s f 0) there i.used) i
