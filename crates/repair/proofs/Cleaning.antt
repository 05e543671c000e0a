-- The third pass: the block numbers that stay are in range and differ, so that the result is sound. Assumes nothing.
use Prim.Native.Nat.{ℕ, zero, suc, ◌+◌, ◌*◌, ◌≤◌, ◌<◌}
use mathlib.Core.Path.{◌≡◌, sym, ap, ◌∙◌}
use mathlib.Core.Bool.{true, false}
use mathlib.Core.List.{List}
use mathlib.Core.Logic.{◌⊎◌, inl, inr, ⊎_elim}
use native.Mathlib.Omega.{arith}
use lib.ListN.{length}
use lib.Dec.{ltb}
use borrow.Author.Tests.{eq-eqb, ne_eqb, leb-true, ltb-true, ltb-false, not-true, not-false}
use Rattle.words.specs.Tests.{◌if◌else◌}
use Rattle.words.specs.Lists.{turns}
use Rattle.words.proofs.Tests.{either, equal?, never, and_fst, and_snd, or_fst, or_snd, or_so, any_at, any_found}
use Rattle.words.proofs.Sets.{and_both, not_of_false}
use Rattle.rules.specs.declared.kind.Kind.{Kind}
use Rattle.rules.specs.Kinds.{entries, numbers}
use Rattle.rules.specs.Drive.{good_length, blocks, is_empty, file_at, map_number, in_range, is_first, named_before, names_block, holds_number, sound_image}
use Rattle.rules.proofs.Sound.{Entries, Names, Maps, sound_so, length_long}
use Rattle.rules.proofs.Frames.{Head, extent_same, file_same, fields_so, count_good, is_same, names_same, long_same}
use Rattle.soundness.proofs.Numbers.{numbered}
use Rattle.repair.specs.Salvage.{must_zero, zeroed_at, zeroed_to, cleaned_at, cleaned_to, kept, repaired}
use Rattle.repair.proofs.Zeros.{zeroed_here, zeroed_other, numbers_few}
use Rattle.repair.proofs.Changes.{Zeroes, zeroed_zeroes, zeroes_empty, zeroes_head, to_zeroes, turns_zeroes}
use Rattle.repair.proofs.Emptying.{kept_empties, kept_entries}

-- the numbers at places before p, 16 to an entry, are in range, and no two of them are the same
record Clean (kind : Kind) (p : ℕ) (s : List ℕ) : Type 0 where
  pub range : (e k : ℕ) → Names kind s e k → 16 * e + k < p → (2 ≤ map_number kind s e k) × (map_number kind s e k < blocks kind s)
  pub once : (d j e k : ℕ) → Names kind s d j → Names kind s e k → 16 * d + j < p → 16 * e + k < p → map_number kind s d j ≡ map_number kind s e k
      → (d ≡ e) × (j ≡ k)

-- that place or another
place? : (d j e k : ℕ) → ((d ≡ e) × (j ≡ k)) ⊎ ((d ≡ e) × (j ≡ k) → ⊥)
place? d j e k =
    ⊎_elim (λ (a : d ≡ e). ⊎_elim (λ (b : j ≡ k). inl (a, b)) (λ (b : j ≡ k → ⊥). inr (λ z. b z.1)) (equal? j k))
    (λ (a : d ≡ e → ⊥). inr (λ z. a z.0)) (equal? d e)

module _ (kind : Kind) where
  -- zeroing map bytes leaves what is said of heads
  zeroes_entries : (s t : List ℕ) → Zeroes kind s t → Entries kind s → Entries kind t
  zeroes_entries s t h g =
      let head : (e : ℕ) → e < entries kind → Head s e t e = λ e l. zeroes_head kind s t e l h in
      let used : (e : ℕ) → e < entries kind → is_empty t e ≡ false → is_empty s e ≡ false = λ e l u. sym (zeroes_empty kind s t e l h) ∙ u in
      record {
        fields = λ e l u.
            let f = g.fields e l (used e l u) in
            fields_so s e t e (head e l) kind (rw (h.head e 15 l (omega arith)) (count_good kind s e f)) f;
        single = λ d e m l u i. g.single d e m l (used e l u) (record {
          used = used d (omega arith) i.used;
          file = sym (file_same s d t d (head d (omega arith))) ∙ i.file ∙ file_same s e t e (head e l);
          extent = sym (extent_same s d t d (head d (omega arith))) ∙ i.extent ∙ extent_same s e t e (head e l);
        });
        begun = λ e l u.
            let w = g.begun e l (used e l u) in
            rw (file_same s e t e (head e l)) (w.0, w.1, is_same s t (file_at s e) 0 w.0 (head w.0 w.1) w.2);
      }

  -- fewer places are clean too
  clean_fewer : (s : List ℕ) (p q : ℕ) → ((e k : ℕ) → Names kind s e k → 16 * e + k < q → 16 * e + k < p) → Clean kind p s → Clean kind q s
  clean_fewer s p q h g = record {
    range = λ e k m l. g.range e k m (h e k m l);
    once = λ d j e k m o l r z. g.once d j e k m o (h d j m l) (h e k o r) z;
  }

  -- ---- one place

  module _ (s : List ℕ) (n q : ℕ) (below : n < entries kind) (within : q < numbers kind) (long : 32 * entries kind ≤ length s)
      (used : is_empty s n ≡ false) (g : Clean kind (16 * n + q) s) where
    -- a place before the next one is before this one, or it is this one
    before : (e k : ℕ) → k < numbers kind → 16 * e + k < 16 * n + suc q → ((e ≡ n) × (k ≡ q) → ⊥) → 16 * e + k < 16 * n + q
    before e k kl l i =
        let few = numbers_few kind in
        ⊎_elim (λ (y : 16 * e + k ≡ 16 * n + q). absurd (i (omega arith, omega arith))) (λ (y : 16 * e + k ≡ 16 * n + q → ⊥). omega arith)
        (equal? (16 * e + k) (16 * n + q))

    -- a number that stays is in range ..
    module _ (h : must_zero kind s n q ≡ false) (m : Names kind s n q) where
      here_range : (2 ≤ map_number kind s n q) × (map_number kind s n q < blocks kind s)
      unfolding must_zero in_range
      here_range =
          let r = or_so _ _ (and_fst _ _ (not-false _ h)) (ne_eqb _ _ m.some) in (leb-true _ _ (and_fst _ _ r), ltb-true _ _ (and_snd _ _ r))

      unnamed : named_before kind s (map_number kind s n q) n q ≡ false
      unfolding must_zero is_first
      unnamed = not-true _ (or_so _ _ (and_snd _ _ (not-false _ h)) (ne_eqb _ _ m.some))

      -- .. and not named before
      here_new : (e k : ℕ) → Names kind s e k → 16 * e + k < 16 * n + q → map_number kind s e k ≡ map_number kind s n q → ⊥
      unfolding named_before names_block holds_number
      here_new e k o l z =
          let b = map_number kind s n q in
          let kl = o.place_there in
          let few = numbers_few kind in
          ⊎_elim
          (λ (a : ltb e n ≡ true).
          let y = any_found (holds_number kind s b e) (numbers kind) k o.place_there (eq-eqb _ _ z) in
          never (and_both _ _ (not_of_false _ o.entry_used) y) (any_at (names_block kind s b) n e (or_fst _ _ unnamed) (ltb-true e n a)))
          (λ (a : ltb e n ≡ false).
          let a' = ltb-false e n a in
          let i : e ≡ n = omega arith in
          let z' : map_number kind s n k ≡ b = ap (λ (x : ℕ). map_number kind s x k) (sym i) ∙ z in
          never (eq-eqb _ _ z') (any_at (holds_number kind s b n) q k (or_snd _ _ unnamed) (omega arith)))
          (either (ltb e n))

    same_number : (e k : ℕ) → (e ≡ n) × (k ≡ q) → map_number kind s e k ≡ map_number kind s n q
    same_number e k i = rw (i.0, i.1)

    clean_stays : must_zero kind s n q ≡ false → Clean kind (16 * n + suc q) s
    clean_stays h = record {
      range = λ e k m l.
          ⊎_elim (λ (i : (e ≡ n) × (k ≡ q)). rw (i.0, i.1) (here_range h (rw (i.0, i.1) at m)))
          (λ (i : (e ≡ n) × (k ≡ q) → ⊥). g.range e k m (before e k m.place_there l i)) (place? e k n q);
      once = λ d j e k m o l r z.
          let jl = m.place_there in
          let kl = o.place_there in
          ⊎_elim
          (λ (a : (d ≡ n) × (j ≡ q)). ⊎_elim
          (λ (b : (e ≡ n) × (k ≡ q)). (a.0 ∙ sym b.0, a.1 ∙ sym b.1))
          (λ (b : (e ≡ n) × (k ≡ q) → ⊥). absurd (here_new h (rw (a.0, a.1) at m) e k o (before e k kl r b) (sym z ∙ same_number d j a)))
          (place? e k n q))
          (λ (a : (d ≡ n) × (j ≡ q) → ⊥). ⊎_elim
          (λ (b : (e ≡ n) × (k ≡ q)). absurd (here_new h (rw (b.0, b.1) at o) d j m (before d j jl l a) (z ∙ same_number e k b)))
          (λ (b : (e ≡ n) × (k ≡ q) → ⊥). g.once d j e k m o (before d j jl l a) (before e k kl r b) z) (place? e k n q))
          (place? d j n q);
    }

    -- a place that names a block once this one is zeroed is another, and named it before
    module _ (e k : ℕ) (m : Names kind (numbered kind n q 0 s) e k) where
      other : (e ≡ n) × (k ≡ q) → ⊥
      other i =
          let m' : Names kind (numbered kind n q 0 s) n q = rw (i.0, i.1) at m in
          m'.some (zeroed_here kind s n q (omega arith) within)

      number_stays : map_number kind (numbered kind n q 0 s) e k ≡ map_number kind s e k
      number_stays = zeroed_other kind s n q (omega arith) within e k m.place_there other

      named_stays : Names kind s e k
      named_stays =
          names_same kind s (numbered kind n q 0 s) e k
          (zeroes_empty kind s (numbered kind n q 0 s) e m.entry_there (zeroed_zeroes kind s n q below within long used)) number_stays m

      earlier : 16 * e + k < 16 * n + suc q → 16 * e + k < 16 * n + q
      earlier l = before e k m.place_there l other

    clean_zeroed : Clean kind (16 * n + suc q) (numbered kind n q 0 s)
    unfolding blocks
    clean_zeroed =
        let w = zeroed_zeroes kind s n q below within long used in
        record {
          range = λ e k m l. rw (number_stays e k m, w.len) (g.range e k (named_stays e k m) (earlier e k m l));
          once = λ d j e k m o l r z.
              g.once d j e k (named_stays d j m) (named_stays e k o) (earlier d j m l) (earlier e k o r) (sym (number_stays d j m) ∙ z ∙ number_stays e k o);
        }

    clean_step : Clean kind (16 * n + suc q) (zeroed_at kind n q s)
    unfolding zeroed_at ◌if◌else◌
    clean_step =
        ⊎_elim (λ (h : must_zero kind s n q ≡ true). rw h clean_zeroed) (λ (h : must_zero kind s n q ≡ false). rw h (clean_stays h))
        (either (must_zero kind s n q))

  -- ---- one entry

  module _ (s : List ℕ) (n : ℕ) (below : n < entries kind) (long : 32 * entries kind ≤ length s) (used : is_empty s n ≡ false)
      (g : Clean kind (16 * n + 0) s) where
    clean_to : (q : ℕ) → q ≤ numbers kind → Clean kind (16 * n + q) (zeroed_to kind n q s)
    unfolding zeroed_to turns
    clean_to zero l = g
    clean_to (suc q) l =
        let t = turns (zeroed_at kind n) q s in
        let w : Zeroes kind s t = to_zeroes kind s n q below (omega arith) long used in
        clean_step t n q below (omega arith) (let k = w.len in omega arith) (zeroes_empty kind s t n below w ∙ used) (clean_to q (omega arith))

  -- a place of another entry before the next one is before this one
  next_before : (e k n : ℕ) → (e ≡ n → ⊥) → k < numbers kind → 16 * e + k < 16 * suc n → 16 * e + k < 16 * n
  next_before e k n q m l = let few = numbers_few kind in let y : e < n = omega (arith, q) in omega arith

  clean_entry : (s : List ℕ) (n : ℕ) → n < entries kind → 32 * entries kind ≤ length s → Clean kind (16 * n) s → Clean kind (16 * suc n) (cleaned_at kind n s)
  unfolding cleaned_at ◌if◌else◌
  clean_entry s n l long g =
      ⊎_elim
      (λ (h : is_empty s n ≡ true).
      rw h (clean_fewer s (16 * n) (16 * suc n) (λ e k m b.
      ⊎_elim (λ (q : e ≡ n). absurd (never (ap (λ (i : ℕ). is_empty s i) q ∙ h) m.entry_used))
      (λ (q : e ≡ n → ⊥). next_before e k n q m.place_there b) (equal? e n)) g))
      (λ (h : is_empty s n ≡ false).
      let a : 16 * n + 0 ≡ 16 * n = omega arith in
      let t = zeroed_to kind n (numbers kind) s in
      let w = clean_to s n l long h (rw a g) (numbers kind) (omega arith) in
      rw h (clean_fewer t (16 * n + numbers kind) (16 * suc n) (λ e k m b.
      let kl = m.place_there in
      ⊎_elim (λ (q : e ≡ n). omega arith) (λ (q : e ≡ n → ⊥). let y = next_before e k n q kl b in omega arith) (equal? e n)) w))
      (either (is_empty s n))

  -- ---- all of them

  clean_turns : (s : List ℕ) (m : ℕ) → m ≤ entries kind → 32 * entries kind ≤ length s → Clean kind (16 * m) (cleaned_to kind m s)
  unfolding cleaned_to turns
  clean_turns s zero l long = record { range = λ e k m l. absurd (omega arith); once = λ d j e k m o l r z. absurd (omega arith) }
  clean_turns s (suc m) l long =
      clean_entry (turns (cleaned_at kind) m s) m (omega arith) (let k = (turns_zeroes kind s m (omega arith) long).len in omega arith)
      (clean_turns s m (omega arith) long)

  clean_maps : (s : List ℕ) → 32 * entries kind ≤ length s → Maps kind (cleaned_to kind (entries kind) s)
  clean_maps s long =
      let t = cleaned_to kind (entries kind) s in
      let g = clean_turns s (entries kind) (omega arith) long in
      let there : (e k : ℕ) → Names kind t e k → 16 * e + k < 16 * entries kind = λ e k m.
      let a = m.entry_there in
      let b = m.place_there in
      let few = numbers_few kind in omega arith in
      record { range = λ e k m. g.range e k m (there e k m); once = λ d j e k m o z. g.once d j e k m o (there d j m) (there e k o) z }

  module _ (s : List ℕ) (h : good_length kind s ≡ true) where
    -- the image is long enough for its directory, ..
    pub good_long : 32 * entries kind ≤ length s
    good_long = let a = length_long kind s h in omega arith

    -- .. also when entries have been emptied
    pub kept_long : 32 * entries kind ≤ length (kept kind s)
    kept_long = let a = good_long in let l = (kept_empties kind s good_long).len in omega arith

    -- the third pass, on what the first two left
    pub repaired_zeroes : Zeroes kind (kept kind s) (repaired kind s)
    unfolding repaired
    repaired_zeroes = turns_zeroes kind (kept kind s) (entries kind) (omega arith) kept_long

    -- Salvage leaves the length of the image as it is.
    pub repaired-length : length (repaired kind s) ≡ length s
    repaired-length = repaired_zeroes.len ∙ (kept_empties kind s good_long).len

    repaired_maps : Maps kind (repaired kind s)
    unfolding repaired
    repaired_maps = clean_maps (kept kind s) kept_long

    -- "The result is sound", for every image of good length.
    pub repaired_sound : sound_image kind (repaired kind s) ≡ true
    repaired_sound = sound_so kind (repaired kind s) (record {
      long = long_same kind s (repaired kind s) repaired-length h;
      files = zeroes_entries (kept kind s) (repaired kind s) repaired_zeroes (kept_entries kind s good_long);
      maps = repaired_maps;
    })
