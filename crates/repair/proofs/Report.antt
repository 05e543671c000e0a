-- The third pass place by place, and the report: what a comparison of the image before and after tells. Assumes nothing.
use Prim.Native.Nat.{ℕ, zero, suc, ◌+◌, ◌*◌, ◌≤◌, ◌<◌}
use mathlib.Core.Path.{◌≡◌, refl, sym, ap, ◌∙◌}
use mathlib.Core.Bool.{Bool, true, false, not}
use mathlib.Core.List.{List}
use mathlib.Core.Logic.{⊎_elim}
use native.Mathlib.Omega.{arith}
use lib.ListN.{length}
use lib.Dec.{eqb}
use borrow.Author.Tests.{eq-eqb, ne_eqb}
use Rattle.words.specs.Tests.{◌and◌, ◌or◌, ◌if◌else◌, count}
use Rattle.words.specs.Lists.{turns}
use Rattle.words.specs.Bytes.{byte}
use Rattle.words.proofs.Tests.{either, equal?, never, any_ext}
use Rattle.words.proofs.Lists.{tab_at, length-tab}
use Rattle.words.proofs.Counts.{count_ext, count_within}
use Rattle.words.proofs.Sets.{not_of_true, not_of_false}
use Rattle.rules.specs.declared.kind.Kind.{Kind}
use Rattle.rules.specs.Kinds.{entries, numbers}
use Rattle.rules.specs.Drive.{good_length, blocks, is_empty, map_number, holds_number, names_block, named_before, in_range, is_first}
use Rattle.rules.proofs.Frames.{map_same}
use Rattle.soundness.proofs.Numbers.{numbered}
use Rattle.repair.specs.Salvage.{must_zero, zeroed_at, zeroed_to, cleaned_at, cleaned_to, kept, repaired, is_zeroed, emptied_told, told_of, told_at, report_of}
use Rattle.repair.specs.Salvage.{number_changed, compared}
use Rattle.repair.specs.Mends.{stays_named}
use Rattle.repair.proofs.Zeros.{zeroed_here, zeroed_other, numbers_few}
use Rattle.repair.proofs.Changes.{Zeroes, turns_zeroes, to_zeroes, zeroes_empty, still}
use Rattle.repair.proofs.Emptying.{kept_empties}
use Rattle.repair.proofs.Cleaning.{good_long, kept_long}

-- what a step leaves alone, the turns from m to n do
turns_frame : (step : ℕ → List ℕ → List ℕ) (read : List ℕ → ℕ) (s : List ℕ) (m n : ℕ) → m ≤ n
    → ((j : ℕ) → m ≤ j → j < n → (t : List ℕ) → length t ≡ length s → read (step j t) ≡ read t)
    → ((j : ℕ) → j < n → length (turns step j s) ≡ length s) → read (turns step n s) ≡ read (turns step m s)
unfolding turns
turns_frame step read s m zero l h len = let q : m ≡ 0 = omega arith in rw q refl
turns_frame step read s m (suc n) l h len =
    ⊎_elim (λ (q : m ≡ suc n). rw q refl)
    (λ (q : m ≡ suc n → ⊥).
    h n (omega arith) (omega arith) (turns step n s) (len n (omega arith))
    ∙ turns_frame step read s m n (omega arith) (λ j a b. h j a (omega arith)) (λ j b. len j (omega arith)))
    (equal? m (suc n))

not-not : (x : Bool) → not (not x) ≡ x
not-not true = refl
not-not false = refl

module _ (kind : Kind) where
  -- ---- a number that a step leaves alone

  zero_other : (s : List ℕ) (d j e k : ℕ) → 32 * d + 32 ≤ length s → j < numbers kind → k < numbers kind → ((e ≡ d) × (k ≡ j) → ⊥)
      → map_number kind (zeroed_at kind d j s) e k ≡ map_number kind s e k
  unfolding zeroed_at ◌if◌else◌
  zero_other s d j e k fits l m n =
      ⊎_elim (λ (h : must_zero kind s d j ≡ true). rw h (zeroed_other kind s d j fits l e k m n)) (λ (h : must_zero kind s d j ≡ false). rw h refl)
      (either (must_zero kind s d j))

  -- of entry e, the turns of places from i to j, place k not among them
  zeroed_frame : (s : List ℕ) (d e k i j : ℕ) → d < entries kind → 32 * entries kind ≤ length s → is_empty s d ≡ false → i ≤ j → j ≤ numbers kind
      → k < numbers kind → ((q : ℕ) → i ≤ q → q < j → (e ≡ d) × (k ≡ q) → ⊥)
      → map_number kind (zeroed_to kind d j s) e k ≡ map_number kind (zeroed_to kind d i s) e k
  unfolding zeroed_to
  zeroed_frame s d e k i j l long u o n m h =
      turns_frame (zeroed_at kind d) (λ (t : List ℕ). map_number kind t e k) s i j o
      (λ q a b t z. zero_other t d q e k (omega arith) (omega arith) m (h q a b)) (λ q b. (to_zeroes kind s d q l (omega arith) long u).len)

  clean_other : (s : List ℕ) (d e k : ℕ) → d < entries kind → 32 * entries kind ≤ length s → k < numbers kind → (e ≡ d → ⊥)
      → map_number kind (cleaned_at kind d s) e k ≡ map_number kind s e k
  unfolding cleaned_at zeroed_to turns ◌if◌else◌
  clean_other s d e k l long m n =
      ⊎_elim (λ (h : is_empty s d ≡ true). rw h refl)
      (λ (h : is_empty s d ≡ false). rw h (zeroed_frame s d e k 0 (numbers kind) l long h (omega arith) (omega arith) m (λ q a b z. n z.0)))
      (either (is_empty s d))

  -- the turns of entries from i to j, entry e not among them
  cleaned_frame : (s : List ℕ) (e k i j : ℕ) → 32 * entries kind ≤ length s → i ≤ j → j ≤ entries kind → k < numbers kind
      → ((d : ℕ) → i ≤ d → d < j → e ≡ d → ⊥) → map_number kind (cleaned_to kind j s) e k ≡ map_number kind (cleaned_to kind i s) e k
  unfolding cleaned_to
  cleaned_frame s e k i j long o n m h =
      turns_frame (cleaned_at kind) (λ (t : List ℕ). map_number kind t e k) s i j o
      (λ d a b t z. clean_other t d e k (omega arith) (omega arith) m (h d a b)) (λ d b. (turns_zeroes kind s d (omega arith) long).len)

  -- ---- place k of entry e in its turn: it is zeroed exactly where it then differs, for what is zeroed was not 0

  module _ (s : List ℕ) (e k : ℕ) (fits : 32 * e + 32 ≤ length s) (there : k < numbers kind) where
    some : must_zero kind s e k ≡ true → map_number kind s e k ≡ 0 → ⊥
    unfolding must_zero in_range is_first ◌or◌ ◌and◌
    some h z = let w : not (true and true) ≡ true = rw z at h in never w refl

    turn : must_zero kind s e k ≡ not (eqb (map_number kind (zeroed_at kind e k s) e k) (map_number kind s e k))
    unfolding zeroed_at ◌if◌else◌
    turn =
        ⊎_elim
        (λ (h : must_zero kind s e k ≡ true).
        let a = zeroed_here kind s e k fits there in
        let b : map_number kind (numbered kind e k 0 s) e k ≡ map_number kind s e k → ⊥ = λ z. some h (sym z ∙ a) in
        rw h (sym (not_of_false _ (ne_eqb _ _ b))))
        (λ (h : must_zero kind s e k ≡ false). rw h (sym (not_of_true _ (eq-eqb (map_number kind s e k) (map_number kind s e k) refl))))
        (either (must_zero kind s e k))

  -- ---- entry e

  module _ (s : List ℕ) (h : good_length kind s ≡ true) (e : ℕ) (l : e < entries kind) where
    -- after the two passes, when its turn in the third comes, and after all
    abbrev t : List ℕ
    t = kept kind s

    abbrev v : List ℕ
    v = cleaned_to kind e t

    abbrev u : List ℕ
    u = cleaned_to kind (entries kind) t

    long_t : 32 * entries kind ≤ length t
    long_t = kept_long kind s h

    to_v : Zeroes kind t v
    to_v = turns_zeroes kind t e (omega arith) long_t

    long_v : 32 * entries kind ≤ length v
    long_v = let a = long_t in let b = to_v.len in omega arith

    to_u : Zeroes kind t u
    to_u = turns_zeroes kind t (entries kind) (omega arith) long_t

    empty_v : is_empty v e ≡ is_empty u e
    empty_v = zeroes_empty kind t v e l to_v ∙ sym (zeroes_empty kind t u e l to_u)

    module _ (used : is_empty u e ≡ false) where
      used_t : is_empty t e ≡ false
      used_t = sym (zeroes_empty kind t u e l to_u) ∙ used

      used_v : is_empty v e ≡ false
      used_v = empty_v ∙ used

      whole : (j : ℕ) → map_number kind (cleaned_at kind e v) e j ≡ map_number kind (zeroed_to kind e (numbers kind) v) e j
      unfolding cleaned_at ◌if◌else◌
      whole j = rw used_v refl

      -- nothing touches a place after its turn ..
      late : (i j : ℕ) → j < i → i ≤ numbers kind → map_number kind u e j ≡ map_number kind (zeroed_to kind e i v) e j
      unfolding cleaned_to turns
      late i j b n =
          cleaned_frame t e j (suc e) (entries kind) long_t l (omega arith) (omega arith) (λ d a c z. absurd (omega arith)) ∙ whole j
          ∙ zeroed_frame v e e j i (numbers kind) l long_v used_v n (omega arith) (omega arith) (λ q a c z. let d = z.1 in absurd (omega arith))

      module _ (k : ℕ) (m : k < numbers kind) where
        -- when the turn of place k comes
        abbrev w : List ℕ
        w = zeroed_to kind e k v

        -- .. or before it
        ahead : map_number kind w e k ≡ map_number kind s e k
        unfolding zeroed_to cleaned_to turns
        ahead =
            zeroed_frame v e e k 0 k l long_v used_v (omega arith) (omega arith) m (λ q a b z. let d = z.1 in absurd (omega arith))
            ∙ cleaned_frame t e k 0 e long_t (omega arith) (omega arith) m (λ d a b z. absurd (omega arith))
            ∙ map_same kind s t e k (still kind s t (kept_empties kind s (good_long kind s h)) e l used_t) m

        after : map_number kind u e k ≡ map_number kind (zeroed_at kind e k w) e k
        unfolding zeroed_to turns
        after = late (suc k) k (omega arith) m

        to_w : Zeroes kind v w
        to_w = to_zeroes kind v e k l (omega arith) long_v used_v

        long_w : 32 * e + 32 ≤ length w
        long_w = let a = long_v in let c = to_w.len in omega arith

        zeroed_changed : is_zeroed kind v e k ≡ number_changed kind s u e k
        unfolding is_zeroed number_changed
        zeroed_changed =
            turn w e k long_w m ∙ ap (λ (n : ℕ). not (eqb n (map_number kind w e k))) (sym after)
            ∙ ap (λ (n : ℕ). not (eqb (map_number kind u e k) n)) ahead

        -- what is named before the place in its turn is so in the end
        number_before : (d j : ℕ) → d < e → j < numbers kind → map_number kind w d j ≡ map_number kind u d j
        unfolding zeroed_to turns
        number_before d j c n =
            zeroed_frame v e d j 0 k l long_v used_v (omega arith) (omega arith) n (λ q a z y. let x = y.0 in absurd (omega arith))
            ∙ sym (cleaned_frame t d j e (entries kind) long_t (omega arith) (omega arith) n (λ q a z y. absurd (omega arith)))

        empty_before : (d : ℕ) → d < e → is_empty w d ≡ is_empty u d
        empty_before d c =
            let f : d < entries kind = omega arith in
            zeroes_empty kind v w d f to_w ∙ zeroes_empty kind t v d f to_v ∙ sym (zeroes_empty kind t u d f to_u)

        names_before : (b d : ℕ) → d < e → names_block kind w b d ≡ names_block kind u b d
        unfolding names_block holds_number
        names_before b d c =
            rw (
              empty_before d c,
              any_ext (holds_number kind w b d) (holds_number kind u b d) (numbers kind) (λ j n. ap (λ (x : ℕ). eqb x b) (number_before d j c n)),
            )

        before_end : (b : ℕ) → named_before kind w b e k ≡ named_before kind u b e k
        unfolding named_before holds_number
        before_end b =
            rw (
              any_ext (names_block kind w b) (names_block kind u b) e (names_before b),
              any_ext (holds_number kind w b e) (holds_number kind u b e) k (λ j c. ap (λ (x : ℕ). eqb x b) (sym (late k j c (omega arith)))),
            )

        stays_end : must_zero kind w e k ≡ not (stays_named kind s u e k)
        unfolding must_zero stays_named in_range is_first blocks
        stays_end =
            let n : length w ≡ length s = to_w.len ∙ to_v.len ∙ (kept_empties kind s (good_long kind s h)).len in
            rw (ahead, n, before_end (map_number kind s e k)) refl

        number_turn : map_number kind (zeroed_at kind e k w) e k ≡ (map_number kind w e k if not (must_zero kind w e k) else 0)
        unfolding zeroed_at ◌if◌else◌
        number_turn =
            ⊎_elim (λ (z : must_zero kind w e k ≡ true). rw z (zeroed_here kind w e k long_w m)) (λ (z : must_zero kind w e k ≡ false). rw z refl)
            (either (must_zero kind w e k))

        number_end : map_number kind u e k ≡ (map_number kind s e k if stays_named kind s u e k else 0)
        number_end = after ∙ number_turn ∙ rw (ahead, stays_end, not-not (stays_named kind s u e k)) refl

    -- Of an entry that stays, a block number is left exactly where it is in range and no number that stays before it names its block,
    -- and is zeroed everywhere else.
    pub number_exactly : is_empty (repaired kind s) e ≡ false → (k : ℕ) → k < numbers kind
        → map_number kind (repaired kind s) e k ≡ (map_number kind s e k if stays_named kind s (repaired kind s) e k else 0)
    unfolding repaired
    number_exactly used k m = number_end used k m

    told_compared : told_at kind s e ≡ compared kind s (repaired kind s) e
    unfolding repaired told_at told_of compared ◌if◌else◌
    told_compared =
        ⊎_elim (λ (q : is_empty u e ≡ true). rw (empty_v, q) refl)
        (λ (q : is_empty u e ≡ false).
        rw (empty_v, q) (count_ext (is_zeroed kind v e) (number_changed kind s u e) (numbers kind) (λ k m. zeroed_changed q k m)))
        (either (is_empty u e))

    -- The report is what comparing the images before and after tells of each entry.
    pub report_compares : byte (report_of kind s) e ≡ compared kind s (repaired kind s) e
    unfolding report_of
    report_compares = tab_at (told_at kind s) (entries kind) e 0 l ∙ told_compared

    -- "255 emptied": so it is reported of an entry that was in use and is no longer, ..
    pub told_emptied : is_empty s e ≡ false → is_empty (repaired kind s) e ≡ true → byte (report_of kind s) e ≡ 255
    unfolding compared emptied_told ◌if◌else◌
    told_emptied a b = report_compares ∙ rw (b, a) refl

    -- .. and of no other; ..
    pub emptied-told : byte (report_of kind s) e ≡ 255 → (is_empty s e ≡ false) × (is_empty (repaired kind s) e ≡ true)
    unfolding compared emptied_told ◌if◌else◌
    emptied-told q =
        ⊎_elim
        (λ (b : is_empty (repaired kind s) e ≡ true). ⊎_elim
        (λ (a : is_empty s e ≡ true). let z : 0 ≡ 255 = rw (b, a) at (sym report_compares ∙ q) in absurd (omega arith))
        (λ (a : is_empty s e ≡ false). (a, b)) (either (is_empty s e)))
        (λ (b : is_empty (repaired kind s) e ≡ false).
        let z : count (number_changed kind s (repaired kind s) e) (numbers kind) ≡ 255 = rw b at (sym report_compares ∙ q) in
        let k = count_within (number_changed kind s (repaired kind s) e) (numbers kind) in
        let few = numbers_few kind in
        absurd (omega arith))
        (either (is_empty (repaired kind s) e))

    -- .. "else the number of map bytes zeroed": of an entry in use, how many of its block numbers differ.
    pub told_zeroed : is_empty (repaired kind s) e ≡ false
        → byte (report_of kind s) e ≡ count (number_changed kind s (repaired kind s) e) (numbers kind)
    unfolding compared ◌if◌else◌
    told_zeroed b = report_compares ∙ rw b refl

  -- It has a byte for each entry.
  pub report_length : (s : List ℕ) → length (report_of kind s) ≡ entries kind
  unfolding report_of
  report_length s = length-tab (told_at kind s) (entries kind)
