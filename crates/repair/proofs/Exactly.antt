-- Which entries the first two passes empty, said of what they leave and not of the image as it then stands. Assumes nothing.
use Prim.Native.Nat.{ℕ, zero, suc, ◌+◌, ◌*◌, ◌≤◌, ◌<◌}
use mathlib.Core.Path.{◌≡◌, refl, ◌∙◌}
use mathlib.Core.Bool.{true, false, not}
use mathlib.Core.List.{List}
use mathlib.Core.Logic.{⊎_elim}
use native.Mathlib.Omega.{arith}
use lib.ListN.{length}
use Rattle.words.specs.Tests.{◌and◌, ◌or◌, ◌if◌else◌, any}
use Rattle.words.specs.Lists.{turns}
use Rattle.words.proofs.Tests.{either, equal?, same_test, any_ext}
use Rattle.rules.specs.declared.file.File.{File}
use Rattle.rules.specs.declared.kind.Kind.{Kind}
use Rattle.rules.specs.Kinds.{entries}
use Rattle.rules.specs.Drive.{is_empty, file_at, extent_at, is_entry, good_fields, is_repeat, has_first}
use Rattle.rules.proofs.Sound.{Is, entry_so, entry_is, file_long}
use Rattle.rules.proofs.Frames.{Same, head_of, same_refl, same_then, same_back, empty_same, extent_same, file_same, fields_same, is_same}
use Rattle.repair.specs.Salvage.{emptied, must_go, weeded_at, weeded, begun_at, begun}
use Rattle.repair.proofs.Changes.{emptied_there, emptied_other, turns-weeded, turns_begun, still_is}
use Rattle.repair.proofs.Emptying.{not_first}

-- ---- a step that changes no entry but its own

module _ (step : ℕ → List ℕ → List ℕ) (own : (j d : ℕ) (t : List ℕ) → (d ≡ j → ⊥) → Same t d (step j t) d) where
  -- the turns from i to j change none but theirs
  frame : (s : List ℕ) (d i j : ℕ) → i ≤ j → ((q : ℕ) → i ≤ q → q < j → d ≡ q → ⊥) → Same (turns step i s) d (turns step j s) d
  unfolding turns
  frame s d i zero l h = let q : i ≡ 0 = omega arith in rw q (same_refl s d)
  frame s d i (suc j) l h =
      ⊎_elim (λ (q : i ≡ suc j). rw q (same_refl (turns step (suc j) s) d))
      (λ (q : i ≡ suc j → ⊥).
      let k : i ≤ j = omega (arith, q) in
      same_then (turns step i s) (turns step j s) (step j (turns step j s)) d
      (frame s d i j k (λ p a b. h p a (omega arith))) (own j d (turns step j s) (h j k (omega arith))))
      (equal? i (suc j))

  -- before the turn of entry e it is as it was, ..
  ahead : (s : List ℕ) (e : ℕ) → Same s e (turns step e s) e
  unfolding turns
  ahead s e = frame s e 0 e (omega arith) (λ q a b z. absurd (omega arith))

  -- .. after it as the turn left it
  behind : (s : List ℕ) (e n : ℕ) → e < n → Same (step e (turns step e s)) e (turns step n s) e
  unfolding turns
  behind s e n l = frame s e (suc e) n l (λ q a b z. absurd (omega arith))

-- ---- tests of the same entry in two images

empty_as : (s t : List ℕ) (e : ℕ) → Same s e t e → is_empty t e ≡ is_empty s e
empty_as s t e h = empty_same s e t e (head_of s e t e h)

fields_as : (kind : Kind) (s t : List ℕ) (e : ℕ) → Same s e t e → good_fields kind t e ≡ good_fields kind s e
fields_as kind s t e h = same_test _ _ (fields_same kind t e s e (same_back s t e h)) (fields_same kind s e t e h)

entry_as : (s t : List ℕ) (f : File) (x d : ℕ) → length f.name ≡ 11 → (Is t f x d → Is s f x d) → (Is s f x d → Is t f x d)
    → is_entry t f x d ≡ is_entry s f x d
entry_as s t f x d l h g =
    same_test _ _ (λ y. entry_so s f x d (h (entry_is t f x d l y))) (λ y. entry_so t f x d (g (entry_is s f x d l y)))

module _ (kind : Kind) where
  -- ---- the first pass

  weed_own : (j d : ℕ) (t : List ℕ) → (d ≡ j → ⊥) → Same t d (weeded_at kind j t) d
  unfolding weeded_at ◌if◌else◌
  weed_own j d t n =
      ⊎_elim (λ (h : must_go kind t j ≡ true). rw h (emptied_other t j d n)) (λ (h : must_go kind t j ≡ false). rw h (same_refl t d))
      (either (must_go kind t j))

  -- the turn of entry e
  weed_turn : (t : List ℕ) (e : ℕ) → 32 * e + 32 ≤ length t
      → is_empty (weeded_at kind e t) e ≡ (is_empty t e or (not (good_fields kind t e) or is_repeat t e))
  unfolding weeded_at must_go ◌if◌else◌ ◌and◌ ◌or◌
  weed_turn t e fits =
      ⊎_elim (λ (u : is_empty t e ≡ true). rw u u)
      (λ (u : is_empty t e ≡ false).
      let bad = not (good_fields kind t e) or is_repeat t e in
      ⊎_elim (λ (h : bad ≡ true). rw (u, h) (emptied_there t e fits)) (λ (h : bad ≡ false). rw (u, h) u) (either bad))
      (either (is_empty t e))

  module _ (s : List ℕ) (long : 32 * entries kind ≤ length s) (e : ℕ) (l : e < entries kind) where
    -- The first pass leaves empty exactly the entries that were empty, those with a bad field, and those whose file and extent stand
    -- in an earlier entry that it kept.
    pub weeded_exactly : is_empty (weeded kind s) e
        ≡ (is_empty s e or (not (good_fields kind s e) or any (is_entry (weeded kind s) (file_at s e) (extent_at s e)) e))
    unfolding weeded is_repeat
    weeded_exactly =
        let step = weeded_at kind in
        let t = turns step e s in
        let w = turns step (entries kind) s in
        let a = ahead step weed_own s e in
        let b = behind step weed_own s e (entries kind) l in
        let fits : 32 * e + 32 ≤ length t = let k = (turns-weeded kind s e (omega arith) long).len in omega arith in
        let repeats : any (is_entry t (file_at t e) (extent_at t e)) e ≡ any (is_entry w (file_at s e) (extent_at s e)) e =
        rw (file_same s e t e (head_of s e t e a), extent_same s e t e (head_of s e t e a))
        (any_ext (is_entry t (file_at s e) (extent_at s e)) (is_entry w (file_at s e) (extent_at s e)) e
        (λ d k.
        let c = frame step weed_own s d e (entries kind) (omega arith) (λ q i j z. absurd (omega arith)) in
        entry_as w t (file_at s e) (extent_at s e) d (file_long s e) (is_same t w (file_at s e) (extent_at s e) d (head_of t d w d c))
        (is_same w t (file_at s e) (extent_at s e) d (head_of w d t d (same_back t w d c))))) in
        empty_as (step e t) w e b ∙ weed_turn t e fits ∙ rw (empty_as s t e a, fields_as kind s t e a, repeats) refl

  -- ---- the second pass

  begin_own : (j d : ℕ) (t : List ℕ) → (d ≡ j → ⊥) → Same t d (begun_at kind j t) d
  unfolding begun_at ◌if◌else◌
  begin_own j d t n =
      ⊎_elim (λ (h : has_first kind t j ≡ true). rw h (same_refl t d)) (λ (h : has_first kind t j ≡ false). rw h (emptied_other t j d n))
      (either (has_first kind t j))

  -- the turn of entry e
  begin_turn : (t : List ℕ) (e : ℕ) → 32 * e + 32 ≤ length t → is_empty (begun_at kind e t) e ≡ (is_empty t e or not (has_first kind t e))
  unfolding begun_at ◌if◌else◌ ◌or◌ has_first
  begin_turn t e fits =
      ⊎_elim (λ (u : is_empty t e ≡ true). rw u u)
      (λ (u : is_empty t e ≡ false).
      let begins = any (is_entry t (file_at t e) 0) (entries kind) in
      ⊎_elim (λ (h : begins ≡ true). rw (u, h) u) (λ (h : begins ≡ false). rw (u, h) (emptied_there t e fits)) (either begins))
      (either (is_empty t e))

  -- an extent 0 stays
  first_step : (t : List ℕ) (j : ℕ) → j < entries kind → (f : File) (d : ℕ) → Is t f 0 d → Is (begun_at kind j t) f 0 d
  unfolding begun_at ◌if◌else◌
  first_step t j l f d i =
      ⊎_elim (λ (h : has_first kind t j ≡ true). rw h i)
      (λ (h : has_first kind t j ≡ false).
      rw h (is_same t (emptied j t) f 0 d (head_of t d (emptied j t) d (emptied_other t j d (not_first kind t j l h f d i))) i))
      (either (has_first kind t j))

  first_stays : (s : List ℕ) (n : ℕ) → n ≤ entries kind → (f : File) (d : ℕ) → Is s f 0 d → Is (turns (begun_at kind) n s) f 0 d
  unfolding turns
  first_stays s zero l f d i = i
  first_stays s (suc n) l f d i = first_step (turns (begun_at kind) n s) n (omega arith) f d (first_stays s n (omega arith) f d i)

  module _ (s : List ℕ) (long : 32 * entries kind ≤ length s) (e : ℕ) (l : e < entries kind) where
    -- The second pass leaves empty exactly the entries that were empty and those of files that lacked an extent 0 when it began, so
    -- that a file goes whole.
    pub begun_exactly : is_empty (begun kind s) e ≡ (is_empty s e or not (has_first kind s e))
    unfolding begun has_first
    begun_exactly =
        let step = begun_at kind in
        let t = turns step e s in
        let w = turns step (entries kind) s in
        let a = ahead step begin_own s e in
        let b = behind step begin_own s e (entries kind) l in
        let g = turns_begun kind s e (omega arith) long in
        let fits : 32 * e + 32 ≤ length t = let k = g.len in omega arith in
        let begins : any (is_entry t (file_at t e) 0) (entries kind) ≡ any (is_entry s (file_at s e) 0) (entries kind) =
        rw (file_same s e t e (head_of s e t e a))
        (any_ext (is_entry t (file_at s e) 0) (is_entry s (file_at s e) 0) (entries kind)
        (λ d k.
        entry_as s t (file_at s e) 0 d (file_long s e) (still_is kind s t (file_at s e) 0 d g k) (first_stays s e (omega arith) (file_at s e) d))) in
        empty_as (step e t) w e b ∙ begin_turn t e fits ∙ rw (empty_as s t e a, begins) refl
