-- The first two passes: the entries that stay are good, none repeats an earlier one, and each file begins. Assumes nothing.
use Prim.Native.Nat.{ℕ, zero, suc, ◌*◌, ◌≤◌, ◌<◌}
use mathlib.Core.Path.{◌≡◌, refl, ap, ◌∙◌}
use mathlib.Core.Bool.{true, false, not}
use mathlib.Core.List.{List}
use mathlib.Core.Logic.{⊎_elim}
use native.Mathlib.Omega.{arith}
use lib.ListN.{length}
use borrow.Author.Tests.{not-true, not-false}
use Rattle.words.specs.Tests.{◌and◌, ◌or◌, ◌if◌else◌}
use Rattle.words.specs.Lists.{turns}
use Rattle.words.proofs.Tests.{either, equal?, never, and_fst, or_fst, or_snd, or_so, any_at, any_some, any_found}
use Rattle.rules.specs.declared.file.File.{File}
use Rattle.rules.specs.declared.kind.Kind.{Kind}
use Rattle.rules.specs.Kinds.{entries}
use Rattle.rules.specs.Drive.{is_empty, file_at, extent_at, is_entry, good_fields, is_repeat, has_first}
use Rattle.rules.proofs.Sound.{Is, Entries, entry_so, entry_is, file_long}
use Rattle.rules.proofs.Frames.{head_of, fields_same, is_same}
use Rattle.repair.specs.Salvage.{emptied, must_go, weeded_at, weeded, begun_at, begun, kept}
use Rattle.repair.proofs.Changes.{Empties, empties_then, emptied_there, emptied_other, emptied_empties, turns-weeded, turns_begun, still, still_used}
use Rattle.repair.proofs.Changes.{still_file, still_extent, still_is}

-- used entries below m have good fields, and none repeats an earlier one
record Weeds (kind : Kind) (m : ℕ) (s : List ℕ) : Type 0 where
  pub fields : (e : ℕ) → e < entries kind → e < m → is_empty s e ≡ false → good_fields kind s e ≡ true
  pub single : (d e : ℕ) → d < e → e < entries kind → e < m → is_empty s e ≡ false → Is s (file_at s e) (extent_at s e) d → ⊥

-- the files of used entries below m have an extent 0
record Begins (kind : Kind) (m : ℕ) (s : List ℕ) : Type 0 where
  pub first : (e : ℕ) → e < entries kind → e < m → is_empty s e ≡ false → (d : ℕ) × (d < entries kind) × Is s (file_at s e) 0 d

module _ (kind : Kind) where
  -- ---- the first pass

  -- emptying entries leaves what is said of those in use
  weeds_keep : (m : ℕ) (s t : List ℕ) → Empties kind s t → Weeds kind m s → Weeds kind m t
  weeds_keep m s t h g = record {
    fields = λ e l k u. fields_same kind s e t e (still kind s t h e l u) (g.fields e l k (still_used kind s t h e l u));
    single = λ d e k l m u w.
        let i : Is s (file_at t e) (extent_at t e) d = still_is kind s t (file_at t e) (extent_at t e) d h (omega arith) w in
        g.single d e k l m (still_used kind s t h e l u) (rw (still_file kind s t h e l u, still_extent kind s t h e l u) at i);
  }

  module _ (s : List ℕ) (n : ℕ) (g : Weeds kind n s) where
    -- one entry more, of which both are said
    weeds_next : (is_empty s n ≡ false → good_fields kind s n ≡ true)
        → (is_empty s n ≡ false → (d : ℕ) → d < n → Is s (file_at s n) (extent_at s n) d → ⊥) → Weeds kind (suc n) s
    weeds_next a b = record {
      fields = λ e l k u. ⊎_elim (λ (q : e ≡ n). rw q (a (rw q at u))) (λ (q : e ≡ n → ⊥). g.fields e l (omega arith) u) (equal? e n);
      single = λ d e k l m u w.
          ⊎_elim (λ (q : e ≡ n). b (rw q at u) d (omega arith) (rw q at w)) (λ (q : e ≡ n → ⊥). g.single d e k l (omega arith) u w) (equal? e n);
    }

    -- an entry that stays
    stays : must_go kind s n ≡ false → is_empty s n ≡ false → (not (good_fields kind s n) or is_repeat s n) ≡ false
    unfolding must_go ◌and◌
    stays h u = rw u at h

    weeds_more : must_go kind s n ≡ false → Weeds kind (suc n) s
    unfolding is_repeat
    weeds_more h =
        weeds_next (λ u. not-false _ (or_fst _ _ (stays h u)))
        (λ u d l i. never (entry_so s (file_at s n) (extent_at s n) d i) (any_at (is_entry s (file_at s n) (extent_at s n)) n d (or_snd _ _ (stays h u)) l))

    weeds_over : is_empty s n ≡ true → Weeds kind (suc n) s
    weeds_over h = weeds_next (λ u. absurd (never h u)) (λ u d l i. never h u)

  goes_used : (s : List ℕ) (n : ℕ) → must_go kind s n ≡ true → is_empty s n ≡ false
  unfolding must_go
  goes_used s n h = not-true _ (and_fst _ _ h)

  weeds_step : (s : List ℕ) (n : ℕ) → n < entries kind → 32 * entries kind ≤ length s → Weeds kind n s → Weeds kind (suc n) (weeded_at kind n s)
  unfolding weeded_at ◌if◌else◌
  weeds_step s n l long g =
      ⊎_elim
      (λ (h : must_go kind s n ≡ true).
      let k = emptied_empties kind s n l long (goes_used s n h) in
      rw h (weeds_over (emptied n s) n (weeds_keep n s (emptied n s) k g) (emptied_there s n (omega arith))))
      (λ (h : must_go kind s n ≡ false). rw h (weeds_more s n g h)) (either (must_go kind s n))

  weeds_turns : (s : List ℕ) (m : ℕ) → m ≤ entries kind → 32 * entries kind ≤ length s → Weeds kind m (turns (weeded_at kind) m s)
  unfolding turns
  weeds_turns s zero l long = record { fields = λ e l k u. absurd (omega arith); single = λ d e k l m u w. absurd (omega arith) }
  weeds_turns s (suc m) l long =
      weeds_step (turns (weeded_at kind) m s) m (omega arith) (let k = (turns-weeded kind s m (omega arith) long).len in omega arith)
      (weeds_turns s m (omega arith) long)

  -- ---- the second pass

  -- the entry of an extent 0 is not emptied: it begins its own file
  pub not_first : (s : List ℕ) (n : ℕ) → n < entries kind → has_first kind s n ≡ false → (f : File) (d : ℕ) → Is s f 0 d → d ≡ n → ⊥
  unfolding has_first
  not_first s n below h f d i q =
      let j : Is s f 0 n = rw q at i in
      let k = entry_so s (file_at s n) 0 n (record { used = j.used; file = refl; extent = j.extent }) in
      never (any_found (is_entry s (file_at s n) 0) (entries kind) n below k) (or_snd _ _ h)

  module _ (s : List ℕ) (n : ℕ) (below : n < entries kind) (long : 32 * entries kind ≤ length s) (g : Begins kind n s) where
    begins_more : has_first kind s n ≡ true → Begins kind (suc n) s
    unfolding has_first
    begins_more h = record {
      first = λ e l k u.
          ⊎_elim
          (λ (q : e ≡ n).
          let v : is_empty s n ≡ false = rw q at u in
          let w = any_some (is_entry s (file_at s n) 0) (entries kind) (or_so _ _ h v) in
          rw q (w.0, w.1, entry_is s (file_at s n) 0 w.0 (file_long s n) w.2))
          (λ (q : e ≡ n → ⊥). g.first e l (omega arith) u) (equal? e n);
    }

    begins_emptied : has_first kind s n ≡ false → Begins kind (suc n) (emptied n s)
    unfolding has_first
    begins_emptied h =
        let t = emptied n s in
        let k = emptied_empties kind s n below long (or_fst _ _ h) in
        record {
          first = λ e l m u.
              ⊎_elim
              (λ (q : e ≡ n). absurd (never (ap (λ (i : ℕ). is_empty t i) q ∙ emptied_there s n (omega arith)) u))
              (λ (q : e ≡ n → ⊥).
              let w = g.first e l (omega arith) (still_used kind s t k e l u) in
              let y = emptied_other s n w.0 (not_first s n below h (file_at s e) w.0 w.2) in
              rw (still_file kind s t k e l u) (w.0, w.1, is_same s t (file_at s e) 0 w.0 (head_of s w.0 t w.0 y) w.2))
              (equal? e n);
        }

    begins_step : Begins kind (suc n) (begun_at kind n s)
    unfolding begun_at ◌if◌else◌
    begins_step =
        ⊎_elim (λ (h : has_first kind s n ≡ true). rw h (begins_more h)) (λ (h : has_first kind s n ≡ false). rw h (begins_emptied h))
        (either (has_first kind s n))

  begins_turns : (s : List ℕ) (m : ℕ) → m ≤ entries kind → 32 * entries kind ≤ length s → Begins kind m (turns (begun_at kind) m s)
  unfolding turns
  begins_turns s zero l long = record { first = λ e l k u. absurd (omega arith) }
  begins_turns s (suc m) l long =
      begins_step (turns (begun_at kind) m s) m (omega arith) (let k = (turns_begun kind s m (omega arith) long).len in omega arith)
      (begins_turns s m (omega arith) long)

  -- ---- both

  module _ (s : List ℕ) (long : 32 * entries kind ≤ length s) where
    weeding : Empties kind s (weeded kind s)
    unfolding weeded
    weeding = turns-weeded kind s (entries kind) (omega arith) long

    weeded_long : 32 * entries kind ≤ length (weeded kind s)
    weeded_long = let k = weeding.len in omega arith

    beginning : Empties kind (weeded kind s) (kept kind s)
    unfolding kept begun
    beginning = turns_begun kind (weeded kind s) (entries kind) (omega arith) weeded_long

    -- the two passes change nothing but byte 0 of entries in use, ..
    pub kept_empties : Empties kind s (kept kind s)
    kept_empties = empties_then kind s (weeded kind s) (kept kind s) weeding beginning

    weeded_weeds : Weeds kind (entries kind) (weeded kind s)
    unfolding weeded
    weeded_weeds = weeds_turns s (entries kind) (omega arith) long

    kept_begins : Begins kind (entries kind) (kept kind s)
    unfolding kept begun
    kept_begins = begins_turns (weeded kind s) (entries kind) (omega arith) weeded_long

    -- .. and what stays is as a sound image has it
    pub kept_entries : Entries kind (kept kind s)
    kept_entries =
        let w = weeds_keep (entries kind) (weeded kind s) (kept kind s) beginning weeded_weeds in
        record {
          fields = λ e l u. w.fields e l l u;
          single = λ d e m l u i. w.single d e m l l u i;
          begun = λ e l u. kept_begins.first e l l u;
        }
