-- The first two passes as the code's needs ask them: emptying an entry keeps what the hints know. Assumes nothing.
use Rattle.std.proofs.Common.{Result, Ok, Err, is_ok, is_err, ℕ, ◌+◌, ◌*◌, ◌≤◌, ◌<◌, ◌≡◌, refl, sym, ap, ◌∙◌, Bool, true, false, not, List, ⊎_elim}
use Rattle.std.proofs.Common.{arith, length, set, eqb, rules, eq-eqb, ne_eqb}
use Rattle.words.specs.Lists.{tab, turns}
use Rattle.words.specs.Tables.{first_of}
use Rattle.words.specs.Hints.{Hints}
use Rattle.words.proofs.Tests.{equal?, never}
use Rattle.words.proofs.Hints.{hints_skip}
use Rattle.words.proofs.Lists.{filled, filled_turn, turns_more, turns_ends}
use Rattle.words.proofs.Sets.{if_yes, if_no, and_left, and_both, and_then, or_left, or_then, not_of_true, not_of_false, filled_none, filled_ends}
use Rattle.rules.specs.declared.kind.Kind.{Kind}
use Rattle.rules.specs.Kinds.{entries}
use Rattle.rules.specs.Drive.{is_empty, good_fields, has_first}
use Rattle.rules.proofs.Frames.{Same, head_of, empty_same, extent_same, file_same}
use Rattle.index.specs.Slots.{slot_at, in_use}
use Rattle.index.proofs.Slots.{known_empty}
use Rattle.rules.specs.declared.answer.ImageFault.{ImageFault}
use Rattle.drive.specs.Marks.{field_reasons, told_for}
use Rattle.drive.specs.Walks.{Repeats}
use Rattle.drive.proofs.Marks.{fields_good}
use Rattle.drive.proofs.Walks.{entry-byte, known_none}
use Rattle.repair.specs.Salvage.{emptied, must_go, weeded_at, weeded, begun_at, begun, kept, emptied_told}
use Rattle.repair.proofs.Changes.{emptied_there, emptied_other}
use Rattle.salvage.specs.Passes.{MustGo, Known}

-- ---- hints

-- fewer entries are known too
hints_fewer : (s : List ℕ) (e : ℕ) (hints : List ℕ) → Hints (slot_at s) (in_use s) (e + 1) hints → Hints (slot_at s) (in_use s) e hints
hints_fewer s e hints k = record { long = k.long; floor = λ d m u. k.floor d (omega arith) u }

-- an entry emptied
module _ (s : List ℕ) (e : ℕ) (fits : 32 * e + 32 ≤ length s) where
  -- the others are in use and have their slots as before
  module _ (d : ℕ) (other : d ≡ e → ⊥) where
    same : Same s d (emptied e s) d
    same = emptied_other s e d other

    use_same : in_use (emptied e s) d ≡ in_use s d
    unfolding in_use
    use_same = ap not (empty_same s d (emptied e s) d (head_of s d (emptied e s) d same))

    slot_same : slot_at (emptied e s) d ≡ slot_at s d
    unfolding slot_at
    slot_same = let h = head_of s d (emptied e s) d same in rw (file_same s d (emptied e s) d h, extent_same s d (emptied e s) d h)

  not_used : in_use (emptied e s) e ≡ false
  unfolding in_use
  not_used = ap not (emptied_there s e fits)

  -- so what was known still is ..
  known_still : (n : ℕ) (hints : List ℕ) → Hints (slot_at s) (in_use s) n hints → Hints (slot_at (emptied e s)) (in_use (emptied e s)) n hints
  known_still n hints k = record {
    long = k.long;
    floor = λ d m u.
        ⊎_elim (λ (q : d ≡ e). absurd (never (ap (in_use (emptied e s)) (sym q) ∙ u) not_used))
        (λ (q : d ≡ e → ⊥). rw (slot_same d q) (k.floor d m (sym (use_same d q) ∙ u))) (equal? d e);
  }

  -- .. and of the entry itself there is nothing to know
  known_gone : (hints : List ℕ) → Hints (slot_at s) (in_use s) e hints → Hints (slot_at (emptied e s)) (in_use (emptied e s)) (e + 1) hints
  known_gone hints k = hints_skip (slot_at (emptied e s)) (in_use (emptied e s)) e hints (known_still e hints k) not_used

-- ---- whether an entry must go

not_ok : (t : Result (Unit {0}) ImageFault) → not (is_ok t) ≡ is_err t
not_ok (Ok x) = refl
not_ok (Err f) = refl

module _ (kind : Kind) (s : List ℕ) (e : ℕ) (hints : List ℕ) (r : Bool) (h : r ≡ is_empty s e) where
  -- an empty entry stays, ..
  pub must_empty : r ≡ true → Hints (slot_at s) (in_use s) e hints → MustGo kind s e false hints
  unfolding must_go
  must_empty t k = record {
    answer = sym (and_left _ _ (not_of_true _ (sym h ∙ t)));
    before = k;
    knows = λ z. known_empty s e hints k (sym h ∙ t);
  }

  module _ (u : r ≡ false) (t : Result (Unit {0}) ImageFault) (f : t ≡ told_for (first_of (field_reasons kind s e)) e) (b : Bool) (g : b ≡ is_err t) where
    fields_as : not (good_fields kind s e) ≡ b
    fields_as = ap not (sym (fields_good kind s e) ∙ ap is_ok (sym f)) ∙ not_ok t ∙ sym g

    -- .. one with a bad field must go, ..
    pub must_field : b ≡ true → Hints (slot_at s) (in_use s) e hints → MustGo kind s e true hints
    unfolding must_go
    must_field n k = record {
      answer = sym (and_both _ _ (not_of_false _ (sym h ∙ u)) (or_left _ _ (fields_as ∙ n)));
      before = k;
      knows = λ z. absurd (never refl z);
    }

    -- .. any other where it repeats an earlier one
    pub must_repeat : b ≡ false → (y : Bool) → Repeats s e y hints → MustGo kind s e y hints
    unfolding must_go
    must_repeat z y w = record {
      answer = and_then y _ _ (not_of_false _ (sym h ∙ u)) (or_then y _ _ (fields_as ∙ z) w.answer);
      before = hints_fewer s e hints w.knows;
      knows = λ v. w.knows;
    }

pub ruleset choosing = (rules, must_empty, must_field, must_repeat)

-- ---- an entry in its turn

module _ (kind : Kind) (s : List ℕ) (e : ℕ) (hints : List ℕ) (r : Bool) where
  -- the first pass: the entry stays, ..
  pub weeded_kept : MustGo kind s e r hints → r ≡ false → Known (weeded_at kind e s) (e + 1) s hints
  unfolding weeded_at
  weeded_kept m z = record { image = if_no _ _ _ _ (sym m.answer ∙ z) refl; knows = m.knows z }

  -- .. or is emptied
  pub weeded_gone : (t : List ℕ) → MustGo kind s e r hints → r ≡ true → 32 * e + 32 ≤ length s → t ≡ set s (32 * e) 229
      → Known (weeded_at kind e s) (e + 1) t hints
  unfolding weeded_at emptied
  weeded_gone t m z fits w = record {
    image = if_yes _ _ _ _ (sym m.answer ∙ z) w;
    knows = rw w (known_gone s e fits hints m.before);
  }

  -- the second: its file begins, ..
  pub begun_kept : r ≡ has_first kind s e → r ≡ true → (n : ℕ) → Hints (slot_at s) (in_use s) n hints → Known (begun_at kind e s) n s hints
  unfolding begun_at
  begun_kept h t n k = record { image = if_yes _ _ _ _ (sym h ∙ t) refl; knows = k }

  -- .. or it is emptied
  pub begun_gone : (t : List ℕ) → r ≡ has_first kind s e → r ≡ false → 32 * entries kind ≤ length s → e < entries kind → t ≡ set s (32 * e) 229 → (n : ℕ)
      → Hints (slot_at s) (in_use s) n hints → Known (begun_at kind e s) n t hints
  unfolding begun_at emptied
  begun_gone t h f long l w n k = record { image = if_no _ _ _ _ (sym h ∙ f) w; knows = rw w (known_still s e (omega arith) n hints k) }

pub ruleset turning_out = (rules, weeded_kept, weeded_gone, begun_kept, begun_gone)

-- ---- all entries

-- no turn yet: the image as lent, ..
pub known_start : (step : ℕ → List ℕ → List ℕ) (s : List ℕ) (n : ℕ) (hints : List ℕ) → Hints (slot_at s) (in_use s) n hints → Known (turns step 0 s) n s hints
unfolding turns
known_start step s n hints k = record { image = refl; knows = k }

-- .. one turn more, ..
pub known_turn : (step : ℕ → List ℕ → List ℕ) (s : List ℕ) (e n m : ℕ) (t u before after : List ℕ) → Known (turns step e s) n t before
    → Known (step e t) m u after → Known (turns step (e + 1) s) m u after
known_turn step s e n m t u before after g h = record { image = turns_more step e s t u g.image h.image; knows = h.knows }

-- .. what the hints know then, ..
pub known_hints : (x : List ℕ) (n : ℕ) (t hints : List ℕ) → Known x n t hints → Hints (slot_at t) (in_use t) n hints
known_hints x n t hints g = g.knows

module _ (kind : Kind) (n e : ℕ) (s t hints : List ℕ) (f : n ≡ entries kind) (g : n ≤ e) (l : e ≤ n) where
  -- .. and all turns of the first pass, ..
  pub weeded_ends : Known (turns (weeded_at kind) e s) e t hints → Known (weeded kind s) (entries kind) t hints
  unfolding weeded
  weeded_ends h = let q : e ≡ entries kind = omega arith in rw q at h

  -- .. or of the second
  pub begun_ends : (m : ℕ) → Known (turns (begun_at kind) e s) m t hints → t ≡ begun kind s
  unfolding begun
  begun_ends m h = turns_ends (begun_at kind) (entries kind) e s t h.image (omega arith) (omega arith)

-- both passes one after the other
pub kept_by : (kind : Kind) (n : ℕ) (s t u hints : List ℕ) → Known (weeded kind s) n t hints → u ≡ begun kind t → u ≡ kept kind s
unfolding kept
kept_by kind n s t u hints g h = h ∙ ap (begun kind) g.image

pub ruleset emptying = (rules, entry-byte, known_start, known_turn, known_hints, weeded_ends, begun_ends)

pub ruleset keeping = (rules, known_none, known_hints, kept_by)

-- the report begun
pub used_ends : (kind : Kind) (n e : ℕ) (s r₀ r : List ℕ) → length r₀ ≡ n → r ≡ filled (emptied_told s) e r₀ → n ≡ entries kind → n ≤ e → e ≤ n
    → r ≡ tab (emptied_told s) (entries kind)
used_ends kind n e s r₀ r m h f g l = filled_ends (emptied_told s) (entries kind) e r₀ r (m ∙ f) h (omega arith) (omega arith)

pub ruleset noting_used = (rules, refl, filled_none, filled_turn, used_ends)
