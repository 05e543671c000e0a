-- Demand 1: a refusal changes nothing; of several records, nothing but what the records done alone would. Assumes nothing.
use Prim.Native.Nat.{ℕ, ◌+◌, ◌*◌, ◌≤◌, ◌<◌}
use mathlib.Core.Path.{◌≡◌, refl, sym, ap, ◌∙◌}
use mathlib.Core.Bool.{true, false, not}
use mathlib.Core.Logic.{⊎_elim}
use native.Mathlib.Omega.{arith}
use Rattle.words.specs.Tests.{◌and◌, ◌if◌else◌}
use Rattle.words.specs.Tables.{◌∕◌, first_of, any_row}
use lib.Dec.{leb, eqb}
use borrow.Author.Tests.{eq-eqb, lt-leb, lt-ltb, ltb-true, not-true}
use Rattle.words.proofs.Tests.{either, never, and_fst, and_snd}
use Rattle.words.proofs.Tables.{row_off, row_rest}
use Rattle.words.proofs.Sets.{row_no, and_both}
use Rattle.rules.specs.declared.kind.Kind.{Kind}
use Rattle.rules.specs.Serves.{Buffers, Outcome, outcome, chosen, is_search}
use Rattle.rules.specs.Codes.{rows_all}
use Rattle.rules.specs.Call.{asked, effect_of, rows_call}
use Rattle.rules.specs.Several.{Run, several, told, call_run}
use Rattle.rules.proofs.Tables.{accepted, refused, effect_zero, effect_answers}
use Rattle.rules.proofs.Singles.{runs_plain, run-chosen}
use Rattle.rules.proofs.Passed.{good-numbers, numbers_good}
use Rattle.rules.proofs.Several.{several_none, run_told}
use Rattle.history.specs.History.{Ask, State, with_count, is_word, is_possible, lent, outcome_of}
use Rattle.history.specs.Deeds.{done_in, is_refused}
use Rattle.history.specs.Demands.{NoTrace}
use Rattle.history.proofs.Ways.{Way, answer_low, refuses_low, plain, barred, whole, partly, ways}

-- the general table lets a shorter run pass too
passes_fewer : (kind : Kind) (n p c i : ℕ) (b : Buffers) → first_of (rows_all kind n p c b) ≡ 0 → 1 ≤ i → i ≤ c → first_of (rows_all kind n p i b) ≡ 0
unfolding rows_all
passes_fewer kind n p c i b h some few =
    let z : 255 ∕ 13 ≡ 0 → ⊥ = λ y. omega arith in
    let w = good-numbers n p c b.fcb b.dma b.list (row_off (255 ∕ 13) _ _ z h) in
    let fits : i ≤ 16 = let k = w.run_fits in omega arith in
    let good = numbers_good n p i b.fcb b.dma b.list (record {
      known = w.known;
      process_fits = w.process_fits;
      run_some = some;
      run_fits = fits;
      fcb_long = w.fcb_long;
      dma_long = w.dma_long;
      list_long = w.list_long;
    }) in
    sym (row_no 0 (255 ∕ 13) _ _ good (sym (row_rest (255 ∕ 13) _ _ z h)))

module _ (kind : Kind) (n p c : ℕ) (b : Buffers) where
  -- no effect has an answer that refuses
  effect_accepts : is_refused n (effect_of (chosen n) (asked kind p c b) b).answer ≡ true → ⊥
  unfolding is_refused ◌if◌else◌
  effect_accepts z =
      let a = (effect_of (chosen n) (asked kind p c b) b).answer in
      ⊎_elim
      (λ (h : is_search (chosen n) ≡ true).
      let y : (leb 4 a and not (eqb a 255)) ≡ true = rw h at z in
      ⊎_elim (λ (m : a < 4). never (and_fst _ _ y) (lt-leb 4 a m)) (λ (m : a ≡ 255). never (eq-eqb a 255 m) (not-true _ (and_snd _ _ y)))
      (effect_answers (chosen n) (asked kind p c b) b))
      (λ (h : is_search (chosen n) ≡ false).
      let y : not (eqb a 0) ≡ true = rw h at z in
      never (eq-eqb a 0 (effect_zero (chosen n) (asked kind p c b) b h)) (not-true _ y))
      (either (is_search (chosen n)))

  -- nor is 0/0 one, of a call that is no search
  zero_accepts : is_search (chosen n) ≡ false → is_refused n 0 ≡ true → ⊥
  unfolding is_refused ◌if◌else◌
  zero_accepts h z = let y : false ≡ true = rw h at z in never y refl

  way_unchanged : (o : Outcome) → Way kind n p c b o → is_refused n o.answer ≡ true → done_in o.answer ≡ 0 → o.left ≡ b
  way_unchanged o (plain h) z d =
      ⊎_elim
      (λ (y : any_row (rows_call kind n p c b) ≡ true). ap (λ (x : Outcome). x.left) (refused kind n p c b y))
      (λ (y : any_row (rows_call kind n p c b) ≡ false). absurd (effect_accepts (rw (accepted kind n p c b y) at z)))
      (either (any_row (rows_call kind n p c b)))
  way_unchanged o (barred h code w) z d = refl
  way_unchanged o (whole left w) z d =
      absurd (zero_accepts (runs_plain (chosen n) (run-chosen n w.serves)) z)
  way_unchanged o (partly i m left w code r) z d =
      let e : i ≡ 0 = omega arith in
      ap (λ (x : Run). x.left) (sym w.is ∙ ap (λ (k : ℕ). several kind n p k b) e ∙ several_none kind n p b)

  way_no_trace : (o : Outcome) → Way kind n p c b o → (done_in o.answer ≡ 0 → ⊥) → call_run kind n p (done_in o.answer) b ≡ outcome (0 ∕ 0) o.left
  unfolding told ◌if◌else◌
  way_no_trace o (plain h) z = let k = answer_low kind n p c b in absurd (z (omega arith))
  way_no_trace o (barred h code w) z = let k = refuses_low kind n p c b code w in absurd (z (omega arith))
  way_no_trace o (whole left w) z = absurd (z refl)
  way_no_trace o (partly i m left w code r) z =
      let low = refuses_low kind _ _ _ _ code r in
      let e : done_in (code + 0 ∕ (16 * i)) ≡ i = omega arith in
      rw e (run_told kind n p i b w.serves (passes_fewer kind n p c i b w.passes (omega arith) (omega arith)) ∙ ap told w.is)

-- a call that the engine of the rules refuses leaves no trace
pub leaves_no_trace : (kind : Kind) (q : Ask) (s : State) → NoTrace (call_run kind) q s
unfolding outcome_of
leaves_no_trace kind q s = record {
  unchanged = way_unchanged kind q.function q.process q.count (lent q s) _ (ways kind q.function q.process q.count (lent q s));
  no_trace = way_no_trace kind q.function q.process q.count (lent q s) _ (ways kind q.function q.process q.count (lent q s));
}

-- ---- the call of just the records done is one that a host can make

-- a host can make the call with any other count of 32 bits, ..
pub counted_possible : (q : Ask) (n : ℕ) → is_possible q ≡ true → n < 4294967296 → is_possible (with_count n q) ≡ true
unfolding is_possible is_word
counted_possible q n may h =
    let a = and_snd _ _ may in
    let b = and_snd _ _ a in
    and_both _ _ (and_fst _ _ may) (and_both _ _ (and_fst _ _ a) (and_both _ _ (lt-ltb n 4294967296 h) (and_snd _ _ b)))

way_fewer : (kind : Kind) (n p c : ℕ) (b : Buffers) (o : Outcome) → Way kind n p c b o → done_in o.answer ≤ c
way_fewer kind n p c b o (plain h) = let k = answer_low kind n p c b in omega arith
way_fewer kind n p c b o (barred h code w) = let k = refuses_low kind n p c b code w in omega arith
way_fewer kind n p c b o (whole left w) = omega arith
way_fewer kind n p c b o (partly i m left w code r) = let low = refuses_low kind _ _ _ _ code r in omega arith

-- .. so with the count of the records done
pub fewer_possible : (kind : Kind) (q : Ask) (s : State) → is_possible q ≡ true → is_possible (with_count (done_in (outcome_of (call_run kind) q s).answer) q) ≡ true
unfolding outcome_of
fewer_possible kind q s may =
    let k = way_fewer kind q.function q.process q.count (lent q s) _ (ways kind q.function q.process q.count (lent q s)) in
    counted_possible q _ may (let m = run_small q may in omega arith)
  where
    run_small : (a : Ask) → is_possible a ≡ true → a.count < 4294967296
    run_small a h = unfold is_possible is_word in ltb-true _ _ (and_fst _ _ (and_snd _ _ (and_snd _ _ h)))
