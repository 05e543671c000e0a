-- The ways in which a call of several records ends. Assumes nothing.
use Prim.Native.Nat.{ℕ, ◌+◌, ◌*◌, ◌<◌}
use mathlib.Core.Path.{◌≡◌, refl, sym, ap, ◌∙◌}
use mathlib.Core.Bool.{true, false}
use mathlib.Core.Logic.{⊎_elim}
use native.Mathlib.Omega.{arith}
use Rattle.words.specs.Tables.{◌∕◌, first_of}
use Rattle.words.proofs.Tests.{either, equal?}
use Rattle.rules.specs.declared.kind.Kind.{Kind}
use Rattle.rules.specs.Serves.{Buffers, Outcome, outcome, chosen}
use Rattle.rules.specs.Codes.{rows_all}
use Rattle.rules.specs.Call.{call}
use Rattle.rules.specs.Several.{serves_run, single, Run, run, several, told, call_run}
use Rattle.rules.proofs.Tables.{answer_is, answer_below, call_refused}
use Rattle.rules.proofs.Singles.{runs_plain, run-chosen}
use Rattle.rules.proofs.Several.{all_done, no_trace, refusal, fewer_done, told_left, told_zero, told_some, run_plain, run_refused, run_told}

-- the plain call is refused with that code, which tells of no record done
pub record Refuses (kind : Kind) (n p c : ℕ) (b : Buffers) (code : ℕ) : Type 0 where
  -- the code is not 0, ..
  pub some : code ≡ 0 → ⊥
  -- .. and is the plain call's answer
  pub answers : (call kind n p c b).answer ≡ code

-- the answer of a plain call tells of no record done, ..
pub answer_low : (kind : Kind) (n p c : ℕ) (b : Buffers) → (call kind n p c b).answer < 4096
answer_low = answer_below

-- .. nor does the code of its refusal
pub refuses_low : (kind : Kind) (n p c : ℕ) (b : Buffers) (code : ℕ) → Refuses kind n p c b code → code < 4096
refuses_low kind n p c b code w = rw w.answers at (answer_low kind n p c b)

-- the general table lets a run of c records pass, and i of them are done
pub record Ran (kind : Kind) (n p c : ℕ) (b : Buffers) (i : ℕ) (left : Buffers) : Type 0 where
  -- the function takes a run of records
  pub serves : serves_run n ≡ true
  -- no row of the general table refuses the call of c records
  pub passes : first_of (rows_all kind n p c b) ≡ 0
  -- the first i records, one after the other, are all done and leave those buffers
  pub is : several kind n p i b ≡ run 0 i left

-- it takes no run: the plain call; barred by the general table; all records done; i done and the next refused
pub data Way (kind : Kind) (n p c : ℕ) (b : Buffers) : Outcome → Type 0 where
  plain : serves_run n ≡ false → Way kind n p c b (call kind n p c b)
  barred : serves_run n ≡ true → (code : ℕ) → Refuses kind n p c b code → Way kind n p c b (outcome code b)
  whole : (left : Buffers) → Ran kind n p c b c left → Way kind n p c b (outcome (0 ∕ 0) left)
  partly : (i : ℕ) → i < c → (left : Buffers) → Ran kind n p c b i left → (code : ℕ) → Refuses kind n p 1 (single i left) code
      → Way kind n p c b (outcome (code + 0 ∕ (16 * i)) left)

module _ (kind : Kind) (n p c : ℕ) (b : Buffers) where
  abbrev g : Run
  g = several kind n p c b

  told_way : serves_run n ≡ true → first_of (rows_all kind n p c b) ≡ 0 → Way kind n p c b (told g)
  told_way h y =
      ⊎_elim
      (λ (z : g.code ≡ 0).
      let e : told g ≡ outcome 0 g.left = λ j. record { answer = told_zero g z j; left = told_left g j } in
      let d : g ≡ run 0 c g.left = λ j. record { code = z j; done = all_done kind n p b c z j; left = g.left } in
      rw e (whole g.left (record { serves = h; passes = y; is = d })))
      (λ (z : g.code ≡ 0 → ⊥).
      let e : told g ≡ outcome (g.code + 0 ∕ (16 * g.done)) g.left = λ j. record { answer = told_some g z j; left = told_left g j } in
      let w : Ran kind n p c b g.done g.left = record { serves = h; passes = y; is = no_trace kind n p b c } in
      let r = answer_is kind n p 1 (single g.done g.left) (runs_plain (chosen n) (run-chosen n h)) ∙ sym (refusal kind n p b c z) in
      rw e (partly g.done (fewer_done kind n p b c z) g.left w g.code (record { some = z; answers = r })))
      (equal? g.code 0)

  -- every call ends in one of these
  pub ways : Way kind n p c b (call_run kind n p c b)
  ways =
      ⊎_elim
      (λ (h : serves_run n ≡ true).
      ⊎_elim
      (λ (y : first_of (rows_all kind n p c b) ≡ 0). rw (run_told kind n p c b h y) (told_way h y))
      (λ (y : first_of (rows_all kind n p c b) ≡ 0 → ⊥).
      rw (run_refused kind n p c b h y) (barred h _ (record { some = y; answers = ap (λ (o : Outcome). o.answer) (call_refused kind n p c b y) })))
      (equal? (first_of (rows_all kind n p c b)) 0))
      (λ (h : serves_run n ≡ false). rw (run_plain kind n p c b h) (plain h))
      (either (serves_run n))

  -- by each of these ways
  answer-by : (o : Outcome) → Way kind n p c b o → (o.answer ≡ 0 → ⊥) → o.answer < 4096 → (d : ℕ) × (a : Buffers) × ((call kind n p d a).answer ≡ o.answer)
  answer-by o (plain h) z low = (c, b, refl)
  answer-by o (barred h code w) z low = (c, b, w.answers)
  answer-by o (whole left w) z low = absurd (z refl)
  answer-by o (partly i m left w code r) z low = (1, single i left, r.answers ∙ omega arith)

  -- a refusal that tells of no record done is the answer of a plain call of that function
  pub answer_plain : ((call_run kind n p c b).answer ≡ 0 → ⊥) → (call_run kind n p c b).answer < 4096
      → (d : ℕ) × (a : Buffers) × ((call kind n p d a).answer ≡ (call_run kind n p c b).answer)
  answer_plain z low = answer-by (call_run kind n p c b) ways z low
