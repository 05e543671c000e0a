-- Several records in one call: a run as a chain of single calls, and what follows from one. Assumes nothing.
use Prim.Native.Nat.{ℕ, zero, suc, ◌+◌, ◌*◌, ◌%◌, ◌≤◌, ◌<◌}
use mathlib.Core.Path.{◌≡◌, refl, ap, subst, ◌∙◌}
use mathlib.Core.Bool.{true, false}
use mathlib.Core.List.{List}
use mathlib.Core.Logic.{⊎_elim}
use native.Mathlib.Omega.{arith}
use lib.Dec.{eqb}
use borrow.Author.Tests.{eq-eqb, ne_eqb, eqb-true, eqb-false}
use Rattle.words.specs.Tests.{◌if◌else◌}
use Rattle.words.specs.Lists.{turns}
use Rattle.words.specs.Tables.{◌∕◌, first_of}
use Rattle.words.proofs.Tests.{either, equal?}
use Rattle.rules.specs.Serves.{Buffers, outcome}
use Rattle.rules.specs.Codes.{rows_all}
use Rattle.rules.specs.Call.{rows_call, call}
use Rattle.rules.specs.Several.{serves_run, single, back_at, Run, run, goes_on, turn_at, several, singly, told, call_run, call_singly}
use Rattle.rules.proofs.Tables.{accepts, refuses, call_refused, call_below, all_below, answer_below}
use Rattle.rules.specs.declared.kind.Kind.{Kind}

-- ---- turns

pub several_none : (kind : Kind) (n p : ℕ) (b : Buffers) → several kind n p 0 b ≡ run 0 0 b
unfolding several turns
several_none kind n p b = refl

-- the single call's refusal, 0 where it is accepted, and what it left
abbrev pub code_at : Kind → ℕ → ℕ → ℕ → Buffers → ℕ
code_at kind n p i b = first_of (rows_call kind n p 1 (single i b))

abbrev pub left_at : Kind → ℕ → ℕ → ℕ → Buffers → Buffers
left_at kind n p i b = back_at i b (call kind n p 1 (single i b)).left

module _ (kind : Kind) (n p i : ℕ) (b b' : Buffers) (h : several kind n p i b ≡ run 0 i b') where
  next : several kind n p (suc i) b ≡ goes_on i b' (code_at kind n p i b') (call kind n p 1 (single i b')).left
  unfolding several turns turn_at ◌if◌else◌
  next = ap (λ (g : Run). turn_at kind n p i g) h

  -- the record is done
  pub several_more : code_at kind n p i b' ≡ 0 → several kind n p (suc i) b ≡ run 0 (suc i) (left_at kind n p i b')
  several_more z = next ∙ more
    where
      more : goes_on i b' (code_at kind n p i b') (call kind n p 1 (single i b')).left ≡ run 0 (suc i) (left_at kind n p i b')
      more = unfold goes_on ◌if◌else◌ in rw (eq-eqb (code_at kind n p i b') 0 z) refl

  -- it is refused
  pub several_stops : (code_at kind n p i b' ≡ 0 → ⊥) → several kind n p (suc i) b ≡ run (code_at kind n p i b') i b'
  several_stops z = next ∙ stops
    where
      stops : goes_on i b' (code_at kind n p i b') (call kind n p 1 (single i b')).left ≡ run (code_at kind n p i b') i b'
      stops = unfold goes_on ◌if◌else◌ in rw (ne_eqb (code_at kind n p i b') 0 z) refl

-- once refused, the run stays as it is
pub several_stays : (kind : Kind) (n p i c : ℕ) (b : Buffers) (g : Run) → several kind n p i b ≡ g → (g.code ≡ 0 → ⊥) → i ≤ c → several kind n p c b ≡ g
unfolding several turns turn_at ◌if◌else◌
several_stays kind n p i zero b g h z l = let q : i ≡ 0 = omega arith in rw q at h
several_stays kind n p i (suc c) b g h z l =
    ⊎_elim (λ (q : i ≡ suc c). rw q at h)
    (λ (q : i ≡ suc c → ⊥). ap (λ (x : Run). turn_at kind n p c x) (several_stays kind n p i c b g h z (omega arith)) ∙ rw (ne_eqb g.code 0 z) refl)
    (equal? i (suc c))

-- ---- after c turns: nothing yet, one more record done, a record refused, or a turn after a refusal

pub data Steps (kind : Kind) (n p : ℕ) (b : Buffers) : ℕ → Run → Type 0 where
  begun : Steps kind n p b 0 (run 0 0 b)
  done : (i : ℕ) (b' : Buffers) → Steps kind n p b i (run 0 i b') → code_at kind n p i b' ≡ 0 → Steps kind n p b (suc i) (run 0 (suc i) (left_at kind n p i b'))
  stopped : (i : ℕ) (b' : Buffers) → Steps kind n p b i (run 0 i b') → (code_at kind n p i b' ≡ 0 → ⊥)
      → Steps kind n p b (suc i) (run (code_at kind n p i b') i b')
  idle : (i : ℕ) (g : Run) → Steps kind n p b i g → (g.code ≡ 0 → ⊥) → Steps kind n p b (suc i) g

module _ (kind : Kind) (n p : ℕ) (b : Buffers) where
  turn : (i : ℕ) (g : Run) → Steps kind n p b i g → (g.code ≡ 0 → g.done ≡ i) → (Steps kind n p b (suc i) (turn_at kind n p i g))
      × ((turn_at kind n p i g).code ≡ 0 → (turn_at kind n p i g).done ≡ suc i)
  unfolding turn_at goes_on ◌if◌else◌
  turn i g w m =
      ⊎_elim
      (λ (z : eqb g.code 0 ≡ true).
      let y₀ : g.code ≡ 0 = eqb-true _ _ z in
      let e : g ≡ run 0 i g.left = λ j. record { code = y₀ j; done = m y₀ j; left = g.left } in
      let w' : Steps kind n p b i (run 0 i g.left) = subst (λ (x : Run). Steps kind n p b i x) e w in
      ⊎_elim
      (λ (y : eqb (code_at kind n p i g.left) 0 ≡ true). rw (z, y) (done i g.left w' (eqb-true _ _ y), λ k. refl))
      (λ (y : eqb (code_at kind n p i g.left) 0 ≡ false). rw (z, y) (stopped i g.left w' (eqb-false _ _ y), λ k. absurd (eqb-false _ _ y k)))
      (either (eqb (code_at kind n p i g.left) 0)))
      (λ (z : eqb g.code 0 ≡ false). rw z (idle i g w (eqb-false _ _ z), λ k. absurd (eqb-false _ _ z k)))
      (either (eqb g.code 0))

  walk : (c : ℕ) → (Steps kind n p b c (several kind n p c b)) × ((several kind n p c b).code ≡ 0 → (several kind n p c b).done ≡ c)
  unfolding several turns
  walk zero = (begun, λ k. refl)
  walk (suc c) = let w = walk c in turn c (several kind n p c b) w.0 w.1

  pub steps : (c : ℕ) → Steps kind n p b c (several kind n p c b)
  steps c = (walk c).0

  -- all went well: all are done
  pub all_done : (c : ℕ) → (several kind n p c b).code ≡ 0 → (several kind n p c b).done ≡ c
  all_done c z = (walk c).1 z

  steps_is : (c : ℕ) (g : Run) → Steps kind n p b c g → several kind n p c b ≡ g
  steps_is c g begun = several_none kind n p b
  steps_is c g (done i b' w z) = several_more kind n p i b b' (steps_is i _ w) z
  steps_is c g (stopped i b' w z) = several_stops kind n p i b b' (steps_is i _ w) z
  steps_is c g (idle i x w z) = several_stays kind n p i c b x (steps_is i x w) z (omega arith)

  -- The refused record and those after it leave no trace: what is left is what that many records alone leave, ..
  alone : (c : ℕ) (g : Run) → Steps kind n p b c g → several kind n p g.done b ≡ run 0 g.done g.left
  alone c g begun = several_none kind n p b
  alone c g (done i b' w z) = steps_is c g (done i b' w z)
  alone c g (stopped i b' w z) = steps_is i (run 0 i b') w
  alone c g (idle i x w z) = alone i x w

  pub no_trace : (c : ℕ) → several kind n p (several kind n p c b).done b ≡ run 0 (several kind n p c b).done (several kind n p c b).left
  no_trace c = alone c (several kind n p c b) (steps c)

  -- .. and the code is that of the single call that was refused
  code_of : (c : ℕ) (g : Run) → Steps kind n p b c g → (g.code ≡ 0 → ⊥) → g.code ≡ code_at kind n p g.done g.left
  code_of c g begun z = absurd (z refl)
  code_of c g (done i b' w y) z = absurd (z refl)
  code_of c g (stopped i b' w y) z = refl
  code_of c g (idle i x w y) z = code_of i x w z

  pub refusal : (c : ℕ) → ((several kind n p c b).code ≡ 0 → ⊥)
      → (several kind n p c b).code ≡ code_at kind n p (several kind n p c b).done (several kind n p c b).left
  refusal c z = code_of c (several kind n p c b) (steps c) z

  pub code_below : (c : ℕ) → (several kind n p c b).code < 4096
  code_below c =
      ⊎_elim (λ (z : (several kind n p c b).code ≡ 0). omega arith)
      (λ (z : (several kind n p c b).code ≡ 0 → ⊥). let e = refusal c z in
      let k = call_below kind n p 1 (single (several kind n p c b).done (several kind n p c b).left) in omega arith)
      (equal? (several kind n p c b).code 0)

  -- fewer than count are done where one is refused
  fewer : (c : ℕ) (g : Run) → Steps kind n p b c g → (g.code ≡ 0 → ⊥) → g.done < c
  fewer c g begun z = absurd (z refl)
  fewer c g (done i b' w y) z = absurd (z refl)
  fewer c g (stopped i b' w y) z = omega arith
  fewer c g (idle i x w y) z = let k = fewer i x w z in omega arith

  pub fewer_done : (c : ℕ) → ((several kind n p c b).code ≡ 0 → ⊥) → (several kind n p c b).done < c
  fewer_done c z = fewer c (several kind n p c b) (steps c) z

-- ---- the answer

module _ (g : Run) where
  pub told_left : (told g).left ≡ g.left
  unfolding told ◌if◌else◌
  told_left = ⊎_elim (λ (z : eqb g.code 0 ≡ true). rw z refl) (λ (z : eqb g.code 0 ≡ false). rw z refl) (either (eqb g.code 0))

  pub told_zero : g.code ≡ 0 → (told g).answer ≡ 0
  unfolding told ◌if◌else◌
  told_zero z = rw (eq-eqb g.code 0 z) refl

  pub told_some : (g.code ≡ 0 → ⊥) → (told g).answer ≡ g.code + 0 ∕ (16 * g.done)
  unfolding told ◌if◌else◌
  told_some z = rw (ne_eqb g.code 0 z) refl

  pub told_code : g.code < 4096 → (told g).answer % 4096 ≡ g.code
  told_code l =
      ⊎_elim (λ (z : g.code ≡ 0). let e = told_zero z in omega arith)
      (λ (z : g.code ≡ 0 → ⊥). let e = told_some z in omega arith) (equal? g.code 0)

-- the run is stopped at the record at distance i, or all went well
module _ (kind : Kind) (n p : ℕ) (b b' : Buffers) where
  pub stops_told : (i c : ℕ) → several kind n p i b ≡ run 0 i b' → (code_at kind n p i b' ≡ 0 → ⊥) → i < c
      → told (several kind n p c b) ≡ outcome (code_at kind n p i b' + 4096 * i) b'
  unfolding told ◌if◌else◌
  stops_told i c h z l =
      let g = several_stays kind n p (suc i) c b (run (code_at kind n p i b') i b') (several_stops kind n p i b b' h z) z (omega arith) in
      let a : code_at kind n p i b' + 0 ∕ (16 * i) ≡ code_at kind n p i b' + 4096 * i = omega arith in
      rw (g, ne_eqb (code_at kind n p i b') 0 z, a) refl

  pub ends_told : (i c : ℕ) → several kind n p i b ≡ run 0 i b' → c ≤ i → i ≤ c → told (several kind n p c b) ≡ outcome 0 b'
  unfolding told ◌if◌else◌
  ends_told i c h l m = let q : c ≡ i = omega arith in rw (q, h) refl

-- ---- the call

module _ (kind : Kind) (n p c : ℕ) (b : Buffers) where
  -- one record or a run as before
  pub run_plain : serves_run n ≡ false → call_run kind n p c b ≡ call kind n p c b
  unfolding call_run ◌if◌else◌
  run_plain h = rw h refl

  pub singly_plain : serves_run n ≡ false → call_singly kind n p c b ≡ call kind n p c b
  unfolding call_singly ◌if◌else◌
  singly_plain h = rw h refl

  module _ (h : serves_run n ≡ true) where
    abbrev rows : List Rattle.words.specs.Tables.Row
    rows = rows_all kind n p c b

    pub run_refused : (first_of rows ≡ 0 → ⊥) → call_run kind n p c b ≡ outcome (first_of rows) b
    unfolding call_run ◌if◌else◌
    run_refused z = rw h (refuses rows b _ z)

    pub run_told : first_of rows ≡ 0 → call_run kind n p c b ≡ told (several kind n p c b)
    unfolding call_run ◌if◌else◌
    run_told z = rw h (accepts rows b _ z)

    pub singly_refused : (first_of rows ≡ 0 → ⊥) → call_singly kind n p c b ≡ outcome (first_of rows) b
    unfolding call_singly ◌if◌else◌
    singly_refused z = rw h (refuses rows b _ z)

    pub singly_told : first_of rows ≡ 0 → call_singly kind n p c b ≡ singly (several kind n p c b)
    unfolding call_singly ◌if◌else◌
    singly_told z = rw h (accepts rows b _ z)

  -- what the general table refuses is refused so, a run of records or not, ..
  pub run_first : (first_of (rows_all kind n p c b) ≡ 0 → ⊥) → call_run kind n p c b ≡ outcome (first_of (rows_all kind n p c b)) b
  run_first z =
      ⊎_elim (λ (h : serves_run n ≡ true). run_refused h z)
      (λ (h : serves_run n ≡ false). run_plain h ∙ call_refused kind n p c b z) (either (serves_run n))

  -- .. by the plain engine too
  pub singly_first : (first_of (rows_all kind n p c b) ≡ 0 → ⊥) → call_singly kind n p c b ≡ outcome (first_of (rows_all kind n p c b)) b
  singly_first z =
      ⊎_elim (λ (h : serves_run n ≡ true). singly_refused h z)
      (λ (h : serves_run n ≡ false). singly_plain h ∙ call_refused kind n p c b z) (either (serves_run n))

-- ---- those four bits apart, the answer and all buffers are those of single calls made one after another

module _ (kind : Kind) (n p c : ℕ) (b : Buffers) where
  pub same_left : (call_run kind n p c b).left ≡ (call_singly kind n p c b).left
  unfolding singly
  same_left =
      ⊎_elim
      (λ (h : serves_run n ≡ true).
      ⊎_elim
      (λ (z : first_of (rows_all kind n p c b) ≡ 0). rw (run_told kind n p c b h z, singly_told kind n p c b h z) (told_left (several kind n p c b)))
      (λ (z : first_of (rows_all kind n p c b) ≡ 0 → ⊥). rw (run_refused kind n p c b h z, singly_refused kind n p c b h z) refl)
      (equal? (first_of (rows_all kind n p c b)) 0))
      (λ (h : serves_run n ≡ false). rw (run_plain kind n p c b h, singly_plain kind n p c b h) refl)
      (either (serves_run n))

  pub same_code : (call_run kind n p c b).answer % 4096 ≡ (call_singly kind n p c b).answer
  unfolding singly
  same_code =
      ⊎_elim
      (λ (h : serves_run n ≡ true).
      ⊎_elim
      (λ (z : first_of (rows_all kind n p c b) ≡ 0). rw (run_told kind n p c b h z, singly_told kind n p c b h z)
      (told_code (several kind n p c b) (code_below kind n p b c)))
      (λ (z : first_of (rows_all kind n p c b) ≡ 0 → ⊥). rw (run_refused kind n p c b h z, singly_refused kind n p c b h z)
      (let k = all_below kind n p c b in omega arith))
      (equal? (first_of (rows_all kind n p c b)) 0))
      (λ (h : serves_run n ≡ false). rw (run_plain kind n p c b h, singly_plain kind n p c b h)
      (let k = answer_below kind n p c b in omega arith))
      (either (serves_run n))
