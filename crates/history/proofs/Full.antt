-- 255/11 and 14/0 are given only where the places do not suffice, and by no call of several records. Assumes nothing.
use Prim.Native.Nat.{ℕ, ◌<◌}
use mathlib.Core.Path.{◌≡◌, sym, ◌∙◌}
use mathlib.Core.Bool.{true, false}
use mathlib.Core.Logic.{⊎_elim}
use native.Mathlib.Omega.{arith}
use lib.Dec.{leb, ltb}
use borrow.Author.Tests.{le-leb, lt-ltb}
use Rattle.words.specs.Tests.{count}
use Rattle.words.specs.Tables.{◌∕◌}
use Rattle.words.proofs.Tests.{either}
use Rattle.rules.specs.declared.kind.Kind.{Kind}
use Rattle.rules.specs.Serves.{Buffers}
use Rattle.rules.specs.Locks.{unpack, free_place, free_places}
use Rattle.rules.specs.Asks.{caller_file, record_of}
use Rattle.rules.specs.Codes.{is_new}
use Rattle.rules.specs.Call.{call}
use Rattle.rules.specs.Several.{serves_run, call_run}
use Rattle.rules.proofs.Several.{run_plain}
use Rattle.sizing.proofs.Codes.{NoPlace, TooFew, gives_11, gives_14, never_11, never_14}
use Rattle.history.proofs.Ways.{answer_plain}

module _ (kind : Kind) (n p c : ℕ) (b : Buffers) where
  -- a code that no plain call of the function gives
  not_given : (code : ℕ) → (code ≡ 0 → ⊥) → code < 4096 → ((d : ℕ) (a : Buffers) → (call kind n p d a).answer ≡ code → ⊥)
      → (call_run kind n p c b).answer ≡ code → ⊥
  not_given code z low none e =
      let w = answer_plain kind n p c b (λ y. z (sym e ∙ y)) (omega arith) in
      none w.0 w.1 (w.2 ∙ e)

  -- a call that takes runs gives neither
  pub run_not_11 : serves_run n ≡ true → (call_run kind n p c b).answer ≡ 255 ∕ 11 → ⊥
  run_not_11 h = not_given (255 ∕ 11) (λ z. omega arith) (omega arith) (λ d a. never_11 kind n p d a h)

  -- (nor 14/0)
  pub run_not_14 : serves_run n ≡ true → (call_run kind n p c b).answer ≡ 14 ∕ 0 → ⊥
  run_not_14 h = not_given (14 ∕ 0) (λ z. omega arith) (omega arith) (λ d a. never_14 kind n p d a h)

  no_place : (call_run kind n p c b).answer ≡ 255 ∕ 11 → NoPlace p (unpack b.list)
  no_place e =
      ⊎_elim (λ (h : serves_run n ≡ true). absurd (run_not_11 h e))
      (λ (h : serves_run n ≡ false). (gives_11 kind n p c b (rw (run_plain kind n p c b h) at e)).1) (either (serves_run n))

  too_few : (call_run kind n p c b).answer ≡ 14 ∕ 0 → TooFew p c (unpack b.list) (caller_file p (unpack b.list) b.fcb) (record_of b.fcb)
  too_few e =
      ⊎_elim (λ (h : serves_run n ≡ true). absurd (run_not_14 h e))
      (λ (h : serves_run n ≡ false). (gives_14 kind n p c b (rw (run_plain kind n p c b h) at e)).1) (either (serves_run n))

  -- a call answered 255/11: no place below the capacity is empty; ..
  pub answered_11 : (call_run kind n p c b).answer ≡ 255 ∕ 11 → leb (unpack b.list).capacity (free_place (unpack b.list)) ≡ true
  answered_11 e = le-leb _ _ (no_place e).full

  -- .. answered 14/0: the empty ones are fewer than the run's records that the process does not hold
  pub answered_14 : (call_run kind n p c b).answer ≡ 14 ∕ 0
      → ltb (free_places (unpack b.list)) (count (is_new (unpack b.list) p (caller_file p (unpack b.list) b.fcb) (record_of b.fcb)) c) ≡ true
  answered_14 e = lt-ltb _ _ (too_few e).few
