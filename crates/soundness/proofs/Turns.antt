-- Changes made to one entry after the other: each entry has had its own, and nothing else has changed. Assumes nothing.
use Prim.Native.Nat.{ℕ, zero, suc, ◌*◌, ◌≤◌, ◌<◌}
use mathlib.Core.Path.{◌≡◌, refl, ◌∙◌}
use mathlib.Core.List.{List}
use mathlib.Core.Logic.{⊎_elim}
use native.Mathlib.Omega.{arith}
use lib.ListN.{length}
use Rattle.words.specs.Lists.{turns}
use Rattle.words.specs.Bytes.{byte}
use Rattle.words.proofs.Tests.{equal?}
use Rattle.rules.specs.declared.kind.Kind.{Kind}
use Rattle.rules.specs.Kinds.{entries}
use Rattle.rules.proofs.Frames.{Same, same_refl}

-- after m turns: entries below m as their turn leaves them, the others and all past the directory as they were
pub record Turned (kind : Kind) (step : ℕ → List ℕ → List ℕ) (s : List ℕ) (m : ℕ) (t : List ℕ) : Type 0 where
  -- the image keeps its length
  pub len : length t ≡ length s
  -- an entry below m is as its own turn leaves it
  pub done : (e : ℕ) → e < entries kind → e < m → Same (step e s) e t e
  -- an entry from m on is as it was
  pub ahead : (e : ℕ) → e < entries kind → m ≤ e → Same s e t e
  -- a byte past the directory is as it was
  pub past : (i : ℕ) → 32 * entries kind ≤ i → byte t i ≡ byte s i

-- a step at e changes entry e alone, and by what stands there alone
module _ (kind : Kind) (step : ℕ → List ℕ → List ℕ) (s : List ℕ)
    (long : (t : List ℕ) (e : ℕ) → e < entries kind → length t ≡ length s → length (step e t) ≡ length t)
    (frame : (t : List ℕ) (e d : ℕ) → e < entries kind → length t ≡ length s → (d ≡ e → ⊥) → Same t d (step e t) d)
    (local : (t : List ℕ) (e : ℕ) → e < entries kind → length t ≡ length s → Same s e t e → Same (step e s) e (step e t) e)
    (beyond : (t : List ℕ) (e i : ℕ) → e < entries kind → length t ≡ length s → 32 * entries kind ≤ i → byte (step e t) i ≡ byte t i) where
  -- steps in turn leave just that
  pub turned : (m : ℕ) → m ≤ entries kind → Turned kind step s m (turns step m s)
  unfolding turns
  turned zero l = record { len = refl; done = λ e k z. absurd (omega arith); ahead = λ e k z. same_refl s e; past = λ i k. refl }
  turned (suc m) l =
      let g = turned m (omega arith) in
      let t = turns step m s in
      let b : m < entries kind = omega arith in
      record {
        len = long t m b g.len ∙ g.len;
        done = λ e k z.
            ⊎_elim (λ (q : e ≡ m). rw q (local t m b g.len (g.ahead m b (omega arith))))
            (λ (q : e ≡ m → ⊥).
            let y = g.done e k (omega arith) in
            let w = frame t m e b g.len q in
            record { at = λ j v. w.at j v ∙ y.at j v }) (equal? e m);
        ahead = λ e k z.
            let y = g.ahead e k (omega arith) in
            let w = frame t m e b g.len (λ (q : e ≡ m). absurd (omega arith)) in
            record { at = λ j v. w.at j v ∙ y.at j v };
        past = λ i k. beyond t m i b g.len k ∙ g.past i k;
      }
