-- From a routine's outcome to the call's. Assumes nothing.
use Prim.Native.Nat.{ℕ, ◌<◌}
use mathlib.Core.Path.{◌≡◌, refl, sym, ap, ◌∙◌}
use mathlib.Core.Bool.{Bool, true, false, true≢false}
use mathlib.Core.List.{List}
use native.Mathlib.Omega.{arith}
use borrow.Author.Rules.{rules}
use Rattle.words.specs.Tests.{◌or◌, ◌if◌else◌}
use Rattle.rules.specs.declared.routine.Routine.{Routine}
use Rattle.rules.specs.declared.routine.Routine.TheVariants.{Open, Close, SearchFirst, SearchNext, Delete, Make, Rename, Read, Write, Size, WriteZeros}
use Rattle.rules.specs.declared.routine.Routine.TheVariants.{TestWrite, Lock, Unlock, FreeSpace, Terminate}
use Rattle.std.specs.Prelude.{Some}
use Rattle.rules.specs.Serves.{Buffers, Outcome, Did, function_of}
use Rattle.rules.specs.Codes.{bad_drive}
use Rattle.rules.specs.Call.{Ready, asked_by, asked, rows_of, effect_of, served}
use Rattle.rules.specs.Vector.{vector_of}
use Rattle.rules.specs.Several.{serves_run, several, told}
use Rattle.rules.proofs.Passed.{Passed}
use Rattle.rules.proofs.Ends.{did_as}
use Rattle.soundness.proofs.Vectors.{make_vector, rename_vector}
use Rattle.calls.specs.Calls.{DidBeside, served_by}
use Rattle.calls.specs.Drives.{uses_count}
use Rattle.rules.specs.declared.kind.Kind.{Kind}

-- a call that does not use count is the same for every count
any_count : (kind : Kind) (k : Routine) (p c d : ℕ) (b : Buffers) → uses_count k ≡ false → served kind (Some k) p c b ≡ served kind (Some k) p d b
unfolding served asked asked_by rows_of effect_of uses_count
any_count kind Open p c d b h = refl
any_count kind Close p c d b h = refl
any_count kind SearchFirst p c d b h = refl
any_count kind SearchNext p c d b h = refl
any_count kind Delete p c d b h = refl
any_count kind Make p c d b h = refl
any_count kind Rename p c d b h = refl
any_count kind Read p c d b h = refl
any_count kind Write p c d b h = refl
any_count kind Size p c d b h = refl
any_count kind WriteZeros p c d b h = refl
any_count kind TestWrite p c d b h = refl
any_count kind Lock p c d b h = absurd (true≢false h)
any_count kind Unlock p c d b h = absurd (true≢false h)
any_count kind FreeSpace p c d b h = refl
any_count kind Terminate p c d b h = refl

-- in the arm for routine j
module _ (kind : Kind) (j k : Routine) (p c : ℕ) (b : Buffers) (a : ℕ) (left : Buffers) (e : k ≡ j) where
  pub serve_any : uses_count j ≡ false → Did (served kind (Some j) p 1 b) a left → Did (served kind (Some k) p c b) a left
  serve_any h d =
      did_as _ _ a left
      (any_count kind j p 1 c b h ∙ ap (λ (r : Routine). served kind (Some r) p c b) (sym e)) d

  pub serve_run : Did (served kind (Some j) p c b) a left → Did (served kind (Some k) p c b) a left
  serve_run d = did_as _ _ a left (ap (λ (r : Routine). served kind (Some r) p c b) (sym e)) d

-- ---- with the vector

-- in the arm for routine j, which left the vector of the image that it left
module _ (kind : Kind) (j k : Routine) (p c : ℕ) (b : Buffers) (a : ℕ) (left : Buffers) (v : List ℕ) (e : k ≡ j) where
  pub beside-any : uses_count j ≡ false → Did (served kind (Some j) p 1 b) a left → v ≡ vector_of kind left.image
      → DidBeside kind (served kind (Some k) p c b) a left v
  beside-any h d w = record { did = serve_any kind j k p c b a left e h d; agrees = w }

  pub beside-run : Did (served kind (Some j) p c b) a left → v ≡ vector_of kind left.image → DidBeside kind (served kind (Some k) p c b) a left v
  beside-run d w = record { did = serve_run kind j k p c b a left e d; agrees = w }

-- what a call may rely on, of one record
one_passed : (kind : Kind) (p : ℕ) (b : Buffers) → p < 16 → Ready kind b → Passed kind p 1 b
one_passed kind p b few r = record { process_fits = few; run_some = omega arith; run_fits = omega arith; ready = r }

-- Make and Rename leave the vector as it was
module _ (kind : Kind) (k : Routine) (p c : ℕ) (b : Buffers) (a : ℕ) (left : Buffers) (v : List ℕ) (few : p < 16) (r : Ready kind b)
    (w : v ≡ vector_of kind b.image) where
  pub beside_make : k ≡ Make → Did (served kind (Some Make) p 1 b) a left → DidBeside kind (served kind (Some k) p c b) a left v
  unfolding uses_count
  beside_make e d =
      beside-any kind Make k p c b a left v e refl d
      (w ∙ sym (make_vector kind p 1 b (one_passed kind p b few r)) ∙ ap (λ (x : Buffers). vector_of kind x.image) (sym d.leaves))

  pub beside_rename : k ≡ Rename → Did (served kind (Some Rename) p 1 b) a left → DidBeside kind (served kind (Some k) p c b) a left v
  unfolding uses_count
  beside_rename e d =
      beside-any kind Rename k p c b a left v e refl d
      (w ∙ sym (rename_vector kind p 1 b (one_passed kind p b few r)) ∙ ap (λ (x : Buffers). vector_of kind x.image) (sym d.leaves))

-- what the answer's number is, is what it is of the routine's refusal
pub told_beside : (kind : Kind) (o : Outcome) (r a : ℕ) (left : Buffers) (v : List ℕ) → r ≡ a → DidBeside kind o a left v → DidBeside kind o r left v
told_beside kind o r a left v e d = rw e d

pub ruleset serving = (rules, refl, beside-any, beside-run, beside_make, beside_rename)

-- ---- with several records to a call, or with one

module _ (kind : Kind) (z : Bool) (p c : ℕ) (k : Routine) (b : Buffers) (a : ℕ) (left : Buffers) (v : List ℕ) where
  -- one record
  pub by_one : z ≡ false → DidBeside kind (served kind (Some k) p c b) a left v → DidBeside kind (served_by kind z (function_of k) k p c b) a left v
  unfolding served_by
  by_one q d = rw q d

  -- a run of records, by a call that takes one
  pub by_run : (m : ℕ) → z ≡ true → (j : Routine) → k ≡ j → function_of j ≡ m → serves_run m ≡ true → Did (told (several kind m p c b)) a left
      → v ≡ vector_of kind left.image → DidBeside kind (served_by kind z (function_of k) k p c b) a left v
  unfolding served_by ◌if◌else◌
  by_run m q j e f s d w = rw (q, e, f, s) (record { did = d; agrees = w })

-- a call that takes no run of records
no_run : (k : Routine) → (k ≡ Read → ⊥) → (k ≡ Write → ⊥) → (k ≡ WriteZeros → ⊥) → serves_run (function_of k) ≡ false
unfolding serves_run function_of ◌or◌ ◌if◌else◌
no_run Open x y w = refl
no_run Close x y w = refl
no_run SearchFirst x y w = refl
no_run SearchNext x y w = refl
no_run Delete x y w = refl
no_run Make x y w = refl
no_run Rename x y w = refl
no_run Read x y w = absurd (x refl)
no_run Write x y w = absurd (y refl)
no_run Size x y w = refl
no_run WriteZeros x y w = absurd (w refl)
no_run TestWrite x y w = refl
no_run Lock x y w = refl
no_run Unlock x y w = refl
no_run FreeSpace x y w = refl
no_run Terminate x y w = refl

pub by_plain : (kind : Kind) (z : Bool) (p c : ℕ) (k : Routine) (b : Buffers) (a : ℕ) (left : Buffers) (v : List ℕ) → (k ≡ Read → ⊥) → (k ≡ Write → ⊥)
    → (k ≡ WriteZeros → ⊥) → DidBeside kind (served kind (Some k) p c b) a left v → DidBeside kind (served_by kind z (function_of k) k p c b) a left v
unfolding served_by ◌if◌else◌
by_plain kind true p c k b a left v x y w d = rw (no_run k x y w) d
by_plain kind false p c k b a left v x y w d = d

pub serves_33 : serves_run 33 ≡ true
unfolding serves_run ◌or◌
serves_33 = refl

pub serves_34 : serves_run 34 ≡ true
unfolding serves_run ◌or◌
serves_34 = refl

pub serves_40 : serves_run 40 ≡ true
unfolding serves_run ◌or◌
serves_40 = refl

-- the drive byte, for a function of that number
pub drive_at : (n m : ℕ) (fcb : List ℕ) → n ≡ m → bad_drive n fcb ≡ false → bad_drive m fcb ≡ false
drive_at n m fcb e h = rw e at h
