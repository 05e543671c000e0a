-- The ends of a routine: what its answer and its buffers are is the outcome of a table and an effect. Assumes nothing.
use Prim.Native.Nat.{ℕ}
use mathlib.Core.Path.{◌≡◌, refl, sym, ap, ◌∙◌}
use mathlib.Core.Bool.{true}
use mathlib.Core.List.{List, ◌++◌}
use borrow.Author.Tests.{eq-eqb, ne_eqb}
use Rattle.words.specs.Tests.{◌if◌else◌}
use Rattle.words.specs.Tables.{Row, first_of, none_zero}
use Rattle.words.proofs.Tables.{first_then, first_stays}
use Rattle.rules.specs.declared.kind.Kind.{Kind}
use Rattle.rules.specs.Serves.{Buffers, Outcome, Did, buffers, outcome}
use Rattle.rules.specs.declared.file.File.{File}
use Rattle.rules.specs.declared.list.LockList.{LockList}
use Rattle.std.specs.Prelude.{Option}
use Rattle.rules.specs.declared.routine.Routine.{Routine}
use Rattle.rules.specs.Locks.{unpack}
use Rattle.rules.specs.Asks.{caller_file, record_of}
use Rattle.rules.specs.Call.{decided, unless, asked_by, asked, rows_of, effect_of, served}

-- an outcome by another name
pub did_as : (o o' : Outcome) (r : ℕ) (left : Buffers) → o ≡ o' → Did o r left → Did o' r left
did_as o o' r left e d = rw e at d

-- the answer and each buffer by itself
pub did_left : {o : Outcome} {r : ℕ} {fcb dma list image : List ℕ} → r ≡ o.answer → fcb ≡ o.left.fcb → dma ≡ o.left.dma → list ≡ o.left.list
    → image ≡ o.left.image → Did o r (buffers fcb dma list image)
did_left a f d l s = record { gives = a; leaves = λ i. record { fcb = f i; dma = d i; list = l i; image = s i } }

-- nothing changed
pub did_none : (code : ℕ) (b : Buffers) → Did (outcome code b) code b
did_none code b = record { gives = refl; leaves = refl }

module _ (rows : List Row) (b : Buffers) (o : Outcome) (code : ℕ) (e : code ≡ first_of rows) where
  -- some row applies
  pub did_refuse : (code ≡ 0 → ⊥) → Did (unless rows b o) code b
  unfolding unless decided ◌if◌else◌
  did_refuse n = rw (ne_eqb (first_of rows) 0 (λ q. n (e ∙ q)), ← e) (did_none code b)

  -- none does
  pub did_pass : (r : ℕ) (left : Buffers) → code ≡ 0 → Did o r left → Did (unless rows b o) r left
  unfolding unless decided ◌if◌else◌
  did_pass r left z d = rw (eq-eqb (first_of rows) 0 (sym e ∙ z)) d

-- a table in two parts
module _ (xs ys : List Row) (b : Buffers) (o : Outcome) (code : ℕ) (e : code ≡ first_of xs) where
  pub did_refuse_first : (code ≡ 0 → ⊥) → Did (unless (xs ++ ys) b o) code b
  did_refuse_first n = did_refuse (xs ++ ys) b o code (e ∙ sym (first_stays xs ys (λ q. n (e ∙ q)))) n

  pub did_go_on : (r : ℕ) (left : Buffers) → code ≡ 0 → none_zero xs ≡ true → Did (unless ys b o) r left
      → Did (unless (xs ++ ys) b o) r left
  unfolding unless
  did_go_on r left z h d =
      did_as _ _ r left (ap (λ (c : ℕ). decided c b o) (sym (first_then xs ys (sym e ∙ z) h))) d

-- ---- a call on the buffers, from what its routine found in them

pub served_as : (kind : Kind) (k : Option Routine) (p c : ℕ) (b : Buffers) (l : LockList) (f : File) (r : ℕ) → l ≡ unpack b.list → f ≡ caller_file p l b.fcb
    → r ≡ record_of b.fcb → unless (rows_of k (asked_by kind p c l f r b.image) b) b (effect_of k (asked_by kind p c l f r b.image) b) ≡ served kind k p c b
unfolding served asked
served_as kind k p c b l f r hl hf hr =
    let g : f ≡ caller_file p (unpack b.list) b.fcb = hf ∙ ap (λ (m : LockList). caller_file p m b.fcb) hl in
    ap (λ (m : LockList). unless (rows_of k (asked_by kind p c m f r b.image) b) b (effect_of k (asked_by kind p c m f r b.image) b)) hl
    ∙ ap (λ (m : File). unless (rows_of k (asked_by kind p c (unpack b.list) m r b.image) b) b
    (effect_of k (asked_by kind p c (unpack b.list) m r b.image) b)) g
    ∙ ap (λ (m : ℕ). unless (rows_of k (asked_by kind p c (unpack b.list) (caller_file p (unpack b.list) b.fcb) m b.image) b) b
    (effect_of k (asked_by kind p c (unpack b.list) (caller_file p (unpack b.list) b.fcb) m b.image) b)) hr
