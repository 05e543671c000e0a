-- Laws of a run: how it begins, goes on and ends, and that the number which bounds its calls is never used up. Assumes nothing.
use Prim.Native.Nat.{ℕ, zero, suc, ◌+◌, ◌≤◌, ◌<◌}
use mathlib.Core.Path.{◌≡◌, refl, sym, ap, subst, ◌∙◌}
use mathlib.Core.Bool.{Bool, true, false, not}
use mathlib.Core.List.{List, [], ◌++◌, append_assoc}
use mathlib.Core.Logic.{◌⊎◌, inl, inr, ⊎_elim}
use mathlib.Core.Option.{Option, none, some}
use native.Mathlib.Nat.{not-suc-le-zero}
use native.Mathlib.Omega.{arith}
use borrow.Author.Tests.{ltb-true, ltb-false, lt-ltb, le-ltb, ne_eqb, eqb-false}
use lib.Dec.{ltb, eqb}
use lib.ListN.{length, take, drop, replicate, length-append, length-drop}
use lib.Seq.{take_at, drop_at}
use Rattle.words.specs.Tests.{◌if◌else◌}
use Rattle.words.specs.Tables.{◌∕◌}
use Rattle.words.proofs.Tests.{either}
use Rattle.rules.specs.Serves.{list_size}
use Rattle.rules.specs.Vector.{Five}
use Rattle.script.specs.Records.{start_size, call_size, is_start, is_call, first_number, second_number}
use Rattle.script.specs.Lines.{header_line, call_line, end_line, bad_line, bad_start_line, bad_call_line, long_image_line}
use Rattle.script.specs.Run.{Ran, Whole, Broken, ran, ◌then◌, longest, image_of, start_of, call_of, vector_for, call_then, calls_on, start_then, starts_on, run_of}
use Rattle.script.proofs.Records.{is_long}

-- ---- the image

pub image_long : (disk : Option (List ℕ)) (input : List ℕ) → 65536 < length (image_of disk) → run_of disk input ≡ ran long_image_line none
unfolding run_of ◌if◌else◌
image_long disk input h = rw (lt-ltb longest (length (image_of disk)) h)

pub image_fits : (disk : Option (List ℕ)) (input : List ℕ) → length (image_of disk) ≤ 65536
    → run_of disk input ≡ (header_line then starts_on input (image_of disk))
unfolding run_of ◌if◌else◌
image_fits disk input h = rw (le-ltb longest (length (image_of disk)) h)

pub image_unread : (input : List ℕ) → run_of none input ≡ run_of (some []) input
unfolding run_of image_of
image_unread input = refl

-- ---- the start

module _ (disk : Option (List ℕ)) (input : List ℕ) (h : length (image_of disk) ≤ 65536) where
  pub start_cut : is_start (take start_size input) ≡ false → run_of disk input ≡ ran (header_line ++ bad_start_line) none
  unfolding starts_on ◌if◌else◌
  start_cut e = image_fits disk input h ∙ rw e

  pub start_refused : eqb (start_of (take start_size input) (replicate list_size 0)).answer (0 ∕ 0) ≡ false
      → run_of disk input ≡ ran (header_line ++ bad_start_line) none
  unfolding starts_on start_then ◌if◌else◌
  start_refused e =
      image_fits disk input h
      ∙ ⊎_elim (λ (q : is_start (take start_size input) ≡ true). rw (q, e)) (λ (q : is_start (take start_size input) ≡ false). rw q)
      (either (is_start (take start_size input)))

pub start_good : (r rest image list : List ℕ) → is_start r ≡ true → start_of r (replicate list_size 0) ≡ record { answer = 0 ∕ 0; list = list }
    → starts_on (r ++ rest) image ≡ calls_on (suc (length (r ++ rest))) 0 rest list image (vector_for r image)
unfolding starts_on start_then ◌if◌else◌
start_good r rest image list h g =
    let n = is_long start_size 0x53 r h in
    rw (take_at r rest start_size n, drop_at r rest start_size n, h, g)

-- ---- the calls

module _ (more calls : ℕ) where
  pub calls_end : (list image vector : List ℕ) → calls_on (suc more) calls [] list image vector ≡ ran (end_line calls) (some image)
  unfolding calls_on ◌if◌else◌
  calls_end list image vector = refl

  pub calls_cut : (input list image vector : List ℕ) → 0 < length input → is_call (take call_size input) ≡ false
      → calls_on (suc more) calls input list image vector ≡ ran (bad_call_line calls) none
  unfolding calls_on ◌if◌else◌
  calls_cut input list image vector h g = rw (ne_eqb (length input) 0 (λ e. omega arith), g)

  pub calls_go_on : (r rest list image vector : List ℕ) → is_call r ≡ true
      → calls_on (suc more) calls (r ++ rest) list image vector ≡ call_then calls r (call_of r list image vector) (calls_on more (calls + 1) rest)
  unfolding calls_on ◌if◌else◌
  calls_go_on r rest list image vector h =
      let n = is_long call_size 0x43 r h in
      let l = length-append r rest in
      rw (ne_eqb (length (r ++ rest)) 0 (λ e. omega arith), take_at r rest call_size n, drop_at r rest call_size n, h)

-- ---- the number that bounds them

-- a call's line, and on in one way or another
same_on : (calls : ℕ) (r : List ℕ) (o : Five) (f g : List ℕ → List ℕ → List ℕ → Ran) → ((l i v : List ℕ) → f l i v ≡ g l i v)
    → call_then calls r o f ≡ call_then calls r o g
unfolding call_then
same_on calls r o f g h = rw (h o.did.left.list o.did.left.image o.vector)

pub same_calls : (j k calls : ℕ) (input list image vector : List ℕ) → length input < j → length input < k
    → calls_on j calls input list image vector ≡ calls_on k calls input list image vector
unfolding calls_on ◌if◌else◌
same_calls zero k calls input list image vector h g = absurd (not-suc-le-zero h)
same_calls (suc j) zero calls input list image vector h g = absurd (not-suc-le-zero g)
same_calls (suc j) (suc k) calls input list image vector h g =
    ⊎_elim (λ (q : eqb (length input) 0 ≡ true). rw q)
    (λ (q : eqb (length input) 0 ≡ false).
    let z = eqb-false (length input) 0 q in
    let r = take call_size input in
    let rest = drop call_size input in
    let a : length (drop call_size input) < j = rw length-drop (omega arith) in
    let b : length (drop call_size input) < k = rw length-drop (omega arith) in
    let e = same_on calls r (call_of r list image vector) (calls_on j (calls + 1) rest) (calls_on k (calls + 1) rest)
    (λ l i v. same_calls j k (calls + 1) rest l i v a b) in
    rw q (ap (λ (x : Ran). ran (bad_call_line calls) none if not (is_call (take call_size input)) else x) e))
    (either (eqb (length input) 0))

-- so the definition does not depend on it
pub calls_bounded : (k calls : ℕ) (input list image vector : List ℕ) → length input ≤ k
    → calls_on (suc (length input)) calls input list image vector ≡ calls_on (suc k) calls input list image vector
calls_bounded k calls input list image vector h =
    same_calls (suc (length input)) (suc k) calls input list image vector (omega arith) (omega arith)

-- ---- the end of a run

unfoldable Ends : Ran → Type 0
Ends r = Whole r ⊎ Broken r

-- a line more before it
line_ends : (line : List ℕ) (r : Ran) → Ends r → Ends (line then r)
unfolding Ends
line_ends line r (inl w) = inl (record {
  front = line ++ w.front;
  calls = w.calls;
  image = w.image;
  prints = ap (λ (v : List ℕ). line ++ v) w.prints ∙ sym (append_assoc line w.front (end_line w.calls));
  writes = w.writes;
})
line_ends line r (inr w) = inr (record {
  front = line ++ w.front;
  number = w.number;
  prints = ap (λ (v : List ℕ). line ++ v) w.prints ∙ sym (append_assoc line w.front (bad_line w.number));
  writes = w.writes;
})

one_ends : (t : Bool) (x y : Ran) → (t ≡ true → Ends x) → (t ≡ false → Ends y) → Ends (x if t else y)
unfolding ◌if◌else◌
one_ends true x y f g = f refl
one_ends false x y f g = g refl

bad_ends : (number : ℕ) → Ends (ran (bad_line number) none)
unfolding Ends
bad_ends number = inr (record { front = []; number = number; prints = refl; writes = refl })

call_ends : (calls : ℕ) (r : List ℕ) (o : Five) (f : List ℕ → List ℕ → List ℕ → Ran) → ((l i v : List ℕ) → Ends (f l i v)) → Ends (call_then calls r o f)
unfolding call_then
call_ends calls r o f h =
    let l = o.did.left.list in
    let i = o.did.left.image in
    line_ends (call_line calls (second_number r) (first_number r) o.did.answer) (f l i o.vector) (h l i o.vector)

calls_ends : (more calls : ℕ) (input list image vector : List ℕ) → length input < more → Ends (calls_on more calls input list image vector)
unfolding calls_on bad_call_line Ends
calls_ends zero calls input list image vector h = absurd (not-suc-le-zero h)
calls_ends (suc more) calls input list image vector h =
    one_ends (eqb (length input) 0) (ran (end_line calls) (some image)) _
    (λ q. inl (record { front = []; calls = calls; image = image; prints = refl; writes = refl }))
    (λ (q : eqb (length input) 0 ≡ false).
    let z = eqb-false (length input) 0 q in
    let r = take call_size input in
    let rest = drop call_size input in
    let a : length (drop call_size input) < more = rw length-drop (omega arith) in
    one_ends (not (is_call r)) (ran (bad_call_line calls) none) _ (λ p. bad_ends (calls + 1))
    (λ p. call_ends calls r (call_of r list image vector) (calls_on more (calls + 1) rest) (λ l i v. calls_ends more (calls + 1) rest l i v a)))

start-ends : (input image : List ℕ) → Ends (starts_on input image)
unfolding starts_on start_then bad_start_line
start-ends input image =
    let a : length (drop start_size input) < suc (length input) = rw length-drop (omega arith) in
    one_ends (is_start (take start_size input)) _ (ran bad_start_line none)
    (λ q. one_ends _ _ (ran bad_start_line none) (λ p. calls_ends (suc (length input)) 0 (drop start_size input) _ image _ a) (λ p. bad_ends 0))
    (λ q. bad_ends 0)

-- DISK.OUT is written where the last line is an end line, and nowhere else
pub run_ends : (disk : Option (List ℕ)) (input : List ℕ)
    → (run_of disk input ≡ ran long_image_line none) ⊎ (Whole (run_of disk input) ⊎ Broken (run_of disk input))
unfolding Ends
run_ends disk input =
    ⊎_elim (λ (q : ltb longest (length (image_of disk)) ≡ true). inl (image_long disk input (ltb-true longest (length (image_of disk)) q)))
    (λ (q : ltb longest (length (image_of disk)) ≡ false).
    let e = image_fits disk input (ltb-false longest (length (image_of disk)) q) in
    inr (subst Ends (sym e) (line_ends header_line (starts_on input (image_of disk)) (start-ends input (image_of disk)))))
    (either (ltb longest (length (image_of disk))))
