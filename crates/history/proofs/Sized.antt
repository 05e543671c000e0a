-- The size that 35 tells, of calls with one record or several. Assumes nothing.
use Prim.Native.Nat.{ℕ, ◌+◌, ◌*◌, ◌/◌, ◌%◌, ◌≤◌, ◌<◌}
use mathlib.Core.Path.{◌≡◌, refl, sym, ap, ◌∙◌}
use mathlib.Core.Bool.{true, false}
use mathlib.Core.List.{List}
use mathlib.Core.Logic.{◌⊎◌, ⊎_elim}
use native.Mathlib.Omega.{arith}
use lib.ListN.{length}
use lib.Dec.{leb}
use borrow.Author.Tests.{leb-true, leb-false, lt-leb}
use Rattle.words.specs.Tests.{◌or◌, ◌if◌else◌}
use Rattle.words.specs.Bytes.{byte, put, le}
use Rattle.words.specs.Tables.{first_of, any_row}
use Rattle.words.proofs.Tests.{either, equal?, never}
use Rattle.words.proofs.Bytes.{put_in}
use Rattle.rules.specs.declared.kind.Kind.{Kind}
use Rattle.rules.specs.declared.file.File.{File}
use Rattle.rules.specs.declared.routine.Routine.TheVariants.{Delete, Rename, Size}
use Rattle.std.specs.Prelude.{Some}
use Rattle.rules.specs.Kinds.{entries, top}
use Rattle.rules.specs.Serves.{Buffers, chosen, function_of}
use Rattle.rules.specs.Drive.{entry_of, highest_extent, look_up, missing, sound_image}
use Rattle.rules.specs.Asks.{record_of}
use Rattle.rules.specs.Effects.{file_size, size_of, does35}
use Rattle.rules.specs.Codes.{rows_all}
use Rattle.rules.specs.Call.{rows_call, asked, asked_by, rows_of, effect_of, call}
use Rattle.rules.specs.Several.{Run, run, single, back_at, several, serves_run, call_run}
use Rattle.rules.proofs.Rows.{passes_35}
use Rattle.rules.proofs.Sizes.{top_fits}
use Rattle.rules.proofs.Sound.{sound_of}
use Rattle.rules.proofs.Frames.{count_good}
use Rattle.rules.proofs.Highest.{highest_most, highest_ends}
use Rattle.rules.proofs.Several.{Steps, begun, done, stopped, idle, steps, told_left, run_plain, run_refused, run_told}
use Rattle.soundness.proofs.Leaves.{list_of, file_by}
use Rattle.soundness.proofs.Taken.{caller_long}
use Rattle.soundness.proofs.Walk.{accepted_as}
use Rattle.soundness.proofs.Sized.{of_is, size_had, size_none}
use Rattle.soundness.proofs.SizedCalls.{size_kept}
use Rattle.history.proofs.Served.{served_as}

-- a size is at most 262,144, under CP/M's rule 65,536
pub size_most : (kind : Kind) (s : List ℕ) (f : File) → length f.name ≡ 11 → sound_image kind s ≡ true → file_size kind s f ≤ top kind + 1
size_most kind s f n h =
    let g = sound_of kind s h in
    ⊎_elim
    (λ (q : leb (entries kind) (entry_of kind s f 0) ≡ true). let z = size_none kind s f g n (leb-true _ _ q) in omega arith)
    (λ (q : leb (entries kind) (entry_of kind s f 0) ≡ false).
    let a = size_had kind s f g n (leb-false _ _ q) in
    let i = a.3 in
    let few = count_good kind s a.1 (g.files.fields a.1 a.2 i.used) in
    let most : a.0 ≤ highest_extent kind s f = rw i.extent at (highest_most kind s f a.1 a.2 (of_is kind s f g n a.0 a.1 i)) in
    let ends = highest_ends kind s f h in
    let e : file_size kind s f ≡ 128 * a.0 + byte s (32 * a.1 + 15) = a.4 in
    omega arith)
    (either (leb (entries kind) (entry_of kind s f 0)))

-- a number below 2²⁴ in FCB bytes 33 to 35 is read back
number_back : (n : ℕ) (fcb : List ℕ) → n < 16777216 → length fcb ≡ 36 → record_of (put 33 (le 3 n) fcb) ≡ n
unfolding le
number_back n fcb l long =
    let v = le 3 n in
    let a : byte (put 33 v fcb) 33 ≡ n % 256 = put_in 33 v fcb (omega arith) 0 (omega arith) in
    let b : byte (put 33 v fcb) 34 ≡ n / 256 % 256 = put_in 33 v fcb (omega arith) 1 (omega arith) in
    let c : byte (put 33 v fcb) 35 ≡ n / 256 / 256 % 256 = put_in 33 v fcb (omega arith) 2 (omega arith) in
    whole (put 33 v fcb) a b c
  where
    whole : (s : List ℕ) → byte s 33 ≡ n % 256 → byte s 34 ≡ n / 256 % 256 → byte s 35 ≡ n / 256 / 256 % 256 → record_of s ≡ n
    whole s a b c = unfold record_of in rw (a, b, c) (omega arith)

-- an accepted 35 puts the file's size there
pub size_told : (kind : Kind) (n p c : ℕ) (b : Buffers) → any_row (rows_call kind n p c b) ≡ false → chosen n ≡ Some Size
    → record_of (call kind n p c b).left.fcb ≡ file_size kind b.image (file_by p b)
unfolding rows_of effect_of asked asked_by does35 file_size missing ◌if◌else◌
size_told kind n p c b pass e =
    let a = accepted_as kind n p c b (Some Size) e pass in
    let w = passes_35 kind (look_up kind b.image (file_by p b)) b.fcb a.passes in
    let s = file_size kind b.image (file_by p b) in
    let last = top_fits kind in
    let few : s ≤ top kind + 1 = size_most kind b.image (file_by p b) (caller_long p (list_of b) b.fcb) a.ok.ready.image_sound in
    let same : s ≡ size_of b.image (look_up kind b.image (file_by p b)) = rw (lt-leb _ _ w.there) refl in
    rw a.did (ap (λ (m : ℕ). record_of (put 33 (le 3 m) b.fcb)) (sym same) ∙ number_back s b.fcb (omega arith) a.ok.ready.fcb_long)

-- ---- a run of records

-- one that takes a run of records is no Delete and no Rename
run_keeps : (n : ℕ) → serves_run n ≡ true → (chosen n ≡ Some Delete) ⊎ (chosen n ≡ Some Rename) → ⊥
unfolding serves_run function_of ◌or◌
run_keeps n h k =
    ⊎_elim (λ (e : chosen n ≡ Some Delete). never h (served_as n Delete e)) (λ (e : chosen n ≡ Some Rename). never h (served_as n Rename e)) k

module _ (kind : Kind) (n p : ℕ) (b : Buffers) (f : File) (long : length f.name ≡ 11) (h : serves_run n ≡ true) where
  steps_kept : (c : ℕ) (g : Run) → Steps kind n p b c g → file_size kind b.image f ≤ file_size kind g.left.image f
  unfolding single back_at
  steps_kept c g begun = omega arith
  steps_kept c g (done i b' w z) =
      let x = steps_kept i (run 0 i b') w in
      let y = size_kept kind n p 1 (single i b') f long (λ k e. run_keeps n h k) in
      omega arith
  steps_kept c g (stopped i b' w z) = steps_kept i (run 0 i b') w
  steps_kept c g (idle i x w z) = steps_kept i x w

-- no call, with one record or several, lowers the size of a file, but its own Delete or Rename
pub run_kept : (kind : Kind) (n p c : ℕ) (b : Buffers) (f : File) → length f.name ≡ 11
    → ((chosen n ≡ Some Delete) ⊎ (chosen n ≡ Some Rename) → f ≡ file_by p b → ⊥)
    → file_size kind b.image f ≤ file_size kind (call_run kind n p c b).left.image f
run_kept kind n p c b f long stays =
    ⊎_elim
    (λ (h : serves_run n ≡ true).
    ⊎_elim
    (λ (z : first_of (rows_all kind n p c b) ≡ 0).
    rw (run_told kind n p c b h z, told_left (several kind n p c b)) (steps_kept kind n p b f long h c (several kind n p c b) (steps kind n p b c)))
    (λ (z : first_of (rows_all kind n p c b) ≡ 0 → ⊥). rw (run_refused kind n p c b h z) (omega arith))
    (equal? (first_of (rows_all kind n p c b)) 0))
    (λ (h : serves_run n ≡ false). rw (run_plain kind n p c b h) (size_kept kind n p c b f long stays))
    (either (serves_run n))
