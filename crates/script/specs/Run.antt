-- A run of `mpmcalls`: from the bytes of DISK.IMG and of standard input to what is printed and, where there is one, DISK.OUT. Assumes nothing.
use Rattle.std.specs.Prelude.{ℕ, zero, suc, ◌+◌, ◌≡◌, not, List, [], ◌++◌, length, take, drop, replicate, ltb, eqb}
use Rattle.std.proofs.Math.Option.{Option, none, some}
use Rattle.words.specs.Tests.{◌if◌else◌}
use Rattle.words.specs.Tables.{◌∕◌}
use Rattle.rules.specs.Serves.{buffers, list_size}
use Rattle.rules.specs.Locks.{Started, rule_in}
use Rattle.rules.specs.Kinds.{told_rule, told_kind}
use Rattle.rules.specs.Vector.{Five}
use Rattle.rules.specs.Told.{five_told, build_told, start_told}
use Rattle.script.specs.Records.{start_size, call_size, is_start, is_call, first_number, second_number, third_number, users_in, rule_number, fcb_in, dma_in}
use Rattle.script.specs.Lines.{header_line, call_line, end_line, bad_line, bad_start_line, bad_call_line, long_image_line}

-- the number that tells the kind of drive: `mpmcalls` stays with the first kind (T-09)
abbrev pub first_kind : ℕ
first_kind = 0

-- ---- What a record asks of the engine

-- Start, of what a start record says
unfoldable pub start_of : List ℕ → List ℕ → Started
start_of r list =
    start_told (told_kind first_kind (told_rule (rule_number r))) (first_number r) (second_number r) (third_number r) (rule_number r) (users_in r) list

-- the call that a call record says, on a list, an image and the vector beside it (T-04)
unfoldable pub call_of : List ℕ → List ℕ → List ℕ → List ℕ → Five
call_of r list image vector =
    five_told (told_kind first_kind (rule_in list)) (first_number r) (second_number r) (third_number r) vector (buffers (fcb_in r) (dma_in r) list image)

-- what a routine answered to a call, and the list, the image and the vector that it left, are that
pub record DidCall (o : Five) (answer : ℕ) (list image vector : List ℕ) : Type 0 where
  pub gives : answer ≡ o.did.answer
  pub leaves_list : list ≡ o.did.left.list
  pub leaves_image : image ≡ o.did.left.image
  pub leaves_vector : vector ≡ o.vector

-- 32 bytes beside an image of the first kind
abbrev pub vector_long : ℕ
vector_long = 32

-- `mpmcalls` builds its own vector, once: that of the image, or all zeros for an image that is not sound, on which no call gets as far
unfoldable pub vector_for : List ℕ → List ℕ → List ℕ
vector_for r image = (build_told (told_kind first_kind (told_rule (rule_number r))) image (replicate vector_long 0)).vector

-- ---- A run

-- what a run printed, and DISK.OUT where it was written
pub record Ran : Type 0 where
  pub printed : List ℕ
  pub out : Option (List ℕ)

abbrev pub ran : List ℕ → Option (List ℕ) → Ran
ran printed out = record { printed = printed; out = out }

-- a line, then what the rest of a run prints
infixr 20 ◌then◌
abbrev pub ◌then◌ : List ℕ → Ran → Ran
line then r = ran (line ++ r.printed) r.out

-- "DISK.IMG (to 65,536 bytes ..)"
abbrev pub longest : ℕ
longest = 65536

-- "an unreadable one is taken as empty"
unfoldable pub image_of : Option (List ℕ) → List ℕ
image_of none = []
image_of (some s) = s

-- the line of a call, and on with what it left
unfoldable pub call_then : ℕ → List ℕ → Five → (List ℕ → List ℕ → List ℕ → Ran) → Ran
call_then calls r o go_on =
    call_line calls (second_number r) (first_number r) o.did.answer then go_on o.did.left.list o.did.left.image o.vector

-- The calls. Where the input ends: `end` and the number of calls, and DISK.OUT. "At a bad mark, a cut record .. `bad record` and the
-- record's number, in place of the end line", and no DISK.OUT. Else the call's line, and on. (The first number is above the number of
-- records that the input can have, and a greater one changes nothing: `calls_bounded`.)
unfoldable pub calls_on : ℕ → ℕ → List ℕ → List ℕ → List ℕ → List ℕ → Ran
calls_on zero calls input list image vector = ran [] none
calls_on (suc more) calls input list image vector =
    ran (end_line calls) (some image) if eqb (length input) 0 else
    ran (bad_call_line calls) none if not (is_call (take call_size input)) else
    call_then calls (take call_size input) (call_of (take call_size input) list image vector) (calls_on more (calls + 1) (drop call_size input))

-- The start record. "A bad start": a bad mark, a cut record, or one that Start refuses.
unfoldable pub start_then : List ℕ → List ℕ → Started → Ran
start_then input image o =
    calls_on (suc (length input)) 0 (drop start_size input) o.list image (vector_for (take start_size input) image) if eqb o.answer (0 ∕ 0) else ran bad_start_line none

unfoldable pub starts_on : List ℕ → List ℕ → Ran
starts_on input image =
    start_then input image (start_of (take start_size input) (replicate list_size 0)) if is_start (take start_size input) else ran bad_start_line none

-- "A longer one gives only the line `image too long`"; "after the header line, which a bad start gets too".
unfoldable pub run_of : Option (List ℕ) → List ℕ → Ran
run_of disk input = ran long_image_line none if ltb longest (length (image_of disk)) else header_line then starts_on input (image_of disk)

-- ---- What only proofs need

-- a run whose last line is an end line, and that wrote DISK.OUT
pub record Whole (r : Ran) : Type 0 where
  pub front : List ℕ
  pub calls : ℕ
  pub image : List ℕ
  pub prints : r.printed ≡ front ++ end_line calls
  pub writes : r.out ≡ some image

-- one with `bad record` in its place, and no DISK.OUT
pub record Broken (r : Ran) : Type 0 where
  pub front : List ℕ
  pub number : ℕ
  pub prints : r.printed ≡ front ++ bad_line number
  pub writes : r.out ≡ none
