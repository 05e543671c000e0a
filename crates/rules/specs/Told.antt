-- "every entry point, Start and Look too, is told the kind of drive (0 the first, 1 this one)" (T-09). Assumes nothing.
use Rattle.std.specs.Prelude.{ℕ, List, Option, Some, None, Err}
use Rattle.words.specs.Tables.{◌∕◌}
use Rattle.rules.specs.declared.answer.ImageFault.TheVariants.{WrongLength}
use Rattle.rules.specs.declared.kind.Kind.{Kind}
use Rattle.rules.specs.Serves.{Buffers, Outcome, outcome}
use Rattle.rules.specs.Drive.{image_check, image_told}
use Rattle.rules.specs.Locks.{Started, start}
use Rattle.rules.specs.Look.{look_at}
use Rattle.rules.specs.Several.{call_run}
use Rattle.rules.specs.Vector.{Five, Built, five, built, call_five, singly_five, build}

-- Refusals: 255/13 also for an unknown kind, before everything; ..
unfoldable pub call_told : Option Kind → ℕ → ℕ → ℕ → Buffers → Outcome
call_told (Some kind) n p c b = call_run kind n p c b
call_told None n p c b = outcome (255 ∕ 13) b

-- .. with the vector too (T-04), ..
unfoldable pub five_told : Option Kind → ℕ → ℕ → ℕ → List ℕ → Buffers → Five
five_told (Some kind) n p c v b = call_five kind n p c v b
five_told None n p c v b = five (outcome (255 ∕ 13) b) v

unfoldable pub singly_five_told : Option Kind → ℕ → ℕ → ℕ → List ℕ → Buffers → Five
singly_five_told (Some kind) n p c v b = singly_five kind n p c v b
singly_five_told None n p c v b = five (outcome (255 ∕ 13) b) v

unfoldable pub build_told : Option Kind → List ℕ → List ℕ → Built
build_told (Some kind) s v = build kind s v
build_told None s v = built (255 ∕ 13) v

unfoldable pub start_told : Option Kind → ℕ → ℕ → ℕ → ℕ → List ℕ → List ℕ → Started
start_told (Some kind) c o k u users list = start kind c o k u users list
start_told None c o k u users list = record { answer = 255 ∕ 13; list = list }

-- .. 1 from the image check.
unfoldable pub check_told : Option Kind → List ℕ → ℕ
check_told (Some kind) s = image_told (image_check kind s)
check_told None s = image_told (Err WrongLength)

-- Look gives an empty part for an unknown one.
unfoldable pub look_told : Option Kind → ℕ → List ℕ → ℕ → List ℕ → ℕ
look_told (Some kind) user name r s = look_at kind user name r s
look_told None user name r s = 0
