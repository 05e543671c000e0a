-- The blocks that a walk over the directory has seen, a bit for each. Assumes nothing.
use Rattle.std.specs.Prelude.{ℕ, ◌+◌, ◌*◌, ◌≤◌, ◌<◌, ◌≡◌, Bool, true, false, not, List, [], ◌∷◌, length, eqb, Result, Ok, Err}
use Rattle.words.specs.Tests.{◌if◌else◌, all}
use Rattle.words.specs.Bytes.{are_bytes}
use Rattle.words.specs.Bits.{is_set}
use Rattle.words.specs.Hints.{Hints}
use Rattle.words.specs.Tables.{Row, ◌when◌}
use Rattle.rules.specs.declared.kind.Rule.{Rule}
use Rattle.rules.specs.declared.kind.Kind.{Kind}
use Rattle.rules.specs.declared.kind.Kind.TheVariants.{Small, Large}
use Rattle.rules.specs.declared.answer.ImageFault.{ImageFault}
use Rattle.rules.specs.Kinds.{most, numbers}
use Rattle.rules.specs.Drive.{name_at, legal_name, good_user, good_numbers, named_before, is_first, reason, bad_for, is_sound}
use Rattle.index.specs.Slots.{slot_at, in_use}

-- the kind of that rule: the second, or the first
abbrev pub kind_with : Bool → Rule → Kind
kind_with true u = Large u
kind_with false u = Small u

-- a bit for each block that the kind of drive may have: block x, of those from `low` on, is marked where an entry before e names
-- it, or entry e before place k
pub record Marks (kind : Kind) (low : ℕ) (s : List ℕ) (e k : ℕ) (seen : List ℕ) : Type 0 where
  pub long : 8 * length seen ≡ most kind
  pub bytes : are_bytes seen ≡ true
  pub mark : (x : ℕ) → low ≤ x → x < most kind → is_set seen x ≡ named_before kind s x e k

-- what marking the numbers of entry e answers and leaves: a second mark is refused
pub record Marked (kind : Kind) (s : List ℕ) (e : ℕ) (r : Bool) (seen : List ℕ) : Type 0 where
  pub first : r ≡ all (is_first kind s e) (numbers kind)
  pub marks : r ≡ true → Marks kind 1 s e (numbers kind) seen

-- the first three of the reasons, which no other entry bears on
unfoldable pub field_reasons : Kind → List ℕ → ℕ → List Row
field_reasons kind s e =
    2 when not (good_user s e)
    ∷ 3 when not (legal_name s (name_at e))
    ∷ 4 when not (good_numbers kind s e)
    ∷ []

-- what is told of entry e for a reason, 0 being none
unfoldable pub told_for : ℕ → ℕ → Result (Unit {0}) ImageFault
told_for why e = Ok tt if eqb why 0 else Err (bad_for why e)

-- what judging entry e answers and leaves
pub record Judged (kind : Kind) (s : List ℕ) (e : ℕ) (r : Result (Unit {0}) ImageFault) (seen hints : List ℕ) : Type 0 where
  pub told : r ≡ told_for (reason kind s e) e
  pub marks : is_sound r ≡ true → Marks kind 1 s (e + 1) 0 seen
  pub knows : is_sound r ≡ true → Hints (slot_at s) (in_use s) (e + 1) hints
