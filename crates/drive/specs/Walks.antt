-- What a walk over the directory answers, what its hints then know and its marks say. Assumes nothing.
use Rattle.std.specs.Prelude.{ℕ, ◌+◌, ◌≡◌, Bool, true, List, Result}
use Rattle.words.specs.Hints.{Hints}
use Rattle.rules.specs.declared.answer.ImageFault.{ImageFault}
use Rattle.rules.specs.declared.kind.Kind.{Kind}
use Rattle.rules.specs.Kinds.{entries}
use Rattle.rules.specs.Drive.{is_repeat, is_sound, sound_image}
use Rattle.rules.specs.Vector.{vector_of}
use Rattle.index.specs.Slots.{slot_at, in_use}
use Rattle.drive.specs.Marks.{Marks}

-- asked whether entry e is a repeat: the hints know it too
pub record Repeats (s : List ℕ) (e : ℕ) (r : Bool) (hints : List ℕ) : Type 0 where
  pub answer : r ≡ is_repeat s e
  pub knows : Hints (slot_at s) (in_use s) (e + 1) hints

-- asked for a test of the first n entries: where it holds, the hints know them
pub record Walked (test : Bool) (s : List ℕ) (n : ℕ) (r : Bool) (hints : List ℕ) : Type 0 where
  pub answer : r ≡ test
  pub knows : r ≡ true → Hints (slot_at s) (in_use s) n hints

-- asked for an answer of the image check: where it is sound, the hints know the first n entries
pub record Answered (told : Result (Unit {0}) ImageFault) (s : List ℕ) (n : ℕ) (r : Result (Unit {0}) ImageFault) (hints : List ℕ) : Type 0 where
  pub answer : r ≡ told
  pub knows : is_sound r ≡ true → Hints (slot_at s) (in_use s) n hints

-- .. and each block that any of them names has its mark
pub record Surveyed (told : Result (Unit {0}) ImageFault) (kind : Kind) (s : List ℕ) (r : Result (Unit {0}) ImageFault) (seen hints : List ℕ) : Type 0 where
  pub walk : Answered told s (entries kind) r hints
  pub marks : is_sound r ≡ true → Marks kind 1 s (entries kind) 0 seen

-- the same, asked whether the image is sound
pub record Marking (kind : Kind) (s : List ℕ) (r : Bool) (seen hints : List ℕ) : Type 0 where
  pub walk : Walked (sound_image kind s) s (entries kind) r hints
  pub marks : r ≡ true → Marks kind 1 s (entries kind) 0 seen

-- asked whether the image is sound: where it is, the hints know its entries, and its vector is left
pub record Vectored (kind : Kind) (s : List ℕ) (r : Bool) (seen hints : List ℕ) : Type 0 where
  pub answer : r ≡ sound_image kind s
  pub knows : r ≡ true → Hints (slot_at s) (in_use s) (entries kind) hints
  pub vector : r ≡ true → seen ≡ vector_of kind s
