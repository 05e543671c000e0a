-- Document 01's numbers tell an enum's cases apart. Assumes nothing.
use Prim.Native.Nat.{ℕ, ◌+◌, ◌*◌, ◌/◌, ◌%◌, ◌≤◌, ◌<◌}
use mathlib.Core.Path.{◌≡◌, refl, sym, ap, ◌∙◌}
use mathlib.Core.List.{List}
use native.Mathlib.Omega.{arith}
use lib.Dec.{eqb}
use Rattle.words.specs.Tests.{◌if◌else◌}
use Rattle.words.specs.Bytes.{byte}
use Rattle.rules.specs.declared.kind.Rule.{Rule}
use Rattle.rules.specs.declared.kind.Rule.TheVariants.{Mpm, Cpm}
use Rattle.rules.specs.declared.answer.ImageFault.{ImageFault}
use Rattle.rules.specs.declared.answer.ImageFault.TheVariants.{WrongLength, BadUser, BadName, BadNumbers, BlockOutside, BlockBefore}
use Rattle.rules.specs.declared.answer.ImageFault.TheVariants.{ExtentBefore, NoFirst}
use Rattle.rules.specs.declared.routine.Routine.{Routine}
use Rattle.rules.specs.declared.routine.Routine.TheVariants.{Open, Close, SearchFirst, SearchNext, Delete, Make, Rename, Read, Write, Size, WriteZeros}
use Rattle.rules.specs.declared.routine.Routine.TheVariants.{TestWrite, Lock, Unlock, FreeSpace, Terminate}
use Rattle.std.specs.Prelude.{Some, Result, Ok, Err}
use Rattle.rules.specs.Serves.{function_of, chosen}
use Rattle.rules.specs.Drive.{bad_for, fault_number, fault_entry, image_number, image_entry, image_told}
use Rattle.rules.specs.Asks.{record_of}
use Rattle.rules.specs.Kinds.{highest}

-- the answer that a number and an entry of the image check say
answered : ℕ → ℕ → Result (Unit {0}) ImageFault
answered n e =
    Ok tt if eqb n 0 else
    Err WrongLength if eqb n 1 else
    Err (NoFirst e) if eqb n 8 else
    Err (bad_for n e)

answered_back : (a : Result (Unit {0}) ImageFault) → answered (image_number a) (image_entry a) ≡ a
unfolding answered image_number image_entry fault_number fault_entry bad_for ◌if◌else◌
answered_back (Ok x) = refl
answered_back (Err WrongLength) = refl
answered_back (Err (BadUser e)) = refl
answered_back (Err (BadName e)) = refl
answered_back (Err (BadNumbers e)) = refl
answered_back (Err (BlockOutside e)) = refl
answered_back (Err (BlockBefore e)) = refl
answered_back (Err (ExtentBefore e)) = refl
answered_back (Err (NoFirst e)) = refl

pub image-told : (a b : Result (Unit {0}) ImageFault) → image_number a ≡ image_number b → image_entry a ≡ image_entry b → a ≡ b
image-told a b h g =
    sym (answered_back a) ∙ ap (λ (n : ℕ). answered n (image_entry a)) h ∙ ap (answered (image_number b)) g ∙ answered_back b

fault_end : (f : ImageFault) → fault_number f ≤ 8
unfolding fault_number
fault_end WrongLength = omega arith
fault_end (BadUser e) = omega arith
fault_end (BadName e) = omega arith
fault_end (BadNumbers e) = omega arith
fault_end (BlockOutside e) = omega arith
fault_end (BlockBefore e) = omega arith
fault_end (ExtentBefore e) = omega arith
fault_end (NoFirst e) = omega arith

pub number_end : (a : Result (Unit {0}) ImageFault) → image_number a ≤ 8
unfolding image_number
number_end (Ok x) = omega arith
number_end (Err f) = fault_end f

-- .. and so does the one number that a C host gets: both are read off it
module _ (a : Result (Unit {0}) ImageFault) where
  pub number_read : image_told a % 256 ≡ image_number a
  unfolding image_told
  number_read = let l = number_end a in omega arith

  pub entry_read : image_told a / 256 ≡ image_entry a
  unfolding image_told
  entry_read = let l = number_end a in omega arith

pub told_both : (a : Result (Unit {0}) ImageFault) (n e : ℕ) → n ≡ image_number a → e ≡ image_entry a → n + 256 * e ≡ image_told a
unfolding image_told
told_both a n e h g = rw (h, g)

pub one_told : (a b : Result (Unit {0}) ImageFault) → image_told a ≡ image_told b → a ≡ b
one_told a b h =
    image-told a b (sym (number_read a) ∙ ap (λ (n : ℕ). n % 256) h ∙ number_read b)
    (sym (entry_read a) ∙ ap (λ (n : ℕ). n / 256) h ∙ entry_read b)

-- a call is chosen by its function number, and by no other
pub chosen_back : (k : Routine) → chosen (function_of k) ≡ Some k
unfolding chosen function_of ◌if◌else◌
chosen_back Open = refl
chosen_back Close = refl
chosen_back SearchFirst = refl
chosen_back SearchNext = refl
chosen_back Delete = refl
chosen_back Make = refl
chosen_back Rename = refl
chosen_back Read = refl
chosen_back Write = refl
chosen_back Size = refl
chosen_back WriteZeros = refl
chosen_back TestWrite = refl
chosen_back Lock = refl
chosen_back Unlock = refl
chosen_back FreeSpace = refl
chosen_back Terminate = refl

pub function_told : (j k : Routine) → function_of j ≡ function_of k → j ≡ k
function_told j k h = let e : Some j ≡ Some k = sym (chosen_back j) ∙ ap chosen h ∙ chosen_back k in cc

-- 6/0: of bytes, the record number is past the rule's highest where byte 35 is above that one's: above 3, or above 0
module _ (fcb : List ℕ) (low : byte fcb 33 < 256) (mid : byte fcb 34 < 256) where
  pub past_byte : (u : Rule) → highest u < record_of fcb → highest u / 65536 < byte fcb 35
  unfolding record_of highest
  past_byte Mpm h = omega arith
  past_byte Cpm h = omega arith

  pub byte_past : (u : Rule) → highest u / 65536 < byte fcb 35 → highest u < record_of fcb
  unfolding record_of highest
  byte_past Mpm h = omega arith
  byte_past Cpm h = omega arith
