-- A book of one size of drive is never read as of the other. Assumes nothing.
use Rattle.std.specs.Prelude.{Err}
use Prim.Native.Nat.{ℕ}
use mathlib.Core.Path.{◌≡◌, refl, sym, ap, ◌∙◌}
use mathlib.Core.Bool.{true, false, not}
use mathlib.Core.List.{List}
use mathlib.Core.Logic.{◌⊎◌, inl, inr, ⊎_elim}
use native.Mathlib.Omega.{arith}
use lib.ListN.{length}
use lib.Dec.{eqb}
use Rattle.words.specs.Tests.{◌and◌, ◌or◌, ◌if◌else◌}
use Rattle.words.specs.Tables.{◌∕◌, first_of}
use Rattle.words.proofs.Tests.{either}
use Rattle.words.proofs.Sets.{row_yes, row_no}
use Rattle.rules.specs.declared.kind.Kind.{Kind}
use Rattle.rules.specs.declared.answer.ImageFault.TheVariants.{WrongLength}
use Rattle.rules.specs.Serves.{Buffers, outcome}
use Rattle.rules.specs.Drive.{good_length, sound_image, image_check}
use Rattle.rules.specs.Look.{may_look, look_block, part_at, look_at}
use Rattle.rules.specs.Codes.{bad_numbers, rows_inside, rows_all}
use Rattle.rules.specs.Kinds.{is_large, vector_size}
use Rattle.rules.specs.Several.{call_run}
use Rattle.rules.specs.Vector.{five, besides, rows_vector, call_five}
use Rattle.rules.proofs.Sizes.{one_length}
use Rattle.rules.proofs.Sound.{sound_length}
use Rattle.rules.proofs.Several.{run_first}
use Rattle.rules.proofs.Vector.{besides_refused}

-- a call that the general table refuses, of one record or of several
module _ (kind : Kind) (n p c : ℕ) (b : Buffers) where
  pub barred : (code : ℕ) → (code ≡ 0 → ⊥) → first_of (rows_all kind n p c b) ≡ code → call_run kind n p c b ≡ outcome code b
  barred code some h = run_first kind n p c b (λ q. some (sym h ∙ q)) ∙ ap (λ (a : ℕ). outcome a b) h

  pub bad-numbers : bad_numbers n p c b.fcb b.dma b.list ≡ true → call_run kind n p c b ≡ outcome (255 ∕ 13) b
  unfolding rows_all
  bad-numbers h = barred (255 ∕ 13) (λ q. omega arith) (sym (row_yes _ _ _ _ h refl))

-- no image is sound for both sizes of drive
pub one_size : (a b : Kind) (s : List ℕ) → sound_image a s ≡ true → sound_image b s ≡ true → is_large a ≡ is_large b
one_size a b s h g = one_length a b s (sound_length a s h) (sound_length b s g)

-- told a kind of the other size, with either rule, ..
module _ (own kind : Kind) (other : is_large own ≡ is_large kind → ⊥) (s : List ℕ) (sound : sound_image own s ≡ true) where
  other_length : good_length kind s ≡ false
  other_length =
      ⊎_elim (λ (h : good_length kind s ≡ true). absurd (other (one_length own kind s (sound_length own s sound) h)))
      (λ (h : good_length kind s ≡ false). h) (either (good_length kind s))

  other_sound : sound_image kind s ≡ false
  unfolding sound_image ◌and◌
  other_sound = rw other_length

  -- .. the image check answers 1, ..
  pub other_check : image_check kind s ≡ (Err WrongLength)
  unfolding image_check ◌if◌else◌
  other_check = rw other_length

  -- .. Look shows an empty part, ..
  pub other_look : (user : ℕ) (name : List ℕ) (r : ℕ) → look_at kind user name r s ≡ 0
  unfolding look_at look_block may_look part_at ◌and◌ ◌if◌else◌
  other_look user name r = rw other_sound

  -- .. and a call is refused, with 255/13 or 255/1, and changes nothing
  module _ (n p c : ℕ) (b : Buffers) (is : b.image ≡ s) where
    image_bad : not (sound_image kind b.image) ≡ true
    image_bad = ap (λ (t : List ℕ). not (sound_image kind t)) is ∙ ap not other_sound

    rows_told : (first_of (rows_all kind n p c b) ≡ 255 ∕ 13) ⊎ (first_of (rows_all kind n p c b) ≡ 255 ∕ 1)
    unfolding rows_inside rows_all
    rows_told =
        ⊎_elim (λ (h : bad_numbers n p c b.fcb b.dma b.list ≡ true). inl (sym (row_yes _ _ _ _ h refl)))
        (λ (h : bad_numbers n p c b.fcb b.dma b.list ≡ false). inr (sym (row_no _ _ _ _ h (row_yes _ _ _ _ image_bad refl))))
        (either (bad_numbers n p c b.fcb b.dma b.list))

    pub other_call : (call_run kind n p c b ≡ outcome (255 ∕ 13) b) ⊎ (call_run kind n p c b ≡ outcome (255 ∕ 1) b)
    other_call = ⊎_elim (λ h. inl (barred kind n p c b (255 ∕ 13) (λ q. omega arith) h))
        (λ h. inr (barred kind n p c b (255 ∕ 1) (λ q. omega arith) h)) rows_told

    first_five : (code : ℕ) (v : List ℕ) → (code ≡ 0 → ⊥) → first_of (rows_vector kind n p c v b) ≡ code → call_five kind n p c v b ≡ five (outcome code b) v
    unfolding call_five
    first_five code v z h = ap (λ (a : ℕ). besides kind a v b (call_run kind n p c b)) h ∙ besides_refused kind code v b (call_run kind n p c b) z

    -- .. with the vector too, and all five buffers are as they were
    pub other_five : (v : List ℕ) → (call_five kind n p c v b ≡ five (outcome (255 ∕ 13) b) v) ⊎ (call_five kind n p c v b ≡ five (outcome (255 ∕ 1) b) v)
    unfolding rows_vector
    other_five v =
        let t = bad_numbers n p c b.fcb b.dma b.list or not (eqb (length v) (vector_size kind)) in
        ⊎_elim (λ (h : t ≡ true). inl (first_five (255 ∕ 13) v (λ q. omega arith) (sym (row_yes _ _ _ _ h refl))))
        (λ (h : t ≡ false). inr (first_five (255 ∕ 1) v (λ q. omega arith) (sym (row_no _ _ _ _ h (row_yes _ _ _ _ image_bad refl))))) (either t)
