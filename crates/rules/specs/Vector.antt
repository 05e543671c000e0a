-- "An allocation vector beside the image" (T-04): the call of five buffers, beside that of four, which stays as it is. Assumes nothing.
use Rattle.std.specs.Prelude.{ℕ, ◌+◌, ◌*◌, ◌≡◌, Bool, not, List, [], ◌∷◌, length, ltb, eqb}
use Rattle.words.specs.Tests.{◌and◌, ◌or◌, ◌if◌else◌, all}
use Rattle.words.specs.Lists.{tab}
use Rattle.words.specs.Bytes.{byte}
use Rattle.words.specs.Bits.{bits}
use Rattle.words.specs.Tables.{Row, ◌∕◌, ◌when◌, first_of}
use Rattle.rules.specs.declared.kind.Kind.{Kind}
use Rattle.rules.specs.Kinds.{vector_size}
use Rattle.rules.specs.Serves.{Buffers, Outcome, Did, outcome}
use Rattle.rules.specs.Drive.{blocks, is_used, sound_image}
use Rattle.rules.specs.Locks.{sound_list}
use Rattle.rules.specs.Codes.{bad_numbers}
use Rattle.rules.specs.Several.{call_run, call_singly}

-- ---- The vector of an image

-- a bit set where a block is used or belongs to the directory, bits from n on clear
unfoldable pub is_taken : Kind → List ℕ → ℕ → Bool
is_taken kind s b = ltb b (blocks kind s) and (ltb b 2 or is_used kind s b)

unfoldable pub taken_from : Kind → List ℕ → ℕ → ℕ → Bool
taken_from kind s b j = is_taken kind s (b + j)

-- the high bit of byte 0 standing for block 0
unfoldable pub vector_byte : Kind → List ℕ → ℕ → ℕ
vector_byte kind s k = bits (taken_from kind s (8 * k)) 8

-- 32 bytes beside each image, or 512
unfoldable pub vector_of : Kind → List ℕ → List ℕ
vector_of kind s = tab (vector_byte kind s) (vector_size kind)

-- ---- A routine builds it from an image.

-- what it answers, and the vector that it leaves
pub record Built : Type 0 where
  pub answer : ℕ
  pub vector : List ℕ

abbrev pub built : ℕ → List ℕ → Built
built a v = record { answer = a; vector = v }

-- 255/13 for the vector's length, then 255/1, the vector unchanged
unfoldable pub rows_build : Kind → List ℕ → List ℕ → List Row
rows_build kind s v = 255 ∕ 13 when not (eqb (length v) (vector_size kind)) ∷ 255 ∕ 1 when not (sound_image kind s) ∷ []

unfoldable pub build_ends : ℕ → List ℕ → List ℕ → Built
build_ends code fresh v = built (0 ∕ 0) fresh if eqb code 0 else built code v

unfoldable pub build : Kind → List ℕ → List ℕ → Built
build kind s v = build_ends (first_of (rows_build kind s v)) (vector_of kind s) v

-- ---- All calls take it as a fifth lent buffer.

-- where it disagrees: in any bit
unfoldable pub same_vector_byte : Kind → List ℕ → List ℕ → ℕ → Bool
same_vector_byte kind v s k = eqb (byte v k) (vector_byte kind s k)

unfoldable pub agrees : Kind → List ℕ → List ℕ → Bool
agrees kind v s = all (same_vector_byte kind v s) (vector_size kind)

-- 255/13 also for its length; 255/14, after 255/12, where it disagrees. The rows after these are those of the call of four buffers.
unfoldable pub rows_vector : Kind → ℕ → ℕ → ℕ → List ℕ → Buffers → List Row
rows_vector kind n p c v b =
    255 ∕ 13 when (bad_numbers n p c b.fcb b.dma b.list or not (eqb (length v) (vector_size kind)))
    ∷ 255 ∕ 1 when not (sound_image kind b.image)
    ∷ 255 ∕ 12 when not (sound_list kind b.list b.image)
    ∷ 255 ∕ 14 when not (agrees kind v b.image)
    ∷ []

-- the outcome of a call, and the vector that it leaves
pub record Five : Type 0 where
  pub did : Outcome
  pub vector : List ℕ

abbrev pub five : Outcome → List ℕ → Five
five o v = record { did = o; vector = v }

-- Every accepted call leaves it agreeing with the directory; it is unchanged on refusal: the vector left is that of the image left (a call
-- that its own rows refuse leaves the image), or the one lent where these rows refuse.
unfoldable pub besides : Kind → ℕ → List ℕ → Buffers → Outcome → Five
besides kind code v b o = five o (vector_of kind o.left.image) if eqb code 0 else five (outcome code b) v

unfoldable pub call_five : Kind → ℕ → ℕ → ℕ → List ℕ → Buffers → Five
call_five kind n p c v b = besides kind (first_of (rows_vector kind n p c v b)) v b (call_run kind n p c b)

-- what a routine answered and left is that
pub record DidFive (o : Five) (answer : ℕ) (left : Buffers) (vector : List ℕ) : Type 0 where
  pub outcome_so : Did o.did answer left
  pub vector_so : vector ≡ o.vector

-- the same made by the plain engine
unfoldable pub singly_five : Kind → ℕ → ℕ → ℕ → List ℕ → Buffers → Five
singly_five kind n p c v b = besides kind (first_of (rows_vector kind n p c v b)) v b (call_singly kind n p c b)
