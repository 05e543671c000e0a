-- The vector of an image, bit by bit; and with one that agrees, a call of five buffers is the call of four. Assumes nothing.
use Prim.Native.Nat.{ℕ, ◌+◌, ◌*◌, ◌/◌, ◌%◌, ◌≤◌, ◌<◌}
use mathlib.Core.Path.{◌≡◌, refl, sym, ap, ◌∙◌}
use mathlib.Core.Bool.{Bool, true, false, not}
use mathlib.Core.List.{List, [], ◌∷◌}
use mathlib.Core.Logic.{⊎_elim}
use native.Mathlib.Omega.{arith}
use lib.ListN.{length, get_or}
use lib.Dec.{eqb, ltb}
use borrow.Author.Tests.{eq-eqb, ne_eqb, eqb-true, eqb-false, lt-ltb, lt-leb, le-leb, ltb-true, ltb-false, not-false}
use Rattle.words.specs.Tests.{◌and◌, ◌or◌, ◌if◌else◌, all, lowest, count}
use Rattle.words.specs.Bytes.{byte, same_byte, are_bytes}
use Rattle.words.specs.Bits.{bits, is_set, is_clear}
use Rattle.words.specs.Tables.{◌∕◌, ◌when◌, first_of, any_row, none_zero}
use Rattle.words.proofs.Tests.{either, equal?, or_snd, all_at, all_make, all_ext, lowest_ext}
use Rattle.words.proofs.Lists.{tab_at, tab_ext, tab_get_d, length-tab}
use Rattle.words.proofs.AreBytes.{bytes_tab}
use Rattle.words.proofs.Counts.{count_ext}
use Rattle.words.proofs.Tables.{none_applies, some_applies, nonzeros, row_off, row_rest}
use Rattle.words.proofs.Spelled.{bits_below, spelled_at, same_spelled}
use Rattle.rules.specs.declared.kind.Kind.{Kind}
use Rattle.rules.specs.Kinds.{most, vector_size}
use Rattle.rules.specs.Serves.{Buffers, Outcome, outcome}
use Rattle.rules.specs.Drive.{blocks, is_used, is_free, free_block, free_blocks, sound_image}
use Rattle.rules.specs.Locks.{sound_list}
use Rattle.rules.specs.Codes.{bad_numbers, bad_drive, rows_inside, rows_all}
use Rattle.rules.specs.Several.{call_run, call_singly}
use Rattle.rules.specs.Vector.{is_taken, taken_from, vector_byte, vector_of, same_vector_byte, agrees, built, rows_build, build_ends, build}
use Rattle.rules.specs.Vector.{rows_vector, Five, five, besides, call_five, singly_five}
use Rattle.rules.proofs.Sizes.{vector_bits}
use Rattle.rules.proofs.Several.{run_first, singly_first}

-- ---- the vector of an image

module _ (kind : Kind) (s : List ℕ) where
  -- it has its kind's length
  pub vector-long : length (vector_of kind s) ≡ vector_size kind
  unfolding vector_of
  vector-long = length-tab (vector_byte kind s) (vector_size kind)

  -- its bytes are bytes
  pub vector_bytes : are_bytes (vector_of kind s) ≡ true
  unfolding vector_of
  vector_bytes = bytes_tab (vector_byte kind s) (vector_size kind) (λ k l. small k)
    where
      small : (k : ℕ) → vector_byte kind s k < 256
      small k = unfold vector_byte in bits_below (taken_from kind s (8 * k)) 8

  -- bit b stands for block b
  pub vector_bit : (b : ℕ) → b < most kind → is_set (vector_of kind s) b ≡ is_taken kind s b
  unfolding vector_of
  vector_bit b h =
      let m = vector_bits kind in
      spelled_at (λ (k : ℕ). taken_from kind s (8 * k)) (vector_byte kind s) (vector_size kind) b (λ k. built_of k) (omega arith) ∙ from (omega arith)
    where
      built_of : (k : ℕ) → vector_byte kind s k ≡ bits (taken_from kind s (8 * k)) 8
      built_of k = unfold vector_byte in refl

      from : 8 * (b / 8) + b % 8 ≡ b → taken_from kind s (8 * (b / 8)) (b % 8) ≡ is_taken kind s b
      from q = unfold taken_from in ap (λ (x : ℕ). is_taken kind s x) q

  -- bytes of that length with those bits are it
  pub vector_is : (v : List ℕ) → length v ≡ vector_size kind → are_bytes v ≡ true
      → ((b : ℕ) → b < most kind → is_set v b ≡ is_taken kind s b) → v ≡ vector_of kind s
  vector_is v l t h =
      let m = vector_bits kind in
      same_spelled (vector_size kind) v (vector_of kind s) l vector-long t vector_bytes
      (λ b k. let k' : b < most kind = omega arith in h b k' ∙ sym (vector_bit b k'))

  -- a vector agrees exactly where each byte is that of the image's
  pub agrees_same : (v : List ℕ) → agrees kind v s ≡ all (same_byte v (vector_of kind s)) (vector_size kind)
  unfolding agrees
  agrees_same v = all_ext (same_vector_byte kind v s) (same_byte v (vector_of kind s)) (vector_size kind) (λ k l. each k l)
    where
      each : (k : ℕ) → k < vector_size kind → same_vector_byte kind v s k ≡ same_byte v (vector_of kind s) k
      each k l = unfold same_vector_byte same_byte vector_of in ap (λ (x : ℕ). eqb (byte v k) x) (sym (tab_at (vector_byte kind s) (vector_size kind) k 0 l))

  -- that of the image agrees, ..
  pub agrees_of : agrees kind (vector_of kind s) s ≡ true
  unfolding same_byte
  agrees_of =
      agrees_same (vector_of kind s)
      ∙ all_make (same_byte (vector_of kind s) (vector_of kind s)) (vector_size kind)
      (λ k l. eq-eqb (byte (vector_of kind s) k) (byte (vector_of kind s) k) refl)

  -- .. and no other of its length
  pub agrees_is : (v : List ℕ) → length v ≡ vector_size kind → agrees kind v s ≡ true → v ≡ vector_of kind s
  unfolding vector_of agrees same_vector_byte
  agrees_is v l h =
      sym (tab_get_d v 0 (vector_size kind) l)
      ∙ tab_ext (λ (k : ℕ). get_or v k 0) (vector_byte kind s) (vector_size kind)
      (λ k m. eqb-true _ _ (all_at (same_vector_byte kind v s) (vector_size kind) k h m))

  -- ---- its clear bits are the free blocks

  module _ (few : blocks kind s ≤ most kind) where
    -- a bit of a block there is
    pub clear_free : (b : ℕ) → b < blocks kind s → is_clear (vector_of kind s) b ≡ is_free kind s b
    unfolding is_clear is_free is_taken
    clear_free b h =
        ap not (vector_bit b (omega arith))
        ∙ ⊎_elim (λ (l : ltb b 2 ≡ true). let m = ltb-true b 2 l in rw (lt-ltb b (blocks kind s) h, l, lt-leb 2 b m) (both_low (is_used kind s b)))
        (λ (l : ltb b 2 ≡ false). let m = ltb-false b 2 l in rw (lt-ltb b (blocks kind s) h, l, le-leb 2 b m) (both_high (is_used kind s b)))
        (either (ltb b 2))
      where
        both_low : (t : Bool) → not (true and (true or t)) ≡ (false and not t)
        both_low t = unfold ◌and◌ ◌or◌ in refl

        both_high : (t : Bool) → not (true and (false or t)) ≡ (true and not t)
        both_high t = unfold ◌and◌ ◌or◌ in refl

    -- the lowest clear bit is the lowest free block
    pub lowest_free : (v : List ℕ) (n : ℕ) → v ≡ vector_of kind s → n ≡ blocks kind s → lowest (is_clear v) n ≡ free_block kind s
    unfolding free_block
    lowest_free v n h m = rw (h, m) (lowest_ext (is_clear (vector_of kind s)) (is_free kind s) (blocks kind s) clear_free)

    -- as many bits are clear as blocks are free
    pub count_free : (v : List ℕ) (n : ℕ) → v ≡ vector_of kind s → n ≡ blocks kind s → count (is_clear v) n ≡ free_blocks kind s
    unfolding free_blocks
    count_free v n h m = rw (h, m) (count_ext (is_clear (vector_of kind s)) (is_free kind s) (blocks kind s) clear_free)

-- ---- what stands beside an outcome

module _ (kind : Kind) (code : ℕ) (v : List ℕ) (b : Buffers) (o : Outcome) where
  -- a row of the vector's table applies: its code, and all five buffers as they were
  pub besides_refused : (code ≡ 0 → ⊥) → besides kind code v b o ≡ five (outcome code b) v
  unfolding besides ◌if◌else◌
  besides_refused z = rw (ne_eqb code 0 z) refl

  -- none does: the vector of the image left
  pub besides_passed : code ≡ 0 → besides kind code v b o ≡ five o (vector_of kind o.left.image)
  unfolding besides ◌if◌else◌
  besides_passed z = rw (eq-eqb code 0 z) refl

  -- a vector that agrees, where the call of four buffers refuses what that table refuses
  besides_is : v ≡ vector_of kind b.image → ((code ≡ 0 → ⊥) → o ≡ outcome code b) → besides kind code v b o ≡ five o (vector_of kind o.left.image)
  besides_is h e =
      ⊎_elim besides_passed
      (λ (z : code ≡ 0 → ⊥).
      besides_refused z ∙ ap (λ (w : List ℕ). five (outcome code b) w) h ∙ ap (λ (x : Outcome). five x (vector_of kind x.left.image)) (sym (e z)))
      (equal? code 0)

-- ---- with a vector that agrees, a call of five buffers is the call of four

same_row : (t u w d : Bool)
    → (first_of (255 ∕ 13 when (t or false) ∷ 255 ∕ 1 when u ∷ 255 ∕ 12 when w ∷ 255 ∕ 14 when false ∷ []) ≡ 0 → ⊥)
    → first_of (255 ∕ 13 when (t or false) ∷ 255 ∕ 1 when u ∷ 255 ∕ 12 when w ∷ 255 ∕ 14 when false ∷ [])
    ≡ first_of (255 ∕ 13 when t ∷ 255 ∕ 1 when u ∷ 255 ∕ 12 when w ∷ 255 ∕ 4 when d ∷ [])
unfolding first_of ◌or◌ ◌if◌else◌
same_row true u w d z = refl
same_row false true w d z = refl
same_row false false true d z = refl
same_row false false false d z = absurd (z refl)

module _ (kind : Kind) (n p c : ℕ) (v : List ℕ) (b : Buffers) where
  module _ (h : v ≡ vector_of kind b.image) where
    long : not (eqb (length v) (vector_size kind)) ≡ false
    long = ap not (eq-eqb _ _ (ap length h ∙ vector-long kind b.image))

    fine : not (agrees kind v b.image) ≡ false
    fine = ap not (ap (λ (w : List ℕ). agrees kind w b.image) h ∙ agrees_of kind b.image)

    code_same : (first_of (rows_vector kind n p c v b) ≡ 0 → ⊥) → first_of (rows_vector kind n p c v b) ≡ first_of (rows_all kind n p c b)
    unfolding rows_vector rows_all rows_inside
    code_same z =
        rw (long, fine)
        (same_row (bad_numbers n p c b.fcb b.dma b.list) (not (sound_image kind b.image)) (not (sound_list kind b.list b.image))
        (bad_drive n b.fcb) (rw (long, fine) at z))

    -- a call that the four buffers' table refuses with its first row
    pub besides_whole : (o : Outcome) → ((first_of (rows_all kind n p c b) ≡ 0 → ⊥) → o ≡ outcome (first_of (rows_all kind n p c b)) b)
        → besides kind (first_of (rows_vector kind n p c v b)) v b o ≡ five o (vector_of kind o.left.image)
    besides_whole o so =
        besides_is kind _ v b o h (λ z. let e = code_same z in so (λ q. z (e ∙ q)) ∙ ap (λ (a : ℕ). outcome a b) (sym e))

    -- its outcome, and the vector of the image that it leaves
    pub five_whole : call_five kind n p c v b ≡ five (call_run kind n p c b) (vector_of kind (call_run kind n p c b).left.image)
    unfolding call_five
    five_whole = besides_whole _ (run_first kind n p c b)

    -- the same of a run made by the plain engine
    pub singly_whole : singly_five kind n p c v b ≡ five (call_singly kind n p c b) (vector_of kind (call_singly kind n p c b).left.image)
    unfolding singly_five
    singly_whole = besides_whole _ (singly_first kind n p c b)

    -- the outcome alone is that of the call of four buffers, ..
    pub five_is_four : (call_five kind n p c v b).did ≡ call_run kind n p c b
    five_is_four = ap (λ (x : Five). x.did) five_whole

    -- .. the plain engine's too; ..
    pub singly_is_four : (singly_five kind n p c v b).did ≡ call_singly kind n p c b
    singly_is_four = ap (λ (x : Five). x.did) singly_whole

    -- .. the vector alone is that of the image that it leaves, ..
    pub five_vector : (call_five kind n p c v b).vector ≡ vector_of kind (call_run kind n p c b).left.image
    five_vector = ap (λ (x : Five). x.vector) five_whole

    -- .. the plain engine's too
    pub singly_vector : (singly_five kind n p c v b).vector ≡ vector_of kind (call_singly kind n p c b).left.image
    singly_vector = ap (λ (x : Five). x.vector) singly_whole

  -- ---- its own table

  -- no row has the answer 0/0
  pub nonzero_vector : none_zero (rows_vector kind n p c v b) ≡ true
  unfolding rows_vector
  nonzero_vector = search nonzeros depth 20 fits 20000

  first_some : any_row (rows_vector kind n p c v b) ≡ true → first_of (rows_vector kind n p c v b) ≡ 0 → ⊥
  first_some h = eqb-false _ _ (some_applies (rows_vector kind n p c v b) nonzero_vector h)

  -- a row applies: the code of the first that does, and all five buffers as they were, ..
  pub five_refused : any_row (rows_vector kind n p c v b) ≡ true → call_five kind n p c v b ≡ five (outcome (first_of (rows_vector kind n p c v b)) b) v
  unfolding call_five
  five_refused h = besides_refused kind _ v b _ (first_some h)

  -- .. the plain engine's too
  pub singly_five_refused : any_row (rows_vector kind n p c v b) ≡ true
      → singly_five kind n p c v b ≡ five (outcome (first_of (rows_vector kind n p c v b)) b) v
  unfolding singly_five
  singly_five_refused h = besides_refused kind _ v b _ (first_some h)

  -- none does: the vector is that of the image
  pub five_passed : first_of (rows_vector kind n p c v b) ≡ 0 → v ≡ vector_of kind b.image
  unfolding rows_vector
  five_passed z =
      let r₁ = row_rest _ _ _ (λ (q : 255 ∕ 13 ≡ 0). omega arith) z in
      let r₂ = row_rest _ _ _ (λ (q : 255 ∕ 1 ≡ 0). omega arith) r₁ in
      let r₃ = row_rest _ _ _ (λ (q : 255 ∕ 12 ≡ 0). omega arith) r₂ in
      agrees_is kind b.image v
      (eqb-true _ _ (not-false _ (or_snd _ _ (row_off _ _ _ (λ (q : 255 ∕ 13 ≡ 0). omega arith) z))))
      (not-false _ (row_off _ _ _ (λ (q : 255 ∕ 14 ≡ 0). omega arith) r₃))

-- ---- the routine that builds it

module _ (kind : Kind) (s v : List ℕ) where
  -- a row applies: its code, and the vector as it was
  pub build_refused : any_row (rows_build kind s v) ≡ true → build kind s v ≡ built (first_of (rows_build kind s v)) v
  unfolding build build_ends ◌if◌else◌
  build_refused h = rw (some_applies (rows_build kind s v) real h) refl
    where
      real : none_zero (rows_build kind s v) ≡ true
      real = unfold rows_build in search nonzeros depth 20 fits 20000

  -- none does: the vector of the image
  pub build_accepted : any_row (rows_build kind s v) ≡ false → build kind s v ≡ built (0 ∕ 0) (vector_of kind s)
  unfolding build build_ends ◌if◌else◌
  build_accepted h = rw (eq-eqb (first_of (rows_build kind s v)) 0 (none_applies (rows_build kind s v) h)) refl
