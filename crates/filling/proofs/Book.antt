-- The book is sound, each of its files is there, and the first has 64 records. Assumes nothing.
use Prim.Native.Nat.{ℕ, ◌+◌, ◌/◌, ◌%◌, ◌<◌}
use mathlib.Core.Path.{◌≡◌, refl, ap, ◌∙◌}
use mathlib.Core.Bool.{Bool, true, not}
use mathlib.Core.List.{List, [], ◌∷◌, ◌++◌}
use native.Mathlib.Omega.{arith}
use lib.ListN.{length, get_or, replicate, get_or-replicate}
use lib.Dec.{eqb, ltb}
use borrow.Author.Tests.{eqb-false, ltb-true, lt-ltb, not-true}
use Rattle.words.specs.Tests.{◌and◌, all}
use Rattle.words.specs.Lists.{tab}
use Rattle.words.specs.Bytes.{are_bytes}
use Rattle.words.proofs.Tests.{all_at}
use Rattle.words.proofs.Sets.{and_both}
use Rattle.words.proofs.AreBytes.{bytes_cons, bytes_replicate}
use Rattle.rules.specs.declared.kind.Kind.TheVariants.{Small}
use Rattle.rules.specs.declared.kind.Rule.TheVariants.{Mpm}
use Rattle.rules.specs.declared.list.LockList.{LockList}
use Rattle.rules.specs.Drive.{file_from, legal_name, entry_of, block_of, sound_image}
use Rattle.rules.specs.Locks.{same_name}
use Rattle.rules.specs.Asks.{caller_file, record_of, open_mode}
use Rattle.rules.proofs.Items.{name-at}
use Rattle.session.specs.Open.{rules}
use Rattle.filling.specs.Book.{name_of, entry_for, first_entry, later_entry, book, fcb_for, dma_for, file_no}

-- the book is a sound image of the first kind
pub book_sound : sound_image (Small Mpm) book ≡ true
unfolding rules name_of entry_for first_entry later_entry book
book_sound = refl

-- ---- each file is there

is_there : ℕ → Bool
is_there j = ltb (entry_of (Small Mpm) book (file_no j) 0) 64

all_there : all is_there 64 ≡ true
unfolding rules name_of entry_for first_entry later_entry book file_no is_there
all_there = refl

-- each of the 64 files has its extent 0
pub there : (j : ℕ) → j < 64 → entry_of (Small Mpm) book (file_no j) 0 < 64
unfolding is_there
there j m = ltb-true _ _ (all_at is_there 64 j all_there m)

-- ---- the first has a block for each record below 64

has_block : ℕ → Bool
has_block r = not (eqb (block_of (Small Mpm) book (file_no 0) r) 0)

all_blocks : all has_block 64 ≡ true
unfolding rules name_of entry_for first_entry later_entry book file_no has_block
all_blocks = refl

-- a record below 64 of the first file has a block
pub blocked : (r : ℕ) → r < 64 → block_of (Small Mpm) book (file_no 0) r ≡ 0 → ⊥
unfolding has_block
blocked r m = eqb-false _ _ (not-true _ (all_at has_block 64 r all_blocks m))

-- ---- names

is_legal : ℕ → Bool
is_legal j = legal_name (fcb_for j 0) 1

all_legal : all is_legal 64 ≡ true
unfolding rules fcb_for is_legal
all_legal = refl

-- .. whatever the record number
legal_same : (j r : ℕ) → legal_name (fcb_for j r) 1 ≡ legal_name (fcb_for j 0) 1
unfolding rules fcb_for
legal_same j r = refl

-- each name is legal, as an FCB has it
pub legal : (j r : ℕ) → j < 64 → legal_name (fcb_for j r) 1 ≡ true
legal j r m = legal_same j r ∙ legal_zero j m
  where
    legal_zero : (j : ℕ) → j < 64 → legal_name (fcb_for j 0) 1 ≡ true
    legal_zero j m = unfold is_legal in all_at is_legal 64 j all_legal m

-- a name tells its file
pub name_tells : (i j : ℕ) → i < 64 → j < 64 → same_name (name_of i) (name_of j) ≡ true → i ≡ j
unfolding name_of
name_tells i j m n h =
    let a : 65 + i / 8 ≡ 65 + j / 8 = name-at (name_of i) (name_of j) h 0 (omega arith) in
    let b : 65 + i % 8 ≡ 65 + j % 8 = name-at (name_of i) (name_of j) h 1 (omega arith) in
    omega arith

-- ---- FCBs

-- the FCB for file j names file j, ..
pub fcb_file : (j r : ℕ) → j < 64 → file_from 0 (fcb_for j r) 1 ≡ file_no j
unfolding file_from fcb_for file_no name_of tab
fcb_file j r m =
    let a : (65 + j / 8) % 128 ≡ 65 + j / 8 = omega arith in
    let b : (65 + j % 8) % 128 ≡ 65 + j % 8 = omega arith in
    λ i. record { user = 0; name = a i ∷ b i ∷ replicate 9 32 }

-- .. of a caller with user 0 too; ..
pub caller-file : (q : ℕ) (l : LockList) (j r : ℕ) → q < 16 → l.users ≡ replicate 16 0 → j < 64 → caller_file q l (fcb_for j r) ≡ file_no j
unfolding caller_file
caller-file q l j r m e n =
    ap (λ (us : List ℕ). file_from (get_or us q 0) (fcb_for j r) 1) e ∙ ap (λ (u : ℕ). file_from u (fcb_for j r) 1) (get_or-replicate 16 q 0 0 m) ∙ fcb_file j r n

-- .. it has 36 bytes, ..
pub fcb_long : (j r : ℕ) → length (fcb_for j r) ≡ 36
unfolding fcb_for
fcb_long j r = refl

-- .. the DMA 2,048; ..
pub dma_long : (id : ℕ) → length (dma_for id) ≡ 2048
unfolding dma_for
dma_long id = refl

-- .. it asks for unlocked mode, ..
pub fcb_mode : (j r : ℕ) → open_mode (fcb_for j r) ≡ 1
unfolding rules fcb_for
fcb_mode j r = refl

-- .. and its record number is r
pub fcb_record : (j r : ℕ) → record_of (fcb_for j r) ≡ r
unfolding record_of fcb_for
fcb_record j r = omega arith

-- both are bytes
pub fcb_bytes : (j r : ℕ) → j < 64 → r < 256 → are_bytes (fcb_for j r) ≡ true
unfolding fcb_for
fcb_bytes j r m n = bytes_cons 0 _ (omega arith) (bytes_cons (65 + j / 8) _ (omega arith) (bytes_cons (65 + j % 8) _ (omega arith) rest))
  where
    rest : are_bytes (32 ∷ 32 ∷ 160 ∷ 32 ∷ 32 ∷ 32 ∷ 32 ∷ 32 ∷ 32 ∷ (replicate 21 0 ++ (r ∷ 0 ∷ 0 ∷ []))) ≡ true
    rest = unfold are_bytes ◌and◌ in and_both (ltb r 256) _ (lt-ltb r 256 n) refl

-- (and the DMA)
pub dma_bytes : (id : ℕ) → id < 256 → are_bytes (dma_for id) ≡ true
unfolding dma_for
dma_bytes id m = bytes_cons id _ m (bytes_replicate 2047 0 (omega arith))
