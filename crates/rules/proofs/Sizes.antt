-- The sizes of a drive of either kind: all the arithmetic in which they meet. Assumes nothing.
use Prim.Native.Nat.{ℕ, ◌+◌, ◌-◌, ◌*◌, ◌/◌, ◌%◌, ◌≤◌, ◌<◌}
use mathlib.Core.Path.{◌≡◌, refl, sym, ap, ◌∙◌}
use mathlib.Core.Bool.{true, false}
use mathlib.Core.List.{List}
use mathlib.Core.Logic.{◌⊎◌, inl, inr, ⊎_elim}
use native.Mathlib.Omega.{arith}
use lib.ListN.{length}
use lib.Dec.{leb}
use borrow.Author.Tests.{eqb-true, leb-true, leb-false}
use Rattle.words.specs.Bytes.{byte, number_at, le}
use Rattle.words.proofs.Tests.{either, and_fst, and_snd}
use Rattle.rules.specs.declared.kind.Rule.{Rule}
use Rattle.rules.specs.declared.kind.Rule.TheVariants.{Mpm, Cpm}
use Rattle.rules.specs.declared.kind.Kind.{Kind}
use Rattle.rules.specs.declared.kind.Kind.TheVariants.{Small, Large}
use Rattle.rules.specs.Kinds.{rule_of, is_large, highest, module_of, block_size, block_records, fewest, most, vector_size, entries, numbers, width, top}
use Rattle.rules.specs.Kinds.{last_module}
use Rattle.rules.specs.Drive.{blocks, good_length, map_place, map_number, record_at}

-- ---- the directory

-- it fills blocks 0 and 1
pub directory_size : (kind : Kind) → 32 * entries kind ≡ 2 * block_size kind
unfolding entries block_size
directory_size (Small u) = refl
directory_size (Large u) = refl

-- ---- the length

pub size_whole : (kind : Kind) (s : List ℕ) → good_length kind s ≡ true → block_size kind * blocks kind s ≡ length s
unfolding good_length blocks block_size
size_whole (Small u) s h = let a : length s % 1024 ≡ 0 = eqb-true _ _ (and_fst _ _ h) in omega arith
size_whole (Large u) s h = let a : length s % 2048 ≡ 0 = eqb-true _ _ (and_fst _ _ h) in omega arith

-- an entry more than the directory has
pub size_long : (kind : Kind) (s : List ℕ) → fewest kind ≤ blocks kind s → 32 * entries kind + 32 ≤ length s
unfolding blocks fewest block_size entries
size_long (Small u) s h = omega arith
size_long (Large u) s h = omega arith

-- every block's number is one of two bytes
pub most_fits : (kind : Kind) → most kind < 65536
unfolding most
most_fits (Small u) = omega arith
most_fits (Large u) = omega arith

-- a record's number has 18 bits
highest_fits : (u : Rule) → highest u ≤ 262143
unfolding highest
highest_fits Mpm = omega arith
highest_fits Cpm = omega arith

pub top_fits : (kind : Kind) → top kind ≤ 262143
unfolding top
top_fits kind = highest_fits (rule_of kind)

-- the last module is that of the highest record
module_highest : (u : Rule) → module_of u ≡ highest u / 4096
unfolding module_of highest
module_highest Mpm = refl
module_highest Cpm = refl

pub module_last : (kind : Kind) → last_module kind ≡ top kind / 4096
unfolding last_module top
module_last kind = module_highest (rule_of kind)

-- the highest record is the last one of its module
highest_whole : (u : Rule) → 4096 * (module_of u + 1) ≡ highest u + 1
unfolding module_of highest
highest_whole Mpm = refl
highest_whole Cpm = refl

pub top_whole : (kind : Kind) → 4096 * (last_module kind + 1) ≡ top kind + 1
unfolding last_module top
top_whole kind = highest_whole (rule_of kind)

-- the highest record and its module, of the rule that the code has found
module _ (kind : Kind) (u : Rule) (h : u ≡ rule_of kind) where
  pub top_as : (n : ℕ) → n ≡ highest u → n ≡ top kind
  unfolding top
  top_as n g = g ∙ ap highest h

  pub module_mpm : u ≡ Mpm → 63 ≡ last_module kind
  unfolding last_module module_of
  module_mpm g = ap module_of (sym g ∙ h)

  pub module_cpm : u ≡ Cpm → 15 ≡ last_module kind
  unfolding last_module module_of
  module_cpm g = ap module_of (sym g ∙ h)

-- no length is one of both sizes of drive
lengths_apart : (u w : Rule) (s : List ℕ) → good_length (Small u) s ≡ true → good_length (Large w) s ≡ true → ⊥
unfolding good_length blocks block_size fewest most
lengths_apart u w s h g =
    let a : length s / 1024 ≤ 256 = leb-true _ _ (and_snd _ _ (and_snd _ _ h)) in
    let b : 257 ≤ length s / 2048 = leb-true _ _ (and_fst _ _ (and_snd _ _ g)) in
    absurd (omega arith)

-- a length tells the size of the drive, and not the rule of its book
pub one_length : (a b : Kind) (s : List ℕ) → good_length a s ≡ true → good_length b s ≡ true → is_large a ≡ is_large b
unfolding is_large
one_length (Small u) (Small w) s h g = refl
one_length (Small u) (Large w) s h g = absurd (lengths_apart u w s h g)
one_length (Large u) (Small w) s h g = absurd (lengths_apart w u s g h)
one_length (Large u) (Large w) s h g = refl

-- a vector has a bit for each block that a drive may have
pub vector_bits : (kind : Kind) → 8 * vector_size kind ≡ most kind
unfolding vector_size most
vector_bits (Small u) = refl
vector_bits (Large u) = refl

-- some blocks beside the directory's
pub most_some : (kind : Kind) → 2 < most kind
unfolding most
most_some (Small u) = omega arith
most_some (Large u) = omega arith

-- an entry's number is a byte
pub entries_some : (kind : Kind) → 0 < entries kind
unfolding entries
entries_some (Small u) = omega arith
entries_some (Large u) = omega arith

pub entries_few : (kind : Kind) → entries kind < 256
unfolding entries
entries_few (Small u) = omega arith
entries_few (Large u) = omega arith

-- (as a cast asks)
pub entries_cast : (kind : Kind) (n : ℕ) → n ≡ entries kind → n < 256
entries_cast kind n h = let k = entries_few kind in omega arith

pub entries-byte : (kind : Kind) → entries kind ≤ 256
unfolding entries
entries-byte (Small u) = omega arith
entries-byte (Large u) = omega arith

-- ---- places and records

pub place_fits : (kind : Kind) (r : ℕ) → map_place kind r < numbers kind
unfolding map_place numbers block_records
place_fits (Small u) r = omega arith
place_fits (Large u) r = omega arith

-- one extent and one place: the same group of records
pub same-places : (kind : Kind) (r q : ℕ) → r / 128 ≡ q / 128 → map_place kind r ≡ map_place kind q → r / block_records kind ≡ q / block_records kind
unfolding map_place block_records
same-places (Small u) r q h g = omega arith
same-places (Large u) r q h g = omega arith

-- a record begins at one place only
pub record_block : (kind : Kind) (a b r q : ℕ) → record_at kind a r ≡ record_at kind b q → a ≡ b
unfolding record_at block_size block_records
record_block (Small u) a b r q h = omega arith
record_block (Large u) a b r q h = omega arith

pub record_rest : (kind : Kind) (a r q : ℕ) → record_at kind a r ≡ record_at kind a q → r / block_records kind ≡ q / block_records kind → r ≡ q
unfolding record_at block_size block_records
record_rest (Small u) a r q h g = let z : r % 8 ≡ q % 8 = omega arith in omega arith
record_rest (Large u) a r q h g = let z : r % 16 ≡ q % 16 = omega arith in omega arith

over : (kind : Kind) (a b r q : ℕ) → record_at kind a r ≤ record_at kind b q → (record_at kind a r ≡ record_at kind b q → ⊥)
    → record_at kind a r + 128 ≤ record_at kind b q
unfolding record_at block_size block_records
over (Small u) a b r q h n = omega arith
over (Large u) a b r q h n = omega arith

pub record_apart : (kind : Kind) (a b r q : ℕ) → (record_at kind a r ≡ record_at kind b q → ⊥) → (record_at kind a r + 128 ≤ record_at kind b q)
    ⊎ (record_at kind b q + 128 ≤ record_at kind a r)
record_apart kind a b r q n =
    ⊎_elim
    (λ (x : leb (record_at kind b q) (record_at kind a r) ≡ true). inr (over kind b a q r (leb-true _ _ x) (λ e. n (sym e))))
    (λ (x : leb (record_at kind b q) (record_at kind a r) ≡ false). inl
    (over kind a b r q (let y = leb-false (record_at kind b q) (record_at kind a r) x in omega arith) n))
    (either (leb (record_at kind b q) (record_at kind a r)))

-- a data block lies past the directory, a block below n in n blocks
pub record_past : (kind : Kind) (b r : ℕ) → 2 ≤ b → 32 * entries kind ≤ record_at kind b r
unfolding record_at block_size entries
record_past (Small u) b r h = omega arith
record_past (Large u) b r h = omega arith

pub record_inside : (kind : Kind) (b n r : ℕ) → b < n → record_at kind b r + 128 ≤ block_size kind * n
unfolding record_at block_records block_size
record_inside (Small u) b n r h = omega arith
record_inside (Large u) b n r h = omega arith

pub block_inside : (kind : Kind) (b n : ℕ) → b < n → block_size kind * b + block_size kind ≤ block_size kind * n
unfolding block_size
block_inside (Small u) b n h = omega arith
block_inside (Large u) b n h = omega arith

-- a block of any two-byte number begins where a machine can count
pub begins_below : (kind : Kind) (b : ℕ) → b < 65536 → block_size kind * b ≤ 134217728
unfolding block_size
begins_below (Small u) b h = omega arith
begins_below (Large u) b h = omega arith

-- a record's place in its block
pub rest_below : (kind : Kind) (r : ℕ) → r % block_records kind < 16
unfolding block_records
rest_below (Small u) r = omega arith
rest_below (Large u) r = omega arith

-- the records of all blocks are three bytes' worth at most
pub records_few : (kind : Kind) (n : ℕ) → n ≤ most kind → block_records kind * n ≤ 65536
unfolding block_records most
records_few (Small u) n h = omega arith
records_few (Large u) n h = omega arith

-- a record begins in its block, and lies in it
pub record-over : (kind : Kind) (b r : ℕ) → block_size kind * b ≤ record_at kind b r
unfolding record_at
record-over kind b r = omega arith

pub record_room : (kind : Kind) (b r size : ℕ) → block_size kind * b + block_size kind ≤ size → record_at kind b r + 128 ≤ size
unfolding record_at block_records block_size
record_room (Small u) b r size h = omega arith
record_room (Large u) b r size h = omega arith

-- ---- the numbers of a map

pub map_small : (u : Rule) (s : List ℕ) (e k : ℕ) → byte s (32 * e + (16 + k)) ≡ map_number (Small u) s e k
unfolding map_number number_at width
map_small u s e k = let q : 1 * k ≡ k = omega arith in rw q (omega arith)

pub map_large : (u : Rule) (s : List ℕ) (e k : ℕ) → byte s (32 * e + (16 + 2 * k)) + 256 * byte s (32 * e + (16 + 2 * k) + 1) ≡ map_number (Large u) s e k
unfolding map_number number_at width
map_large u s e k = omega arith

-- of two entries with the same 32 bytes
pub map_bytes : (kind : Kind) (s t : List ℕ) (e d k : ℕ) → k < numbers kind → ((i : ℕ) → i < 32 → byte t (32 * d + i) ≡ byte s (32 * e + i))
    → map_number kind t d k ≡ map_number kind s e k
unfolding numbers
map_bytes (Small u) s t e d k l h = rw (← map_small u t d k, ← map_small u s e k) (h (16 + k) (omega arith))
map_bytes (Large u) s t e d k l h =
    let a : byte t (32 * d + (16 + 2 * k) + 1) ≡ byte s (32 * e + (16 + 2 * k) + 1) =
    rw (plus d, plus e) (h (16 + 2 * k + 1) (omega arith)) in
    rw (← map_large u t d k, ← map_large u s e k, h (16 + 2 * k) (omega arith), a)
  where
    plus : (x : ℕ) → 32 * x + (16 + 2 * k) + 1 ≡ 32 * x + (16 + 2 * k + 1)
    plus x = omega arith

-- ---- the places of all the maps, one after the other: place k of entry e is numbers kind * e + k

pub flat_entry : (kind : Kind) (e k : ℕ) → k < numbers kind → (numbers kind * e + k) / numbers kind ≡ e
unfolding numbers
flat_entry (Small u) e k l = omega arith
flat_entry (Large u) e k l = omega arith

pub flat_place : (kind : Kind) (e k : ℕ) → k < numbers kind → (numbers kind * e + k) % numbers kind ≡ k
unfolding numbers
flat_place (Small u) e k l = omega arith
flat_place (Large u) e k l = omega arith

pub flat_both : (kind : Kind) (i : ℕ) → numbers kind * (i / numbers kind) + i % numbers kind ≡ i
unfolding numbers
flat_both (Small u) i = omega arith
flat_both (Large u) i = omega arith

pub flat_short : (kind : Kind) (i : ℕ) → i % numbers kind < numbers kind
unfolding numbers
flat_short (Small u) i = omega arith
flat_short (Large u) i = omega arith

pub flat_there : (kind : Kind) (i : ℕ) → i < numbers kind * entries kind → i / numbers kind < entries kind
unfolding numbers entries
flat_there (Small u) i l = omega arith
flat_there (Large u) i l = omega arith

pub flat_below : (kind : Kind) (e k : ℕ) → e < entries kind → k < numbers kind → numbers kind * e + k < numbers kind * entries kind
unfolding numbers entries
flat_below (Small u) e k m l = omega arith
flat_below (Large u) e k m l = omega arith

-- the groups of records, so many to an extent
pub flat-group : (kind : Kind) (r : ℕ) → numbers kind * (r / 128) + map_place kind r ≡ r / block_records kind
unfolding map_place numbers block_records
flat-group (Small u) r = omega arith
flat-group (Large u) r = omega arith

-- all of them are as many on either kind
pub all-numbers : (kind : Kind) → numbers kind * entries kind ≡ 1024
unfolding numbers entries
all-numbers (Small u) = refl
all-numbers (Large u) = refl

-- the places of one entry
pub flat_next : (kind : Kind) (e : ℕ) → numbers kind * (e + 1) ≡ numbers kind * e + numbers kind
unfolding numbers
flat_next (Small u) e = omega arith
flat_next (Large u) e = omega arith

pub flat_within : (kind : Kind) (e i : ℕ) → numbers kind * e ≤ i → i < numbers kind * e + numbers kind → i / numbers kind ≡ e
unfolding numbers
flat_within (Small u) e i h l = omega arith
flat_within (Large u) e i h l = omega arith

pub flat_past : (kind : Kind) (e i : ℕ) → numbers kind * e ≤ i → e ≤ i / numbers kind
unfolding numbers
flat_past (Small u) e i h = omega arith
flat_past (Large u) e i h = omega arith

pub flat_up : (kind : Kind) (d e : ℕ) → d ≤ e → numbers kind * d ≤ numbers kind * e
unfolding numbers
flat_up (Small u) d e h = omega arith
flat_up (Large u) d e h = omega arith

-- ---- the bytes of one map

-- they are sixteen
pub map_size : (kind : Kind) → width kind * numbers kind ≡ 16
unfolding width numbers
map_size (Small u) = refl
map_size (Large u) = refl

pub map_inside : (kind : Kind) (k j : ℕ) → k < numbers kind → j < width kind → width kind * k + j < 16
unfolding width numbers
map_inside (Small u) k j l m = omega arith
map_inside (Large u) k j l m = omega arith

pub map_room : (kind : Kind) (k : ℕ) → k < numbers kind → width kind * k + width kind ≤ 16
unfolding width numbers
map_room (Small u) k l = omega arith
map_room (Large u) k l = omega arith

-- a number below n whose bytes stand in place k
pub map_held : (kind : Kind) (s : List ℕ) (e k n : ℕ) → n < most kind
    → ((j : ℕ) → j < width kind → byte s (32 * e + (16 + (width kind * k + j))) ≡ byte (le (width kind) n) j) → map_number kind s e k ≡ n
unfolding width le most
map_held (Small u) s e k n l h =
    let p : 1 * k + 0 ≡ k = omega arith in
    rw (← map_small u s e k, ← p) (h 0 (omega arith) ∙ omega arith)
map_held (Large u) s e k n l h =
    let p : 32 * e + (16 + (2 * k + 0)) ≡ 32 * e + (16 + 2 * k) = omega arith in
    let q : 32 * e + (16 + (2 * k + 1)) ≡ 32 * e + (16 + 2 * k) + 1 = omega arith in
    let a : byte s (32 * e + (16 + 2 * k)) ≡ n % 256 = ap (byte s) (sym p) ∙ h 0 (omega arith) in
    let b : byte s (32 * e + (16 + 2 * k) + 1) ≡ n / 256 % 256 = ap (byte s) (sym q) ∙ h 1 (omega arith) in
    rw (← map_large u s e k, a, b) (omega arith)

-- ---- the bytes of the blocks

-- m blocks behind the directory, and the rest of n
pub blocks_rest : (kind : Kind) (n m : ℕ) → 2 + m ≤ n → 32 * entries kind + (block_size kind * m + block_size kind * (n - 2 - m)) ≡ block_size kind * n
unfolding block_size entries
blocks_rest (Small u) n m h = omega arith
blocks_rest (Large u) n m h = omega arith

pub block_behind : (kind : Kind) (j i : ℕ) → block_size kind * (2 + j) + i ≡ 32 * entries kind + (block_size kind * j + i)
unfolding block_size entries
block_behind (Small u) j i = omega arith
block_behind (Large u) j i = omega arith

pub block_low : (kind : Kind) (j m i : ℕ) → j < m → i < block_size kind → block_size kind * j + i < block_size kind * m
unfolding block_size
block_low (Small u) j m i h l = omega arith
block_low (Large u) j m i h l = omega arith

-- ---- the records of a block

-- a byte of a record is one of its block
pub record_byte : (kind : Kind) (r i : ℕ) → i < 128 → 128 * (r % block_records kind) + i < block_size kind
unfolding block_records block_size
record_byte (Small u) r i h = omega arith
record_byte (Large u) r i h = omega arith

-- the record of byte i of the block in place k of extent x's map: its extent, its place, and byte i again
abbrev pub record_over : Kind → ℕ → ℕ → ℕ → ℕ
record_over kind x k i = 128 * x + (block_records kind * k + i / 128)

pub over_extent : (kind : Kind) (x k i : ℕ) → k < numbers kind → i < block_size kind → record_over kind x k i / 128 ≡ x
unfolding block_records numbers block_size
over_extent (Small u) x k i l m = omega arith
over_extent (Large u) x k i l m = omega arith

pub over_place : (kind : Kind) (x k i : ℕ) → k < numbers kind → i < block_size kind → map_place kind (record_over kind x k i) ≡ k
unfolding map_place block_records numbers block_size
over_place (Small u) x k i l m = omega arith
over_place (Large u) x k i l m = omega arith

pub over_byte : (kind : Kind) (x k i b : ℕ) → i < block_size kind → record_at kind b (record_over kind x k i) + i % 128 ≡ block_size kind * b + i
unfolding record_at block_records block_size
over_byte (Small u) x k i b m = omega arith
over_byte (Large u) x k i b m = omega arith

-- the directory record with an entry lies in the directory
pub record_in : (kind : Kind) (e : ℕ) → e < entries kind → 128 * (e / 4) + 128 ≤ 32 * entries kind
unfolding entries
record_in (Small u) e l = omega arith
record_in (Large u) e l = omega arith
