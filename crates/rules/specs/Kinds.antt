-- The kinds of drive and their sizes (T-09), and the rule that the book's programs are written to (T-11). Assumes nothing.
use Rattle.std.specs.Prelude.{ℕ, Bool, true, false, eqb, Option, Some, None}
use Rattle.words.specs.Tests.{◌if◌else◌}
use Rattle.rules.specs.declared.kind.Rule.{Rule}
use Rattle.rules.specs.declared.kind.Rule.TheVariants.{Mpm, Cpm}
use Rattle.rules.specs.declared.kind.Kind.{Kind}
use Rattle.rules.specs.declared.kind.Kind.TheVariants.{Small, Large}

-- 0 MP/M II, 1 CP/M 2.2; "anything but 1 being rule 0"
unfoldable pub told_rule : ℕ → Rule
told_rule n = Cpm if eqb n 1 else Mpm

-- the kind that a number tells: 0 the first, 1 the second, no other number; with the rule of the book
unfoldable pub told_kind : ℕ → Rule → Option Kind
told_kind n u = Some (Small u) if eqb n 0 else Some (Large u) if eqb n 1 else None

unfoldable pub rule_of : Kind → Rule
rule_of (Small u) = u
rule_of (Large u) = u

unfoldable pub same_rule : Rule → Rule → Bool
same_rule Mpm Mpm = true
same_rule Mpm Cpm = false
same_rule Cpm Mpm = false
same_rule Cpm Cpm = true

-- the same drive with a book of that rule
unfoldable pub with_rule : Rule → Kind → Kind
with_rule u (Small w) = Small u
with_rule u (Large w) = Large u

-- the size of a drive: its kind without the rule
unfoldable pub is_large : Kind → Bool
is_large (Small u) = false
is_large (Large u) = true

-- blocks of 1,024 bytes, or of 2,048
unfoldable pub block_size : Kind → ℕ
block_size (Small u) = 1024
block_size (Large u) = 2048

-- each eight records of 128 bytes, or sixteen
unfoldable pub block_records : Kind → ℕ
block_records (Small u) = 8
block_records (Large u) = 16

-- n from 3 to 256, or from 257 to 4,096
unfoldable pub fewest : Kind → ℕ
fewest (Small u) = 3
fewest (Large u) = 257

unfoldable pub most : Kind → ℕ
most (Small u) = 256
most (Large u) = 4096

-- T-04's vector has 32 bytes, or 512: a bit for each block that a drive may have
unfoldable pub vector_size : Kind → ℕ
vector_size (Small u) = 32
vector_size (Large u) = 512

-- 64 entries of 32 bytes in blocks 0 and 1, or 128
unfoldable pub entries : Kind → ℕ
entries (Small u) = 64
entries (Large u) = 128

-- the highest record number: ex 31, module 63, the last of its extent; "under 1, record numbers end at 65,535"
unfoldable pub highest : Rule → ℕ
highest Mpm = 262143
highest Cpm = 65535

unfoldable pub top : Kind → ℕ
top kind = highest (rule_of kind)

-- its module: "and modules at 15"
unfoldable pub module_of : Rule → ℕ
module_of Mpm = 63
module_of Cpm = 15

unfoldable pub last_module : Kind → ℕ
last_module kind = module_of (rule_of kind)

-- sixteen block numbers of one byte to an entry, or eight of two
unfoldable pub numbers : Kind → ℕ
numbers (Small u) = 16
numbers (Large u) = 8

unfoldable pub width : Kind → ℕ
width (Small u) = 1
width (Large u) = 2
