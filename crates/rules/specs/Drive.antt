-- "The drive". Assumes nothing.
use Rattle.std.specs.Prelude.{ℕ, ◌+◌, ◌*◌, ◌/◌, ◌%◌, Bool, true, false, not, List, [], ◌∷◌, length, leb, ltb, eqb, Result, Ok, Err}
use Rattle.words.specs.Tests.{◌and◌, ◌or◌, ◌if◌else◌, all, any, lowest, greatest, count}
use Rattle.words.specs.Lists.{tab}
use Rattle.words.specs.Bytes.{byte, low_from, number_at}
use Rattle.words.specs.Tables.{Row, ◌when◌, first_of}
use Rattle.rules.specs.declared.kind.Kind.{Kind}
use Rattle.rules.specs.Kinds.{block_size, block_records, fewest, most, entries, numbers, width, last_module}
use Rattle.rules.specs.declared.answer.ImageFault.{ImageFault}
use Rattle.rules.specs.declared.answer.ImageFault.TheVariants.{WrongLength, BadUser, BadName, BadNumbers, BlockOutside, BlockBefore, ExtentBefore, NoFirst}
use Rattle.rules.specs.declared.file.File.{File}
use Rattle.rules.specs.declared.file.Found.{Found}

-- ---- Sizes that both kinds have (those of each kind: Kinds)

abbrev pub record_size : ℕ
record_size = 128

-- an extent covers records 128·extent to 128·extent + 127
abbrev pub extent_records : ℕ
extent_records = 128

abbrev pub entry_size : ℕ
entry_size = 32

-- The image is 1,024·n bytes, n from 3 to 256; 2,048·n bytes, n from 257 to 4,096, on a drive of the second kind.
unfoldable pub blocks : Kind → List ℕ → ℕ
blocks kind s = length s / block_size kind

unfoldable pub good_length : Kind → List ℕ → Bool
good_length kind s = eqb (length s % block_size kind) 0 and leb (fewest kind) (blocks kind s) and leb (blocks kind s) (most kind)

-- ---- Entry

-- byte k of entry e
abbrev pub entry_byte : List ℕ → ℕ → ℕ → ℕ
entry_byte s e k = byte s (entry_size * e + k)

-- Byte 0 is E5h (empty, the rest unread) or the user.
abbrev pub user_byte : List ℕ → ℕ → ℕ
user_byte s e = byte s (entry_size * e)

unfoldable pub is_empty : List ℕ → ℕ → Bool
is_empty s e = eqb (user_byte s e) 0xE5

-- bytes 1 to 11 name and type
abbrev pub name_at : ℕ → ℕ
name_at e = entry_size * e + 1

-- 12 is ex, 14 is the module. The extent number is ex + 32·module.
abbrev pub extent_at : List ℕ → ℕ → ℕ
extent_at s e = entry_byte s e 12 + 32 * entry_byte s e 14

-- 16 to 31 block numbers, low byte first: where the number in place k of the entry's map stands, and the number
abbrev pub map_at : Kind → ℕ → ℕ → ℕ
map_at kind e k = entry_size * e + (16 + width kind * k)

unfoldable pub map_number : Kind → List ℕ → ℕ → ℕ → ℕ
map_number kind s e k = number_at (width kind) s (map_at kind e k)

-- the place of a record in its extent's map
unfoldable pub map_place : Kind → ℕ → ℕ
map_place kind r = r % extent_records / block_records kind

-- ---- Names and files

-- A legal name has, in the low seven bits of each of its eleven bytes, a value 32 to 126 other than "?" (63), ..
unfoldable pub legal_byte : ℕ → Bool
legal_byte b = leb 32 (b % 128) and leb (b % 128) 126 and not (eqb (b % 128) 63)

unfoldable pub legal_at : List ℕ → ℕ → ℕ → Bool
legal_at s at k = legal_byte (byte s (at + k))

-- .. and its first byte is not a blank (A0h is one: only the low seven bits count).
unfoldable pub legal_name : List ℕ → ℕ → Bool
legal_name s at = not (eqb (byte s at % 128) 32) and all (legal_at s at) 11

-- High bits are attributes and never take part in comparing.
unfoldable pub same_low : List ℕ → ℕ → List ℕ → ℕ → Bool
same_low s at name k = eqb (low_from s at k) (byte name k)

-- the bytes from a place on are that name
unfoldable pub is_named : List ℕ → ℕ → List ℕ → Bool
is_named s at name = all (same_low s at name) 11

-- A file is a user and a name: the one that a user and the eleven bytes from a place on say, ..
unfoldable pub file_from : ℕ → List ℕ → ℕ → File
file_from user s at = record { user = user; name = tab (low_from s at) 11 }

-- .. and the one of entry e
unfoldable pub file_at : List ℕ → ℕ → File
file_at s e = file_from (user_byte s e) s (name_at e)

-- entry e is in use and of the file
unfoldable pub is_of : List ℕ → File → ℕ → Bool
is_of s f e = not (is_empty s e) and eqb (user_byte s e) f.user and is_named s (name_at e) f.name

-- entry e is that extent of the file
unfoldable pub is_entry : List ℕ → File → ℕ → ℕ → Bool
is_entry s f x e = not (is_empty s e) and eqb (user_byte s e) f.user and eqb (extent_at s e) x and is_named s (name_at e) f.name

-- ---- Finding

-- where an extent of a file stands, the number of entries where it is missing
unfoldable pub entry_of : Kind → List ℕ → File → ℕ → ℕ
entry_of kind s f x = lowest (is_entry s f x) (entries kind)

-- no entry: the number of entries stands for it
abbrev pub no_entry : Kind → ℕ → Bool
no_entry kind e = leb (entries kind) e

-- the highest extent of a file (T-05)
unfoldable pub highest_extent : Kind → List ℕ → File → ℕ
highest_extent kind s f = greatest (is_of s f) (extent_at s) (entries kind)

-- Looking up a file tells its highest extent along with its first entry, which is that of extent 0; and the entry of the highest.
unfoldable pub look_up : Kind → List ℕ → File → Found
look_up kind s f = record {
  entry = entry_of kind s f 0;
  extent = highest_extent kind s f;
  last = entry_of kind s f (highest_extent kind s f);
}

-- no such file
unfoldable pub missing : Kind → Found → Bool
missing kind x = no_entry kind x.entry

-- The file's attributes are those of extent 0, which stands at entry e; the high bit of byte 9 is read-only.
unfoldable pub read_only : List ℕ → ℕ → Bool
read_only s e = leb 128 (entry_byte s e 9)

-- the lowest empty entry, the number of entries where there is none
unfoldable pub free_entry : Kind → List ℕ → ℕ
free_entry kind s = lowest (is_empty s) (entries kind)

-- the block of record r, whose extent is at entry e: 0 meaning none, as where the extent is missing
unfoldable pub block_in : Kind → List ℕ → ℕ → ℕ → ℕ
block_in kind s e r = 0 if no_entry kind e else map_number kind s e (map_place kind r)

unfoldable pub block_of : Kind → List ℕ → File → ℕ → ℕ
block_of kind s f r = block_in kind s (entry_of kind s f (r / extent_records)) r

-- where a record begins in its block of the image
unfoldable pub record_at : Kind → ℕ → ℕ → ℕ
record_at kind block r = block_size kind * block + record_size * (r % block_records kind)

-- ---- Blocks in use and free

-- place k of entry e's map holds number b
unfoldable pub holds_number : Kind → List ℕ → ℕ → ℕ → ℕ → Bool
holds_number kind s b e k = eqb (map_number kind s e k) b

-- entry e is in use and names block b
unfoldable pub names_block : Kind → List ℕ → ℕ → ℕ → Bool
names_block kind s b e = not (is_empty s e) and any (holds_number kind s b e) (numbers kind)

unfoldable pub is_used : Kind → List ℕ → ℕ → Bool
is_used kind s b = any (names_block kind s b) (entries kind)

-- so many places have all the maps, sixteen or eight to an entry; place i of them holds a block number
abbrev pub all_numbers : Kind → ℕ
all_numbers kind = numbers kind * entries kind

unfoldable pub is_numbered : Kind → List ℕ → ℕ → Bool
is_numbered kind s i = not (is_empty s (i / numbers kind)) and not (eqb (map_number kind s (i / numbers kind) (i % numbers kind)) 0)

-- the blocks in use, of 2 to n−1
unfoldable pub is_in_use : Kind → List ℕ → ℕ → Bool
is_in_use kind s b = leb 2 b and is_used kind s b

unfoldable pub blocks_in_use : Kind → List ℕ → ℕ
blocks_in_use kind s = count (is_in_use kind s) (blocks kind s)

-- Data blocks are 2 to n−1.
unfoldable pub is_free : Kind → List ℕ → ℕ → Bool
is_free kind s b = leb 2 b and not (is_used kind s b)

-- the lowest free block, n where there is none
unfoldable pub free_block : Kind → List ℕ → ℕ
free_block kind s = lowest (is_free kind s) (blocks kind s)

-- how many blocks are free
unfoldable pub free_blocks : Kind → List ℕ → ℕ
free_blocks kind s = count (is_free kind s) (blocks kind s)

-- ---- Sound image

-- the user, 0 to 15
unfoldable pub good_user : List ℕ → ℕ → Bool
good_user s e = leb (user_byte s e) 15

-- ex, 0 to 31; the module, 0 to 63 (under rule 1 to 15, T-11); the record count, 0 to 128
unfoldable pub good_numbers : Kind → List ℕ → ℕ → Bool
good_numbers kind s e =
    leb (entry_byte s e 12) 31 and leb (entry_byte s e 14) (last_module kind) and leb (entry_byte s e 15) 128

-- every used entry as above with a legal name
unfoldable pub good_fields : Kind → List ℕ → ℕ → Bool
good_fields kind s e = good_user s e and legal_name s (name_at e) and good_numbers kind s e

-- block numbers 0 or 2 to n−1
unfoldable pub in_range : Kind → List ℕ → ℕ → ℕ → Bool
in_range kind s e k = eqb (map_number kind s e k) 0 or (leb 2 (map_number kind s e k) and ltb (map_number kind s e k) (blocks kind s))

-- number b stands in an entry before e, or in entry e before place k
unfoldable pub named_before : Kind → List ℕ → ℕ → ℕ → ℕ → Bool
named_before kind s b e k = any (names_block kind s b) e or any (holds_number kind s b e) k

-- no block number other than 0 occurs twice
unfoldable pub is_first : Kind → List ℕ → ℕ → ℕ → Bool
is_first kind s e k = eqb (map_number kind s e k) 0 or not (named_before kind s (map_number kind s e k) e k)

-- no two used entries have the same file and extent: an entry before e has those of entry e
unfoldable pub is_repeat : List ℕ → ℕ → Bool
is_repeat s e = any (is_entry s (file_at s e) (extent_at s e)) e

unfoldable pub good_entry : Kind → List ℕ → ℕ → Bool
good_entry kind s e =
    is_empty s e
    or (good_fields kind s e and all (in_range kind s e) (numbers kind) and all (is_first kind s e) (numbers kind) and not (is_repeat s e))

-- each file has an extent 0
unfoldable pub has_first : Kind → List ℕ → ℕ → Bool
has_first kind s e = is_empty s e or any (is_entry s (file_at s e) 0) (entries kind)

unfoldable pub sound_directory : Kind → List ℕ → Bool
sound_directory kind s = all (good_entry kind s) (entries kind) and all (has_first kind s) (entries kind)

unfoldable pub sound_image : Kind → List ℕ → Bool
sound_image kind s = good_length kind s and sound_directory kind s

-- ---- The image check, and which entry is bad (T-01)

-- Inside one entry the reasons go in this order: 2 user byte, 3 name, 4 ex, module or count, 5 block number out of range, 6 block
-- named before, 7 extent named before.
unfoldable pub reasons : Kind → List ℕ → ℕ → List Row
reasons kind s e =
    2 when not (good_user s e)
    ∷ 3 when not (legal_name s (name_at e))
    ∷ 4 when not (good_numbers kind s e)
    ∷ 5 when not (all (in_range kind s e) (numbers kind))
    ∷ 6 when not (all (is_first kind s e) (numbers kind))
    ∷ 7 when is_repeat s e
    ∷ []

-- the first that applies, 0 where none does; the rest of an empty entry is unread
unfoldable pub reason : Kind → List ℕ → ℕ → ℕ
reason kind s e = 0 if is_empty s e else first_of (reasons kind s e)

unfoldable pub bad_for : ℕ → ℕ → ImageFault
bad_for why e =
    BadUser e if eqb why 2 else
    BadName e if eqb why 3 else
    BadNumbers e if eqb why 4 else
    BlockOutside e if eqb why 5 else
    BlockBefore e if eqb why 6 else
    ExtentBefore e

-- Entries are judged in rising order: the lowest that is bad, the number of entries where none is; ..
unfoldable pub is_bad : Kind → List ℕ → ℕ → Bool
is_bad kind s e = not (good_entry kind s e)

unfoldable pub bad_entry : Kind → List ℕ → ℕ
bad_entry kind s = lowest (is_bad kind s) (entries kind)

-- .. what they answer; ..
unfoldable pub judged : Kind → List ℕ → Result (Unit {0}) ImageFault
judged kind s = Ok tt if no_entry kind (bad_entry kind s) else Err (bad_for (reason kind s (bad_entry kind s)) (bad_entry kind s))

-- .. then 8, given last of all, for the lowest entry of a file lacking extent 0.
unfoldable pub lacks_first : Kind → List ℕ → ℕ → Bool
lacks_first kind s e = not (has_first kind s e)

unfoldable pub headless : Kind → List ℕ → ℕ
headless kind s = lowest (lacks_first kind s) (entries kind)

unfoldable pub is_sound : Result (Unit {0}) ImageFault → Bool
is_sound (Ok x) = true
is_sound (Err f) = false

unfoldable pub directory_answer : Kind → List ℕ → Result (Unit {0}) ImageFault
directory_answer kind s =
    judged kind s if not (is_sound (judged kind s)) else
    Ok tt if no_entry kind (headless kind s) else
    Err (NoFirst (headless kind s))

unfoldable pub image_check : Kind → List ℕ → Result (Unit {0}) ImageFault
image_check kind s = Err WrongLength if not (good_length kind s) else directory_answer kind s

-- The number of an answer; ..
unfoldable pub fault_number : ImageFault → ℕ
fault_number WrongLength = 1
fault_number (BadUser e) = 2
fault_number (BadName e) = 3
fault_number (BadNumbers e) = 4
fault_number (BlockOutside e) = 5
fault_number (BlockBefore e) = 6
fault_number (ExtentBefore e) = 7
fault_number (NoFirst e) = 8

unfoldable pub image_number : Result (Unit {0}) ImageFault → ℕ
image_number (Ok x) = 0
image_number (Err f) = fault_number f

-- .. the entry that it tells: 0 and 1 tell entry 0.
unfoldable pub fault_entry : ImageFault → ℕ
fault_entry WrongLength = 0
fault_entry (BadUser e) = e
fault_entry (BadName e) = e
fault_entry (BadNumbers e) = e
fault_entry (BlockOutside e) = e
fault_entry (BlockBefore e) = e
fault_entry (ExtentBefore e) = e
fault_entry (NoFirst e) = e

unfoldable pub image_entry : Result (Unit {0}) ImageFault → ℕ
image_entry (Ok x) = 0
image_entry (Err f) = fault_entry f

-- both in one number, as a C host gets them
unfoldable pub image_told : Result (Unit {0}) ImageFault → ℕ
image_told a = image_number a + 256 * image_entry a
