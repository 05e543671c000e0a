-- "What each call does". Each effect gives the outcome of a call that no row refuses. Assumes nothing.
use Rattle.std.specs.Prelude.{ℕ, ◌+◌, ◌*◌, ◌/◌, ◌%◌, Bool, true, false, not, List, [], ◌∷◌, ◌++◌, map, set, take, replicate, leb, ltb, eqb}
use Rattle.words.specs.Tests.{◌and◌, ◌or◌, ◌if◌else◌, all, lowest}
use Rattle.words.specs.Lists.{tab, turns}
use Rattle.words.specs.Bytes.{byte, byte_from, low_from, part, put, le}
use Rattle.words.specs.Tables.{◌∕◌}
use Rattle.rules.specs.declared.kind.Kind.{Kind}
use Rattle.rules.specs.Kinds.{entries, block_size, block_records, width}
use Rattle.rules.specs.declared.file.File.{File}
use Rattle.rules.specs.declared.file.Found.{Found}
use Rattle.rules.specs.declared.item.Item.{Item}
use Rattle.rules.specs.declared.list.LockList.{LockList}
use Rattle.rules.specs.declared.spot.Spot.{Spot}
use Rattle.rules.specs.Serves.{Buffers, Outcome, buffers, outcome, with_fcb, with_dma, with_list, with_image}
use Rattle.rules.specs.Drive.{no_entry, entry_size, record_size, extent_records, map_place, name_at, entry_byte, user_byte, extent_at, is_empty, is_of, look_up, missing, free_entry, free_block, free_blocks, block_in, record_at, map_at}
use Rattle.rules.specs.Locks.{an_empty, a_lock, item_at, user_of, position_of, moved_to, with_items, mode_unlocked, empty_place, fresh_open, fresh_lock, is_opened, same_name, held, free_place, pack}
use Rattle.rules.specs.Asks.{open_mode, make_mode}

-- Success is 0/0.
abbrev pub accept : Buffers → Outcome
accept b = outcome (0 ∕ 0) b

-- ---- Search First and Search Next (T-02)

-- "?" standing for any character (high bits take no part in it)
unfoldable pub is_any : ℕ → Bool
is_any b = eqb (b % 128) 63

-- byte k of the FCB's name admits that of entry e
unfoldable pub admits_byte : List ℕ → List ℕ → ℕ → ℕ → Bool
admits_byte fcb s e k = is_any (byte fcb (1 + k)) or eqb (low_from s (name_at e) k) (low_from fcb 1 k)

-- byte 12 "?" admits all extents, else only extent 0
unfoldable pub admits_extent : List ℕ → List ℕ → ℕ → Bool
admits_extent fcb s e = eqb (byte fcb 12) 63 or eqb (extent_at s e) 0

-- Each matches entries of the caller's user against the FCB name.
unfoldable pub is_match : ℕ → List ℕ → List ℕ → ℕ → Bool
is_match user fcb s e = not (is_empty s e) and eqb (user_byte s e) user and all (admits_byte fcb s e) 11 and admits_extent fcb s e

-- the first match from an entry on, the number of entries where there is none
unfoldable pub is_match_from : ℕ → ℕ → List ℕ → List ℕ → ℕ → Bool
is_match_from from user fcb s e = leb from e and is_match user fcb s e

unfoldable pub match_from : Kind → ℕ → ℕ → List ℕ → List ℕ → ℕ
match_from kind from user fcb s = lowest (is_match_from from user fcb s) (entries kind)

-- On success DMA bytes 0 to 127 hold the directory record with the entry and A is its place there, 0 to 3; a find leaves the entry after it.
unfoldable pub finds : ℕ → LockList → ℕ → Buffers → Outcome
finds p l e b =
    outcome (e % 4 ∕ 0) (buffers b.fcb (put 0 (part (record_size * (e / 4)) record_size b.image) b.dma) (pack (moved_to p (e + 1) l)) b.image)

-- No match answers 255/0, and this one answer does set the position: no find leaves 64 (128).
unfoldable pub finds_none : Kind → ℕ → LockList → Buffers → Outcome
finds_none kind p l b = outcome (255 ∕ 0) (with_list b (pack (moved_to p (entries kind) l)))

unfoldable pub searched : Kind → ℕ → LockList → ℕ → Buffers → Outcome
searched kind p l e b = finds_none kind p l b if no_entry kind e else finds p l e b

-- First begins at 0; ..
unfoldable pub does17 : Kind → ℕ → LockList → Buffers → Outcome
does17 kind p l b = searched kind p l (match_from kind 0 (user_of l p) b.fcb b.image) b

-- .. Next at the position, and reads the directory as it then stands.
unfoldable pub does18 : Kind → ℕ → LockList → Buffers → Outcome
does18 kind p l b = searched kind p l (match_from kind (position_of l p) (user_of l p) b.fcb b.image) b

-- ---- Open and Make

-- the File ID, the open item's place number, low byte first, then 0 (a place number is below 64)
abbrev pub file_id : ℕ → List ℕ
file_id o = o ∷ 0 ∷ 0 ∷ []

-- Open and Make set FCB bytes 12 to 14 to 0 and 15 to 31 to extent 0's count and map; ..
unfoldable pub fcb_mapped : List ℕ → ℕ → List ℕ → List ℕ
fcb_mapped s e fcb = put 15 (part (entry_size * e + 15) 17 s) (put 12 (0 ∷ 0 ∷ 0 ∷ []) fcb)

-- .. in unlocked mode bytes 33 to 35 become the File ID.
unfoldable pub fcb_numbered : ℕ → ℕ → List ℕ → List ℕ
fcb_numbered mode o fcb = put 33 (file_id o) fcb if eqb mode mode_unlocked else fcb

unfoldable pub fcb_opened : List ℕ → ℕ → ℕ → ℕ → List ℕ → List ℕ
fcb_opened s e mode o fcb = fcb_numbered mode o (fcb_mapped s e fcb)

-- New items take the lowest empty places.
unfoldable pub placed : Item → LockList → LockList
placed it l = with_items l (set l.items (free_place l) it)

unfoldable pub opened : ℕ → File → ℕ → LockList → LockList
opened p f mode l = placed (fresh_open p f.name mode) l

-- Make fills the lowest empty entry: user, name with high bits clear, the rest zeros.
unfoldable pub made_entry : File → List ℕ
made_entry f = f.user ∷ (f.name ++ replicate 20 0)

unfoldable pub made : ℕ → File → List ℕ → List ℕ
made e f s = put (entry_size * e) (made_entry f) s

-- x is what looking up the file tells, o the place of the caller's open of it (64: none)
unfoldable pub does15 : ℕ → LockList → ℕ → File → Found → Buffers → Outcome
does15 p l o f x b =
    accept (buffers (fcb_opened b.image x.entry (open_mode b.fcb) o b.fcb) b.dma b.list b.image)
    if is_opened o else
    accept (buffers (fcb_opened b.image x.entry (open_mode b.fcb) (free_place l) b.fcb) b.dma (pack (opened p f (open_mode b.fcb) l)) b.image)

unfoldable pub makes : ℕ → LockList → File → ℕ → Buffers → Outcome
makes p l f e b =
    accept (buffers (fcb_opened (made e f b.image) e (make_mode b.fcb) (free_place l) b.fcb) b.dma
    (pack (opened p f (make_mode b.fcb) l)) (made e f b.image))

unfoldable pub does22 : Kind → ℕ → LockList → File → Buffers → Outcome
does22 kind p l f b = makes p l f (free_entry kind b.image) b

-- ---- Delete and Rename

-- Delete sets byte 0 of each entry of the file to E5h.
unfoldable pub erased_at : File → ℕ → List ℕ → List ℕ
erased_at f e s = set s (entry_size * e) 0xE5 if is_of s f e else s

unfoldable pub erased : Kind → File → List ℕ → List ℕ
erased kind f s = turns (erased_at f) (entries kind) s

-- Rename changes the low seven bits of the eleven bytes in each.
unfoldable pub low_changed : List ℕ → ℕ → List ℕ → ℕ → ℕ
low_changed s at name k = byte s (at + k) / 128 * 128 + byte name k

unfoldable pub renamed_at : File → List ℕ → ℕ → List ℕ → List ℕ
renamed_at f name e s = put (name_at e) (tab (low_changed s (name_at e) name) 11) s if is_of s f e else s

unfoldable pub renamed : Kind → File → List ℕ → List ℕ → List ℕ
renamed kind f name s = turns (renamed_at f name) (entries kind) s

unfoldable pub does23 : Kind → File → File → Buffers → Outcome
does23 kind f new b = accept (with_image b (renamed kind f new.name b.image))

-- ---- Reading and writing records

abbrev pub spot : ℕ → Bool → ℕ → Bool → Spot
spot e fresh block taken = record { entry = e; fresh = fresh; block = block; taken = taken }

-- A missing extent takes the lowest empty entry; a missing block is the lowest free one. e is the extent's entry (the number of entries: missing).
unfoldable pub spot_at : Kind → List ℕ → ℕ → ℕ → Spot
spot_at kind s e r =
    spot (free_entry kind s) true (free_block kind s) true if no_entry kind e else
    spot e false (free_block kind s) true if eqb (block_in kind s e r) 0 else
    spot e false (block_in kind s e r) false

-- with the caller's user, the eleven bytes of extent 0, the ex and module of the extent and the rest zeros
unfoldable pub new_entry : List ℕ → ℕ → File → ℕ → List ℕ
new_entry s e₀ f x = f.user ∷ (tab (byte_from s (name_at e₀)) 11 ++ (x % 32 ∷ 0 ∷ x / 32 ∷ replicate 17 0))

-- the image with a new entry where the extent was missing; e₀ is the entry of extent 0
unfoldable pub entered : Spot → ℕ → File → ℕ → List ℕ → List ℕ
entered w e₀ f r s = put (entry_size * w.entry) (new_entry s e₀ f (r / extent_records)) s if w.fresh else s

-- .. with a block that was taken in the extent's map
unfoldable pub mapped : Kind → Spot → ℕ → List ℕ → List ℕ
mapped kind w r s = put (map_at kind w.entry (map_place kind r)) (le (width kind) w.block) s if w.taken else s

-- the record's place in its extent plus one
abbrev pub count_to : ℕ → ℕ
count_to r = r % extent_records + 1

-- After 34, 40 and 41 the extent's count becomes the greater of itself and the record's place in its extent plus one.
unfoldable pub counted : Spot → ℕ → List ℕ → List ℕ
counted w r s = set s (entry_size * w.entry + 15) (count_to r) if ltb (entry_byte s w.entry 15) (count_to r) else s

-- Function 40 clears the other seven records, or fifteen, of a block it has just taken (the written one is stored after that).
unfoldable pub cleared : Kind → Bool → Spot → List ℕ → List ℕ
cleared kind zeros w s = put (block_size kind * w.block) (replicate (block_size kind) 0) s if zeros and w.taken else s

-- .. with the record's 128 bytes
unfoldable pub stored : Kind → Spot → ℕ → List ℕ → List ℕ → List ℕ
stored kind w r v s = put (record_at kind w.block r) (take record_size v) s

unfoldable pub written : Kind → Bool → Spot → ℕ → File → ℕ → List ℕ → List ℕ → List ℕ
written kind zeros w e₀ f r v s = stored kind w r v (cleared kind zeros w (counted w r (mapped kind w r (entered w e₀ f r s))))

-- the record in a block of the image
unfoldable pub contents : Kind → List ℕ → ℕ → ℕ → List ℕ
contents kind s block r = part (record_at kind block r) record_size s

-- 33 copies the record to DMA bytes 0 to 127.
unfoldable pub does33 : Kind → ℕ → ℕ → Buffers → Outcome
does33 kind e r b = accept (with_dma b (put 0 (contents kind b.image (block_in kind b.image e r) r) b.dma))

-- 34 and 40 take it from there; ..
unfoldable pub does34 : Kind → Bool → File → ℕ → ℕ → ℕ → Buffers → Outcome
does34 kind zeros f e₀ e r b =
    accept (with_image b (written kind zeros (spot_at kind b.image e r) e₀ f r b.dma b.image))

-- .. 41 from bytes 128 to 255.
unfoldable pub does41 : Kind → File → ℕ → ℕ → ℕ → Buffers → Outcome
does41 kind f e₀ e r b =
    accept (with_image b (written kind false (spot_at kind b.image e r) e₀ f r (part record_size record_size b.dma) b.image))

-- ---- 35 (T-05)

-- 128 times the highest extent plus that extent's count
unfoldable pub size_of : List ℕ → Found → ℕ
size_of s x = extent_records * x.extent + entry_byte s x.last 15

-- the size of a file, 0 where there is none
unfoldable pub file_size : Kind → List ℕ → File → ℕ
file_size kind s f = 0 if missing kind (look_up kind s f) else size_of s (look_up kind s f)

-- FCB bytes 33 to 35 become the size, low byte first (up to 262,144, under rule 1 to 65,536: a law).
unfoldable pub does35 : Found → Buffers → Outcome
does35 x b = accept (with_fcb b (put 33 (le 3 (size_of b.image x)) b.fcb))

-- ---- Items gone: Close, 43, 143

-- an item of the process on the file
unfoldable pub is_of_file : ℕ → File → Item → Bool
is_of_file p f it = not (eqb it.kind an_empty) and eqb it.process p and same_name it.name f.name

-- Close takes away the caller's open and its locks on that file; ..
unfoldable pub unless_of_file : ℕ → File → Item → Item
unless_of_file p f it = empty_place if is_of_file p f it else it

unfoldable pub closed : ℕ → File → LockList → LockList
closed p f l = with_items l (map (unless_of_file p f) l.items)

-- .. 43 its locks in the run; ..
unfoldable pub is_in_run : ℕ → File → ℕ → ℕ → Item → Bool
is_in_run p f r n it = eqb it.kind a_lock and leb r it.number and ltb it.number (r + n) and is_of_file p f it

unfoldable pub unless_in_run : ℕ → File → ℕ → ℕ → Item → Item
unless_in_run p f r n it = empty_place if is_in_run p f r n it else it

unfoldable pub unlocked_run : ℕ → File → ℕ → ℕ → LockList → LockList
unlocked_run p f r n l = with_items l (map (unless_in_run p f r n) l.items)

-- .. 143 all its items.
unfoldable pub unless_by : ℕ → Item → Item
unless_by p it = empty_place if eqb it.process p else it

unfoldable pub without_by : ℕ → LockList → LockList
without_by p l = with_items l (map (unless_by p) l.items)

-- and its position becomes 64 (128)
unfoldable pub terminated : Kind → ℕ → LockList → LockList
terminated kind p l = moved_to p (entries kind) (without_by p l)

unfoldable pub does16 : ℕ → LockList → File → Buffers → Outcome
does16 p l f b = accept (with_list b (pack (closed p f l)))

-- Delete takes away the caller's open and the caller's locks on the file (T-03): the list is left as Close leaves it, and as it was
-- where the caller has the file not open.
unfoldable pub closed_where : ℕ → LockList → ℕ → File → List ℕ → List ℕ
closed_where p l o f list = pack (closed p f l) if is_opened o else list

unfoldable pub does19 : Kind → ℕ → LockList → ℕ → File → Buffers → Outcome
does19 kind p l o f b = accept (with_image (with_list b (closed_where p l o f b.list)) (erased kind f b.image))

unfoldable pub does143 : Kind → ℕ → LockList → Buffers → Outcome
does143 kind p l b = accept (with_list b (pack (terminated kind p l)))

-- ---- 42 and 43

-- New items take the lowest empty places, locks in rising record order; a record the caller already holds gets none.
unfoldable pub locked_at : ℕ → File → ℕ → ℕ → LockList → LockList
locked_at p f r k l = l if held l p f (r + k) else placed (fresh_lock p f.name (r + k)) l

unfoldable pub locked_run : ℕ → File → ℕ → ℕ → LockList → LockList
locked_run p f r n l = turns (locked_at p f r) n l

-- in modes 0 and 2 success with no effect
unfoldable pub does42 : ℕ → LockList → ℕ → File → ℕ → ℕ → Buffers → Outcome
does42 p l o f r n b = accept (with_list b (pack (locked_run p f r n l))) if eqb (item_at l o).mode mode_unlocked else accept b

unfoldable pub does43 : ℕ → LockList → ℕ → File → ℕ → ℕ → Buffers → Outcome
does43 p l o f r n b = accept (with_list b (pack (unlocked_run p f r n l))) if eqb (item_at l o).mode mode_unlocked else accept b

-- ---- 46

-- 46 puts eight times, or sixteen times, the number of free blocks in DMA bytes 0 to 2, low byte first.
unfoldable pub does46 : Kind → Buffers → Outcome
does46 kind b = accept (with_dma b (put 0 (le 3 (block_records kind * free_blocks kind b.image)) b.dma))
