-- "Codes, in the order tested": the general table, and the table of each call. A row applies where its test holds and none
-- before it does. l is the list, f the caller's file, x what looking it up tells, o the place of the caller's open of it (64:
-- none), e the entry of its extent with the record r (the number of entries: missing), s the image. Each table names the buffers that it reads. Assumes nothing.
use Rattle.std.specs.Prelude.{ℕ, ◌+◌, ◌/◌, Bool, not, List, [], ◌∷◌, ◌++◌, length, leb, ltb, eqb}
use Rattle.words.specs.Tests.{◌and◌, ◌or◌, any, lowest, count}
use Rattle.words.specs.Bytes.{byte}
use Rattle.words.specs.Tables.{Row, ◌∕◌, ◌when◌, only_if}
use Rattle.rules.specs.declared.kind.Kind.{Kind}
use Rattle.rules.specs.declared.file.File.{File}
use Rattle.rules.specs.declared.file.Found.{Found}
use Rattle.rules.specs.declared.item.Item.{Item}
use Rattle.rules.specs.declared.list.LockList.{LockList}
use Rattle.rules.specs.Serves.{Buffers, chosen, is_unknown, processes, fcb_size, dma_size, list_size}
use Rattle.rules.specs.Drive.{no_entry, blocks, extent_records, record_size, legal_name, entry_of, missing, read_only, free_entry, free_block, block_in, block_of, record_at, sound_image}
use Rattle.rules.specs.Locks.{places, item_at, mode_locked, mode_unlocked, mode_read_only, is_opened, any_open, opens_file_at, locked_by_other, held, opens_by, locks_by, free_place, free_places, sound_list}
use Rattle.rules.specs.Asks.{open_mode, last_of}
use Rattle.rules.specs.Kinds.{top}

-- ---- The general table

-- unknown function, process over 15, count outside 1 to 16, FCB, DMA or list of wrong length
unfoldable pub bad_numbers : ℕ → ℕ → ℕ → List ℕ → List ℕ → List ℕ → Bool
bad_numbers n p c fcb dma list =
    is_unknown (chosen n) or leb processes p or ltb c 1 or ltb 16 c
    or not (eqb (length fcb) fcb_size) or not (eqb (length dma) dma_size) or not (eqb (length list) list_size)

-- FCB byte 0 is neither 0 nor 1 (not for 46, 143)
unfoldable pub bad_drive : ℕ → List ℕ → Bool
bad_drive n fcb = ltb 1 (byte fcb 0) and not (eqb n 46) and not (eqb n 143)

-- the rows that look into the buffers
unfoldable pub rows_inside : Kind → ℕ → List ℕ → List ℕ → List ℕ → List Row
rows_inside kind n fcb list s =
    255 ∕ 1 when not (sound_image kind s)
    ∷ 255 ∕ 12 when not (sound_list kind list s)
    ∷ 255 ∕ 4 when bad_drive n fcb
    ∷ []

unfoldable pub rows_all : Kind → ℕ → ℕ → ℕ → Buffers → List Row
rows_all kind n p c b =
    255 ∕ 13 when bad_numbers n p c b.fcb b.dma b.list
    ∷ rows_inside kind n b.fcb b.list b.image

-- ---- 15

-- an open is another process's and cannot stand beside one in that mode
unfoldable pub stands_against : ℕ → ℕ → Item → Bool
stands_against p mode it = not (eqb it.process p) and (eqb mode mode_locked or not (eqb it.mode mode))

-- the item at place i is such an open of the file
unfoldable pub stands_against_at : LockList → ℕ → File → ℕ → ℕ → Bool
stands_against_at l p f mode i = opens_file_at l f i and stands_against p mode (item_at l i)

-- the rows for a file that the caller has not open
unfoldable pub rows_new : ℕ → LockList → File → List ℕ → List Row
rows_new p l f fcb =
    255 ∕ 5 when any (stands_against_at l p f (open_mode fcb)) places
    ∷ 255 ∕ 10 when leb l.openlimit (opens_by l p)
    ∷ 255 ∕ 11 when leb l.capacity (free_place l)
    ∷ []

-- Where the caller has it open in the same mode, that is success: the rows after it are then no more looked at.
unfoldable pub rows15 : Kind → ℕ → LockList → ℕ → File → Found → List ℕ → List Row
rows15 kind p l o f x fcb =
    255 ∕ 9 when not (legal_name fcb 1)
    ∷ 255 ∕ 0 when missing kind x
    ∷ 255 ∕ 5 when (is_opened o and not (eqb (item_at l o).mode (open_mode fcb)))
    ∷ only_if (not (is_opened o)) (rows_new p l f fcb)

-- ---- 22

unfoldable pub rows22 : Kind → ℕ → LockList → Found → List ℕ → List ℕ → List Row
rows22 kind p l x fcb s =
    255 ∕ 9 when not (legal_name fcb 1)
    ∷ 255 ∕ 8 when not (missing kind x)
    ∷ 255 ∕ 10 when leb l.openlimit (opens_by l p)
    ∷ 255 ∕ 11 when leb l.capacity (free_place l)
    ∷ 255 ∕ 0 when no_entry kind (free_entry kind s)
    ∷ []

-- ---- 16

unfoldable pub rows16 : ℕ → List Row
rows16 o = 255 ∕ 6 when not (is_opened o) ∷ []

-- ---- 19

-- the item at place i is another process's open of the file
unfoldable pub opens_elsewhere_at : LockList → ℕ → File → ℕ → Bool
opens_elsewhere_at l p f i = opens_file_at l f i and not (eqb (item_at l i).process p)

-- "only when another process has the file open" (T-03)
unfoldable pub stops_delete : ℕ → LockList → File → Bool
stops_delete p l f = any (opens_elsewhere_at l p f) places

unfoldable pub rows19 : Kind → ℕ → LockList → File → Found → List ℕ → List ℕ → List Row
rows19 kind p l f x fcb s =
    255 ∕ 9 when not (legal_name fcb 1)
    ∷ 255 ∕ 0 when missing kind x
    ∷ 255 ∕ 5 when stops_delete p l f
    ∷ 255 ∕ 3 when read_only s x.entry
    ∷ []

-- ---- 23

-- open by anybody, the caller too
unfoldable pub stops_rename : LockList → File → Bool
stops_rename l f = any_open l f

-- y is what looking up the new name tells
unfoldable pub rows23 : Kind → LockList → File → Found → Found → List ℕ → List ℕ → List Row
rows23 kind l f x y fcb s =
    255 ∕ 9 when (not (legal_name fcb 1) or not (legal_name fcb 17))
    ∷ 255 ∕ 0 when missing kind x
    ∷ 255 ∕ 5 when stops_rename l f
    ∷ 255 ∕ 3 when read_only s x.entry
    ∷ 255 ∕ 8 when not (missing kind y)
    ∷ []

-- ---- 33

-- 4/0 no such extent; 1/0 no block
unfoldable pub rows_there : Kind → List ℕ → ℕ → ℕ → List Row
rows_there kind s e r = 4 ∕ 0 when no_entry kind e ∷ 1 ∕ 0 when eqb (block_in kind s e r) 0 ∷ []

-- byte 35 above 3: for bytes, that the record number is 262,144 or more (under rule 1 above 0, 65,536 or more, T-11)
unfoldable pub rows33 : Kind → ℕ → ℕ → ℕ → List ℕ → List Row
rows33 kind o e r s = 10 ∕ 0 when not (is_opened o) ∷ 6 ∕ 0 when ltb (top kind) r ∷ rows_there kind s e r

-- ---- 34, 40

-- e₀ is the entry of extent 0
unfoldable pub rows_may : Kind → ℕ → LockList → ℕ → File → ℕ → ℕ → List ℕ → List Row
rows_may kind p l o f e₀ r s =
    10 ∕ 0 when not (is_opened o)
    ∷ 255 ∕ 3 when (read_only s e₀ or eqb (item_at l o).mode mode_read_only)
    ∷ 6 ∕ 0 when ltb (top kind) r
    ∷ 8 ∕ 0 when locked_by_other l p f r
    ∷ []

-- 5/0 extent missing and no empty entry; 2/0 block missing and none free
unfoldable pub rows_room : Kind → List ℕ → ℕ → ℕ → List Row
rows_room kind s e r =
    5 ∕ 0 when (no_entry kind e and no_entry kind (free_entry kind s))
    ∷ 2 ∕ 0 when (eqb (block_in kind s e r) 0 and leb (blocks kind s) (free_block kind s))
    ∷ []

unfoldable pub rows34 : Kind → ℕ → LockList → ℕ → File → ℕ → ℕ → ℕ → List ℕ → List Row
rows34 kind p l o f e₀ e r s = rows_may kind p l o f e₀ r s ++ rows_room kind s e r

-- ---- 35 (T-05)

unfoldable pub rows35 : Kind → Found → List ℕ → List Row
rows35 kind x fcb =
    255 ∕ 9 when not (legal_name fcb 1)
    ∷ 255 ∕ 0 when missing kind x
    ∷ []

-- ---- 41

-- byte k of the DMA differs from that of the part of the image from a place on
unfoldable pub differs : List ℕ → List ℕ → ℕ → ℕ → Bool
differs dma s at k = not (eqb (byte dma k) (byte s (at + k)))

-- first 128 DMA bytes differ from the record
unfoldable pub rows_differ : Kind → List ℕ → List ℕ → ℕ → ℕ → List Row
rows_differ kind dma s block r = 7 ∕ 0 when any (differs dma s (record_at kind block r)) record_size ∷ []

unfoldable pub rows41 : Kind → ℕ → LockList → ℕ → File → ℕ → ℕ → ℕ → List ℕ → List ℕ → List Row
rows41 kind p l o f e₀ e r dma s = rows_may kind p l o f e₀ r s ++ (rows_there kind s e r ++ rows_differ kind dma s (block_in kind s e r) r)

-- ---- 42, 43

-- DMA bytes 0 and 1 are the File ID: the open item's place number, which is below 64, low byte first
unfoldable pub is_file_id : List ℕ → ℕ → Bool
is_file_id dma o = eqb (byte dma 0) o and eqb (byte dma 1) 0

-- In modes 0 and 2 it is success, and no row after it is looked at.
unfoldable pub rows_run : Kind → LockList → ℕ → ℕ → ℕ → List ℕ → List Row → List Row
rows_run kind l o r n dma more =
    10 ∕ 0 when not (is_opened o)
    ∷ only_if (eqb (item_at l o).mode mode_unlocked)
    (13 ∕ 0 when not (is_file_id dma o)
    ∷ 6 ∕ 0 when ltb (top kind) (last_of r n)
    ∷ more)

-- record r + k lacks its extent; .. its extent or block
unfoldable pub no_extent : Kind → List ℕ → File → ℕ → ℕ → Bool
no_extent kind s f r k = no_entry kind (entry_of kind s f ((r + k) / extent_records))

unfoldable pub lacks : Kind → List ℕ → File → ℕ → ℕ → Bool
lacks kind s f r k = eqb (block_of kind s f (r + k)) 0

-- in rising order the first record lacking its extent (4/0) or block (1/0): how far into the run it is, n where there is none
unfoldable pub first_lacking : Kind → List ℕ → File → ℕ → ℕ → ℕ
first_lacking kind s f r n = lowest (lacks kind s f r) n

unfoldable pub rows_lacking : Kind → List ℕ → File → ℕ → ℕ → ℕ → List Row
rows_lacking kind s f r n k = 4 ∕ 0 when (ltb k n and no_extent kind s f r k) ∷ 1 ∕ 0 when ltb k n ∷ []

unfoldable pub is_others : LockList → ℕ → File → ℕ → ℕ → Bool
is_others l p f r k = locked_by_other l p f (r + k)

unfoldable pub is_new : LockList → ℕ → File → ℕ → ℕ → Bool
is_new l p f r k = not (held l p f (r + k))

unfoldable pub rows_take : ℕ → LockList → File → ℕ → ℕ → List Row
rows_take p l f r n =
    8 ∕ 0 when any (is_others l p f r) n
    ∷ 12 ∕ 0 when ltb l.locklimit (locks_by l p + n)
    ∷ 14 ∕ 0 when ltb (free_places l) (count (is_new l p f r) n)
    ∷ []

unfoldable pub rows42 : Kind → ℕ → LockList → ℕ → File → ℕ → ℕ → List ℕ → List ℕ → List Row
rows42 kind p l o f r n dma s = rows_run kind l o r n dma (rows_lacking kind s f r n (first_lacking kind s f r n) ++ rows_take p l f r n)

unfoldable pub rows43 : Kind → LockList → ℕ → ℕ → ℕ → List ℕ → List Row
rows43 kind l o r n dma = rows_run kind l o r n dma []
