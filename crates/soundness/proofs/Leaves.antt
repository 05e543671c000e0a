-- What a call may do, and what stands when it does: one leaf for each end of the tables. Assumes nothing.
use Prim.Native.Nat.{ℕ, ◌+◌, ◌-◌, ◌/◌, ◌≤◌, ◌<◌}
use mathlib.Core.Path.{◌≡◌}
use mathlib.Core.Bool.{Bool, true, false}
use mathlib.Core.List.{List, map}
use mathlib.Core.Logic.{◌⊎◌}
use lib.ListN.{length}
use Rattle.words.specs.Bytes.{part}
use lib.Dec.{eqb, leb}
use Rattle.words.specs.Tests.{◌and◌, any, count}
use Rattle.rules.specs.declared.kind.Kind.{Kind}
use Rattle.rules.specs.Kinds.{entries, top}
use Rattle.rules.specs.declared.file.File.{File}
use Rattle.rules.specs.declared.item.Item.{Item}
use Rattle.rules.specs.declared.list.LockList.{LockList}
use Rattle.rules.specs.declared.routine.Routine.TheVariants.{Open, Close, Delete, Make, Rename, Read, Write, Size, WriteZeros}
use Rattle.rules.specs.declared.routine.Routine.TheVariants.{TestWrite, Lock, Unlock, FreeSpace, Terminate}
use Rattle.std.specs.Prelude.{Some}
use Rattle.rules.specs.Serves.{Buffers, Outcome, buffers, outcome, chosen, is_search, with_fcb, with_dma, with_list, with_image}
use Rattle.rules.specs.Drive.{blocks, legal_name, entry_of, free_entry, free_block, block_in, block_of}
use Rattle.rules.specs.Locks.{item_at, moved_to, with_items, unpack, pack, open_of, any_open, locked_by_other, opens_by, locks_by, free_place, free_places}
use Rattle.rules.specs.Asks.{caller_file, new_file, record_of, open_mode, make_mode}
use Rattle.rules.specs.Codes.{stands_against_at, stops_delete, is_new}
use Rattle.rules.proofs.Passed.{Passed}
use Rattle.rules.specs.Effects.{accept, opened, made, erased, renamed, written, spot_at, closed, locked_run, unlocked_run, terminated}

-- the list as its buffer has it, ..
abbrev pub list_of : Buffers → LockList
list_of b = unpack b.list

-- .. the caller's file, ..
abbrev pub file_by : ℕ → Buffers → File
file_by p b = caller_file p (unpack b.list) b.fcb

-- .. and (23) the file under its new name
abbrev pub new_by : ℕ → Buffers → File
new_by p b = new_file p (unpack b.list) b.fcb

-- the place of the caller's open of its file, ..
abbrev pub open_by : ℕ → Buffers → ℕ
open_by p b = open_of (unpack b.list) p (caller_file p (unpack b.list) b.fcb)

-- .. and the mode of that open
abbrev pub mode_by : ℕ → Buffers → ℕ
mode_by p b = (item_at (unpack b.list) (open_of (unpack b.list) p (caller_file p (unpack b.list) b.fcb))).mode

-- ---- what stands at each

pub record OpensAgain (p : ℕ) (b : Buffers) : Type 0 where
  -- the caller has its file open, ..
  pub is_open : open_by p b < 64
  -- .. in the mode that the FCB asks for
  pub same-mode : mode_by p b ≡ open_mode b.fcb

pub record MayOpen (kind : Kind) (p : ℕ) (b : Buffers) : Type 0 where
  -- the name in the FCB is legal
  pub legal : legal_name b.fcb 1 ≡ true
  -- the caller's file is on the image
  pub there : entry_of kind b.image (file_by p b) 0 < entries kind
  -- the caller has it not open
  pub unopened : 64 ≤ open_by p b
  -- no open of the file by another process stands against one in the mode that the FCB asks for
  pub none_against : any (stands_against_at (list_of b) p (file_by p b) (open_mode b.fcb)) 64 ≡ false
  -- the caller's opens are fewer than the open limit
  pub within : opens_by (list_of b) p < (list_of b).openlimit
  -- a place below the capacity is empty
  pub room : free_place (list_of b) < (list_of b).capacity

pub record MayMake (kind : Kind) (p : ℕ) (b : Buffers) : Type 0 where
  -- the name in the FCB is legal
  pub legal : legal_name b.fcb 1 ≡ true
  -- the caller's file is not on the image
  pub gone : entries kind ≤ entry_of kind b.image (file_by p b) 0
  -- the caller's opens are fewer than the open limit
  pub within : opens_by (list_of b) p < (list_of b).openlimit
  -- a place below the capacity is empty
  pub room : free_place (list_of b) < (list_of b).capacity
  -- an entry of the directory is empty
  pub entry_room : free_entry kind b.image < entries kind

pub record MayDelete (kind : Kind) (p : ℕ) (b : Buffers) : Type 0 where
  -- the name in the FCB is legal
  pub legal : legal_name b.fcb 1 ≡ true
  -- the caller's file is on the image
  pub there : entry_of kind b.image (file_by p b) 0 < entries kind
  -- no other process has it open
  pub none_others : stops_delete p (list_of b) (file_by p b) ≡ false

pub record MayRename (kind : Kind) (p : ℕ) (b : Buffers) : Type 0 where
  -- the name in the FCB is legal, ..
  pub legal : legal_name b.fcb 1 ≡ true
  -- .. and so is the new one
  pub legal_new : legal_name b.fcb 17 ≡ true
  -- the caller's file is on the image
  pub there : entry_of kind b.image (file_by p b) 0 < entries kind
  -- nobody has it open, not even the caller
  pub unopened : any_open (list_of b) (file_by p b) ≡ false
  -- under its new name there is no file on the image
  pub gone_new : entries kind ≤ entry_of kind b.image (new_by p b) 0

pub record MayWrite (kind : Kind) (p : ℕ) (b : Buffers) : Type 0 where
  -- the caller has its file open
  pub is_open : open_by p b < 64
  -- the record number is not above the highest
  pub fits : record_of b.fcb ≤ top kind
  -- no other process has locked the record
  pub unlocked_by_others : locked_by_other (list_of b) p (file_by p b) (record_of b.fcb) ≡ false
  -- where the record's extent is missing, an entry of the directory is empty; ..
  pub entry_room : (leb (entries kind) (entry_of kind b.image (file_by p b) (record_of b.fcb / 128)) and leb (entries kind)
      (free_entry kind b.image)) ≡ false
  -- .. where the record has no block, one is free
  pub block_room : (eqb (block_in kind b.image (entry_of kind b.image (file_by p b) (record_of b.fcb / 128)) (record_of b.fcb)) 0
      and leb (blocks kind b.image) (free_block kind b.image)) ≡ false

pub record MayLock (kind : Kind) (p c : ℕ) (b : Buffers) : Type 0 where
  -- the caller has its file open, ..
  pub is_open : open_by p b < 64
  -- .. unlocked
  pub is-unlocked : mode_by p b ≡ 1
  -- the number of the run's last record is not above the highest
  pub fits : record_of b.fcb + c - 1 ≤ top kind
  -- each record of the run has a block, ..
  pub have_blocks : (k : ℕ) → k < c → block_of kind b.image (file_by p b) (record_of b.fcb + k) ≡ 0 → ⊥
  -- .. and no other process has locked it
  pub none_others : (k : ℕ) → k < c → locked_by_other (list_of b) p (file_by p b) (record_of b.fcb + k) ≡ false
  -- the caller's locks and the records of the run together are within the lock limit
  pub within : locks_by (list_of b) p + c ≤ (list_of b).locklimit
  -- the records of the run that the caller does not hold are no more than the free places
  pub room : count (is_new (list_of b) p (file_by p b) (record_of b.fcb)) c ≤ free_places (list_of b)

pub record MayUnlock (p : ℕ) (b : Buffers) : Type 0 where
  -- the caller has its file open, ..
  pub is_open : open_by p b < 64
  -- .. unlocked
  pub is-unlocked : mode_by p b ≡ 1

-- 42 and 43 in modes 0 and 2
pub record Idle (p : ℕ) (b : Buffers) : Type 0 where
  -- the caller has its file open, ..
  pub is_open : open_by p b < 64
  -- .. but not unlocked
  pub not_unlocked : mode_by p b ≡ 1 → ⊥

-- ---- the image after a write, from the DMA's bytes v
-- the image with the call's record written, from the bytes v
abbrev pub image_written : Kind → Bool → ℕ → Buffers → List ℕ → List ℕ
image_written kind zeros p b v =
    written kind zeros (spot_at kind b.image (entry_of kind b.image (file_by p b) (record_of b.fcb / 128)) (record_of b.fcb))
    (entry_of kind b.image (file_by p b) 0) (file_by p b) (record_of b.fcb) v b.image

-- ---- the leaves

pub data Leaf (kind : Kind) (n p c : ℕ) (b : Buffers) : Outcome → Type 0 where
  refused : (code : ℕ) → (code ≡ 0 → ⊥) → Leaf kind n p c b (outcome code b)
  reopened : chosen n ≡ Some Open → Passed kind p c b → OpensAgain p b → (fcb : List ℕ) → Leaf kind n p c b (accept (buffers fcb b.dma b.list b.image))
  newly_opened : chosen n ≡ Some Open → Passed kind p c b → MayOpen kind p b → (fcb : List ℕ)
      → Leaf kind n p c b (accept (buffers fcb b.dma (pack (opened p (file_by p b) (open_mode b.fcb) (list_of b))) b.image))
  newly_made : chosen n ≡ Some Make → Passed kind p c b → MayMake kind p b → (fcb : List ℕ)
      → Leaf kind n p c b (accept (buffers fcb b.dma (pack (opened p (file_by p b) (make_mode b.fcb) (list_of b)))
      (made (free_entry kind b.image) (file_by p b) b.image)))
  now_closed : chosen n ≡ Some Close → Passed kind p c b → open_by p b < 64 → Leaf kind n p c b (accept (with_list b (pack (closed p (file_by p b) (list_of b)))))
  now_erased : chosen n ≡ Some Delete → Passed kind p c b → MayDelete kind p b → 64 ≤ open_by p b
      → Leaf kind n p c b (accept (with_image b (erased kind (file_by p b) b.image)))
  now_dropped : chosen n ≡ Some Delete → Passed kind p c b → MayDelete kind p b → open_by p b < 64
      → Leaf kind n p c b (accept (with_image (with_list b (pack (closed p (file_by p b) (list_of b)))) (erased kind (file_by p b) b.image)))
  now_renamed : chosen n ≡ Some Rename → Passed kind p c b → MayRename kind p b
      → Leaf kind n p c b (accept (with_image b (renamed kind (file_by p b) (new_by p b).name b.image)))
  now_read : chosen n ≡ Some Read → Passed kind p c b → (dma : List ℕ) → Leaf kind n p c b (accept (with_dma b dma))
  now_sized : chosen n ≡ Some Size → Passed kind p c b → (fcb : List ℕ) → Leaf kind n p c b (accept (with_fcb b fcb))
  now_written : (chosen n ≡ Some Write) ⊎ (chosen n ≡ Some WriteZeros) → Passed kind p c b → MayWrite kind p b → (zeros : Bool)
      → Leaf kind n p c b (accept (with_image b (image_written kind zeros p b b.dma)))
  now_rewritten : chosen n ≡ Some TestWrite → Passed kind p c b → MayWrite kind p b → (block_of kind b.image (file_by p b) (record_of b.fcb) ≡ 0 → ⊥)
      → (v : List ℕ) → 128 ≤ length v → v ≡ part 128 128 b.dma → Leaf kind n p c b (accept (with_image b (image_written kind false p b v)))
  now_locked : chosen n ≡ Some Lock → Passed kind p c b → MayLock kind p c b
      → Leaf kind n p c b (accept (with_list b (pack (locked_run p (file_by p b) (record_of b.fcb) c (list_of b)))))
  lock_idle : chosen n ≡ Some Lock → Passed kind p c b → Idle p b → Leaf kind n p c b (accept b)
  now_unlocked : chosen n ≡ Some Unlock → Passed kind p c b → MayUnlock p b
      → Leaf kind n p c b (accept (with_list b (pack (unlocked_run p (file_by p b) (record_of b.fcb) c (list_of b)))))
  unlock_idle : chosen n ≡ Some Unlock → Passed kind p c b → Idle p b → Leaf kind n p c b (accept b)
  now_told : chosen n ≡ Some FreeSpace → Passed kind p c b → (dma : List ℕ) → Leaf kind n p c b (accept (with_dma b dma))
  now_ended : chosen n ≡ Some Terminate → Passed kind p c b → Leaf kind n p c b (accept (with_list b (pack (terminated kind p (list_of b)))))
  now_searched : is_search (chosen n) ≡ true → Passed kind p c b → (answer e : ℕ) → e ≤ entries kind → (dma : List ℕ)
      → Leaf kind n p c b (outcome answer (buffers b.fcb dma
      (pack (moved_to p e (with_items (list_of b) (map (λ (it : Item). it) (list_of b).items)))) b.image))
