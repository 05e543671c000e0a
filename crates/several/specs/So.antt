-- How a run of records stands so far. Assumes nothing.
use Rattle.std.specs.Prelude.{ℕ, ◌≤◌, ◌<◌, ◌≡◌, Bool, true, false, List, length}
use Rattle.words.specs.Tests.{lowest}
use Rattle.rules.specs.declared.file.File.{File}
use Rattle.rules.specs.declared.list.LockList.{LockList}
use Rattle.rules.specs.Serves.{Buffers, with_dma, with_image}
use Rattle.rules.specs.Drive.{entry_of, sound_image}
use Rattle.rules.specs.Locks.{item_at, unpack, open_of, sound_list}
use Rattle.rules.specs.Asks.{caller_file, record_of}
use Rattle.rules.specs.Codes.{bad_drive, is_others}
use Rattle.rules.specs.Call.{Ready}
use Rattle.rules.specs.Several.{run, several}
use Rattle.rules.specs.declared.kind.Kind.{Kind}
use Rattle.directory.specs.Runs.{Known}

-- what the call has found before the first record: the caller's file, its open at place o, the record
pub record Asks (kind : Kind) (n p c : ℕ) (f : File) (o r : ℕ) (b : Buffers) : Type 0 where
  pub ready : Ready kind b
  pub drive : bad_drive n b.fcb ≡ false
  pub process_fits : p < 16
  pub run_fits : c ≤ 16
  pub file : f ≡ caller_file p (unpack b.list) b.fcb
  pub place : o ≡ open_of (unpack b.list) p f
  pub number : r ≡ record_of b.fcb

-- i records are read
pub record Reading (kind : Kind) (p : ℕ) (f : File) (r : ℕ) (b : Buffers) (i e : ℕ) (dma : List ℕ) : Type 0 where
  pub so_far : several kind 33 p i b ≡ run 0 i (with_dma b dma)
  pub long : length dma ≡ length b.dma
  pub known : Known kind b.image f r i e

unfoldable pub write_number : Bool → ℕ
write_number false = 34
write_number true = 40

-- the mode of the open, and how far into the run the first record is that another process has locked (c: none is)
pub record StopsAt (l : LockList) (p : ℕ) (f : File) (o r c mode locked : ℕ) : Type 0 where
  pub mode_is : mode ≡ (item_at l o).mode
  pub locked_is : locked ≡ lowest (is_others l p f r) c

-- i records are written, none of them locked by another; the image is now s, extent 0 at entry e₀
pub record Writing (kind : Kind) (zeros : Bool) (p : ℕ) (f : File) (e₀ r locked : ℕ) (b : Buffers) (i e : ℕ) (s : List ℕ) : Type 0 where
  pub so_far : several kind (write_number zeros) p i b ≡ run 0 i (with_image b s)
  pub long : length s ≡ length b.image
  pub image_sound : sound_image kind s ≡ true
  pub list_sound : sound_list kind b.list s ≡ true
  pub first : e₀ ≡ entry_of kind s f 0
  pub unlocked : i ≤ locked
  pub known : Known kind s f r i e
