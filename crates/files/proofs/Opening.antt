-- 15 and 16: the outcome at each end of their routines. Assumes nothing.
use Rattle.std.proofs.Common.{ℕ, ◌≤◌, ◌<◌, ◌≡◌, refl, List, [], Some, lt-ltb, le-ltb}
use Rattle.words.specs.Tests.{◌if◌else◌}
use Rattle.words.specs.Tables.{first_of}
use Rattle.words.proofs.Tests.{lowest_within}
use Rattle.words.proofs.Sets.{codes, and_left, and_right, and_both, row_yes, row_no, row_none, not_of_false, not_of_true}
use Rattle.rules.specs.declared.code.Refusal.{Refusal}
use Rattle.rules.specs.declared.code.Refusal.TheVariants.{CloseNotOpen}
use Rattle.rules.specs.declared.file.File.{File}
use Rattle.rules.specs.declared.kind.Kind.{Kind}
use Rattle.rules.specs.declared.list.LockList.{LockList}
use Rattle.rules.specs.declared.routine.Routine.TheVariants.{Open, Close}
use Rattle.rules.specs.Refusals.{code_of}
use Rattle.rules.specs.Serves.{Buffers, Did, with_list, buffers}
use Rattle.rules.specs.Drive.{look_up}
use Rattle.rules.specs.Locks.{unpack, pack, open_of, is_opened, free_place, is_empty_at}
use Rattle.rules.specs.Asks.{caller_file, open_mode}
use Rattle.rules.specs.Codes.{rows15, rows16}
use Rattle.rules.specs.Effects.{fcb_opened, opened, closed, does15, does16}
use Rattle.rules.specs.Call.{asked_by, asked, rows_of, effect_of, served}
use Rattle.rules.proofs.Ends.{did_left}
use Rattle.rules.proofs.Refused.{did_err, did_ok}
use Rattle.files.specs.By.{by15}

-- a place is the number of a byte
pub place_within : (l : LockList) → free_place l ≤ l.capacity
unfolding free_place
place_within l = lowest_within (is_empty_at l) l.capacity

-- ---- 15

-- its table, where the caller has the file open
pub ruleset opens = (codes, and_left, and_right, and_both)

module _ (kind : Kind) (p : ℕ) (l : LockList) (o : ℕ) (f : File) (b : Buffers) where
  pub open_refused : (why : Refusal) → code_of why ≡ first_of (rows15 kind p l o f (look_up kind b.image f) b.fcb)
      → Did (by15 kind p l o f b) (code_of why) b
  unfolding by15
  open_refused why h = did_err _ b _ why h

  module _ (h : 0 ≡ first_of (rows15 kind p l o f (look_up kind b.image f) b.fcb)) (fcb : List ℕ) where
    -- open in the same mode
    pub open_again : o < 64 → fcb ≡ fcb_opened b.image (look_up kind b.image f).entry (open_mode b.fcb) o b.fcb
        → Did (by15 kind p l o f b) 0 (buffers fcb b.dma b.list b.image)
    unfolding by15 does15 is_opened ◌if◌else◌
    open_again i e = did_ok _ b _ 0 _ h (rw (lt-ltb _ _ i) (did_left refl e refl refl refl))

    -- a new item
    pub open_new : (list : List ℕ) → 64 ≤ o → fcb ≡ fcb_opened b.image (look_up kind b.image f).entry (open_mode b.fcb) (free_place l) b.fcb
        → list ≡ pack (opened p f (open_mode b.fcb) l) → Did (by15 kind p l o f b) 0 (buffers fcb b.dma list b.image)
    unfolding by15 does15 is_opened ◌if◌else◌
    open_new list i e g = did_ok _ b _ 0 _ h (rw (le-ltb _ _ i) (did_left refl e refl g refl))

pub ruleset opening = (place_within, open_refused, open_again, open_new)

-- the call on the buffers
pub open_served : (kind : Kind) (p c : ℕ) (b : Buffers)
    → (let l = unpack b.list in let f = caller_file p l b.fcb in served kind (Some Open) p c b ≡ by15 kind p l (open_of l p f) f b)
unfolding served rows_of effect_of asked asked_by by15
open_served kind p c b = refl

-- ---- 16

module _ (kind : Kind) (p c : ℕ) (b : Buffers) where
  pub close_refused : (let l = unpack b.list in 64 ≤ open_of l p (caller_file p l b.fcb)) → Did (served kind (Some Close) p c b) (code_of CloseNotOpen) b
  unfolding served rows_of effect_of asked asked_by rows16 is_opened
  close_refused g = did_err _ b _ CloseNotOpen (row_yes _ _ _ [] (not_of_false _ (le-ltb _ _ g)) refl)

  pub close_done : (list : List ℕ)
      → (let l = unpack b.list in let f = caller_file p l b.fcb in (open_of l p f < 64) × (list ≡ pack (closed p f l)))
      → Did (served kind (Some Close) p c b) 0 (with_list b list)
  unfolding served rows_of effect_of asked asked_by rows16 is_opened does16
  close_done list g = did_ok _ b _ 0 _ (row_no _ _ _ [] (not_of_true _ (lt-ltb _ _ g.0)) (row_none _ refl)) (did_left refl refl refl g.1 refl)

pub ruleset closing = (close_refused, close_done)
