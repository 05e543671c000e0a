-- 22: the outcome at each end of its routine. Assumes nothing.
use Rattle.std.proofs.Common.{ℕ, ◌<◌, ◌≡◌, refl, sym, List, Some, arith, leb-false}
use Rattle.words.specs.Tables.{first_of}
use Rattle.words.proofs.Tables.{row_off, row_rest}
use Rattle.rules.specs.declared.code.Refusal.{Refusal}
use Rattle.rules.specs.declared.file.File.{File}
use Rattle.rules.specs.declared.file.Found.{Found}
use Rattle.rules.specs.declared.kind.Kind.{Kind}
use Rattle.rules.specs.declared.list.LockList.{LockList}
use Rattle.rules.specs.declared.routine.Routine.TheVariants.{Make}
use Rattle.rules.specs.Refusals.{code_of}
use Rattle.rules.specs.Kinds.{entries}
use Rattle.rules.specs.Serves.{Buffers, Did, buffers}
use Rattle.rules.specs.Drive.{look_up, free_entry}
use Rattle.rules.specs.Locks.{unpack, pack, free_place}
use Rattle.rules.specs.Asks.{caller_file, make_mode}
use Rattle.rules.specs.Codes.{rows22}
use Rattle.rules.specs.Effects.{fcb_opened, opened, made, makes, does22}
use Rattle.rules.specs.Call.{asked_by, asked, rows_of, effect_of, served}
use Rattle.rules.proofs.Ends.{did_left}
use Rattle.rules.proofs.Refused.{did_err, did_ok}
use Rattle.files.proofs.Opening.{place_within}
use Rattle.files.specs.By.{by22}

-- the lowest empty entry is there
pub make_room : (kind : Kind) (p : ℕ) (l : LockList) (x : Found) (fcb s : List ℕ) → 0 ≡ first_of (rows22 kind p l x fcb s)
    → free_entry kind s < entries kind
unfolding rows22
make_room kind p l x fcb s h =
    leb-false (entries kind) (free_entry kind s)
    (row_off 255 _ _ (λ y. omega arith)
    (row_rest 3071 _ _ (λ y. omega arith) (row_rest 2815 _ _ (λ y. omega arith)
    (row_rest 2303 _ _ (λ y. omega arith) (row_rest 2559 _ _ (λ y. omega arith) (sym h))))))

module _ (kind : Kind) (p : ℕ) (l : LockList) (f : File) (b : Buffers) where
  pub make_refused : (why : Refusal) → code_of why ≡ first_of (rows22 kind p l (look_up kind b.image f) b.fcb b.image) → Did (by22 kind p l f b) (code_of why) b
  unfolding by22
  make_refused why h = did_err _ b _ why h

  pub make_done : (fcb list image : List ℕ) → 0 ≡ first_of (rows22 kind p l (look_up kind b.image f) b.fcb b.image)
      → image ≡ made (free_entry kind b.image) f b.image
      → fcb ≡ fcb_opened image (free_entry kind b.image) (make_mode b.fcb) (free_place l) b.fcb
      → list ≡ pack (opened p f (make_mode b.fcb) l) → Did (by22 kind p l f b) 0 (buffers fcb b.dma list image)
  unfolding by22 does22 makes
  make_done fcb list image h i e g = did_ok _ b _ 0 _ h (did_left refl (rw i at e) refl g i)

pub ruleset making = (place_within, make_room, make_refused, make_done)

-- the call on the buffers
pub make_served : (kind : Kind) (p c : ℕ) (b : Buffers)
    → served kind (Some Make) p c b ≡ by22 kind p (unpack b.list) (caller_file p (unpack b.list) b.fcb) b
unfolding served rows_of effect_of asked asked_by by22
make_served kind p c b = refl
