-- 35: the outcome at each end of its routine. Assumes nothing.
use Rattle.std.proofs.Common.{ℕ, ◌+◌, ◌*◌, ◌≤◌, ◌≡◌, refl, true, List, Some}
use Rattle.words.specs.Bytes.{put, le}
use Rattle.words.specs.Tables.{first_of}
use Rattle.rules.specs.declared.code.Refusal.{Refusal}
use Rattle.rules.specs.declared.file.File.{File}
use Rattle.rules.specs.declared.file.Found.{Found}
use Rattle.rules.specs.declared.kind.Kind.{Kind}
use Rattle.rules.specs.declared.routine.Routine.TheVariants.{Size}
use Rattle.rules.specs.Refusals.{code_of}
use Rattle.rules.specs.Serves.{Buffers, Did, with_fcb}
use Rattle.rules.specs.Drive.{entry_byte, look_up, sound_image}
use Rattle.rules.specs.Locks.{unpack}
use Rattle.rules.specs.Asks.{caller_file}
use Rattle.rules.specs.Codes.{rows35}
use Rattle.rules.specs.Effects.{size_of, does35}
use Rattle.rules.specs.Call.{asked_by, asked, rows_of, effect_of, served}
use Rattle.rules.proofs.Ends.{did_left}
use Rattle.rules.proofs.Highest.{highest_small}
use Rattle.rules.proofs.Refused.{did_err, did_ok}
use Rattle.files.specs.By.{by35}

-- the highest extent that is found on a sound image is below 2,048
pub extent_small : (kind : Kind) (s : List ℕ) (f : File) → sound_image kind s ≡ true → (look_up kind s f).extent ≤ 2047
unfolding look_up
extent_small kind s f h = highest_small kind s f h

module _ (kind : Kind) (f : File) (b : Buffers) where
  pub size_refused : (why : Refusal) → code_of why ≡ first_of (rows35 kind (look_up kind b.image f) b.fcb) → Did (by35 kind f b) (code_of why) b
  unfolding by35
  size_refused why h = did_err _ b _ why h

  -- s and e: the entry that was read; n: the size, t: its bytes
  pub size_done : (x : Found) (s t fcb : List ℕ) (e n : ℕ) → x ≡ look_up kind b.image f → 0 ≡ first_of (rows35 kind x b.fcb) → s ≡ b.image → e ≡ x.last
      → n ≡ 128 * x.extent + entry_byte s e 15 → t ≡ le 3 n → fcb ≡ put 33 t b.fcb → Did (by35 kind f b) 0 (with_fcb b fcb)
  unfolding by35 does35 size_of
  size_done x s t fcb e n hx h hs he hn ht hf =
      rw (← hx) (did_ok _ b _ 0 _ h (did_left refl (rw (← hs, ← he, ← hn, ← ht) hf) refl refl refl))

pub ruleset measuring = (extent_small, size_refused, size_done)

-- the call on the buffers
pub size_served : (kind : Kind) (p c : ℕ) (b : Buffers) → served kind (Some Size) p c b ≡ by35 kind (caller_file p (unpack b.list) b.fcb) b
unfolding served rows_of effect_of asked asked_by by35
size_served kind p c b = refl
