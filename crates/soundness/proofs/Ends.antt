-- Each leaf of the walk: what its change of the image or of the list is. Assumes nothing.
use Prim.Native.Nat.{ℕ, ◌≤◌, ◌<◌}
use mathlib.Core.Path.{◌≡◌, refl, subst, ◌∙◌}
use mathlib.Core.Bool.{Bool, true, false}
use mathlib.Core.List.{List}
use mathlib.Core.Logic.{◌⊎◌}
use native.Mathlib.Omega.{arith}
use lib.ListN.{length}
use borrow.Author.Tests.{ltb-true}
use Rattle.words.specs.Bytes.{byte}
use Rattle.words.proofs.Tests.{all_at}
use Rattle.rules.specs.declared.kind.Kind.{Kind}
use Rattle.rules.specs.Kinds.{entries}
use Rattle.rules.specs.declared.file.File.{File}
use Rattle.rules.specs.Serves.{Buffers}
use Rattle.rules.specs.Drive.{is_empty, file_from, file_at, entry_of, free_entry, legal_name, is_of}
use Rattle.rules.specs.Locks.{user_of, is_low}
use Rattle.rules.specs.Asks.{caller_file, new_file, record_of}
use Rattle.rules.specs.Effects.{made, renamed}
use Rattle.rules.proofs.Sound.{SoundImage, sound_of}
use Rattle.rules.proofs.SoundList.{Shape, SoundLocks, unpack_shape, user_fits, list_sound_of}
use Rattle.soundness.proofs.Changes.{Change, Touches}
use Rattle.soundness.proofs.Entered.{made_change, made_is, none_there}
use Rattle.soundness.proofs.Blocks.{found_below}
use Rattle.soundness.proofs.Renamed.{renamed_sound, renamed_touches, renamed_new}
use Rattle.soundness.proofs.Written.{Old, New, written_step}
use Rattle.soundness.proofs.Run.{Takes}
use Rattle.soundness.proofs.Taken.{name_low, name_legal, caller_long, caller_user, caller_low, new_long, own_there, own_holder, own_legal}
use Rattle.rules.proofs.Passed.{Passed}
use Rattle.soundness.proofs.Leaves.{list_of, file_by, new_by, MayMake, MayRename, MayWrite, MayLock, image_written}

module _ (kind : Kind) (p c : ℕ) (b : Buffers) (ok : Passed kind p c b) where
  -- the image that was lent is sound, ..
  pub image-of : SoundImage kind b.image
  image-of = sound_of kind b.image ok.ready.image_sound

  -- .. the list has its shape, ..
  pub shape_of : Shape (list_of b)
  shape_of = unpack_shape b.list

  -- .. and is sound against the image;
  pub list-of : SoundLocks kind (list_of b) b.image
  list-of = list_sound_of kind b.list b.image ok.ready.list_sound

  -- the caller's user is one of 0 to 15
  pub caller_fits : user_of (list_of b) p ≤ 15
  caller_fits = user_fits (list_of b) p list-of.limits ok.process_fits

  -- 22: an entry of the file enters, and nothing is taken away; ..
  pub made_of : MayMake kind p b → (a m i j : ℕ) → Change kind b.image (made (free_entry kind b.image) (file_by p b) b.image) (file_by p b) a m i j
  unfolding caller_file
  made_of w = made_change kind b.image b.fcb (user_of (list_of b) p) image-of caller_fits w.legal w.gone w.entry_room

  -- .. the file is then there
  pub made_there : MayMake kind p b → entry_of kind (made (free_entry kind b.image) (file_by p b) b.image) (file_by p b) 0 < entries kind
  unfolding caller_file
  made_there w =
      found_below kind (made (free_entry kind b.image) (file_by p b) b.image) (file_by p b) 0 (free_entry kind b.image) w.entry_room
      (made_is kind b.image b.fcb (user_of (list_of b) p) image-of caller_fits w.legal w.gone w.entry_room)

  -- 23
  abbrev new : File
  new = new_by p b

  new_low : (k : ℕ) → k < 11 → byte new.name k < 128
  unfolding new_file is_low
  new_low k l = ltb-true _ _ (all_at (is_low new.name) 11 k (name_low (user_of (list_of b) p) b.fcb 17) l)

  new_legal : MayRename kind p b → legal_name new.name 0 ≡ true
  unfolding new_file
  new_legal w = name_legal (user_of (list_of b) p) b.fcb 17 w.legal_new

  -- the new name under the caller's user is the new file
  pub new_is : ◌≡◌ {A = File} (record { user = (file_by p b).user; name = new.name }) new
  unfolding caller_file new_file file_from
  new_is = refl

  new_none : MayRename kind p b → (d : ℕ) → d < entries kind → is_empty b.image d ≡ false
      → file_at b.image d ≡ record { user = (file_by p b).user; name = new.name } → ⊥
  new_none w d l u e =
      let k = image-of.files.begun d l u in
      none_there kind b.image new 0 w.gone_new k.0 k.1
      (record { used = k.2.used; file = k.2.file ∙ e ∙ new_is; extent = k.2.extent })

  -- the image with the file renamed is sound; ..
  pub renamed_of : MayRename kind p b → SoundImage kind (renamed kind (file_by p b) new.name b.image)
  renamed_of w = renamed_sound kind b.image (file_by p b) new.name image-of (caller_long p (list_of b) b.fcb) (new_long p (list_of b) b.fcb) new_low
      (new_legal w) (new_none w)

  -- .. only the file's entries were touched, ..
  pub renamed_touch : MayRename kind p b → Touches kind b.image (renamed kind (file_by p b) new.name b.image) (file_by p b) new
  renamed_touch w =
      subst (λ (h : File). Touches kind b.image (renamed kind (file_by p b) new.name b.image) (file_by p b) h) new_is
      (renamed_touches kind b.image (file_by p b) new.name image-of (caller_long p (list_of b) b.fcb) (new_long p (list_of b) b.fcb) new_low
      (new_legal w) (new_none w))

  -- .. and each of them is then of the new file
  pub renamed_file : MayRename kind p b → (e : ℕ) → e < entries kind → is_of b.image (file_by p b) e ≡ true
      → file_at (renamed kind (file_by p b) new.name b.image) e ≡ new
  renamed_file w e l h =
      renamed_new kind b.image (file_by p b) new.name image-of (caller_long p (list_of b) b.fcb) (new_long p (list_of b) b.fcb) new_low (new_legal w)
      (new_none w) e l h
      ∙ new_is

  -- 34, 40, 41: the record is written in the block that it has, or in a free one
  pub written_of : MayWrite kind p b → (zeros : Bool) (v : List ℕ) → 128 ≤ length v
      → Old kind b.image (image_written kind zeros p b v) (file_by p b) (record_of b.fcb)
      ⊎ New kind b.image (image_written kind zeros p b v) (file_by p b) (record_of b.fcb)
  written_of w zeros v full =
      written_step kind zeros b.image (file_by p b) (record_of b.fcb) v image-of (caller_long p (list_of b) b.fcb) (let k = w.fits in omega arith)
      (own_there kind b.image p b shape_of list-of w.is_open) full w.entry_room w.block_room

  -- 42: what the run of locks asks for is there
  pub takes_of : MayLock kind p c b → Takes kind b.image (list_of b) p (file_by p b) (record_of b.fcb) c
  takes_of w = record {
    process_fits = let m = ok.process_fits in omega arith;
    under = caller_user p (list_of b) b.fcb;
    name_long = caller_long p (list_of b) b.fcb;
    legal = own_legal kind b.image p b shape_of list-of w.is_open;
    low = caller_low p (list_of b) b.fcb;
    holder = own_holder kind b.image p b shape_of list-of w.is_open w.is-unlocked;
    fits = λ k l. let m = w.fits in omega arith;
    have_blocks = w.have_blocks;
    none_others = w.none_others;
    within = w.within;
    room = w.room;
  }
