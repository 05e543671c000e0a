-- A list after each change of it: its shape, and that it is sound. Assumes nothing.
use Prim.Native.Nat.{ℕ, ◌≤◌, ◌<◌}
use mathlib.Core.Path.{◌≡◌, sym, subst}
use mathlib.Core.Bool.{Bool, false}
use mathlib.Core.List.{List, map}
use mathlib.Core.Logic.{⊎_elim}
use native.Mathlib.Omega.{arith}
use lib.ListN.{length}
use Rattle.rules.specs.declared.kind.Kind.{Kind}
use Rattle.rules.specs.declared.file.File.{File}
use Rattle.rules.specs.declared.item.Item.{Item}
use Rattle.rules.specs.declared.list.LockList.{LockList}
use Rattle.rules.specs.Serves.{Buffers}
use Rattle.rules.specs.Drive.{free_entry}
use Rattle.rules.specs.Kinds.{entries}
use Rattle.rules.specs.Locks.{fresh_open, free_place, any_open, with_items, moved_to, unpack, pack}
use Rattle.rules.specs.Asks.{record_of, open_mode, make_mode}
use Rattle.rules.specs.Effects.{placed, opened, made, erased, renamed, is_of_file, unless_of_file, closed, locked_run, without_by, terminated}
use Rattle.rules.proofs.Sound.{SoundImage}
use Rattle.rules.proofs.SoundList.{Shape, SoundLocks, capacity_fits, unpacked}
use Rattle.rules.proofs.Passed.{Passed}
use Rattle.soundness.proofs.Placed.{free_room, Fits, set_shape, set_sound}
use Rattle.soundness.proofs.Changes.{Grown, Touches}
use Rattle.soundness.proofs.Written.{Old, New}
use Rattle.soundness.proofs.Erased.{erased_sound, erased_touches}
use Rattle.soundness.proofs.Emptied.{Empties, Whole, gone_shape, gone_sound, close_empties, close_whole, end_empties, end_whole, none_empties}
use Rattle.soundness.proofs.Emptied.{none_whole}
use Rattle.soundness.proofs.Moved.{moved_shape, moved_sound}
use Rattle.soundness.proofs.Follows.{follow_grown, follow_touched}
use Rattle.soundness.proofs.Run.{running}
use Rattle.soundness.proofs.Taken.{caller_long, mayopen_fits, maymake_fits, no_items}
use Rattle.soundness.proofs.Deleted.{unopened_none, closed_none}
use Rattle.soundness.proofs.Leaves.{list_of, file_by, new_by, open_by, MayOpen, MayMake, MayDelete, MayRename, MayWrite, MayLock, image_written}
use Rattle.soundness.proofs.Ends.{image-of, shape_of, list-of, made_of, made_there, renamed_of, renamed_touch, written_of, takes_of}

-- the list has its shape and is sound
pub record SoundShape (kind : Kind) (l : LockList) (s : List ℕ) : Type 0 where
  -- it has sixteen users and positions and 64 items, whose names have eleven bytes
  pub shape : Shape l
  -- it is sound against the image
  pub sound : SoundLocks kind l s

-- what holds of such a list holds of what its bytes read as
pub packed : (P : LockList → Type 0) (kind : Kind) (l : LockList) (s : List ℕ) → SoundShape kind l s → P l → P (unpack (pack l))
packed P kind l s h w = subst P (sym (unpacked kind l s h.sound h.shape)) w

-- with a process's position set it is so still
pub moved_on : (kind : Kind) (p : ℕ) (l : LockList) (s : List ℕ) (e : ℕ) → e ≤ entries kind → SoundShape kind l s → SoundShape kind (moved_to p e l) s
moved_on kind p l s e low h = record { shape = moved_shape l p e h.shape; sound = moved_sound l p e h.shape kind s h.sound low }

module _ (kind : Kind) (p c : ℕ) (b : Buffers) (ok : Passed kind p c b) where
  -- a new open against an image s that has the file
  open_put : (s : List ℕ) (mode : ℕ) → SoundLocks kind (list_of b) s → free_place (list_of b) < (list_of b).capacity
      → Fits kind s (list_of b) (free_place (list_of b)) (fresh_open p (file_by p b).name mode) → SoundShape kind (opened p (file_by p b) mode (list_of b)) s
  unfolding opened placed
  open_put s mode g room w =
      let r = free_room (list_of b) room in
      let h = shape_of kind p c b ok in
      record {
        shape = set_shape (list_of b) (free_place (list_of b)) (fresh_open p (file_by p b).name mode) h (inside g) w.name_long;
        sound = set_sound kind s (list_of b) (free_place (list_of b)) (fresh_open p (file_by p b).name mode) h g r w;
      }
    where
      inside : SoundLocks kind (list_of b) s → free_place (list_of b) < 64
      inside g = let c = capacity_fits (list_of b) g.limits in omega arith

  -- the list has its shape and is sound with a new open of a file that is there, ..
  pub opened_shape : MayOpen kind p b → SoundShape kind (opened p (file_by p b) (open_mode b.fcb) (list_of b)) b.image
  opened_shape w = open_put b.image (open_mode b.fcb) (list-of kind p c b ok) w.room
      (mayopen_fits kind b.image p c b ok (list-of kind p c b ok) w w.there)

  -- .. or of one just made, ..
  pub made_shape : MayMake kind p b → SoundShape kind (opened p (file_by p b) (make_mode b.fcb) (list_of b))
      (made (free_entry kind b.image) (file_by p b) b.image)
  made_shape w =
      let t = made (free_entry kind b.image) (file_by p b) b.image in
      let k = made_of kind p c b ok w 0 0 0 0 in
      let g = follow_grown kind b.image t (list_of b) (shape_of kind p c b ok) k.sound (list-of kind p c b ok) k.grown in
      open_put t (make_mode b.fcb) g w.room (maymake_fits kind t p c b ok g b.image (shape_of kind p c b ok) (list-of kind p c b ok) w.gone w
      (made_there kind p c b ok w))

  -- .. with places emptied, ..
  pub emptied_shape : (away : Item → Bool) (turn : Item → Item) → Empties away turn → Whole (list_of b) away
      → SoundShape kind (with_items (list_of b) (map turn (list_of b).items)) b.image
  emptied_shape away turn t w = record {
    shape = gone_shape (list_of b) away turn t (shape_of kind p c b ok);
    sound = gone_sound (list_of b) away turn t (shape_of kind p c b ok) kind b.image (list-of kind p c b ok) w;
  }

  -- .. with all of the caller's gone and its position set, ..
  pub ended_shape : SoundShape kind (terminated kind p (list_of b)) b.image
  unfolding terminated without_by
  ended_shape = moved_on kind p _ b.image (entries kind) (omega arith) (emptied_shape _ _ (end_empties p) (end_whole (list_of b) p))

  -- .. with the position alone set
  pub searched_shape : (e : ℕ) → e ≤ entries kind
      → SoundShape kind (moved_to p e (with_items (list_of b) (map (λ (it : Item). it) (list_of b).items))) b.image
  searched_shape e low = moved_on kind p _ b.image e low (emptied_shape _ _ none_empties (none_whole (list_of b)))

  -- .. with a deleted file's, ..
  pub dropped_shape : MayDelete kind p b → SoundShape kind (closed p (file_by p b) (list_of b)) (erased kind (file_by p b) b.image)
  dropped_shape w =
      let f = file_by p b in
      let long = caller_long p (list_of b) b.fcb in
      let k = close_shape in
      let gone = no_items kind b.image (closed p f (list_of b)) k.sound f (closed_none p (list_of b) f w.none_others (shape_of kind p c b ok)) in
      record {
        shape = k.shape;
        sound = follow_touched kind b.image (erased kind f b.image) (closed p f (list_of b)) k.shape
            (erased_sound kind b.image f (image-of kind p c b ok) long) k.sound f f
            (erased_touches kind b.image f (image-of kind p c b ok) long) gone;
      }
    where
      close_shape : SoundShape kind (closed p (file_by p b) (list_of b)) b.image
      close_shape = unfold closed in emptied_shape (is_of_file p (file_by p b)) (unless_of_file p (file_by p b)) (close_empties p (file_by p b))
          (close_whole (list_of b) p (file_by p b))

  -- .. and with a run of locks
  pub locked_shape : MayLock kind p c b → SoundShape kind (locked_run p (file_by p b) (record_of b.fcb) c (list_of b)) b.image
  unfolding locked_run
  locked_shape w =
      let k = running kind b.image (list_of b) p (file_by p b) (record_of b.fcb) c (shape_of kind p c b ok) (list-of kind p c b ok)
      (takes_of kind p c b ok w) c (omega arith) in
      rw k.is (record { shape = k.shape; sound = k.sound })

  -- ---- the list stays, and the image changes

  grown : (t : List ℕ) → SoundImage kind t → Grown kind b.image t → SoundLocks kind (list_of b) t
  grown t g w = follow_grown kind b.image t (list_of b) (shape_of kind p c b ok) g (list-of kind p c b ok) w

  touched : (t : List ℕ) (h : File) → SoundImage kind t → Touches kind b.image t (file_by p b) h → any_open (list_of b) (file_by p b) ≡ false
      → SoundLocks kind (list_of b) t
  touched t h g w none = follow_touched kind b.image t (list_of b) (shape_of kind p c b ok) g (list-of kind p c b ok) (file_by p b) h w
      (no_items kind b.image (list_of b) (list-of kind p c b ok) (file_by p b) none)

  -- a list that stays is sound beside a record written, ..
  pub written_follows : MayWrite kind p b → (zeros : Bool) (v : List ℕ) → 128 ≤ length v → SoundLocks kind (list_of b) (image_written kind zeros p b v)
  written_follows w zeros v full =
      let t = image_written kind zeros p b v in
      ⊎_elim (λ (k : Old kind b.image t (file_by p b) (record_of b.fcb)). grown t k.wrote.change.sound k.wrote.change.grown)
      (λ (k : New kind b.image t (file_by p b) (record_of b.fcb)). grown t k.wrote.change.sound k.wrote.change.grown)
      (written_of kind p c b ok w zeros v full)

  -- .. a file erased that nobody has open, ..
  pub erased_follows : MayDelete kind p b → 64 ≤ open_by p b → SoundLocks kind (list_of b) (erased kind (file_by p b) b.image)
  erased_follows w u =
      let long = caller_long p (list_of b) b.fcb in
      touched _ (file_by p b) (erased_sound kind b.image (file_by p b) (image-of kind p c b ok) long)
      (erased_touches kind b.image (file_by p b) (image-of kind p c b ok) long) (unopened_none p (list_of b) (file_by p b) w.none_others u)

  -- .. or renamed
  pub renamed_follows : MayRename kind p b → SoundLocks kind (list_of b) (renamed kind (file_by p b) (new_by p b).name b.image)
  renamed_follows w = touched _ (new_by p b) (renamed_of kind p c b ok w) (renamed_touch kind p c b ok w) w.unopened
