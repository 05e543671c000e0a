-- Sound stays sound: after every call the image and the list are sound again. Assumes nothing.
use Prim.Native.Nat.{ℕ}
use mathlib.Core.Path.{◌≡◌}
use mathlib.Core.Bool.{true}
use mathlib.Core.List.{List}
use mathlib.Core.Logic.{⊎_elim}
use lib.ListN.{length}
use Rattle.words.proofs.Tests.{and_fst}
use Rattle.words.proofs.Sets.{and_both}
use Rattle.rules.specs.declared.kind.Kind.{Kind}
use Rattle.rules.specs.declared.list.LockList.{LockList}
use Rattle.rules.specs.Serves.{Buffers}
use Rattle.rules.specs.Drive.{sound_image}
use Rattle.rules.specs.Locks.{pack, sound_list}
use Rattle.rules.specs.Asks.{record_of}
use Rattle.rules.specs.Call.{call}
use Rattle.rules.specs.Several.{single, back_at, Run, run, several}
use Rattle.rules.proofs.Sound.{sound_so}
use Rattle.rules.proofs.SoundList.{locks_so, list_sound_of, list_sound_so}
use Rattle.rules.proofs.Packing.{pack_long}
use Rattle.rules.proofs.Several.{Steps, begun, done, stopped, idle, steps}
use Rattle.soundness.proofs.Erased.{erased_sound}
use Rattle.soundness.proofs.Written.{Old, New}
use Rattle.soundness.proofs.Taken.{caller_long}
use Rattle.soundness.proofs.Leaves.{list_of, file_by}
use Rattle.soundness.proofs.Ends.{image-of, made_of, renamed_of, written_of}
use Rattle.soundness.proofs.Shapes.{SoundShape, locked_shape}
use Rattle.soundness.proofs.Left.{ListLeft, ImageLeft, list_same, one_set, run_set, emptied, image_same, entry_made, record_stored, file_erased}
use Rattle.soundness.proofs.Left.{file_renamed, left}

pub record SoundBoth (kind : Kind) (list image : List ℕ) : Type 0 where
  -- the image is sound
  pub image_sound : sound_image kind image ≡ true
  -- the list has its 1,316 bytes, ..
  pub list_long : length list ≡ 1316
  -- .. and is sound against the image
  pub list_sound : sound_list kind list image ≡ true

packed : (kind : Kind) (l : LockList) (s : List ℕ) → SoundShape kind l s → sound_image kind s ≡ true → SoundBoth kind (pack l) s
packed kind l s h g = record { image_sound = g; list_long = pack_long l h.shape.items_long; list_sound = list_sound_so kind l s h.sound h.shape }

-- ---- a call

module _ (kind : Kind) (p c : ℕ) (b : Buffers) (g : SoundBoth kind b.list b.image) where
  image_left : (t : List ℕ) → ImageLeft kind p c b t → sound_image kind t ≡ true
  image_left t image_same = g.image_sound
  image_left t (entry_made ok w) = sound_so kind t (made_of kind p c b ok w 0 0 0 0).sound
  image_left t (record_stored ok w zeros v full bytes) =
      ⊎_elim (λ (k : Old kind b.image t (file_by p b) (record_of b.fcb)). sound_so kind t k.wrote.change.sound)
      (λ (k : New kind b.image t (file_by p b) (record_of b.fcb)). sound_so kind t k.wrote.change.sound) (written_of kind p c b ok w zeros v full)
  image_left t (file_erased ok w) = sound_so kind t (erased_sound kind b.image (file_by p b) (image-of kind p c b ok) (caller_long p (list_of b) b.fcb))
  image_left t (file_renamed ok w) = sound_so kind t (renamed_of kind p c b ok w)

  both : (t list : List ℕ) → ImageLeft kind p c b t → ListLeft kind p c b t list → SoundBoth kind list t
  unfolding sound_list
  both t list i (list_same u follows) = record {
    image_sound = image_left t i;
    list_long = g.list_long;
    list_sound = and_both _ _ (and_fst _ _ g.list_sound) (locks_so kind (list_of b) t (follows (list_sound_of kind b.list b.image g.list_sound)));
  }
  both t list i (one_set ok u mode room h) = packed kind _ t h (image_left t i)
  both t list i (run_set ok w) = packed kind _ _ (locked_shape kind p c b ok w) g.image_sound
  both t list i (emptied ok u away turn e own xs stay h) = packed kind _ t h (image_left t i)

-- what was sound before a call is sound after it, ..
pub call_sound : (kind : Kind) (n p c : ℕ) (b : Buffers) → SoundBoth kind b.list b.image
    → SoundBoth kind (call kind n p c b).left.list (call kind n p c b).left.image
call_sound kind n p c b g = let w = left kind n p c b in both kind p c b g _ _ w.image w.list

-- ---- a run of records, by single calls

module _ (kind : Kind) (n p : ℕ) (b : Buffers) where
  steps_sound : (c : ℕ) (g : Run) → Steps kind n p b c g → SoundBoth kind b.list b.image → SoundBoth kind g.left.list g.left.image
  unfolding single back_at
  steps_sound c g begun k = k
  steps_sound c g (done i b' w z) k = call_sound kind n p 1 (single i b') (steps_sound i (run 0 i b') w k)
  steps_sound c g (stopped i b' w z) k = steps_sound i (run 0 i b') w k
  steps_sound c g (idle i x w z) k = steps_sound i x w k

  -- .. and after a run of records
  pub several_sound : (c : ℕ) → SoundBoth kind b.list b.image → SoundBoth kind (several kind n p c b).left.list (several kind n p c b).left.image
  several_sound c k = steps_sound c (several kind n p c b) (steps kind n p b c) k
