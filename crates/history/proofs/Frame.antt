-- What no call changes: the list's limits and users, and the image's length. Assumes nothing.
use Prim.Native.Nat.{ℕ}
use mathlib.Core.Path.{◌≡◌, refl}
use mathlib.Core.List.{List}
use mathlib.Core.Logic.{◌⊎◌, ⊎_elim}
use native.Mathlib.Omega.{arith}
use lib.ListN.{length}
use Rattle.rules.specs.declared.kind.Kind.{Kind}
use Rattle.rules.specs.declared.item.Item.{Item}
use Rattle.rules.specs.declared.list.LockList.{LockList}
use Rattle.rules.specs.Serves.{Buffers}
use Rattle.rules.specs.Locks.{unpack, with_items, with_positions}
use Rattle.rules.specs.Asks.{record_of}
use Rattle.rules.specs.Effects.{placed, opened, locked_run}
use Rattle.rules.specs.declared.file.File.{File}
use Rattle.soundness.proofs.Erased.{all-erased}
use Rattle.soundness.proofs.Renamed.{all_renamed}
use Rattle.soundness.proofs.Written.{Old, New}
use Rattle.soundness.proofs.Run.{running}
use Rattle.soundness.proofs.Taken.{caller_long}
use Rattle.soundness.proofs.Shapes.{packed, locked_shape}
use Rattle.soundness.proofs.Left.{ListLeft, ImageLeft, list_same, one_set, run_set, emptied, image_same, entry_made, record_stored, file_erased, file_renamed}
use Rattle.soundness.proofs.Ends.{image-of, shape_of, list-of, made_of, written_of, takes_of}
use Rattle.soundness.proofs.Leaves.{list_of, file_by, new_by}

-- limits, users and rule are the same
pub record Framed (l k : LockList) : Type 0 where
  -- the capacities are the same, ..
  pub capacities : k.capacity ≡ l.capacity
  -- .. the open limits, ..
  pub openlimits : k.openlimit ≡ l.openlimit
  -- .. the lock limits, ..
  pub locklimits : k.locklimit ≡ l.locklimit
  -- .. the users, ..
  pub users : k.users ≡ l.users
  -- .. and the rules
  pub rules : k.rule ≡ l.rule

-- a list with other items and positions has the same, ..
pub framed : (l : LockList) (xs : List Item) (ys : List ℕ) → Framed l (with_positions (with_items l xs) ys)
framed l xs ys = record { capacities = refl; openlimits = refl; locklimits = refl; users = refl; rules = refl }

same : (l : LockList) → Framed l l
same l = record { capacities = refl; openlimits = refl; locklimits = refl; users = refl; rules = refl }

-- .. and so has the list that a call leaves;
pub list_framed : (kind : Kind) (p c : ℕ) (b : Buffers) (t list : List ℕ) → ListLeft kind p c b t list → Framed (list_of b) (unpack list)
unfolding opened placed locked_run
list_framed kind p c b t list (list_same u follows) = same (list_of b)
list_framed kind p c b t list (one_set ok u mode room h) = packed (Framed (list_of b)) kind _ u h (framed (list_of b) _ _)
list_framed kind p c b t list (run_set ok w) =
    packed (Framed (list_of b)) kind _ b.image (locked_shape kind p c b ok w)
    (let r = running kind b.image (list_of b) p (file_by p b) (record_of b.fcb) c (shape_of kind p c b ok) (list-of kind p c b ok)
    (takes_of kind p c b ok w) c (omega arith) in
    rw r.is (framed (list_of b) r.items _))
list_framed kind p c b t list (emptied ok u away turn e own xs stay h) = packed (Framed (list_of b)) kind _ u h (framed (list_of b) _ _)

written_long : (kind : Kind) (s t : List ℕ) (f : File) (r : ℕ) → Old kind s t f r ⊎ New kind s t f r → length t ≡ length s
written_long kind s t f r w = ⊎_elim (λ (k : Old kind s t f r). k.wrote.change.touches.long) (λ (k : New kind s t f r). k.wrote.change.touches.long) w

-- the image that a call leaves is as long as before
pub image_framed : (kind : Kind) (p c : ℕ) (b : Buffers) (t : List ℕ) → ImageLeft kind p c b t → length t ≡ length b.image
image_framed kind p c b t image_same = refl
image_framed kind p c b t (entry_made ok w) = (made_of kind p c b ok w 0 0 0 0).touches.long
image_framed kind p c b t (record_stored ok w zeros v full bytes) = written_long kind b.image _ (file_by p b) (record_of b.fcb)
    (written_of kind p c b ok w zeros v full)
image_framed kind p c b t (file_erased ok w) = (all-erased kind b.image (file_by p b) (image-of kind p c b ok) (caller_long p (list_of b) b.fcb)).len
image_framed kind p c b t (file_renamed ok w) = (all_renamed kind b.image (file_by p b) (new_by p b).name (image-of kind p c b ok)).len
