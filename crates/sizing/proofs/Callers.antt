-- A call leaves items of its own process, or such as were there. Assumes nothing.
use Prim.Native.Nat.{ℕ, ◌<◌}
use mathlib.Core.Path.{◌≡◌, ap, ◌∙◌}
use mathlib.Core.Bool.{true, false}
use mathlib.Core.List.{List}
use mathlib.Core.Logic.{⊎_elim}
use native.Mathlib.Omega.{arith}
use lib.ListN.{set}
use Rattle.words.proofs.Tests.{either, equal?}
use Rattle.rules.specs.declared.kind.Kind.{Kind}
use Rattle.rules.specs.declared.item.Item.{Item}
use Rattle.rules.specs.Serves.{Buffers}
use Rattle.rules.specs.Locks.{item_at, with_items, fresh_open, free_place, unpack}
use Rattle.rules.specs.Asks.{record_of}
use Rattle.rules.specs.Effects.{placed, opened, locked_run}
use Rattle.rules.specs.Call.{call}
use Rattle.rules.proofs.SoundList.{capacity_fits}
use Rattle.soundness.proofs.Placed.{at_here, at_other}
use Rattle.soundness.proofs.Emptied.{at_gone, at_kept}
use Rattle.soundness.proofs.Shapes.{packed, locked_shape}
use Rattle.soundness.proofs.Run.{Filled, running}
use Rattle.soundness.proofs.Leaves.{list_of, file_by}
use Rattle.soundness.proofs.Ends.{shape_of, list-of, takes_of}
use Rattle.soundness.proofs.Left.{ListLeft, list_same, one_set, run_set, emptied, left}
use Rattle.sizing.specs.Sizes.{is_caller, OnlyBy}

module _ (kind : Kind) (callers : List ℕ) (p c : ℕ) (b : Buffers) (on : is_caller callers p ≡ true) (only : OnlyBy callers (list_of b)) where
  left_only : (t list : List ℕ) → ListLeft kind p c b t list → OnlyBy callers (unpack list)
  unfolding opened placed locked_run
  left_only t list (list_same u follows) = only
  left_only t list (one_set ok u mode room h) =
      let j = free_place (list_of b) in
      let it = fresh_open p (file_by p b).name mode in
      let shape = shape_of kind p c b ok in
      let inside : j < 64 = let k = capacity_fits (list_of b) (list-of kind p c b ok).limits in omega arith in
      packed (OnlyBy callers) kind _ u h (record {
        each = λ i m z. ⊎_elim
            (λ (q : i ≡ j). ap (λ (x : Item). is_caller callers x.process)
            (ap (item_at (with_items (list_of b) (set (list_of b).items j it))) q ∙ at_here (list_of b) j it shape inside) ∙ on)
            (λ (q : i ≡ j → ⊥).
            let e = at_other (list_of b) j it shape inside i q in
            ap (λ (x : Item). is_caller callers x.process) e ∙ only.each i m (λ y. z (ap (λ (x : Item). x.kind) e ∙ y)))
            (equal? i j);
      })
  left_only t list (run_set ok w) =
      let r = running kind b.image (list_of b) p (file_by p b) (record_of b.fcb) c (shape_of kind p c b ok) (list-of kind p c b ok)
      (takes_of kind p c b ok w) c (omega arith) in
      packed (OnlyBy callers) kind _ b.image (locked_shape kind p c b ok w) (rw r.is (record {
        each = λ i m z. ⊎_elim
            (λ (e : item_at (with_items (list_of b) r.items) i ≡ item_at (list_of b) i).
            ap (λ (x : Item). is_caller callers x.process) e ∙ only.each i m (λ y. z (ap (λ (x : Item). x.kind) e ∙ y)))
            (λ (e : Filled (list_of b) (with_items (list_of b) r.items) p (file_by p b) (record_of b.fcb) c i).
            ap (λ (x : Item). is_caller callers x.process) e.now ∙ on)
            (r.place i m);
      }))
  left_only t list (emptied ok u away turn e own xs stay h) =
      let shape = shape_of kind p c b ok in
      packed (OnlyBy callers) kind _ u h (record {
        each = λ i m z. ⊎_elim
            (λ (q : away (item_at (list_of b) i) ≡ true). absurd (z (ap (λ (x : Item). x.kind) (at_gone (list_of b) away turn e shape i m q))))
            (λ (q : away (item_at (list_of b) i) ≡ false).
            let d = at_kept (list_of b) away turn e shape i m q in
            ap (λ (x : Item). is_caller callers x.process) d ∙ only.each i m (λ y. z (ap (λ (x : Item). x.kind) d ∙ y)))
            (either (away (item_at (list_of b) i)));
      })

  -- items of callers alone stay so
  pub still_only : (n : ℕ) → OnlyBy callers (unpack (call kind n p c b).left.list)
  still_only n = left_only _ _ (left kind n p c b).list
