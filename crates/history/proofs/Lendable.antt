-- What a host can lend stays so: a call leaves bytes where it was lent bytes, and each buffer as long as it was. Assumes nothing.
use Prim.Native.Nat.{ℕ, ◌*◌, ◌<◌}
use mathlib.Core.Path.{◌≡◌, refl, sym, ◌∙◌}
use mathlib.Core.Bool.{true}
use mathlib.Core.List.{List}
use native.Mathlib.Omega.{arith}
use lib.ListN.{length}
use borrow.Author.Tests.{ltb-true, lt-ltb}
use Rattle.words.specs.Bytes.{are_bytes}
use Rattle.words.proofs.Tests.{and_fst, and_snd}
use Rattle.words.proofs.Sets.{and_both}
use Rattle.words.proofs.AreBytes.{bytes_take, bytes_part, bytes_put}
use Rattle.rules.specs.declared.kind.Kind.{Kind}
use Rattle.rules.specs.Serves.{Buffers, Outcome}
use Rattle.rules.specs.Call.{call}
use Rattle.rules.specs.Several.{dma_at, single, back_at, Run, run, call_run}
use Rattle.rules.proofs.Packing.{pack_long}
use Rattle.rules.proofs.Several.{Steps, begun, done, stopped, idle, steps}
use Rattle.soundness.proofs.InBytes.{InBytes, call_bytes}
use Rattle.soundness.proofs.Shapes.{locked_shape}
use Rattle.soundness.proofs.Left.{ListLeft, list_same, one_set, run_set, emptied, left}
use Rattle.history.specs.History.{Ask, State, is_lendable, is_possible, is_kept, lent, outcome_of, kept}
use Rattle.history.proofs.Ways.{Way, Ran, plain, barred, whole, partly, ways}
use Rattle.history.proofs.Frame.{image_framed}

-- ---- a call leaves bytes where it was lent bytes

module _ (kind : Kind) (n p c : ℕ) (b : Buffers) (w : InBytes b) where
  single_bytes : (i : ℕ) (a : Buffers) → InBytes a → InBytes (single i a)
  unfolding single dma_at
  single_bytes i a h = record {
    dma_bytes = bytes_put 0 _ a.dma (bytes_part (128 * i) 128 a.dma h.dma_bytes) h.dma_bytes;
    list_bytes = h.list_bytes;
    image_bytes = h.image_bytes;
  }

  steps_bytes : (i : ℕ) (x : Run) → Steps kind n p b i x → InBytes x.left
  unfolding back_at
  steps_bytes i x begun = w
  steps_bytes i x (done j a z k) =
      let h = steps_bytes j (run 0 j a) z in
      let l = call_bytes kind n p 1 (single j a) (single_bytes j a h) in
      record { dma_bytes = bytes_put _ _ a.dma (bytes_take 128 _ l.dma_bytes) h.dma_bytes; list_bytes = l.list_bytes; image_bytes = l.image_bytes }
  steps_bytes i x (stopped j a z k) = steps_bytes j (run 0 j a) z
  steps_bytes i x (idle j y z k) = steps_bytes j y z

  ran_bytes : (i : ℕ) (left : Buffers) → Ran kind n p c b i left → InBytes left
  ran_bytes i left r = steps_bytes i (run 0 i left) (rw r.is at (steps kind n p b i))

  way_bytes : (o : Outcome) → Way kind n p c b o → InBytes o.left
  way_bytes o (plain h) = call_bytes kind n p c b w
  way_bytes o (barred h code r) = w
  way_bytes o (whole left r) = ran_bytes c left r
  way_bytes o (partly i m left r code z) = ran_bytes i left r

  -- a call that is lent bytes leaves bytes, of one record or of several
  pub run_bytes : InBytes (call_run kind n p c b).left
  run_bytes = way_bytes _ (ways kind n p c b)

-- ---- list and image stay as long as they were

pub record AsLong (b a : Buffers) : Type 0 where
  -- the list left is as long as the one lent, ..
  pub list_long : length a.list ≡ length b.list
  -- .. and so is the image
  pub image_long : length a.image ≡ length b.image

list_as_long : (kind : Kind) (p c : ℕ) (b : Buffers) (t list : List ℕ) → ListLeft kind p c b t list → length list ≡ length b.list
list_as_long kind p c b t list (list_same u follows) = refl
list_as_long kind p c b t list (one_set ok u mode room h) = pack_long _ h.shape.items_long ∙ sym ok.ready.list_long
list_as_long kind p c b t list (run_set ok w) = pack_long _ (locked_shape kind p c b ok w).shape.items_long ∙ sym ok.ready.list_long
list_as_long kind p c b t list (emptied ok u away turn e own xs stay h) = pack_long _ h.shape.items_long ∙ sym ok.ready.list_long

call_long : (kind : Kind) (n p c : ℕ) (b : Buffers) → AsLong b (call kind n p c b).left
call_long kind n p c b =
    let w = left kind n p c b in
    record { list_long = list_as_long kind p c b _ _ w.list; image_long = image_framed kind p c b _ w.image }

module _ (kind : Kind) (n p c : ℕ) (b : Buffers) where
  steps_long : (i : ℕ) (x : Run) → Steps kind n p b i x → AsLong b x.left
  unfolding single back_at
  steps_long i x begun = record { list_long = refl; image_long = refl }
  steps_long i x (done j a z k) =
      let h = steps_long j (run 0 j a) z in
      let l = call_long kind n p 1 (single j a) in
      record { list_long = l.list_long ∙ h.list_long; image_long = l.image_long ∙ h.image_long }
  steps_long i x (stopped j a z k) = steps_long j (run 0 j a) z
  steps_long i x (idle j y z k) = steps_long j y z

  ran_long : (i : ℕ) (left : Buffers) → Ran kind n p c b i left → AsLong b left
  ran_long i left r = steps_long i (run 0 i left) (rw r.is at (steps kind n p b i))

  way_long : (o : Outcome) → Way kind n p c b o → AsLong b o.left
  way_long o (plain h) = call_long kind n p c b
  way_long o (barred h code r) = record { list_long = refl; image_long = refl }
  way_long o (whole left r) = ran_long c left r
  way_long o (partly i m left r code z) = ran_long i left r

  -- a call leaves a list and an image as long as they were, of one record or of several
  pub run_long : AsLong b (call_run kind n p c b).left
  run_long = way_long _ (ways kind n p c b)

-- ---- what a host can lend stays so

-- fewer than 2⁶³ bytes can be lent, ..
pub lendable_so : (s : List ℕ) → are_bytes s ≡ true → length s < 9223372036854775808 → is_lendable s ≡ true
unfolding is_lendable
lendable_so s h k = and_both _ _ h (lt-ltb _ _ k)

-- .. and what can be lent are bytes
pub lendable_bytes : (s : List ℕ) → is_lendable s ≡ true → are_bytes s ≡ true
unfolding is_lendable
lendable_bytes s h = and_fst _ _ h

lendable_short : (s : List ℕ) → is_lendable s ≡ true → length s < 9223372036854775808
unfolding is_lendable
lendable_short s h = ltb-true _ _ (and_snd _ _ h)

-- what is kept after a call can be lent to the next
pub next_kept : (kind : Kind) (q : Ask) (s : State) → is_possible q ≡ true → is_kept s ≡ true → is_kept (kept (outcome_of (call_run kind) q s)) ≡ true
unfolding is_kept is_possible outcome_of
next_kept kind q s may h =
    let dma = and_snd _ _ (and_snd _ _ (and_snd _ _ (and_snd _ _ may))) in
    let w = run_bytes kind q.function q.process q.count (lent q s)
    (record {
      dma_bytes = lendable_bytes q.dma dma;
      list_bytes = lendable_bytes s.list (and_fst _ _ h);
      image_bytes = lendable_bytes s.image (and_snd _ _ h);
    }) in
    let long = run_long kind q.function q.process q.count (lent q s) in
    let l = lendable_short s.list (and_fst _ _ h) in
    let i = lendable_short s.image (and_snd _ _ h) in
    and_both _ _ (lendable_so _ w.list_bytes (omega (arith, long.list_long, l))) (lendable_so _ w.image_bytes (omega (arith, long.image_long, i)))
