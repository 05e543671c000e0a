-- Each call counts just the groups that it leaves with a block. Assumes nothing.
use Prim.Native.Nat.{ℕ, suc, ◌+◌, ◌/◌, ◌≤◌, ◌<◌}
use mathlib.Core.Path.{◌≡◌, refl, ap, ◌∙◌}
use mathlib.Core.Bool.{Bool, true, false}
use mathlib.Core.List.{List}
use mathlib.Core.Logic.{⊎_elim}
use native.Mathlib.Omega.{arith}
use lib.ListN.{length}
use Rattle.words.specs.Lists.{turns}
use Rattle.rules.specs.declared.kind.Kind.{Kind}
use Rattle.rules.specs.Kinds.{block_records, entries}
use Rattle.rules.specs.declared.file.File.{File}
use Rattle.rules.specs.declared.list.LockList.{LockList}
use Rattle.rules.specs.declared.routine.Routine.TheVariants.{Write, WriteZeros}
use Rattle.std.specs.Prelude.{Some}
use Rattle.rules.specs.Serves.{Buffers, Outcome, chosen}
use Rattle.rules.specs.Drive.{block_of, free_entry}
use Rattle.rules.specs.Locks.{unpack}
use Rattle.rules.specs.Asks.{caller_file, new_file, record_of}
use Rattle.rules.specs.Effects.{made}
use Rattle.rules.specs.Several.{serves_run}
use Rattle.soundness.proofs.Blocks.{at_of}
use Rattle.soundness.proofs.Written.{Old, New}
use Rattle.soundness.proofs.Taken.{caller_long}
use Rattle.soundness.proofs.Ends.{image-of, made_of, renamed_file, written_of}
use Rattle.rules.proofs.Passed.{Passed}
use Rattle.soundness.proofs.Leaves.{Leaf, MayMake, MayWrite, image_written, refused, reopened, newly_opened, newly_made, now_closed, now_erased, now_dropped}
use Rattle.soundness.proofs.Leaves.{now_renamed, now_read, now_sized, now_written, now_rewritten, now_locked, lock_idle, now_unlocked, unlock_idle, now_told, now_ended}
use Rattle.soundness.proofs.Leaves.{now_searched}
use Rattle.history.specs.History.{Ask, State, event, lent}
use Rattle.history.specs.Deeds.{deed_by, deed}
use Rattle.history.specs.Groups.{Group, group, touching, touching_at, touching_run, counting}
use Rattle.history.proofs.Positions.{Counted}
use Rattle.history.proofs.Served.{writes_serve}
use Rattle.history.proofs.Counting.{counted_grown, counted_old, touched_old, touched_new, new_none, dropped, carried_over}
use Rattle.history.proofs.Done.{users_in, deed_done, count_refused, count_searched, file_meant, new_meant}

-- a run of one record touches its group, ..
touching_one : (kind : Kind) (f : File) (r : ℕ) (g : List Group) → touching_run kind f r 1 g ≡ touching (group f (r / block_records kind)) g
unfolding touching_run touching_at turns
touching_one kind f r g = let e : r + 0 ≡ r = omega arith in ap (λ (n : ℕ). touching (group f (n / block_records kind)) g) e

-- .. a run of one more the next one's too
pub touching_more : (kind : Kind) (f : File) (r i : ℕ) (g : List Group)
    → touching_run kind f (r + i) 1 (touching_run kind f r i g) ≡ touching_run kind f r (suc i) g
touching_more kind f r i g = touching_one kind f (r + i) (touching_run kind f r i g) ∙ (unfold touching_run touching_at turns in refl)

-- ---- one plain call

module _ (kind : Kind) (q : Ask) (s : State) (g : List Group) (t : Counted kind s.image g) where
  abbrev l : LockList
  l = unpack s.list

  abbrev p : ℕ
  p = q.process

  abbrev c : ℕ
  c = q.count

  abbrev b : Buffers
  b = lent q s

  abbrev f : File
  f = caller_file p l q.fcb

  abbrev r : ℕ
  r = record_of q.fcb

  long : length f.name ≡ 11
  long = caller_long p l q.fcb

  made_counted : (ok : Passed kind p c b) (w : MayMake kind p b) → Counted kind (made (free_entry kind s.image) f s.image) g
  made_counted ok w =
      let k = made_of kind p c b ok w 0 0 (entries kind) 0 in
      counted_grown kind s.image _ k.grown g (λ e n m. ⊎_elim
      (λ (z : (e ≡ entries kind) × (n ≡ 0)). let a : e ≡ entries kind = z.0 in let d = m.entry_there in absurd (omega arith)) (λ z. z) (k.rest e n m)) t

  -- a plain 34 or 40 writes one record
  written_counted : (ok : Passed kind p c b) (w : MayWrite kind p b) (zeros : Bool) → c ≡ 1
      → Counted kind (image_written kind zeros p b q.dma) (touching_run kind f r c g)
  written_counted ok w zeros one =
      let u = image_written kind zeros p b q.dma in
      rw (one, touching_one kind)
      (⊎_elim (λ (k : Old kind s.image u f r). touched_old kind s.image u f r long g t k)
      (λ (k : New kind s.image u f r). touched_new kind s.image u f r long g t k)
      (written_of kind p c b ok w zeros q.dma (let d = ok.ready.dma_long in omega arith)))

  rewritten_counted : (ok : Passed kind p c b) (w : MayWrite kind p b) (v : List ℕ) → 128 ≤ length v → (block_of kind s.image f r ≡ 0 → ⊥)
      → Counted kind (image_written kind false p b v) g
  rewritten_counted ok w v full some =
      let u = image_written kind false p b v in
      ⊎_elim (λ (k : Old kind s.image u f r). counted_old kind s.image u f r long g t k)
      (λ (k : New kind s.image u f r). absurd (new_none kind s.image u f r long g t k _ (at_of kind s.image f r long some)))
      (written_of kind p c b ok w false v full)

  -- after a plain call the image has just the groups that the history then counts
  pub count_step : (serves_run q.function ≡ true → c ≡ 1) → (o : Outcome) → o.answer < 4096 → Leaf kind q.function p c b o
      → Counted kind o.left.image (counting kind (deed (users_in s) (event q o.answer)) g)
  unfolding counting deed_by
  count_step one o low (refused code z) = rw (count_refused kind (users_in s) q code g z low) t
  count_step one o low (reopened k ok w fcb) = rw (deed_done (users_in s) q _ k) t
  count_step one o low (newly_opened k ok w fcb) = rw (deed_done (users_in s) q _ k) t
  count_step one o low (newly_made k ok w fcb) = rw (deed_done (users_in s) q _ k) (made_counted ok w)
  count_step one o low (now_closed k ok w) = rw (deed_done (users_in s) q _ k) t
  count_step one o low (now_erased k ok w u) = rw (deed_done (users_in s) q _ k, file_meant q l) (dropped kind s.image f (image-of kind p c b ok) long g t)
  count_step one o low (now_dropped k ok w m) = rw (deed_done (users_in s) q _ k, file_meant q l) (dropped kind s.image f (image-of kind p c b ok) long g t)
  count_step one o low (now_renamed k ok w) =
      rw (deed_done (users_in s) q _ k, file_meant q l, new_meant q l)
      (carried_over kind s.image f (new_file p l q.fcb) (image-of kind p c b ok) long (renamed_file kind p c b ok w) g t)
  count_step one o low (now_read k ok dma) = rw (deed_done (users_in s) q _ k) t
  count_step one o low (now_written k ok w zeros) =
      let h = written_counted ok w zeros (one (writes_serve q.function k)) in
      ⊎_elim (λ (e : chosen q.function ≡ Some Write). rw (deed_done (users_in s) q _ e, file_meant q l) h)
      (λ (e : chosen q.function ≡ Some WriteZeros). rw (deed_done (users_in s) q _ e, file_meant q l) h) k
  count_step one o low (now_rewritten k ok w some v full from) = rw (deed_done (users_in s) q _ k) (rewritten_counted ok w v full some)
  count_step one o low (now_locked k ok w) = rw (deed_done (users_in s) q _ k) t
  count_step one o low (lock_idle k ok w) = rw (deed_done (users_in s) q _ k) t
  count_step one o low (now_unlocked k ok w) = rw (deed_done (users_in s) q _ k) t
  count_step one o low (unlock_idle k ok w) = rw (deed_done (users_in s) q _ k) t
  count_step one o low (now_sized k ok fcb) = rw (deed_done (users_in s) q _ k) t
  count_step one o low (now_told k ok dma) = rw (deed_done (users_in s) q _ k) t
  count_step one o low (now_ended k ok) = rw (deed_done (users_in s) q _ k) t
  count_step one o low (now_searched k ok answer e fits dma) = rw (count_searched (users_in s) q answer k kind g low) t
