-- Each call leaves in the list just what the history holds. Assumes nothing.
use Prim.Native.Nat.{ℕ, ◌≤◌, ◌<◌}
use mathlib.Core.Path.{◌≡◌, refl, sym, ap, subst, ◌∙◌}
use mathlib.Core.Bool.{Bool, true, false}
use mathlib.Core.List.{List, map, map-id}
use mathlib.Core.Logic.{⊎_elim}
use native.Mathlib.Omega.{arith}
use borrow.Author.Tests.{eqb-true}
use Rattle.words.specs.Tests.{◌if◌else◌}
use Rattle.words.proofs.Tests.{either, never, and_fst, and_snd, lowest_over}
use Rattle.words.specs.Lists.{without}
use Rattle.rules.specs.declared.kind.Kind.{Kind}
use Rattle.rules.specs.Kinds.{entries}
use Rattle.rules.specs.declared.file.File.{File}
use Rattle.rules.specs.declared.item.Item.{Item}
use Rattle.rules.specs.declared.list.LockList.{LockList}
use Rattle.rules.specs.declared.routine.Routine.TheVariants.{Write, WriteZeros}
use Rattle.std.specs.Prelude.{Some}
use Rattle.rules.specs.Serves.{Buffers, Outcome, chosen}
use Rattle.rules.specs.Drive.{entry_of}
use Rattle.rules.specs.Locks.{with_items, with_positions, moved_to, item_at, user_of, file_of, fresh_open, unpack, pack, open_of, opens_name_at, free_place}
use Rattle.rules.specs.Asks.{caller_file, record_of, open_mode, make_mode}
use Rattle.rules.specs.Effects.{placed, opened, closed, unlocked_run, without_by, terminated, locked_run, is_of_file, is_in_run, unless_by}
use Rattle.rules.proofs.Items.{IsOpen, open_is, open_so, name_sym, name_is, name_then}
use Rattle.rules.proofs.SoundList.{GoodOpen, GoodLock, Used, Vacant, capacity_fits, one_open, unpacked}
use Rattle.soundness.proofs.Placed.{free_room}
use Rattle.soundness.proofs.Emptied.{Empties, Whole, close_empties, close_whole, unlock_empties, unlock_whole, end_empties}
use Rattle.soundness.proofs.Shapes.{SoundShape, opened_shape, made_shape, emptied_shape, ended_shape, searched_shape, dropped_shape, locked_shape}
use Rattle.soundness.proofs.Taken.{caller_long, caller_user, own_open, own_good}
use Rattle.soundness.proofs.Deleted.{unopened_none, none_of_file}
use Rattle.soundness.proofs.Ends.{shape_of, list-of, takes_of}
use Rattle.rules.proofs.Passed.{Passed}
use Rattle.soundness.proofs.Leaves.{Leaf, open_by, mode_by, Idle, refused, reopened, newly_opened, newly_made, now_closed, now_erased, now_dropped, now_renamed}
use Rattle.soundness.proofs.Leaves.{now_read, now_sized, now_written, now_rewritten, now_locked, lock_idle, now_unlocked, unlock_idle, now_told, now_ended, now_searched}
use Rattle.history.specs.History.{Ask, State, event, lent}
use Rattle.history.specs.Deeds.{Deed, deed_by, deed}
use Rattle.history.specs.Held.{same_item, is_among, granting, granting_run, is_by, holding}
use Rattle.history.proofs.Items.{alike_of, alike_so, granting_held, granting_new}
use Rattle.history.proofs.Tallied.{Tally, tally_moved, held_listed, not_held, tally-set, tally_gone, tally_idle}
use Rattle.history.proofs.Locking.{tally-run}
use Rattle.history.proofs.Done.{users_in, deed_done, held_refused, held_searched, file_meant}

alike_open : (p : ℕ) (name : List ℕ) (mode : ℕ) (x : Item) → same_item (fresh_open p name mode) x ≡ true → IsOpen p name x
alike_open p name mode x h =
    let w = alike_of (fresh_open p name mode) x h in
    record { kind_one = sym w.kinds; by = sym w.processes; named = name_sym _ _ w.names }

open_some : (p : ℕ) (name : List ℕ) (mode : ℕ) → (fresh_open p name mode).kind ≡ 0 → ⊥
open_some p name mode q = let z : ◌≡◌ {A = ℕ} 1 0 = q in absurd (omega arith)

module _ (kind : Kind) (q : Ask) (s : State) (g : List Item) (t : Tally (unpack s.list) g) where
  abbrev l : LockList
  l = unpack s.list

  abbrev p : ℕ
  p = q.process

  abbrev c : ℕ
  c = q.count

  abbrev b : Buffers
  b = lent q s

  abbrev f : File
  f = caller_file p l q.fcb

  -- ---- what the list holds before the call

  module _ (ok : Passed kind p c b) where
    -- the caller's open is held, in its mode
    open_held : open_by p b < 64 → is_among (fresh_open p f.name (mode_by p b)) g ≡ true
    open_held m =
        let o = own_open kind s.image p b (shape_of kind p c b ok) (list-of kind p c b ok) m in
        let z : (item_at l (open_by p b)).number ≡ 0 = ⊎_elim (λ (v : GoodOpen kind s.image l (item_at l (open_by p b))). v.number_zero)
        (λ (v : GoodLock kind s.image l (item_at l (open_by p b))). let a = v.kind_two in let d = o.kind_one in absurd (omega arith))
        (own_good kind s.image p b (shape_of kind p c b ok) (list-of kind p c b ok) m).good in
        held_listed l g t (fresh_open p f.name (mode_by p b)) (open_some p f.name (mode_by p b)) (open_by p b) m
        (alike_so _ _ (record { kinds = sym o.kind_one; processes = sym o.by; names = name_sym _ _ o.named; modes = refl; numbers = sym z }))

    -- an open that is not in the list is not held
    open_unheld : (mode : ℕ) → ((i : ℕ) → i < 64 → IsOpen p f.name (item_at l i) → ⊥) → is_among (fresh_open p f.name mode) g ≡ false
    open_unheld mode none =
        not_held l g t (fresh_open p f.name mode) (open_some p f.name mode) (λ i m. ⊎_elim
        (λ (d : same_item (fresh_open p f.name mode) (item_at l i) ≡ true). absurd (none i m (alike_open p f.name mode (item_at l i) d)))
        (λ d. d) (either (same_item (fresh_open p f.name mode) (item_at l i))))

    none_open : 64 ≤ open_by p b → (i : ℕ) → i < 64 → IsOpen p f.name (item_at l i) → ⊥
    unfolding open_of opens_name_at
    none_open m i k o = never (open_so p f.name (item_at l i) o) (lowest_over (opens_name_at l p f.name) 64 i m k)

    none_there : entries kind ≤ entry_of kind s.image f 0 → (i : ℕ) → i < 64 → IsOpen p f.name (item_at l i) → ⊥
    none_there gone i m o =
        let u : user_of l (item_at l i).process ≡ f.user = ap (λ (n : ℕ). user_of l n) o.by ∙ sym (caller_user p l q.fcb) in
        let n = name_is (item_at l i).name f.name ((shape_of kind p c b ok).names_long i m) (caller_long p l q.fcb) o.named in
        let e : file_of l (item_at l i) ≡ f = λ k. record { user = u k; name = n k } in
        ⊎_elim (λ (v : Vacant l i). let a = v.kind_zero in let d = o.kind_one in absurd (omega arith))
        (λ (v : Used kind s.image l i). ⊎_elim
        (λ (w : GoodOpen kind s.image l (item_at l i)). let z : entry_of kind s.image f 0 < entries kind = rw e at w.there in absurd (omega arith))
        (λ (w : GoodLock kind s.image l (item_at l i)). let a = w.kind_two in let d = o.kind_one in absurd (omega arith)) v.good)
        ((list-of kind p c b ok).place i m)

    -- the caller's open is the only one of its name
    mode_only : open_by p b < 64 → (i : ℕ) → i < 64 → IsOpen p f.name (item_at l i) → (item_at l i).mode ≡ mode_by p b
    mode_only m i k o =
        let w = own_open kind s.image p b (shape_of kind p c b ok) (list-of kind p c b ok) m in
        let e = one_open kind l s.image i (open_by p b) p f.name (list-of kind p c b ok) k m (open_so _ _ _ o) (open_so _ _ _ w) in
        ap (λ (j : ℕ). (item_at l j).mode) e

    -- in modes 0 and 2 the caller holds no unlocked open ..
    not_unlocked : Idle p b → is_among (fresh_open p f.name 1) g ≡ false
    not_unlocked w =
        not_held l g t (fresh_open p f.name 1) (open_some p f.name 1) (λ i m. ⊎_elim
        (λ (d : same_item (fresh_open p f.name 1) (item_at l i) ≡ true).
        let a = alike_of (fresh_open p f.name 1) (item_at l i) d in
        absurd (w.not_unlocked (sym (mode_only w.is_open i m (alike_open p f.name 1 (item_at l i) d)) ∙ sym a.modes)))
        (λ d. d) (either (same_item (fresh_open p f.name 1) (item_at l i))))

    -- .. and no lock on the file
    no_locks : Idle p b → (i : ℕ) → i < 64 → is_in_run p f (record_of q.fcb) c (item_at l i) ≡ false
    unfolding is_in_run is_of_file
    no_locks w i m =
        ⊎_elim
        (λ (d : is_in_run p f (record_of q.fcb) c (item_at l i) ≡ true).
        let two : (item_at l i).kind ≡ 2 = eqb-true _ _ (and_fst _ _ d) in
        let own = and_snd _ _ (and_snd _ _ (and_snd _ _ (and_snd _ _ d))) in
        let by : (item_at l i).process ≡ p = eqb-true _ _ (and_fst _ _ own) in
        ⊎_elim (λ (v : Vacant l i). let a = v.kind_zero in absurd (omega arith))
        (λ (v : Used kind s.image l i). ⊎_elim
        (λ (x : GoodOpen kind s.image l (item_at l i)). let a = x.kind_one in absurd (omega arith))
        (λ (x : GoodLock kind s.image l (item_at l i)).
        let h = x.holder in
        let o = open_is _ _ (item_at l h.place) h.opens in
        let mine : IsOpen p f.name (item_at l h.place) =
        record { kind_one = o.kind_one; by = o.by ∙ by; named = name_then _ _ _ o.named (and_snd _ _ own) } in
        absurd (w.not_unlocked (sym (mode_only w.is_open h.place h.below mine) ∙ h.mode))) v.good)
        ((list-of kind p c b ok).place i m))
        (λ d. d) (either (is_in_run p f (record_of q.fcb) c (item_at l i)))

  -- ---- after it

  abbrev Held : List ℕ → Deed → Type 0
  Held list d = Tally (unpack list) (holding d g)

  opened-tally : (ok : Passed kind p c b) (mode : ℕ) (image : List ℕ) → SoundShape kind (opened p f mode l) image → free_place l < l.capacity
      → is_among (fresh_open p f.name mode) g ≡ false → Tally (unpack (pack (opened p f mode l))) (granting (fresh_open p f.name mode) g)
  opened-tally ok mode image w room none =
      let it = fresh_open p f.name mode in
      let inside : free_place l < 64 = let k = capacity_fits l (list-of kind p c b ok).limits in omega arith in
      let y = tally-set l (free_place l) it (shape_of kind p c b ok) inside (free_room l room).empty g t in
      rw (unpacked kind (opened p f mode l) image w.sound w.shape, granting_new it g none) (unfold opened placed in y)

  shaped_tally : (ok : Passed kind p c b) (away : Item → Bool) (turn : Item → Item) → Empties away turn → (xs image : List ℕ)
      → SoundShape kind (with_positions (with_items l (map turn l.items)) xs) image
      → Tally (unpack (pack (with_positions (with_items l (map turn l.items)) xs))) (without away g)
  shaped_tally ok away turn e xs image h =
      rw (unpacked kind (with_positions (with_items l (map turn l.items)) xs) image h.sound h.shape)
      (tally_moved _ xs _ (tally_gone l away turn e (shape_of kind p c b ok) g t))

  gone_tally : (ok : Passed kind p c b) (away : Item → Bool) (turn : Item → Item) → Empties away turn → Whole l away
      → Tally (unpack (pack (with_items l (map turn l.items)))) (without away g)
  gone_tally ok away turn e w = shaped_tally ok away turn e l.positions s.image (emptied_shape kind p c b ok away turn e w)

  -- after a plain call the list has just the items that the history then holds
  pub held_step : (o : Outcome) → Leaf kind q.function p c b o → Tally (unpack o.left.list) (holding (deed (users_in s) (event q o.answer)) g)
  unfolding holding deed_by granting_run closed unlocked_run terminated without_by moved_to is_by ◌if◌else◌
  held_step o (refused code z) = rw (held_refused (users_in s) q code g z) t
  held_step o (reopened k ok w fcb) =
      rw (deed_done (users_in s) q _ k, file_meant q l, ← w.same-mode, granting_held _ g (open_held ok w.is_open)) t
  held_step o (newly_opened k ok w fcb) =
      rw (deed_done (users_in s) q _ k, file_meant q l)
      (opened-tally ok (open_mode q.fcb) s.image (opened_shape kind p c b ok w) w.room
      (open_unheld ok (open_mode q.fcb) (none_open ok w.unopened)))
  held_step o (newly_made k ok w fcb) =
      rw (deed_done (users_in s) q _ k, file_meant q l)
      (opened-tally ok (make_mode q.fcb) _ (made_shape kind p c b ok w) w.room (open_unheld ok (make_mode q.fcb) (none_there ok w.gone)))
  held_step o (now_closed k ok w) = rw (deed_done (users_in s) q _ k, file_meant q l) (gone_tally ok _ _ (close_empties p f) (close_whole l p f))
  held_step o (now_erased k ok w u) =
      rw (deed_done (users_in s) q _ k, file_meant q l)
      (tally_idle l (is_of_file p f) _ (close_empties p f) (shape_of kind p c b ok) g t (none_of_file kind s.image p l f (shape_of kind p c b ok)
      (list-of kind p c b ok) (sym (caller_user p l q.fcb)) (caller_long p l q.fcb) (unopened_none p l f w.none_others u)))
  held_step o (now_dropped k ok w m) =
      rw (deed_done (users_in s) q _ k, file_meant q l) (shaped_tally ok _ _ (close_empties p f) _ _ (dropped_shape kind p c b ok w))
  held_step o (now_renamed k ok w) = rw (deed_done (users_in s) q _ k) t
  held_step o (now_read k ok dma) = rw (deed_done (users_in s) q _ k) t
  held_step o (now_written k ok w zeros) =
      ⊎_elim (λ (e : chosen q.function ≡ Some Write). rw (deed_done (users_in s) q _ e) t)
      (λ (e : chosen q.function ≡ Some WriteZeros). rw (deed_done (users_in s) q _ e) t) k
  held_step o (now_rewritten k ok w some v full from) = rw (deed_done (users_in s) q _ k) t
  held_step o (now_locked k ok w) =
      let h = locked_shape kind p c b ok w in
      let m : is_among (fresh_open p f.name 1) g ≡ true = rw w.is-unlocked at (open_held ok w.is_open) in
      rw (deed_done (users_in s) q _ k, file_meant q l, m, unpacked kind (locked_run p f (record_of q.fcb) c l) s.image h.sound h.shape)
      (unfold locked_run in tally-run kind s.image l p f (record_of q.fcb) c (shape_of kind p c b ok) (list-of kind p c b ok)
      (takes_of kind p c b ok w) g t c (omega arith))
  held_step o (lock_idle k ok w) = rw (deed_done (users_in s) q _ k, file_meant q l, not_unlocked ok w) t
  held_step o (now_unlocked k ok w) =
      rw (deed_done (users_in s) q _ k, file_meant q l) (gone_tally ok _ _ (unlock_empties p f (record_of q.fcb) c) (unlock_whole l p f (record_of q.fcb) c))
  held_step o (unlock_idle k ok w) =
      rw (deed_done (users_in s) q _ k, file_meant q l)
      (tally_idle l (is_in_run p f (record_of q.fcb) c) _ (unlock_empties p f (record_of q.fcb) c) (shape_of kind p c b ok) g t (no_locks ok w))
  held_step o (now_sized k ok fcb) = rw (deed_done (users_in s) q _ k) t
  held_step o (now_told k ok dma) = rw (deed_done (users_in s) q _ k) t
  held_step o (now_ended k ok) = rw (deed_done (users_in s) q _ k) (shaped_tally ok _ (unless_by p) (end_empties p) _ _ (ended_shape kind p c b ok))
  held_step o (now_searched k ok answer e low dma) =
      let h = searched_shape kind p c b ok e low in
      rw (
        held_searched (users_in s) q answer k g,
        unpacked kind (moved_to p e (with_items l (map (λ (it : Item). it) l.items))) s.image h.sound h.shape,
      )
      (tally_moved _ _ g (subst (λ (xs : List Item). Tally (with_items l xs) g) (sym (map-id l.items)) t))
