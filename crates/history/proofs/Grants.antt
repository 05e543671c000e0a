-- What the invariant says of the list: theorems 2, 3 and 8. Assumes nothing.
use Prim.Native.Nat.{ℕ, ◌+◌, ◌≤◌, ◌<◌}
use mathlib.Core.Path.{◌≡◌, refl, sym, ap, subst, ◌∙◌}
use mathlib.Core.Bool.{true, not}
use mathlib.Core.List.{List}
use native.Mathlib.Omega.{arith}
use lib.Dec.{leb}
use borrow.Author.Tests.{leb-true, ltb-true}
use Rattle.words.specs.Tests.{count, lowest}
use Rattle.words.proofs.Tests.{any_never, lowest_over, same_test}
use Rattle.words.proofs.Counts.{count_ext, count_zero}
use Rattle.rules.specs.declared.kind.Kind.{Kind}
use Rattle.rules.specs.declared.file.File.{File}
use Rattle.rules.specs.declared.item.Item.{Item}
use Rattle.rules.specs.declared.list.LockList.{LockList}
use Rattle.rules.specs.Locks.{user_of, unpack, fresh_lock, is_empty_at, free_place, free_places, held}
use Rattle.rules.specs.Asks.{caller_file, record_of}
use Rattle.rules.specs.Codes.{is_new}
use Rattle.rules.specs.Several.{call_run}
use Rattle.rules.proofs.Sound.{SoundImage, sound_of}
use Rattle.rules.proofs.SoundList.{SoundLocks, list_sound_of}
use Rattle.soundness.proofs.Taken.{caller_user}
use Rattle.history.specs.History.{Ask, State, Begun, outcome_of, lent}
use Rattle.history.specs.Deeds.{file_by}
use Rattle.history.specs.Held.{same_item, is_among}
use Rattle.history.specs.Groups.{Group}
use Rattle.history.specs.Demands.{Holds, is_item_at, AddUp, Full, is_unheld, items_by, NoneLeft}
use Rattle.history.proofs.Tallied.{passes_at, same_items, held_listed, listed_held}
use Rattle.history.proofs.Locking.{lock_listed, listed_lock}
use Rattle.history.proofs.AddsUp.{adds_up}
use Rattle.history.proofs.Dead.{NoneBy, kind_by}
use Rattle.history.proofs.Full.{answered_11, answered_14}
use Rattle.history.proofs.Done.{file_meant}
use Rattle.history.proofs.Run.{Inv}

module _ (kind : Kind) (g : Begun kind) (s : State) (items : List Item) (groups : List Group) (i : Inv kind g s items groups) where
  abbrev l : LockList
  l = unpack s.list

  -- the image is sound, ..
  pub image_sound : SoundImage kind s.image
  image_sound = sound_of kind s.image i.both.image_sound

  -- .. and the list is, against it
  pub list_sound : SoundLocks kind l s.image
  list_sound = list_sound_of kind s.list s.image i.both.list_sound

  -- 2: the list has each item as often as the history holds it, which is at most once
  pub holds_same : (x : Item) → (x.kind ≡ 0 → ⊥) → Holds x l items
  unfolding is_item_at passes_at
  holds_same x n = record {
    as_often = count_ext (is_item_at x l) (passes_at (same_item x) l) 64 (λ j m. refl) ∙ i.tallied.as_many (same_item x) (same_items x n);
    once = i.once.once x;
  }

  -- 3: the items held and the free places add up
  pub add_up : AddUp g.capacity l items
  add_up = subst (λ (c : ℕ). AddUp c l items) i.capacity (adds_up kind l s.image list_sound items i.tallied i.solid)

  -- a record is held exactly where the history holds its lock
  held_same : (p : ℕ) (f : File) (r : ℕ) → f.user ≡ user_of l p → held l p f r ≡ is_among (fresh_lock p f.name r) items
  held_same p f r u =
      let some : (fresh_lock p f.name r).kind ≡ 0 → ⊥ = λ (z : ◌≡◌ {A = ℕ} 2 0). absurd (omega arith) in
      same_test _ _
      (λ h. let x = lock_listed kind l s.image list_sound p f r u h in held_listed l items i.tallied (fresh_lock p f.name r) some x.0 x.1 x.2)
      (λ h. let x = listed_held l items i.tallied (fresh_lock p f.name r) some h in listed_lock kind l s.image list_sound p f r u x.0 x.1 x.2)

  none_free : leb l.capacity (free_place l) ≡ true → free_places l ≡ 0
  unfolding free_place free_places
  none_free h =
      let w : l.capacity ≤ lowest (is_empty_at l) l.capacity = leb-true _ _ h in
      count_zero (is_empty_at l) l.capacity (any_never (is_empty_at l) l.capacity (λ j m. lowest_over (is_empty_at l) l.capacity j w m))

  -- 8: 255/11 and 14/0 are given only where these do not suffice; ..
  pub full : (q : Ask) → Full g.capacity g.users items q (outcome_of (call_run kind) q s).answer
  unfolding outcome_of is_unheld is_new
  full q = record {
    no_place = λ h. let a = none_free (answered_11 kind q.function q.process q.count (lent q s) h) in let b = add_up.adds in omega arith;
    too_few = λ h.
        let f = caller_file q.process l q.fcb in
        let a : free_places l < count (is_new l q.process f (record_of q.fcb)) q.count =
        ltb-true _ _ (answered_14 kind q.function q.process q.count (lent q s) h) in
        let b = add_up.adds in
        let e : file_by g.users q ≡ f = ap (λ (us : List ℕ). file_by us q) (sym i.users) ∙ file_meant q l in
        let k : count (is_new l q.process f (record_of q.fcb)) q.count ≡ count (is_unheld items q.process f.name (record_of q.fcb)) q.count =
        count_ext (is_new l q.process f (record_of q.fcb)) (is_unheld items q.process f.name (record_of q.fcb)) q.count
        (λ j m. ap not (held_same q.process f (record_of q.fcb + j) (caller_user q.process l q.fcb))) in
        rw e (omega arith);
  }

  -- .. of a process that holds nothing the list has no item
  pub none_left : (p : ℕ) → NoneBy p items → NoneLeft p l items
  unfolding items_by
  none_left p w = record {
    none_held = w.none;
    none_listed = (let a = add_up.opens-by p in let b = add_up.locks-by p in let c = kind_by 1 p items w in let d = kind_by 2 p items w in omega arith);
  }
