-- Isolation: a call leaves other users' files and other processes' items as they were. Assumes nothing.
use Prim.Native.Nat.{ℕ, ◌≤◌, ◌<◌}
use mathlib.Core.Path.{◌≡◌, refl, ap, ◌∙◌}
use mathlib.Core.Bool.{Bool, true, false}
use mathlib.Core.List.{List, map}
use mathlib.Core.Logic.{◌⊎◌, inl, inr, ⊎_elim}
use native.Mathlib.Omega.{arith}
use lib.ListN.{length, set}
use borrow.Author.Tests.{eqb-false, not-true}
use Rattle.words.specs.Bytes.{byte}
use Rattle.words.proofs.Tests.{either, equal?, and_fst, and_snd}
use Rattle.rules.specs.declared.kind.Kind.{Kind}
use Rattle.rules.specs.Kinds.{entries}
use Rattle.rules.specs.declared.file.File.{File}
use Rattle.rules.specs.declared.item.Item.{Item}
use Rattle.rules.specs.declared.list.LockList.{LockList}
use Rattle.rules.specs.Serves.{Buffers}
use Rattle.rules.specs.Drive.{is_empty, user_byte, file_from}
use Rattle.rules.specs.Locks.{item_at, user_of, unpack, with_items, with_positions, fresh_open, free_place}
use Rattle.rules.specs.Asks.{record_of, new_file}
use Rattle.rules.specs.Effects.{placed, opened, locked_run}
use Rattle.rules.proofs.Sound.{SoundImage}
use Rattle.rules.proofs.Frames.{Same, same_refl, user_is}
use Rattle.rules.proofs.SoundList.{Shape, capacity_fits}
use Rattle.soundness.proofs.Changes.{Touches, Theirs}
use Rattle.soundness.proofs.Blocks.{At, at_grown, at_forth, at_back}
use Rattle.soundness.proofs.Erased.{all-erased, erased_touches}
use Rattle.soundness.proofs.Renamed.{all_renamed}
use Rattle.soundness.proofs.Written.{Old, New}
use Rattle.soundness.proofs.Placed.{free_room, at_here, at_other}
use Rattle.soundness.proofs.Emptied.{Empties, at_gone, at_kept}
use Rattle.soundness.proofs.Run.{Filled, running}
use Rattle.soundness.proofs.Shapes.{packed, locked_shape}
use Rattle.soundness.proofs.Left.{ListLeft, ImageLeft, list_same, one_set, run_set, emptied, image_same, entry_made, record_stored, file_erased, file_renamed}
use Rattle.soundness.proofs.Taken.{caller_long, caller_user}
use Rattle.soundness.proofs.Ends.{shape_of, list-of, made_of, renamed_touch, written_of, takes_of}
use Rattle.rules.proofs.Passed.{Passed}
use Rattle.soundness.proofs.Leaves.{list_of, file_by, new_by, MayWrite, image_written, MayLock}
use Rattle.history.specs.Demands.{is_anothers, ItemsApart}
use Rattle.history.proofs.Seen.{Seen, seen_all, seen_written}

-- ---- what a change by user v leaves of the others' files

pub record Others (kind : Kind) (s t : List ℕ) (v : ℕ) : Type 0 where
  -- each entry is the same, or is under v before and after, where it is in use
  pub entry : (e : ℕ) → e < entries kind → Same s e t e ⊎ ((is_empty s e ≡ false → user_byte s e ≡ v) × (is_empty t e ≡ false → user_byte t e ≡ v))
  -- a record of a file under another user keeps its block and its bytes
  pub forth : (f : File) (r b : ℕ) → length f.name ≡ 11 → (f.user ≡ v → ⊥) → At kind s f r b → Seen kind s t f r b
  -- a block that such a record has after it had before
  pub back : (f : File) (r b : ℕ) → (f.user ≡ v → ⊥) → At kind t f r b → At kind s f r b

others_same : (kind : Kind) (s : List ℕ) (v : ℕ) → Others kind s s v
others_same kind s v = record { entry = λ e l. inl (same_refl s e); forth = λ f r b l n a. record { there = a; bytes = refl }; back = λ f r b n a. a }

-- of a change that touches files under v only
others_touched : (kind : Kind) (s t : List ℕ) (f h : File) (v : ℕ) → f.user ≡ v → h.user ≡ v → Touches kind s t f h
    → ((k : File) (r b : ℕ) → length k.name ≡ 11 → (k ≡ f → ⊥) → At kind s k r b → Seen kind s t k r b) → Others kind s t v
others_touched kind s t f h v d e w seen = record {
  entry = λ j l. ⊎_elim (λ (z : Same s j t j). inl z)
      (λ (z : Theirs s t f h j). inr (λ u. user_is s f j (z.was u) ∙ d, λ u. user_is t h j (z.now u) ∙ e)) (w.entry j l);
  forth = λ k r b l n a. seen k r b l (λ z. n (ap (λ (x : File). x.user) z ∙ d)) a;
  back = λ k r b n a. at_back kind s t f h k w (λ z. n (ap (λ (x : File). x.user) z ∙ e)) r b a;
}

module _ (kind : Kind) (p c : ℕ) (b : Buffers) (g : SoundImage kind b.image) where
  abbrev l : LockList
  l = list_of b

  abbrev s : List ℕ
  s = b.image

  mine : (file_by p b).user ≡ user_of l p
  mine = caller_user p l b.fcb

  mine_new : (new_by p b).user ≡ user_of l p
  unfolding new_file file_from
  mine_new = refl

  long : length (file_by p b).name ≡ 11
  long = caller_long p l b.fcb

  others_write : (ok : Passed kind p c b) → MayWrite kind p b → (zeros : Bool) (v : List ℕ) → 128 ≤ length v
      → Others kind s (image_written kind zeros p b v) (user_of l p)
  others_write ok w zeros v full =
      let t = image_written kind zeros p b v in
      let k = written_of kind p c b ok w zeros v full in
      others_touched kind s t (file_by p b) (file_by p b) (user_of l p) mine mine
      (⊎_elim (λ (x : Old kind s t (file_by p b) (record_of b.fcb)). x.wrote.change.touches)
      (λ (x : New kind s t (file_by p b) (record_of b.fcb)). x.wrote.change.touches) k)
      (λ f r d m z a. seen_written kind s t (file_by p b) (record_of b.fcb) g long f r d m a k (λ e. z e.0))

  -- a call leaves the files of users other than the caller's as they were, ..
  pub others_left : (t : List ℕ) → ImageLeft kind p c b t → Others kind s t (user_of l p)
  others_left t image_same = others_same kind s (user_of l p)
  others_left t (entry_made ok w) =
      let d = made_of kind p c b ok w 0 0 0 0 in
      others_touched kind s _ (file_by p b) (file_by p b) (user_of l p) mine mine d.touches
      (λ f r x m z a. seen_all kind s _ f r x g d.touches.long a (λ j y. d.data_kept.at j y (inr (omega arith))) (at_grown kind s _ f r x d.grown a))
  others_left t (record_stored ok w zeros v full bytes) = others_write ok w zeros v full
  others_left t (file_erased ok w) =
      let d = all-erased kind s (file_by p b) g long in
      let h = erased_touches kind s (file_by p b) g long in
      others_touched kind s _ (file_by p b) (file_by p b) (user_of l p) mine mine h
      (λ f r x m z a. seen_all kind s _ f r x g d.len a d.past (at_forth kind s _ (file_by p b) (file_by p b) f h z r x a))
  others_left t (file_renamed ok w) =
      let d = all_renamed kind s (file_by p b) (new_by p b).name g in
      let h = renamed_touch kind p c b ok w in
      others_touched kind s _ (file_by p b) (new_by p b) (user_of l p) mine mine_new h
      (λ f r x m z a. seen_all kind s _ f r x g d.len a d.past (at_forth kind s _ (file_by p b) (new_by p b) f h z r x a))

-- ---- items

-- an item of another process is no empty place, and is not the caller's
module _ (p : ℕ) (it : Item) (h : is_anothers p it ≡ true) where
  anothers_some : it.kind ≡ 0 → ⊥
  unfolding is_anothers
  anothers_some = eqb-false _ _ (not-true _ (and_fst _ _ h))

  anothers_by : it.process ≡ p → ⊥
  unfolding is_anothers
  anothers_by = eqb-false _ _ (not-true _ (and_snd _ _ h))

items_same : (p : ℕ) (l : LockList) → ItemsApart p l l
items_same p l = record { item_same = λ i m c. refl; position_same = λ q n. refl }

-- one empty place set to an item of the caller
items_set : (p : ℕ) (l : LockList) (j : ℕ) (it : Item) → Shape l → j < 64 → (item_at l j).kind ≡ 0 → it.process ≡ p
    → ItemsApart p l (with_items l (set l.items j it))
items_set p l j it h m e d = record {
  item_same = λ i k c. ⊎_elim
      (λ (q : i ≡ j). absurd (⊎_elim
      (λ (z : is_anothers p (item_at l i) ≡ true). anothers_some p (item_at l i) z (ap (λ (x : ℕ). (item_at l x).kind) q ∙ e))
      (λ (z : is_anothers p (item_at (with_items l (set l.items j it)) i) ≡ true).
      anothers_by p (item_at (with_items l (set l.items j it)) i) z
      (ap (λ (x : ℕ). (item_at (with_items l (set l.items j it)) x).process) q ∙ ap (λ (x : Item). x.process) (at_here l j it h m) ∙ d)) c))
      (λ (q : i ≡ j → ⊥). at_other l j it h m i q) (equal? i j);
  position_same = λ q n. refl;
}

-- places of the caller's items emptied, its position set
items_gone : (p : ℕ) (l : LockList) (away : Item → Bool) (turn : Item → Item) → Empties away turn → Shape l → ((it : Item) → away it ≡ true → it.process ≡ p)
    → (xs : List ℕ) → ((q : ℕ) → (q ≡ p → ⊥) → byte xs q ≡ byte l.positions q) → ItemsApart p l (with_positions (with_items l (map turn l.items)) xs)
items_gone p l away turn t h own xs stay = record {
  item_same = λ i m c. ⊎_elim
      (λ (q : away (item_at l i) ≡ true). absurd (⊎_elim
      (λ (z : is_anothers p (item_at l i) ≡ true). anothers_by p (item_at l i) z (own (item_at l i) q))
      (λ (z : is_anothers p (item_at (with_items l (map turn l.items)) i) ≡ true). anothers_some p (item_at (with_items l (map turn l.items)) i) z
      (ap (λ (x : Item). x.kind) (at_gone l away turn t h i m q))) c))
      (λ (q : away (item_at l i) ≡ false). at_kept l away turn t h i m q) (either (away (item_at l i)));
  position_same = stay;
}

module _ (kind : Kind) (p c : ℕ) (b : Buffers) where
  opened_apart : (ok : Passed kind p c b) (mode : ℕ) → free_place (list_of b) < (list_of b).capacity
      → ItemsApart p (list_of b) (opened p (file_by p b) mode (list_of b))
  unfolding opened placed
  opened_apart ok mode room =
      items_set p (list_of b) (free_place (list_of b)) (fresh_open p (file_by p b).name mode) (shape_of kind p c b ok)
      (let k = capacity_fits (list_of b) (list-of kind p c b ok).limits in omega arith) (free_room (list_of b) room).empty refl

  run_apart : (ok : Passed kind p c b) (w : MayLock kind p c b) → ItemsApart p (list_of b) (locked_run p (file_by p b) (record_of b.fcb) c (list_of b))
  unfolding locked_run
  run_apart ok w =
      let r = running kind b.image (list_of b) p (file_by p b) (record_of b.fcb) c (shape_of kind p c b ok) (list-of kind p c b ok)
      (takes_of kind p c b ok w) c (omega arith) in
      rw r.is (record {
        item_same = λ i m d. ⊎_elim (λ z. z)
            (λ (z : Filled (list_of b) (with_items (list_of b) r.items) p (file_by p b) (record_of b.fcb) c i).
            absurd (⊎_elim
            (λ (y : is_anothers p (item_at (list_of b) i) ≡ true). anothers_some p (item_at (list_of b) i) y z.was_empty)
            (λ (y : is_anothers p (item_at (with_items (list_of b) r.items) i) ≡ true). anothers_by p (item_at (with_items (list_of b) r.items) i) y
            (ap (λ (x : Item). x.process) z.now)) d))
            (r.place i m);
        position_same = λ q n. refl;
      })

  -- .. and the items of other processes
  pub items_left : (t list : List ℕ) → ListLeft kind p c b t list → ItemsApart p (list_of b) (unpack list)
  items_left t list (list_same u follows) = items_same p (list_of b)
  items_left t list (one_set ok u mode room h) = packed (ItemsApart p (list_of b)) kind _ u h (opened_apart ok mode room)
  items_left t list (run_set ok w) = packed (ItemsApart p (list_of b)) kind _ b.image (locked_shape kind p c b ok w) (run_apart ok w)
  items_left t list (emptied ok u away turn e own xs stay h) =
      packed (ItemsApart p (list_of b)) kind _ u h
      (items_gone p (list_of b) away turn e (shape_of kind p c b ok) own xs stay)
