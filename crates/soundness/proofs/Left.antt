-- What a call does to the list and to the image: each end of a call is one of a few. Assumes nothing.
use Prim.Native.Nat.{ℕ, ◌≤◌, ◌<◌}
use mathlib.Core.Path.{◌≡◌, refl, sym}
use mathlib.Core.Bool.{Bool, true, false, true≢false}
use mathlib.Core.List.{List, map}
use native.Mathlib.Omega.{arith}
use lib.ListN.{length, set}
use lib.Seq.{get_or-set_other}
use borrow.Author.Tests.{eqb-true}
use Rattle.words.specs.Bytes.{byte, are_bytes}
use Rattle.words.proofs.Tests.{and_fst, and_snd}
use Rattle.words.proofs.AreBytes.{bytes_part}
use Rattle.rules.specs.declared.kind.Kind.{Kind}
use Rattle.rules.specs.declared.file.File.{File}
use Rattle.rules.specs.declared.item.Item.{Item}
use Rattle.rules.specs.Serves.{Buffers, Outcome}
use Rattle.rules.specs.Drive.{free_entry}
use Rattle.rules.specs.Kinds.{entries}
use Rattle.rules.specs.Locks.{free_place, pack, with_items, with_positions, moved_to}
use Rattle.rules.specs.Asks.{record_of}
use Rattle.rules.specs.Effects.{opened, made, erased, renamed, closed, locked_run, unlocked_run, without_by, terminated, is_of_file, is_in_run}
use Rattle.rules.specs.Call.{call}
use Rattle.rules.proofs.SoundList.{SoundLocks}
use Rattle.rules.proofs.Passed.{Passed}
use Rattle.soundness.proofs.Emptied.{Empties, Whole, close_empties, close_whole, unlock_empties, unlock_whole, end_empties, none_empties}
use Rattle.soundness.proofs.Shapes.{SoundShape, opened_shape, made_shape, emptied_shape, ended_shape, searched_shape, dropped_shape, written_follows}
use Rattle.soundness.proofs.Shapes.{erased_follows, renamed_follows}
use Rattle.soundness.proofs.Leaves.{Leaf, list_of, file_by, new_by, MayMake, MayDelete, MayRename, MayWrite, MayLock, image_written, refused, reopened}
use Rattle.soundness.proofs.Leaves.{newly_opened, newly_made, now_closed, now_erased, now_dropped, now_renamed, now_read, now_sized, now_written, now_rewritten}
use Rattle.soundness.proofs.Leaves.{now_locked, lock_idle, now_unlocked, unlock_idle, now_told, now_ended, now_searched}
use Rattle.soundness.proofs.Walk.{walk}

-- the list, beside the image t: nothing (and it is then sound beside t if it was before), one place set, a run set, places emptied,
-- none of them maybe, and the caller's position set
pub data ListLeft (kind : Kind) (p c : ℕ) (b : Buffers) : List ℕ → List ℕ → Type 0 where
  list_same : (t : List ℕ) → (SoundLocks kind (list_of b) b.image → SoundLocks kind (list_of b) t) → ListLeft kind p c b t b.list
  one_set : Passed kind p c b → (t : List ℕ) (mode : ℕ) → free_place (list_of b) < (list_of b).capacity → SoundShape kind (opened p (file_by p b) mode (list_of b)) t
      → ListLeft kind p c b t (pack (opened p (file_by p b) mode (list_of b)))
  run_set : Passed kind p c b → MayLock kind p c b → ListLeft kind p c b b.image (pack (locked_run p (file_by p b) (record_of b.fcb) c (list_of b)))
  emptied : Passed kind p c b → (t : List ℕ) (away : Item → Bool) (turn : Item → Item) → Empties away turn → ((it : Item) → away it ≡ true → it.process ≡ p)
      → (xs : List ℕ) → ((q : ℕ) → (q ≡ p → ⊥) → byte xs q ≡ byte (list_of b).positions q)
      → SoundShape kind (with_positions (with_items (list_of b) (map turn (list_of b).items)) xs) t
      → ListLeft kind p c b t (pack (with_positions (with_items (list_of b) (map turn (list_of b).items)) xs))

-- the image: nothing, an entry made, a record written, a file's entries erased or renamed
pub data ImageLeft (kind : Kind) (p c : ℕ) (b : Buffers) : List ℕ → Type 0 where
  image_same : ImageLeft kind p c b b.image
  entry_made : Passed kind p c b → MayMake kind p b → ImageLeft kind p c b (made (free_entry kind b.image) (file_by p b) b.image)
  record_stored : Passed kind p c b → MayWrite kind p b → (zeros : Bool) (v : List ℕ) → 128 ≤ length v → (are_bytes b.dma ≡ true → are_bytes v ≡ true)
      → ImageLeft kind p c b (image_written kind zeros p b v)
  file_erased : Passed kind p c b → MayDelete kind p b → ImageLeft kind p c b (erased kind (file_by p b) b.image)
  file_renamed : Passed kind p c b → MayRename kind p b → ImageLeft kind p c b (renamed kind (file_by p b) (new_by p b).name b.image)

-- of an outcome, both
pub record Left (kind : Kind) (p c : ℕ) (b : Buffers) (o : Outcome) : Type 0 where
  -- the list left is, beside the image left, one of those above
  pub list : ListLeft kind p c b o.left.image o.left.list
  -- the image left is one of those above
  pub image : ImageLeft kind p c b o.left.image

-- items that go are the caller's
close_own : (p : ℕ) (f : File) (it : Item) → is_of_file p f it ≡ true → it.process ≡ p
unfolding is_of_file
close_own p f it h = eqb-true _ _ (and_fst _ _ (and_snd _ _ h))

unlock_own : (p : ℕ) (f : File) (r n : ℕ) (it : Item) → is_in_run p f r n it ≡ true → it.process ≡ p
unfolding is_in_run
unlock_own p f r n it h = close_own p f it (and_snd _ _ (and_snd _ _ (and_snd _ _ h)))

module _ (kind : Kind) (n p c : ℕ) (b : Buffers) where
  dma_full : Passed kind p c b → 128 ≤ length b.dma
  dma_full ok = let w = ok.ready.dma_long in omega arith

  -- list and image as they were
  nothing_left : (o : Outcome) → o.left.list ≡ b.list → o.left.image ≡ b.image → Left kind p c b o
  nothing_left o e f = record { list = rw (e, f) (list_same _ (λ g. g)); image = rw f image_same }

  -- places emptied, and the image as it was
  gone : (ok : Passed kind p c b) (away : Item → Bool) (turn : Item → Item) → Empties away turn → Whole (list_of b) away
      → ((it : Item) → away it ≡ true → it.process ≡ p) → ListLeft kind p c b b.image (pack (with_items (list_of b) (map turn (list_of b).items)))
  gone ok away turn e w own = emptied ok _ away turn e own _ (λ q n. refl) (emptied_shape kind p c b ok away turn e w)

  -- the caller's position set, and no other's
  others_stay : (e q : ℕ) → (q ≡ p → ⊥) → byte (set (list_of b).positions p e) q ≡ byte (list_of b).positions q
  others_stay e q n = get_or-set_other (list_of b).positions p q e 0 n

  left_by : (o : Outcome) → Leaf kind n p c b o → Left kind p c b o
  unfolding closed unlocked_run terminated without_by moved_to
  left_by o (refused code z) = nothing_left _ refl refl
  left_by o (reopened k ok w fcb) = nothing_left _ refl refl
  left_by o (newly_opened k ok w fcb) = record { list = one_set ok _ _ w.room (opened_shape kind p c b ok w); image = image_same }
  left_by o (newly_made k ok w fcb) = record { list = one_set ok _ _ w.room (made_shape kind p c b ok w); image = entry_made ok w }
  left_by o (now_closed k ok w) = record {
    list = gone ok _ _ (close_empties p (file_by p b)) (close_whole (list_of b) p (file_by p b)) (close_own p (file_by p b));
    image = image_same;
  }
  left_by o (now_erased k ok w u) = record { list = list_same _ (λ g. erased_follows kind p c b ok w u); image = file_erased ok w }
  left_by o (now_dropped k ok w m) = record {
    list = emptied ok _ _ _ (close_empties p (file_by p b)) (close_own p (file_by p b)) _ (λ q n. refl) (dropped_shape kind p c b ok w);
    image = file_erased ok w;
  }
  left_by o (now_renamed k ok w) = record { list = list_same _ (λ g. renamed_follows kind p c b ok w); image = file_renamed ok w }
  left_by o (now_read k ok dma) = nothing_left _ refl refl
  left_by o (now_sized k ok fcb) = nothing_left _ refl refl
  left_by o (now_written k ok w zeros) = record {
    list = list_same _ (λ g. written_follows kind p c b ok w zeros b.dma (dma_full ok));
    image = record_stored ok w zeros b.dma (dma_full ok) (λ h. h);
  }
  left_by o (now_rewritten k ok w some v full from) = record {
    list = list_same _ (λ g. written_follows kind p c b ok w false v full);
    image = record_stored ok w false v full (λ h. rw from (bytes_part 128 128 b.dma h));
  }
  left_by o (now_locked k ok w) = record { list = run_set ok w; image = image_same }
  left_by o (lock_idle k ok w) = nothing_left _ refl refl
  left_by o (now_unlocked k ok w) = record {
    list = gone ok _ _ (unlock_empties p (file_by p b) (record_of b.fcb) c) (unlock_whole (list_of b) p (file_by p b) (record_of b.fcb) c)
        (unlock_own p (file_by p b) (record_of b.fcb) c);
    image = image_same;
  }
  left_by o (unlock_idle k ok w) = nothing_left _ refl refl
  left_by o (now_told k ok dma) = nothing_left _ refl refl
  left_by o (now_ended k ok) = record {
    list = emptied ok _ _ _ (end_empties p) (λ it h. eqb-true _ _ h) _ (others_stay (entries kind)) (ended_shape kind p c b ok);
    image = image_same;
  }
  left_by o (now_searched k ok answer e low dma) = record {
    list = emptied ok _ _ _ none_empties (λ it h. absurd (true≢false (sym h))) _ (others_stay e) (searched_shape kind p c b ok e low);
    image = image_same;
  }

  -- every call leaves one of these
  pub left : Left kind p c b (call kind n p c b)
  left = left_by _ (walk kind n p c b)
