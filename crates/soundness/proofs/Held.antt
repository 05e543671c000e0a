-- Locks of a record, as the tables ask for them, and the places where they stand. Assumes nothing.
use Prim.Native.Nat.{ℕ, ◌<◌}
use mathlib.Core.Path.{◌≡◌}
use mathlib.Core.Bool.{true}
use borrow.Author.Tests.{eqb-true, eq-eqb, ne_eqb}
use Rattle.words.proofs.Tests.{and_fst, and_snd, any_found, any_some}
use Rattle.words.proofs.Sets.{and_both, not_of_false}
use Rattle.rules.specs.declared.file.File.{File}
use Rattle.rules.specs.declared.item.Item.{Item}
use Rattle.rules.specs.declared.list.LockList.{LockList}
use Rattle.rules.specs.Locks.{item_at, user_of, same_name, locks_record, locks_record_at, is_others_lock, locked_by_other, is_own_lock, held}

-- an item that is a lock of the file's record, user being that of its process
pub record IsLock (f : File) (r user : ℕ) (it : Item) : Type 0 where
  -- the item is a record lock
  pub kind_two : it.kind ≡ 2
  -- its record is r
  pub number : it.number ≡ r
  -- the user of its process is the file's
  pub under : user ≡ f.user
  -- its name is the file's
  pub named : same_name it.name f.name ≡ true

-- what the test finds is such a lock, ..
pub lock_is : (f : File) (r user : ℕ) (it : Item) → locks_record f r user it ≡ true → IsLock f r user it
unfolding locks_record
lock_is f r user it h = record {
  kind_two = eqb-true _ _ (and_fst _ _ h);
  number = eqb-true _ _ (and_fst _ _ (and_snd _ _ h));
  under = eqb-true _ _ (and_fst _ _ (and_snd _ _ (and_snd _ _ h)));
  named = and_snd _ _ (and_snd _ _ (and_snd _ _ h));
}

-- .. and the test finds each
pub lock_so : (f : File) (r user : ℕ) (it : Item) → IsLock f r user it → locks_record f r user it ≡ true
unfolding locks_record
lock_so f r user it h =
    and_both _ _ (eq-eqb _ _ h.kind_two) (and_both _ _ (eq-eqb _ _ h.number) (and_both _ _ (eq-eqb _ _ h.under) h.named))

module _ (l : LockList) (p : ℕ) (f : File) (r : ℕ) where
  -- a lock of the process, at some place: it holds the record, ..
  pub held_found : (i : ℕ) → i < 64 → (item_at l i).process ≡ p → IsLock f r (user_of l (item_at l i).process) (item_at l i) → held l p f r ≡ true
  unfolding held is_own_lock locks_record_at
  held_found i m q h = any_found (is_own_lock l p f r) 64 i m (and_both _ _ (eq-eqb _ _ q) (lock_so f r _ (item_at l i) h))

  -- .. and where it holds the record there is such a place;
  pub held_some : held l p f r ≡ true → (i : ℕ) × (i < 64) × ((item_at l i).process ≡ p) × IsLock f r (user_of l (item_at l i).process) (item_at l i)
  unfolding held is_own_lock locks_record_at
  held_some h =
      let w = any_some (is_own_lock l p f r) 64 h in
      (w.0, w.1, eqb-true _ _ (and_fst _ _ w.2), lock_is f r _ (item_at l w.0) (and_snd _ _ w.2))

  -- another's lock, at some place: the record is locked by another
  pub others_found : (i : ℕ) → i < 64 → ((item_at l i).process ≡ p → ⊥) → IsLock f r (user_of l (item_at l i).process) (item_at l i) → locked_by_other l p f r ≡ true
  unfolding locked_by_other is_others_lock locks_record_at
  others_found i m q h = any_found (is_others_lock l p f r) 64 i m (and_both _ _ (not_of_false _ (ne_eqb _ _ q)) (lock_so f r _ (item_at l i) h))
