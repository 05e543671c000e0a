-- What is asked of the lock list's items, as chains over them answer it. Assumes nothing.
use Rattle.std.proofs.Common.{◌≡◌, ℕ, ◌≤◌, Bool, not, List, Option, Some, None, cond, length, get_or, take, refl, ap, ◌∙◌, ⊎_elim, true, false, ltb-false, arith, eqb, ltb, unwrap_or, filter}
use Rattle.std.specs.List.{list_any, position_or_len}
use Rattle.std.proofs.lemmas.List.Sums.{length-filter}
use Rattle.words.specs.Tests.{◌and◌, any, lowest, count}
use Rattle.words.proofs.Tests.{either, lowest_within}
use Rattle.words.proofs.Counts.{count_within}
use Rattle.rules.specs.declared.file.File.{File}
use Rattle.rules.specs.declared.item.Item.{Item}
use Rattle.rules.specs.declared.list.LockList.{LockList}
use Rattle.rules.specs.Locks.{blank, opens_name, opens_file, locks_record, is_kind_by, open_of, any_open, locked_by_other, held}
use Rattle.rules.specs.Locks.{opens_name_at, opens_file_at, locks_record_at, is_others_lock, is_own_lock, is_kind_by_at, is_empty_at, free_places}
use Rattle.rules.specs.Codes.{stands_against, stands_against_at}
use Rattle.rules.proofs.Chains.{any_all, count_all, count_front, position_all}

-- ---- the tests of an item that ask for its process's user

module _ (users : List ℕ) where
  abbrev pub opens_in : File → Item → Bool
  opens_in f it = opens_file f (get_or users it.process 0) it

  abbrev pub against_in : ℕ → File → ℕ → Item → Bool
  against_in p f mode it = opens_file f (get_or users it.process 0) it and stands_against p mode it

  abbrev pub others_in : ℕ → File → ℕ → Item → Bool
  others_in p f r it = not (eqb it.process p) and locks_record f r (get_or users it.process 0) it

  abbrev pub own_in : ℕ → File → ℕ → Item → Bool
  own_in p f r it = eqb it.process p and locks_record f r (get_or users it.process 0) it

-- ---- some item passes

module _ (r : Bool) (l : LockList) where
  pub any_open_told : (f : File) → length l.items ≡ 64 → r ≡ list_any (opens_in l.users f) l.items → r ≡ any_open l f
  unfolding any_open opens_file_at
  any_open_told f long e = e ∙ any_all _ (opens_file_at l f) blank l.items 64 long (λ k m. refl)

  pub any_against_told : (p : ℕ) (f : File) (mode : ℕ) → length l.items ≡ 64 → r ≡ list_any (against_in l.users p f mode) l.items
      → r ≡ any (stands_against_at l p f mode) 64
  unfolding stands_against_at opens_file_at
  any_against_told p f mode long e = e ∙ any_all _ (stands_against_at l p f mode) blank l.items 64 long (λ k m. refl)

  pub locked_told : (p : ℕ) (f : File) (x : ℕ) → length l.items ≡ 64 → r ≡ list_any (others_in l.users p f x) l.items → r ≡ locked_by_other l p f x
  unfolding locked_by_other is_others_lock locks_record_at
  locked_told p f x long e = e ∙ any_all _ (is_others_lock l p f x) blank l.items 64 long (λ k m. refl)

  pub held_told : (p : ℕ) (f : File) (x : ℕ) → length l.items ≡ 64 → r ≡ list_any (own_in l.users p f x) l.items → r ≡ held l p f x
  unfolding held is_own_lock locks_record_at
  held_told p f x long e = e ∙ any_all _ (is_own_lock l p f x) blank l.items 64 long (λ k m. refl)

-- ---- the first that passes, and how many do

first_or : (n k m : ℕ) → k ≤ n → m ≡ n → unwrap_or (cond (ltb k m) (Some k) None) n ≡ k
first_or n k m l e =
    ⊎_elim (λ (q : ltb k m ≡ true). rw q)
    (λ (q : ltb k m ≡ false). let w = ltb-false k m q in rw q (omega arith)) (either (ltb k m))

module _ (r : ℕ) (l : LockList) where
  pub open_of_told : (p : ℕ) (f : File) (o : Option ℕ) → length l.items ≡ 64
      → o ≡ cond (ltb (position_or_len (opens_name p f.name) l.items) (length l.items)) (Some (position_or_len (opens_name p f.name) l.items)) None
      → r ≡ unwrap_or o 64 → (r ≡ open_of l p f) × (r ≤ 64)
  unfolding open_of opens_name_at
  open_of_told p f o long e u =
      let q = position_all (opens_name p f.name) (opens_name_at l p f.name) blank l.items 64 long (λ k m. refl) in
      let w = lowest_within (opens_name_at l p f.name) 64 in
      let d : r ≡ lowest (opens_name_at l p f.name) 64 =
      u ∙ ap (λ (x : Option ℕ). unwrap_or x 64) e ∙ rw q (first_or 64 (lowest (opens_name_at l p f.name) 64) (length l.items) w long) in
      (d, omega arith)
