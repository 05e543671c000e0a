-- Where no other process has a file open all items on it are the caller's, and nobody has it open once they are gone. Assumes nothing.
use Prim.Native.Nat.{ℕ, ◌≤◌, ◌<◌}
use mathlib.Core.Path.{◌≡◌, refl, sym, ap, ◌∙◌}
use mathlib.Core.Bool.{true, false}
use mathlib.Core.List.{List}
use mathlib.Core.Logic.{◌⊎◌, ⊎_elim}
use native.Mathlib.Omega.{arith}
use lib.ListN.{length}
use lib.Dec.{eqb}
use borrow.Author.Tests.{eqb-true, ne_eqb}
use Rattle.words.specs.Tests.{◌and◌}
use Rattle.words.proofs.Tests.{either, never, fails_too, any_at, any_never, and_fst, and_snd, lowest_over}
use Rattle.words.proofs.Sets.{and_both, not_of_false}
use Rattle.rules.specs.declared.kind.Kind.{Kind}
use Rattle.rules.specs.declared.file.File.{File}
use Rattle.rules.specs.declared.list.LockList.{LockList}
use Rattle.rules.specs.Locks.{item_at, user_of, file_of, empty_place, opens_name, opens_name_at, opens_file, opens_file_at, open_of, any_open}
use Rattle.rules.specs.Codes.{opens_elsewhere_at, stops_delete}
use Rattle.rules.specs.Effects.{is_of_file, unless_of_file, closed}
use Rattle.rules.proofs.Items.{name_is}
use Rattle.rules.proofs.SoundList.{Shape, GoodOpen, GoodLock, Used, Vacant, SoundLocks}
use Rattle.soundness.proofs.Emptied.{at_gone, at_kept, close_empties}
use Rattle.soundness.proofs.Taken.{opener, no_items}

module _ (p : ℕ) (l : LockList) (f : File) (none : stops_delete p l f ≡ false) where
  -- an open of the file is the caller's, ..
  pub opens_own : (i : ℕ) → i < 64 → opens_file_at l f i ≡ true → opens_name p f.name (item_at l i) ≡ true
  unfolding stops_delete opens_elsewhere_at opens_file_at opens_file opens_name
  opens_own i m y =
      ⊎_elim
      (λ (q : eqb (item_at l i).process p ≡ true). and_both _ _ (and_fst _ _ y) (and_both _ _ q (and_snd _ _ (and_snd _ _ y))))
      (λ (q : eqb (item_at l i).process p ≡ false). absurd (never (and_both _ _ y (not_of_false _ q)) (any_at (opens_elsewhere_at l p f) 64 i none m)))
      (either (eqb (item_at l i).process p))

  -- .. and so is every item on it;
  pub items_own : (kind : Kind) (s : List ℕ) → SoundLocks kind l s → (i : ℕ) → i < 64 → GoodOpen kind s l (item_at l i) ⊎ GoodLock kind s l (item_at l i)
      → file_of l (item_at l i) ≡ f → (item_at l i).process ≡ p
  unfolding opens_name
  items_own kind s g i m c e =
      let w = opener kind s l g f i m c e in
      sym w.by ∙ eqb-true _ _ (and_fst _ _ (and_snd _ _ (opens_own w.place w.below w.opens)))

  -- where the caller has it not open nobody has, ..
  pub unopened_none : 64 ≤ open_of l p f → any_open l f ≡ false
  unfolding any_open open_of opens_name_at
  unopened_none u =
      any_never (opens_file_at l f) 64
      (λ i m. fails_too (opens_name p f.name (item_at l i)) (opens_file_at l f i) (opens_own i m) (lowest_over (opens_name_at l p f.name) 64 i u m))

  -- .. and once its items are gone nobody has
  pub closed_none : Shape l → any_open (closed p f l) f ≡ false
  unfolding any_open closed
  closed_none h =
      any_never (opens_file_at (closed p f l) f) 64 (λ i m. ⊎_elim
      (λ (k : is_of_file p f (item_at l i) ≡ true). empty i (at_gone l (is_of_file p f) (unless_of_file p f) (close_empties p f) h i m k))
      (λ (k : is_of_file p f (item_at l i) ≡ false). same i (at_kept l (is_of_file p f) (unless_of_file p f) (close_empties p f) h i m k)
      (fails_too (is_of_file p f (item_at l i)) (opens_file_at l f i) (λ y. goes i (opens_own i m y)) k))
      (either (is_of_file p f (item_at l i))))
    where
      goes : (i : ℕ) → opens_name p f.name (item_at l i) ≡ true → is_of_file p f (item_at l i) ≡ true
      goes i y = unfold opens_name is_of_file in
          let one : (item_at l i).kind ≡ 1 = eqb-true _ _ (and_fst _ _ y) in
          and_both _ _ (not_of_false _ (ne_eqb _ _ (λ (z : (item_at l i).kind ≡ 0). absurd (omega arith)))) (and_snd _ _ y)

      empty : (i : ℕ) → item_at (closed p f l) i ≡ empty_place → opens_file_at (closed p f l) f i ≡ false
      empty i e = unfold opens_file_at opens_file closed ◌and◌ in rw e refl

      same : (i : ℕ) → item_at (closed p f l) i ≡ item_at l i → opens_file_at l f i ≡ false → opens_file_at (closed p f l) f i ≡ false
      same i e k = unfold opens_file_at closed in rw e k

-- a file that nobody has open has none of the process's items
pub none_of_file : (kind : Kind) (s : List ℕ) (p : ℕ) (l : LockList) (f : File) → Shape l → SoundLocks kind l s → user_of l p ≡ f.user
    → length f.name ≡ 11 → any_open l f ≡ false → (i : ℕ) → i < 64 → is_of_file p f (item_at l i) ≡ false
unfolding is_of_file
none_of_file kind s p l f h g mine long none i m =
    ⊎_elim
    (λ (y : is_of_file p f (item_at l i) ≡ true).
    let by : (item_at l i).process ≡ p = eqb-true _ _ (and_fst _ _ (and_snd _ _ y)) in
    let u : user_of l (item_at l i).process ≡ f.user = ap (λ (q : ℕ). user_of l q) by ∙ mine in
    let n = name_is (item_at l i).name f.name (h.names_long i m) long (and_snd _ _ (and_snd _ _ y)) in
    let e : file_of l (item_at l i) ≡ f = λ j. record { user = u j; name = n j } in
    ⊎_elim (λ (v : Vacant l i). absurd (never (and_fst _ _ y) (rw v.kind_zero refl)))
    (λ (v : Used kind s l i). absurd (no_items kind s l g f none i m v.good e)) (g.place i m))
    (λ y. y) (either (is_of_file p f (item_at l i)))
