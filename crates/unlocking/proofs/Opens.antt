-- Lists whose opens are the same, at the same places: what 42 and 43 ask of an open is the same of both. Assumes nothing.
use Prim.Native.Nat.{ℕ, ◌<◌}
use mathlib.Core.Path.{◌≡◌, sym, ap, ◌∙◌}
use mathlib.Core.Bool.{true, false}
use mathlib.Core.List.{List}
use mathlib.Core.Logic.{◌⊎◌, ⊎_elim}
use lib.ListN.{length}
use borrow.Author.Tests.{ltb-true, ltb-false, ne_eqb}
use lib.Dec.{ltb}
use Rattle.words.proofs.Tests.{either, lowest_ext, lowest_holds}
use Rattle.words.proofs.Sets.{and_left}
use Rattle.rules.specs.declared.file.File.{File}
use Rattle.rules.specs.declared.item.Item.{Item}
use Rattle.rules.specs.declared.list.LockList.{LockList}
use Rattle.rules.specs.Drive.{file_from}
use Rattle.rules.specs.Locks.{item_at, opens_name, opens_name_at, open_of}
use Rattle.rules.specs.Asks.{caller_file}
use Rattle.rules.proofs.Items.{open_is}
use Rattle.rules.proofs.Lists.{past_mode}

-- neither of two items is an open
pub record NoOpens (a b : Item) : Type 0 where
  pub not_was : a.kind ≡ 1 → ⊥
  pub not_now : b.kind ≡ 1 → ⊥

-- a place holds the same in both, or an open in neither
pub record SameOpens (l k : LockList) : Type 0 where
  pub users : k.users ≡ l.users
  pub long_was : length l.items ≡ 64
  pub long_now : length k.items ≡ 64
  pub place : (i : ℕ) → i < 64 → (item_at k i ≡ item_at l i) ⊎ NoOpens (item_at l i) (item_at k i)

not_opens : (p : ℕ) (name : List ℕ) (it : Item) → (it.kind ≡ 1 → ⊥) → opens_name p name it ≡ false
unfolding opens_name
not_opens p name it n = and_left _ _ (ne_eqb _ _ n)

module _ (l k : LockList) (w : SameOpens l k) where
  -- the caller's file is the same, ..
  pub file_same : (p : ℕ) (fcb : List ℕ) → caller_file p k fcb ≡ caller_file p l fcb
  unfolding caller_file
  file_same p fcb = ap (λ (us : List ℕ). file_from (lib.ListN.get_or us p 0) fcb 1) w.users

  opens_same : (p : ℕ) (name : List ℕ) (i : ℕ) → i < 64 → opens_name_at k p name i ≡ opens_name_at l p name i
  unfolding opens_name_at
  opens_same p name i m =
      ⊎_elim (λ (q : item_at k i ≡ item_at l i). ap (opens_name p name) q)
      (λ (q : NoOpens (item_at l i) (item_at k i)). not_opens p name (item_at k i) q.not_now ∙ sym (not_opens p name (item_at l i) q.not_was))
      (w.place i m)

  -- .. so is the place of its open of it, ..
  pub open_same : (p : ℕ) (f : File) → open_of k p f ≡ open_of l p f
  unfolding open_of
  open_same p f = lowest_ext (opens_name_at k p f.name) (opens_name_at l p f.name) 64 (opens_same p f.name)

  -- .. and the mode of that open
  pub mode_same : (p : ℕ) (f : File) → (item_at k (open_of l p f)).mode ≡ (item_at l (open_of l p f)).mode
  unfolding open_of opens_name_at
  mode_same p f =
      ⊎_elim
      (λ (q : ltb (open_of l p f) 64 ≡ true).
      let m = ltb-true _ _ q in
      let o = open_is p f.name (item_at l (open_of l p f)) (lowest_holds (opens_name_at l p f.name) 64 m) in
      ⊎_elim (λ (e : item_at k (open_of l p f) ≡ item_at l (open_of l p f)). ap (λ (it : Item). it.mode) e)
      (λ (e : NoOpens (item_at l (open_of l p f)) (item_at k (open_of l p f))). absurd (e.not_was o.kind_one)) (w.place (open_of l p f) m))
      (λ (q : ltb (open_of l p f) 64 ≡ false).
      let m = ltb-false _ _ q in
      sym (past_mode k (open_of l p f) w.long_now m) ∙ past_mode l (open_of l p f) w.long_was m)
      (either (ltb (open_of l p f) 64))
