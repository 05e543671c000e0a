-- The run's records locked in the list are those that the history grants. Assumes nothing.
use Prim.Native.Nat.{ℕ, zero, suc, ◌+◌, ◌≤◌, ◌<◌}
use mathlib.Core.Path.{◌≡◌, sym, ap, ◌∙◌}
use mathlib.Core.Bool.{true, false}
use mathlib.Core.List.{List}
use mathlib.Core.Logic.{⊎_elim}
use native.Mathlib.Omega.{arith}
use Rattle.words.specs.Tests.{◌if◌else◌}
use Rattle.words.specs.Lists.{turns}
use Rattle.words.proofs.Tests.{either, never}
use Rattle.rules.specs.declared.kind.Kind.{Kind}
use Rattle.rules.specs.declared.file.File.{File}
use Rattle.rules.specs.declared.item.Item.{Item}
use Rattle.rules.specs.declared.list.LockList.{LockList}
use Rattle.rules.specs.Locks.{item_at, user_of, with_items, fresh_lock, free_place, held}
use Rattle.rules.specs.Effects.{placed, locked_at}
use Rattle.rules.proofs.Items.{name_sym}
use Rattle.rules.proofs.SoundList.{Shape, GoodOpen, GoodLock, Used, Vacant, SoundLocks, capacity_fits}
use Rattle.soundness.proofs.Placed.{free_room}
use Rattle.soundness.proofs.Held.{held_some, held_found}
use Rattle.soundness.proofs.Run.{Takes, Running, running, run_room}
use Rattle.history.specs.Held.{same_item, granting_at}
use Rattle.history.proofs.Items.{alike_of, alike_so, granting_held, granting_new}
use Rattle.history.proofs.Tallied.{Tally, held_listed, not_held, tally-set}

module _ (kind : Kind) (l : LockList) (s : List ℕ) (g : SoundLocks kind l s) (p : ℕ) (f : File) (r : ℕ) (under : f.user ≡ user_of l p) where
  -- a lock that the process holds stands in the list, ..
  pub lock_listed : held l p f r ≡ true → (i : ℕ) × (i < 64) × (same_item (fresh_lock p f.name r) (item_at l i) ≡ true)
  lock_listed h =
      let x = held_some l p f r h in
      let w = x.3 in
      let one : (item_at l x.0).mode ≡ 1 =
      ⊎_elim (λ (v : Vacant l x.0). let z = v.kind_zero in let y = w.kind_two in absurd (omega arith))
      (λ (v : Used kind s l x.0). ⊎_elim (λ (o : GoodOpen kind s l (item_at l x.0)). let z = o.kind_one in let y = w.kind_two in absurd (omega arith))
      (λ (o : GoodLock kind s l (item_at l x.0)). o.mode_one) v.good)
      (g.place x.0 x.1) in (
        x.0,
        x.1,
        alike_so (fresh_lock p f.name r) (item_at l x.0)
            (record { kinds = sym w.kind_two; processes = sym x.2; names = name_sym _ _ w.named; modes = sym one; numbers = sym w.number }),
      )

  -- .. and one that stands there it holds
  pub listed_lock : (i : ℕ) → i < 64 → same_item (fresh_lock p f.name r) (item_at l i) ≡ true → held l p f r ≡ true
  listed_lock i m h =
      let w = alike_of (fresh_lock p f.name r) (item_at l i) h in
      held_found l p f r i m (sym w.processes) (record {
        kind_two = sym w.kinds;
        number = sym w.numbers;
        under = ap (λ (q : ℕ). user_of l q) (sym w.processes) ∙ sym under;
        named = name_sym f.name (item_at l i).name w.names;
      })

module _ (kind : Kind) (s : List ℕ) (l₀ : LockList) (p : ℕ) (f : File) (r n : ℕ) (h₀ : Shape l₀) (g₀ : SoundLocks kind l₀ s) (t : Takes kind s l₀ p f r n)
    (g : List Item) (y : Tally l₀ g) where
  one_more : (k : ℕ) → k < n → (w : Running kind s l₀ p f r k) (items : List Item) → Tally (with_items l₀ w.items) items
      → Tally (locked_at p f r k (with_items l₀ w.items)) (granting_at p f.name r k items)
  unfolding locked_at granting_at placed ◌if◌else◌
  one_more k m w items z =
      let l = with_items l₀ w.items in
      let it = fresh_lock p f.name (r + k) in
      let some : it.kind ≡ 0 → ⊥ = λ (q : ◌≡◌ {A = ℕ} 2 0). absurd (omega arith) in
      ⊎_elim
      (λ (q : held l p f (r + k) ≡ true).
      let x = lock_listed kind l s w.sound p f (r + k) t.under q in
      rw (q, granting_held it items (held_listed l items z it some x.0 x.1 x.2)) z)
      (λ (q : held l p f (r + k) ≡ false).
      let room = run_room kind s l₀ p f r n h₀ g₀ t k m w q in
      let e = free_room l room in
      let inside : free_place l < 64 = let c = capacity_fits l w.sound.limits in omega arith in
      let none : (i : ℕ) → i < 64 → same_item it (item_at l i) ≡ false = λ i v. ⊎_elim
      (λ (d : same_item it (item_at l i) ≡ true). absurd (never (listed_lock kind l s w.sound p f (r + k) t.under i v d) q)) (λ d. d)
      (either (same_item it (item_at l i))) in
      rw (q, granting_new it items (not_held l items z it some none)) (tally-set l (free_place l) it w.shape inside e.empty items z))
      (either (held l p f (r + k)))

  -- after each record of the run the list has just what is granted so far
  pub tally-run : (k : ℕ) → k ≤ n → Tally (turns (locked_at p f r) k l₀) (turns (granting_at p f.name r) k g)
  unfolding turns
  tally-run zero m = y
  tally-run (suc k) m =
      let w = running kind s l₀ p f r n h₀ g₀ t k (omega arith) in
      let z = tally-run k (omega arith) in
      rw w.is (one_more k (omega arith) w _ (rw w.is at z))
