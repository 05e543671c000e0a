-- A position set leaves the list sound (T-02). Assumes nothing.
use Prim.Native.Nat.{ℕ, ◌≤◌, ◌<◌}
use mathlib.Core.Path.{◌≡◌, ◌∙◌}
use mathlib.Core.List.{List}
use mathlib.Core.Logic.{◌⊎◌, inl, inr, ⊎_elim}
use native.Mathlib.Omega.{arith}
use lib.ListN.{length-set}
use lib.Seq.{get_or-set_same, get_or-set_other}
use Rattle.words.proofs.Tests.{equal?}
use Rattle.rules.specs.declared.kind.Kind.{Kind}
use Rattle.rules.specs.declared.item.Item.{Item}
use Rattle.rules.specs.declared.list.LockList.{LockList}
use Rattle.rules.specs.Kinds.{entries}
use Rattle.rules.specs.Locks.{item_at, position_of, moved_to, clash_at, keeps_limits, opens_by, locks_by, is_kind_by_at}
use Rattle.rules.proofs.SoundList.{Shape, GoodOpen, GoodLock, Used, Vacant, SoundLocks}

module _ (l : LockList) (p e : ℕ) (h : Shape l) where
  -- the process's next entry is then e, every other's what it was
  pub moved_here : p < 16 → position_of (moved_to p e l) p ≡ e
  unfolding moved_to
  moved_here m = get_or-set_same l.positions p e 0 (let k = h.positions_long in omega arith)

  -- .. the next entry of every other process is what it was
  pub moved_other : (q : ℕ) → (q ≡ p → ⊥) → position_of (moved_to p e l) q ≡ position_of l q
  unfolding moved_to
  moved_other q n = get_or-set_other l.positions p q e 0 n

  -- the list keeps its shape, ..
  pub moved_shape : Shape (moved_to p e l)
  unfolding moved_to
  moved_shape = record {
    users_long = h.users_long;
    items_long = h.items_long;
    positions_long = length-set l.positions p e ∙ h.positions_long;
    names_long = h.names_long;
  }

  module _ (kind : Kind) (s : List ℕ) (g : SoundLocks kind l s) where
    moved_good : (x : Item) → GoodOpen kind s l x ⊎ GoodLock kind s l x → GoodOpen kind s (moved_to p e l) x ⊎ GoodLock kind s (moved_to p e l) x
    unfolding moved_to
    moved_good x c =
        ⊎_elim (λ (o : GoodOpen kind s l x). inl (record { kind_one = o.kind_one; mode_fits = o.mode_fits; number_zero = o.number_zero; there = o.there }))
        (λ (o : GoodLock kind s l x). inr (record {
          kind_two = o.kind_two;
          mode_one = o.mode_one;
          holder = record { place = o.holder.place; below = o.holder.below; opens = o.holder.opens; mode = o.holder.mode };
          block = o.block;
        })) c

    moved_place : (i : ℕ) → Vacant l i ⊎ Used kind s l i → Vacant (moved_to p e l) i ⊎ Used kind s (moved_to p e l) i
    unfolding moved_to
    moved_place i c =
        ⊎_elim (λ (v : Vacant l i). inl (record { kind_zero = v.kind_zero; zeros = v.zeros }))
        (λ (v : Used kind s l i). inr (record { below = v.below; plain = v.plain; good = moved_good (item_at l i) v.good })) c

    -- .. and stays sound
    pub moved_sound : e ≤ entries kind → SoundLocks kind (moved_to p e l) s
    unfolding moved_to clash_at keeps_limits opens_by locks_by is_kind_by_at
    moved_sound low = record {
      limits = record {
        capacity_good = g.limits.capacity_good;
        open_good = g.limits.open_good;
        lock_good = g.limits.lock_good;
        users_good = g.limits.users_good;
        rule_good = g.limits.rule_good;
      };
      place = λ i m. moved_place i (g.place i m);
      apart = g.apart;
      keeps = g.keeps;
      next = λ q m. ⊎_elim
          (λ (z : q ≡ p). let w : position_of (moved_to p e l) p ≡ e = moved_here (let y : q < 16 = m in omega arith) in rw z (let y = w in omega arith))
          (λ (z : q ≡ p → ⊥). let w = moved_other q z in let y = g.next q m in omega arith) (equal? q p);
    }
