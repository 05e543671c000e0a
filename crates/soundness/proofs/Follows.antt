-- A list that is sound against one image is so against a changed one that still has its files and blocks. Assumes nothing.
use Prim.Native.Nat.{ℕ, ◌<◌}
use mathlib.Core.Path.{◌≡◌, sym, ◌∙◌}
use mathlib.Core.List.{List}
use mathlib.Core.Logic.{◌⊎◌, inl, inr, ⊎_elim}
use Rattle.rules.specs.declared.kind.Kind.{Kind}
use Rattle.rules.specs.Kinds.{entries}
use Rattle.rules.specs.declared.file.File.{File}
use Rattle.rules.specs.declared.list.LockList.{LockList}
use Rattle.rules.specs.Drive.{entry_of, block_of}
use Rattle.rules.specs.Locks.{item_at, file_of}
use Rattle.rules.proofs.Sound.{Is, SoundImage, found_is}
use Rattle.rules.proofs.SoundList.{Shape, GoodOpen, GoodLock, Used, Vacant, SoundLocks}
use Rattle.soundness.proofs.Changes.{Grown, Touches}
use Rattle.soundness.proofs.Blocks.{At, at_of, of_at, at_grown, is_grown, at_forth, is_forth, found_below}

module _ (kind : Kind) (s t : List ℕ) (l : LockList) (g : SoundLocks kind l s)
    (files : (i : ℕ) → i < 64 → GoodOpen kind s l (item_at l i) → entry_of kind t (file_of l (item_at l i)) 0 < entries kind)
    (blocks : (i : ℕ) → i < 64 → GoodLock kind s l (item_at l i) → block_of kind t (file_of l (item_at l i)) (item_at l i).number ≡ 0 → ⊥) where
  -- a list stays sound where each open still has its file, and the record of each lock a block, ..
  pub follow : SoundLocks kind l t
  follow = record {
    limits = g.limits;
    place = λ i m. ⊎_elim (λ (v : Vacant l i). inl v)
        (λ (v : Used kind s l i). inr (record {
          below = v.below;
          plain = v.plain;
          good = ⊎_elim
              (λ (o : GoodOpen kind s l (item_at l i)). inl (record {
                kind_one = o.kind_one;
                mode_fits = o.mode_fits;
                number_zero = o.number_zero;
                there = files i m o;
              }))
              (λ (o : GoodLock kind s l (item_at l i)). inr (record {
                kind_two = o.kind_two;
                mode_one = o.mode_one;
                holder = o.holder;
                block = blocks i m o;
              })) v.good;
        })) (g.place i m);
    apart = g.apart;
    keeps = g.keeps;
    next = g.next;
  }

-- ---- an image that has grown

module _ (kind : Kind) (s t : List ℕ) (l : LockList) (h : Shape l) (a : SoundImage kind t) (g : SoundLocks kind l s) where
  there_so : (i : ℕ) → i < 64 → (e : ℕ) → e < entries kind → Is t (file_of l (item_at l i)) 0 e → entry_of kind t (file_of l (item_at l i)) 0 < entries kind
  there_so i m e k w = found_below kind t (file_of l (item_at l i)) 0 e k w

  block_so : (i : ℕ) → i < 64 → (b : ℕ) → At kind t (file_of l (item_at l i)) (item_at l i).number b
      → block_of kind t (file_of l (item_at l i)) (item_at l i).number ≡ 0 → ⊥
  block_so i m b w z = w.some (sym (of_at kind t (file_of l (item_at l i)) (item_at l i).number b (h.names_long i m) a w) ∙ z)

  -- .. as where nothing is taken away ..
  pub follow_grown : Grown kind s t → SoundLocks kind l t
  follow_grown w =
      follow kind s t l g
      (λ i m o. there_so i m _ o.there (is_grown kind s t _ 0 _ w o.there (found_is kind s (file_of l (item_at l i)) 0 (h.names_long i m) o.there)))
      (λ i m o. block_so i m _ (at_grown kind s t _ _ _ w (at_of kind s (file_of l (item_at l i)) (item_at l i).number (h.names_long i m) o.block)))

  -- .. or no item's file was touched
  pub follow_touched : (f k : File) → Touches kind s t f k
      → ((i : ℕ) → i < 64 → GoodOpen kind s l (item_at l i) ⊎ GoodLock kind s l (item_at l i) → file_of l (item_at l i) ≡ f → ⊥) → SoundLocks kind l t
  follow_touched f k w n =
      follow kind s t l g
      (λ i m o. there_so i m _ o.there (is_forth kind s t f k _ w (n i m (inl o)) 0 _ o.there
      (found_is kind s (file_of l (item_at l i)) 0 (h.names_long i m) o.there)))
      (λ i m o. block_so i m _ (at_forth kind s t f k _ w (n i m (inr o)) _ _
      (at_of kind s (file_of l (item_at l i)) (item_at l i).number (h.names_long i m) o.block)))
