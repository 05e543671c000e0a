-- Every call leaves alone what plain calls do: theorems 6 and 7. Assumes nothing.
use Prim.Native.Nat.{ℕ, ◌+◌, ◌*◌}
use mathlib.Core.Path.{◌≡◌, refl, sym, ap, subst, ◌∙◌}
use mathlib.Core.Bool.{true, false, not}
use mathlib.Core.List.{List}
use mathlib.Core.Logic.{inl, inr, ⊎_elim}
use native.Mathlib.Omega.{arith}
use lib.ListN.{length}
use lib.Dec.{leb, ltb, eqb}
use borrow.Author.Tests.{ltb-false, eq-eqb, le-leb}
use Rattle.words.specs.Tests.{◌and◌}
use Rattle.words.specs.Bytes.{byte, part}
use Rattle.words.proofs.Tests.{either, or_case}
use Rattle.words.proofs.Sets.{and_both, or_left}
use Rattle.words.proofs.Bytes.{part-byte}
use Rattle.rules.specs.declared.kind.Kind.{Kind}
use Rattle.rules.specs.declared.item.Item.{Item}
use Rattle.rules.specs.declared.list.LockList.{LockList}
use Rattle.rules.specs.Drive.{is_empty, record_at}
use Rattle.rules.specs.Locks.{item_at, unpack, fresh_lock}
use Rattle.rules.specs.Codes.{bad_numbers}
use Rattle.rules.specs.Call.{call}
use Rattle.rules.specs.Several.{call_run}
use Rattle.rules.proofs.Told.{bad-numbers}
use Rattle.history.specs.History.{Ask, State, Begun, lent, outcome_of}
use Rattle.history.specs.Held.{is_among}
use Rattle.history.specs.Groups.{Group, has_block}
use Rattle.history.specs.Demands.{Unchanged, is_under, is_user_of, FilesApart, is_anothers, ItemsApart}
use Rattle.history.proofs.Run.{Inv}
use Rattle.history.proofs.Calls.{call-each}
use Rattle.history.proofs.Plain.{locked, files_kept, items_kept}

-- ---- one after the other

unchanged_then : (kind : Kind) (u : ℕ) (name : List ℕ) (r : ℕ) (s t v : List ℕ) → Unchanged kind u name r s t → Unchanged kind u name r t v
    → Unchanged kind u name r s v
unchanged_then kind u name r s t v x y = record { shown = x.shown; same = y.same ∙ x.same }

-- an entry that stays is under the user that it was under
under_same : (u : ℕ) (s t : List ℕ) (e : ℕ) → part (32 * e) 32 t ≡ part (32 * e) 32 s → is_under u s e ≡ is_under u t e
unfolding is_under is_empty
under_same u s t e h =
    ap (λ (x : ℕ). not (eqb x 0xE5) and eqb x u) (sym (first s) ∙ ap (λ (x : List ℕ). byte x 0) (sym h) ∙ first t)
  where
    first : (v : List ℕ) → byte (part (32 * e) 32 v) 0 ≡ byte v (32 * e)
    first v = let z : 32 * e + 0 ≡ 32 * e = omega arith in part-byte v (32 * e) 32 0 (omega arith) ∙ ap (λ (n : ℕ). byte v n) z

files_same : (kind : Kind) (u : ℕ) (s : List ℕ) → FilesApart kind u s s
files_same kind u s = record { entry_same = λ e m c. refl; block_same = λ f r e l. refl; bytes_same = λ f r e l h. refl }

files_then : (kind : Kind) (u : ℕ) (s t v : List ℕ) → FilesApart kind u s t → FilesApart kind u t v → FilesApart kind u s v
unfolding has_block
files_then kind u s t v x y = record {
  entry_same = λ e m c. ⊎_elim
      (λ (h : is_under u s e ≡ true).
      let a = x.entry_same e m (inl h) in
      y.entry_same e m (inl (sym (under_same u s t e a) ∙ h)) ∙ a)
      (λ (h : is_under u v e ≡ true).
      let a = y.entry_same e m (inr h) in
      a ∙ x.entry_same e m (inr (under_same u t v e a ∙ h))) c;
  block_same = λ f r q l. y.block_same f r q l ∙ x.block_same f r q l;
  bytes_same = λ f r q l h.
      let b = x.block_same f r q l in
      let k = y.bytes_same f r q l (ap (λ (m : ℕ). not (eqb m 0)) b ∙ h) in
      subst (λ (m : ℕ). part (record_at kind m r) 128 v ≡ part (record_at kind m r) 128 t) b k ∙ x.bytes_same f r q l h;
}

items_then : (p : ℕ) (l m k : LockList) → ItemsApart p l m → ItemsApart p m k → ItemsApart p l k
items_then p l m k x y = record {
  item_same = λ i w c. ⊎_elim
      (λ (h : is_anothers p (item_at l i) ≡ true).
      let a = x.item_same i w (inl h) in
      y.item_same i w (inl (ap (λ (z : Item). is_anothers p z) a ∙ h)) ∙ a)
      (λ (h : is_anothers p (item_at k i) ≡ true).
      let a = y.item_same i w (inr h) in
      a ∙ x.item_same i w (inr (ap (λ (z : Item). is_anothers p z) (sym a) ∙ h))) c;
  position_same = λ q n. y.position_same q n ∙ x.position_same q n;
}

-- ---- every call

module _ (kind : Kind) (g : Begun kind) (s : State) (items : List Item) (groups : List Group) (i : Inv kind g s items groups) (q : Ask) where
  -- 6: no call changes a record that another process has locked
  pub locked_stays : (p : ℕ) (name : List ℕ) (r : ℕ) → length name ≡ 11 → is_among (fresh_lock p name r) items ≡ true → (q.process ≡ p → ⊥)
      → Unchanged kind (byte g.users p) name r s.image (outcome_of (call_run kind) q s).left.image
  locked_stays p name r long among n =
      call-each kind g q s items groups i (λ (t v : State). Unchanged kind (byte g.users p) name r t.image v.image)
      (record { shown = (locked kind g s items groups i q p name r long among n).shown; same = refl })
      (λ t v. unchanged_then kind (byte g.users p) name r s.image t.image v.image)
      (λ a t gs e w. locked kind g t items gs w a p name r long among (λ z. n (sym e ∙ z)))

  -- 7
  own_apart : (u : ℕ) → (byte g.users q.process ≡ u → ⊥) → FilesApart kind u s.image (outcome_of (call_run kind) q s).left.image
  own_apart u n =
      call-each kind g q s items groups i (λ (t v : State). FilesApart kind u t.image v.image)
      (files_same kind u s.image)
      (λ t v. files_then kind u s.image t.image v.image)
      (λ a t gs e w. files_kept kind g t items gs w a u (λ z. n (ap (λ (p : ℕ). byte g.users p) (sym e) ∙ z)))

  -- 7: none changes a file under another user (a process over 15 has no user: its call is refused), ..
  pub files_apart : (u : ℕ) → (is_user_of g.users q.process u ≡ true → ⊥) → FilesApart kind u s.image (outcome_of (call_run kind) q s).left.image
  unfolding is_user_of outcome_of bad_numbers
  files_apart u n =
      ⊎_elim
      (λ (h : ltb q.process 16 ≡ true). own_apart u (λ e. n (and_both _ _ h (eq-eqb _ _ e))))
      (λ (h : ltb q.process 16 ≡ false).
      let over : bad_numbers q.function q.process q.count q.fcb q.dma s.list ≡ true = or_case _ _
      (λ z. or_left (leb 16 q.process) _ (le-leb 16 q.process (ltb-false q.process 16 h))) in
      rw (bad-numbers kind q.function q.process q.count (lent q s) over) (files_same kind u s.image))
      (either (ltb q.process 16))

  -- .. or an item of another process
  pub items_apart : ItemsApart q.process (unpack s.list) (unpack (outcome_of (call_run kind) q s).left.list)
  items_apart =
      call-each kind g q s items groups i (λ (t v : State). ItemsApart q.process (unpack t.list) (unpack v.list))
      (record { item_same = λ j m c. refl; position_same = λ j n. refl })
      (λ t v. items_then q.process (unpack s.list) (unpack t.list) (unpack v.list))
      (λ a t gs e w. subst (λ (p : ℕ). ItemsApart p (unpack t.list) (unpack (outcome_of (call kind) a t).left.list)) e (items_kept kind g t items gs w a))
