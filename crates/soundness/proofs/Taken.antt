-- What the leaves give to the list: a new open, a run of locks, and that nobody has the file open. Assumes nothing.
use Prim.Native.Nat.{ℕ, ◌+◌, ◌%◌, ◌≤◌, ◌<◌}
use mathlib.Core.Path.{◌≡◌, refl, sym, ap, ◌∙◌}
use mathlib.Core.Bool.{true, false, not}
use mathlib.Core.List.{List}
use mathlib.Core.Logic.{◌⊎◌, inl, ⊎_elim}
use native.Mathlib.Omega.{arith}
use native.Mathlib.Nat.{zero-add, add-zero}
use lib.ListN.{length}
use lib.Dec.{eqb, leb}
use borrow.Author.Tests.{eqb-true, eq-eqb, ne_eqb, le-leb, lt-ltb, not-true, not-false}
use Rattle.words.specs.Tests.{◌and◌, ◌or◌, all, ◌if◌else◌}
use Rattle.words.specs.Bytes.{byte, low_from}
use Rattle.words.proofs.Tests.{and_rest, either, never, and_fst, and_snd, or_fst, or_snd, or_so, all_ext, all_make, any_at, lowest_holds, lowest_over}
use Rattle.words.proofs.Lists.{tab_at}
use Rattle.words.proofs.Sets.{and_both, not_of_false}
use Rattle.rules.specs.declared.kind.Kind.{Kind}
use Rattle.rules.specs.Kinds.{entries, top}
use Rattle.rules.specs.declared.file.File.{File}
use Rattle.rules.specs.declared.item.Item.{Item}
use Rattle.rules.specs.declared.list.LockList.{LockList}
use Rattle.rules.specs.Serves.{Buffers}
use Rattle.rules.specs.Drive.{legal_byte, legal_at, legal_name, file_from, entry_of}
use Rattle.rules.specs.Locks.{item_at, user_of, file_of, fresh_open, is_kind_by, is_low, opens_name_at, opens_file, opens_file_at, open_of, any_open, opens_by, free_place}
use Rattle.rules.specs.Locks.{same_name, same_file, stand_beside, clash}
use Rattle.rules.specs.Asks.{caller_file, new_file, open_mode, make_mode}
use Rattle.rules.specs.Codes.{stands_against, stands_against_at}
use Rattle.rules.proofs.Sound.{from_long}
use Rattle.rules.proofs.Items.{IsOpen, open_is, open_so, name_sym, name_then, name_is, name_refl}
use Rattle.rules.proofs.SoundList.{Shape, Holder, GoodOpen, GoodLock, is_plain, Used, Vacant, SoundLocks}
use Rattle.soundness.proofs.Placed.{Fits}
use Rattle.soundness.proofs.Entered.{low_low}
use Rattle.rules.proofs.Passed.{Passed}
use Rattle.soundness.proofs.Leaves.{list_of, file_by, open_by, mode_by, MayOpen, MayMake}

-- ---- the name in an FCB, as a file has it

module _ (u : ℕ) (fcb : List ℕ) (at : ℕ) where
  -- its bytes are the low seven bits of those in the FCB, ..
  pub name_byte : (k : ℕ) → k < 11 → byte (file_from u fcb at).name k ≡ low_from fcb at k
  unfolding file_from
  name_byte k l = tab_at (low_from fcb at) 11 k 0 l

  -- .. so they have no high bits, ..
  pub name_low : all (is_low (file_from u fcb at).name) 11 ≡ true
  unfolding is_low
  name_low = all_make (is_low (file_from u fcb at).name) 11 (λ k l. lt-ltb (byte (file_from u fcb at).name k) 128 (rw (name_byte k l) (omega arith)))

  -- .. and it is legal where the one in the FCB is
  pub name_legal : legal_name fcb at ≡ true → legal_name (file_from u fcb at).name 0 ≡ true
  unfolding legal_name legal_at legal_byte
  name_legal h =
      let low : (k : ℕ) → k < 11 → byte (file_from u fcb at).name (0 + k) % 128 ≡ byte fcb (at + k) % 128 =
      λ k m. rw (zero-add k, name_byte k m) (low_low (byte fcb (at + k))) in
      let z : byte (file_from u fcb at).name 0 % 128 ≡ byte fcb at % 128 = low 0 (omega arith) ∙ ap (λ (n : ℕ). byte fcb n % 128) (add-zero at) in
      rw (
        z,
        all_ext (legal_at (file_from u fcb at).name 0) (legal_at fcb at) 11
            (λ k m. ap (λ (b : ℕ). leb 32 b and leb b 126 and not (eqb b 63)) (low k m)),
      ) h

-- the name of the caller's file is of eleven bytes, ..
pub caller_long : (p : ℕ) (l : LockList) (fcb : List ℕ) → length (caller_file p l fcb).name ≡ 11
unfolding caller_file
caller_long p l fcb = from_long (user_of l p) fcb 1

-- .. the new name too;
pub new_long : (p : ℕ) (l : LockList) (fcb : List ℕ) → length (new_file p l fcb).name ≡ 11
unfolding new_file
new_long p l fcb = from_long (user_of l p) fcb 17

-- the file's user is the caller's, ..
pub caller_user : (p : ℕ) (l : LockList) (fcb : List ℕ) → (caller_file p l fcb).user ≡ user_of l p
unfolding caller_file file_from
caller_user p l fcb = refl

-- .. its name has no high bits, ..
pub caller_low : (p : ℕ) (l : LockList) (fcb : List ℕ) → all (is_low (caller_file p l fcb).name) 11 ≡ true
unfolding caller_file
caller_low p l fcb = name_low (user_of l p) fcb 1

-- .. and is legal where the one in the FCB is;
pub caller_legal : (p : ℕ) (l : LockList) (fcb : List ℕ) → legal_name fcb 1 ≡ true → legal_name (caller_file p l fcb).name 0 ≡ true
unfolding caller_file
caller_legal p l fcb h = name_legal (user_of l p) fcb 1 h

-- that name under the caller's user is the file
pub caller_mine : (p : ℕ) (l : LockList) (fcb : List ℕ) → ◌≡◌ {A = File} (record { user = user_of l p; name = (caller_file p l fcb).name }) (caller_file p l fcb)
caller_mine p l fcb = λ i. record { user = sym (caller_user p l fcb) i; name = (caller_file p l fcb).name }

-- ---- a new open

clash_one : (p : ℕ) (name : List ℕ) (mode : ℕ) (x : Item) → clash (fresh_open p name mode) x ≡ true
    → (eqb x.kind 1 and not (stand_beside (fresh_open p name mode) x)) ≡ true
unfolding clash ◌and◌
clash_one p name mode x h =
    ⊎_elim (λ q. q) (λ (q : (eqb x.kind 1 and not (stand_beside (fresh_open p name mode) x)) ≡ false). absurd (never (or_so _ _ h q) refl))
    (either (eqb x.kind 1 and not (stand_beside (fresh_open p name mode) x)))

mode_small : (fcb : List ℕ) → (open_mode fcb ≤ 2) × (make_mode fcb ≤ 2)
unfolding open_mode make_mode ◌if◌else◌
mode_small fcb = (
  ⊎_elim (λ q. rw q (omega arith)) (λ q. rw q (⊎_elim (λ z. rw z (omega arith)) (λ z. rw z (omega arith)) (either (leb 128 (byte fcb 5)))))
      (either (leb 128 (byte fcb 6))),
  ⊎_elim (λ z. rw z (omega arith)) (λ z. rw z (omega arith)) (either (leb 128 (byte fcb 5))),
)

module _ (kind : Kind) (s : List ℕ) (p c : ℕ) (b : Buffers) (ok : Passed kind p c b) (g : SoundLocks kind (list_of b) s) where
  abbrev l : LockList
  l = list_of b

  abbrev f : File
  f = file_by p b

  -- any other open of the file can stand beside it
  open_fits : (mode : ℕ) → mode ≤ 2 → legal_name b.fcb 1 ≡ true → entry_of kind s f 0 < entries kind → opens_by l p < l.openlimit
      → ((i : ℕ) → i < 64 → IsOpen (item_at l i).process f.name (item_at l i) → user_of l (item_at l i).process ≡ f.user
      → stand_beside (fresh_open p f.name mode) (item_at l i) ≡ true)
      → Fits kind s l (free_place l) (fresh_open p f.name mode)
  unfolding is_plain is_kind_by same_file ◌and◌
  open_fits mode small legal there within beside = record {
    name_long = caller_long p l b.fcb;
    plain = and_both _ _ (le-leb p 15 (let m = ok.process_fits in omega arith))
        (and_both _ _ (caller_legal p l b.fcb legal) (and_both _ _ (caller_low p l b.fcb) (le-leb 0 (top kind) (omega arith))));
    good = inl (record { kind_one = refl; mode_fits = small; number_zero = refl; there = rw (caller_mine p l b.fcb) there });
    no_clash = λ i m q.
        ⊎_elim
        (λ (y : (clash (fresh_open p f.name mode) (item_at l i) and same_file (record { user = user_of l p; name = f.name }) (file_of l (item_at l i))) ≡ true).
        let a = clash_one p f.name mode (item_at l i) (and_fst (clash (fresh_open p f.name mode) (item_at l i)) _ y) in
        let e : same_file (record { user = user_of l p; name = f.name }) (file_of l (item_at l i)) ≡ true = and_snd
        (clash (fresh_open p f.name mode) (item_at l i)) _ y in
        absurd (never (beside i m
        (record {
          kind_one = eqb-true _ _ (and_fst (eqb (item_at l i).kind 1) _ a);
          by = refl;
          named = name_sym f.name (item_at l i).name (and_snd (eqb (user_of l p) (user_of l (item_at l i).process)) _ e);
        })
        (sym (eqb-true (user_of l p) (user_of l (item_at l i).process) (and_fst (eqb (user_of l p) (user_of l (item_at l i).process)) _ e))
        ∙ sym (caller_user p l b.fcb)))
        (not-true _ (and_snd (eqb (item_at l i).kind 1) _ a))))
        (λ y. y) (either (clash (fresh_open p f.name mode) (item_at l i) and same_file (record { user = user_of l p; name = f.name }) (file_of l (item_at l i))));
    opens_fit = λ q z. let e : p ≡ q = eqb-true p q z in rw (← e) within;
    locks_fit = λ q z. absurd (never z refl);
  }

  -- 15: the new open fits into the lowest empty place, ..
  pub mayopen_fits : MayOpen kind p b → entry_of kind s f 0 < entries kind → Fits kind s l (free_place l) (fresh_open p f.name (open_mode b.fcb))
  unfolding open_of opens_name_at stand_beside stands_against_at stands_against opens_file_at opens_file
  mayopen_fits w there =
      open_fits (open_mode b.fcb) (mode_small b.fcb).0 w.legal there w.within (λ i m o u.
      let against = any_at (stands_against_at l p f (open_mode b.fcb)) 64 i w.none_against m in
      let opens : (eqb (item_at l i).kind 1 and eqb (user_of l (item_at l i).process) f.user and same_name (item_at l i).name f.name) ≡ true =
      and_both _ _ (eq-eqb _ _ o.kind_one) (and_both _ _ (eq-eqb _ _ u) o.named) in
      let n : (item_at l i).process ≡ p → ⊥ = λ q.
      never (open_so p f.name (item_at l i) (record { kind_one = o.kind_one; by = q; named = o.named }))
      (lowest_over (opens_name_at l p f.name) 64 i w.unopened m) in
      let a : (eqb (open_mode b.fcb) 0 or not (eqb (item_at l i).mode (open_mode b.fcb))) ≡ false = and_rest _ _ (not_of_false _ (ne_eqb _ _ n))
      (and_rest _ _ opens against) in
      let e : (item_at l i).mode ≡ open_mode b.fcb = eqb-true _ _ (not-false _ (or_snd _ _ a)) in
      and_both _ _ (not_of_false _ (ne_eqb p (item_at l i).process (λ q. n (sym q))))
      (and_both _ _ (eq-eqb (open_mode b.fcb) (item_at l i).mode (sym e)) (not_of_false _ (or_fst _ _ a))))

  -- .. 22: and so it does of a file just made, since nobody had it open
  pub maymake_fits : (s₀ : List ℕ) → Shape l → SoundLocks kind l s₀ → entries kind ≤ entry_of kind s₀ f 0 → MayMake kind p b → entry_of kind s f 0 < entries kind
      → Fits kind s l (free_place l) (fresh_open p f.name (make_mode b.fcb))
  maymake_fits s₀ h g₀ gone w there =
      open_fits (make_mode b.fcb) (mode_small b.fcb).1 w.legal there w.within (λ i m o u.
      let e : file_of l (item_at l i) ≡ f = λ k. record {
        user = u k;
        name = name_is (item_at l i).name f.name (h.names_long i m) (caller_long p l b.fcb) o.named k;
      } in
      let z : entry_of kind s₀ f 0 < entries kind = rw e at (opened_there s₀ h g₀ i m o.kind_one) in
      absurd (omega arith))
    where
      opened_there : (s₀ : List ℕ) → Shape l → SoundLocks kind l s₀ → (i : ℕ) → i < 64 → (item_at l i).kind ≡ 1
          → entry_of kind s₀ (file_of l (item_at l i)) 0 < entries kind
      opened_there s₀ h g₀ i m k =
          ⊎_elim (λ (v : Vacant l i). let z = v.kind_zero in absurd (omega arith))
          (λ (v : Used kind s₀ l i). ⊎_elim (λ (o : GoodOpen kind s₀ l (item_at l i)). o.there)
          (λ (o : GoodLock kind s₀ l (item_at l i)). let z = o.kind_two in absurd (omega arith)) v.good)
          (g₀.place i m)

-- ---- a file that nobody has open has no items

-- the process has the file open, at some place
pub record Opener (l : LockList) (f : File) (p : ℕ) : Type 0 where
  -- the place of the open, ..
  pub place : ℕ
  -- .. one of the 64
  pub below : place < 64
  -- the item there is an open of the file, ..
  pub opens : opens_file_at l f place ≡ true
  -- .. by that process
  pub by : (item_at l place).process ≡ p

module _ (kind : Kind) (s : List ℕ) (l : LockList) (g : SoundLocks kind l s) (f : File) where
  opens_so : (p i : ℕ) → i < 64 → (item_at l i).process ≡ p → (item_at l i).kind ≡ 1 → user_of l p ≡ f.user → same_name (item_at l i).name f.name ≡ true
      → Opener l f p
  unfolding opens_file_at opens_file
  opens_so p i m b k u n = record {
    place = i;
    below = m;
    opens = and_both _ _ (eq-eqb _ _ k) (and_both _ _ (eq-eqb _ _ (ap (λ (q : ℕ). user_of l q) b ∙ u)) n);
    by = b;
  }

  -- who has an item on the file has it open, ..
  pub opener : (i : ℕ) → i < 64 → GoodOpen kind s l (item_at l i) ⊎ GoodLock kind s l (item_at l i) → file_of l (item_at l i) ≡ f → Opener l f (item_at l i).process
  opener i m c e =
      let u : user_of l (item_at l i).process ≡ f.user = ap (λ (k : File). k.user) e in
      let n : same_name (item_at l i).name f.name ≡ true = rw (← e) (name_refl (item_at l i).name) in
      ⊎_elim
      (λ (o : GoodOpen kind s l (item_at l i)). opens_so _ i m refl o.kind_one u n)
      (λ (o : GoodLock kind s l (item_at l i)).
      let k = o.holder in
      let x = open_is _ _ (item_at l k.place) k.opens in
      opens_so _ k.place k.below x.by x.kind_one u (name_then _ _ _ x.named n)) c

  -- .. so no item is of a file that nobody has open
  pub no_items : any_open l f ≡ false → (i : ℕ) → i < 64 → GoodOpen kind s l (item_at l i) ⊎ GoodLock kind s l (item_at l i) → file_of l (item_at l i) ≡ f → ⊥
  unfolding any_open
  no_items none i m c e = let w = opener i m c e in never w.opens (any_at (opens_file_at l f) 64 w.place none w.below)

-- ---- a run of locks

module _ (kind : Kind) (s : List ℕ) (p : ℕ) (b : Buffers) (h : Shape (list_of b)) (g : SoundLocks kind (list_of b) s) where
  -- what is found is the caller's open of the file, ..
  pub own_open : open_by p b < 64 → IsOpen p (file_by p b).name (item_at (list_of b) (open_by p b))
  unfolding open_of opens_name_at
  own_open m = open_is p (file_by p b).name _ (lowest_holds (opens_name_at (list_of b) p (file_by p b).name) 64 m)

  -- .. a good item ..
  pub own_good : open_by p b < 64 → Used kind s (list_of b) (open_by p b)
  own_good m =
      ⊎_elim (λ (v : Vacant (list_of b) (open_by p b)). let z = v.kind_zero in let y = (own_open m).kind_one in absurd (omega arith)) (λ v. v)
      (g.place (open_by p b) m)

  own_name : open_by p b < 64 → (item_at (list_of b) (open_by p b)).name ≡ (file_by p b).name
  own_name m = name_is _ _ (h.names_long (open_by p b) m) (caller_long p (list_of b) b.fcb) (own_open m).named

  -- .. that names the file;
  pub own_file : (m : open_by p b < 64) → file_of (list_of b) (item_at (list_of b) (open_by p b)) ≡ file_by p b
  own_file m =
      let u : user_of (list_of b) (item_at (list_of b) (open_by p b)).process ≡ (file_by p b).user = ap (λ (q : ℕ). user_of (list_of b) q) (own_open m).by
      ∙ sym (caller_user p (list_of b) b.fcb) in
      λ i. record { user = u i; name = own_name m i }

  -- a file that is open is there, ..
  pub own_there : open_by p b < 64 → entry_of kind s (file_by p b) 0 < entries kind
  own_there m =
      ⊎_elim (λ (o : GoodOpen kind s (list_of b) (item_at (list_of b) (open_by p b))). rw (own_file m) at o.there)
      (λ (o : GoodLock kind s (list_of b) (item_at (list_of b) (open_by p b))). let z = o.kind_two in let y = (own_open m).kind_one in absurd (omega arith))
      (own_good m).good

  -- .. the caller may hold locks on it where the mode is unlocked, ..
  pub own_holder : (m : open_by p b < 64) → mode_by p b ≡ 1 → Holder (list_of b) p (file_by p b).name
  own_holder m e = record { place = open_by p b; below = m; opens = open_so _ _ _ (own_open m); mode = e }

  -- .. and its name is legal
  pub own_legal : open_by p b < 64 → legal_name (file_by p b).name 0 ≡ true
  unfolding is_plain
  own_legal m = rw (own_name m) at (and_fst _ _ (and_snd _ _ (own_good m).plain))
