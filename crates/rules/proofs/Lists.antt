-- Laws of the lock list and of the methods over it. Assumes nothing.
use Rattle.std.proofs.Common.{ℕ, zero, suc, ◌+◌, ◌≤◌, ◌<◌, ◌≡◌, refl, sym, ap, ◌∙◌, Bool, true, false, not, List, map, length, get_or, set, eqb, ltb, ⊎_elim, arith, add-one, get_or-take, tests, lt-ltb, ltb-true, ltb-false, eqb-true, leb-true}
use Rattle.std.proofs.lemmas.List.{get_or_past}
use Rattle.std.proofs.lemmas.Simd.{map-map}
use Rattle.std.specs.Int.{from_bool}
use Rattle.words.specs.Tests.{◌and◌, ◌if◌else◌, any, lowest, count}
use Rattle.words.specs.Lists.{turns}
use Rattle.words.proofs.Tests.{either, all_at, and_fst, and_snd}
use Rattle.words.proofs.Lists.{length-mapped, map_to, map_to_more, map_to_all, turns_none, turns_more}
use Rattle.words.proofs.Items.{total, total_ext, total_both, total_one, map_ext}
use Rattle.words.proofs.Sets.{lowests, lowest_stops, lowest_ends}
use Rattle.rules.proofs.Items.{one_is, one_most}
use Rattle.rules.specs.declared.file.File.{File}
use Rattle.rules.specs.declared.item.Item.{Item}
use Rattle.rules.specs.declared.list.LockList.{LockList}
use Rattle.rules.specs.Locks.{blank, empty_place, item_at, with_items, fresh_lock, held, is_empty_at, is_kind_by, is_kind_by_at}
use Rattle.rules.specs.Locks.{opens_by, locks_by, good_item, good_place, is_limit, sound_locks}
use Rattle.rules.specs.Effects.{placed, is_of_file, unless_of_file, closed, is_in_run, unless_in_run, unlocked_run, unless_by, without_by, locked_at}
use Rattle.rules.specs.declared.kind.Kind.{Kind}

-- ---- items gone: a loop that maps the items in place

pub mapped_turn : (f : Item → Item) (i : ℕ) (l₀ l : List Item) (x : Item) → length l₀ ≡ 64 → i < 64 → l ≡ map_to f i l₀ → x ≡ f (get_or l i blank)
    → set l i x ≡ map_to f (i + 1) l₀
mapped_turn f i l₀ l x n h g e =
    ap (set l i) e ∙ ap (λ (m : List Item). set m i (f (get_or m i blank))) g ∙ map_to_more f i l₀ blank (omega arith)

pub mapped_all : (f : Item → Item) (l : LockList) (xs : List Item) (i : ℕ) → length l.items ≡ 64 → xs ≡ map_to f i l.items → 64 ≤ i → i ≤ 64
    → with_items l xs ≡ with_items l (map f l.items)
mapped_all f l xs i n e h k = ap (with_items l) (e ∙ map_to_all f i l.items (omega arith))

-- ---- the lowest empty place below the capacity

-- a search that stops at n, or at i where it holds
pub lowest_last : (f : ℕ → Bool) (n i : ℕ) → any f i ≡ false → i ≤ n → f i ≡ true → i ≡ lowest f n
lowest_last f n i h l e =
    ⊎_elim (λ (q : ltb i n ≡ true). lowest_stops f n i (ltb-true i n q) h e)
    (λ (q : ltb i n ≡ false). lowest_ends f n i h (ltb-false i n q) l) (either (ltb i n))

-- what stands past the last place is empty
pub past_empty : (l : LockList) (i : ℕ) → length l.items ≡ 64 → 64 ≤ i → is_empty_at l i ≡ true
unfolding is_empty_at
past_empty l i h k =
    let m : length l.items ≤ i = omega arith in
    ap (λ (it : Item). eqb it.kind 0) (get_or_past l.items i blank m)

pub ruleset frees = (lowests, tests, length-mapped, lowest_last, past_empty)

-- the mode of what stands past the last place
pub past_mode : (l : LockList) (i : ℕ) → length l.items ≡ 64 → 64 ≤ i → 0 ≡ (item_at l i).mode
past_mode l i h k =
    let m : length l.items ≤ i = omega arith in
    sym (ap (λ (it : Item). it.mode) (get_or_past l.items i blank m))

-- ---- items counted

pub count_next : (f : ℕ → Bool) (i : ℕ) → count f (i + 1) ≡ count f i + from_bool (f i)
unfolding count
count_next f i = rw add-one (ap (λ (x : ℕ). count f i + x) (sym (one_is (f i))))

pub count_first : (f : ℕ → Bool) → count f 0 ≡ 0
unfolding count
count_first f = refl

pub ruleset counts = (length-mapped, get_or-take, one_most, count_first, count_next)

-- ---- a run's records one after the other

pub turns_next : {A : Type 0} (step : ℕ → A → A) (k : ℕ) (x : A) → turns step (k + 1) x ≡ step k (turns step k x)
turns_next step k x = sym (turns_more step k x (turns step k x) _ refl refl)

module _ (p : ℕ) (f : File) (r k : ℕ) (l : LockList) where
  pub run_held : held l p f (r + k) ≡ true → locked_at p f r k l ≡ l
  unfolding locked_at ◌if◌else◌
  run_held h = rw h

  pub run_new : held l p f (r + k) ≡ false → locked_at p f r k l ≡ placed (fresh_lock p f.name (r + k)) l
  unfolding locked_at ◌if◌else◌
  run_new h = rw h

pub ruleset taking = (turns_none, turns_next, run_held, run_new)

-- ---- items gone: two steps in either order, and one step twice

-- the empty place for an item that a test names
unfoldable pub gone_if : (Item → Bool) → Item → Item
gone_if t it = empty_place if t it else it

unfoldable pub without_all : (Item → Bool) → LockList → LockList
without_all t l = with_items l (map (gone_if t) l.items)

pub closed_is : (p : ℕ) (f : File) (l : LockList) → closed p f l ≡ without_all (is_of_file p f) l
unfolding closed unless_of_file without_all gone_if
closed_is p f l = refl

pub unlocked_is : (p : ℕ) (f : File) (r n : ℕ) (l : LockList) → unlocked_run p f r n l ≡ without_all (is_in_run p f r n) l
unfolding unlocked_run unless_in_run without_all gone_if
unlocked_is p f r n l = refl

pub terminated_is : (p : ℕ) (l : LockList) → without_by p l ≡ without_all (λ (it : Item). eqb it.process p) l
unfolding without_by unless_by without_all gone_if
terminated_is p l = refl

gone_empty : (t : Item → Bool) → gone_if t empty_place ≡ empty_place
unfolding gone_if ◌if◌else◌
gone_empty t = ⊎_elim (λ (e : t empty_place ≡ true). rw e) (λ (e : t empty_place ≡ false). rw e) (either (t empty_place))

module _ (t : Item → Bool) (it : Item) where
  gone_yes : t it ≡ true → gone_if t it ≡ empty_place
  unfolding gone_if ◌if◌else◌
  gone_yes e = rw e

  gone_not : t it ≡ false → gone_if t it ≡ it
  unfolding gone_if ◌if◌else◌
  gone_not e = rw e

gone_commute : (s t : Item → Bool) (it : Item) → gone_if s (gone_if t it) ≡ gone_if t (gone_if s it)
gone_commute s t it =
    ⊎_elim
    (λ (e : t it ≡ true). ⊎_elim
    (λ (d : s it ≡ true). rw (gone_yes t it e, gone_yes s it d, gone_empty s, gone_empty t))
    (λ (d : s it ≡ false). rw (gone_yes t it e, gone_not s it d, gone_empty s, gone_yes t it e)) (either (s it)))
    (λ (e : t it ≡ false). ⊎_elim
    (λ (d : s it ≡ true). rw (gone_not t it e, gone_yes s it d, gone_empty t))
    (λ (d : s it ≡ false). rw (gone_not t it e, gone_not s it d, gone_not t it e)) (either (s it)))
    (either (t it))

gone_twice : (t : Item → Bool) (it : Item) → gone_if t (gone_if t it) ≡ gone_if t it
gone_twice t it =
    ⊎_elim (λ (e : t it ≡ true). rw (gone_yes t it e, gone_empty t)) (λ (e : t it ≡ false). rw (gone_not t it e, gone_not t it e)) (either (t it))

pub without_commute : (s t : Item → Bool) (l : LockList) → without_all s (without_all t l) ≡ without_all t (without_all s l)
unfolding without_all
without_commute s t l =
    ap (with_items l)
    (map-map (gone_if s) (gone_if t) l.items ∙ map_ext _ _ l.items (gone_commute s t)
    ∙ sym (map-map (gone_if t) (gone_if s) l.items))

pub without_twice : (t : Item → Bool) (l : LockList) → without_all t (without_all t l) ≡ without_all t l
unfolding without_all
without_twice t l =
    ap (with_items l) (map-map (gone_if t) (gone_if t) l.items ∙ map_ext _ _ l.items (gone_twice t))

-- ---- the items are the opens and locks of the processes

unfoldable pub is_used_at : LockList → ℕ → Bool
is_used_at l i = not (is_empty_at l i)

-- the opens and locks of a process among the first n places
unfoldable pub items_by : LockList → ℕ → ℕ → ℕ
items_by l n p = count (is_kind_by_at l 1 p) n + count (is_kind_by_at l 2 p) n

-- an item is one process's open or lock, and an empty place is nobody's
one_share : (k q : ℕ) → k < 3 → (eqb k 0 ≡ false → q < 16) → total
    (λ (p : ℕ). (1 if (eqb k 1 and eqb q p) else 0) + (1 if (eqb k 2 and eqb q p) else 0)) 16 ≡ (1 if not (eqb k 0) else 0)
unfolding total ◌and◌ ◌if◌else◌
one_share zero q h g = refl
one_share (suc zero) q h g = total_ext (λ (p : ℕ). (1 if eqb q p else 0) + 0) (λ (p : ℕ). 1 if eqb q p else 0) 16 (λ p. omega arith) ∙ total_one q 16
    ∙ rw (lt-ltb q 16 (g refl))
one_share (suc (suc zero)) q h g = total_ext (λ (p : ℕ). 0 + (1 if eqb q p else 0)) (λ (p : ℕ). 1 if eqb q p else 0) 16 (λ p. omega arith) ∙ total_one q 16
    ∙ rw (lt-ltb q 16 (g refl))
one_share (suc (suc (suc k))) q h g = absurd (omega arith)

module _ (kind : Kind) (l : LockList) (s : List ℕ) (h : sound_locks kind l s ≡ true) where
  sound_place : (i : ℕ) → i < 64 → good_place kind s l i ≡ true
  unfolding sound_locks
  sound_place i m = all_at (good_place kind s l) 64 i (and_fst _ _ (and_snd _ _ (and_snd _ _ (and_snd _ _ (and_snd _ _ h))))) m

  used_place : (i : ℕ) → i < 64 → eqb (item_at l i).kind 0 ≡ false → ((item_at l i).kind ≤ 2) × ((item_at l i).process ≤ 15)
  unfolding good_place good_item ◌if◌else◌
  used_place i m q =
      let g = rw q at (sound_place i m) in
      let k = and_snd _ _ g in
      (leb-true _ _ (and_fst _ _ k), leb-true _ _ (and_fst _ _ (and_snd _ _ k)))

  kind_small : (i : ℕ) → i < 64 → (item_at l i).kind < 3
  kind_small i m =
      ⊎_elim (λ (q : eqb (item_at l i).kind 0 ≡ true). let z = eqb-true (item_at l i).kind 0 q in omega arith)
      (λ (q : eqb (item_at l i).kind 0 ≡ false). let z : (item_at l i).kind ≤ 2 = (used_place i m q).0 in omega arith)
      (either (eqb (item_at l i).kind 0))

  place_share : (i : ℕ) → i < 64 → total (λ (p : ℕ). (1 if is_kind_by_at l 1 p i else 0) + (1 if is_kind_by_at l 2 p i else 0)) 16 ≡ (1 if is_used_at l i else 0)
  unfolding is_kind_by_at is_kind_by is_used_at is_empty_at
  place_share i m =
      one_share (item_at l i).kind (item_at l i).process (kind_small i m)
      (λ q. let z : (item_at l i).process ≤ 15 = (used_place i m q).1 in omega arith)

  add_up_to : (n : ℕ) → n ≤ 64 → count (is_used_at l) n ≡ total (items_by l n) 16
  unfolding count items_by total
  add_up_to zero m = refl
  add_up_to (suc n) m =
      let a : ℕ → ℕ = λ (p : ℕ). 1 if is_kind_by_at l 1 p n else 0 in
      let b : ℕ → ℕ = λ (p : ℕ). 1 if is_kind_by_at l 2 p n else 0 in
      let e : total (items_by l (suc n)) 16 ≡ total (λ (p : ℕ). items_by l n p + (a p + b p)) 16 = total_ext (items_by l (suc n))
      (λ (p : ℕ). items_by l n p + (a p + b p)) 16 (λ p. omega arith) in
      let d : total (λ (p : ℕ). items_by l n p + (a p + b p)) 16 ≡ total (items_by l n) 16 + total (λ (p : ℕ). a p + b p) 16 = total_both (items_by l n)
      (λ (p : ℕ). a p + b p) 16 in
      rw (add_up_to n (omega arith), ← place_share n (omega arith)) (sym (e ∙ d))

  -- the limits are 1 to 64
  pub sound_limits : (is_limit l.capacity ≡ true) × ((is_limit l.openlimit ≡ true) × (is_limit l.locklimit ≡ true))
  unfolding sound_locks
  sound_limits =
      let k = and_snd _ _ h in
      (and_fst _ _ h, (and_fst _ _ k, and_fst _ _ (and_snd _ _ k)))

  pub capacity_fits : l.capacity ≤ 64
  unfolding is_limit
  capacity_fits = leb-true _ _ (and_snd _ _ sound_limits.0)

  -- the number of items is the sum, over the processes, of their opens and locks
  pub items_add_up : count (is_used_at l) 64 ≡ total (λ (p : ℕ). opens_by l p + locks_by l p) 16
  unfolding items_by opens_by locks_by
  items_add_up = add_up_to 64 (omega arith)
