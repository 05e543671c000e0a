-- Laws of the list check. Assumes nothing.
use Rattle.std.proofs.Common.{◌≡◌, ℕ, zero, suc, ◌+◌, ◌*◌, ◌≤◌, ◌<◌, Bool, true, false, not, List, length, get_or, leb, ltb, eqb, refl, sym, ap, ◌∙◌, ⊎_elim, arith, rules, eq-eqb, ne_eqb}
use Rattle.std.proofs.lemmas.Bool.{ltb-true, ltb-false, lt-ltb, le-ltb, lt-leb, leb-true, leb-false}
use Rattle.std.specs.List.{list_all}
use Rattle.words.specs.Tests.{◌and◌, ◌if◌else◌, all, any, lowest}
use Rattle.words.specs.Bytes.{byte, is_zero, part}
use Rattle.words.proofs.Bytes.{part-byte}
use Rattle.words.proofs.Tests.{either, all_none, all_more, all_at, all_up, any_none, any_at, any_never, lowest_none}
use Rattle.words.proofs.Sets.{answers, choices, and_first, and_then, and_left, any_goes, lowest_stops}
use Rattle.rules.specs.declared.kind.Kind.{Kind}
use Rattle.rules.specs.declared.file.File.{File}
use Rattle.rules.specs.declared.item.Item.{Item}
use Rattle.rules.specs.declared.list.LockList.{LockList}
use Rattle.rules.specs.Kinds.{entries}
use Rattle.rules.specs.Drive.{entry_of, look_up, missing, block_of}
use Rattle.rules.specs.Locks.{unpack, place_at, empty_place, item_at, opens_name, opens_name_at, open_of, is_opened, opens_unlocked, is_apart}
use Rattle.rules.specs.Locks.{good_empty, good_open, good_lock, good_item, good_place, keeps_limits, is_position, zero_at, sound_locks, sound_list}
use Rattle.locklist.specs.Places.{Unused}
use Rattle.locklist.proofs.Places.{unused_item, unused_zero}
use Rattle.listcheck.specs.Check.{open_alone, lock_alone, item_alone, place_alone, place_alone_at, lock_opened, lock_opened_at, good_head, good_tail}
use Rattle.rules.proofs.Chains.{all_all}

-- ---- what was found of a file on the image

pub missing_as : (kind : Kind) (s : List ℕ) (f g : File) (e n : ℕ) → e ≡ entry_of kind s f 0 → n ≡ entries kind → f ≡ g
    → ltb e n ≡ not (missing kind (look_up kind s g))
unfolding missing look_up
missing_as kind s f g e n h k d =
    rw (← d, ← h, ← k) (⊎_elim (λ (q : leb n e ≡ true). rw (q, le-ltb e n (leb-true n e q)) refl)
    (λ (q : leb n e ≡ false). rw (q, lt-ltb e n (leb-false n e q)) refl) (either (leb n e)))

pub block_as : (kind : Kind) (s : List ℕ) (f g : File) (r b : ℕ) → b ≡ block_of kind s f r → f ≡ g → not (eqb b 0) ≡ not (eqb (block_of kind s g r) 0)
block_as kind s f g r b h e = cc

pub ruleset found = (choices, missing_as, block_as)

-- ---- the zero in each place

pub zero_byte : (s : List ℕ) (i : ℕ) → byte (part (place_at i) 20 s) 15 ≡ get_or s (19 + 20 * i + 15) 0
zero_byte s i = part-byte s (place_at i) 20 15 (omega arith)

-- ---- places that are not used: what holds of each empty place and was found of those before i holds of all

module _ (s : List ℕ) (n i : ℕ) (u : Unused s n) (g : n ≤ i) where
  pub empty_up : (f : ℕ → Bool) → ((k : ℕ) → item_at (unpack s) k ≡ empty_place → f k ≡ true) → all f i ≡ true → true ≡ all f 64
  empty_up f e h = sym (all_up f i 64 h (λ k m l. e k (unused_item s n k u (omega arith) l)))

  pub zero_up : all (zero_at s) i ≡ true → true ≡ all (zero_at s) 64
  zero_up h = sym (all_up (zero_at s) i 64 h (λ k m l. unused_zero s n k u (omega arith) l))

pub has_zero_at : (s : List ℕ) (i : ℕ) → all (zero_at s) 64 ≡ true → i < 64 → zero_at s i ≡ true
has_zero_at s i h m = all_at (zero_at s) 64 i h m

pub ruleset zeros = (rules, answers, all_none, all_more, has_zero_at, zero_up)

-- ---- a place by itself, as it was read

empty_alone : (kind : Kind) (s users : List ℕ) (capacity i : ℕ) → place_alone kind s users capacity i empty_place ≡ true
unfolding place_alone good_empty is_zero all ◌and◌ ◌if◌else◌
empty_alone kind s users capacity i = refl

pub alone_up : (kind : Kind) (s list : List ℕ) (n i : ℕ) → Unused list n → n ≤ i → all (place_alone_at kind s (unpack list)) i ≡ true
    → true ≡ all (place_alone_at kind s (unpack list)) 64
unfolding place_alone_at
alone_up kind s list n i u g h = empty_up list n i u g (place_alone_at kind s (unpack list)) (λ k e. rw e (empty_alone kind s _ _ k)) h

pub alone_at : (kind : Kind) (s : List ℕ) (l : LockList) (i : ℕ) → all (place_alone_at kind s l) 64 ≡ true → i < 64 → place_alone_at kind s l i ≡ true
alone_at kind s l i h m = all_at (place_alone_at kind s l) 64 i h m

pub ruleset alones = (rules, answers, all_none, all_more, alone_at, alone_up)

-- ---- a lock's open

any_up : (f : ℕ → Bool) (c n : ℕ) → any f c ≡ false → ((i : ℕ) → c ≤ i → i < n → f i ≡ false) → any f n ≡ false
any_up f c n h g = any_never f n
    (λ i l. ⊎_elim (λ (q : ltb i c ≡ true). any_at f c i h (ltb-true i c q)) (λ (q : ltb i c ≡ false). g i (ltb-false i c q) l) (either (ltb i c)))

-- o: how far it was looked for
module _ (list : List ℕ) (it : Item) where
  abbrev opens_it : ℕ → Bool
  opens_it = opens_name_at (unpack list) it.process it.name

  pub opened_skip : (it.kind ≡ 2 → ⊥) → true ≡ lock_opened (unpack list) it
  unfolding lock_opened ◌if◌else◌
  opened_skip h = rw (ne_eqb _ _ h) refl

  module _ (o : ℕ) (k : it.kind ≡ 2) (h : any opens_it o ≡ false) where
    opened_is : (t : Bool) → t ≡ opens_unlocked (unpack list) (lowest opens_it 64) → t ≡ lock_opened (unpack list) it
    unfolding lock_opened open_of ◌if◌else◌
    opened_is t e = rw (eq-eqb _ _ k) e

    pub opened_here : (at : Item) (r : Bool) → o < 64 → at ≡ item_at (unpack list) o → r ≡ opens_name it.process it.name at → r ≡ true
        → eqb at.mode 1 ≡ lock_opened (unpack list) it
    unfolding opens_name_at opens_unlocked is_opened
    opened_here at r m d e y =
        let q : o ≡ lowest opens_it 64 = lowest_stops opens_it 64 o m h (rw (← d) (sym e ∙ y)) in
        opened_is _ (rw (← q) (and_then _ _ _ (lt-ltb _ _ m) (ap (λ (x : Item). eqb x.mode 1) d)))

    -- what is not used is no open
    pub opened_none : (n : ℕ) → Unused list n → n ≤ o → o ≤ n → false ≡ lock_opened (unpack list) it
    unfolding opens_name_at opens_name opens_unlocked is_opened
    opened_none n u g m =
        let none : any opens_it 64 ≡ false = any_up opens_it o 64 h (λ i a b. rw (unused_item list n i u (omega arith) b) (and_left _ _ refl)) in
        opened_is false (rw (lowest_none opens_it 64 none) (and_first _ _ (le-ltb 64 64 (omega arith))))

-- no open here
pub opens_not : (l : LockList) (o p : ℕ) (name : List ℕ) (at : Item) (r : Bool) → at ≡ item_at l o → r ≡ opens_name p name at → r ≡ false
    → opens_name_at l p name o ≡ false
unfolding opens_name_at
opens_not l o p name at r d e h = rw (← d) (sym e ∙ h)

pub ruleset opened = (rules, any_none, any_goes, opens_not, opened_skip, opened_here, opened_none)

pub opened_up : (s : List ℕ) (n i : ℕ) → Unused s n → n ≤ i → all (lock_opened_at (unpack s)) i ≡ true → true ≡ all (lock_opened_at (unpack s)) 64
unfolding lock_opened_at
opened_up s n i u g h =
    empty_up s n i u g (lock_opened_at (unpack s)) (λ k e. rw e (sym (opened_skip s empty_place (λ q. absurd (omega arith))))) h

pub has_opened_at : (l : LockList) (i : ℕ) → all (lock_opened_at l) 64 ≡ true → i < 64 → lock_opened_at l i ≡ true
has_opened_at l i h m = all_at (lock_opened_at l) 64 i h m

pub ruleset opens = (rules, answers, all_none, all_more, has_opened_at, opened_up)

-- ---- a good place is good by itself, and a lock has its open

later : (a x y o : Bool) → x ≡ (y and o) → (a and x) ≡ ((a and y) and o)
unfolding ◌and◌
later true x y o h = h
later false x y o h = refl

with_true : (x : Bool) → x ≡ (x and true)
unfolding ◌and◌
with_true true = refl
with_true false = refl

moved : (m o b : Bool) → (m and o and b) ≡ ((m and b) and o)
unfolding ◌and◌
moved true true true = refl
moved true true false = refl
moved true false true = refl
moved true false false = refl
moved false o b = refl

dead : (c x y : Bool) → (c and false and x) ≡ ((c and false and y) and true)
unfolding ◌and◌
dead true x y = refl
dead false x y = refl

-- e: an empty place is good; o, and m with b: an open's and a lock's own tests; u: the lock has its open
split : (k : ℕ) (e c p n w t o m u b : Bool) → (e if eqb k 0 else (c and leb k 2 and p and n and w and t
    and (o if eqb k 1 else (m and u and b)))) ≡ ((e if eqb k 0 else (c and leb k 2 and p and n and w and t and (o if eqb k 1 else (m and b))))
    and (u if eqb k 2 else true))
unfolding ◌if◌else◌
split zero e c p n w t o m u b = with_true _
split (suc zero) e c p n w t o m u b = with_true _
split (suc (suc zero)) e c p n w t o m u b =
    later c _ _ u (later true _ _ u (later p _ _ u (later n _ _ u (later w _ _ u (later t _ _ u (moved m u b))))))
split (suc (suc (suc k))) e c p n w t o m u b =
    let j : ℕ = suc (suc (suc k)) in
    let x : eqb j 0 ≡ false = ne_eqb j 0 (λ (q : j ≡ 0). omega arith) in
    let y : eqb j 2 ≡ false = ne_eqb j 2 (λ (q : j ≡ 2). omega arith) in
    let z : leb j 2 ≡ false = lt-leb j 2 (omega arith) in
    rw (x, y, z) (dead c _ _)

pub place_split : (kind : Kind) (s : List ℕ) (l : LockList) (i : ℕ) → good_place kind s l i ≡ (place_alone_at kind s l i and lock_opened_at l i)
unfolding good_place good_item good_open good_lock place_alone_at place_alone item_alone open_alone lock_alone lock_opened_at lock_opened
place_split kind s l i = split (item_at l i).kind _ _ _ _ _ _ _ _ _ _

shuffle : (x y f g : Bool) → ((x and y) and (f and g)) ≡ ((x and f) and (y and g))
unfolding ◌and◌
shuffle true true f g = refl
shuffle true false true g = refl
shuffle true false false g = refl
shuffle false y f g = refl

pub all_both : (h f g : ℕ → Bool) (n : ℕ) → ((i : ℕ) → h i ≡ (f i and g i)) → all h n ≡ (all f n and all g n)
unfolding all
all_both h f g zero e = with_true true
all_both h f g (suc n) e = rw (all_both h f g n e, e n) (shuffle (all f n) (all g n) (f n) (g n))

join_four : (a b c d x : Bool) → (a and b and c and d and x) ≡ ((a and b and c and d) and x)
unfolding ◌and◌
join_four true true true true x = refl
join_four true true true false x = refl
join_four true true false d x = refl
join_four true false c d x = refl
join_four false b c d x = refl

join_two : (a b x : Bool) → (a and b and x) ≡ ((a and b) and x)
unfolding ◌and◌
join_two true true x = refl
join_two true false x = refl
join_two false b x = refl

module _ (kind : Kind) (s list : List ℕ) where
  abbrev l : LockList
  l = unpack list

  -- the list check in the order of its parts
  pub sound_parts : sound_list kind list s ≡ (all (zero_at list) 64 and good_head l and all (place_alone_at kind s l) 64 and all (lock_opened_at l) 64
      and all (is_apart l) 64 and all (keeps_limits l) 16 and good_tail kind l)
  unfolding sound_list sound_locks good_head good_tail
  sound_parts =
      let g = all_both (good_place kind s l) (place_alone_at kind s l) (lock_opened_at l) 64 (place_split kind s l) in
      let rest = join_two _ _ _ ∙ ap (λ (x : Bool). x and all (is_apart l) 64 and all (keeps_limits l) 16 and good_tail kind l) (sym g) in
      sym (ap (λ (x : Bool). all (zero_at list) 64 and x) (ap (λ (x : Bool). good_head l and x) rest ∙ sym (join_four _ _ _ _ _)))

pub ruleset sounds = (choices, sound_parts)

-- ---- the positions

pub positions_listed : (kind : Kind) (positions : List ℕ) → length positions ≡ 16 → all (is_position kind positions) 16 ≡ list_all (λ (n : ℕ). leb n (entries kind)) positions
unfolding is_position
positions_listed kind positions h = sym (all_all (λ (n : ℕ). leb n (entries kind)) (is_position kind positions) 0 positions 16 h (λ k l. refl))
