-- Laws of a list that is written place by place. Assumes nothing.
use Rattle.std.proofs.Common.{get_or, ℕ, ◌+◌, ◌*◌, ◌/◌, ◌%◌, ◌^◌, ◌≤◌, ◌<◌, ◌≡◌, refl, sym, ap, ◌∙◌, List, [], ◌∷◌, ◌++◌, length, take, set, replicate, append-nil, append_assoc, take_all, take_at, length-append, length-drop, length-take-le, drop, drop-drop, arith, w32}
use Rattle.std.proofs.lemmas.List.{get_or_past}
use Rattle.std.proofs.Math.ListN.{length-replicate}
use Rattle.std.proofs.Math.Seq.{drop-append-add}
use Rattle.std.specs.Int.{to_le_bytes}
use Rattle.words.specs.Lists.{tab, flat}
use Rattle.words.specs.Bytes.{byte, byte_from, put, le}
use Rattle.words.proofs.Lists.{length-mapped, length-flat, filled, filled_turn, filled_up, tab_get_d, set_behind}
use Rattle.words.proofs.Items.{flat_more}
use Rattle.rules.specs.declared.kind.Rule.TheVariants.{Mpm}
use Rattle.rules.specs.Kinds.{told_rule}
use Rattle.words.specs.Tests.{◌if◌else◌}
use Rattle.rules.specs.declared.item.Item.{Item}
use Rattle.rules.specs.declared.list.LockList.{LockList}
use Rattle.rules.specs.Locks.{blank, empty_place, item_at, with_items, item_in, first_mark, second_mark, pack_item, pack, unpack, rule_in}
use Rattle.rules.proofs.Packing.{packed_long}
use Rattle.locklist.specs.Places.{Unused}
use Rattle.locklist.proofs.Places.{item_in_lem, unused_in}

-- ---- an item's bytes

-- four bytes of a number, as std says them
four_bytes : (n : ℕ) → to_le_bytes w32 n ≡ le 4 n
unfolding le
four_bytes n =
    let a : n / 256 ^ 2 % 256 ≡ n / 256 / 256 % 256 = omega arith in
    let b : n / 256 ^ 3 % 256 ≡ n / 256 / 256 / 256 % 256 = omega arith in
    λ i. n % 256 ∷ n / 256 % 256 ∷ a i ∷ b i ∷ []

pub item_packed : (it : Item) (mark number : List ℕ) → mark ≡ first_mark it.kind ∷ second_mark it.kind ∷ [] → number ≡ to_le_bytes w32 it.number
    → get_or mark 0 0 ∷ get_or mark 1 0 ∷ it.process ∷ get_or it.name 0 0 ∷ get_or it.name 1 0 ∷ get_or it.name 2 0 ∷ get_or it.name 3 0 ∷ get_or it.name 4 0
    ∷ get_or it.name 5 0 ∷ get_or it.name 6 0 ∷ get_or it.name 7 0 ∷ get_or it.name 8 0 ∷ get_or it.name 9 0 ∷ get_or it.name 10 0 ∷ it.mode ∷ 0
    ∷ get_or number 0 0 ∷ get_or number 1 0 ∷ get_or number 2 0 ∷ get_or number 3 0 ∷ [] ≡ pack_item it
unfolding pack_item tab le
item_packed it mark number m n = rw (m, n ∙ four_bytes it.number) refl

-- sixteen bytes read one by one
pub sixteen : (xs : List ℕ) → length xs ≡ 16 → tab (byte_from xs 0) 16 ≡ xs
unfolding tab
sixteen xs n = tab_get_d xs 0 16 n

-- ---- a list that is written from its front on

-- bytes put where a front ends make it longer
put_on : (at : ℕ) (f v s : List ℕ) → length f ≡ at → put at v (f ++ drop at s) ≡ (f ++ v) ++ drop (at + length v) s
unfolding put
put_on at f v s n =
    ap (λ (x : List ℕ). (x ++ v) ++ drop (at + length v) (f ++ drop at s)) (take_at f (drop at s) at n)
    ∙ ap (λ (x : List ℕ). (f ++ v) ++ x) (ap (λ (a : ℕ). drop (a + length v) (f ++ drop at s)) (sym n) ∙ drop-append-add f (drop at s) (length v) ∙ drop-drop (length v) at s)

one_set : (t : List ℕ) (a : ℕ) → length t ≡ 1 → set t 0 a ≡ a ∷ []
one_set [] a n = absurd (omega arith)
one_set (x ∷ []) a n = refl
one_set (x ∷ y ∷ t) a n = absurd (omega arith)

module _ (l : LockList) where
  -- the head and the first i places, ..
  head : List ℕ
  head = (l.capacity ∷ l.openlimit ∷ l.locklimit ∷ []) ++ l.users

  front : ℕ → List ℕ
  front i = head ++ flat pack_item (take i l.items)

  -- .. and the rest of s
  pub packed_to : List ℕ → ℕ → List ℕ
  packed_to s i = front i ++ drop (19 + 20 * i) s

  pub packed_ends : (s : List ℕ) (i : ℕ) → 64 ≤ i → i ≤ 64 → packed_to s i ≡ packed_to s 64
  packed_ends s i g h = ap (packed_to s) (let q : i ≡ 64 = omega arith in q)

  module _ (users_long : length l.users ≡ 16) (s : List ℕ) where
    pub packed_none : packed_to s 0 ≡ put 3 l.users (put 0 (l.capacity ∷ l.openlimit ∷ l.locklimit ∷ []) s)
    unfolding packed_to front head flat
    packed_none =
        let hd : List ℕ = l.capacity ∷ l.openlimit ∷ l.locklimit ∷ [] in
        let e : put 3 l.users (put 0 hd s) ≡ (hd ++ l.users) ++ drop (3 + length l.users) s = ap (put 3 l.users) (put_on 0 [] hd s refl) ∙ put_on 3 hd l.users s refl in
        ap (λ (x : List ℕ). x ++ drop 19 s) (append-nil (hd ++ l.users)) ∙ ap (λ (n : ℕ). (hd ++ l.users) ++ drop (3 + n) s) (sym users_long) ∙ sym e

    module _ (items_long : length l.items ≡ 64) where
      front_long : (i : ℕ) → i ≤ 64 → length (front i) ≡ 19 + 20 * i
      unfolding front head
      front_long i m =
          omega (arith, length-append head (flat pack_item (take i l.items)), length-flat pack_item 20 packed_long (take i l.items), length-take-le i l.items (omega arith))

      pub packed_more : (i : ℕ) → i < 64 → packed_to s (i + 1) ≡ put (19 + 20 * i) (pack_item (item_at l i)) (packed_to s i)
      unfolding packed_to front
      packed_more i m =
          let b = pack_item (item_at l i) in
          let e : put (19 + 20 * i) b (packed_to s i) ≡ (front i ++ b) ++ drop (19 + 20 * i + length b) s = put_on (19 + 20 * i) (front i) b s (front_long i (omega arith)) in
          let n : 19 + 20 * (i + 1) ≡ 19 + 20 * i + length b = omega (arith, packed_long (item_at l i)) in
          ap (λ (x : List ℕ). (head ++ x) ++ drop (19 + 20 * (i + 1)) s) (flat_more pack_item i l.items blank (omega arith))
          ∙ ap (λ (x : List ℕ). x ++ drop (19 + 20 * (i + 1)) s) (sym (append_assoc head (flat pack_item (take i l.items)) b))
          ∙ ap (λ (a : ℕ). (front i ++ b) ++ drop a s) n ∙ sym e

      -- the positions and the rule behind them
      pub packed_all : length l.positions ≡ 16 → length s ≡ 1316 → set (put 1299 l.positions (packed_to s 64)) 1315 l.rule ≡ pack l
      unfolding packed_to front head pack
      packed_all n long =
          let r : List ℕ = l.rule ∷ [] in
          let places : List ℕ = flat pack_item l.items in
          let f : List ℕ = front 64 ++ l.positions in
          let whole : length f ≡ 1315 = omega (arith, length-append (front 64) l.positions, front_long 64 (omega arith)) in
          let rest : length (drop 1315 s) ≡ 1 = omega (arith, length-drop 1315 s) in
          let e : put 1299 l.positions (packed_to s 64) ≡ f ++ drop 1315 s =
          put_on 1299 (front 64) l.positions s (front_long 64 (omega arith)) ∙ ap (λ (k : ℕ). f ++ drop (1299 + k) s) n in
          let last : set (f ++ drop 1315 s) 1315 l.rule ≡ f ++ r =
          ap (λ (k : ℕ). set (f ++ drop 1315 s) k l.rule) (let k : 1315 ≡ length f + 0 = omega arith in k) ∙ set_behind f (drop 1315 s) 0 l.rule
          ∙ ap (λ (x : List ℕ). f ++ x) (one_set (drop 1315 s) l.rule rest) in
          let c : List ℕ → List ℕ = λ (x : List ℕ). l.capacity ∷ l.openlimit ∷ l.locklimit ∷ x in
          ap (λ (x : List ℕ). set x 1315 l.rule) e ∙ last
          ∙ ap (λ (xs : List Item). c (((l.users ++ flat pack_item xs) ++ l.positions) ++ r)) (take_all 64 l.items (omega arith))
          ∙ ap c (append_assoc (l.users ++ places) l.positions r ∙ append_assoc l.users places (l.positions ++ r)
          ∙ ap (λ (x : List ℕ). x ++ (places ++ (l.positions ++ r))) (sym (sixteen l.users users_long))
          ∙ ap (λ (x : List ℕ). tab (byte_from l.users 0) 16 ++ (places ++ (x ++ r))) (sym (sixteen l.positions n)))

pub ruleset packs = (length-mapped, packed_none, packed_more, packed_ends, packed_all)

-- the rule that a list's last byte chooses; a list that has none is of rule 0
pub rule_none : (list : List ℕ) → length list ≤ 1315 → Mpm ≡ rule_in list
unfolding rule_in told_rule ◌if◌else◌
rule_none list h = rw (get_or_past list _ 0 h)

-- ---- a list that is read place by place

module _ (s : List ℕ) where
  -- l with its first i places those of the bytes
  pub placed_to : ℕ → LockList → LockList
  placed_to i l = with_items l (filled (item_in s) i l.items)

  pub placed_none : (l : LockList) → placed_to 0 l ≡ l
  unfolding placed_to tab
  placed_none l = refl

  pub placed_more : (i : ℕ) (l : LockList) → length l.items ≡ 64 → i < 64
      → placed_to (i + 1) l ≡ with_items (placed_to i l) (set (placed_to i l).items i (item_at (unpack s) i))
  unfolding placed_to
  placed_more i l n h = ap (with_items l) (sym (filled_turn (item_in s) i l.items _ _ (omega arith) refl (item_in_lem s i h)))

-- it began with the limits, the users, the positions and the rule, and empty places; from n on no place is used
pub placed_all : (s users positions : List ℕ) (n : ℕ) → users ≡ tab (byte_from s 3) 16 → positions ≡ tab (byte_from s 1299) 16 → Unused s n
    → placed_to s n (record {
      capacity = byte s 0;
      openlimit = byte s 1;
      locklimit = byte s 2;
      users = users;
      items = replicate 64 empty_place;
      positions = positions;
      rule = byte s 1315;
    }) ≡ unpack s
unfolding placed_to unpack
placed_all s users positions n u v w =
    let e : filled (item_in s) n (replicate 64 empty_place) ≡ tab (item_in s) 64 =
    filled_up (item_in s) n 64 empty_place w.within (λ k m l. unused_in s n k w m l) in
    rw (e, u, v)

pub ruleset placing = (length-replicate, length-mapped, placed_none, placed_more, placed_all)
