-- A list that is packed is unpacked again, and the other way round. Assumes nothing.
use Prim.Native.Nat.{ℕ, zero, suc, ◌+◌, ◌*◌, ◌≤◌, ◌<◌}
use mathlib.Core.Path.{◌≡◌, refl, sym, ap, ◌∙◌}
use mathlib.Core.Bool.{true, false}
use mathlib.Core.List.{List, [], ◌∷◌, ◌++◌}
use mathlib.Core.Logic.{⊎_elim}
use native.Mathlib.Omega.{arith}
use lib.ListN.{length, get_or, take, drop, take-append-drop, length-take, length-drop, length-append, get_or-eq_default, get_or-append}
use lib.Seq.{drop-append-add, get_or-take, get_or-drop, length-take-le}
use lib.Dec.{eqb, leb}
use borrow.Author.Tests.{eqb-true, leb-true, leb-false}
use Rattle.words.specs.Tests.{◌and◌, ◌if◌else◌, all}
use Rattle.words.specs.Lists.{tab, flat}
use Rattle.words.specs.Bytes.{byte, byte_from, part, le}
use Rattle.words.proofs.Tests.{either, all_at, all_make, and_fst, and_snd}
use Rattle.words.proofs.Lists.{tab_ext, tab_get_d, tab_at, length-tab, flat_block, flat_cut, length-flat, part_front, drop_behind}
use Rattle.words.proofs.Bytes.{part-byte, word_back, word_first, word_second, word_third, word_fourth}
use Rattle.rules.specs.declared.item.Item.{Item}
use Rattle.rules.specs.declared.list.LockList.{LockList}
use Rattle.rules.specs.Locks.{blank, kind_of, first_mark, second_mark, item_from, item_in, place_at, pack_item, pack, unpack, item_at, good_place, zero_at}
use Rattle.rules.specs.Locks.{sound_locks, sound_list}
use Rattle.rules.specs.declared.kind.Kind.{Kind}

-- ---- unpack (pack k) ≡ k

-- an item whose parts are in range
pub record InRange (it : Item) : Type 0 where
  pub kind_fits : it.kind < 3
  pub name_long : length it.name ≡ 11
  pub number_fits : it.number < 4294967296

pub record ListInRange (l : LockList) : Type 0 where
  pub users_long : length l.users ≡ 16
  pub items_long : length l.items ≡ 64
  pub positions_long : length l.positions ≡ 16
  pub each : (i : ℕ) → i < 64 → InRange (item_at l i)

kind_back : (k : ℕ) → k < 3 → kind_of (first_mark k) (second_mark k) ≡ k
unfolding kind_of first_mark second_mark ◌if◌else◌ ◌and◌
kind_back zero h = refl
kind_back (suc zero) h = refl
kind_back (suc (suc zero)) h = refl
kind_back (suc (suc (suc k))) h = absurd (omega arith)

pub packed_long : (it : Item) → length (pack_item it) ≡ 20
unfolding pack_item tab le
packed_long it = refl

pub item_back : (it : Item) → InRange it → item_from (pack_item it) ≡ it
unfolding item_from pack_item tab le
item_back it g = λ i. record {
  kind = kind_back it.kind g.kind_fits i;
  process = it.process;
  name = tab_get_d it.name 0 11 g.name_long i;
  mode = it.mode;
  number = word_back it.number g.number_fits i;
}

-- the first nineteen bytes
heads : LockList → List ℕ
heads l = l.capacity ∷ l.openlimit ∷ l.locklimit ∷ tab (byte_from l.users 0) 16

-- the last seventeen
tails : LockList → List ℕ
tails l = tab (byte_from l.positions 0) 16 ++ (l.rule ∷ [])

pub place_part : (l : LockList) → length l.items ≡ 64 → (k : ℕ) → k < 64 → part (place_at k) 20 (pack l) ≡ pack_item (item_at l k)
unfolding pack tab heads tails
place_part l g k h =
    let n : length (flat pack_item l.items) ≡ 20 * length l.items = length-flat pack_item 20 packed_long l.items in
    ap (λ (s : List ℕ). take 20 s) (drop-append-add (heads l) (flat pack_item l.items ++ tails l) (20 * k))
    ∙ part_front (20 * k) 20 (flat pack_item l.items) (tails l) (omega arith)
    ∙ flat_block pack_item 20 packed_long k l.items blank (omega arith)

-- the bytes behind the places
tails-part : (l : LockList) → length l.items ≡ 64 → drop 1299 (pack l) ≡ tails l
unfolding pack tab heads tails
tails-part l g =
    let n : length (flat pack_item l.items) ≡ 20 * length l.items = length-flat pack_item 20 packed_long l.items in
    drop-append-add (heads l) (flat pack_item l.items ++ tails l) 1280
    ∙ drop_behind 1280 (flat pack_item l.items) (tails l) (omega arith)

pub unpack_pack : (l : LockList) → ListInRange l → unpack (pack l) ≡ l
unfolding unpack pack tab item_in tails
unpack_pack l g =
    let e : tab (item_in (pack l)) 64 ≡ l.items =
    tab_ext (item_in (pack l)) (item_at l) 64
    (λ k h. ap item_from (place_part l g.items_long k h) ∙ item_back (item_at l k) (g.each k h))
    ∙ tab_get_d l.items blank 64 g.items_long in
    λ i. record {
      capacity = l.capacity;
      openlimit = l.openlimit;
      locklimit = l.locklimit;
      users = tab_get_d l.users 0 16 g.users_long i;
      items = e i;
      positions = (tab_ext (byte_from (pack l) 1299) (λ (k : ℕ). get_or l.positions k 0) 16
          (λ k h. sym (get_or-drop 1299 (pack l) k 0) ∙ ap (λ (s : List ℕ). get_or s k 0) (tails-part l g.items_long)
          ∙ get_or-append (tab (byte_from l.positions 0) 16) (l.rule ∷ []) 0 k (rw (length-tab (byte_from l.positions 0) 16) h)
          ∙ tab_at (byte_from l.positions 0) 16 k 0 h ∙ ap (λ (j : ℕ). get_or l.positions j 0) (let z : 0 + k ≡ k = omega arith in z))
          ∙ tab_get_d l.positions 0 16 g.positions_long) i;
      rule = (sym (get_or-drop 1299 (pack l) 16 0) ∙ ap (λ (s : List ℕ). get_or s 16 0) (tails-part l g.items_long)) i;
    }

-- ---- the bytes of a packed list

zero_byte : (it : Item) → byte (pack_item it) 15 ≡ 0
unfolding pack_item tab le
zero_byte it = refl

pub zero_packed : (l : LockList) → length l.items ≡ 64 → all (zero_at (pack l)) 64 ≡ true
unfolding zero_at
zero_packed l h =
    all_make (zero_at (pack l)) 64 (λ i m. ap (λ (s : List ℕ). eqb (byte s 15) 0) (place_part l h i m) ∙ ap (λ (n : ℕ). eqb n 0) (zero_byte (item_at l i)))

pub pack_long : (l : LockList) → length l.items ≡ 64 → length (pack l) ≡ 1316
unfolding pack tab
pack_long l h =
    let k : length (flat pack_item l.items) ≡ 20 * length l.items = length-flat pack_item 20 packed_long l.items in
    let j = length-append (flat pack_item l.items) (tab (byte_from l.positions 0) 16 ++ (l.rule ∷ [])) in
    omega arith

-- ---- pack (unpack l) ≡ l

mark_back : (a b : ℕ) → kind_of a b < 3 → (first_mark (kind_of a b) ≡ a) × (second_mark (kind_of a b) ≡ b)
unfolding kind_of first_mark second_mark ◌if◌else◌
mark_back a b h =
    ⊎_elim
    (λ (x : (eqb a 0x4F and eqb b 0x46) ≡ true). rw x (sym (eqb-true _ _ (and_fst _ _ x)), sym (eqb-true _ _ (and_snd _ _ x))))
    (λ (x : (eqb a 0x4F and eqb b 0x46) ≡ false).
    ⊎_elim
    (λ (y : (eqb a 0x4C and eqb b 0x52) ≡ true). rw (x, y) (sym (eqb-true _ _ (and_fst _ _ y)), sym (eqb-true _ _ (and_snd _ _ y))))
    (λ (y : (eqb a 0x4C and eqb b 0x52) ≡ false).
    ⊎_elim
    (λ (z : (eqb a 0 and eqb b 0) ≡ true). rw (x, y, z) (sym (eqb-true _ _ (and_fst _ _ z)), sym (eqb-true _ _ (and_snd _ _ z))))
    (λ (z : (eqb a 0 and eqb b 0) ≡ false). absurd (let k : 3 < 3 = rw (x, y, z) at h in omega arith))
    (either (eqb a 0 and eqb b 0)))
    (either (eqb a 0x4C and eqb b 0x52)))
    (either (eqb a 0x4F and eqb b 0x46))

-- twenty bytes that say an item
pub record Twenty (b : List ℕ) : Type 0 where
  pub long : length b ≡ 20
  pub small : (k : ℕ) → byte b k < 256
  pub kind : kind_of (byte b 0) (byte b 1) < 3
  pub zero : byte b 15 ≡ 0

pub bytes_back : (b : List ℕ) → Twenty b → pack_item (item_from b) ≡ b
unfolding pack_item item_from tab le
bytes_back b t =
    let g : ℕ → ℕ = λ (k : ℕ). get_or b k 0 in
    let m = mark_back (g 0) (g 1) t.kind in
    let w = t.small in
    let e : pack_item (item_from b) ≡ tab g 20 = λ i.
    m.0 i ∷ m.1 i ∷ g 2 ∷ g 3 ∷ g 4 ∷ g 5 ∷ g 6 ∷ g 7 ∷ g 8 ∷ g 9 ∷ g 10 ∷ g 11 ∷ g 12 ∷ g 13 ∷ g 14 ∷ sym t.zero i
    ∷ word_first (g 16) (g 17) (g 18) (g 19) (w 16) (w 17) (w 18) (w 19) i
    ∷ word_second (g 16) (g 17) (g 18) (g 19) (w 16) (w 17) (w 18) (w 19) i
    ∷ word_third (g 16) (g 17) (g 18) (g 19) (w 16) (w 17) (w 18) (w 19) i
    ∷ word_fourth (g 16) (g 17) (g 18) (g 19) (w 16) (w 17) (w 18) (w 19) i
    ∷ [] in
    e ∙ tab_get_d b 0 20 t.long

-- a list whose places each say an item
pub pack_twenty : (s : List ℕ) → length s ≡ 1316 → ((i : ℕ) → i < 64 → Twenty (part (place_at i) 20 s)) → pack (unpack s) ≡ s
unfolding pack unpack tab item_in
pack_twenty s h t =
    let e : flat pack_item (tab (item_in s) 64) ++ drop 1299 s ≡ drop 19 s = flat_cut pack_item item_from 20 64 19 s (λ i l. bytes_back _ (t i l)) in
    let m : length (take 19 s) ≡ 19 = length-take-le 19 s (omega arith) in
    let g : ℕ → ℕ = λ (k : ℕ). get_or s k 0 in
    let f : tab g 19 ≡ take 19 s =
    tab_ext g (λ (k : ℕ). get_or (take 19 s) k 0) 19 (λ k l. sym (get_or-take 19 s k 0 l)) ∙ tab_get_d (take 19 s) 0 19 m in
    let d : tab (byte_from s 1299) 17 ≡ drop 1299 s =
    tab_ext (byte_from s 1299) (λ (k : ℕ). get_or (drop 1299 s) k 0) 17 (λ k l. sym (get_or-drop 1299 s k 0))
    ∙ tab_get_d (drop 1299 s) 0 17 (simp length-drop (omega arith)) in
    ap (λ (x : List ℕ). tab g 19 ++ (flat pack_item (tab (item_in s) 64) ++ x)) d ∙ ap (λ (x : List ℕ). tab g 19 ++ x) e ∙ ap (λ (x : List ℕ). x ++ drop 19 s) f
    ∙ take-append-drop 19 s

part_small : (s : List ℕ) (at n k : ℕ) → ((i : ℕ) → byte s i < 256) → byte (part at n s) k < 256
part_small s at n k w =
    ⊎_elim
    (λ (q : leb n k ≡ true).
    let m = leb-true n k q in
    let j : length (part at n s) ≤ k = simp length-take (omega arith) in
    let z : byte (part at n s) k ≡ 0 = get_or-eq_default (part at n s) 0 j in omega arith)
    (λ (q : leb n k ≡ false).
    omega (arith, part-byte s at n k (leb-false n k q), w (at + k)))
    (either (leb n k))

-- place i of a list that was unpacked
pub unpack_at : (list : List ℕ) (i : ℕ) → i < 64 → item_at (unpack list) i ≡ item_in list i
unfolding unpack
unpack_at list i l = tab_at (item_in list) 64 i blank l

-- every sound list of 1,316 bytes, each below 256
module _ (kind : Kind) (list s : List ℕ) (long : length list ≡ 1316) (small : (i : ℕ) → byte list i < 256)
    (h : sound_list kind list s ≡ true) where
  place_good : (i : ℕ) → i < 64 → good_place kind s (unpack list) i ≡ true
  unfolding sound_list sound_locks
  place_good i l =
      let k = and_snd (all (zero_at list) 64) _ h in
      all_at (good_place kind s (unpack list)) 64 i
      (and_fst _ _ (and_snd _ _ (and_snd _ _ (and_snd _ _ (and_snd _ _ k))))) l

  kind_fits : (i : ℕ) → i < 64 → (item_at (unpack list) i).kind < 3
  unfolding good_place ◌if◌else◌
  kind_fits i l =
      let g = place_good i l in
      ⊎_elim
      (λ (q : eqb (item_at (unpack list) i).kind 0 ≡ true).
      let z : (item_at (unpack list) i).kind ≡ 0 = eqb-true _ _ q in omega arith)
      (λ (q : eqb (item_at (unpack list) i).kind 0 ≡ false).
      let z : (item_at (unpack list) i).kind ≤ 2 = leb-true _ _ (and_fst _ _ (and_snd _ _ (rw q at g))) in omega arith)
      (either (eqb (item_at (unpack list) i).kind 0))

  twenty : (i : ℕ) → i < 64 → Twenty (part (place_at i) 20 list)
  unfolding sound_list zero_at item_in item_from
  twenty i l = record {
    long = length-take-le 20 (drop (place_at i) list) (simp length-drop (omega arith));
    small = λ k. part_small list (place_at i) 20 k small;
    kind = rw (unpack_at list i l) at (kind_fits i l);
    zero = eqb-true _ _ (all_at (zero_at list) 64 i (and_fst _ _ h) l);
  }

  pub pack_unpack : pack (unpack list) ≡ list
  pack_unpack = pack_twenty list long twenty
