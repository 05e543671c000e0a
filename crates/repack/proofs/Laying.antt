-- Each step of packing lays the next part of the packed book down. Assumes nothing.
use Rattle.std.proofs.Common.{◌≡◌, refl, sym, ap, ◌∙◌, ℕ, suc, ◌+◌, ◌-◌, ◌*◌, ◌≤◌, ◌<◌, Bool, true, false, not, List, [], ◌∷◌, ◌++◌, length, take, drop, replicate, append-nil, append_assoc, ⊎_elim, arith, add-zero, add-one, length-append, eqb, eq-eqb, ne_eqb, rules}
use Rattle.std.specs.Int.{from_bool}
use lib.ListN.{length-replicate}
use lib.Seq.{take-length}
use Rattle.words.specs.Tests.{◌and◌, ◌if◌else◌, count}
use Rattle.words.specs.Lists.{tab, flat, passing}
use Rattle.words.specs.Bytes.{bytes_from, put, le}
use Rattle.words.proofs.Tests.{either}
use Rattle.words.proofs.Sets.{answers, count_more, not_of_false, not_of_true}
use Rattle.words.proofs.Counts.{count_yes, count_not, count_up, count_within, count_below}
use Rattle.words.proofs.Passing.{passing-not, passing_up, flat_yes, passing_size}
use Rattle.words.proofs.Lists.{length-tab, length-flat, flat_append, flat_one, tab_more}
use borrow.Rule.Slice.PartMut.{put_mid}
use Rattle.words.proofs.Bytes.{lent_filled, begins_more, from_part, from_size, le_long, length-put}
use Rattle.rules.specs.declared.kind.Kind.{Kind}
use Rattle.rules.specs.Kinds.{block_size, entries, numbers, width}
use Rattle.rules.specs.Drive.{blocks, is_empty, map_number, map_at, all_numbers, is_numbered, sound_image}
use Rattle.rules.proofs.Sizes.{flat_entry, flat_place, flat_below, flat_next, flat_within, all-numbers, map_room, blocks_rest, block_behind, block_inside}
use Rattle.rules.proofs.Sound.{sound_of, sound_length, length_whole, entry_inside}
use Rattle.packing.specs.Packed.{is_used_entry, used_entries, walk, new_number, new_map, moved_entry, moved_block, packed_directory, packed_blocks, packed}
use Rattle.packing.proofs.Laid.{met, entry_long, block_long, entries_long, walk_long, entries_fit, directory_long, blocks_fit}
use Rattle.packing.proofs.Sound.{used_so}
use Rattle.packing.proofs.Twice.{numbered_off}
use Rattle.repack.specs.Laying.{entries_to, places_to, blocks_to, next_number, LaidEntries, LaidPlaces, LaidBlocks}

module _ (kind : Kind) (s : List ℕ) where
  -- ---- lengths

  entries_size : (e : ℕ) → length (entries_to kind s e) ≡ 32 * count (is_used_entry s) e
  unfolding entries_to
  entries_size e = passing_size (moved_entry kind s) (is_used_entry s) 32 (entry_long kind s) e

  abbrev map_to : ℕ → ℕ → List ℕ
  map_to e k = flat (le (width kind)) (tab (new_map kind s e) k)

  map_long : (e k : ℕ) → length (map_to e k) ≡ width kind * k
  map_long e k =
      length-flat (le (width kind)) (width kind) (le_long (width kind)) (tab (new_map kind s e) k)
      ∙ ap (λ (n : ℕ). width kind * n) (length-tab (new_map kind s e) k)

  places_size : (e k : ℕ) → length (places_to kind s e k) ≡ map_at kind (count (is_used_entry s) e) k
  unfolding places_to
  places_size e k =
      let a = entries_size e in
      let b = from_size s (32 * e) 16 in
      let c = map_long e k in
      let d = length-append (bytes_from s (32 * e) 16) (map_to e k) in
      length-append (entries_to kind s e) (bytes_from s (32 * e) 16 ++ map_to e k) ∙ omega arith

  blocks_size : (i : ℕ) → length (blocks_to kind s i) ≡ block_size kind * next_number kind s i
  unfolding blocks_to next_number
  blocks_size i =
      let a = directory_long kind s in
      let b = passing_size (moved_block kind s) (is_numbered kind s) (block_size kind) (block_long kind s) i in
      let c = block_behind kind (count (is_numbered kind s) i) 0 in
      length-append (packed_directory kind s (used_entries kind s)) (flat (moved_block kind s) (passing (is_numbered kind s) i)) ∙ omega arith

  -- ---- the number of a place

  -- of a used entry: the next one, where it holds one
  module _ (e k : ℕ) (u : is_empty s e ≡ false) (l : k < numbers kind) where
    abbrev i : ℕ
    i = numbers kind * e + k

    numbered_is : is_numbered kind s i ≡ not (eqb (map_number kind s e k) 0)
    unfolding is_numbered ◌and◌
    numbered_is = rw (flat_entry kind e k l, flat_place kind e k l, u) refl

    new_is : (n b next : ℕ) → n ≡ map_number kind s e k → b ≡ (0 if eqb n 0 else next) → next ≡ next_number kind s i → b ≡ new_map kind s e k
    unfolding new_map new_number next_number ◌if◌else◌
    new_is n b next p q h =
        ⊎_elim (λ (z : eqb (map_number kind s e k) 0 ≡ true). rw (numbered_is, z) (q ∙ rw (p, z) refl))
        (λ (z : eqb (map_number kind s e k) 0 ≡ false). rw (numbered_is, z) (q ∙ rw (p, z) h)) (either (eqb (map_number kind s e k) 0))

    -- the one after it
    next-after : (n x next : ℕ) → n ≡ map_number kind s e k → x ≡ (1 if not (eqb n 0) else 0) → next ≡ next_number kind s i
        → next + x ≡ next_number kind s (numbers kind * e + (k + 1))
    unfolding next_number
    next-after n x next p q h =
        let a = count_more (is_numbered kind s) i (count (is_numbered kind s) i) x (not (eqb n 0)) refl (ap (λ (m : ℕ). not (eqb m 0)) p ∙ sym numbered_is) q in
        let b : numbers kind * e + (k + 1) ≡ i + 1 = omega arith in
        rw b (omega arith)

  -- an empty entry has none
  next_skips : (e : ℕ) → is_empty s e ≡ true → next_number kind s (numbers kind * (e + 1)) ≡ next_number kind s (numbers kind * e)
  unfolding next_number
  next_skips e c =
      ap (λ (n : ℕ). 2 + count (is_numbered kind s) n) (flat_next kind e)
      ∙ ap (λ (n : ℕ). 2 + n) (count_up (is_numbered kind s) (numbers kind * e) (numbers kind * e + numbers kind) (omega arith)
      (λ i m n. numbered_off kind s i (rw (flat_within kind e i m n) c)))

  -- they are few
  pub next_few : (i next : ℕ) → i ≤ all_numbers kind → next ≡ next_number kind s i → next ≤ 1026
  unfolding next_number
  next_few i next l h = let a = count_within (is_numbered kind s) i in let b = all-numbers kind in omega arith

  -- ---- entries

  pub entries_none : (out : List ℕ) → LaidEntries kind s 0 0 2 out
  unfolding entries_to next_number passing flat count
  entries_none out = record { begins = refl; to_is = refl; next_is = let z : numbers kind * 0 ≡ 0 = omega arith in rw z refl; few = omega arith }

  -- an empty entry is passed over
  pub entries_skip : (e to next : ℕ) (out : List ℕ) → LaidEntries kind s e to next out → is_empty s e ≡ true
      → LaidEntries kind s (e + 1) (to + (1 if not (is_empty s e) else 0)) next out
  unfolding entries_to ◌if◌else◌
  entries_skip e to next out w c =
      let u : is_used_entry s e ≡ false = unfold is_used_entry in not_of_true _ c in
      let p : passing (is_used_entry s) (e + 1) ≡ passing (is_used_entry s) e = ap (passing (is_used_entry s)) (add-one e) ∙ passing-not (is_used_entry s) e u in
      let q : count (is_used_entry s) (e + 1) ≡ count (is_used_entry s) e = ap (count (is_used_entry s)) (add-one e) ∙ count_not (is_used_entry s) e u in
      record {
        begins = rw p w.begins;
        to_is = rw (c, q) (add-zero to ∙ w.to_is);
        next_is = w.next_is ∙ sym (next_skips e c);
        few = w.few;
      }

  -- the first half of a used one
  pub entry_head : (e to next : ℕ) (out o : List ℕ) → LaidEntries kind s e to next out → e < entries kind
      → 32 * e + 32 ≤ length s → 32 * to + 32 ≤ length out → o ≡ put (32 * to) (take (32 * e + 16 - 32 * e) (drop (32 * e) s)) out
      → LaidPlaces kind s e 0 to next o
  unfolding places_to tab flat
  entry_head e to next out o w below long m h =
      let l : 32 * e + 16 ≤ length s = omega arith in
      let a : 32 * e + 16 - 32 * e ≡ 16 = omega arith in
      let v = bytes_from s (32 * e) 16 in
      let b : o ≡ put (32 * to) v out =
      h ∙ ap (λ (n : ℕ). put (32 * to) (take n (drop (32 * e) s)) out) a ∙ ap (λ (x : List ℕ). put (32 * to) x out) (from_part s (32 * e) 16 l) in
      let c = from_size s (32 * e) 16 in
      let d = entries_size e in
      let f = w.to_is in
      record {
        begins = rw (append-nil v, b) (begins_more (entries_to kind s e) v out (32 * to) w.begins (omega arith) (omega arith));
        to_is = w.to_is;
        next_is = rw (add-zero (numbers kind * e)) w.next_is;
        few = w.few;
      }

  -- a number more
  pub places_more : (e k to next n b x m : ℕ) (out o : List ℕ) → LaidPlaces kind s e k to next out → e < entries kind → is_empty s e ≡ false
      → m ≡ numbers kind → k < m → 32 * to + 32 ≤ length out → n ≡ map_number kind s e k → b ≡ (0 if eqb n 0 else next)
      → x ≡ (1 if not (eqb n 0) else 0) → o ≡ put (map_at kind to k) (le (width kind) b) out → LaidPlaces kind s e (k + 1) to (next + x) o
  unfolding places_to
  places_more e k to next n b x m out o w below u g l' fits p q r h =
      let l : k < numbers kind = omega arith in
      let v = places_to kind s e k in
      let y = le (width kind) b in
      let a : map_at kind to k ≡ length v = ap (λ (d : ℕ). map_at kind d k) w.to_is ∙ sym (places_size e k) in
      let c = le_long (width kind) b in
      let d = map_room kind k l in
      let f : map_to e (k + 1) ≡ map_to e k ++ y =
      ap (λ (j : ℕ). flat (le (width kind)) (tab (new_map kind s e) j)) (add-one k) ∙ ap (flat (le (width kind))) (tab_more (new_map kind s e) k)
      ∙ flat_append (le (width kind)) (tab (new_map kind s e) k) (new_map kind s e k ∷ [])
      ∙ ap (λ (t : List ℕ). map_to e k ++ t) (flat_one (le (width kind)) (new_map kind s e k))
      ∙ ap (λ (j : ℕ). map_to e k ++ le (width kind) j) (sym (new_is e k u l n b next p q w.next_is)) in
      let z : places_to kind s e (k + 1) ≡ v ++ y =
      ap (λ (t : List ℕ). entries_to kind s e ++ (bytes_from s (32 * e) 16 ++ t)) f
      ∙ ap (λ (t : List ℕ). entries_to kind s e ++ t) (sym (append_assoc (bytes_from s (32 * e) 16) (map_to e k) y))
      ∙ sym (append_assoc (entries_to kind s e) (bytes_from s (32 * e) 16 ++ map_to e k) y) in
      let after = next-after e k u l n x next p r w.next_is in
      record {
        begins = rw (z, h) (begins_more v y out (map_at kind to k) w.begins a (omega arith));
        to_is = w.to_is;
        next_is = after;
        few = next_few (numbers kind * e + (k + 1)) (next + x) (let j = flat_below kind e k below l in omega arith) after;
      }

  -- the whole entry
  pub places_end : (e k to next : ℕ) (out : List ℕ) → LaidPlaces kind s e k to next out → is_empty s e ≡ false → (m : ℕ) → m ≡ numbers kind → m ≤ k → k ≤ m
      → LaidEntries kind s (e + 1) (to + 1) next out
  unfolding places_to entries_to
  places_end e k to next out w u m q l r =
      let a : k ≡ numbers kind = omega arith in
      let y = used_so kind s e u in
      let z : entries_to kind s (e + 1) ≡ places_to kind s e (numbers kind) =
      ap (λ (d : ℕ). flat (moved_entry kind s) (passing (is_used_entry s) d)) (add-one e) ∙ flat_yes (moved_entry kind s) (is_used_entry s) e y
      ∙ (unfold moved_entry in refl) in
      record {
        begins = rw z (rw a at w.begins);
        to_is = rw (add-one e, count_yes (is_used_entry s) e y) (ap (λ (d : ℕ). d + 1) w.to_is);
        next_is = w.next_is ∙ ap (λ (j : ℕ). next_number kind s (numbers kind * e + j)) a ∙ ap (next_number kind s) (sym (flat_next kind e));
        few = w.few;
      }

  pub entries_one : (e to next : ℕ) (out : List ℕ) → LaidEntries kind s (e + 1) (to + 1) next out → is_empty s e ≡ false
      → LaidEntries kind s (e + 1) (to + (1 if not (is_empty s e) else 0)) next out
  unfolding ◌if◌else◌
  entries_one e to next out w u = rw u w

  -- ---- all entries

  pub entries_turn : (e to next x : ℕ) (r : Bool) (out : List ℕ) → LaidEntries kind s (e + 1) (to + (1 if not (is_empty s e) else 0)) next out
      → r ≡ is_empty s e → x ≡ (1 if not r else 0) → LaidEntries kind s (e + 1) (to + x) next out
  entries_turn e to next x r out w p q = rw (q, p) w

  -- where each is looked at
  pub entries_low : (e to next n : ℕ) (out : List ℕ) → LaidEntries kind s e to next out → n ≡ entries kind → e < n → to < entries kind
  entries_low e to next n out w q l = let a = w.to_is in let b = count_within (is_used_entry s) e in omega arith

  pub entries_end : (e to next n : ℕ) (out : List ℕ) → LaidEntries kind s e to next out → n ≡ entries kind → n ≤ e → e ≤ n
      → LaidEntries kind s (entries kind) to (next_number kind s (all_numbers kind)) out
  entries_end e to next n out w q l m =
      let a : e ≡ entries kind = omega arith in
      let v : LaidEntries kind s (entries kind) to next out = rw a at w in
      record { begins = v.begins; to_is = v.to_is; next_is = refl; few = next_few (all_numbers kind) _ (omega arith) refl }

  pub entries_few : (e to next n : ℕ) (out : List ℕ) → LaidEntries kind s e to next out → n ≡ entries kind → e ≤ n → to ≤ entries kind
  entries_few e to next n out w q l = let a = w.to_is in let b = count_within (is_used_entry s) e in omega arith

  -- the empty ones behind them make the directory whole
  pub directory_done : (to next n : ℕ) (out o : List ℕ) → LaidEntries kind s (entries kind) to next out → n ≡ entries kind → 32 * entries kind ≤ length s
      → length out ≡ length s → o ≡ put (32 * to) (replicate (32 * n - 32 * to) 0xE5) out → LaidBlocks kind s 0 2 o
  unfolding blocks_to packed_directory used_entries entries_to next_number passing flat count
  directory_done to next n out o w q l m h =
      let v = entries_to kind s (entries kind) in
      let y : List ℕ = replicate (32 * (entries kind - length (used_entries kind s))) 0xE5 in
      let a = entries_size (entries kind) in
      let b = w.to_is in
      let c = entries_long kind s in
      let d = entries_fit kind s in
      let f : 32 * n - 32 * to ≡ 32 * (entries kind - length (used_entries kind s)) = omega arith in
      let g : length y ≡ 32 * (entries kind - length (used_entries kind s)) = length-replicate (32 * (entries kind - length (used_entries kind s))) 0xE5 in
      let z : o ≡ put (32 * to) y out = h ∙ ap (λ (j : ℕ). put (32 * to) (replicate j 0xE5) out) f in
      record {
        begins = rw (append-nil (v ++ y), z) (begins_more v y out (32 * to) w.begins (omega arith) (omega arith));
        next_is = refl;
        few = omega arith;
        size = ap length z ∙ length-put (32 * to) y out (omega arith) ∙ m;
      }

  -- ---- blocks

  -- a place without one, ..
  pub block_hole : (e k next n : ℕ) (out : List ℕ) → LaidBlocks kind s (numbers kind * e + k) next out → is_empty s e ≡ false → k < numbers kind
      → n ≡ map_number kind s e k → n ≡ 0 → LaidBlocks kind s (numbers kind * e + (k + 1)) next out
  unfolding blocks_to next_number
  block_hole e k next n out w u l p z =
      let i = numbers kind * e + k in
      let a : is_numbered kind s i ≡ false = numbered_is e k u l ∙ not_of_true _ (eq-eqb _ _ (sym p ∙ z)) in
      let b : numbers kind * e + (k + 1) ≡ suc i = omega arith in
      record {
        begins = rw (b, passing-not (is_numbered kind s) i a) w.begins;
        next_is = rw (b, count_not (is_numbered kind s) i a) w.next_is;
        few = w.few;
        size = w.size;
      }

  module _ (h : sound_image kind s ≡ true) where
    module _ (e k next n : ℕ) (out : List ℕ) (w : LaidBlocks kind s (numbers kind * e + k) next out) (x : e < entries kind) (l : k < numbers kind)
        (u : is_empty s e ≡ false) (p : n ≡ map_number kind s e k) (z : n ≡ 0 → ⊥) where
      abbrev here : ℕ
      here = numbers kind * e + k

      numbered : is_numbered kind s here ≡ true
      numbered = numbered_is e k u l ∙ not_of_false _ (ne_eqb _ _ (λ q. z (p ∙ q)))

      -- .. and a block: it lies in the image, ..
      pub block_from : block_size kind * n + block_size kind ≤ length s
      block_from =
          let r = (sound_of kind s h).maps.range e k (record { entry_there = x; place_there = l; entry_used = u; some = λ q. z (p ∙ q) }) in
          let m : n < blocks kind s = rw p r.1 in
          let a = block_inside kind n (blocks kind s) m in
          let b = length_whole kind s (sound_length kind s h) in omega arith

      -- .. there is room for it, ..
      pub block_room : block_size kind * next + block_size kind ≤ length out
      unfolding next_number
      block_room =
          let c = count_below (is_numbered kind s) here (all_numbers kind) (flat_below kind e k x l) numbered in
          let f = blocks_fit kind s (sound_of kind s h) in
          let q = w.next_is in
          let a = block_inside kind next (blocks kind s) (omega arith) in
          let b = length_whole kind s (sound_length kind s h) in
          let d = w.size in omega arith

      -- .. and it is laid down
      pub block_more : (o : List ℕ) → o ≡ put (block_size kind * next) (bytes_from s (block_size kind * n) (block_size kind)) out
          → LaidBlocks kind s (numbers kind * e + (k + 1)) (next + 1) o
      unfolding blocks_to next_number moved_block
      block_more o g =
          let y = moved_block kind s here in
          let a : bytes_from s (block_size kind * n) (block_size kind) ≡ y = rw (flat_entry kind e k l, flat_place kind e k l, ← p) refl in
          let b : o ≡ put (block_size kind * next) y out = g ∙ ap (λ (t : List ℕ). put (block_size kind * next) t out) a in
          let c : numbers kind * e + (k + 1) ≡ suc here = omega arith in
          let d : blocks_to kind s (suc here) ≡ blocks_to kind s here ++ y =
          ap (λ (t : List ℕ). packed_directory kind s (used_entries kind s) ++ t) (flat_yes (moved_block kind s) (is_numbered kind s) here numbered)
          ∙ sym (append_assoc (packed_directory kind s (used_entries kind s)) (flat (moved_block kind s) (passing (is_numbered kind s) here)) y) in
          let f : block_size kind * next ≡ length (blocks_to kind s here) = ap (λ (m : ℕ). block_size kind * m) w.next_is ∙ sym (blocks_size here) in
          let r = block_room in
          let m = block_long kind s here in
          record {
            begins = rw (c, d, b) (begins_more (blocks_to kind s here) y out (block_size kind * next) w.begins f (omega arith));
            next_is = rw (c, count_yes (is_numbered kind s) here numbered) (let q = w.next_is in omega arith);
            few =
                next_few (suc here) (next + 1) (let j = flat_below kind e k x l in omega arith)
                (rw (count_yes (is_numbered kind s) here numbered) (let q = w.next_is in omega arith));
            size = ap length b ∙ length-put (block_size kind * next) y out (omega arith) ∙ w.size;
          }

  -- an empty entry has none
  pub blocks_skip : (e next : ℕ) (out : List ℕ) → LaidBlocks kind s (numbers kind * e) next out → is_empty s e ≡ true
      → LaidBlocks kind s (numbers kind * (e + 1)) next out
  unfolding blocks_to
  blocks_skip e next out w c =
      let a : passing (is_numbered kind s) (numbers kind * (e + 1)) ≡ passing (is_numbered kind s) (numbers kind * e) =
      ap (passing (is_numbered kind s)) (flat_next kind e) ∙ passing_up (is_numbered kind s) (numbers kind * e) (numbers kind * e + numbers kind) (omega arith)
      (λ i m n. numbered_off kind s i (rw (flat_within kind e i m n) c)) in
      record { begins = rw a w.begins; next_is = w.next_is ∙ sym (next_skips e c); few = w.few; size = w.size }

  -- the places of one entry: the first, ..
  pub map_begin : (e next : ℕ) (out : List ℕ) → LaidBlocks kind s (numbers kind * e) next out → LaidBlocks kind s (numbers kind * e + 0) next out
  map_begin e next out w = rw (add-zero (numbers kind * e)) w

  -- .. and the last
  pub map_end : (e k next m : ℕ) (out : List ℕ) → LaidBlocks kind s (numbers kind * e + k) next out → m ≡ numbers kind → m ≤ k → k ≤ m
      → LaidBlocks kind s (numbers kind * (e + 1)) next out
  map_end e k next m out w q l r =
      let a : k ≡ numbers kind = omega arith in
      rw (flat_next kind e) (rw a at w)

  -- the entries: the first, ..
  pub blocks_begin : (next : ℕ) (out : List ℕ) → LaidBlocks kind s 0 next out → LaidBlocks kind s (numbers kind * 0) next out
  blocks_begin next out w = let z : numbers kind * 0 ≡ 0 = omega arith in rw z w

  -- .. and the last
  pub blocks_end : (e next n : ℕ) (out : List ℕ) → LaidBlocks kind s (numbers kind * e) next out → n ≡ entries kind → n ≤ e → e ≤ n
      → LaidBlocks kind s (all_numbers kind) next out
  blocks_end e next n out w q l r = let a : e ≡ entries kind = omega arith in rw a at w

  -- ---- all of it

  module _ (h : sound_image kind s ≡ true) (next : ℕ) (out : List ℕ) (w : LaidBlocks kind s (all_numbers kind) next out) where
    pub end_room : block_size kind * next ≤ length out
    unfolding next_number
    end_room =
        let g = sound_of kind s h in
        let a = blocks_rest kind (blocks kind s) (met kind s) (blocks_fit kind s g) in
        let b = block_behind kind (met kind s) 0 in
        let c = length_whole kind s (sound_length kind s h) in
        let d = w.size in
        rw w.next_is (omega arith)

    pub packed_all : (n at : ℕ) (o : List ℕ) → n ≡ length s → at ≡ block_size kind * next → o ≡ put at (replicate (n - at) 0) out → o ≡ packed kind s
    unfolding packed packed_blocks blocks_to walk next_number
    packed_all n at o p r q =
        let g = sound_of kind s h in
        let v = blocks_to kind s (all_numbers kind) in
        let y : List ℕ = replicate (n - at) 0 in
        let b = w.size in
        let c : length y ≡ n - at = length-replicate (n - at) 0 in
        let d = end_room in
        let f : at ≡ length v = r ∙ ap (λ (m : ℕ). block_size kind * m) w.next_is ∙ sym (blocks_size (all_numbers kind)) in
        let k : length o ≡ length s = ap length q ∙ length-put at y out (omega arith) ∙ b in
        let u : length (v ++ y) ≡ length o = length-append v y ∙ omega arith in
        let e : n - at ≡ block_size kind * (blocks kind s - 2 - length (walk kind s)) =
        let a = blocks_rest kind (blocks kind s) (met kind s) (blocks_fit kind s g) in
        let m = block_behind kind (met kind s) 0 in
        let t = length_whole kind s (sound_length kind s h) in
        let x : at ≡ block_size kind * (2 + met kind s) = r ∙ ap (λ (j : ℕ). block_size kind * j) w.next_is in
        rw (walk_long kind s) (omega arith) in
        sym (take-length o) ∙ ap (λ (j : ℕ). take j o) (sym u) ∙ ap (take (length (v ++ y))) q
        ∙ begins_more v y out at w.begins f (omega arith)
        ∙ ap (λ (j : ℕ). v ++ replicate j 0) e
        ∙ append_assoc (packed_directory kind s (used_entries kind s)) (flat (moved_block kind s) (walk kind s))
        (replicate (block_size kind * (blocks kind s - 2 - length (walk kind s))) 0)

-- ---- bytes filled to an end

pub filled_to : (at end b : ℕ) (xs ys : List ℕ) → at ≤ end → end ≤ length xs → ys ≡ replicate (length (take (end - at) (drop at xs))) b
    → put_mid at (end - at) xs ys ≡ put at (replicate (end - at) b) xs
filled_to at end b xs ys l m h = lent_filled at end (end - at) b xs ys (omega arith) m h

-- ---- a block copied

pub block_copied : (kind : Kind) (s out o : List ℕ) (n b from size to : ℕ) → from ≡ block_size kind * n → size ≡ block_size kind → to ≡ block_size kind * b
    → block_size kind * n + block_size kind ≤ length s → o ≡ put to (take (from + size - from) (drop from s)) out
    → o ≡ put (block_size kind * b) (bytes_from s (block_size kind * n) (block_size kind)) out
block_copied kind s out o n b from size to p q r l h =
    let a : from + size - from ≡ block_size kind = omega arith in
    h ∙ ap (λ (i : ℕ). put i (take (from + size - from) (drop from s)) out) r
    ∙ ap (λ (i : ℕ). put (block_size kind * b) (take i (drop from s)) out) a
    ∙ ap (λ (i : ℕ). put (block_size kind * b) (take (block_size kind) (drop i s)) out) p
    ∙ ap (λ (x : List ℕ). put (block_size kind * b) x out) (from_part s (block_size kind * n) (block_size kind) l)

-- ---- a test that counts

pub one_from : (t : Bool) (r : ℕ) → r ≡ from_bool t → r ≡ (1 if t else 0)
unfolding ◌if◌else◌
one_from true r e = e
one_from false r e = e

-- ---- the sets

pub ruleset mapping = (rules, refl, places_more, places_end)

pub ruleset laying = (rules, refl, answers, entries_none, entries_skip, entry_head, entries_one, entries_turn, entries_low, entries_end, entries_few)

pub ruleset copying = (rules, refl, entry_inside, block_hole, block_from, block_room, block_more)

pub ruleset walking = (rules, refl, answers, entry_inside, blocks_skip, map_begin, map_end, blocks_begin, blocks_end)
