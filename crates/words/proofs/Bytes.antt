-- Laws of bytes: parts, bytes put at a place, numbers in bytes. Assumes nothing.
use Prim.Native.Nat.{ℕ, zero, suc, ◌+◌, ◌-◌, ◌/◌, ◌%◌, ◌≤◌, ◌<◌}
use mathlib.Core.Path.{◌≡◌, refl, sym, ap, ◌∙◌}
use mathlib.Core.List.{List, [], ◌∷◌, ◌++◌, append_assoc, append-nil}
use mathlib.Core.Logic.{◌⊎◌, ⊎_elim}
use native.Mathlib.Numerals.{add-one}
use native.Mathlib.Omega.{arith}
use lib.ListN.{length, get_or, set, take, drop, replicate, length-append, length-take, length-drop, length-replicate, get_or-replicate, get_or-append}
use lib.ListN.{get_or-eq_default, take-append-drop}
use lib.Seq.{drop-length, get_or-append-add, get_or-take, get_or-drop, length-take-le, take-length, take_at, drop_at, drop-drop, paste, paste-suc}
use borrow.Rule.Slice.PartMut.{put_mid}
use Rattle.words.specs.Lists.{tab}
use Rattle.words.specs.Bytes.{byte, byte_from, bytes_from, part, put, le, word}
use Rattle.words.proofs.Lists.{tab_ext, tab_get_d, length-tab}

-- what stands past the end of a list
pub past_end : (l : List ℕ) (n i : ℕ) → length l ≡ n → n ≤ i → 0 ≡ get_or l i 0
past_end l n i h g = let k : length l ≤ i = omega arith in sym (get_or-eq_default l 0 k)

-- ---- parts

pub part_long : (s : List ℕ) (at n : ℕ) → at + n ≤ length s → length (part at n s) ≡ n
part_long s at n h = simp (length-take, length-drop) (omega arith)

pub part-byte : (s : List ℕ) (at n k : ℕ) → k < n → byte (part at n s) k ≡ byte s (at + k)
part-byte s at n k h = get_or-take n (drop at s) k 0 h ∙ get_or-drop at s k 0

-- as the table of its bytes
pub part-tab : (s : List ℕ) (at n : ℕ) → at + n ≤ length s → part at n s ≡ tab (byte_from s at) n
part-tab s at n h =
    sym (tab_get_d (part at n s) 0 n (part_long s at n h))
    ∙ tab_ext (λ (k : ℕ). get_or (part at n s) k 0) (byte_from s at) n (λ k l. part-byte s at n k l)

-- of two lists with the same bytes there, ..
pub part_alike : (s t : List ℕ) (a b n : ℕ) → a + n ≤ length s → b + n ≤ length t → ((k : ℕ) → k < n → byte t (b + k) ≡ byte s (a + k))
    → part b n t ≡ part a n s
part_alike s t a b n h g e = part-tab t b n g ∙ tab_ext (byte_from t b) (byte_from s a) n e ∙ sym (part-tab s a n h)

-- .. at the same place
pub part_same : (s t : List ℕ) (at n : ℕ) → at + n ≤ length s → length t ≡ length s → ((k : ℕ) → k < n → byte t (at + k) ≡ byte s (at + k))
    → part at n t ≡ part at n s
part_same s t at n h e b = part_alike s t at at n h (omega arith) b

-- ---- bytes from a place on, with zeros past the end

padded_at : (xs : List ℕ) (n k : ℕ) → k < n → get_or (xs ++ replicate n 0) k 0 ≡ get_or xs k 0
padded_at [] n k l = get_or-replicate n k 0 0 l
padded_at (x ∷ xs) n zero l = refl
padded_at (x ∷ xs) n (suc k) l = padded_at xs n k (omega arith)

-- they are the table of its bytes, ..
pub from_tab : (s : List ℕ) (at n : ℕ) → bytes_from s at n ≡ tab (byte_from s at) n
unfolding bytes_from
from_tab s at n =
    let m : length (replicate {A = ℕ} n 0) ≡ n = length-replicate n 0 in
    let a = length-append (drop at s) (replicate n 0) in
    let l = length-take-le n (drop at s ++ replicate n 0) (omega arith) in
    sym (tab_get_d (bytes_from s at n) 0 n l)
    ∙ tab_ext (λ (k : ℕ). get_or (bytes_from s at n) k 0) (byte_from s at) n
    (λ k h. get_or-take n (drop at s ++ replicate n 0) k 0 h ∙ padded_at (drop at s) n k h ∙ get_or-drop at s k 0)

-- .. so many, ..
pub from_size : (s : List ℕ) (at n : ℕ) → length (bytes_from s at n) ≡ n
from_size s at n = ap length (from_tab s at n) ∙ length-tab (byte_from s at) n

-- .. and a part of a list where it has as many
pub from_part : (s : List ℕ) (at n : ℕ) → at + n ≤ length s → part at n s ≡ bytes_from s at n
from_part s at n h = part-tab s at n h ∙ sym (from_tab s at n)

-- ---- one list after another

module _ (xs ys : List ℕ) (n : ℕ) (size : length xs ≡ n) where
  -- a byte of the first, ..
  pub first_byte : (i : ℕ) → i < n → byte (xs ++ ys) i ≡ byte xs i
  first_byte i l = get_or-append xs ys 0 i (omega arith)

  -- .. and one of the second
  pub second_byte : (i : ℕ) → n ≤ i → byte (xs ++ ys) i ≡ byte ys (i - n)
  second_byte i l =
      let p : i ≡ length xs + (i - n) = omega arith in
      ap (λ (j : ℕ). byte (xs ++ ys) j) p ∙ get_or-append-add xs ys (i - n) 0

-- ---- bytes of a list that v was put into

module _ (at : ℕ) (v s : List ℕ) (fits : at + length v ≤ length s) where
  front : length (take at s) ≡ at
  front = length-take-le at s (omega arith)

  opened : put at v s ≡ take at s ++ (v ++ drop (at + length v) s)
  unfolding put
  opened = append_assoc (take at s) v (drop (at + length v) s)

  pub put_before : (i : ℕ) → i < at → byte (put at v s) i ≡ byte s i
  put_before i h =
      ap (λ (m : List ℕ). get_or m i 0) opened
      ∙ get_or-append (take at s) (v ++ drop (at + length v) s) 0 i (omega (arith, front)) ∙ get_or-take at s i 0 h

  beyond : (k : ℕ) → byte (put at v s) (at + k) ≡ byte (v ++ drop (at + length v) s) k
  beyond k =
      let z : at + k ≡ length (take at s) + k = omega (arith, front) in
      ap (λ (m : List ℕ). get_or m (at + k) 0) opened
      ∙ ap (λ (j : ℕ). get_or (take at s ++ (v ++ drop (at + length v) s)) j 0) z
      ∙ get_or-append-add (take at s) (v ++ drop (at + length v) s) k 0

  pub put_in : (k : ℕ) → k < length v → byte (put at v s) (at + k) ≡ byte v k
  put_in k h = beyond k ∙ get_or-append v (drop (at + length v) s) 0 k h

  put-after : (k : ℕ) → byte (put at v s) (at + (length v + k)) ≡ byte s (at + length v + k)
  put-after k = beyond (length v + k) ∙ get_or-append-add v (drop (at + length v) s) k 0 ∙ get_or-drop (at + length v) s k 0

  pub put_out : (i : ℕ) → (i < at) ⊎ (at + length v ≤ i) → byte (put at v s) i ≡ byte s i
  put_out i c =
      ⊎_elim (λ (h : i < at). put_before i h)
      (λ (h : at + length v ≤ i).
      let y : at + (length v + (i - (at + length v))) ≡ i = omega arith in
      let z : at + length v + (i - (at + length v)) ≡ i = omega arith in
      rw (y, z) at (put-after (i - (at + length v)))) c

  pub length-put : length (put at v s) ≡ length s
  length-put = ap length opened ∙ simp (length-append, length-drop) (omega (arith, front))

  -- what was put is there
  pub part-put : part at (length v) (put at v s) ≡ v
  part-put =
      ap (λ (m : List ℕ). part at (length v) m) opened
      ∙ ap (λ (m : List ℕ). take (length v) m) (drop_at (take at s) (v ++ drop (at + length v) s) at front)
      ∙ take_at v (drop (at + length v) s) (length v) refl

-- ---- loans that put bytes

-- a `&mut` slice xs, after its part from a to e was lent and came back as zs
pub lent_back : (a e : ℕ) (xs ys zs : List ℕ) → a ≤ e → length zs ≡ e - a → ys ≡ zs → put_mid a (e - a) xs ys ≡ put a zs xs
unfolding put
lent_back a e xs ys zs h g n =
    let k : a + (e - a) ≡ a + length zs = omega arith in
    ap (λ (v : List ℕ). put_mid a (e - a) xs v) n
    ∙ ap (λ (t : List ℕ). take a xs ++ (zs ++ t)) (drop-drop (e - a) a xs ∙ ap (λ (m : ℕ). drop m xs) k)
    ∙ sym (append_assoc (take a xs) zs (drop (a + length zs) xs))

-- the same of a part of k bytes that came back filled with one byte
pub lent_filled : (a e k b : ℕ) (xs ys : List ℕ) → e ≡ a + k → e ≤ length xs → ys ≡ replicate (length (take (e - a) (drop a xs))) b
    → put_mid a (e - a) xs ys ≡ put a (replicate k b) xs
lent_filled a e k b xs ys h m n =
    let j : length (take (e - a) (drop a xs)) ≡ k = simp (length-take, length-drop) (omega arith) in
    lent_back a e xs ys (replicate k b) (omega arith) (length-replicate k b ∙ omega arith) (n ∙ ap (λ (i : ℕ). replicate i b) j)

-- a list that begins with v, when w has been put behind v
pub begins_more : (v w s : List ℕ) (at : ℕ) → take (length v) s ≡ v → at ≡ length v → at + length w ≤ length s
    → take (length (v ++ w)) (put at w s) ≡ v ++ w
unfolding put
begins_more v w s at h e fits =
    let q : take at s ≡ v = ap (λ (n : ℕ). take n s) e ∙ h in
    ap (λ (x : List ℕ). take (length (v ++ w)) (x ++ w ++ drop (at + length w) s)) q ∙ take_at (v ++ w) (drop (at + length w) s) (length (v ++ w)) refl

-- all of it put anew
pub put_whole : (v s : List ℕ) → length v ≡ length s → put 0 v s ≡ v
unfolding put
put_whole v s h =
    let k : 0 + length v ≡ length s = omega arith in
    ap (λ (m : ℕ). v ++ drop m s) k ∙ ap (λ (m : List ℕ). v ++ m) (drop-length s) ∙ append-nil v

-- a part put back where it stands
pub put_same : (at n : ℕ) (s : List ℕ) → at + n ≤ length s → put at (part at n s) s ≡ s
unfolding put
put_same at n s h =
    let k : length (part at n s) ≡ n = part_long s at n h in
    ap (λ (m : ℕ). take at s ++ part at n s ++ drop (at + m) s) k
    ∙ append_assoc (take at s) (take n (drop at s)) (drop (at + n) s)
    ∙ ap (λ (m : List ℕ). take at s ++ (take n (drop at s) ++ m)) (sym (drop-drop n at s))
    ∙ ap (λ (m : List ℕ). take at s ++ m) (take-append-drop n (drop at s))
    ∙ take-append-drop at s

-- what a step stores, through what a callee made of it
pub put_as : (at : ℕ) (v v' s l : List ℕ) → l ≡ put at v s → v ≡ v' → l ≡ put at v' s
put_as at v v' s l h e = h ∙ ap (λ (x : List ℕ). put at x s) e

-- ---- numbers in bytes

pub le_long : (k n : ℕ) → length (le k n) ≡ k
unfolding le
le_long zero n = refl
le_long (suc k) n = ap suc (le_long k (n / 256))

pub word_back : (n : ℕ) → n < 4294967296 → word (n % 256) (n / 256 % 256) (n / 256 / 256 % 256) (n / 256 / 256 / 256 % 256) ≡ n
word_back n h = omega arith

module _ (a b c d : ℕ) (ha : a < 256) (hb : b < 256) (hc : c < 256) (hd : d < 256) where
  pub word_first : word a b c d % 256 ≡ a
  word_first = omega arith

  pub word_second : word a b c d / 256 % 256 ≡ b
  word_second = omega arith

  pub word_third : word a b c d / 256 / 256 % 256 ≡ c
  word_third = omega arith

  pub word_fourth : word a b c d / 256 / 256 / 256 % 256 ≡ d
  word_fourth = omega arith
