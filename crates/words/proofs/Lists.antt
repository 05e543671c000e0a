-- Laws of lists made by a rule. Assumes nothing.
use Prim.Native.Nat.{ℕ, zero, suc, ◌+◌, ◌*◌, ◌≤◌, ◌<◌}
use mathlib.Core.Path.{◌≡◌, refl, sym, ap, subst, ◌∙◌}
use mathlib.Core.List.{List, [], ◌∷◌, ◌++◌, map, append-nil, append_assoc}
use native.Mathlib.Nat.{le_of_suc-le-suc, not-suc-le-zero, mul-suc}
use native.Mathlib.Numerals.{add-one}
use native.Mathlib.Omega.{arith}
use lib.ListN.{length, get_or, set, take, drop, replicate, length-append, length-map, get_or-append, take-append-drop}
use lib.Seq.{get_or-append-add, drop-append-add, drop-drop, take_at}
use Rattle.words.specs.Lists.{tab, flat, turns}

module _ {A : Type 0} where
  -- ---- tab

  pub tab_ext : (f g : ℕ → A) (n : ℕ) → ((k : ℕ) → k < n → f k ≡ g k) → tab f n ≡ tab g n
  unfolding tab
  tab_ext f g zero h = refl
  tab_ext f g (suc n) h = λ i. h 0 (omega arith) i ∷ tab_ext (λ (k : ℕ). f (suc k)) (λ (k : ℕ). g (suc k)) n (λ k l. h (suc k) (omega arith)) i

  pub tab_at : (f : ℕ → A) (n k : ℕ) (d : A) → k < n → get_or (tab f n) k d ≡ f k
  unfolding tab
  tab_at f zero k d h = absurd (not-suc-le-zero h)
  tab_at f (suc n) zero d h = refl
  tab_at f (suc n) (suc k) d h = tab_at (λ (j : ℕ). f (suc j)) n k d (le_of_suc-le-suc h)

  pub length-tab : (f : ℕ → A) (n : ℕ) → length (tab f n) ≡ n
  unfolding tab
  length-tab f zero = refl
  length-tab f (suc n) = ap suc (length-tab (λ (k : ℕ). f (suc k)) n)

  tab-length : (xs : List A) (d : A) → tab (λ (k : ℕ). get_or xs k d) (length xs) ≡ xs
  unfolding tab
  tab-length [] d = refl
  tab-length (x ∷ xs) d = ap (λ (t : List A). x ∷ t) (tab-length xs d)

  -- a list is the table of its elements
  pub tab_get_d : (xs : List A) (d : A) (n : ℕ) → length xs ≡ n → tab (λ (k : ℕ). get_or xs k d) n ≡ xs
  tab_get_d xs d n e = subst (λ (k : ℕ). tab (λ (j : ℕ). get_or xs j d) k ≡ xs) e (tab-length xs d)

  -- ---- a list of which the first i elements are f 0 .. f (i - 1)

  abbrev pub filled : (ℕ → A) → ℕ → List A → List A
  filled f i l = tab f i ++ drop i l

  filled_suc : (f : ℕ → A) (i : ℕ) (l : List A) → i < length l → set (filled f i l) i (f i) ≡ filled f (suc i) l
  unfolding tab
  filled_suc f i [] h = absurd (not-suc-le-zero h)
  filled_suc f zero (x ∷ xs) h = refl
  filled_suc f (suc i) (x ∷ xs) h = ap (λ (t : List A). f 0 ∷ t) (filled_suc (λ (k : ℕ). f (suc k)) i xs (le_of_suc-le-suc h))

  filled_length : (f : ℕ → A) (l : List A) → filled f (length l) l ≡ tab f (length l)
  unfolding tab
  filled_length f [] = refl
  filled_length f (x ∷ xs) = ap (λ (t : List A). f 0 ∷ t) (filled_length (λ (k : ℕ). f (suc k)) xs)

  pub filled_all : (f : ℕ → A) (n : ℕ) (l : List A) → length l ≡ n → filled f n l ≡ tab f n
  filled_all f n l e = subst (λ (k : ℕ). filled f k l ≡ tab f k) e (filled_length f l)

  pub tab_same : (f : ℕ → A) (n : ℕ) (x : A) → ((k : ℕ) → k < n → f k ≡ x) → replicate n x ≡ tab f n
  unfolding tab
  tab_same f zero x h = refl
  tab_same f (suc n) x h = λ i. sym (h 0 (omega arith)) i ∷ tab_same (λ (k : ℕ). f (suc k)) n x (λ k l. h (suc k) (omega arith)) i

  -- the rest of it was so from the beginning
  pub filled_up : (f : ℕ → A) (i n : ℕ) (x : A) → i ≤ n → ((k : ℕ) → i ≤ k → k < n → f k ≡ x) → filled f i (replicate n x) ≡ tab f n
  unfolding tab
  filled_up f zero n x m h = tab_same f n x (λ k l. h k (omega arith) l)
  filled_up f (suc i) zero x m h = absurd (not-suc-le-zero m)
  filled_up f (suc i) (suc n) x m h =
      ap (λ (t : List A). f 0 ∷ t) (filled_up (λ (k : ℕ). f (suc k)) i n x (le_of_suc-le-suc m) (λ k l g. h (suc k) (omega arith) (omega arith)))

  -- a turn of a loop that fills: l is the list so far, and x what is stored
  pub filled_turn : (f : ℕ → A) (i : ℕ) (l₀ l : List A) (x : A) → i < length l₀ → l ≡ filled f i l₀ → x ≡ f i → set l i x ≡ filled f (i + 1) l₀
  filled_turn f i l₀ l x h e n = ap (λ (y : A). set l i y) n ∙ ap (λ (m : List A). set m i (f i)) e ∙ rw add-one (filled_suc f i l₀ h)

  -- ---- a list of which the first i elements are mapped

  abbrev pub map_to : (A → A) → ℕ → List A → List A
  map_to f i xs = map f (take i xs) ++ drop i xs

  map_to_suc : (f : A → A) (i : ℕ) (xs : List A) (d : A) → i < length xs → set (map_to f i xs) i (f (get_or (map_to f i xs) i d)) ≡ map_to f (suc i) xs
  map_to_suc f i [] d h = absurd (not-suc-le-zero h)
  map_to_suc f zero (x ∷ xs) d h = refl
  map_to_suc f (suc i) (x ∷ xs) d h = ap (λ (t : List A). f x ∷ t) (map_to_suc f i xs d (le_of_suc-le-suc h))

  -- a turn of a loop that maps in place
  pub map_to_more : (f : A → A) (i : ℕ) (xs : List A) (d : A) → i < length xs → set (map_to f i xs) i (f (get_or (map_to f i xs) i d)) ≡ map_to f (i + 1) xs
  map_to_more f i xs d h = rw add-one (map_to_suc f i xs d h)

  map_to_length : (f : A → A) (xs : List A) → map_to f (length xs) xs ≡ map f xs
  map_to_length f [] = refl
  map_to_length f (x ∷ xs) = ap (λ (t : List A). f x ∷ t) (map_to_length f xs)

  pub map_to_all : (f : A → A) (n : ℕ) (xs : List A) → length xs ≡ n → map_to f n xs ≡ map f xs
  map_to_all f n xs e = subst (λ (k : ℕ). map_to f k xs ≡ map f xs) e (map_to_length f xs)

  -- an element of a mapped list
  pub map_at : {B : Type 0} (f : A → B) (xs : List A) (i : ℕ) (d : A) (e : B) → i < length xs → get_or (map f xs) i e ≡ f (get_or xs i d)
  map_at f [] i d e h = absurd (not-suc-le-zero h)
  map_at f (x ∷ xs) zero d e h = refl
  map_at f (x ∷ xs) (suc i) d e h = map_at f xs i d e (le_of_suc-le-suc h)

-- how many elements an array of structs has, from what owning it tells
pub length-mapped : (X Y : Type 0) (f : X → Y) (l : List X) (n : ℕ) → length (map f l) ≡ n → length l ≡ n
length-mapped X Y f l n p = sym (length-map l f) ∙ p

-- ---- byte j of block i, of blocks of w bytes each

module _ {A : Type 0} (f : A → List ℕ) (w : ℕ) (hw : (x : A) → length (f x) ≡ w) where
  pub flat_at : (i j : ℕ) (xs : List A) (d : A) → i < length xs → j < w → get_or (flat f xs) (w * i + j) 0 ≡ get_or (f (get_or xs i d)) j 0
  unfolding flat
  flat_at i j [] d h g = absurd (not-suc-le-zero h)
  flat_at zero j (x ∷ xs) d h g =
      let z : w * 0 + j ≡ j = omega arith in
      let l : j < length (f x) = omega (arith, hw x) in
      rw z (get_or-append (f x) (flat f xs) 0 j l)
  flat_at (suc i) j (x ∷ xs) d h g =
      let z : w * suc i + j ≡ length (f x) + (w * i + j) = omega (arith, mul-suc w i, hw x) in
      rw (z, get_or-append-add (f x) (flat f xs) (w * i + j) 0) (flat_at i j xs d (le_of_suc-le-suc h) g)

  pub length-flat : (xs : List A) → length (flat f xs) ≡ w * length xs
  unfolding flat
  length-flat [] = omega arith
  length-flat (x ∷ xs) = length-append (f x) (flat f xs) ∙ omega (arith, hw x, length-flat xs, mul-suc w (length xs))

  -- block i of the blocks
  pub flat_block : (i : ℕ) (xs : List A) (d : A) → i < length xs → take w (drop (w * i) (flat f xs)) ≡ f (get_or xs i d)
  unfolding flat
  flat_block i [] d h = absurd (not-suc-le-zero h)
  flat_block zero (x ∷ xs) d h =
      let z : w * 0 ≡ 0 = omega arith in
      rw z (take_at (f x) (flat f xs) w (hw x))
  flat_block (suc i) (x ∷ xs) d h =
      let z : w * suc i ≡ length (f x) + w * i = omega (arith, mul-suc w i, hw x) in
      rw (z, drop-append-add (f x) (flat f xs) (w * i)) (flat_block i xs d (le_of_suc-le-suc h))

-- ---- more of them

module _ {A : Type 0} where
  pub flat_append : (f : A → List ℕ) (xs ys : List A) → flat f (xs ++ ys) ≡ flat f xs ++ flat f ys
  unfolding flat
  flat_append f [] ys = refl
  flat_append f (x ∷ xs) ys = ap (λ (t : List ℕ). f x ++ t) (flat_append f xs ys) ∙ sym (append_assoc (f x) (flat f xs) (flat f ys))

  pub flat_one : (f : A → List ℕ) (x : A) → flat f (x ∷ []) ≡ f x
  unfolding flat
  flat_one f x = append-nil (f x)

  pub tab_more : (f : ℕ → A) (n : ℕ) → tab f (suc n) ≡ tab f n ++ (f n ∷ [])
  unfolding tab
  tab_more f zero = refl
  tab_more f (suc n) = ap (λ (t : List A). f 0 ∷ t) (tab_more (λ (k : ℕ). f (suc k)) n)

  -- two rules that give the same of each element
  pub flat_same : (f g : A → List ℕ) (d : A) (xs ys : List A) → length xs ≡ length ys
      → ((i : ℕ) → i < length xs → f (get_or xs i d) ≡ g (get_or ys i d)) → flat f xs ≡ flat g ys
  unfolding flat
  flat_same f g d [] [] e h = refl
  flat_same f g d [] (y ∷ ys) e h = absurd (omega arith)
  flat_same f g d (x ∷ xs) [] e h = absurd (omega arith)
  flat_same f g d (x ∷ xs) (y ∷ ys) e h =
      ap (λ (t : List ℕ). t ++ flat f xs) (h 0 (omega arith))
      ∙ ap (λ (t : List ℕ). g y ++ t) (flat_same f g d xs ys (omega arith) (λ i l. h (suc i) (omega arith)))

-- a list cut into blocks, each of which g takes for f's
module _ {A : Type 0} (f : A → List ℕ) (g : List ℕ → A) (w : ℕ) where
  pub flat_cut : (n a : ℕ) (s : List ℕ) → ((i : ℕ) → i < n → f (g (take w (drop (a + w * i) s))) ≡ take w (drop (a + w * i) s))
      → flat f (tab (λ (i : ℕ). g (take w (drop (a + w * i) s))) n) ++ drop (a + w * n) s ≡ drop a s
  unfolding flat tab
  flat_cut zero a s k = let z : a + w * 0 ≡ a = omega arith in rw z refl
  flat_cut (suc n) a s k =
      let z : a + w * 0 ≡ a = omega arith in
      let y : (i : ℕ) → a + w + w * i ≡ a + w * suc i = λ (i : ℕ). omega (arith, mul-suc w i) in
      let e : tab (λ (i : ℕ). g (take w (drop (a + w * suc i) s))) n ≡ tab (λ (i : ℕ). g (take w (drop (a + w + w * i) s))) n = tab_ext _ _ n
      (λ i l. ap (λ (j : ℕ). g (take w (drop j s))) (sym (y i))) in
      let r : flat f (tab (λ (i : ℕ). g (take w (drop (a + w + w * i) s))) n) ++ drop (a + w + w * n) s ≡ drop (a + w) s =
      flat_cut n (a + w) s (λ i l. rw (y i) (k (suc i) (omega arith))) in
      let b : f (g (take w (drop a s))) ≡ take w (drop a s) = rw z at (k 0 (omega arith)) in
      rw (z, b, e, ← y n) (append_assoc (take w (drop a s)) (flat f (tab (λ (i : ℕ). g (take w (drop (a + w + w * i) s))) n)) (drop (a + w + w * n) s)
      ∙ ap (λ (t : List ℕ). take w (drop a s) ++ t) (r ∙ sym (drop-drop w a s)) ∙ take-append-drop w (drop a s))

-- the front of a list that another follows
front : (n : ℕ) (xs ys : List ℕ) → n ≤ length xs → take n (xs ++ ys) ≡ take n xs
front zero xs ys h = refl
front (suc n) [] ys h = absurd (omega arith)
front (suc n) (x ∷ xs) ys h = ap (λ (zs : List ℕ). x ∷ zs) (front n xs ys (omega arith))

-- a part of it, ..
pub part_front : (m n : ℕ) (xs ys : List ℕ) → m + n ≤ length xs → take n (drop m (xs ++ ys)) ≡ take n (drop m xs)
part_front zero n xs ys h = front n xs ys (omega arith)
part_front (suc m) n [] ys h = absurd (omega arith)
part_front (suc m) n (x ∷ xs) ys h = part_front m n xs ys (omega arith)

-- .. and what follows
pub drop_behind : (n : ℕ) (xs ys : List ℕ) → length xs ≡ n → drop n (xs ++ ys) ≡ ys
drop_behind zero [] ys h = refl
drop_behind zero (x ∷ xs) ys h = absurd (omega arith)
drop_behind (suc n) [] ys h = absurd (omega arith)
drop_behind (suc n) (x ∷ xs) ys h = drop_behind n xs ys (omega arith)

-- ---- turns

pub turns_none : {A : Type 0} (step : ℕ → A → A) (x : A) → x ≡ turns step 0 x
unfolding turns
turns_none step x = refl

-- a turn of a loop: y so far, z after it
pub turns_more : {A : Type 0} (step : ℕ → A → A) (i : ℕ) (x y z : A) → y ≡ turns step i x → z ≡ step i y → z ≡ turns step (i + 1) x
unfolding turns
turns_more {A} step i x y z h e = rw add-one (e ∙ ap (λ (t : A). step i t) h)

pub turns_ends : {A : Type 0} (step : ℕ → A → A) (n i : ℕ) (x y : A) → y ≡ turns step i x → n ≤ i → i ≤ n → y ≡ turns step n x
turns_ends step n i x y h g l = let q : i ≡ n = omega arith in rw q at h

-- an element set in the second of two lists
pub set_behind : {A : Type 0} (xs ys : List A) (i : ℕ) (a : A) → set (xs ++ ys) (length xs + i) a ≡ xs ++ set ys i a
set_behind [] ys i a = ap (λ (k : ℕ). set ys k a) (let z : 0 + i ≡ i = omega arith in z)
set_behind (x ∷ xs) ys i a =
    let z : suc (length xs) + i ≡ suc (length xs + i) = omega arith in
    ap (λ (k : ℕ). set (x ∷ (xs ++ ys)) k a) z ∙ ap (λ (zs : List _). x ∷ zs) (set_behind xs ys i a)
