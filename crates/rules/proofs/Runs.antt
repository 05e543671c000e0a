-- The locks on a run of records, found in one pass over the places. Assumes nothing.
use Rattle.std.proofs.Common.{◌≡◌, ℕ, ◌+◌, ◌-◌, ◌≤◌, ◌<◌, Bool, true, false, not, List, length, get_or, set, take, filter, replicate, ltb, refl, sym, ap, ◌∙◌, ⊎_elim, arith, ltb-true}
use Rattle.std.proofs.Math.ListN.{length-set}
use Rattle.std.proofs.lemmas.List.Sums.{length-filter}
use Rattle.std.proofs.Math.Seq.{get_or-set_same, get_or-set_other}
use borrow.Author.Tests.{ne_eqb, lt-ltb}
use Rattle.words.specs.Tests.{◌and◌, any, lowest, count}
use Rattle.words.specs.Lists.{tab}
use Rattle.words.proofs.Tests.{either, equal?, and_false, any_none, any_skip, any_here, any_found, any_some, any_never, lowest_none, lowest_found, lowest_least, lowest_holds, lowest_within}
use Rattle.words.proofs.Counts.{count_within}
use Rattle.words.proofs.Lists.{tab_ext, tab_at, tab_get_d, length-tab, tab_same}
use Rattle.words.proofs.Sets.{and_left, and_last, and_both, any_goes}
use Rattle.rules.specs.declared.file.File.{File}
use Rattle.rules.specs.declared.list.LockList.{LockList}
use Rattle.rules.specs.Locks.{item_at, locks_record, locks_record_at, is_others_lock, locked_by_other, is_own_lock, held}
use Rattle.rules.specs.Codes.{is_others, is_new}
use Rattle.rules.proofs.Chains.{count_front}

any_stays : (g : ℕ → Bool) (i : ℕ) → any g i ≡ true → any g (i + 1) ≡ true
any_stays g i h = let k = any_some g i h in any_found g (i + 1) k.0 (omega arith) k.2

-- ---- an item is a lock of its own record alone

record_not : (l : LockList) (f : File) (x i : ℕ) → ((item_at l i).number ≡ x → ⊥) → locks_record_at l f x i ≡ false
unfolding locks_record_at locks_record
record_not l f x i h = and_last _ _ (and_left _ _ (ne_eqb _ _ h))

others_not : (l : LockList) (p : ℕ) (f : File) (x i : ℕ) → ((item_at l i).number ≡ x → ⊥) → is_others_lock l p f x i ≡ false
unfolding is_others_lock
others_not l p f x i h = and_last _ _ (record_not l f x i h)

own_not : (l : LockList) (p : ℕ) (f : File) (x i : ℕ) → ((item_at l i).number ≡ x → ⊥) → is_own_lock l p f x i ≡ false
unfolding is_own_lock
own_not l p f x i h = and_last _ _ (record_not l f x i h)

-- .. so of a place whose record is below the run, past it, or passes no test, no record of the run passes it
module _ (l : LockList) (test : ℕ → ℕ → Bool) (only : (x i : ℕ) → ((item_at l i).number ≡ x → ⊥) → test x i ≡ false) (r n i : ℕ) where
  below : (item_at l i).number < r → (k : ℕ) → k < n → test (r + k) i ≡ false
  below h k m = only (r + k) i (λ q. absurd (omega arith))

  past : r ≤ (item_at l i).number → n ≤ (item_at l i).number - r → (k : ℕ) → k < n → test (r + k) i ≡ false
  past g h k m = only (r + k) i (λ q. absurd (omega arith))

  fails : test (item_at l i).number i ≡ false → (k : ℕ) → k < n → test (r + k) i ≡ false
  fails y k m =
      ⊎_elim
      (λ (q : (item_at l i).number ≡ r + k). ap (λ (x : ℕ). test x i) (sym q) ∙ y)
      (λ (q : (item_at l i).number ≡ r + k → ⊥). only (r + k) i q)
      (equal? (item_at l i).number (r + k))

-- ---- others' locks

module _ (l : LockList) (p : ℕ) (f : File) (r : ℕ) where
  -- the first i places have another's lock of record k of the run
  unfoldable pub others_to : ℕ → ℕ → Bool
  others_to i k = any (is_others_lock l p f (r + k)) i

  module _ (n : ℕ) where
    pub others_none : lowest (others_to 0) n ≡ n
    unfolding others_to
    others_none = lowest_none (others_to 0) n (any_never (others_to 0) n (λ k m. any_none (is_others_lock l p f (r + k))))

    pub others_all : lowest (is_others l p f r) n ≡ lowest (others_to 64) n
    unfolding is_others locked_by_other others_to
    others_all = refl

    module _ (i : ℕ) where
      -- one place more: none before the first so far is locked there, ..
      stays : ((k : ℕ) → k < lowest (others_to i) n → is_others_lock l p f (r + k) i ≡ false) → lowest (others_to (i + 1)) n ≡ lowest (others_to i) n
      unfolding others_to
      stays h =
          let m = lowest (others_to i) n in
          let none : any (others_to (i + 1)) m ≡ false = any_never (others_to (i + 1)) m
          (λ k j. any_goes (is_others_lock l p f (r + k)) i (lowest_least (others_to i) n k j) (h k j)) in
          let w = lowest_within (others_to i) n in
          ⊎_elim
          (λ (q : m ≡ n). lowest_none (others_to (i + 1)) n (ap (any (others_to (i + 1))) (sym q) ∙ none) ∙ sym q)
          (λ (q : m ≡ n → ⊥).
          lowest_found (others_to (i + 1)) n m (omega arith) none (any_stays (is_others_lock l p f (r + m)) i (lowest_holds (others_to i) n (omega arith))))
          (equal? m n)

      pub others_low : (item_at l i).number < r → lowest (others_to (i + 1)) n ≡ lowest (others_to i) n
      others_low h = stays (below l (is_others_lock l p f) (others_not l p f) r (lowest (others_to i) n) i h)

      pub others_high : r ≤ (item_at l i).number → lowest (others_to i) n ≤ (item_at l i).number - r → lowest (others_to (i + 1)) n ≡ lowest (others_to i) n
      others_high g h = stays (past l (is_others_lock l p f) (others_not l p f) r (lowest (others_to i) n) i g h)

      pub others_fail : is_others_lock l p f (item_at l i).number i ≡ false → lowest (others_to (i + 1)) n ≡ lowest (others_to i) n
      others_fail h = stays (fails l (is_others_lock l p f) (others_not l p f) r (lowest (others_to i) n) i h)

      -- .. or this one is the first
      pub others_here : is_others_lock l p f (item_at l i).number i ≡ true → r ≤ (item_at l i).number → (item_at l i).number - r < lowest (others_to i) n
          → lowest (others_to (i + 1)) n ≡ (item_at l i).number - r
      unfolding others_to
      others_here y g h =
          let k = (item_at l i).number - r in
          let q : (item_at l i).number ≡ r + k = omega arith in
          let w = lowest_within (others_to i) n in
          lowest_found (others_to (i + 1)) n k (omega arith)
          (any_never (others_to (i + 1)) k
          (λ j d. any_goes (is_others_lock l p f (r + j)) i (lowest_least (others_to i) n j (omega arith)) (others_not l p f (r + j) i (λ z. absurd (omega arith)))))
          (any_here (is_others_lock l p f (r + k)) i (ap (λ (x : ℕ). is_others_lock l p f x i) (sym q) ∙ y))

pub ruleset others = (others_none, others_low, others_high, others_fail, others_here, others_all)

-- ---- one's own

tab_set : (f g : ℕ → Bool) (n j : ℕ) → j < n → g j ≡ true → ((k : ℕ) → k < n → (k ≡ j → ⊥) → g k ≡ f k) → tab g n ≡ set (tab f n) j true
tab_set f g n j m y h =
    let w : j < length (tab f n) = omega (arith, length-tab f n) in
    tab_ext g (λ (k : ℕ). get_or (set (tab f n) j true) k false) n
    (λ k d. ⊎_elim
    (λ (q : k ≡ j). ap g q ∙ y ∙ sym (ap (λ (x : ℕ). get_or (set (tab f n) j true) x false) q ∙ get_or-set_same (tab f n) j true false w))
    (λ (q : k ≡ j → ⊥). h k d q ∙ sym (get_or-set_other (tab f n) j k true false q ∙ tab_at f n k false d)) (equal? k j))
    ∙ tab_get_d (set (tab f n) j true) false n (length-set (tab f n) j true ∙ length-tab f n)

module _ (l : LockList) (p : ℕ) (f : File) (r n : ℕ) where
  -- record k of the run is one of the n, and the first i places show that the process holds it
  unfoldable pub held_to : ℕ → ℕ → Bool
  held_to i k = ltb k n and any (is_own_lock l p f (r + k)) i

  pub held_none : tab (held_to 0) 16 ≡ replicate 16 false
  unfolding held_to any
  held_none = sym (tab_same (held_to 0) 16 false (λ k m. and_false (ltb k n)))

  module _ (i : ℕ) where
    same : ((k : ℕ) → k < n → is_own_lock l p f (r + k) i ≡ false) → tab (held_to (i + 1)) 16 ≡ tab (held_to i) 16
    unfolding held_to
    same h =
        tab_ext (held_to (i + 1)) (held_to i) 16
        (λ k m. ⊎_elim
        (λ (q : ltb k n ≡ true). ap (λ (t : Bool). ltb k n and t) (any_skip (is_own_lock l p f (r + k)) i (h k (ltb-true k n q))))
        (λ (q : ltb k n ≡ false). and_left _ _ q ∙ sym (and_left _ _ q)) (either (ltb k n)))

    pub held_low : (item_at l i).number < r → tab (held_to (i + 1)) 16 ≡ tab (held_to i) 16
    held_low h = same (below l (is_own_lock l p f) (own_not l p f) r n i h)

    pub held_high : r ≤ (item_at l i).number → n ≤ (item_at l i).number - r → tab (held_to (i + 1)) 16 ≡ tab (held_to i) 16
    held_high g h = same (past l (is_own_lock l p f) (own_not l p f) r n i g h)

    pub held_fail : is_own_lock l p f (item_at l i).number i ≡ false → tab (held_to (i + 1)) 16 ≡ tab (held_to i) 16
    held_fail h = same (fails l (is_own_lock l p f) (own_not l p f) r n i h)

    pub held_here : is_own_lock l p f (item_at l i).number i ≡ true → n ≤ 16 → r ≤ (item_at l i).number → (item_at l i).number - r < n
        → tab (held_to (i + 1)) 16 ≡ set (tab (held_to i) 16) ((item_at l i).number - r) true
    unfolding held_to
    held_here y few g h =
        let j = (item_at l i).number - r in
        let z : (item_at l i).number ≡ r + j = omega arith in
        tab_set (held_to i) (held_to (i + 1)) 16 j (omega arith)
        (and_both _ _ (lt-ltb j n h) (any_here (is_own_lock l p f (r + j)) i (ap (λ (x : ℕ). is_own_lock l p f x i) (sym z) ∙ y)))
        (λ k m q. ap (λ (t : Bool). ltb k n and t) (any_skip (is_own_lock l p f (r + k)) i (own_not l p f (r + k) i (λ v. absurd (q (omega arith))))))

  -- those not marked are the new ones
  pub new_told : (found : ℕ) (marks : List Bool) → n ≤ 16 → marks ≡ tab (held_to 64) 16 → found ≡ length (filter not (take n marks))
      → (found ≡ count (is_new l p f r) n) × (found ≤ n)
  unfolding held_to is_new held ◌and◌
  new_told found marks few e c =
      let q : found ≡ count (is_new l p f r) n =
      c ∙ length-filter not (take n marks)
      ∙ count_front not (is_new l p f r) false marks n (omega (arith, ap length e, length-tab (held_to 64) 16))
      (λ k m. ap (λ (t : List Bool). not (get_or t k false)) e ∙ ap not (tab_at (held_to 64) 16 k false (omega arith)) ∙ rw (lt-ltb k n m)) in
      (q, let w = count_within (is_new l p f r) n in omega arith)

pub ruleset marks = (held_none, held_low, held_high, held_fail, held_here)
