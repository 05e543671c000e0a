-- Laws of counting each process's items in one pass. Assumes nothing.
use Rattle.std.proofs.Common.{◌≡◌, ℕ, ◌+◌, ◌≤◌, ◌<◌, true, false, List, length, get_or, set, replicate, leb, eqb, refl, sym, ap, ◌∙◌, ⊎_elim, add-one, arith, eq-eqb, ne_eqb, eqb-true, ltb}
use Rattle.std.proofs.Math.Seq.{get_or-set_same, get_or-set_other}
use Rattle.std.proofs.Math.ListN.{length-set}
use Rattle.std.specs.List.{list_all}
use Rattle.words.specs.Tests.{◌and◌, ◌if◌else◌, all, count}
use Rattle.std.proofs.lemmas.Bool.{ltb-true, ltb-false, lt-ltb}
use Rattle.words.proofs.Tests.{either, equal?, fails_too, and_fst, and_snd, all_ext}
use Rattle.words.proofs.Bytes.{past_end}
use Rattle.words.proofs.Counts.{count_within, count_up, count_yes, count_not}
use Rattle.words.proofs.Lists.{tab_at, tab_ext, tab_same, tab_get_d, length-tab}
use Rattle.words.proofs.Sets.{and_left, and_last, and_right, and_both, choices}
use Rattle.rules.specs.declared.list.LockList.{LockList}
use Rattle.rules.specs.Locks.{item_at, unpack, is_kind_by, is_kind_by_at, opens_by, locks_by, keeps_limits}
use Rattle.locklist.specs.Places.{Unused}
use Rattle.locklist.proofs.Places.{unused_item}
use Rattle.listcheck.specs.Check.{count_of, count_item, counted, at_most, keeps_kind}
use Rattle.rules.proofs.Chains.{all_all}
use Rattle.listcheck.proofs.Checks.{all_both}

module _ (l : LockList) (kind : ℕ) where
  pub counted_none : replicate 16 0 ≡ counted l kind 0
  unfolding counted count_of count
  counted_none = tab_same (count_of l kind 0) 16 0 (λ k h. refl)

  module _ (i : ℕ) where
    -- one place more, of which a process has an item or not
    skip : (p : ℕ) → is_kind_by_at l kind p i ≡ false → count_of l kind (i + 1) p ≡ count_of l kind i p
    unfolding count_of
    skip p e = rw add-one (count_not (is_kind_by_at l kind p) i e)

    take_one : (p : ℕ) → is_kind_by_at l kind p i ≡ true → count_of l kind (i + 1) p ≡ count_of l kind i p + 1
    unfolding count_of
    take_one p e = rw add-one (count_yes (is_kind_by_at l kind p) i e)

    -- .. by whether the item there is one of its own
    pub counted_more : counted l kind (i + 1) ≡ count_item kind (item_at l i) (counted l kind i)
    unfolding counted count_item is_kind_by_at is_kind_by ◌if◌else◌
    counted_more =
        let it = item_at l i in
        let q = it.process in
        let c : List ℕ = counted l kind i in
        let at : (p : ℕ) → p < 16 → get_or c p 0 ≡ count_of l kind i p = λ p m. tab_at (count_of l kind i) 16 p 0 m in
        let long : length c ≡ 16 = length-tab (count_of l kind i) 16 in
        ⊎_elim
        (λ (y : (eqb it.kind kind and ltb q 16) ≡ true).
        let k : eqb it.kind kind ≡ true = and_fst _ _ y in
        let w : q < 16 = ltb-true q 16 (and_snd _ _ y) in
        rw y (tab_ext _ (λ (p : ℕ). get_or (set c q (get_or c q 0 + 1)) p 0) 16
        (λ p m. ⊎_elim
        (λ (e : p ≡ q).
        take_one p (and_both _ _ k (eq-eqb _ _ (sym e))) ∙ ap (λ (j : ℕ). j + 1) (sym (at p m) ∙ ap (λ (j : ℕ). get_or c j 0) e)
        ∙ sym (get_or-set_same c q (get_or c q 0 + 1) 0 (omega arith)) ∙ ap (λ (j : ℕ). get_or (set c q (get_or c q 0 + 1)) j 0) (sym e))
        (λ (e : p ≡ q → ⊥).
        skip p (and_right _ _ k (ne_eqb q p (λ z. e (sym z)))) ∙ sym (at p m) ∙ sym (get_or-set_other c q p (get_or c q 0 + 1) 0 e))
        (equal? p q))
        ∙ tab_get_d (set c q (get_or c q 0 + 1)) 0 16 (length-set c q (get_or c q 0 + 1) ∙ long)))
        (λ (n : (eqb it.kind kind and ltb q 16) ≡ false).
        rw n (tab_ext _ _ 16 (λ p m. skip p (fails_too (eqb it.kind kind and ltb q 16) _
        (λ h. and_both _ _ (and_fst _ _ h) (lt-ltb q 16 (let z = eqb-true q p (and_snd _ _ h) in omega arith))) n))))
        (either (eqb it.kind kind and ltb q 16))

    -- a count is at most the number of places
    pub counted_fits : (p : ℕ) → get_or (counted l kind i) p 0 ≤ i
    unfolding counted count_of
    counted_fits p =
        ⊎_elim
        (λ (y : ltb p 16 ≡ true). rw (tab_at (count_of l kind i) 16 p 0 (ltb-true p 16 y)) (count_within (is_kind_by_at l kind p) i))
        (λ (n : ltb p 16 ≡ false). let z : get_or (counted l kind i) p 0 ≡ 0 = sym (past_end (counted l kind i) 16 p (length-tab (count_of l kind i) 16) (ltb-false p 16 n)) in omega arith)
        (either (ltb p 16))

  keeps_kind_as : (most : ℕ) → all (at_most (counted l kind 64) most) 16 ≡ all (keeps_kind l kind most) 16
  unfolding at_most keeps_kind counted count_of
  keeps_kind_as most = all_ext _ _ 16 (λ p m. ap (λ (n : ℕ). leb n most) (tab_at (count_of l kind 64) 16 p 0 m))

-- the places from n on are not used: nothing is counted there
pub counted_up : (list : List ℕ) (kind n : ℕ) → 0 < kind → Unused list n → counted (unpack list) kind n ≡ counted (unpack list) kind 64
unfolding counted count_of is_kind_by_at is_kind_by
counted_up list kind n z u =
    tab_ext _ _ 16 (λ p h. sym (count_up (is_kind_by_at (unpack list) kind p) n 64 (omega (arith, u.within))
    (λ k a b. rw (unused_item list n k u (omega arith) b) (and_left _ _ (ne_eqb 0 kind (λ q. absurd (omega arith)))))))

-- ---- both limits

pub mosts : (c : List ℕ) (most : ℕ) → length c ≡ 16 → all (at_most c most) 16 ≡ list_all (λ (n : ℕ). leb n most) c
unfolding at_most
mosts c most h = sym (all_all (λ (n : ℕ). leb n most) (at_most c most) 0 c 16 h (λ k l. refl))

pub keeps_as : (l : LockList)
    → all (keeps_limits l) 16 ≡ (all (at_most (counted l 1 64) l.openlimit) 16 and all (at_most (counted l 2 64) l.locklimit) 16)
unfolding keeps_limits keeps_kind opens_by locks_by
keeps_as l =
    all_both (keeps_limits l) (keeps_kind l 1 l.openlimit) (keeps_kind l 2 l.locklimit) 16 (λ p. refl)
    ∙ rw (keeps_kind_as l 1 l.openlimit, keeps_kind_as l 2 l.locklimit) refl

pub ruleset limits = (choices, counted_none, counted_more, counted_fits, counted_up, keeps_as)
