-- Items: names and files compared, and two that clash. Assumes nothing.
use Rattle.std.proofs.Common.{ℕ, ◌≤◌, ◌<◌, ◌≡◌, refl, sym, subst, ◌∙◌, Bool, true, false, not, ◌&&◌, List, length, get_or, eqb, ⊎_elim, arith, eqb-true, eq-eqb, ne_eqb}
use Rattle.std.proofs.lemmas.Bool.{eqb-false, not-true}
use Rattle.std.specs.Cmp.Lexicographic.{pointwise, bytes_decides}
use Rattle.std.specs.Int.{from_bool}
use Rattle.words.specs.Tests.{◌and◌, ◌or◌, ◌if◌else◌}
use Rattle.words.specs.Bytes.{byte, same_byte}
use Rattle.words.proofs.Tests.{either, fails_too, same_test, all_at, all_make, and_fst, and_snd, or_so, or_case}
use Rattle.words.proofs.Lists.{tab_ext, tab_get_d}
use Rattle.words.proofs.Sets.{and_both, and_left, or_left, not_of_false, not_of_true}
use Rattle.rules.specs.declared.file.File.{File}
use Rattle.rules.specs.declared.item.Item.{Item}
use Rattle.rules.specs.declared.list.LockList.{LockList}
use Rattle.rules.specs.Locks.{item_at, same_name, same_file, opens_name, stand_beside, clash, clash_at}

-- ---- a test as a number

pub one_is : (t : Bool) → from_bool t ≡ (1 if t else 0)
unfolding ◌if◌else◌
one_is true = refl
one_is false = refl

pub one_most : (t : Bool) → from_bool t ≤ 1
one_most true = omega arith
one_most false = omega arith

pub ruleset one_tested = (one_is, one_most)

-- ---- names and files

module _ (a b : List ℕ) where
  pub name_so : ((k : ℕ) → k < 11 → byte a k ≡ byte b k) → same_name a b ≡ true
  unfolding same_name same_byte
  name_so h = all_make (same_byte a b) 11 (λ k l. eq-eqb _ _ (h k l))

  pub name-at : same_name a b ≡ true → (k : ℕ) → k < 11 → byte a k ≡ byte b k
  unfolding same_name same_byte
  name-at h k l = eqb-true _ _ (all_at (same_byte a b) 11 k h l)

pub name_refl : (a : List ℕ) → same_name a a ≡ true
name_refl a = name_so a a (λ k l. refl)

pub name_sym : (a b : List ℕ) → same_name a b ≡ true → same_name b a ≡ true
name_sym a b h = name_so b a (λ k l. sym (name-at a b h k l))

pub name_then : (a b c : List ℕ) → same_name a b ≡ true → same_name b c ≡ true → same_name a c ≡ true
name_then a b c h g = name_so a c (λ k l. name-at a b h k l ∙ name-at b c g k l)

pub name_is : (a b : List ℕ) → length a ≡ 11 → length b ≡ 11 → same_name a b ≡ true → a ≡ b
name_is a b l m h =
    sym (tab_get_d a 0 11 l) ∙ tab_ext (λ (k : ℕ). get_or a k 0) (λ (k : ℕ). get_or b k 0) 11 (λ k j. name-at a b h k j) ∙ tab_get_d b 0 11 m

-- .. and what `==` answers of two arrays of eleven bytes
pub name_tested : (a b : List ℕ) → length a ≡ 11 → length b ≡ 11 → pointwise eqb a b ≡ same_name a b
name_tested a b l m =
    let both = bytes_decides a b in
    same_test _ _ (λ h. subst (λ (x : List ℕ). same_name a x ≡ true) (both.0 h) (name_refl a)) (λ h. both.1 (name_is a b l m h))

pub file_is : (f g : File) → length f.name ≡ 11 → length g.name ≡ 11 → same_file f g ≡ true → f ≡ g
unfolding same_file
file_is f g l m h =
    let u = eqb-true _ _ (and_fst _ _ h) in
    let n = name_is f.name g.name l m (and_snd _ _ h) in
    λ i. record { user = u i; name = n i }

-- .. and what `==` answers of two files
both_tested : (x y z : Bool) → y ≡ z → (x && y) ≡ (x and z)
unfolding ◌and◌
both_tested true y z h = h
both_tested false y z h = refl

pub file_tested : (f g : File) → length f.name ≡ 11 → length g.name ≡ 11 → (eqb f.user g.user && pointwise eqb f.name g.name) ≡ same_file f g
unfolding same_file
file_tested f g l m = both_tested _ _ _ (name_tested f.name g.name l m)

pub file_refl : (f : File) → same_file f f ≡ true
unfolding same_file
file_refl f = and_both _ _ (eq-eqb f.user f.user refl) (name_refl f.name)

pub file_sym : (f g : File) → same_file f g ≡ true → same_file g f ≡ true
unfolding same_file
file_sym f g h = and_both _ _ (eq-eqb g.user f.user (sym (eqb-true f.user g.user (and_fst _ _ h)))) (name_sym f.name g.name (and_snd _ _ h))

-- ---- two items of one file

module _ (a b : Item) where
  beside-sym : stand_beside a b ≡ true → stand_beside b a ≡ true
  unfolding stand_beside
  beside-sym h =
      let m : a.mode ≡ b.mode = eqb-true _ _ (and_fst _ _ (and_snd _ _ h)) in
      and_both _ _ (not_of_false _ (ne_eqb b.process a.process (λ q. eqb-false a.process b.process (not-true _ (and_fst _ _ h)) (sym q))))
      (and_both _ _ (eq-eqb _ _ (sym m)) (rw m at (and_snd _ _ (and_snd _ _ h))))

pub clash-sym : (a b : Item) → clash a b ≡ true → clash b a ≡ true
unfolding clash
clash-sym a b h =
    ⊎_elim
    (λ (q : (eqb a.kind 1 and eqb b.kind 1 and not (stand_beside a b)) ≡ true).
    let y = and_snd _ _ q in
    or_left _ _ (and_both _ _ (and_fst _ _ y) (and_both _ _ (and_fst _ _ q)
    (not_of_false _ (fails_too (stand_beside a b) (stand_beside b a) (beside-sym b a) (not-true _ (and_snd _ _ y)))))))
    (λ (q : (eqb a.kind 1 and eqb b.kind 1 and not (stand_beside a b)) ≡ false).
    let x = or_so _ _ h q in
    let y = and_snd _ _ x in
    or_case _ _ (λ z. and_both _ _ (and_fst _ _ y) (and_both _ _ (and_fst _ _ x)
    (eq-eqb b.number a.number (sym (eqb-true a.number b.number (and_snd _ _ y)))))))
    (either (eqb a.kind 1 and eqb b.kind 1 and not (stand_beside a b)))

pub clash_at-sym : (l : LockList) (i j : ℕ) → clash_at l i j ≡ true → clash_at l j i ≡ true
unfolding clash_at
clash_at-sym l i j h =
    and_both _ _ (clash-sym (item_at l i) (item_at l j) (and_fst _ _ h)) (file_sym _ _ (and_snd _ _ h))

-- an empty place clashes with nothing
pub clash_none : (a b : Item) → a.kind ≡ 0 → clash a b ≡ false
unfolding clash ◌and◌ ◌or◌
clash_none a b h = rw h refl

pub clash_no : (a b : Item) → b.kind ≡ 0 → clash a b ≡ false
clash_no a b h = fails_too (clash b a) (clash a b) (clash-sym a b) (clash_none b a h)

-- two opens of one file by one process clash
pub clash_opens : (a b : Item) → a.kind ≡ 1 → b.kind ≡ 1 → a.process ≡ b.process → clash a b ≡ true
unfolding clash stand_beside
clash_opens a b h k p =
    or_left _ _ (and_both _ _ (eq-eqb _ _ h) (and_both _ _ (eq-eqb _ _ k) (not_of_false _ (and_left _ _ (not_of_true _ (eq-eqb _ _ p))))))

-- ---- an open of a name

pub record IsOpen (p : ℕ) (name : List ℕ) (it : Item) : Type 0 where
  pub kind_one : it.kind ≡ 1
  pub by : it.process ≡ p
  pub named : same_name it.name name ≡ true

pub open_is : (p : ℕ) (name : List ℕ) (it : Item) → opens_name p name it ≡ true → IsOpen p name it
unfolding opens_name
open_is p name it h = record {
  kind_one = eqb-true _ _ (and_fst _ _ h);
  by = eqb-true _ _ (and_fst _ _ (and_snd _ _ h));
  named = and_snd _ _ (and_snd _ _ h);
}

pub open_so : (p : ℕ) (name : List ℕ) (it : Item) → IsOpen p name it → opens_name p name it ≡ true
unfolding opens_name
open_so p name it h = and_both _ _ (eq-eqb _ _ h.kind_one) (and_both _ _ (eq-eqb _ _ h.by) h.named)
