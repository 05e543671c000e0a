-- Names that `==` compares. Assumes nothing.
use Rattle.std.proofs.Common.{◌≡◌, ℕ, zero, suc, ◌≤◌, ◌<◌, Bool, true, false, ◌&&◌, ◌||◌, List, length, get_or, take, refl, sym, ap, ◌∙◌, add-one, arith, eqb, eq-eqb, eqb-true}
use Rattle.std.specs.List.{list_all, list_any}
use Rattle.std.proofs.lemmas.List.{take_all}
use Rattle.std.proofs.lemmas.List.Folds.{list_all_more, list_any_more}
use Rattle.std.specs.Cmp.Lexicographic.{pointwise}
use Rattle.words.specs.Tests.{◌and◌, ◌or◌, all, any}
use Rattle.words.specs.Bytes.{same_byte}
use Rattle.words.proofs.Tests.{all_at, all_ext, any_ext, all_make, same_test}
use Rattle.words.proofs.Lists.{tab_ext, tab_get_d}
use Rattle.words.proofs.Sets.{choices}
use Rattle.rules.specs.Locks.{same_name}
use lib.Pointwise.{bytes_decides}

pub names_compared : (a b : List ℕ) → length a ≡ 11 → length b ≡ 11 → pointwise eqb a b ≡ same_name a b
unfolding same_name same_byte
names_compared a b la lb =
    same_test _ _
    (λ h. all_make (same_byte a b) 11 (λ k l. eq-eqb _ _ (ap (λ (x : List ℕ). get_or x k 0) ((bytes_decides a b).0 h))))
    (λ h. (bytes_decides a b).1 (sym (tab_get_d a 0 11 la) ∙ tab_ext _ _ 11 (λ k l. eqb-true _ _ (all_at (same_byte a b) 11 k h l)) ∙ tab_get_d b 0 11 lb))

pub ruleset files = (choices, names_compared)
