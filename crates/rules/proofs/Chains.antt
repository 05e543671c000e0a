-- What the chains over a list answer, told place by place. Assumes nothing.
use Rattle.std.proofs.Common.{◌≡◌, ℕ, zero, suc, ◌+◌, ◌≤◌, ◌<◌, Bool, true, false, ◌&&◌, ◌||◌, List, map, length, get_or, take, refl, sym, ap, subst, ◌∙◌, arith, add-one, ⊎_elim, count_by}
use Rattle.std.specs.List.{list_any, list_all, position_or_len}
use Rattle.std.proofs.lemmas.List.{take_all, length-map}
use Rattle.std.proofs.lemmas.List.Folds.{list_any_more, list_all_more}
use Rattle.std.proofs.lemmas.List.Sums.{count_by_more_yes, count_by_more_no, position_or_len_is}
use Rattle.words.specs.Tests.{◌and◌, ◌or◌, all, any, lowest, count}
use Rattle.words.proofs.Lists.{tab_ext, tab_get_d, map_at}
use Rattle.words.proofs.Tests.{either, equal?, lowest_within, lowest_holds, lowest_least}
use Rattle.words.proofs.Counts.{count_yes, count_not}

or_same : (a b : Bool) → (a || b) ≡ (a or b)
unfolding ◌or◌
or_same true b = refl
or_same false b = refl

and_same : (a b : Bool) → (a && b) ≡ (a and b)
unfolding ◌and◌
and_same true b = refl
and_same false b = refl

-- f says of each of the first n places what the test t does of the element there
module _ {A : Type 0} (t : A → Bool) (f : ℕ → Bool) (d : A) (xs : List A) where
  any_front : (n : ℕ) → n ≤ length xs → ((k : ℕ) → k < n → t (get_or xs k d) ≡ f k) → list_any t (take n xs) ≡ any f n
  unfolding any
  any_front zero m h = refl
  any_front (suc n) m h =
      ap (λ (k : ℕ). list_any t (take k xs)) (sym (add-one n)) ∙ list_any_more t xs n d (omega arith)
      ∙ rw (any_front n (omega arith) (λ k l. h k (omega arith)), h n (omega arith)) (or_same (any f n) (f n))

  pub any_all : (n : ℕ) → length xs ≡ n → ((k : ℕ) → k < n → t (get_or xs k d) ≡ f k) → list_any t xs ≡ any f n
  any_all n e h = ap (list_any t) (sym (take_all n xs (omega arith))) ∙ any_front n (omega arith) h

  all_front : (n : ℕ) → n ≤ length xs → ((k : ℕ) → k < n → t (get_or xs k d) ≡ f k) → list_all t (take n xs) ≡ all f n
  unfolding all
  all_front zero m h = refl
  all_front (suc n) m h =
      ap (λ (k : ℕ). list_all t (take k xs)) (sym (add-one n)) ∙ list_all_more t xs n d (omega arith)
      ∙ rw (all_front n (omega arith) (λ k l. h k (omega arith)), h n (omega arith)) (and_same (all f n) (f n))

  pub all_all : (n : ℕ) → length xs ≡ n → ((k : ℕ) → k < n → t (get_or xs k d) ≡ f k) → list_all t xs ≡ all f n
  all_all n e h = ap (list_all t) (sym (take_all n xs (omega arith))) ∙ all_front n (omega arith) h

  pub count_front : (n : ℕ) → n ≤ length xs → ((k : ℕ) → k < n → t (get_or xs k d) ≡ f k) → count_by t (take n xs) ≡ count f n
  unfolding count
  count_front zero m h = refl
  count_front (suc n) m h =
      let e = h n (omega arith) in
      let c = count_front n (omega arith) (λ k l. h k (omega arith)) in
      ap (λ (k : ℕ). count_by t (take k xs)) (sym (add-one n)) ∙
      ⊎_elim
      (λ (q : f n ≡ true). count_by_more_yes t xs n d (omega arith) (e ∙ q) ∙ rw c (sym (count_yes f n q)))
      (λ (q : f n ≡ false). count_by_more_no t xs n d (omega arith) (e ∙ q) ∙ c ∙ sym (count_not f n q))
      (either (f n))

  pub count_all : (n : ℕ) → length xs ≡ n → ((k : ℕ) → k < n → t (get_or xs k d) ≡ f k) → count_by t xs ≡ count f n
  count_all n e h = ap (count_by t) (sym (take_all n xs (omega arith))) ∙ count_front n (omega arith) h

  pub position_all : (n : ℕ) → length xs ≡ n → ((k : ℕ) → k < n → t (get_or xs k d) ≡ f k) → position_or_len t xs ≡ lowest f n
  position_all n e h =
      let w = lowest_within f n in
      position_or_len_is t xs (lowest f n) d (omega arith) (λ k l. h k (omega arith) ∙ lowest_least f n k l)
      (λ l. h (lowest f n) (omega arith) ∙ lowest_holds f n (omega arith))
