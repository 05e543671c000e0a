-- Laws of Start. Assumes nothing.
use Rattle.std.proofs.Common.{ℕ, ◌≤◌, ◌≡◌, refl, sym, ap, ◌∙◌, Bool, true, false, List, [], ◌∷◌, ◌++◌, length, replicate, leb, Result, Ok, Err, leb-true, eqb-true}
use Rattle.std.proofs.lemmas.Bool.{not-false}
use Rattle.words.specs.Tests.{◌if◌else◌}
use Rattle.words.specs.Lists.{tab, flat}
use Rattle.words.specs.Bytes.{byte_from, le}
use Rattle.words.specs.Tables.{first_of}
use Rattle.words.proofs.Tests.{and_snd, or_fst, or_snd}
use Rattle.locklist.proofs.Packs.{sixteen}
use Rattle.rules.specs.declared.code.Refusal.{Refusal}
use Rattle.rules.specs.declared.code.Refusal.TheVariants.{BadCall}
use Rattle.rules.specs.Refusals.{answer_of}
use Rattle.rules.specs.declared.kind.Kind.{Kind}
use Rattle.rules.specs.Kinds.{entries}
use Rattle.rules.specs.Locks.{empty_place, first_mark, second_mark, pack_item, pack, is_limit, is_rule, bad_start, rows_start, fresh_list, Started, start_ends, start}
use Rattle.locklist.specs.Start.{DidStart, MayStart}

limit_fits : (n : ℕ) → is_limit n ≡ true → n ≤ 64
unfolding is_limit
limit_fits n h = leb-true n 64 (and_snd (leb 1 n) (leb n 64) h)

rule_fits : (u : ℕ) → is_rule u ≡ true → u ≤ 1
unfolding is_rule
rule_fits u h = leb-true u 1 h

module _ (c o k u : ℕ) (users list : List ℕ) where
  pub may_start : bad_start c o k u users list ≡ false → MayStart c o k u users list
  unfolding bad_start
  may_start h =
      let h₁ = or_snd _ _ h in
      let h₂ = or_snd _ _ h₁ in
      let h₃ = or_snd _ _ h₂ in
      let h₄ = or_snd _ _ h₃ in
      record {
        capacity_fits = limit_fits c (not-false _ (or_fst _ _ h));
        opens_fit = limit_fits o (not-false _ (or_fst _ _ h₁));
        locks_fit = limit_fits k (not-false _ (or_fst _ _ h₂));
        rule_fits = rule_fits u (not-false _ (or_fst _ _ h₃));
        users_long = eqb-true _ _ (not-false _ (or_fst _ _ h₄));
        list_long = eqb-true _ _ (not-false _ (or_snd _ _ (or_snd _ _ h₄)));
      }

-- what a test refuses
abbrev refused_if : Bool → Result (Unit {0}) Refusal
refused_if t = Err BadCall if t else Ok tt

told_err : (t : Bool) (e : Refusal) → Err e ≡ refused_if t → (t ≡ true) × (e ≡ BadCall)
unfolding ◌if◌else◌
told_err true e h = (refl, cc)
told_err false e h = cc

told_ok : (t : Bool) (x : Unit {0}) → Ok x ≡ refused_if t → t ≡ false
unfolding ◌if◌else◌
told_ok true x h = cc
told_ok false x h = refl

module _ (kind : Kind) (c o k u : ℕ) (users list : List ℕ) where
  pub start_refused : (r : Result (Unit {0}) Refusal) (e : Refusal) → r ≡ Err e → Err e ≡ refused_if (bad_start c o k u users list)
      → DidStart (start kind c o k u users list) (answer_of r) list
  unfolding start start_ends rows_start first_of ◌if◌else◌
  start_refused r e q h =
      let w = told_err (bad_start c o k u users list) e h in
      rw (q, w.1, w.0) (record { gives = refl; leaves = refl })

  pub start_begun : (t : List ℕ) (x : Unit {0}) → Ok x ≡ refused_if (bad_start c o k u users list) → t ≡ fresh_list kind c o k u users
      → DidStart (start kind c o k u users list) 0 t
  unfolding start start_ends rows_start first_of ◌if◌else◌
  start_begun t x h e = rw (told_ok (bad_start c o k u users list) x h) (record { gives = refl; leaves = e })

-- 64 empty places in bytes
empty_places : flat pack_item (replicate 64 empty_place) ≡ replicate 1280 0
unfolding flat pack_item first_mark second_mark tab le ◌if◌else◌
empty_places = refl

-- a list with no item and all positions at the end, packed
pub fresh_packed : (kind : Kind) (c o k u n : ℕ) (users w t : List ℕ) → length users ≡ 16 → w ≡ tab (byte_from users 0) 16 → n ≡ entries kind
    → t ≡ pack (record { capacity = c; openlimit = o; locklimit = k; users = w; items = replicate 64 empty_place; positions = replicate 16 n; rule = u })
    → t ≡ fresh_list kind c o k u users
unfolding pack fresh_list
fresh_packed kind c o k u n users w t long e d h =
    let q : w ≡ users = e ∙ sixteen users long in
    let places : List ℕ = flat pack_item (replicate 64 empty_place) in
    let next : List ℕ = tab (byte_from (replicate 16 n) 0) 16 ++ (u ∷ []) in
    h ∙ ap (λ (v : List ℕ). c ∷ o ∷ k ∷ (tab (byte_from v 0) 16 ++ (places ++ next))) q
    ∙ ap (λ (v : List ℕ). c ∷ o ∷ k ∷ (v ++ (places ++ next))) (sixteen users long)
    ∙ ap (λ (v : List ℕ). c ∷ o ∷ k ∷ (users ++ (v ++ next))) empty_places
    ∙ ap (λ (v : List ℕ). c ∷ o ∷ k ∷ (users ++ (replicate 1280 0 ++ (v ++ (u ∷ []))))) (sixteen (replicate 16 n) refl)
    ∙ ap (λ (m : ℕ). c ∷ o ∷ k ∷ (users ++ (replicate 1280 0 ++ (replicate 16 m ++ (u ∷ []))))) d

-- two outcomes of one start are equal
pub start_one : (o : Started) (a b : ℕ) (s t : List ℕ) → DidStart o a s → DidStart o b t → (a ≡ b) × (s ≡ t)
start_one o a b s t d e = (d.gives ∙ sym e.gives, d.leaves ∙ sym e.leaves)
