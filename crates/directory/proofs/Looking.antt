-- What one more entry adds to what looking up a file has found. Assumes nothing.
use Rattle.std.proofs.Common.{ℕ, ◌+◌, ◌≤◌, ◌<◌, ◌≡◌, refl, sym, ap, ◌∙◌, Bool, true, false, not, List, ⊎_elim, arith, leb, ltb, eqb, rules, ltb-true, ltb-false, leb-true, leb-false, eqb-true}
use borrow.Author.Tests.{eqb-false, not-true, not-false}
use Rattle.words.specs.Tests.{◌and◌, ◌if◌else◌, greatest, lowest_or}
use Rattle.words.proofs.Tests.{either, and_fst, and_snd, and_rest}
use Rattle.words.proofs.Greatest.{or_skip, or_kept, or_any, or_found, or_within, or_ends, greatest_skip, greatest_kept, greatest_new, is_not, is_other, is_so}
use Rattle.words.proofs.Greatest.{first_skip, first_kept, first_more, greatest_first, first_first}
use Rattle.rules.specs.declared.kind.Kind.{Kind}
use Rattle.rules.specs.declared.file.File.{File}
use Rattle.rules.specs.declared.file.Found.{Found}
use Rattle.rules.specs.Kinds.{entries}
use Rattle.rules.specs.Drive.{extent_at, is_of, is_entry, entry_of, highest_extent, look_up}
use Rattle.rules.proofs.Sound.{entry_splits}
use Rattle.directory.specs.Looking.{found, highest_to, found_to}

-- nothing found before the first entry
pub found_none : (none : ℕ) (s : List ℕ) (f : File) → found none 0 none ≡ found_to none s f 0
unfolding found_to highest_to greatest lowest_or Rattle.words.specs.Tests.any ◌if◌else◌
found_none none s f = refl

-- two that have all three in common are the same
same_found : {a b c x y z : ℕ} → a ≡ x → b ≡ y → c ≡ z → found a b c ≡ found x y z
same_found h k l = rw (h, k, l) refl

-- after the last, what the look-up tells; ..
pub found_ends : (kind : Kind) (s : List ℕ) (f : File) (n e : ℕ) (x : Found) → n ≡ entries kind → x ≡ found_to n s f e → n ≤ e → e ≤ n → x ≡ look_up kind s f
unfolding found_to look_up highest_extent highest_to entry_of
found_ends kind s f n e x h k a b =
    let z : e ≡ n = omega arith in
    k ∙ rw (z, or_ends (is_entry s f 0) n, or_ends (is_entry s f (greatest (is_of s f) (extent_at s) n)) n, h) refl

-- .. its entries are entries, or the number of entries
pub first_within : (m n : ℕ) (s : List ℕ) (f : File) (e : ℕ) (x : Found) → n ≡ m → x ≡ found_to n s f e → e ≤ n → x.entry ≤ m
unfolding found_to
first_within m n s f e x k h l = rw (ap (λ (y : Found). y.entry) h, ← k) (or_within (is_entry s f 0) n e l)

pub last_within : (m n : ℕ) (s : List ℕ) (f : File) (e : ℕ) (x : Found) → n ≡ m → x ≡ found_to n s f e → e ≤ n → x.last ≤ m
unfolding found_to
last_within m n s f e x k h l = rw (ap (λ (y : Found). y.last) h, ← k) (or_within (is_entry s f (highest_to s f e)) n e l)

module _ (none : ℕ) (s : List ℕ) (f : File) (e : ℕ) (x : Found) (h : x ≡ found_to none s f e) where
  -- an entry of another file, or of none
  pub found_skip : (r : Bool) → r ≡ is_of s f e → r ≡ false → x ≡ found_to none s f (e + 1)
  unfolding found_to highest_to
  found_skip r d q =
      let u : is_of s f e ≡ false = sym d ∙ q in
      h ∙ sym (rw (
        or_skip (is_entry s f 0) none e (is_not (is_of s f) (extent_at s) (is_entry s f) (entry_splits s f) 0 e u),
        first_skip (is_of s f) (extent_at s) (is_entry s f) (entry_splits s f) none e u,
        greatest_skip (is_of s f) (extent_at s) e u,
      ) refl)

  module _ (u : is_of s f e ≡ true) (m : e ≤ none) where
    -- the entry of extent 0
    first_is : lowest_or (is_entry s f 0) (e + 1) none ≡ (e if eqb (extent_at s e) 0 and leb none x.entry else x.entry)
    unfolding found_to ◌if◌else◌
    first_is =
        let k : x.entry ≡ lowest_or (is_entry s f 0) e none = ap (λ (y : Found). y.entry) h in
        ⊎_elim
        (λ (q : (eqb (extent_at s e) 0 and leb none x.entry) ≡ true).
        let z = eqb-true _ _ (and_fst _ _ q) in
        let w : none ≤ lowest_or (is_entry s f 0) e none = rw (← k) (leb-true _ _ (and_snd _ _ q)) in
        rw q (or_found (is_entry s f 0) none e (or_any (is_entry s f 0) none e w m) (is_so (is_of s f) (extent_at s) (is_entry s f) (entry_splits s f) 0 e u z)))
        (λ (q : (eqb (extent_at s e) 0 and leb none x.entry) ≡ false).
        rw (q, k) (⊎_elim
        (λ (d : eqb (extent_at s e) 0 ≡ true).
        let w : lowest_or (is_entry s f 0) e none < none = rw (← k) (leb-false _ _ (and_rest _ _ d q)) in
        or_kept (is_entry s f 0) none e w)
        (λ (d : eqb (extent_at s e) 0 ≡ false).
        or_skip (is_entry s f 0) none e (is_other (is_of s f) (extent_at s) (is_entry s f) (entry_splits s f) 0 e (eqb-false _ _ d)))
        (either (eqb (extent_at s e) 0))))
        (either (eqb (extent_at s e) 0 and leb none x.entry))

    first_so : (first extent : ℕ) → extent ≡ extent_at s e → first ≡ (e if eqb extent 0 and leb none x.entry else x.entry)
        → first ≡ lowest_or (is_entry s f 0) (e + 1) none
    first_so first extent d g = g ∙ ap (λ (n : ℕ). e if eqb n 0 and leb none x.entry else x.entry) d ∙ sym first_is

    -- an entry with no higher extent, where one was found
    pub found_kept : (first extent : ℕ) → extent ≡ extent_at s e → first ≡ (e if eqb extent 0 and leb none x.entry else x.entry)
        → (ltb x.last none and leb extent x.extent) ≡ true → found first x.extent x.last ≡ found_to none s f (e + 1)
    unfolding found_to highest_to
    found_kept first extent d g q =
        let low : extent_at s e ≤ greatest (is_of s f) (extent_at s) e = rw (← d, ← ap (λ (y : Found). y.extent) h) (leb-true _ _ (and_snd _ _ q)) in
        let there : lowest_or (is_entry s f (greatest (is_of s f) (extent_at s) e)) e none < none =
        rw (← ap (λ (y : Found). y.last) h) (ltb-true _ _ (and_fst _ _ q)) in
        same_found (first_so first extent d g)
        (ap (λ (y : Found). y.extent) h ∙ sym (greatest_kept (is_of s f) (extent_at s) e low))
        (ap (λ (y : Found). y.last) h ∙ sym (first_kept (is_of s f) (extent_at s) (is_entry s f) (entry_splits s f) none e there low))

    -- one with a higher extent, or the first of the file
    pub found_new : (first extent : ℕ) → extent ≡ extent_at s e → first ≡ (e if eqb extent 0 and leb none x.entry else x.entry)
        → (ltb x.last none and leb extent x.extent) ≡ false → found first extent e ≡ found_to none s f (e + 1)
    unfolding found_to highest_to
    found_new first extent d g q =
        ⊎_elim
        (λ (c : ltb x.last none ≡ true).
        let more : greatest (is_of s f) (extent_at s) e < extent_at s e =
        rw (← d, ← ap (λ (y : Found). y.extent) h) (leb-false _ _ (and_rest _ _ c q)) in
        same_found (first_so first extent d g) (d ∙ sym (greatest_new (is_of s f) (extent_at s) e u more))
        (sym (first_more (is_of s f) (extent_at s) (is_entry s f) (entry_splits s f) none e u more)))
        (λ (c : ltb x.last none ≡ false).
        let gone : none ≤ lowest_or (is_entry s f (greatest (is_of s f) (extent_at s) e)) e none =
        rw (← ap (λ (y : Found). y.last) h) (ltb-false _ _ c) in
        same_found (first_so first extent d g) (d ∙ sym (greatest_first (is_of s f) (extent_at s) (is_entry s f) (entry_splits s f) none e u gone m))
        (sym (first_first (is_of s f) (extent_at s) (is_entry s f) (entry_splits s f) none e u gone m)))
        (either (ltb x.last none))

-- ---- the same, as the code comes to it

module _ (none : ℕ) (s : List ℕ) (f : File) (e : ℕ) (x : Found) (r : Bool) where
  pub look_skip : x ≡ found_to none s f e → r ≡ is_of s f e → not r ≡ true → x ≡ found_to none s f (e + 1)
  look_skip h d q = found_skip none s f e x h r d (not-true r q)

  pub look_kept : (first extent : ℕ) (k : Bool) → x ≡ found_to none s f e → e ≤ none → r ≡ is_of s f e → not r ≡ false → extent ≡ extent_at s e
      → first ≡ (e if eqb extent 0 and leb none x.entry else x.entry) → k ≡ (ltb x.last none and leb extent x.extent) → k ≡ true
      → found first x.extent x.last ≡ found_to none s f (e + 1)
  look_kept first extent k h m d q a b c t = found_kept none s f e x h (sym d ∙ not-false r q) m first extent a b (sym c ∙ t)

  pub look_new : (first extent : ℕ) (k : Bool) → x ≡ found_to none s f e → e ≤ none → r ≡ is_of s f e → not r ≡ false → extent ≡ extent_at s e
      → first ≡ (e if eqb extent 0 and leb none x.entry else x.entry) → k ≡ (ltb x.last none and leb extent x.extent) → k ≡ false
      → found first extent e ≡ found_to none s f (e + 1)
  look_new first extent k h m d q a b c t = found_new none s f e x h (sym d ∙ not-false r q) m first extent a b (sym c ∙ t)

pub ruleset looks = (rules, look_skip, look_kept, look_new)

pub ruleset look_ups = (rules, found_none, found_ends, first_within, last_within)
