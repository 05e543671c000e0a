-- One entry of the directory in two images: what the same bytes give. Assumes nothing.
use Prim.Native.Nat.{ℕ, ◌+◌, ◌*◌, ◌%◌, ◌≤◌, ◌<◌}
use mathlib.Core.Path.{◌≡◌, refl, sym, ap, ◌∙◌}
use mathlib.Core.Bool.{true, false}
use mathlib.Core.List.{List}
use native.Mathlib.Omega.{arith}
use native.Mathlib.Nat.{add-zero}
use lib.ListN.{length}
use lib.Dec.{eqb}
use borrow.Author.Tests.{eq-eqb, eqb-true, leb-true, le-leb}
use Rattle.words.specs.Lists.{tab}
use Rattle.words.specs.Bytes.{byte, low_from}
use Rattle.words.proofs.Tests.{and_fst, and_snd, all_ext}
use Rattle.words.proofs.Lists.{tab_ext}
use Rattle.words.proofs.Sets.{and_both, not_of_false}
use Rattle.rules.specs.declared.kind.Kind.{Kind}
use Rattle.rules.specs.Kinds.{numbers}
use Rattle.rules.specs.declared.file.File.{File}
use Rattle.rules.specs.Drive.{good_length, blocks, is_empty, user_byte, name_at, extent_at, map_number, same_low, is_named, file_from, file_at, is_of, legal_byte}
use Rattle.rules.specs.Drive.{legal_at, legal_name, good_user, good_numbers, good_fields}
use Rattle.rules.proofs.Sound.{Is, Names, named_is, named_so}
use Rattle.rules.proofs.Sizes.{map_bytes}

-- entry d of t has the bytes 0 to 14 of entry e of s: all but count and map
pub record Head (s : List ℕ) (e : ℕ) (t : List ℕ) (d : ℕ) : Type 0 where
  pub at : (k : ℕ) → k < 15 → byte t (32 * d + k) ≡ byte s (32 * e + k)

-- .. all 32
pub record Same (s : List ℕ) (e : ℕ) (t : List ℕ) (d : ℕ) : Type 0 where
  pub at : (k : ℕ) → k < 32 → byte t (32 * d + k) ≡ byte s (32 * e + k)

pub head_of : (s : List ℕ) (e : ℕ) (t : List ℕ) (d : ℕ) → Same s e t d → Head s e t d
head_of s e t d h = record { at = λ k l. h.at k (omega arith) }

pub same_refl : (s : List ℕ) (e : ℕ) → Same s e s e
same_refl s e = record { at = λ k l. refl }

pub same_then : (s t u : List ℕ) (e : ℕ) → Same s e t e → Same t e u e → Same s e u e
same_then s t u e h g = record { at = λ k l. g.at k l ∙ h.at k l }

pub head_then : (s t u : List ℕ) (e : ℕ) → Head s e t e → Head t e u e → Head s e u e
head_then s t u e h g = record { at = λ k l. g.at k l ∙ h.at k l }

pub head_back : (s t : List ℕ) (e : ℕ) → Head s e t e → Head t e s e
head_back s t e h = record { at = λ k l. sym (h.at k l) }

pub same_back : (s t : List ℕ) (e : ℕ) → Same s e t e → Same t e s e
same_back s t e h = record { at = λ k l. sym (h.at k l) }

module _ (s : List ℕ) (e : ℕ) (t : List ℕ) (d : ℕ) (h : Head s e t d) where
  pub first : user_byte t d ≡ user_byte s e
  first = ap (λ (i : ℕ). byte t i) (sym (add-zero (32 * d))) ∙ h.at 0 (omega arith) ∙ ap (λ (i : ℕ). byte s i) (add-zero (32 * e))

  pub name_byte : (k : ℕ) → k < 11 → byte t (32 * d + 1 + k) ≡ byte s (32 * e + 1 + k)
  name_byte k l =
      let y : 32 * d + 1 + k ≡ 32 * d + (1 + k) = omega arith in
      let z : 32 * e + 1 + k ≡ 32 * e + (1 + k) = omega arith in
      ap (λ (i : ℕ). byte t i) y ∙ h.at (1 + k) (omega arith) ∙ ap (λ (i : ℕ). byte s i) (sym z)

  pub empty_same : is_empty t d ≡ is_empty s e
  unfolding is_empty
  empty_same = rw first

  pub extent_same : extent_at t d ≡ extent_at s e
  extent_same = rw (h.at 12 (omega arith), h.at 14 (omega arith))

  pub file_same : file_at t d ≡ file_at s e
  unfolding file_at file_from
  file_same = λ i. record {
    user = first i;
    name = tab_ext (low_from t (name_at d)) (low_from s (name_at e)) 11 (λ k l. ap (λ (b : ℕ). b % 128) (name_byte k l)) i;
  }

  legal_same : legal_name t (name_at d) ≡ legal_name s (name_at e)
  unfolding legal_name legal_at
  legal_same =
      rw (
        h.at 1 (omega arith),
        all_ext (legal_at t (name_at d)) (legal_at s (name_at e)) 11 (λ k l. ap (λ (b : ℕ). legal_byte b) (name_byte k l)),
      )

  pub fields_so : (kind : Kind) → byte t (32 * d + 15) ≤ 128 → good_fields kind s e ≡ true → good_fields kind t d ≡ true
  unfolding good_fields good_user good_numbers
  fields_so kind c g =
      let n = and_snd _ _ (and_snd _ _ g) in
      and_both _ _ (rw first (and_fst _ _ g))
      (and_both _ _ (legal_same ∙ and_fst _ _ (and_snd _ _ g))
      (and_both _ _ (rw (h.at 12 (omega arith)) (and_fst _ _ n))
      (and_both _ _ (rw (h.at 14 (omega arith)) (and_fst _ _ (and_snd _ _ n))) (le-leb _ _ c))))

  pub of_same : (f : File) → is_of t f d ≡ is_of s f e
  unfolding is_of is_named same_low
  of_same f =
      rw (
        empty_same,
        first,
        all_ext (same_low t (name_at d) f.name) (same_low s (name_at e) f.name) 11 (λ k l. ap (λ (b : ℕ). eqb (b % 128) (byte f.name k)) (name_byte k l)),
      )

pub count_good : (kind : Kind) (s : List ℕ) (e : ℕ) → good_fields kind s e ≡ true → byte s (32 * e + 15) ≤ 128
unfolding good_fields good_numbers
count_good kind s e g = leb-true _ _ (and_snd _ _ (and_snd _ _ (and_snd _ _ (and_snd _ _ g))))

pub user_good : (kind : Kind) (s : List ℕ) (e : ℕ) → good_fields kind s e ≡ true → user_byte s e ≤ 15
unfolding good_fields good_user
user_good kind s e g = leb-true _ _ (and_fst _ _ g)

pub fields_same : (kind : Kind) (s : List ℕ) (e : ℕ) (t : List ℕ) (d : ℕ) → Same s e t d → good_fields kind s e ≡ true → good_fields kind t d ≡ true
fields_same kind s e t d h g = fields_so s e t d (head_of s e t d h) kind (rw (h.at 15 (omega arith)) (count_good kind s e g)) g

pub is_same : (s t : List ℕ) (f : File) (x e : ℕ) → Head s e t e → Is s f x e → Is t f x e
is_same s t f x e h g = record {
  used = empty_same s e t e h ∙ g.used;
  file = file_same s e t e h ∙ g.file;
  extent = extent_same s e t e h ∙ g.extent;
}

pub map_same : (kind : Kind) (s t : List ℕ) (e k : ℕ) → Same s e t e → k < numbers kind → map_number kind t e k ≡ map_number kind s e k
map_same kind s t e k h l = map_bytes kind s t e e k l h.at

pub names_same : (kind : Kind) (s t : List ℕ) (e k : ℕ) → is_empty t e ≡ is_empty s e → map_number kind t e k ≡ map_number kind s e k → Names kind t e k
    → Names kind s e k
names_same kind s t e k u m n = record {
  entry_there = n.entry_there;
  place_there = n.place_there;
  entry_used = sym u ∙ n.entry_used;
  some = λ z. n.some (m ∙ z);
}

-- whose an entry is
pub of-file : (s : List ℕ) (f : File) (e : ℕ) → length f.name ≡ 11 → is_of s f e ≡ true → file_at s e ≡ f
unfolding is_of file_at file_from
of-file s f e l h =
    let u = eqb-true _ _ (and_fst _ _ (and_snd _ _ h)) in
    let n = named_is s (name_at e) f.name l (and_snd _ _ (and_snd _ _ h)) in
    λ i. record { user = u i; name = n i }

pub file-of : (s : List ℕ) (f : File) (e : ℕ) → is_empty s e ≡ false → file_at s e ≡ f → is_of s f e ≡ true
unfolding is_of file_at file_from
file-of s f e u h =
    let q : user_byte s e ≡ f.user = ap (λ (g : File). g.user) h in
    let n : tab (low_from s (name_at e)) 11 ≡ f.name = ap (λ (g : File). g.name) h in
    and_both _ _ (not_of_false _ u) (and_both _ _ (eq-eqb _ _ q) (named_so s (name_at e) f.name n))

pub user_is : (s : List ℕ) (f : File) (e : ℕ) → file_at s e ≡ f → user_byte s e ≡ f.user
unfolding file_at file_from
user_is s f e h = ap (λ (g : File). g.user) h

pub long_same : (kind : Kind) (s t : List ℕ) → length t ≡ length s → good_length kind s ≡ true → good_length kind t ≡ true
unfolding good_length blocks
long_same kind s t e h = rw e h
