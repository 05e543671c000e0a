-- An entry that is that extent of the file has its slot. Assumes nothing.
use Rattle.std.proofs.Common.{ℕ, ◌+◌, ◌%◌, ◌≤◌, ◌<◌, ◌≡◌, sym, ap, ◌∙◌, true, false, List, arith, length, get_or, rules, eqb-true}
use Rattle.words.specs.Tests.{any, lowest}
use Rattle.words.specs.Bytes.{byte, same_byte}
use Rattle.words.specs.Hints.{Hints, Noted}
use Rattle.words.proofs.Tests.{all_at, and_fst, and_snd}
use Rattle.words.proofs.Sets.{not_of_false}
use Rattle.words.proofs.Hints.{hints_below, hints_skip, hints_more}
use Rattle.rules.specs.declared.file.File.{File}
use Rattle.rules.specs.declared.kind.Kind.{Kind}
use Rattle.rules.specs.Kinds.{entries}
use Rattle.rules.specs.Drive.{is_empty, extent_at, file_at, is_entry, entry_of}
use Rattle.rules.specs.Locks.{same_name, same_file}
use Rattle.rules.proofs.Sound.{Is, entry_is}
use Rattle.index.specs.Slots.{mix, slot_of, slot_at, in_use}

pub below_256 : (x : ℕ) → x % 256 < 256
below_256 x = omega arith

same_slot : (s : List ℕ) (f : File) (x e : ℕ) → Is s f x e → slot_at s e ≡ slot_of f x
unfolding slot_at
same_slot s f x e h = rw (h.file, h.extent)

-- ---- the slots of the same file

mix_same : (a b : List ℕ) → same_name a b ≡ true → mix a ≡ mix b
unfolding mix same_name same_byte
mix_same a b h =
    let at : (k : ℕ) → k < 11 → byte a k ≡ byte b k = λ k l. eqb-true _ _ (all_at (same_byte a b) 11 k h l) in
    rw (
      at 0 (omega arith),
      at 1 (omega arith),
      at 2 (omega arith),
      at 3 (omega arith),
      at 4 (omega arith),
      at 5 (omega arith),
      at 6 (omega arith),
      at 7 (omega arith),
      at 8 (omega arith),
      at 9 (omega arith),
      at 10 (omega arith),
    )

pub slot_same : (f g : File) (x y : ℕ) → same_file f g ≡ true → x ≡ y → slot_of f x ≡ slot_of g y
unfolding slot_of same_file
slot_same f g x y h e =
    let u : f.user ≡ g.user = eqb-true _ _ (and_fst _ _ h) in
    let m : mix f.name ≡ mix g.name = mix_same f.name g.name (and_snd _ _ h) in
    rw (u, m, e)

-- ---- looking

-- below the hint of its slot no entry is it
pub entry_none : (s : List ℕ) (f : File) (x n h r : ℕ) (hints : List ℕ) → Hints (slot_at s) (in_use s) n hints → length f.name ≡ 11 → h ≡ slot_of f x → r ≤ n
    → r ≤ get_or hints h 0 → any (is_entry s f x) r ≡ false
unfolding in_use
entry_none s f x n h r hints k l is m g =
    hints_below (slot_at s) (in_use s) (is_entry s f x) n h r hints k m g
    (λ d y. let i = entry_is s f x d l y in (not_of_false _ i.used, same_slot s f x d i ∙ sym is))

-- all entries, their number being what a callee answered
module _ (kind : Kind) (s : List ℕ) (n : ℕ) (is : n ≡ entries kind) where
  pub known_all : (hints : List ℕ) → Hints (slot_at s) (in_use s) (entries kind) hints → Hints (slot_at s) (in_use s) n hints
  known_all hints k = rw is k

  pub found_all : (f : File) (x r : ℕ) → r ≡ lowest (is_entry s f x) n → r ≡ entry_of kind s f x
  unfolding entry_of
  found_all f x r h = h ∙ ap (lowest (is_entry s f x)) is

pub ruleset finding = (rules, entry_none, known_all, found_all)

-- ---- a walk over the entries

module _ (s : List ℕ) (e : ℕ) (hints : List ℕ) (k : Hints (slot_at s) (in_use s) e hints) where
  pub known_empty : is_empty s e ≡ true → Hints (slot_at s) (in_use s) (e + 1) hints
  unfolding in_use
  known_empty h = hints_skip (slot_at s) (in_use s) e hints k (rw h)

  pub known_more : (h x : ℕ) (f : File) (after : List ℕ) → f ≡ file_at s e → x ≡ extent_at s e → h ≡ slot_of f x → Noted h e hints after
      → Hints (slot_at s) (in_use s) (e + 1) after
  unfolding slot_at
  known_more h x f after is at slot w =
      hints_more (slot_at s) (in_use s) e h hints after k (slot ∙ ap (λ (y : File). slot_of y x) is ∙ ap (slot_of (file_at s e)) at) w
