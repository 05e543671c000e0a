-- Laws of a search, as its routine comes to them. Assumes nothing.
use Rattle.std.proofs.Common.{◌≡◌, ℕ, ◌+◌, ◌*◌, ◌/◌, ◌%◌, ◌≤◌, ◌<◌, Bool, true, false, not, List, [], length, leb, eqb, Option, Some, None, refl, sym, ap, ◌∙◌, ⊎_elim, arith, rules}
use Rattle.std.proofs.lemmas.Bool.{le-leb, lt-leb}
use Rattle.words.specs.Tests.{◌and◌, ◌or◌, ◌if◌else◌, all, any}
use Rattle.words.specs.Bytes.{byte, part, put}
use Rattle.words.proofs.Tests.{either, all_none, all_more, all_at, any_at, any_none, any_never, lowest_none, lowest_found, and_false}
use Rattle.words.proofs.Sets.{answers, is_yes, is_no, any_goes, and_left, and_both, row_none}
use Rattle.rules.specs.declared.kind.Kind.{Kind}
use Rattle.rules.specs.declared.kind.Kind.TheVariants.{Small, Large}
use Rattle.rules.specs.declared.list.LockList.{LockList}
use Rattle.rules.specs.declared.routine.Routine.TheVariants.{SearchFirst, SearchNext}
use Rattle.rules.specs.Kinds.{entries}
use Rattle.rules.specs.Serves.{Buffers, Did, buffers}
use Rattle.rules.specs.Locks.{user_of, position_of, moved_to, unpack, pack}
use Rattle.rules.specs.Effects.{admits_byte, is_any, is_match, is_match_from, match_from, searched, finds, finds_none, does17, does18}
use Rattle.rules.specs.Call.{asked, asked_by, rows_of, effect_of, served}
use Rattle.rules.proofs.Sizes.{record_in}
use Rattle.rules.proofs.Ends.{did_left, did_pass}
use Rattle.searching.specs.By.{entry_by}

-- ---- one entry

pub admits_as : (fcb s : List ℕ) (e k : ℕ)
    → admits_byte fcb s e k ≡ (is_any (byte fcb (1 + k)) or eqb (byte s (32 * e + 1 + k) % 128) (byte fcb (1 + k) % 128))
unfolding admits_byte
admits_as fcb s e k = refl

pub name_at_all : (fcb s : List ℕ) (e k : ℕ) → all (admits_byte fcb s e) 11 ≡ true → k < 11
    → (is_any (byte fcb (1 + k)) or eqb (byte s (32 * e + 1 + k) % 128) (byte fcb (1 + k) % 128)) ≡ true
unfolding admits_byte
name_at_all fcb s e k h l = all_at (admits_byte fcb s e) 11 k h l

pub ruleset naming = (rules, answers, all_none, all_more, admits_as, name_at_all)

-- ---- the walk

module _ (from user : ℕ) (fcb s : List ℕ) where
  -- nothing before where it begins, ..
  pub from_none : any (is_match_from from user fcb s) from ≡ false
  unfolding is_match_from
  from_none = any_never (is_match_from from user fcb s) from (λ i l. and_left _ _ (lt-leb from i l))

  -- .. from there on a match is one from there
  pub from_there : (e : ℕ) → from ≤ e → is_match_from from user fcb s e ≡ is_match user fcb s e
  unfolding is_match_from ◌and◌
  from_there e l = rw (le-leb from e l)

  pub from_found : (kind : Kind) (e : ℕ) → e < entries kind → any (is_match_from from user fcb s) e ≡ false → is_match_from from user fcb s e ≡ true
      → Some e ≡ entry_by kind (match_from kind from user fcb s)
  unfolding match_from entry_by ◌if◌else◌
  from_found kind e l h y =
      rw (lowest_found (is_match_from from user fcb s) (entries kind) e l h y, lt-leb (entries kind) e l) refl

  pub from_past : (kind : Kind) (e : ℕ) → entries kind ≤ e → any (is_match_from from user fcb s) e ≡ false
      → None ≡ entry_by kind (match_from kind from user fcb s)
  unfolding match_from entry_by ◌if◌else◌
  from_past kind e l h =
      let none = any_never (is_match_from from user fcb s) (entries kind) (λ i m. any_at (is_match_from from user fcb s) e i h (omega arith)) in
      rw (lowest_none (is_match_from from user fcb s) (entries kind) none, le-leb (entries kind) (entries kind) (omega arith)) refl

pub ruleset matching = (rules, answers, any_goes, from_none, from_there, from_found, from_past)

-- ---- what a search leaves

pub entries_within : (kind : Kind) → entries kind ≤ 128
unfolding entries
entries_within (Small u) = omega arith
entries_within (Large u) = omega arith

pub ruleset sizes = (rules, record_in, entries_within)

module _ (kind : Kind) (p m : ℕ) (l : LockList) (b : Buffers) where
  searched_found : (e : ℕ) → Some e ≡ entry_by kind m → searched kind p l m b ≡ finds p l e b
  unfolding searched entry_by ◌if◌else◌
  searched_found e h =
      ⊎_elim (λ (q : leb (entries kind) m ≡ true). absurd (let z : Some e ≡ None = rw q at h in cc))
      (λ (q : leb (entries kind) m ≡ false). let z : Some e ≡ Some m = rw q at h in let w : e ≡ m = cc in rw (q, w)) (either (leb (entries kind) m))

  searched_none : None ≡ entry_by kind m → searched kind p l m b ≡ finds_none kind p l b
  unfolding searched entry_by ◌if◌else◌
  searched_none h =
      ⊎_elim (λ (q : leb (entries kind) m ≡ true). rw q)
      (λ (q : leb (entries kind) m ≡ false). absurd (let z : None ≡ Some m = rw q at h in cc)) (either (leb (entries kind) m))

-- u: the caller's user; after: the list with its position
module _ (kind : Kind) (from p u : ℕ) (l after : LockList) (b : Buffers) (list : List ℕ) (hu : u ≡ user_of l p) (hp : list ≡ pack after) where
  pub did_find : (e : ℕ) (dma : List ℕ) → Some e ≡ entry_by kind (match_from kind from u b.fcb b.image) → dma ≡ put 0 (part (128 * (e / 4)) 128 b.image) b.dma
      → after ≡ moved_to p (e + 1) l → Did (searched kind p l (match_from kind from (user_of l p) b.fcb b.image) b) (e % 4) (buffers b.fcb dma list b.image)
  unfolding finds
  did_find e dma h d m =
      rw (← hu, searched_found kind p _ l b e h) (did_left refl refl d (hp ∙ ap pack m) refl)

  pub did_find_none : (n : ℕ) → None ≡ entry_by kind (match_from kind from u b.fcb b.image) → n ≡ entries kind → after ≡ moved_to p n l
      → Did (searched kind p l (match_from kind from (user_of l p) b.fcb b.image) b) 255 (buffers b.fcb b.dma list b.image)
  unfolding finds_none
  did_find_none n h q m =
      rw (← hu, searched_none kind p _ l b h) (did_left refl refl refl (hp ∙ ap pack m ∙ ap (λ (x : ℕ). pack (moved_to p x l)) q) refl)

-- ---- the calls

module _ (kind : Kind) (from p a : ℕ) (b left : Buffers) (l : LockList) (h : l ≡ unpack b.list)
    (d : Did (searched kind p l (match_from kind from (user_of l p) b.fcb b.image) b) a left) where
  -- First begins at 0, ..
  pub first_called : from ≡ 0 → Did (served kind (Some SearchFirst) p 1 b) a left
  unfolding served rows_of effect_of does17 asked asked_by
  first_called z = did_pass [] b _ 0 (row_none 0 refl) a left refl (rw (h, z) at d)

  -- .. Next at the position
  pub next_called : from ≡ position_of l p → Did (served kind (Some SearchNext) p 1 b) a left
  unfolding served rows_of effect_of does18 asked asked_by
  next_called z = did_pass [] b _ 0 (row_none 0 refl) a left refl (rw (z, h) at d)
