-- What passing the tests of the check and of Look says. Assumes nothing.
use Rattle.std.proofs.Common.{ℕ, ◌+◌, ◌-◌, ◌*◌, ◌%◌, ◌≤◌, ◌<◌, ◌≡◌, sym, ap, ◌∙◌, Bool, true, false, not, List, [], arith, rules, length, take}
use Rattle.std.proofs.Common.{drop, leb, eqb, leb-true, eqb-true, eq-eqb, ne_eqb, le-leb}
use borrow.Author.Tests.{not-true, not-false}
use Rattle.words.specs.Tests.{◌if◌else◌}
use Rattle.words.proofs.Tests.{and_fst, and_snd}
use Rattle.rules.specs.declared.kind.Kind.{Kind}
use Rattle.rules.specs.Kinds.{most, entries}
use Rattle.rules.specs.Drive.{blocks, good_length, file_from, block_of}
use Rattle.rules.specs.Look.{may_look, look_block, part_at, look_at, part_from, look}
use Rattle.rules.specs.declared.file.File.{File}
use Rattle.rules.proofs.Sound.{length_long, length_few, sound_length}
use Rattle.rules.proofs.Look.{look_inside}

-- after `if !good_length(image) { return .. }`
pub directory_there : (kind : Kind) (r : Bool) (s : List ℕ) → r ≡ good_length kind s → not r ≡ false → 32 * entries kind ≤ length s
directory_there kind r s e n = let k = length_long kind s (sym e ∙ not-false r n) in omega arith

pub blocks_few : (kind : Kind) (r : Bool) (s : List ℕ) → r ≡ good_length kind s → not r ≡ false → blocks kind s ≤ most kind
blocks_few kind r s e n = length_few kind s (sym e ∙ not-false r n)

-- after `if !may_look(..) { return .. }`
module _ (kind : Kind) (r : Bool) (u : ℕ) (name s : List ℕ) (e : r ≡ may_look kind u name s) (n : not r ≡ false) where
  may : may_look kind u name s ≡ true
  may = sym e ∙ not-false r n

  pub looked_image : 32 * entries kind ≤ length s
  unfolding may_look
  looked_image = let k = length_long kind s (sound_length kind s (and_fst _ _ may)) in omega arith

  pub looked_user : u ≤ 15
  unfolding may_look
  looked_user = leb-true _ _ (and_fst _ _ (and_snd _ _ may))

  pub looked_name : length name ≡ 11
  unfolding may_look
  looked_name = eqb-true _ _ (and_fst _ _ (and_snd _ _ (and_snd _ _ may)))

  pub looked_long : 0 + 11 ≤ length name
  looked_long = let k = looked_name in omega arith

  -- the block that was found
  pub looked_block : (f : File) (b q : ℕ) → f ≡ file_from u name 0 → b ≡ block_of kind s f q → b ≡ look_block kind u name q s
  unfolding look_block ◌if◌else◌
  looked_block f b q h g = rw may (g ∙ ap (λ (x : File). block_of kind s x q) h)

pub looked_not : (kind : Kind) (r : Bool) (u : ℕ) (name s : List ℕ) (q : ℕ) → r ≡ may_look kind u name s → not r ≡ true
    → 0 ≡ look_block kind u name q s
unfolding look_block ◌if◌else◌
looked_not kind r u name s q e n = let k : may_look kind u name s ≡ false = sym e ∙ not-true r n in rw k

-- where its part begins
pub look_begins : (kind : Kind) (r b u : ℕ) (name : List ℕ) (q : ℕ) (s : List ℕ) → b ≡ look_block kind u name q s → r ≡ part_at kind b q
    → r ≡ look_at kind u name q s
unfolding look_at
look_begins kind r b u name q s h e = e ∙ ap (λ (x : ℕ). part_at kind x q) h

-- the part that was found
module _ (kind : Kind) (at u : ℕ) (name : List ℕ) (q : ℕ) (s : List ℕ) (e : at ≡ look_at kind u name q s) where
  pub look_room : (at ≡ 0 → ⊥) → at + 128 ≤ length s
  look_room n = rw (sym e) at (look_inside kind u name q s (λ z. n (e ∙ z))).1

  pub look_none : at ≡ 0 → [] ≡ look kind u name q s
  unfolding look part_from ◌if◌else◌
  look_none z = rw (← e, z)

  pub look_some : (at ≡ 0 → ⊥) → (end : ℕ) → end ≡ at + 128 → take (end - at) (drop at s) ≡ look kind u name q s
  unfolding look part_from ◌if◌else◌
  look_some n end h = let k : end - at ≡ 128 = omega arith in rw (← e, ne_eqb _ _ n, k)

pub ruleset looks = (rules, looked_image, looked_user, looked_long, looked_block, looked_not)

pub ruleset looking = (look_room, look_none, look_some)
