-- The two rules (T-11): where they part, and what no file has past the highest record. Assumes nothing.
use Prim.Native.Nat.{ℕ, zero, suc, ◌/◌, ◌≤◌, ◌<◌}
use mathlib.Core.Path.{◌≡◌, refl, sym, ap, ◌∙◌}
use mathlib.Core.Bool.{Bool, true, false, not}
use mathlib.Core.List.{List}
use mathlib.Core.Logic.{⊎_elim}
use native.Mathlib.Omega.{arith}
use lib.Dec.{leb, eqb}
use borrow.Author.Tests.{eqb-true, leb-true, leb-false, le-leb, lt-leb, ne_eqb}
use Rattle.words.specs.Tests.{◌and◌, ◌if◌else◌, all}
use Rattle.words.specs.Bytes.{byte}
use Rattle.words.proofs.Tests.{either, fails_too, and_fst, and_snd, or_so, or_case, all_at, all_make, lowest_holds}
use Rattle.words.proofs.Sets.{and_both}
use Rattle.rules.specs.declared.kind.Rule.{Rule}
use Rattle.rules.specs.declared.kind.Rule.TheVariants.{Mpm, Cpm}
use Rattle.rules.specs.declared.kind.Kind.{Kind}
use Rattle.rules.specs.declared.kind.Kind.TheVariants.{Small, Large}
use Rattle.rules.specs.declared.file.File.{File}
use Rattle.rules.specs.Kinds.{told_rule, rule_of, with_rule, highest, module_of, top, last_module, block_size, fewest, most, entries, numbers, width}
use Rattle.rules.specs.Drive.{blocks, good_length, is_empty, entry_byte, extent_at, is_of, is_entry, entry_of, block_in, block_of, map_number, is_numbered, holds_number}
use Rattle.rules.specs.Drive.{names_block, in_range, named_before, is_first, is_repeat, good_numbers, good_fields, good_entry, has_first, sound_directory, sound_image}
use Rattle.packing.specs.Packed.{used_entries, walk, new_number, new_map, moved_entry, moved_block, packed_directory, packed_blocks, packed}
use Rattle.rules.specs.Locks.{rule_at, unpack, is_rule, sound_list}
use Rattle.rules.specs.Asks.{record_of}
use Rattle.rules.specs.Look.{may_look, look_block, part_at, look_at}
use Rattle.rules.proofs.Answers.{byte_past}
use Rattle.rules.proofs.Sound.{entry_splits}
use Rattle.rules.proofs.SoundList.{list_sound_of}
use Rattle.rules.proofs.Highest.{highest_most, highest_ends}
use Rattle.history.proofs.Ruled.{start_rule}
use Rattle.claims.specs.Claims.{RuleClaims}

-- ---- no record past the highest

-- no entry of a sound image is an extent past it, ..
no-extent : (kind : Kind) (s : List ℕ) (f : File) (r : ℕ) → sound_image kind s ≡ true → top kind < r → entries kind ≤ entry_of kind s f (r / 128)
unfolding entry_of
no-extent kind s f r h past =
    ⊎_elim (λ (q : leb (entries kind) (entry_of kind s f (r / 128)) ≡ true). leb-true _ _ q)
    (λ (q : leb (entries kind) (entry_of kind s f (r / 128)) ≡ false).
    let e = entry_of kind s f (r / 128) in
    let l : e < entries kind = leb-false (entries kind) e q in
    let is : (is_of s f e and eqb (extent_at s e) (r / 128)) ≡ true =
    sym (entry_splits s f (r / 128) e) ∙ lowest_holds (is_entry s f (r / 128)) (entries kind) l in
    let x : extent_at s e ≡ r / 128 = eqb-true _ _ (and_snd _ _ is) in
    let m = highest_most kind s f e l (and_fst _ _ is) in
    let n = highest_ends kind s f h in
    absurd (omega arith)) (either (leb (entries kind) (entry_of kind s f (r / 128))))

-- .. so no record past it has a block, ..
no_block_past : (kind : Kind) (s : List ℕ) (f : File) (r : ℕ) → sound_image kind s ≡ true → top kind < r → block_of kind s f r ≡ 0
unfolding block_of block_in ◌if◌else◌
no_block_past kind s f r h past = rw (le-leb (entries kind) _ (no-extent kind s f r h past)) refl

-- .. and Look shows none
no_look_past : (kind : Kind) (user : ℕ) (name : List ℕ) (r : ℕ) (s : List ℕ) → top kind < r → look_at kind user name r s ≡ 0
unfolding look_at
no_look_past kind user name r s past = ap (λ (b : ℕ). part_at kind b r) (none (may_look kind user name s) refl) ∙ nothing
  where
    nothing : part_at kind 0 r ≡ 0
    nothing = unfold part_at ◌if◌else◌ in refl

    sound : may_look kind user name s ≡ true → sound_image kind s ≡ true
    sound q = unfold may_look in and_fst _ _ q

    none : (t : Bool) → may_look kind user name s ≡ t → look_block kind user name r s ≡ 0
    none true q = unfold look_block ◌if◌else◌ in rw q (no_block_past kind s _ r (sound q) past)
    none false q = unfold look_block ◌if◌else◌ in rw q refl

-- ---- where the rules part: nothing but the last module

-- an entry's tests beside its fields
good_map : Kind → List ℕ → ℕ → Bool
good_map kind s e = all (in_range kind s e) (numbers kind) and all (is_first kind s e) (numbers kind) and not (is_repeat s e)

module _ (u w : Rule) where
  length_with : (kind : Kind) (s : List ℕ) → good_length (with_rule u kind) s ≡ good_length (with_rule w kind) s
  unfolding with_rule good_length blocks block_size fewest most
  length_with (Small x) s = refl
  length_with (Large x) s = refl

  entries_with : (kind : Kind) → entries (with_rule u kind) ≡ entries kind
  unfolding with_rule entries
  entries_with (Small x) = refl
  entries_with (Large x) = refl

  first-with : (kind : Kind) (s : List ℕ) (e : ℕ) → has_first (with_rule u kind) s e ≡ has_first (with_rule w kind) s e
  unfolding with_rule has_first entries
  first-with (Small x) s e = refl
  first-with (Large x) s e = refl

  -- the block numbers of an entry are as good
  maps_with : (kind : Kind) (s : List ℕ) (e : ℕ) → good_map (with_rule u kind) s e ≡ good_map (with_rule w kind) s e
  unfolding good_map with_rule numbers in_range is_first named_before names_block holds_number map_number width blocks block_size
  maps_with (Small x) s e = refl
  maps_with (Large x) s e = refl

  last_with : (kind : Kind) → last_module (with_rule u kind) ≡ module_of u
  unfolding with_rule last_module rule_of
  last_with (Small x) = refl
  last_with (Large x) = refl

-- the highest record and its module, of either size
top_with : (u : Rule) (kind : Kind) → top (with_rule u kind) ≡ highest u
unfolding with_rule top rule_of
top_with u (Small x) = refl
top_with u (Large x) = refl

-- a used entry's module is at most the last one
module_low : (kind : Kind) (s : List ℕ) (e : ℕ) → good_fields kind s e ≡ true → entry_byte s e 14 ≤ last_module kind
unfolding good_fields good_numbers
module_low kind s e h = leb-true _ _ (and_fst _ _ (and_snd _ _ (and_snd _ _ (and_snd _ _ h))))

-- its fields are as good under a rule whose last module is not below it
fields_with : (a b : Kind) (s : List ℕ) (e : ℕ) → entry_byte s e 14 ≤ last_module b → good_fields a s e ≡ true → good_fields b s e ≡ true
unfolding good_fields good_numbers
fields_with a b s e low h =
    let g = and_snd _ _ (and_snd _ _ h) in
    and_both _ _ (and_fst _ _ h) (and_both _ _ (and_fst _ _ (and_snd _ _ h)) (and_both _ _ (and_fst _ _ g)
    (and_both _ _ (le-leb _ _ low) (and_snd _ _ (and_snd _ _ g)))))

-- the entries of a sound image, as tested
entry_good : (kind : Kind) (s : List ℕ) (e : ℕ) → sound_image kind s ≡ true → e < entries kind → good_entry kind s e ≡ true
unfolding sound_image sound_directory
entry_good kind s e h l = all_at (good_entry kind s) (entries kind) e (and_fst _ _ (and_snd _ _ h)) l

used_fields : (kind : Kind) (s : List ℕ) (e : ℕ) → sound_image kind s ≡ true → e < entries kind → is_empty s e ≡ false → good_fields kind s e ≡ true
unfolding good_entry
used_fields kind s e h l q = and_fst _ _ (or_so _ _ (entry_good kind s e h l) q)

-- what is sound under one rule is sound under another, where no module is past the other's last
sound_with : (u w : Rule) (kind : Kind) (s : List ℕ)
    → ((e : ℕ) → e < entries kind → is_empty s e ≡ false → entry_byte s e 14 ≤ module_of u → entry_byte s e 14 ≤ module_of w)
    → sound_image (with_rule u kind) s ≡ true → sound_image (with_rule w kind) s ≡ true
unfolding sound_image sound_directory
sound_with u w kind s low h =
    and_both _ _ (sym (length_with u w kind s) ∙ and_fst _ _ h)
    (and_both _ _ (all_make (good_entry (with_rule w kind) s) (entries (with_rule w kind)) entry)
    (all_make (has_first (with_rule w kind) s) (entries (with_rule w kind)) (λ e l. sym (first-with u w kind s e)
    ∙ all_at (has_first (with_rule u kind) s) (entries (with_rule u kind)) e (and_snd _ _ (and_snd _ _ h)) (there e l))))
  where
    within : (e : ℕ) → e < entries (with_rule w kind) → e < entries kind
    within e l = let z = entries_with w w kind in omega arith

    there : (e : ℕ) → e < entries (with_rule w kind) → e < entries (with_rule u kind)
    there e l = let z = entries_with w w kind in let y = entries_with u u kind in omega arith

    used : (e : ℕ) → e < entries (with_rule w kind) → is_empty s e ≡ false → good_fields (with_rule w kind) s e ≡ true
    used e l q =
        let g = used_fields (with_rule u kind) s e h (there e l) q in
        let m = module_low (with_rule u kind) s e g in
        let x = last_with u u kind in
        let y = last_with w w kind in
        let z = low e (within e l) q (omega arith) in
        fields_with (with_rule u kind) (with_rule w kind) s e (omega arith) g

    entry : (e : ℕ) → e < entries (with_rule w kind) → good_entry (with_rule w kind) s e ≡ true
    entry e l = unfold good_entry good_map in or_case _ _ (λ q. and_both _ _ (used e l q)
        (sym (maps_with u w kind s e) ∙ and_snd _ _ (or_so _ _ (entry_good (with_rule u kind) s e h (there e l)) q)))

-- ---- rule 1, in numbers

cpm_top : (kind : Kind) → top (with_rule Cpm kind) ≡ 65535
unfolding highest
cpm_top kind = top_with Cpm kind

cpm_module : (kind : Kind) → last_module (with_rule Cpm kind) ≡ 15
unfolding module_of
cpm_module kind = last_with Cpm Cpm kind

beyond : (kind : Kind) (r : ℕ) → 65536 ≤ r → top (with_rule Cpm kind) < r
beyond kind r l = let z = cpm_top kind in omega arith

-- the record number is past its end where byte 35 is not zero, and only there
past : (kind : Kind) (fcb : List ℕ) → byte fcb 33 < 256 → byte fcb 34 < 256 → (byte fcb 35 ≡ 0 → ⊥) → top (with_rule Cpm kind) < record_of fcb
past kind fcb low mid some = rw (top_with Cpm kind) (byte_past fcb low mid Cpm (above (byte fcb 35) some))
  where
    above : (n : ℕ) → (n ≡ 0 → ⊥) → highest Cpm / 65536 < n
    above zero z = absurd (z refl)
    above (suc n) z = unfold highest in omega arith

not_past : (kind : Kind) (fcb : List ℕ) → byte fcb 33 < 256 → byte fcb 34 < 256 → byte fcb 35 ≡ 0 → record_of fcb ≤ top (with_rule Cpm kind)
unfolding record_of
not_past kind fcb low mid none = let z = cpm_top kind in omega arith

-- no module of a used entry is above 15
cpm_modules : (kind : Kind) (s : List ℕ) → sound_image (with_rule Cpm kind) s ≡ true
    → (e : ℕ) → e < entries kind → is_empty s e ≡ false → entry_byte s e 14 ≤ 15
cpm_modules kind s h e l q =
    let z = entries_with Cpm Cpm kind in
    let m = module_low (with_rule Cpm kind) s e (used_fields (with_rule Cpm kind) s e h (omega arith) q) in
    let y = cpm_module kind in
    omega arith

-- what is sound under rule 1 is sound under rule 0, ..
sound_too : (kind : Kind) (s : List ℕ) → sound_image (with_rule Cpm kind) s ≡ true → sound_image (with_rule Mpm kind) s ≡ true
unfolding module_of
sound_too kind s h = sound_with Cpm Mpm kind s (λ e l q m. omega arith) h

-- .. and the other way round where no module is above 15
sound_when : (kind : Kind) (s : List ℕ) → sound_image (with_rule Mpm kind) s ≡ true
    → ((e : ℕ) → e < entries kind → is_empty s e ≡ false → entry_byte s e 14 ≤ 15) → sound_image (with_rule Cpm kind) s ≡ true
unfolding module_of
sound_when kind s h low = sound_with Mpm Cpm kind s (λ e l q m. low e l q) h

-- ---- the list's byte

-- a byte above 1 makes a list unsound
above_one : (kind : Kind) (list s : List ℕ) → 1 < byte list rule_at → sound_list kind list s ≡ false
unfolding is_rule unpack
above_one kind list s h =
    fails_too (is_rule (byte list rule_at)) (sound_list kind list s) (λ q. (list_sound_of kind list s q).limits.rule_good) (lt-leb (byte list rule_at) 1 h)

told_one : told_rule 1 ≡ Cpm
unfolding told_rule ◌if◌else◌
told_one = refl

told_other : (n : ℕ) → (n ≡ 1 → ⊥) → told_rule n ≡ Mpm
unfolding told_rule ◌if◌else◌
told_other n h = rw (ne_eqb n 1 h) refl

-- ---- a book of either rule under rule 0

-- sound under its own rule, it is sound under rule 0
pub sound_zero : (kind : Kind) (s : List ℕ) → sound_image kind s ≡ true → sound_image (with_rule Mpm kind) s ≡ true
unfolding with_rule
sound_zero (Small Mpm) s h = h
sound_zero (Small Cpm) s h = sound_too (Small Cpm) s h
sound_zero (Large Mpm) s h = h
sound_zero (Large Cpm) s h = sound_too (Large Cpm) s h

-- packing goes by the size of the drive, not by the rule
pub packed_rule : (u : Rule) (kind : Kind) (s : List ℕ) → packed (with_rule u kind) s ≡ packed kind s
unfolding with_rule packed packed_directory packed_blocks used_entries walk moved_entry moved_block new_map new_number is_numbered map_number blocks block_size
    entries numbers width
packed_rule u (Small w) s = refl
packed_rule u (Large w) s = refl

-- T-11's promises
pub rule_claims : RuleClaims
rule_claims = record {
  told_one = told_one;
  told_other = told_other;
  ends = λ kind. (cpm_top kind, cpm_module kind);
  past = past;
  not_past = not_past;
  no_block = λ kind s f r h l. no_block_past (with_rule Cpm kind) s f r h (beyond kind r l);
  no_look = λ kind user name r s l. no_look_past (with_rule Cpm kind) user name r s (beyond kind r l);
  started = start_rule;
  above_one = above_one;
  sound_too = sound_too;
  sound_when = sound_when;
  sound_only = cpm_modules;
}
