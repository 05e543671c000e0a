-- A name that a sound image has is legal and has no high bits: an item that is found there needs no look at its name. Assumes nothing.
use Rattle.std.proofs.Common.{◌≡◌, ℕ, ◌/◌, ◌≤◌, ◌<◌, Bool, true, false, List, length, ltb, eqb, sym, ap, ◌∙◌, ⊎_elim, rules}
use Rattle.std.proofs.lemmas.Bool.{eqb-false, leb-false, le-leb, lt-leb, ltb-true, ltb-false, not-true}
use Rattle.words.specs.Tests.{◌if◌else◌, all}
use Rattle.words.proofs.Tests.{either, and_fst, and_snd}
use Rattle.words.proofs.Sets.{and_first, and_then, and_last}
use Rattle.rules.specs.declared.kind.Kind.{Kind}
use Rattle.rules.specs.declared.file.File.{File}
use Rattle.rules.specs.declared.item.Item.{Item}
use Rattle.rules.specs.Kinds.{entries, top}
use Rattle.rules.specs.Drive.{user_byte, name_at, legal_name, file_at, entry_of, look_up, missing, good_fields, sound_image}
use Rattle.rules.specs.Locks.{is_low}
use Rattle.rules.proofs.Sound.{Is, found_is, image_long, sound_of, block_named}
use Rattle.soundness.proofs.Taken.{name_low, name_legal}
use Rattle.listcheck.specs.Check.{file_by, open_alone, lock_alone, item_alone}

module _ (kind : Kind) (s : List ℕ) (f : File) (x : ℕ) (long : length f.name ≡ 11) (there : entry_of kind s f x < entries kind) where
  is : Is s f x (entry_of kind s f x)
  is = found_is kind s f x long there

  found_low : all (is_low f.name) 11 ≡ true
  unfolding file_at
  found_low =
      let e = entry_of kind s f x in
      ap (λ (g : File). all (is_low g.name) 11) (sym is.file) ∙ name_low (user_byte s e) s (name_at e)

  found_legal : sound_image kind s ≡ true → legal_name f.name 0 ≡ true
  unfolding file_at good_fields
  found_legal h =
      let e = entry_of kind s f x in
      let g = (sound_of kind s h).files.fields e there is.used in
      ap (λ (g : File). legal_name g.name 0) (sym is.file) ∙ name_legal (user_byte s e) s (name_at e) (and_fst _ _ (and_snd _ _ g))

module _ (kind : Kind) (s users : List ℕ) (it : Item) where
  open_there : open_alone kind s users it ≡ true → entry_of kind s (file_by users it) 0 < entries kind
  unfolding open_alone missing look_up
  open_there h = leb-false _ _ (not-true _ (and_snd _ _ (and_snd _ _ h)))

  lock_there : lock_alone kind s users it ≡ true → entry_of kind s (file_by users it) (it.number / 128) < entries kind
  unfolding lock_alone
  lock_there h = (block_named kind s (file_by users it) it.number (eqb-false _ _ (not-true _ (and_snd _ _ h)))).entry_there

  there : (open_alone kind s users it if eqb it.kind 1 else lock_alone kind s users it) ≡ true → (x : ℕ) × (entry_of kind s (file_by users it) x < entries kind)
  unfolding ◌if◌else◌
  there h =
      ⊎_elim (λ (q : eqb it.kind 1 ≡ true). let o : open_alone kind s users it ≡ true = rw q at h in (0, open_there o))
      (λ (q : eqb it.kind 1 ≡ false). let o : lock_alone kind s users it ≡ true = rw q at h in (it.number / 128, lock_there o)) (either (eqb it.kind 1))

  -- the process is past the last
  pub item_past : 15 < it.process → false ≡ item_alone kind s users it
  unfolding item_alone
  item_past h = and_first _ _ (lt-leb _ _ h)

  -- the record is past the highest
  pub item_far : (t : Bool) → t ≡ ltb (top kind) it.number → t ≡ true → false ≡ item_alone kind s users it
  unfolding item_alone
  item_far t e h = sym (and_last _ _ (and_last _ _ (and_last _ _ (sym (and_first _ _ (lt-leb _ _ (ltb-true (top kind) it.number (sym e ∙ h))))))))

  -- what it needs of the image is all that is left to ask
  pub item_by : (r t : Bool) → sound_image kind s ≡ true → length it.name ≡ 11 → it.process ≤ 15 → t ≡ ltb (top kind) it.number → t ≡ false
      → r ≡ (open_alone kind s users it if eqb it.kind 1 else lock_alone kind s users it) → r ≡ item_alone kind s users it
  unfolding item_alone
  item_by r t sound long p e u h =
      let n = ltb-false (top kind) it.number (sym e ∙ u) in
      ⊎_elim
      (λ (q : r ≡ true).
      let g = there (sym h ∙ q) in
      and_then r _ _ (le-leb _ _ p) (and_then r _ _ (found_legal kind s (file_by users it) g.0 long g.1 sound)
      (and_then r _ _ (found_low kind s (file_by users it) g.0 long g.1) (and_then r _ _ (le-leb _ _ n) h))))
      (λ (q : r ≡ false). q ∙ sym (and_last _ _ (and_last _ _ (and_last _ _ (and_last _ _ (sym h ∙ q))))))
      (either r)

pub ruleset judging_items = (rules, image_long, item_past, item_far, item_by)
