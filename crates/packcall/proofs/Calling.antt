-- The two ends of packing, and what is known once no row applies. Assumes nothing.
use Rattle.std.proofs.Common.{◌≡◌, ℕ, Bool, true, false, not, List, length, eqb, eq-eqb, ne_eqb, Result, Ok, Err, sym, ap, ◌∙◌, refl, rules}
use Rattle.std.specs.List.{list_any}
use Rattle.words.specs.Tests.{◌or◌, ◌if◌else◌}
use Rattle.words.specs.Tables.{first_of}
use Rattle.words.proofs.Sets.{codes}
use Rattle.rules.specs.declared.kind.Kind.{Kind}
use Rattle.rules.specs.declared.item.Item.{Item}
use Rattle.rules.specs.declared.list.LockList.{LockList}
use Rattle.rules.specs.Drive.{sound_image}
use Rattle.rules.specs.Locks.{blank, unpack, sound_list}
use Rattle.drive.proofs.Walks.{known_none}
use Rattle.rules.proofs.Chains.{any_all}
use Rattle.rules.proofs.Sound.{image_long}
use Rattle.packing.specs.Packed.{packed}
use Rattle.packing.specs.Packs.{packs, is_open_at, holds_open, rows_pack, pack}
use Rattle.packing.proofs.Answers.{Packable, pack_done, pack_refused, pack_passed}

module _ (kind : Kind) (s list out : List ℕ) (c : ℕ) (e : c ≡ first_of (rows_pack kind s list out)) where
  -- refused
  pub ends_refused : (c ≡ 0 → ⊥) → packs c out ≡ pack kind s list out
  ends_refused n = ap (λ (x : ℕ). packs x out) e ∙ sym (pack_refused kind s list out (λ q. n (e ∙ q)))

  module _ (z : c ≡ 0) where
    passed : Packable kind s list out
    passed = pack_passed kind s list out (sym e ∙ z)

    -- packed
    pub ends_packed : (o : List ℕ) → o ≡ packed kind s → packs 0 o ≡ pack kind s list out
    ends_packed o h = ap (packs 0) h ∙ sym (pack_done kind s list out (sym e ∙ z))

    pub passed_sound : sound_image kind s ≡ true
    passed_sound = passed.sound

    pub passed_room : length out ≡ length s
    passed_room = passed.room

-- ---- 255/13: its test, when a length is wrong and when none is

module _ (s list out : List ℕ) where
  pub list_wrong : (length list ≡ 1316 → ⊥) → (not (eqb (length list) 1316) or not (eqb (length out) (length s))) ≡ true
  unfolding ◌or◌
  list_wrong h = rw (ne_eqb _ _ h)

  pub out_wrong : length list ≡ 1316 → (length out ≡ length s → ⊥) → (not (eqb (length list) 1316) or not (eqb (length out) (length s))) ≡ true
  unfolding ◌or◌
  out_wrong e h = rw (eq-eqb _ _ e, ne_eqb _ _ h)

  pub lengths_right : length list ≡ 1316 → length out ≡ length s → (not (eqb (length list) 1316) or not (eqb (length out) (length s))) ≡ false
  unfolding ◌or◌
  lengths_right e h = rw (eq-eqb _ _ e, eq-eqb _ _ h)

pub opens_listed : (l : LockList) → length l.items ≡ 64 → holds_open l ≡ list_any (λ (it : Item). eqb it.kind 1) l.items
unfolding holds_open is_open_at
opens_listed l h = sym (any_all (λ (it : Item). eqb it.kind 1) (is_open_at l) blank l.items 64 h (λ k m. refl))

-- no row applies
module _ (kind : Kind) (s list out : List ℕ) (long : length list ≡ 1316) (room : length out ≡ length s) (good : sound_image kind s ≡ true) where
  pub none_so : sound_list kind list s ≡ true → holds_open (unpack list) ≡ false → 0 ≡ first_of (rows_pack kind s list out)
  unfolding rows_pack first_of ◌if◌else◌
  none_so h o = rw (lengths_right s list out long room, good, h, o) refl

pub ruleset none_applies = (rules, none_so)

pub ruleset refusing = (codes, known_none, image_long, list_wrong, out_wrong, lengths_right)

pub ruleset ending = (rules, ends_refused, ends_packed, passed_sound, passed_room)
