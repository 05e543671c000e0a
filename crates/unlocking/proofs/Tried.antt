-- The statements tried on states of the session, on a drive of the first kind: both sides are computed; and the wrong Unlocks fall there.
-- Assumes nothing.
use Prim.Native.Nat.{ℕ}
use mathlib.Core.Path.{◌≡◌, refl, sym, ap, ◌∙◌}
use mathlib.Core.Bool.{true, false}
use mathlib.Core.List.{List}
use native.Mathlib.Omega.{arith}
use Rattle.words.specs.Bytes.{byte, are_bytes}
use Rattle.words.specs.Tables.{◌∕◌}
use Rattle.rules.specs.declared.kind.Kind.TheVariants.{Small}
use Rattle.rules.specs.declared.kind.Rule.TheVariants.{Mpm}
use Rattle.rules.specs.Serves.{Outcome, outcome}
use Rattle.session.specs.Open.{rules}
use Rattle.session.specs.Session.{orders, fcb_with, dma_with, image_with, unwritten, written_with, list_with, open_by, lock_by, none, list1, list3, list11, list12}
use Rattle.session.specs.Session.{image5}
use Rattle.unlocking.specs.Unlocks.{Asking, lent_to, after, locks, unlocks, Commutes, Repeats, holds_at, holds_some, GivesBack}
use Rattle.unlocking.specs.Wrong.{leaving, moved_at, moved_down, settling, unless_lock_of, swept, sweeping, strict, WrongUnlocks}

-- process, record, count and File ID of a Lock or Unlock of ORDERS.DAT
abbrev asks : ℕ → ℕ → ℕ → ℕ → Asking
asks p r c id = record { process = p; count = c; fcb = fcb_with r; dma = dma_with id }

unfoldable words : Unit {0}
unfolding orders fcb_with dma_with image_with unwritten written_with list_with open_by lock_by none list1 list3 list11 list12 image5
    are_bytes locks unlocks holds_at holds_some leaving moved_at moved_down settling unless_lock_of swept sweeping strict
words = tt

-- after S5: 1 unlocks record 0, and 2 record 8, which it does not hold; in either order the list is that after S1
one_first : unlocks (Small Mpm) (asks 1 0 1 0) list3 image5 ≡ outcome (0 ∕ 0) (lent_to (asks 1 0 1 0) list1 image5)
unfolding rules words
one_first = refl

two_second : unlocks (Small Mpm) (asks 2 8 1 1) list1 image5 ≡ outcome (0 ∕ 0) (lent_to (asks 2 8 1 1) list1 image5)
unfolding rules words
two_second = refl

two_first : unlocks (Small Mpm) (asks 2 8 1 1) list3 image5 ≡ outcome (0 ∕ 0) (lent_to (asks 2 8 1 1) list3 image5)
unfolding rules words
two_first = refl

-- 1 again changes nothing
one_again : unlocks (Small Mpm) (asks 1 0 1 0) list1 image5 ≡ outcome (0 ∕ 0) (lent_to (asks 1 0 1 0) list1 image5)
unfolding rules words
one_again = refl

-- S12 and the Unlock of its run: the list is that after S11 again
given_back : after (unlocks (Small Mpm)) (asks 2 8 1 1) (locks (Small Mpm) (asks 2 8 1 1) list11 image5) ≡ outcome (0 ∕ 0) (lent_to (asks 2 8 1 1) list11 image5)
unfolding rules words
given_back = refl

-- ---- wrong Unlocks

-- 2 holds record 0, at place 2, and locks record 8, at place 0
abbrev two : Asking
two = asks 2 8 1 1

abbrev held_one : List ℕ
held_one = list_with none (open_by 2) (lock_by 2 0)

two_locks : locks (Small Mpm) two held_one image5 ≡ outcome (0 ∕ 0) (lent_to two (list_with (lock_by 2 8) (open_by 2) (lock_by 2 0)) image5)
unfolding rules words
two_locks = refl

accepts : (locks (Small Mpm) two held_one image5).answer ≡ 0
accepts = ap (λ (o : Outcome). o.answer) two_locks

in_bytes : are_bytes held_one ≡ true
unfolding rules words
in_bytes = refl

holds_none : holds_some two held_one ≡ false
unfolding rules words
holds_none = refl

-- record 0's lock is then at place 0, ..
settles : (settling (Small Mpm) two (list_with (lock_by 2 8) (open_by 2) (lock_by 2 0)) image5).left.list ≡ list_with (lock_by 2 0) (open_by 2) none
unfolding rules words
settles = refl

-- .. or gone
sweeps : (sweeping (Small Mpm) two (list_with (lock_by 2 8) (open_by 2) (lock_by 2 0)) image5).left.list ≡ list_with none (open_by 2) none
unfolding rules words
sweeps = refl

-- byte 59 is the first of place 2: 4C of the lock, or 0
byte_was : byte held_one 59 ≡ 0x4C
unfolding rules words
byte_was = refl

-- the second of two same Unlocks is refused
stricter : strict (Small Mpm) (asks 1 0 1 0) list3 image5 ≡ outcome (0 ∕ 0) (lent_to (asks 1 0 1 0) list1 image5)
unfolding rules words
stricter = refl

strict_again : (strict (Small Mpm) (asks 1 0 1 0) list1 image5).answer ≡ 13
unfolding rules words
strict_again = refl

byte_settled : byte (list_with (lock_by 2 0) (open_by 2) none) 59 ≡ 0
unfolding rules words
byte_settled = refl

byte-swept : byte (list_with none (open_by 2) none) 59 ≡ 0
unfolding rules words
byte-swept = refl

-- a list with 0 there is not the list as it was
not_as_it_was : (list : List ℕ) → byte list 59 ≡ 0 → list ≡ held_one → ⊥
not_as_it_was list h e = let z : ◌≡◌ {A = ℕ} 0 0x4C = sym h ∙ ap (λ (s : List ℕ). byte s 59) e ∙ byte_was in absurd (omega arith)

module _ where
  settling_falls : GivesBack (locks (Small Mpm)) (settling (Small Mpm)) → ⊥
  unfolding GivesBack
  settling_falls h = not_as_it_was _ byte_settled
      (sym settles ∙ ap (λ (o : Outcome). (after (settling (Small Mpm)) two o).left.list) (sym two_locks)
      ∙ ap (λ (o : Outcome). o.left.list) (h two held_one image5 in_bytes holds_none accepts).back)

  sweeping_falls : GivesBack (locks (Small Mpm)) (sweeping (Small Mpm)) → ⊥
  unfolding GivesBack
  sweeping_falls h = not_as_it_was _ byte-swept
      (sym sweeps ∙ ap (λ (o : Outcome). (after (sweeping (Small Mpm)) two o).left.list) (sym two_locks)
      ∙ ap (λ (o : Outcome). o.left.list) (h two held_one image5 in_bytes holds_none accepts).back)

  -- the first answers 0/0, the second 13/0
  apart : (o : Outcome) → o ≡ strict (Small Mpm) (asks 1 0 1 0) list3 image5 → (after (strict (Small Mpm)) (asks 1 0 1 0) o).answer ≡ o.answer → ⊥
  apart o e d =
      let a : o.answer ≡ 0 = ap (λ (x : Outcome). x.answer) (e ∙ stricter) in
      let b : (after (strict (Small Mpm)) (asks 1 0 1 0) o).answer ≡ 13 =
      ap (λ (x : Outcome). (after (strict (Small Mpm)) (asks 1 0 1 0) x).answer) (e ∙ stricter) ∙ strict_again in
      absurd (omega arith)

  strict_falls : Commutes (strict (Small Mpm)) → ⊥
  unfolding Commutes
  strict_falls h = apart _ refl (h (asks 1 0 1 0) (asks 1 0 1 0) list3 image5).answers_u

  strict_falls_again : Repeats (strict (Small Mpm)) → ⊥
  unfolding Repeats
  strict_falls_again h = apart _ refl (ap (λ (o : Outcome). o.answer) (h (asks 1 0 1 0) list3 image5).same)

-- each of them fails its statement
pub wrong_unlocks : WrongUnlocks
wrong_unlocks = record {
  not_settling = settling_falls;
  not_sweeping = sweeping_falls;
  not_strict = strict_falls;
  not_strict_again = strict_falls_again;
}
