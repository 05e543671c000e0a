-- Items that are the same, and that nothing is held twice. Assumes nothing.
use Prim.Native.Nat.{ℕ, zero, suc, ◌+◌, ◌≤◌}
use mathlib.Core.Path.{◌≡◌, refl, sym, ◌∙◌}
use mathlib.Core.Bool.{Bool, true, false, not}
use mathlib.Core.List.{List, [], ◌∷◌}
use mathlib.Core.Logic.{⊎_elim}
use native.Mathlib.Omega.{arith}
use borrow.Author.Tests.{eqb-true, eq-eqb}
use Rattle.words.specs.Tests.{◌and◌, ◌or◌, ◌if◌else◌}
use Rattle.words.specs.Lists.{turns, tally, without}
use Rattle.words.proofs.Tests.{either, never, and_fst, and_snd}
use Rattle.words.proofs.Sets.{and_both}
use Rattle.rules.specs.declared.item.Item.{Item}
use Rattle.rules.specs.Locks.{fresh_open, fresh_lock, same_name}
use Rattle.rules.proofs.Items.{name_refl, name_sym, name_then}
use Rattle.history.specs.Deeds.{Deed, nothing, opens, closes, locks, unlocks, ends, touches, drops, carries, tells}
use Rattle.history.specs.Held.{same_item, is_among, granting, granting_at, granting_run, holding}
use Rattle.words.proofs.Tallies.{tally_less, tally-without}

-- what two items that are the same have in common
pub record Alike (a b : Item) : Type 0 where
  -- they are of one kind, ..
  pub kinds : a.kind ≡ b.kind
  -- .. by one process, ..
  pub processes : a.process ≡ b.process
  -- .. of one name, ..
  pub names : same_name a.name b.name ≡ true
  -- .. in one mode, ..
  pub modes : a.mode ≡ b.mode
  -- .. with one record number
  pub numbers : a.number ≡ b.number

-- items that are the same have all of it in common, ..
pub alike_of : (a b : Item) → same_item a b ≡ true → Alike a b
unfolding same_item
alike_of a b h =
    let h₁ = and_snd _ _ h in
    let h₂ = and_snd _ _ h₁ in
    let h₃ = and_snd _ _ h₂ in
    record {
      kinds = eqb-true _ _ (and_fst _ _ h);
      processes = eqb-true _ _ (and_fst _ _ h₁);
      names = and_fst _ _ h₂;
      modes = eqb-true _ _ (and_fst _ _ h₃);
      numbers = eqb-true _ _ (and_snd _ _ h₃);
    }

-- .. and items that have are the same;
pub alike_so : (a b : Item) → Alike a b → same_item a b ≡ true
unfolding same_item
alike_so a b h =
    and_both _ _ (eq-eqb a.kind b.kind h.kinds) (and_both _ _ (eq-eqb a.process b.process h.processes) (and_both _ _ h.names
    (and_both _ _ (eq-eqb a.mode b.mode h.modes) (eq-eqb a.number b.number h.numbers))))

-- each item is the same as itself, ..
pub same_refl : (a : Item) → same_item a a ≡ true
same_refl a = alike_so a a (record { kinds = refl; processes = refl; names = name_refl a.name; modes = refl; numbers = refl })

-- .. two are so both ways, ..
pub same_sym : (a b : Item) → same_item a b ≡ true → same_item b a ≡ true
same_sym a b h =
    let w = alike_of a b h in
    alike_so b a (record {
      kinds = sym w.kinds;
      processes = sym w.processes;
      names = name_sym _ _ w.names;
      modes = sym w.modes;
      numbers = sym w.numbers;
    })

-- .. and two that are the same as a third are
pub same_then : (a b c : Item) → same_item a b ≡ true → same_item b c ≡ true → same_item a c ≡ true
same_then a b c h k =
    let w = alike_of a b h in
    let v = alike_of b c k in
    alike_so a c (record {
      kinds = w.kinds ∙ v.kinds;
      processes = w.processes ∙ v.processes;
      names = name_then _ _ _ w.names v.names;
      modes = w.modes ∙ v.modes;
      numbers = w.numbers ∙ v.numbers;
    })

-- ---- among those held

-- an item among those held is counted, ..
pub among_tally : (x : Item) (g : List Item) → is_among x g ≡ true → 1 ≤ tally (same_item x) g
unfolding is_among tally ◌or◌ ◌if◌else◌
among_tally x [] h = absurd (never h refl)
among_tally x (y ∷ ys) h =
    ⊎_elim (λ (q : same_item x y ≡ true). rw q (omega arith))
    (λ (q : same_item x y ≡ false). rw q (let k = among_tally x ys (rw q at h) in omega arith)) (either (same_item x y))

-- .. one that is not is not counted;
pub not_among : (x : Item) (g : List Item) → is_among x g ≡ false → tally (same_item x) g ≡ 0
unfolding is_among tally ◌or◌ ◌if◌else◌
not_among x [] h = refl
not_among x (y ∷ ys) h =
    ⊎_elim (λ (q : same_item x y ≡ true). absurd (never refl (rw q at h)))
    (λ (q : same_item x y ≡ false). rw q (let k = not_among x ys (rw q at h) in omega arith)) (either (same_item x y))

-- an item that is counted is among them, ..
pub among_so : (x : Item) (g : List Item) → 1 ≤ tally (same_item x) g → is_among x g ≡ true
among_so x g h = ⊎_elim (λ q. q) (λ (q : is_among x g ≡ false). let k = not_among x g q in absurd (omega arith)) (either (is_among x g))

-- .. one that is not counted is not
pub among_not : (x : Item) (g : List Item) → tally (same_item x) g ≡ 0 → is_among x g ≡ false
among_not x g h = ⊎_elim (λ (q : is_among x g ≡ true). let k = among_tally x g q in absurd (omega arith)) (λ q. q) (either (is_among x g))

-- granting what is held changes nothing, ..
pub granting_held : (x : Item) (g : List Item) → is_among x g ≡ true → granting x g ≡ g
unfolding granting ◌if◌else◌
granting_held x g h = rw h refl

-- .. and else adds it
pub granting_new : (x : Item) (g : List Item) → is_among x g ≡ false → granting x g ≡ x ∷ g
unfolding granting ◌if◌else◌
granting_new x g h = rw h refl

-- ---- none held passes a test

pub record NonePass (test : Item → Bool) (g : List Item) : Type 0 where
  -- of the items held none passes
  pub none : tally test g ≡ 0

module _ (test : Item → Bool) where
  -- so it stays where an item is granted that does not pass, ..
  pub none_granting : (x : Item) (g : List Item) → test x ≡ false → NonePass test g → NonePass test (granting x g)
  unfolding tally ◌if◌else◌
  none_granting x g n w =
      ⊎_elim (λ (q : is_among x g ≡ true). rw (granting_held x g q) w)
      (λ (q : is_among x g ≡ false). rw (granting_new x g q) (record { none = rw n (let k = w.none in omega arith) })) (either (is_among x g))

  -- .. where a run of locks is, of which none passes, ..
  pub none_run : (p : ℕ) (name : List ℕ) (r n : ℕ) (g : List Item) → ((k : ℕ) → test (fresh_lock p name k) ≡ false) → NonePass test g
      → NonePass test (turns (granting_at p name r) n g)
  unfolding turns granting_at
  none_run p name r zero g e w = w
  none_run p name r (suc n) g e w = none_granting _ _ (e (r + n)) (none_run p name r n g e w)

  -- .. and where some are taken back
  pub none_without : (away : Item → Bool) (g : List Item) → NonePass test g → NonePass test (without away g)
  none_without away g w = record {
    none =
        let k = tally_less (λ (y : Item). test y and not (away y)) test g (λ y d. and_fst _ _ d) in
        let m = w.none in
        omega (arith, tally-without test away g);
  }

-- ---- each is held once

-- nothing is held twice
pub record Once (g : List Item) : Type 0 where
  -- each item is held at most once
  pub once : (x : Item) → tally (same_item x) g ≤ 1

once_granting : (y : Item) (g : List Item) → Once g → Once (granting y g)
unfolding tally ◌if◌else◌
once_granting y g w =
    ⊎_elim (λ (q : is_among y g ≡ true). rw (granting_held y g q) w)
    (λ (q : is_among y g ≡ false). rw (granting_new y g q) (record {
      once = λ x. ⊎_elim
          (λ (e : same_item x y ≡ true).
          let k = tally_less (same_item x) (same_item y) g (λ z d. same_then y x z (same_sym x y e) d) in
          rw e (omega (arith, not_among y g q)))
          (λ (e : same_item x y ≡ false). rw e (let k = w.once x in omega arith)) (either (same_item x y));
    })) (either (is_among y g))

once_run : (p : ℕ) (name : List ℕ) (r n : ℕ) (g : List Item) → Once g → Once (turns (granting_at p name r) n g)
unfolding turns granting_at
once_run p name r zero g w = w
once_run p name r (suc n) g w = once_granting _ _ (once_run p name r n g w)

once_without : (away : Item → Bool) (g : List Item) → Once g → Once (without away g)
once_without away g w = record {
  once = λ x.
      let k = tally_less (λ (y : Item). same_item x y and not (away y)) (same_item x) g (λ y d. and_fst _ _ d) in
      let m = w.once x in
      omega (arith, tally-without (same_item x) away g);
}

-- what a call did makes nothing held twice
pub once_holding : (d : Deed) (g : List Item) → Once g → Once (holding d g)
unfolding holding granting_run ◌if◌else◌
once_holding nothing g w = w
once_holding (opens p f m) g w = once_granting _ _ w
once_holding (closes p f) g w = once_without _ g w
once_holding (locks p f r n) g w =
    ⊎_elim (λ q. rw q (once_run p f.name r n g w)) (λ q. rw q w) (either (is_among (fresh_open p f.name 1) g))
once_holding (unlocks p f r n) g w = once_without _ g w
once_holding (ends p) g w = once_without _ g w
once_holding (touches f r n) g w = w
once_holding (drops p f) g w = once_without _ g w
once_holding (carries f h) g w = w
once_holding tells g w = w
