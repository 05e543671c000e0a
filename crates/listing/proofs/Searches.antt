-- What an accepted search answers and leaves. Assumes nothing.
use Prim.Native.Nat.{ℕ, ◌+◌, ◌*◌, ◌<◌}
use mathlib.Core.Path.{◌≡◌, refl, sym, ap, ◌∙◌}
use mathlib.Core.Bool.{true, false}
use mathlib.Core.List.{List, [], ◌∷◌, ◌++◌, append_assoc}
use mathlib.Core.Logic.{◌⊎◌, inl, inr, ⊎_elim}
use native.Mathlib.Omega.{arith}
use lib.ListN.{length, set, length-set}
use lib.Seq.{set-append_left}
use borrow.Author.Tests.{leb-false}
use lib.Dec.{leb}
use Rattle.words.specs.Tests.{◌if◌else◌}
use Rattle.words.specs.Lists.{tab, flat}
use Rattle.words.specs.Bytes.{byte_from, are_bytes}
use Rattle.words.specs.Tables.{any_row}
use Rattle.words.proofs.Tests.{either}
use Rattle.words.proofs.Lists.{tab_get_d, length-flat, set_behind}
use Rattle.words.proofs.AreBytes.{byte_small}
use Rattle.rules.specs.declared.kind.Kind.{Kind}
use Rattle.rules.specs.Kinds.{entries}
use Rattle.rules.specs.declared.list.LockList.{LockList}
use Rattle.rules.specs.declared.routine.Routine.TheVariants.{SearchFirst, SearchNext}
use Rattle.std.specs.Prelude.{Some}
use Rattle.rules.specs.Serves.{Buffers, chosen}
use Rattle.rules.specs.Locks.{moved_to, pack_item, pack}
use Rattle.rules.specs.Effects.{searched, finds, finds_none, does17, does18}
use Rattle.rules.specs.Call.{asked, asked_by, effect_of, rows_call, call}
use Rattle.rules.proofs.Packing.{packed_long, pack_unpack}
use Rattle.rules.proofs.SoundList.{Shape}
use Rattle.rules.proofs.Passed.{Passed}
use Rattle.soundness.proofs.Leaves.{list_of}
use Rattle.soundness.proofs.Ends.{shape_of}
use Rattle.soundness.proofs.Walk.{accepted_as}
use Rattle.listing.specs.Listing.{position_at, Searched}

-- ---- a position set is one byte of the list set

-- the bytes before the positions
front : LockList → List ℕ
front l = (l.capacity ∷ l.openlimit ∷ l.locklimit ∷ tab (byte_from l.users 0) 16) ++ flat pack_item l.items

pack_front : (l : LockList) → length l.positions ≡ 16 → pack l ≡ front l ++ (l.positions ++ (l.rule ∷ []))
unfolding pack front tab
pack_front l h =
    sym (append_assoc (l.capacity ∷ l.openlimit ∷ l.locklimit ∷ tab (byte_from l.users 0) 16) (flat pack_item l.items)
    (tab (byte_from l.positions 0) 16 ++ (l.rule ∷ [])))
    ∙ ap (λ (xs : List ℕ). front l ++ (xs ++ (l.rule ∷ []))) (tab_get_d l.positions 0 16 h)

front_long : (l : LockList) → length l.items ≡ 64 → length (front l) ≡ 1299
unfolding front tab
front_long l h = let k : length (flat pack_item l.items) ≡ 20 * length l.items = length-flat pack_item 20 packed_long l.items in omega arith

-- the list's bytes with the process's next entry at e
pub moved_bytes : (l : LockList) (p e : ℕ) → Shape l → p < 16 → pack (moved_to p e l) ≡ set (pack l) (position_at p) e
unfolding moved_to front
moved_bytes l p e h m =
    pack_front (moved_to p e l) (length-set l.positions p e ∙ h.positions_long)
    ∙ ap (λ (xs : List ℕ). front l ++ xs) (sym (set-append_left l.positions (l.rule ∷ []) p e (omega (arith, h.positions_long))))
    ∙ sym (set_behind (front l) (l.positions ++ (l.rule ∷ [])) p e)
    ∙ ap (λ (n : ℕ). set (front l ++ (l.positions ++ (l.rule ∷ []))) n e)
    (let z : length (front l) + p ≡ position_at p = omega (arith, front_long l h.items_long) in z)
    ∙ ap (λ (xs : List ℕ). set xs (position_at p) e) (sym (pack_front l h.positions_long))

-- ---- one search

module _ (kind : Kind) (p c : ℕ) (b : Buffers) (ok : Passed kind p c b) (bytes : are_bytes b.list ≡ true) where
  -- the list that was lent is the one that it reads as
  back : pack (list_of b) ≡ b.list
  back = pack_unpack kind b.list b.image ok.ready.list_long (λ i. byte_small b.list i bytes) ok.ready.list_sound

  moved_lent : (e : ℕ) → pack (moved_to p e (list_of b)) ≡ set b.list (position_at p) e
  moved_lent e = moved_bytes (list_of b) p e (shape_of kind p c b ok) ok.process_fits ∙ ap (λ (xs : List ℕ). set xs (position_at p) e) back

  -- .. whatever entry it comes to
  searched_so : (e : ℕ) → Searched kind p b (searched kind p (list_of b) e b)
  unfolding searched finds finds_none ◌if◌else◌
  searched_so e =
      ⊎_elim
      (λ (h : leb (entries kind) e ≡ true). rw h (record {
        answers = inr refl;
        none_shown = λ z. refl;
        position = (entries kind, omega arith, moved_lent (entries kind));
        fcb_same = refl;
        image_same = refl;
      }))
      (λ (h : leb (entries kind) e ≡ false).
      let m : e < entries kind = leb-false _ _ h in
      rw h (record {
        answers = inl (omega arith);
        none_shown = λ z. absurd (omega arith);
        position = (e + 1, omega arith, moved_lent (e + 1));
        fcb_same = refl;
        image_same = refl;
      }))
      (either (leb (entries kind) e))

-- what 17 and 18 do where no row refuses them
pub searches : (kind : Kind) (n p c : ℕ) (b : Buffers) → (chosen n ≡ Some SearchFirst) ⊎ (chosen n ≡ Some SearchNext) → any_row (rows_call kind n p c b) ≡ false
    → are_bytes b.list ≡ true → Searched kind p b (call kind n p c b)
unfolding effect_of asked asked_by does17 does18
searches kind n p c b k h bytes =
    ⊎_elim
    (λ (e : chosen n ≡ Some SearchFirst). let a = accepted_as kind n p c b (Some SearchFirst) e h in rw a.did (searched_so kind p c b a.ok bytes _))
    (λ (e : chosen n ≡ Some SearchNext). let a = accepted_as kind n p c b (Some SearchNext) e h in rw a.did (searched_so kind p c b a.ok bytes _)) k
