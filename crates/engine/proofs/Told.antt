-- The outcome at each end of a function that is told the kind of drive by a number. Assumes nothing.
use Prim.Native.Nat.{ℕ, ◌<◌}
use mathlib.Core.Path.{◌≡◌, refl, sym, ap, ◌∙◌}
use mathlib.Core.Bool.{true}
use mathlib.Core.List.{List}
use mathlib.Core.Logic.{⊎_elim}
use native.Mathlib.Omega.{arith}
use Rattle.words.specs.Tables.{first_of}
use Rattle.words.proofs.Tests.{equal?}
use Rattle.rules.specs.declared.kind.Rule.{Rule}
use Rattle.rules.specs.declared.kind.Kind.{Kind}
use Rattle.std.specs.Prelude.{Option, Some, None, Result}
use Rattle.rules.specs.declared.answer.ImageFault.{ImageFault}
use Rattle.rules.specs.Kinds.{told_kind}
use Rattle.rules.specs.Serves.{Buffers}
use Rattle.rules.specs.Drive.{blocks, image_check, fault_number, fault_entry, image_number, image_entry, image_told}
use Rattle.rules.specs.Locks.{Started, start}
use Rattle.rules.specs.Look.{look_at}
use Rattle.rules.specs.Told.{five_told, singly_five_told, start_told, build_told, check_told, look_told}
use Rattle.rules.specs.Vector.{DidFive, call_five, singly_five, built, build}
use Rattle.rules.proofs.Ends.{did_none}
use Rattle.rules.proofs.Sizes.{most_fits, begins_below}
use Rattle.rules.proofs.Sound.{sound_length, length_whole, length_few}
use Rattle.rules.proofs.Look.{look_inside, look_sound}
use Rattle.locklist.specs.Start.{DidStart}
use Rattle.calls.specs.Calls.{call_by, five_by}
use Rattle.calls.proofs.Fives.{five_as}
use Rattle.repair.specs.Salvage.{salvaged, salvage, salvage_told}
use Rattle.packing.specs.Packs.{packs, pack, pack_told}
use Rattle.packing.specs.Same.{rows_same, same_told}

-- after `let Option Kind::Some(known) = told_kind(kind, rule) else { return .. }`, the rule being what the list or a number tells
module _ (n : ℕ) (u w : Rule) (same : u ≡ w) (t : Option Kind) (is : t ≡ told_kind n u) where
  told_so : t ≡ told_kind n w
  told_so = is ∙ ap (told_kind n) same

  module _ (kind : Kind) (known : t ≡ Some kind) where
    kind_is : Some kind ≡ told_kind n w
    kind_is = sym known ∙ told_so

    pub call_known : (f p c : ℕ) (v : List ℕ) (b : Buffers) (a : ℕ) (left : Buffers) (u : List ℕ) → DidFive (five_by kind true f p c v b) a left u
        → DidFive (five_told (told_kind n w) f p c v b) a left u
    unfolding five_told call_five five_by call_by
    call_known f p c v b a left u d = five_as _ _ a left u (ap (λ (x : Option Kind). five_told x f p c v b) kind_is) d

    pub singly_known : (f p c : ℕ) (v : List ℕ) (b : Buffers) (a : ℕ) (left : Buffers) (u : List ℕ) → DidFive (singly_five kind f p c v b) a left u
        → DidFive (singly_five_told (told_kind n w) f p c v b) a left u
    unfolding singly_five_told
    singly_known f p c v b a left u d = five_as _ _ a left u (ap (λ (x : Option Kind). singly_five_told x f p c v b) kind_is) d

    pub start_known : (c o k r : ℕ) (users list : List ℕ) (a : ℕ) (left : List ℕ) → DidStart (start kind c o k r users list) a left
        → DidStart (start_told (told_kind n w) c o k r users list) a left
    unfolding start_told
    start_known c o k r users list a left d =
        let e : start kind c o k r users list ≡ start_told (told_kind n w) c o k r users list = ap (λ (x : Option Kind). start_told x c o k r users list) kind_is in
        rw e at d

    pub check_known : (i : Result (Unit {0}) ImageFault) (a : ℕ) (s : List ℕ) → i ≡ image_check kind s → a ≡ image_told i → a ≡ check_told (told_kind n w) s
    unfolding check_told
    check_known i a s h g = g ∙ ap image_told h ∙ ap (λ (x : Option Kind). check_told x s) kind_is

    pub build_known : (s v : List ℕ) (a : ℕ) (u : List ℕ) → built a u ≡ build kind s v → built a u ≡ build_told (told_kind n w) s v
    unfolding build_told
    build_known s v a u h = h ∙ ap (λ (x : Option Kind). build_told x s v) kind_is

    pub look_known : (a user : ℕ) (name : List ℕ) (r : ℕ) (s : List ℕ) → a ≡ look_at kind user name r s → a ≡ look_told (told_kind n w) user name r s
    unfolding look_told
    look_known a user name r s h = h ∙ ap (λ (x : Option Kind). look_told x user name r s) kind_is

    pub salvage_known : (a : ℕ) (s r u q : List ℕ) → salvaged a u q ≡ salvage kind s r → salvaged a u q ≡ salvage_told (told_kind n w) s r
    unfolding salvage_told
    salvage_known a s r u q h = h ∙ ap (λ (x : Option Kind). salvage_told x s r) kind_is

    pub pack_known : (s list out : List ℕ) (a : ℕ) (left : List ℕ) → packs a left ≡ pack kind s list out → packs a left ≡ pack_told (told_kind n w) s list out
    unfolding pack_told
    pack_known s list out a left h = h ∙ ap (λ (x : Option Kind). pack_told x s list out) kind_is

    pub same_known : (s u : List ℕ) (a : ℕ) → a ≡ first_of (rows_same kind s u) → a ≡ same_told (told_kind n w) s u
    unfolding same_told
    same_known s u a h = h ∙ ap (λ (x : Option Kind). same_told x s u) kind_is

  module _ (other : t ≡ None) where
    other_is : None ≡ told_kind n w
    other_is = sym other ∙ told_so

    pub call_other : (f p c : ℕ) (v : List ℕ) (b : Buffers) → DidFive (five_told (told_kind n w) f p c v b) 3583 b v
    unfolding five_told
    call_other f p c v b = five_as _ _ _ _ _ (ap (λ (x : Option Kind). five_told x f p c v b) other_is) (record { outcome_so = did_none 3583 b; vector_so = refl })

    pub singly_other_kind : (f p c : ℕ) (v : List ℕ) (b : Buffers) → DidFive (singly_five_told (told_kind n w) f p c v b) 3583 b v
    unfolding singly_five_told
    singly_other_kind f p c v b =
        five_as _ _ _ _ _ (ap (λ (x : Option Kind). singly_five_told x f p c v b) other_is) (record { outcome_so = did_none 3583 b; vector_so = refl })

    pub start_other : (c o k r : ℕ) (users list : List ℕ) → DidStart (start_told (told_kind n w) c o k r users list) 3583 list
    unfolding start_told
    start_other c o k r users list =
        let e : ◌≡◌ {A = Started} (record { answer = 3583; list = list }) (start_told (told_kind n w) c o k r users list) = ap
        (λ (x : Option Kind). start_told x c o k r users list) other_is in
        record { gives = ap (λ (x : Started). x.answer) e; leaves = ap (λ (x : Started). x.list) e }

    pub check_other : (s : List ℕ) → 1 ≡ check_told (told_kind n w) s
    unfolding check_told image_told image_number image_entry fault_number fault_entry
    check_other s = ap (λ (x : Option Kind). check_told x s) other_is

    pub build_other : (s v : List ℕ) → built 3583 v ≡ build_told (told_kind n w) s v
    unfolding build_told
    build_other s v = ap (λ (x : Option Kind). build_told x s v) other_is

    pub look_other : (user : ℕ) (name : List ℕ) (r : ℕ) (s : List ℕ) → 0 ≡ look_told (told_kind n w) user name r s
    unfolding look_told
    look_other user name r s = ap (λ (x : Option Kind). look_told x user name r s) other_is

    pub salvage_other : (s r : List ℕ) → salvaged 1 s r ≡ salvage_told (told_kind n w) s r
    unfolding salvage_told
    salvage_other s r = ap (λ (x : Option Kind). salvage_told x s r) other_is

    pub pack_other : (s list out : List ℕ) → packs 3583 out ≡ pack_told (told_kind n w) s list out
    unfolding pack_told
    pack_other s list out = ap (λ (x : Option Kind). pack_told x s list out) other_is

    pub same_other : (s u : List ℕ) → 1 ≡ same_told (told_kind n w) s u
    unfolding same_told
    same_other s u = ap (λ (x : Option Kind). same_told x s u) other_is

-- ---- Look's number

pub look_small : (kind : Kind) (at u : ℕ) (name : List ℕ) (q : ℕ) (s : List ℕ) → at ≡ look_at kind u name q s → at < 4294967296
look_small kind at u name q s e =
    ⊎_elim
    (λ (z : at ≡ 0). omega arith)
    (λ (z : at ≡ 0 → ⊥).
    let n : look_at kind u name q s ≡ 0 → ⊥ = λ y. z (e ∙ y) in
    let h = look_sound kind u name q s n in
    let i = (look_inside kind u name q s n).1 in
    let w = length_whole kind s (sound_length kind s h) in
    let f = length_few kind s (sound_length kind s h) in
    let m = most_fits kind in
    let k = begins_below kind (blocks kind s) (omega arith) in
    omega arith)
    (equal? at 0)
