-- Laws of the marks. Assumes nothing.
use Rattle.std.proofs.Common.{Result, Ok, Err, is_ok, ℕ, ◌+◌, ◌*◌, ◌≤◌, ◌<◌, ◌≡◌, refl, sym, ap, ◌∙◌, List, [], ◌∷◌, Bool, true, false, not, true≢false}
use Rattle.std.proofs.Common.{⊎_elim, add-one, arith, eqb, leb, ltb, length, replicate, rules, eq-eqb, ne_eqb, le-leb, ltb-true}
use Rattle.std.proofs.Math.ListN.{length-replicate}
use borrow.Author.Tests.{lt-leb, not-true, not-false}
use Rattle.words.specs.Tests.{◌and◌, ◌or◌, ◌if◌else◌, all, any, lowest, count}
use Rattle.words.specs.Tables.{◌when◌, first_of, none_zero}
use Rattle.words.specs.Bits.{is_set, is_clear, with_bit}
use Rattle.words.proofs.Tests.{either, equal?, and_snd, or_so, all_none, all_more, all_at, any_none, any_skip, any_here}
use Rattle.words.proofs.Sets.{all_stops, all_ends, all_stops_as, all_ends_as, any_goes, if_yes, if_no, row_yes, row_no, row_none, part_first, part_then}
use Rattle.words.proofs.Sets.{answers}
use Rattle.words.proofs.AreBytes.{bytes_replicate}
use Rattle.words.proofs.Bitwise.{length_bit, set_here, set_there, set_none, bytes_bit}
use Rattle.words.specs.Hints.{Hints}
use Rattle.rules.specs.declared.kind.Kind.{Kind}
use Rattle.rules.specs.declared.answer.ImageFault.{ImageFault}
use Rattle.rules.specs.declared.answer.ImageFault.TheVariants.{BadUser, BadName, BadNumbers, BlockOutside, BlockBefore, ExtentBefore}
use Rattle.rules.specs.Kinds.{most, entries, numbers}
use Rattle.rules.specs.Drive.{blocks, user_byte, name_at, legal_name, good_user, good_numbers, good_fields, in_range, is_empty, map_number, holds_number, names_block, named_before}
use Rattle.rules.specs.Drive.{is_first, good_entry, free_block, free_blocks, is_repeat, reasons, reason, bad_for, is_bad, judged, is_sound}
use Rattle.rules.specs.Vector.{vector_of}
use Rattle.rules.proofs.Sizes.{vector_bits}
use Rattle.rules.proofs.Vector.{vector-long, lowest_free, count_free}
use Rattle.rules.proofs.Checks.{reason_good, judged_none, judged_at}
use Rattle.index.specs.Slots.{slot_at, in_use}
use Rattle.index.proofs.Slots.{known_empty}
use Rattle.drive.specs.Marks.{Marks, Marked, field_reasons, told_for, Judged}
use Rattle.drive.specs.Walks.{Repeats, Surveyed}
use Rattle.drive.proofs.Walks.{entry-byte}

-- ---- zeros

pub zeros : (kind : Kind) (low : ℕ) (s : List ℕ) (n : ℕ) → 8 * n ≡ most kind → Marks kind low s 0 0 (replicate n 0)
unfolding named_before any ◌or◌
zeros kind low s n h = record {
  long = rw (length-replicate {A = ℕ} n 0) h;
  bytes = bytes_replicate n 0 (omega arith);
  mark = λ x p l. set_none n x (omega arith);
}

-- ---- one number

or_more : (x y z : Bool) → y ≡ z → (x or y) ≡ (x or z)
or_more x y z e = rw e

or_here : (x y : Bool) → y ≡ true → true ≡ (x or y)
unfolding ◌or◌
or_here true y e = refl
or_here false y e = sym e

module _ (kind : Kind) (low : ℕ) (s : List ℕ) (e k : ℕ) (seen : List ℕ) (b : ℕ) (m : Marks kind low s e k seen) (is : b ≡ map_number kind s e k) where
  other : (x : ℕ) → (x ≡ b → ⊥) → named_before kind s x e k ≡ named_before kind s x e (k + 1)
  unfolding named_before holds_number
  other x q = or_more _ _ _ (sym (any_skip (holds_number kind s x e) k (ne_eqb _ _ (λ z. q (sym z ∙ sym is)))))

  -- it has no mark: it is below the lowest block that has one
  below : b < low → Marks kind low s e (k + 1) seen
  below z = record { long = m.long; bytes = m.bytes; mark = λ x p l. m.mark x p l ∙ other x (λ q. omega arith) }

  -- its mark is set
  pub marks_set : (t : List ℕ) → t ≡ with_bit b seen → b < most kind → Marks kind low s e (k + 1) t
  unfolding named_before holds_number
  marks_set t h f = rw h (record {
    long = rw (length_bit seen b) m.long;
    bytes = bytes_bit seen b m.bytes;
    mark = λ x p l.
        ⊎_elim
        (λ (q : x ≡ b). rw q (set_here seen b (omega (arith, m.long)) ∙ or_here _ _ (any_here (holds_number kind s b e) k (eq-eqb _ _ (sym is)))))
        (λ (q : x ≡ b → ⊥). set_there seen b x q (omega (arith, m.long)) ∙ m.mark x p l ∙ other x q) (equal? x b);
  })

module _ (kind : Kind) (s : List ℕ) (e k : ℕ) (seen : List ℕ) (b : ℕ) (m : Marks kind 1 s e k seen) (is : b ≡ map_number kind s e k) where
  -- no block
  pub marks_skip : b ≡ 0 → Marks kind 1 s e (k + 1) seen
  marks_skip z = below kind 1 s e k seen b m is (omega arith)

  -- it is the first of its kind or not by its mark
  pub first_zero : b ≡ 0 → is_first kind s e k ≡ true
  unfolding is_first ◌or◌
  first_zero z = rw (← is, z)

  by_mark : (b ≡ 0 → ⊥) → b < most kind → (t : Bool) → is_set seen b ≡ t → is_first kind s e k ≡ not t
  unfolding is_first ◌or◌
  by_mark z f t h = rw (← is, ne_eqb _ _ z, ← m.mark b (omega arith) f, h)

  pub first_unmarked : (b ≡ 0 → ⊥) → b < most kind → (t : Bool) → t ≡ is_set seen b → t ≡ false → is_first kind s e k ≡ true
  first_unmarked z f t h q = by_mark z f false (sym h ∙ q)

  pub first_marked : (b ≡ 0 → ⊥) → b < most kind → (t : Bool) → t ≡ is_set seen b → t ≡ true → is_first kind s e k ≡ false
  first_marked z f t h q = by_mark z f true (sym h ∙ q)

pub marks_long : (kind : Kind) (low : ℕ) (s : List ℕ) (e k : ℕ) (seen : List ℕ) (b : ℕ) → Marks kind low s e k seen → b < most kind → b < 8 * length seen
marks_long kind low s e k seen b m l = omega (arith, m.long)

-- it is in range by what the callees answered
pub range_as : (kind : Kind) (r : Bool) (s : List ℕ) (e k b n : ℕ) → b ≡ map_number kind s e k → n ≡ blocks kind s → r ≡ (eqb b 0 or (leb 2 b and ltb b n))
    → r ≡ in_range kind s e k
unfolding in_range
range_as kind r s e k b n p q h = rw (← p, ← q) h

-- a number out of range is found, and no earlier one
pub range_stops : (kind one : Kind) (s : List ℕ) (e k m b n : ℕ) (r : Bool) → kind ≡ one → m ≡ numbers kind → k < m → b ≡ map_number kind s e k → n ≡ blocks kind s
    → r ≡ (eqb b 0 or (leb 2 b and ltb b n)) → not r ≡ true → false ≡ all (in_range one s e) (numbers one)
range_stops kind one s e k m b n r q is there number size h z =
    rw (← q) (all_stops_as (in_range kind s e) m (numbers kind) k is there (sym (range_as kind r s e k b n number size h) ∙ not-true r z))

-- a number in range, of an entry whose numbers all are; `one` is the kind that the code's kind was made to be
module _ (kind one : Kind) (s : List ℕ) (e k m : ℕ) (seen : List ℕ) (b : ℕ) (q : kind ≡ one) (few : blocks one s ≤ most one)
    (range : all (in_range one s e) (numbers one) ≡ true) (is : m ≡ numbers kind) (there : k < m) (number : b ≡ map_number kind s e k)
    (marks : Marks kind 1 s e k seen) (some : b ≡ 0 → ⊥) where
  number_low : b < most kind
  unfolding in_range
  number_low =
      let f : blocks kind s ≤ most kind = rw (← q) at few in
      let h : all (in_range kind s e) (numbers kind) ≡ true = rw (← q) at range in
      let r = or_so _ _ (all_at (in_range kind s e) (numbers kind) k h (omega arith)) (ne_eqb _ _ (λ w. some (number ∙ w))) in
      let u : map_number kind s e k < blocks kind s = ltb-true _ _ (and_snd _ _ r) in
      omega arith

  -- it has a mark, ..
  pub number_fits : b < 8 * length seen
  number_fits = marks_long kind 1 s e k seen b marks number_low

  module _ (t : Bool) (h : t ≡ is_set seen b) where
    -- .. which was set: it is refused, ..
    pub number_twice : t ≡ true → Marked one s e false seen
    number_twice z = rw (← q) (record {
      first = all_stops_as (is_first kind s e) m (numbers kind) k is there (first_marked kind s e k seen b marks number some number_low t h z);
      marks = λ y. absurd (true≢false (sym y));
    })

    -- .. or was not: it is the first of its kind, ..
    pub number_first : t ≡ false → all (is_first kind s e) k ≡ true → all (is_first kind s e) (k + 1) ≡ true
    number_first z g = all_more (is_first kind s e) k g (first_unmarked kind s e k seen b marks number some number_low t h z)

  -- .. and its mark is set
  pub number_marked : (v : List ℕ) → v ≡ with_bit b seen → Marks kind 1 s e (k + 1) v
  number_marked v h = marks_set kind 1 s e k seen b marks number v h number_low

-- no block
pub number_none : (kind : Kind) (s : List ℕ) (e k : ℕ) (seen : List ℕ) (b : ℕ) → Marks kind 1 s e k seen → b ≡ map_number kind s e k → b ≡ 0
    → all (is_first kind s e) k ≡ true → all (is_first kind s e) (k + 1) ≡ true
number_none kind s e k seen b marks number z g = all_more (is_first kind s e) k g (first_zero kind s e k seen b marks number z)

-- all numbers
pub numbers_marked : (kind one : Kind) (s : List ℕ) (e k m : ℕ) (seen : List ℕ) → kind ≡ one → m ≡ numbers kind → all (is_first kind s e) k ≡ true → m ≤ k → k ≤ m
    → Marks kind 1 s e k seen → Marked one s e true seen
numbers_marked kind one s e k m seen q is h g l n =
    let z : k ≡ numbers kind = omega arith in
    rw (← q) (record { first = all_ends_as (is_first kind s e) m (numbers kind) k is h g l; marks = λ y. rw z at n })

-- ---- one entry

any_empty : (f : ℕ → Bool) → any f 0 ≡ false
unfolding any
any_empty f = refl

or_off : (x y : Bool) → y ≡ false → (x or y) ≡ x
unfolding ◌or◌
or_off true y e = refl
or_off false y e = e

pub to_next : (kind : Kind) (s : List ℕ) (x e : ℕ) → named_before kind s x e 0 ≡ any (names_block kind s x) e
unfolding named_before
to_next kind s x e = or_off _ _ (any_empty (holds_number kind s x e))

-- an empty entry marks nothing, ..
pub marks_empty : (kind : Kind) (low : ℕ) (s : List ℕ) (e : ℕ) (seen : List ℕ) (r : Bool) → Marks kind low s e 0 seen → r ≡ is_empty s e → r ≡ true
    → Marks kind low s (e + 1) 0 seen
unfolding names_block ◌and◌
marks_empty kind low s e seen r m h t = record {
  long = m.long;
  bytes = m.bytes;
  mark = λ x p l.
      m.mark x p l ∙ to_next kind s x e
      ∙ sym (any_skip (names_block kind s x) e (let q : is_empty s e ≡ true = sym h ∙ t in rw q)) ∙ sym (to_next kind s x (e + 1));
}

names_as : (kind : Kind) (s : List ℕ) (x e : ℕ) → is_empty s e ≡ false → names_block kind s x e ≡ any (holds_number kind s x e) (numbers kind)
unfolding names_block ◌and◌
names_as kind s x e u = rw u

any_as : (f : ℕ → Bool) (e : ℕ) (t : Bool) → f e ≡ t → (any f e or t) ≡ any f (e + 1)
unfolding any
any_as f e t h = rw (add-one, h)

-- .. one in use all that its map holds
pub marks_used : (kind : Kind) (low : ℕ) (s : List ℕ) (e k : ℕ) (seen : List ℕ) → Marks kind low s e k seen → k ≡ numbers kind → is_empty s e ≡ false
    → Marks kind low s (e + 1) 0 seen
unfolding named_before
marks_used kind low s e k seen m q u = record {
  long = m.long;
  bytes = m.bytes;
  mark = λ x p l.
      m.mark x p l ∙ ap (λ (j : ℕ). any (names_block kind s x) e or any (holds_number kind s x e) j) q
      ∙ any_as (names_block kind s x) e (any (holds_number kind s x e) (numbers kind)) (names_as kind s x e u) ∙ sym (to_next kind s x (e + 1));
}

-- ---- the ends of judging an entry

three_rows : (a b c : Bool) → eqb (first_of (2 when not a ∷ 3 when not b ∷ 4 when not c ∷ [])) 0 ≡ (a and b and c)
unfolding first_of ◌if◌else◌ ◌and◌
three_rows true true true = refl
three_rows true true false = refl
three_rows true false c = refl
three_rows false b c = refl

told_ok : (why e : ℕ) → is_ok (told_for why e) ≡ eqb why 0
unfolding told_for ◌if◌else◌
told_ok why e = ⊎_elim (λ (h : eqb why 0 ≡ true). rw h refl) (λ (h : eqb why 0 ≡ false). rw h refl) (either (eqb why 0))

-- nothing is told of the fields exactly where they are good
pub fields_good : (kind : Kind) (s : List ℕ) (e : ℕ) → is_ok (told_for (first_of (field_reasons kind s e)) e) ≡ good_fields kind s e
unfolding field_reasons good_fields
fields_good kind s e =
    told_ok (first_of (field_reasons kind s e)) e ∙ three_rows (good_user s e) (legal_name s (name_at e)) (good_numbers kind s e)

-- what is told for a reason: none, ..
told_none : (why e : ℕ) → why ≡ 0 → Ok tt ≡ told_for why e
unfolding told_for
told_none why e z = if_yes _ _ _ _ (eq-eqb why 0 z) refl

-- .. or a fault
told_some : (why e : ℕ) (f : ImageFault) → (why ≡ 0 → ⊥) → f ≡ bad_for why e → Err f ≡ told_for why e
unfolding told_for
told_some why e f n h = if_no _ _ _ _ (ne_eqb why 0 n) (ap (λ (g : ImageFault). Err g) h)

-- the reason from what is told
some_told : (why e : ℕ) (f : ImageFault) → Err f ≡ told_for why e → why ≡ 0 → ⊥
some_told why e f h z = let k = h ∙ sym (told_none why e z) in cc

none_told : (why e : ℕ) (x : Unit {0}) → Ok x ≡ told_for why e → why ≡ 0
none_told why e x h =
    ⊎_elim (λ (z : why ≡ 0). z) (λ (n : why ≡ 0 → ⊥). let k = h ∙ sym (told_some why e (bad_for why e) n refl) in cc) (equal? why 0)

-- the first three reasons in order
module _ (kind : Kind) (s : List ℕ) (e : ℕ) where
  pub fault_user : good_user s e ≡ false → Err (BadUser e) ≡ told_for (first_of (field_reasons kind s e)) e
  unfolding field_reasons told_for first_of bad_for ◌if◌else◌
  fault_user u = rw u refl

  module _ (u : good_user s e ≡ true) where
    pub fault_name : legal_name s (name_at e) ≡ false → Err (BadName e) ≡ told_for (first_of (field_reasons kind s e)) e
    unfolding field_reasons told_for first_of bad_for ◌if◌else◌
    fault_name n = rw (u, n) refl

    module _ (n : legal_name s (name_at e) ≡ true) where
      pub fault_numbers : good_numbers kind s e ≡ false → Err (BadNumbers e) ≡ told_for (first_of (field_reasons kind s e)) e
      unfolding field_reasons told_for first_of bad_for ◌if◌else◌
      fault_numbers m = rw (u, n, m) refl

      pub fault_none : good_numbers kind s e ≡ true → Ok tt ≡ told_for (first_of (field_reasons kind s e)) e
      unfolding field_reasons told_for first_of bad_for ◌if◌else◌
      fault_none m = rw (u, n, m) refl

pub user_good : (s : List ℕ) (e : ℕ) → user_byte s e ≤ 15 → good_user s e ≡ true
unfolding good_user
user_good s e h = le-leb _ _ h

pub user_bad : (s : List ℕ) (e : ℕ) → 15 < user_byte s e → good_user s e ≡ false
unfolding good_user
user_bad s e h = lt-leb _ _ h

pub ruleset faults = (rules, answers, fault_user, fault_name, fault_numbers, fault_none, user_good, user_bad)

module _ (kind : Kind) (s : List ℕ) (e : ℕ) (seen hints : List ℕ) where
  pub judged_empty : (r : Bool) → Marks kind 1 s e 0 seen → Hints (slot_at s) (in_use s) e hints → r ≡ is_empty s e → r ≡ true → Judged kind s e (Ok tt) seen hints
  unfolding reason
  judged_empty r m k h t = record {
    told = told_none (reason kind s e) e (sym (if_yes _ _ _ _ (sym h ∙ t) refl));
    marks = λ q. marks_empty kind 1 s e seen r m h t;
    knows = λ q. known_empty s e hints k (sym h ∙ t);
  }

  bad_so : (f : ImageFault) → Err f ≡ told_for (reason kind s e) e → Judged kind s e (Err f) seen hints
  unfolding is_sound
  bad_so f h = record { told = h; marks = λ q. absurd (true≢false (sym q)); knows = λ q. absurd (true≢false (sym q)) }

  module _ (r : Bool) (h : r ≡ is_empty s e) (u : r ≡ false) where
    -- one of the first three reasons
    pub judged-field : (x : ImageFault) → Err x ≡ told_for (first_of (field_reasons kind s e)) e → Judged kind s e (Err x) seen hints
    unfolding reason reasons field_reasons
    judged-field x f =
        let why = first_of (field_reasons kind s e) in
        let n = some_told why e x f in
        bad_so x (f ∙ ap (λ (w : ℕ). told_for w e) (if_no _ _ _ _ (sym h ∙ u) (part_first why (field_reasons kind s e) _ refl n)))

    module _ (o : Unit {0}) (f : Ok o ≡ told_for (first_of (field_reasons kind s e)) e) where
      -- the last three
      rest : (x : ℕ)
          → x ≡ first_of (5 when not (all (in_range kind s e) (numbers kind)) ∷ 6 when not (all (is_first kind s e) (numbers kind)) ∷ 7 when is_repeat s e ∷ [])
          → x ≡ reason kind s e
      unfolding reason reasons field_reasons none_zero ◌and◌
      rest x g =
          let why = first_of (field_reasons kind s e) in
          if_no _ _ _ _ (sym h ∙ u) (part_then why x (field_reasons kind s e) _ refl (none_told why e o f) refl g)

      last_bad : (x : ℕ) (b : ImageFault) → 0 < x → x ≡ reason kind s e → b ≡ bad_for x e → Judged kind s e (Err b) seen hints
      last_bad x b some g k = bad_so b (told_some x e b (λ z. omega arith) k ∙ ap (λ (w : ℕ). told_for w e) g)

      module _ (i : Bool) (k : i ≡ all (in_range kind s e) (numbers kind)) where
        pub judged_outside : not i ≡ true → Judged kind s e (Err (BlockOutside e)) seen hints
        unfolding bad_for ◌if◌else◌
        judged_outside n = last_bad 5 (BlockOutside e) (omega arith) (rest 5 (row_yes _ _ _ _ (ap not (sym k) ∙ n) refl)) refl

        module _ (n : not i ≡ false) (m : Bool) (d : Marked kind s e m seen) where
          pub judged_before : not m ≡ true → Judged kind s e (Err (BlockBefore e)) seen hints
          unfolding bad_for ◌if◌else◌
          judged_before b =
              last_bad 6 (BlockBefore e) (omega arith) (rest 6 (row_no _ _ _ _ (ap not (sym k) ∙ n) (row_yes _ _ _ _ (ap not (sym d.first) ∙ b) refl))) refl

          module _ (b : not m ≡ false) (y : Bool) (w : Repeats s e y hints) where
            last_row : (x : ℕ) → x ≡ first_of (7 when is_repeat s e ∷ []) → x ≡ reason kind s e
            last_row x g = rest x (row_no _ _ _ _ (ap not (sym k) ∙ n) (row_no _ _ _ _ (ap not (sym d.first) ∙ b) g))

            pub judged_repeat : y ≡ true → Judged kind s e (Err (ExtentBefore e)) seen hints
            unfolding bad_for ◌if◌else◌
            judged_repeat z = last_bad 7 (ExtentBefore e) (omega arith) (last_row 7 (row_yes _ _ _ _ (sym w.answer ∙ z) refl)) refl

            pub judged_last : y ≡ false → Judged kind s e (Ok tt) seen hints
            judged_last z = record {
              told = told_none (reason kind s e) e (sym (last_row 0 (row_no _ _ _ _ (sym w.answer ∙ z) (row_none 0 refl))));
              marks = λ v. marks_used kind 1 s e (numbers kind) seen (d.marks (not-false m b)) refl (sym h ∙ u);
              knows = λ v. w.knows;
            }

  module _ (t : Result (Unit {0}) ImageFault) (j : Judged kind s e t seen hints) where
    module _ (x : Unit {0}) (q : t ≡ Ok x) where
      told_sound : is_sound t ≡ true
      unfolding is_sound
      told_sound = ap is_sound q

      pub judged_marks : Marks kind 1 s (e + 1) 0 seen
      judged_marks = j.marks told_sound

      pub judged_knows : Hints (slot_at s) (in_use s) (e + 1) hints
      judged_knows = j.knows told_sound

      pub judged_yes : is_bad kind s e ≡ false
      unfolding is_bad
      judged_yes = ap not (sym (reason_good kind s e) ∙ eq-eqb (reason kind s e) 0 (none_told (reason kind s e) e x (sym q ∙ j.told)))

    -- the walk ends at the first bad entry, ..
    pub answered_bad : (f : ImageFault) (n : ℕ) → t ≡ Err f → n ≡ entries kind → e < n → any (is_bad kind s) e ≡ false
        → Surveyed (judged kind s) kind s (Err f) seen hints
    unfolding is_bad is_sound told_for
    answered_bad f n q is l h =
        let why = reason kind s e in
        let some = ne_eqb why 0 (some_told why e f (sym q ∙ j.told)) in
        let b : good_entry kind s e ≡ false = sym (reason_good kind s e) ∙ some in
        let a : Err f ≡ Err (bad_for why e) = sym q ∙ j.told ∙ sym (if_no _ _ _ _ some refl) in
        record {
          walk = record { answer = a ∙ judged_at kind s e (omega arith) h (ap not b); knows = λ z. absurd (true≢false (sym z)) };
          marks = λ z. absurd (true≢false (sym z));
        }

-- .. or after all of them
pub answered_all : (kind : Kind) (s : List ℕ) (e m : ℕ) (seen hints : List ℕ) → m ≡ entries kind → any (is_bad kind s) e ≡ false → m ≤ e → e ≤ m
    → Marks kind 1 s e 0 seen → Hints (slot_at s) (in_use s) e hints → Surveyed (judged kind s) kind s (Ok tt) seen hints
answered_all kind s e m seen hints q h g l v k =
    let z : e ≡ entries kind = omega arith in
    record { walk = record { answer = judged_none kind s (rw z at h); knows = λ y. rw z at k }; marks = λ y. rw z at v }

-- ---- free blocks, from the vector

module _ (kind : Kind) (s v : List ℕ) (n : ℕ) (few : blocks kind s ≤ most kind) (h : v ≡ vector_of kind s) (e : n ≡ blocks kind s) where
  -- a drive has no more blocks than its vector has bits
  pub vector_room : n ≤ 8 * length v
  vector_room = let a = ap length h ∙ vector-long kind s in let b = vector_bits kind in omega arith

  pub vector_lowest : (r : ℕ) → r ≡ lowest (is_clear v) n → r ≡ free_block kind s
  vector_lowest r q = q ∙ lowest_free kind s few v n h e

  pub vector_count : (r : ℕ) → r ≡ count (is_clear v) n → r ≡ free_blocks kind s
  vector_count r q = q ∙ count_free kind s few v n h e

pub ruleset marking = (rules, all_none, marks_skip, number_fits, number_twice, number_first, number_marked, number_none, numbers_marked)

pub ruleset judging = (judged_empty, judged-field, judged_outside, judged_before, judged_repeat, judged_last)

pub ruleset entering = (rules, any_none, any_goes, judged_marks, judged_knows, judged_yes, entry-byte, answered_bad, answered_all)

pub ruleset ranging = (rules, answers, all_none, all_more, all_ends_as, range_as, range_stops)

pub ruleset freeing = (rules, vector_room, vector_lowest, vector_count)
