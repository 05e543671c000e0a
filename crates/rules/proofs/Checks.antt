-- What the answer of the image check says of the image (T-01). Assumes nothing.
use Rattle.std.specs.Prelude.{Result, Ok, Err}
use Prim.Native.Nat.{ℕ, ◌≤◌, ◌<◌}
use mathlib.Core.Path.{◌≡◌, refl, sym, ap, subst, ◌∙◌}
use mathlib.Core.Bool.{Bool, true, false, not, true≢false}
use mathlib.Core.List.{List, [], ◌∷◌}
use mathlib.Core.Logic.{⊎_elim}
use native.Mathlib.Omega.{arith}
use lib.Dec.{eqb, leb}
use borrow.Author.Tests.{ne_eqb, lt-leb, le-leb, leb-true, leb-false, not-true, not-false}
use Rattle.words.specs.Tests.{◌and◌, ◌or◌, ◌if◌else◌, all, any, lowest}
use Rattle.words.specs.Tables.{Row, ◌when◌, first_of}
use Rattle.words.proofs.Tests.{either, or_fst, all_at, all_fails, all_make, any_at, lowest_none, lowest_found, lowest_holds, lowest_below}
use Rattle.words.proofs.Tests.{lowest_least}
use Rattle.words.proofs.Sets.{if_yes, if_no, and_first, and_then}
use Rattle.rules.specs.declared.kind.Kind.{Kind}
use Rattle.rules.specs.declared.answer.ImageFault.{ImageFault}
use Rattle.rules.specs.declared.answer.ImageFault.TheVariants.{WrongLength, BadUser, BadName, BadNumbers, BlockOutside, BlockBefore}
use Rattle.rules.specs.declared.answer.ImageFault.TheVariants.{ExtentBefore, NoFirst}
use Rattle.rules.specs.Kinds.{entries, numbers}
use Rattle.rules.specs.Drive.{good_length, is_empty, name_at, legal_name, good_user, good_numbers, good_fields, in_range, is_first, is_repeat, good_entry, has_first}
use Rattle.rules.specs.Drive.{sound_directory, sound_image, reasons, reason, bad_for, is_bad, bad_entry, judged, lacks_first, headless, is_sound}
use Rattle.rules.specs.Drive.{directory_answer, image_check, fault_number, fault_entry, image_number, image_entry}
use Rattle.rules.specs.Checks.{LowestBad, LowestHeadless, CheckTells}
use Rattle.rules.proofs.Sizes.{entries_some, entries-byte}
use Rattle.rules.proofs.Answers.{number_end, number_read, entry_read}

-- ---- one entry

-- six tests, in order
abbrev six : Bool → Bool → Bool → Bool → Bool → Bool → List Row
six u n m r f p = 2 when not u ∷ 3 when not n ∷ 4 when not m ∷ 5 when not r ∷ 6 when not f ∷ 7 when p ∷ []

-- no reason exactly where all six hold
six_good : (v u n m r f p : Bool) → eqb (0 if v else first_of (six u n m r f p)) 0 ≡ (v or ((u and n and m) and r and f and not p))
unfolding first_of ◌if◌else◌ ◌and◌ ◌or◌
six_good true u n m r f p = refl
six_good false false n m r f p = refl
six_good false true false m r f p = refl
six_good false true true false r f p = refl
six_good false true true true false f p = refl
six_good false true true true true false p = refl
six_good false true true true true true true = refl
six_good false true true true true true false = refl

-- a reason is 2 to 7, and the answer for it tells it and the entry
pub record Reason (why e : ℕ) : Type 0 where
  pub least : 2 ≤ why
  pub most : why ≤ 7
  pub number : fault_number (bad_for why e) ≡ why
  pub entry : fault_entry (bad_for why e) ≡ e

six_bad : (u n m r f p : Bool) (e : ℕ) → ((u and n and m) and r and f and not p) ≡ false → Reason (first_of (six u n m r f p)) e
unfolding first_of ◌if◌else◌ ◌and◌ bad_for fault_number fault_entry
six_bad false n m r f p e h = record { least = omega arith; most = omega arith; number = refl; entry = refl }
six_bad true false m r f p e h = record { least = omega arith; most = omega arith; number = refl; entry = refl }
six_bad true true false r f p e h = record { least = omega arith; most = omega arith; number = refl; entry = refl }
six_bad true true true false f p e h = record { least = omega arith; most = omega arith; number = refl; entry = refl }
six_bad true true true true false p e h = record { least = omega arith; most = omega arith; number = refl; entry = refl }
six_bad true true true true true true e h = record { least = omega arith; most = omega arith; number = refl; entry = refl }
six_bad true true true true true false e h = absurd (true≢false h)

module _ (kind : Kind) (s : List ℕ) (e : ℕ) where
  pub reason_good : eqb (reason kind s e) 0 ≡ good_entry kind s e
  unfolding reason reasons good_entry good_fields
  reason_good =
      six_good (is_empty s e) (good_user s e) (legal_name s (name_at e)) (good_numbers kind s e) (all (in_range kind s e) (numbers kind))
      (all (is_first kind s e) (numbers kind)) (is_repeat s e)

  module _ (bad : good_entry kind s e ≡ false) where
    bad_used : is_empty s e ≡ false
    unfolding good_entry
    bad_used = or_fst _ _ bad

    bad_first : reason kind s e ≡ first_of (reasons kind s e)
    unfolding reason
    bad_first = sym (if_no _ _ _ _ bad_used refl)

    pub bad_reason : Reason (reason kind s e) e
    unfolding reasons good_entry good_fields ◌or◌
    bad_reason =
        rw bad_first
        (six_bad (good_user s e) (legal_name s (name_at e)) (good_numbers kind s e) (all (in_range kind s e) (numbers kind))
        (all (is_first kind s e) (numbers kind)) (is_repeat s e) e (rw bad_used at bad))

-- ---- the lowest number at which a test fails

module _ (f g : ℕ → Bool) (n : ℕ) (opposed : (i : ℕ) → g i ≡ not (f i)) where
  holds_where : (i : ℕ) → g i ≡ false → f i ≡ true
  holds_where i h = not-false (f i) (sym (opposed i) ∙ h)

  fails_where : (i : ℕ) → g i ≡ true → f i ≡ false
  fails_where i h = not-true (f i) (sym (opposed i) ∙ h)

  none_all : any g n ≡ false → all f n ≡ true
  none_all h = all_make f n (λ i l. holds_where i (any_at g n i h l))

  some_fails : any g n ≡ true → all f n ≡ false
  some_fails h = all_fails f n (lowest g n) (lowest_below g n h) (fails_where _ (lowest_holds g n (lowest_below g n h)))

  lowest-all : leb n (lowest g n) ≡ all f n
  lowest-all =
      ⊎_elim (λ (h : any g n ≡ true). rw (some_fails h) (lt-leb n _ (lowest_below g n h)))
      (λ (h : any g n ≡ false). rw (lowest_none g n h, none_all h) (le-leb n n (omega arith))) (either (any g n))

-- ---- an answer's number

fault_some : (f : ImageFault) → eqb (fault_number f) 0 ≡ false
unfolding fault_number
fault_some WrongLength = refl
fault_some (BadUser e) = refl
fault_some (BadName e) = refl
fault_some (BadNumbers e) = refl
fault_some (BlockOutside e) = refl
fault_some (BlockBefore e) = refl
fault_some (ExtentBefore e) = refl
fault_some (NoFirst e) = refl

number_sound : (a : Result (Unit {0}) ImageFault) → eqb (image_number a) 0 ≡ is_sound a
unfolding image_number is_sound
number_sound (Ok x) = refl
number_sound (Err f) = fault_some f

-- ---- all entries

module _ (kind : Kind) (s : List ℕ) where
  bad_opposed : (e : ℕ) → is_bad kind s e ≡ not (good_entry kind s e)
  unfolding is_bad
  bad_opposed e = refl

  lacks_opposed : (e : ℕ) → lacks_first kind s e ≡ not (has_first kind s e)
  unfolding lacks_first
  lacks_opposed e = refl

  -- no entry is bad: sound; ..
  pub judged_none : any (is_bad kind s) (entries kind) ≡ false → Ok tt ≡ judged kind s
  unfolding judged bad_entry
  judged_none h = if_yes _ _ _ _ (rw (lowest_none (is_bad kind s) (entries kind) h) (le-leb (entries kind) (entries kind) (omega arith))) refl

  -- .. e is the lowest: its reason
  pub judged_at : (e : ℕ) → e < entries kind → any (is_bad kind s) e ≡ false → is_bad kind s e ≡ true → Err (bad_for (reason kind s e) e) ≡ judged kind s
  unfolding judged bad_entry
  judged_at e l h b =
      let q = lowest_found (is_bad kind s) (entries kind) e l h b in
      if_no _ _ _ _ (rw q (lt-leb (entries kind) e l)) (rw q refl)

  judged_some : any (is_bad kind s) (entries kind) ≡ true → judged kind s ≡ Err (bad_for (reason kind s (bad_entry kind s)) (bad_entry kind s))
  unfolding judged bad_entry
  judged_some h = sym (if_no _ _ _ _ (lt-leb _ _ (lowest_below (is_bad kind s) (entries kind) h)) refl)

  module _ (h : any (is_bad kind s) (entries kind) ≡ true) where
    bad_there : bad_entry kind s < entries kind
    unfolding bad_entry
    bad_there = lowest_below (is_bad kind s) (entries kind) h

    bad_here : good_entry kind s (bad_entry kind s) ≡ false
    unfolding bad_entry
    bad_here = fails_where (good_entry kind s) (is_bad kind s) 0 bad_opposed _ (lowest_holds (is_bad kind s) (entries kind) bad_there)

    lowest_bad : LowestBad kind s (reason kind s (bad_entry kind s)) (bad_entry kind s)
    unfolding bad_entry
    lowest_bad = record {
      there = bad_there;
      used = bad_used kind s _ bad_here;
      bad = bad_here;
      before_good = λ d l. holds_where (good_entry kind s) (is_bad kind s) 0 bad_opposed d (lowest_least (is_bad kind s) (entries kind) d l);
      why_so = sym (bad_first kind s _ bad_here);
    }

  -- the judging finds nothing exactly where all entries are good
  pub judged_good : is_sound (judged kind s) ≡ all (good_entry kind s) (entries kind)
  unfolding is_sound
  judged_good =
      ⊎_elim
      (λ (h : any (is_bad kind s) (entries kind) ≡ true).
      rw (judged_some h, some_fails (good_entry kind s) (is_bad kind s) (entries kind) bad_opposed h) refl)
      (λ (h : any (is_bad kind s) (entries kind) ≡ false).
      rw (sym (judged_none h), none_all (good_entry kind s) (is_bad kind s) (entries kind) bad_opposed h) refl)
      (either (any (is_bad kind s) (entries kind)))

  -- nothing is headless exactly where each file has an extent 0
  headless_none : leb (entries kind) (headless kind s) ≡ all (has_first kind s) (entries kind)
  unfolding headless
  headless_none = lowest-all (has_first kind s) (lacks_first kind s) (entries kind) lacks_opposed

  -- what the directory answers: for a bad entry, else for a file that lacks extent 0, else that it is sound
  module _ (h : is_sound (judged kind s) ≡ false) where
    pub answer_bad : judged kind s ≡ directory_answer kind s
    unfolding directory_answer
    answer_bad = if_yes _ _ _ _ (ap not h) refl

  module _ (h : is_sound (judged kind s) ≡ true) where
    pub answer_lacking : (e : ℕ) → e ≡ headless kind s → e < entries kind → Err (NoFirst e) ≡ directory_answer kind s
    unfolding directory_answer
    answer_lacking e q l =
        if_no _ _ _ _ (ap not h) (if_no _ _ _ _ (rw (sym q) (lt-leb (entries kind) e l)) (ap (λ (d : ℕ). Err (NoFirst d)) q))

    pub answer_sound : (e : ℕ) → e ≡ headless kind s → entries kind ≤ e → Ok tt ≡ directory_answer kind s
    unfolding directory_answer
    answer_sound e q l = if_no _ _ _ _ (ap not h) (if_yes _ _ _ _ (rw (sym q) (le-leb (entries kind) e l)) refl)

  directory_good : all (good_entry kind s) (entries kind) ≡ true → is_sound (directory_answer kind s) ≡ all (has_first kind s) (entries kind)
  unfolding is_sound
  directory_good h =
      let j : is_sound (judged kind s) ≡ true = judged_good ∙ h in
      ⊎_elim
      (λ (t : all (has_first kind s) (entries kind) ≡ true). rw (t, sym (answer_sound j (headless kind s) refl (leb-true _ _ (headless_none ∙ t)))) refl)
      (λ (t : all (has_first kind s) (entries kind) ≡ false). rw (t, sym (answer_lacking j (headless kind s) refl (leb-false _ _ (headless_none ∙ t)))) refl)
      (either (all (has_first kind s) (entries kind)))

  -- it is sound exactly where the directory is
  pub directory_sound : is_sound (directory_answer kind s) ≡ sound_directory kind s
  unfolding sound_directory
  directory_sound =
      ⊎_elim
      (λ (h : all (good_entry kind s) (entries kind) ≡ true). and_then _ _ _ h (directory_good h))
      (λ (h : all (good_entry kind s) (entries kind) ≡ false).
      let j : is_sound (judged kind s) ≡ false = judged_good ∙ h in
      sym (ap is_sound (answer_bad j)) ∙ j ∙ and_first _ _ h)
      (either (all (good_entry kind s) (entries kind)))

  lowest-headless : all (good_entry kind s) (entries kind) ≡ true → headless kind s < entries kind → LowestHeadless kind s (headless kind s)
  unfolding headless has_first
  lowest-headless h l =
      let k : has_first kind s (headless kind s) ≡ false
      = fails_where (has_first kind s) (lacks_first kind s) 0 lacks_opposed _ (lowest_holds (lacks_first kind s) (entries kind) l) in
      record {
        there = l;
        used = or_fst _ _ k;
        all_good = λ d m. all_at (good_entry kind s) (entries kind) d h m;
        lacks = k;
        before_have = λ d m. holds_where (has_first kind s) (lacks_first kind s) 0 lacks_opposed d (lowest_least (lacks_first kind s) (entries kind) d m);
      }

  -- ---- the answer, case by case

  check_length : good_length kind s ≡ false → Err WrongLength ≡ image_check kind s
  unfolding image_check
  check_length h = if_yes _ _ _ _ (ap not h) refl

  check_directory : good_length kind s ≡ true → directory_answer kind s ≡ image_check kind s
  unfolding image_check
  check_directory h = if_no _ _ _ _ (ap not h) refl

  sound_where : good_length kind s ≡ true → is_sound (image_check kind s) ≡ sound_image kind s
  unfolding sound_image
  sound_where h = sym (ap is_sound (check_directory h)) ∙ and_then _ _ _ h directory_sound

  module _ (P : Result (Unit {0}) ImageFault → Type 0) (wrong : good_length kind s ≡ false → P (Err WrongLength))
      (bad : good_length kind s ≡ true → (e : ℕ) → LowestBad kind s (reason kind s e) e → P (Err (bad_for (reason kind s e) e)))
      (lacking : good_length kind s ≡ true → (e : ℕ) → LowestHeadless kind s e → P (Err (NoFirst e)))
      (fine : good_length kind s ≡ true → P (Ok tt)) where
    check_good : good_length kind s ≡ true → all (good_entry kind s) (entries kind) ≡ true → P (image_check kind s)
    check_good g h =
        let j : is_sound (judged kind s) ≡ true = judged_good ∙ h in
        ⊎_elim
        (λ (t : leb (entries kind) (headless kind s) ≡ true).
        subst P (answer_sound j (headless kind s) refl (leb-true _ _ t) ∙ check_directory g) (fine g))
        (λ (t : leb (entries kind) (headless kind s) ≡ false).
        subst P (answer_lacking j (headless kind s) refl (leb-false _ _ t) ∙ check_directory g)
        (lacking g (headless kind s) (lowest-headless h (leb-false _ _ t))))
        (either (leb (entries kind) (headless kind s)))

    check_cases : P (image_check kind s)
    check_cases =
        ⊎_elim
        (λ (g : good_length kind s ≡ true).
        ⊎_elim
        (λ (h : any (is_bad kind s) (entries kind) ≡ true).
        let j : is_sound (judged kind s) ≡ false = judged_good ∙ some_fails (good_entry kind s) (is_bad kind s) (entries kind) bad_opposed h in
        subst P (sym (judged_some h) ∙ answer_bad j ∙ check_directory g) (bad g (bad_entry kind s) (lowest_bad h)))
        (λ (h : any (is_bad kind s) (entries kind) ≡ false).
        check_good g (none_all (good_entry kind s) (is_bad kind s) (entries kind) bad_opposed h))
        (either (any (is_bad kind s) (entries kind))))
        (λ (g : good_length kind s ≡ false). subst P (check_length g) (wrong g)) (either (good_length kind s))

  -- ---- what it tells

  fails_long : good_length kind s ≡ false → sound_image kind s ≡ false
  unfolding sound_image
  fails_long g = sym (and_first _ _ g)

  is-sound : is_sound (image_check kind s) ≡ sound_image kind s
  unfolding is_sound
  is-sound =
      ⊎_elim (λ (g : good_length kind s ≡ true). sound_where g)
      (λ (g : good_length kind s ≡ false). rw (sym (check_length g), fails_long g) refl) (either (good_length kind s))

  pub check_tells : CheckTells kind s
  unfolding image_number image_entry fault_number fault_entry
  check_tells = record {
    sound = number_sound (image_check kind s) ∙ is-sound;
    long = check_cases (λ a. eqb (image_number a) 1 ≡ not (good_length kind s)) (λ g. rw g refl)
        (λ g e b. let k = bad_reason kind s e b.bad in rw g (ne_eqb (fault_number (bad_for (reason kind s e) e)) 1 (λ q. omega (arith, k.least, k.number))))
        (λ g e b. rw g refl) (λ g. rw g refl);
    tells_zero = check_cases (λ a. image_number a ≤ 1 → image_entry a ≡ 0) (λ g l. refl)
        (λ g e b l. let k = bad_reason kind s e b.bad in absurd (omega (arith, k.least, k.number))) (λ g e b l. absurd (omega arith)) (λ g l. refl);
    reason_told = check_cases (λ a. 2 ≤ image_number a → image_number a ≤ 7 → LowestBad kind s (image_number a) (image_entry a))
        (λ g l m. absurd (omega arith)) (λ g e b l m. let k = bad_reason kind s e b.bad in rw (k.number, k.entry) b)
        (λ g e b l m. absurd (omega arith)) (λ g l m. absurd (omega arith));
    headless_told = check_cases (λ a. 8 ≤ image_number a → LowestHeadless kind s (image_entry a)) (λ g l. absurd (omega arith))
        (λ g e b l. let k = bad_reason kind s e b.bad in absurd (omega (arith, k.most, k.number))) (λ g e b l. b) (λ g l. absurd (omega arith));
    numbers_end = number_end (image_check kind s);
    number_read = number_read (image_check kind s);
    entry_read = entry_read (image_check kind s);
    entry_there = check_cases (λ a. image_entry a < entries kind) (λ g. entries_some kind)
        (λ g e b. rw (bad_reason kind s e b.bad).entry b.there) (λ g e b. b.there) (λ g. entries_some kind);
  }

  -- an entry that is told is a byte
  pub told_byte : (a : Result (Unit {0}) ImageFault) → a ≡ image_check kind s → image_entry a < 256
  told_byte a h = let k = check_tells.entry_there in let l = entries-byte kind in rw h (omega arith)
