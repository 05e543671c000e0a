-- What a walk over the directory answers and leaves. Assumes nothing.
use Rattle.std.proofs.Common.{ℕ, ◌≤◌, ◌<◌, ◌≡◌, refl, sym, ap, ◌∙◌, Bool, true, false, not, true≢false, List, arith, ltb, replicate, rules, Result}
use Rattle.std.proofs.Common.{Ok, Err, is_ok}
use borrow.Author.Tests.{not-true, not-false}
use Rattle.words.specs.Tests.{any, lowest}
use Rattle.words.specs.Hints.{Hints, Noted}
use Rattle.words.proofs.Tests.{any_none}
use Rattle.words.proofs.Sets.{and_first, and_then, lowest-any, any_goes, lowest_stops_as, lowest_ends_as}
use Rattle.words.proofs.Hints.{hints_none}
use Rattle.rules.specs.declared.file.File.{File}
use Rattle.rules.specs.declared.kind.Kind.{Kind}
use Rattle.rules.specs.declared.kind.Kind.TheVariants.{Small, Large}
use Rattle.rules.specs.Kinds.{entries}
use Rattle.rules.specs.declared.answer.ImageFault.{ImageFault}
use Rattle.rules.specs.declared.answer.ImageFault.TheVariants.{NoFirst}
use Rattle.rules.specs.Drive.{extent_at, file_at, is_entry, entry_of, is_repeat, good_length, sound_image, lacks_first, judged, headless, is_sound, directory_answer}
use Rattle.rules.proofs.Checks.{answer_bad, answer_lacking, answer_sound, directory_sound}
use Rattle.index.specs.Slots.{slot_of, slot_at, in_use}
use Rattle.index.proofs.Slots.{known_more}
use Rattle.drive.specs.Marks.{Marks}
use Rattle.drive.specs.Walks.{Repeats, Walked, Answered, Surveyed, Marking}
use Rattle.drive.proofs.Begun.{lacking, having}
use Rattle.drive.proofs.Looking.{directory_there, blocks_few}

-- ---- an entry

-- its number is a byte
pub entry-byte : (kind : Kind) (n e : ℕ) → n ≡ entries kind → e < n → e < 256
unfolding entries
entry-byte (Small u) n e q l = omega arith
entry-byte (Large u) n e q l = omega arith

-- it was looked for among those before it, then noted
pub repeats_by : (s : List ℕ) (e d h x : ℕ) (f : File) (hints after : List ℕ) → Hints (slot_at s) (in_use s) e hints → f ≡ file_at s e → x ≡ extent_at s e
    → h ≡ slot_of f x → d ≡ lowest (is_entry s f x) e → Noted h e hints after → Repeats s e (ltb d e) after
unfolding is_repeat
repeats_by s e d h x f hints after k is at slot found w = record {
  answer = lowest-any (is_entry s f x) e d found ∙ ap (λ (y : File). any (is_entry s y x) e) is ∙ ap (λ (y : ℕ). any (is_entry s (file_at s e) y) e) at;
  knows = known_more s e hints k h x f after is at slot w;
}

-- an extent 0 of a file was found
pub begun_by : (kind : Kind) (s : List ℕ) (d n : ℕ) (f : File) → n ≡ entries kind → d ≡ entry_of kind s f 0 → ltb d n ≡ any (is_entry s f 0) (entries kind)
unfolding entry_of
begun_by kind s d n f q h = ap (ltb d) q ∙ lowest-any (is_entry s f 0) (entries kind) d h

-- ---- all entries, then all files

module _ (kind : Kind) (s : List ℕ) (told : Result (Unit {0}) ImageFault) (seen hints : List ℕ) (w : Surveyed (judged kind s) kind s told seen hints) where
  -- an entry is bad, ..
  pub answered_first : (f : ImageFault) → told ≡ Err f → Surveyed (directory_answer kind s) kind s (Err f) seen hints
  unfolding is_sound
  answered_first f q = record {
    walk = record {
      answer = sym q ∙ w.walk.answer ∙ answer_bad kind s (sym (ap is_sound w.walk.answer) ∙ ap is_sound q);
      knows = λ z. absurd (true≢false (sym z));
    };
    marks = λ z. absurd (true≢false (sym z));
  }

  -- .. or none is, ..
  module _ (x : Unit {0}) (q : told ≡ Ok x) where
    told_sound : is_sound told ≡ true
    unfolding is_sound
    told_sound = ap is_sound q

    none_bad : is_sound (judged kind s) ≡ true
    none_bad = sym (ap is_sound w.walk.answer) ∙ told_sound

    pub answered_knows : Hints (slot_at s) (in_use s) (entries kind) hints
    answered_knows = w.walk.knows told_sound

    answered_marks : Marks kind 1 s (entries kind) 0 seen
    answered_marks = w.marks told_sound

    -- .. and a file lacks extent 0, or none does
    module _ (e n : ℕ) (is : n ≡ entries kind) (before : any (lacks_first kind s) e ≡ false) where
      pub answered_lacking : e < n → lacks_first kind s e ≡ true → Surveyed (directory_answer kind s) kind s (Err (NoFirst e)) seen hints
      unfolding headless
      answered_lacking l h = record {
        walk = record { answer = answer_lacking kind s none_bad e (lowest_stops_as (lacks_first kind s) n (entries kind) e is l before h) (omega arith); knows = λ z. answered_knows };
        marks = λ z. answered_marks;
      }

      pub answered_sound : n ≤ e → e ≤ n → Surveyed (directory_answer kind s) kind s (Ok tt) seen hints
      unfolding headless
      answered_sound l g = record {
        walk = record { answer = answer_sound kind s none_bad e (lowest_ends_as (lacks_first kind s) n (entries kind) e is before l g) (omega arith); knows = λ z. answered_knows };
        marks = λ z. answered_marks;
      }

-- ---- the length, then the directory

ok_sound : (r : Result (Unit {0}) ImageFault) → is_ok r ≡ is_sound r
unfolding is_sound
ok_sound (Ok x) = refl
ok_sound (Err f) = refl

module _ (kind : Kind) (s : List ℕ) (r : Bool) (hints : List ℕ) (h : r ≡ good_length kind s) where
  pub walked_short : not r ≡ true → Walked (sound_image kind s) s (entries kind) false hints
  unfolding sound_image
  walked_short t = record { answer = and_first _ _ (sym h ∙ not-true r t); knows = λ z. absurd (true≢false (sym z)) }

  pub walked_directory : not r ≡ false → (told : Result (Unit {0}) ImageFault) (t : Bool) → Answered (directory_answer kind s) s (entries kind) told hints → t ≡ is_ok told
      → Walked (sound_image kind s) s (entries kind) t hints
  unfolding sound_image
  walked_directory z told t w q = record {
    answer = and_then t _ _ (sym h ∙ not-false r z) (q ∙ ok_sound told ∙ ap is_sound w.answer ∙ directory_sound kind s);
    knows = λ y. w.knows (sym (ok_sound told) ∙ sym q ∙ y);
  }

-- the same with the marks
module _ (kind : Kind) (s : List ℕ) (r : Bool) (seen hints : List ℕ) (h : r ≡ good_length kind s) where
  pub marking_short : not r ≡ true → Marking kind s false seen hints
  marking_short t = record { walk = walked_short kind s r hints h t; marks = λ z. absurd (true≢false (sym z)) }

  pub marking_directory : not r ≡ false → (told : Result (Unit {0}) ImageFault) (t : Bool) → Surveyed (directory_answer kind s) kind s told seen hints → t ≡ is_ok told
      → Marking kind s t seen hints
  marking_directory z told t w q = record { walk = walked_directory kind s r hints h z told t w.walk q; marks = λ y. w.marks (sym (ok_sound told) ∙ sym q ∙ y) }

-- what a walk answered, and what its hints then know
module _ (x r : Bool) (s : List ℕ) (n : ℕ) (hints : List ℕ) (w : Walked x s n r hints) where
  pub walked_answer : r ≡ x
  walked_answer = w.answer

  pub walked_knows : not r ≡ false → Hints (slot_at s) (in_use s) n hints
  walked_knows z = w.knows (not-false r z)

-- after `if !sound_index(..) { return .. }`
pub image_there : (kind : Kind) (r : Bool) (s hints : List ℕ) → Walked (sound_image kind s) s (entries kind) r hints → not r ≡ false
    → sound_image kind s ≡ true
image_there kind r s hints w t = sym w.answer ∙ not-false r t

pub known_none : (s : List ℕ) (v : ℕ) → Hints (slot_at s) (in_use s) 0 (replicate 256 v)
known_none s v = hints_none (slot_at s) (in_use s) v

pub ruleset answering = (rules, any_none, any_goes, lacking, having, answered_first, answered_knows, answered_lacking, answered_sound)

pub ruleset walking = (rules, directory_there, blocks_few, known_none, walked_short, walked_directory, walked_answer)

pub ruleset surveying = (rules, directory_there, blocks_few, marking_short, marking_directory)
