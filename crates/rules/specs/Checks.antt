-- What the answer of the image check says of the image (T-01). Assumes nothing.
use Rattle.std.specs.Prelude.{ℕ, ◌/◌, ◌%◌, ◌≤◌, ◌<◌, ◌≡◌, true, false, not, List, eqb}
use Rattle.words.specs.Tables.{first_of}
use Rattle.rules.specs.declared.kind.Kind.{Kind}
use Rattle.rules.specs.Kinds.{entries}
use Rattle.rules.specs.Drive.{is_empty, good_length, good_entry, has_first, sound_image, reasons, image_check, image_number, image_entry, image_told}

-- Entry e is the lowest bad one, and why is the first of its reasons.
pub record LowestBad (kind : Kind) (s : List ℕ) (why e : ℕ) : Type 0 where
  pub there : e < entries kind
  pub used : is_empty s e ≡ false
  pub bad : good_entry kind s e ≡ false
  pub before_good : (d : ℕ) → d < e → good_entry kind s d ≡ true
  pub why_so : first_of (reasons kind s e) ≡ why

-- All entries are good, and entry e is the lowest of a file lacking extent 0.
pub record LowestHeadless (kind : Kind) (s : List ℕ) (e : ℕ) : Type 0 where
  pub there : e < entries kind
  pub used : is_empty s e ≡ false
  pub all_good : (d : ℕ) → d < entries kind → good_entry kind s d ≡ true
  pub lacks : has_first kind s e ≡ false
  pub before_have : (d : ℕ) → d < e → has_first kind s d ≡ true

-- The number and the entry of the answer: 0 exactly where the image is sound, 1 exactly where its length is wrong, both telling entry 0; ..
pub record CheckTells (kind : Kind) (s : List ℕ) : Type 0 where
  pub sound : eqb (image_number (image_check kind s)) 0 ≡ sound_image kind s
  pub long : eqb (image_number (image_check kind s)) 1 ≡ not (good_length kind s)
  pub tells_zero : image_number (image_check kind s) ≤ 1 → image_entry (image_check kind s) ≡ 0
  -- .. 2 to 7 for the lowest bad entry; ..
  pub reason_told : 2 ≤ image_number (image_check kind s) → image_number (image_check kind s) ≤ 7
      → LowestBad kind s (image_number (image_check kind s)) (image_entry (image_check kind s))
  -- .. else 8; no other number.
  pub headless_told : 8 ≤ image_number (image_check kind s) → LowestHeadless kind s (image_entry (image_check kind s))
  pub numbers_end : image_number (image_check kind s) ≤ 8
  -- Both are read off what a C host gets, and the entry is one of the directory.
  pub number_read : image_told (image_check kind s) % 256 ≡ image_number (image_check kind s)
  pub entry_read : image_told (image_check kind s) / 256 ≡ image_entry (image_check kind s)
  pub entry_there : image_entry (image_check kind s) < entries kind
