-- The blocks of a sound image's entries lie in it, and what the parts of the comparison hand on. Assumes nothing.
use Rattle.std.proofs.Common.{◌≡◌, refl, sym, ap, ◌∙◌, ℕ, ◌+◌, ◌-◌, ◌*◌, ◌≤◌, ◌<◌, Bool, true, false, List, length, leb, ⊎_elim, arith, rules, leb-true, leb-false, le-leb, take, drop}
use Rattle.std.proofs.lemmas.Bool.{lt-leb}
use Rattle.words.specs.Tests.{◌if◌else◌, all}
use Rattle.words.specs.Bytes.{same_byte as alike}
use Rattle.words.proofs.Tests.{either, equal?, all_ext}
use Rattle.words.proofs.Bytes.{part_long, part-byte}
use Rattle.words.proofs.Sets.{answers, or_first, or_then}
use Rattle.rules.specs.declared.kind.Kind.{Kind}
use Rattle.rules.specs.Kinds.{block_size, entries, numbers}
use Rattle.rules.specs.declared.file.File.{File}
use Rattle.rules.specs.Drive.{blocks, is_empty, map_number, entry_of, sound_image}
use Rattle.rules.proofs.Sizes.{directory_size, block_inside}
use Rattle.rules.proofs.Sound.{sound_of, sound_length, length_whole, image_long, entry_inside, found_used}
use Rattle.drive.proofs.Walks.{known_none, image_there, walked_answer, walked_knows}
use Rattle.packing.specs.Same.{number_in, same_byte, same_block}
use Rattle.moving.specs.Fits.{Fits}

module _ (kind : Kind) (s : List ℕ) where
  -- the number of an entry that is there, ..
  pub number_low : (e k : ℕ) → e < entries kind → number_in kind s e k ≡ map_number kind s e k
  unfolding number_in ◌if◌else◌
  number_low e k l = rw (lt-leb (entries kind) e l) refl

  -- .. and of one that is not
  pub number_past : (e k : ℕ) → entries kind ≤ e → number_in kind s e k ≡ 0
  unfolding number_in ◌if◌else◌
  number_past e k l = rw (le-leb (entries kind) e l) refl

  -- where the blocks lie
  pub fits_first : (e k a : ℕ) → Fits kind s e → e < entries kind → k < numbers kind → a ≡ map_number kind s e k
      → block_size kind * a + block_size kind ≤ length s
  fits_first e k a h l m q = let w = h.fits k m in rw (q, ← number_low e k l) w

  pub fits_second : (d k b : ℕ) → Fits kind s d → k < numbers kind → b ≡ number_in kind s d k → block_size kind * b + block_size kind ≤ length s
  fits_second d k b h m q = let w = h.fits k m in rw q w

  -- ---- of a sound image

  module _ (h : sound_image kind s ≡ true) where
    none_fits : block_size kind * 0 + block_size kind ≤ length s
    none_fits = let a = image_long kind s h in let b = directory_size kind in omega arith

    pub sound_fits : (e : ℕ) → e < entries kind → is_empty s e ≡ false → Fits kind s e
    sound_fits e l u = record {
      fits = λ k m.
          ⊎_elim (λ (z : map_number kind s e k ≡ 0). rw (number_low e k l, z) none_fits)
          (λ (z : map_number kind s e k ≡ 0 → ⊥).
          let r = (sound_of kind s h).maps.range e k (record { entry_there = l; place_there = m; entry_used = u; some = z }) in
          let a = block_inside kind (map_number kind s e k) (blocks kind s) r.1 in
          let w = length_whole kind s (sound_length kind s h) in
          rw (number_low e k l) (omega arith)) (equal? (map_number kind s e k) 0);
    }

    pub found_fits : (f : File) (x d : ℕ) → d ≡ entry_of kind s f x → Fits kind s d
    found_fits f x d q =
        ⊎_elim
        (λ (c : leb (entries kind) d ≡ true). record { fits = λ k m. rw (number_past d k (leb-true (entries kind) d c)) none_fits })
        (λ (c : leb (entries kind) d ≡ false).
        let l = leb-false (entries kind) d c in
        sound_fits d l (ap (is_empty s) q ∙ found_used kind s f x (let y : d < entries kind = l in omega arith))) (either (leb (entries kind) d))

-- ---- what is handed on

pub blocks_as : (kind : Kind) (s t : List ℕ) (a b n at bt : ℕ) (r : Bool) → n ≡ block_size kind → at ≡ block_size kind * a → bt ≡ block_size kind * b
    → block_size kind * a + block_size kind ≤ length s → block_size kind * b + block_size kind ≤ length t
    → r ≡ all (alike (take (bt + n - bt) (drop bt t)) (take (at + n - at) (drop at s))) (length (take (bt + n - bt) (drop bt t))) → r ≡ same_block kind s a t b
unfolding same_block same_byte alike
blocks_as kind s t a b n at bt r o p q l m h =
    let d : at + n - at ≡ n = omega arith in
    let e : bt + n - bt ≡ n = omega arith in
    let f : at + n ≤ length s = rw (p, o) l in
    let g : bt + n ≤ length t = rw (q, o) m in
    let long = part_long t bt n g in
    h
    ∙ rw (d, e, long) refl
    ∙ all_ext (alike (take n (drop bt t)) (take n (drop at s))) (same_byte s at t bt) n
    (λ i z. rw (part-byte t bt n i z, part-byte s at n i z) refl)
    ∙ rw (o, p, q) refl

pub ruleset placing = (rules, fits_first, fits_second)

pub ruleset entering = (rules, or_first, or_then, image_long, entry_inside, sound_fits, found_fits)

pub ruleset opening = (rules, known_none, image_there, image_long, walked_answer, walked_knows)
