-- Sizes that a callee has told. Assumes nothing.
use Rattle.std.proofs.Common.{ℕ, ◌+◌, ◌*◌, ◌/◌, ◌%◌, ◌≤◌, ◌<◌, ◌≡◌, List, arith, length}
use Rattle.rules.specs.declared.kind.Kind.{Kind}
use Rattle.rules.specs.Kinds.{block_size, block_records, numbers}
use Rattle.rules.specs.Drive.{blocks, map_place, record_at}
use Rattle.rules.proofs.Sizes.{place_fits, rest_below, begins_below}

module _ (kind : Kind) (n : ℕ) where
  pub blocks_as : (s : List ℕ) → n ≡ block_size kind → length s / n ≡ blocks kind s
  unfolding blocks
  blocks_as s h = rw h

  pub begins_fits : (b : ℕ) → n ≡ block_size kind → b < 65536 → n * b ≤ 134217728
  begins_fits b h l = rw h (begins_below kind b l)

  pub begins_room : (b : ℕ) → n ≡ block_size kind → b < 65536 → n * b < 18446744073709551616
  begins_room b h l = let k = begins_fits b h l in omega arith

  pub begins_as : (b : ℕ) → n ≡ block_size kind → n * b ≡ block_size kind * b
  begins_as b h = rw h

  module _ (r : ℕ) (h : n ≡ block_records kind) where
    pub place_as : r % 128 / n ≡ map_place kind r
    unfolding map_place
    place_as = rw h

    pub place_below : r % 128 / n < numbers kind
    unfolding map_place
    place_below = rw h (place_fits kind r)

    pub rest_as : r % n ≡ r % block_records kind
    rest_as = rw h

    pub rest_few : r % n < 16
    rest_few = rw h (rest_below kind r)

pub record_as : (kind : Kind) (at b k r : ℕ) → at ≡ block_size kind * b → k ≡ r % block_records kind → at + 128 * k ≡ record_at kind b r
unfolding record_at
record_as kind at b k r g h = rw (h, g)

pub ruleset places = (blocks_as, begins_fits, begins_room, begins_as, place_as, place_below, record_as, rest_as, rest_few)
