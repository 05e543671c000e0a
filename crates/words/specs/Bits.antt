-- Bits of bytes. Assumes nothing.
use Rattle.std.specs.Prelude.{ℕ, zero, suc, ◌+◌, ◌-◌, ◌*◌, ◌/◌, ◌%◌, ◌^◌, Bool, not, List, set, eqb}
use Rattle.words.specs.Tests.{◌if◌else◌}
use Rattle.words.specs.Bytes.{byte}

-- f 0, .., f (n - 1) as the bits of a number, the first of them the highest
unfoldable pub bits : (ℕ → Bool) → ℕ → ℕ
bits f zero = 0
bits f (suc n) = 2 * bits f n + (1 if f n else 0)

-- bit k of a byte, bit 0 the lowest
unfoldable pub bit_of : ℕ → ℕ → Bool
bit_of k x = eqb (x / 2 ^ k % 2) 1

-- bit b of a list of bytes is set: bit 7 − b mod 8 of byte b div 8, so that the high bit of byte 0 stands for number 0
unfoldable pub is_set : List ℕ → ℕ → Bool
is_set s b = bit_of (7 - b % 8) (byte s (b / 8))

-- ---- What only proofs need: the rules change no bit

-- a byte with bit k set: 2ᵏ more where it was clear
unfoldable pub set_bit : ℕ → ℕ → ℕ
set_bit k x = x if bit_of k x else x + 2 ^ k

-- bit b is not set
unfoldable pub is_clear : List ℕ → ℕ → Bool
is_clear s b = not (is_set s b)

-- a list of bytes with bit b set
unfoldable pub with_bit : ℕ → List ℕ → List ℕ
with_bit b s = set s (b / 8) (set_bit (7 - b % 8) (byte s (b / 8)))

-- a byte with bit k clear: 2ᵏ less where it was set
unfoldable pub clear_bit : ℕ → ℕ → ℕ
clear_bit k x = x - 2 ^ k if bit_of k x else x

-- a list of bytes with bit b clear
unfoldable pub without_bit : ℕ → List ℕ → List ℕ
without_bit b s = set s (b / 8) (clear_bit (7 - b % 8) (byte s (b / 8)))
