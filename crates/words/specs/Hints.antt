-- Where to begin to look for a thing: it has a slot, and the slot a hint that is never too high. Assumes nothing.
use Rattle.std.specs.Prelude.{ℕ, ◌≤◌, ◌<◌, ◌≡◌, Bool, true, List, length, get_or}

-- each number below n that counts has in its slot a hint that is not above it
pub record Hints (slot : ℕ → ℕ) (counts : ℕ → Bool) (n : ℕ) (hints : List ℕ) : Type 0 where
  pub long : length hints ≡ 256
  pub floor : (d : ℕ) → d < n → counts d ≡ true → get_or hints (slot d) 0 ≤ d

-- number e noted in slot h: its hint is not above e, and no hint has risen
pub record Noted (h e : ℕ) (before after : List ℕ) : Type 0 where
  pub long : length after ≡ length before
  pub here : get_or after h 0 ≤ e
  pub lower : (x : ℕ) → get_or after x 0 ≤ get_or before x 0
