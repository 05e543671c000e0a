-- "Directory listing for the clerks" (T-02): what a search answers and leaves, and what one 17 and then 18s show. Assumes nothing.
use Rattle.std.specs.Prelude.{ℕ, zero, suc, ◌+◌, ◌*◌, ◌≤◌, ◌<◌, ◌≡◌, List, [], ◌∷◌, map, ◌⊎◌, set, eqb}
use Rattle.words.specs.Tests.{◌if◌else◌}
use Rattle.words.specs.Lists.{passing}
use Rattle.words.specs.Bytes.{part}
use Rattle.words.specs.Tables.{◌∕◌}
use Rattle.rules.specs.declared.kind.Kind.{Kind}
use Rattle.rules.specs.Kinds.{entries}
use Rattle.rules.specs.Serves.{Buffers, Outcome}
use Rattle.rules.specs.Drive.{entry_size}
use Rattle.rules.specs.Locks.{places, place_at, user_of, unpack}
use Rattle.rules.specs.Effects.{is_match}
use Rattle.rules.specs.Call.{call}

-- ---- One search

-- the caller's next entry in the list's bytes
abbrev pub position_at : ℕ → ℕ
position_at p = place_at places + p

-- What 17 and 18 do where no row refuses them: "A is its place there, 0 to 3", or "no match answers 255/0", and then the DMA is as it was. Of
-- the list one byte at most changes, the caller's position; FCB and image stay.
pub record Searched (kind : Kind) (p : ℕ) (b : Buffers) (o : Outcome) : Type 0 where
  pub answers : (o.answer < 4) ⊎ (o.answer ≡ 255 ∕ 0)
  pub none_shown : o.answer ≡ 255 ∕ 0 → o.left.dma ≡ b.dma
  pub position : (e : ℕ) × (e ≤ entries kind) × (o.left.list ≡ set b.list (position_at p) e)
  pub fcb_same : o.left.fcb ≡ b.fcb
  pub image_same : o.left.image ≡ b.image

-- ---- One 17, then 18s by the same process with the same FCB until 255/0, over an image that stays as it is

-- the 32 bytes at DMA 32·A
unfoldable pub shown_by : Outcome → List ℕ
shown_by o = part (entry_size * o.answer) entry_size o.left.dma

-- from the outcome of a search on: what each shows, until one answers 255/0 or that many calls are made
unfoldable pub shown_from : Kind → ℕ → ℕ → ℕ → Outcome → List (List ℕ)
shown_from kind p c zero o = []
shown_from kind p c (suc calls) o = [] if eqb o.answer (255 ∕ 0) else (shown_by o ∷ shown_from kind p c calls (call kind 18 p c o.left))

-- an entry, as it stands in the directory
unfoldable pub entry_in : List ℕ → ℕ → List ℕ
entry_in s e = part (entry_size * e) entry_size s

-- the user's entries that match the FCB, each once, in rising order
unfoldable pub matching : Kind → ℕ → List ℕ → List ℕ → List (List ℕ)
matching kind user fcb s = map (entry_in s) (passing (is_match user fcb s) (entries kind))

-- They are what is shown; one call more than there are entries is always enough.
unfoldable pub ShowsMatching : Kind → ℕ → ℕ → Buffers → Type 0
ShowsMatching kind p c b = (calls : ℕ) → entries kind < calls
    → shown_from kind p c calls (call kind 17 p c b) ≡ matching kind (user_of (unpack b.list) p) b.fcb b.image
