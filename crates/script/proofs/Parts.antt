-- Laws of parts of records. Assumes nothing.
use Rattle.std.proofs.Common.{◌≡◌, sym, ◌∙◌, ℕ, ◌+◌, ◌≤◌, List, length}
use Rattle.words.specs.Lists.{tab}
use Rattle.words.specs.Bytes.{part, byte_from}
use Rattle.words.proofs.Bytes.{part-tab}

-- a copy of a part of k bytes that is there
pub part_copied : (s l : List ℕ) (at k : ℕ) → l ≡ tab (byte_from s at) k → at + k ≤ length s → l ≡ part at k s
part_copied s l at k e h = e ∙ sym (part-tab s at k h)
