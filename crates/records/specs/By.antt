-- What a routine's parts do, on what was found: the caller's list, its open at place o, the file, the record. Assumes nothing.
use Rattle.std.specs.Prelude.{ℕ, ◌+◌, ◌*◌, ◌/◌, ◌≤◌, ◌≡◌, Bool, true, false, not, List, [], ◌∷◌, ◌++◌, length, ltb, eqb, Result, Ok, Err}
use Rattle.words.specs.Tests.{◌if◌else◌}
use Rattle.words.specs.Bytes.{put}
use Rattle.words.specs.Tables.{Row, ◌∕◌, ◌when◌, first_of}
use Rattle.rules.specs.Kinds.{block_size, entries, top}
use Rattle.rules.specs.declared.file.File.{File}
use Rattle.rules.specs.declared.list.LockList.{LockList}
use Rattle.rules.specs.declared.spot.Spot.{Spot}
use Rattle.rules.specs.declared.routine.Routine.{Routine}
use Rattle.rules.specs.declared.routine.Routine.TheVariants.{Write, WriteZeros}
use Rattle.rules.specs.declared.code.Refusal.{Refusal}
use Rattle.rules.specs.Serves.{Buffers, Outcome}
use Rattle.rules.specs.Drive.{entry_of, block_in}
use Rattle.rules.specs.Locks.{is_opened}
use Rattle.rules.specs.Codes.{rows_room, rows33, rows34, rows41}
use Rattle.rules.specs.Effects.{spot_at, written, contents, does33, does34, does41}
use Rattle.rules.specs.Call.{unless}
use Rattle.rules.specs.declared.kind.Kind.{Kind}
use Rattle.soundness.specs.Taking.{taken_by}

-- ---- One record

-- its block, where it has one, lies in the image; its extent is at entry e
pub record Inside (kind : Kind) (s : List ℕ) (e r : ℕ) : Type 0 where
  pub inside : (block_in kind s e r ≡ 0 → ⊥) → block_size kind * block_in kind s e r + block_size kind ≤ length s

-- read to the DMA from a place on, where no row of 33 applies
unfoldable pub read_at : Kind → ℕ → ℕ → ℕ → ℕ → List ℕ → List ℕ → List ℕ
read_at kind o e r at s dma = put at (contents kind s (block_in kind s e r) r) dma if eqb (first_of (rows33 kind o e r s)) 0 else dma

-- the rows that 34, 40 and 41 share, from the answers to their tests
unfoldable pub rows_may_by : Kind → ℕ → Bool → ℕ → Bool → List Row
rows_may_by kind o stopped r locked =
    10 ∕ 0 when not (is_opened o) ∷ 255 ∕ 3 when stopped ∷ 6 ∕ 0 when ltb (top kind) r ∷ 8 ∕ 0 when locked ∷ []

-- the entry where the record's extent stands after a write: where it was, if that is refused
abbrev pub entry_or : ℕ → Result ℕ Refusal → ℕ
entry_or e (Ok x) = x
entry_or e (Err r) = e

-- what a write answers and leaves: the code, the entry where the extent then stands, the image
pub record OneDid (kind : Kind) (zeros : Bool) (o : ℕ) (stopped locked : Bool) (f : File) (e₀ e r : ℕ) (v s : List ℕ) (code entry : ℕ) (t : List ℕ) : Type 0 where
  pub gives : code ≡ first_of (rows_may_by kind o stopped r locked ++ rows_room kind s e r)
  pub within : entry ≤ entries kind
  pub wrote : code ≡ 0 → t ≡ written kind zeros (spot_at kind s e r) e₀ f r v s
  pub at : code ≡ 0 → entry ≡ (spot_at kind s e r).entry
  pub kept : (code ≡ 0 → ⊥) → t ≡ s
  pub stays : (code ≡ 0 → ⊥) → entry ≡ e

-- .. and the vector: marked where it is written
unfoldable pub marked_by : ℕ → Spot → List ℕ → List ℕ
marked_by code w v = taken_by w v if eqb code 0 else v

-- ---- A call's table and effect

unfoldable pub by33 : Kind → ℕ → File → ℕ → Buffers → Outcome
by33 kind o f r b = unless (rows33 kind o (entry_of kind b.image f (r / 128)) r b.image) b (does33 kind (entry_of kind b.image f (r / 128)) r b)

-- the routine of 34, and of 40, which clears a block that it takes
abbrev pub write_routine : Bool → Routine
write_routine false = Write
write_routine true = WriteZeros

unfoldable pub by34 : Kind → Bool → ℕ → LockList → ℕ → File → ℕ → Buffers → Outcome
by34 kind zeros p l o f r b =
    unless (rows34 kind p l o f (entry_of kind b.image f 0) (entry_of kind b.image f (r / 128)) r b.image) b
    (does34 kind zeros f (entry_of kind b.image f 0) (entry_of kind b.image f (r / 128)) r b)

unfoldable pub by41 : Kind → ℕ → LockList → ℕ → File → ℕ → Buffers → Outcome
by41 kind p l o f r b =
    unless (rows41 kind p l o f (entry_of kind b.image f 0) (entry_of kind b.image f (r / 128)) r b.dma b.image) b
    (does41 kind f (entry_of kind b.image f 0) (entry_of kind b.image f (r / 128)) r b)
