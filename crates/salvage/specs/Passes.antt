-- What the passes of a repair have done so far. Assumes nothing.
use Rattle.std.specs.Prelude.{ℕ, ◌+◌, ◌≡◌, Bool, false, List}
use Rattle.words.specs.Tests.{count}
use Rattle.words.specs.Lists.{tab}
use Rattle.words.specs.Bytes.{byte}
use Rattle.words.specs.Hints.{Hints}
use Rattle.rules.specs.declared.kind.Kind.{Kind}
use Rattle.rules.specs.Kinds.{entries}
use Rattle.index.specs.Slots.{slot_at, in_use}
use Rattle.drive.specs.Marks.{Marks}
use Rattle.repair.specs.Salvage.{must_go, must_zero, zeroed_at, zeroed_to, is_zeroed, cleaned_at, cleaned_to, told_of, repaired, report_of}

-- ---- the first two passes: t is the image now, the hints know its entries

-- asked whether entry e must go: the hints know the entries before it, and it too where it stays
pub record MustGo (kind : Kind) (s : List ℕ) (e : ℕ) (r : Bool) (hints : List ℕ) : Type 0 where
  pub answer : r ≡ must_go kind s e
  pub before : Hints (slot_at s) (in_use s) e hints
  pub knows : r ≡ false → Hints (slot_at s) (in_use s) (e + 1) hints

-- the image is x, and the hints know its first n entries
pub record Known (x : List ℕ) (n : ℕ) (t hints : List ℕ) : Type 0 where
  pub image : t ≡ x
  pub knows : Hints (slot_at t) (in_use t) n hints

-- ---- the third: s is the image when the place, the entry or the pass begins

-- place k of entry e: r is whether it was zeroed
pub record PlaceDone (kind : Kind) (s : List ℕ) (e k : ℕ) (r : Bool) (t seen : List ℕ) : Type 0 where
  pub image : t ≡ zeroed_at kind e k s
  pub told : r ≡ must_zero kind s e k
  pub marks : Marks kind 1 t e (k + 1) seen

-- the places of entry e before k: n were zeroed
pub record PlacesDone (kind : Kind) (s : List ℕ) (e k n : ℕ) (t seen : List ℕ) : Type 0 where
  pub image : t ≡ zeroed_to kind e k s
  pub told : n ≡ count (is_zeroed kind s e) k
  pub marks : Marks kind 1 t e k seen

-- entry e, of which `was` is told where it is empty
pub record EntryDone (kind : Kind) (was : ℕ) (s : List ℕ) (e r : ℕ) (t seen : List ℕ) : Type 0 where
  pub image : t ≡ cleaned_at kind e s
  pub told : r ≡ told_of kind was s e
  pub marks : Marks kind 1 t (e + 1) 0 seen

-- what is told of entry e in its turn, r being the report before
unfoldable pub told_from : Kind → List ℕ → List ℕ → ℕ → ℕ
told_from kind r s e = told_of kind (byte r e) (cleaned_to kind e s) e

-- all entries
pub record EntriesDone (kind : Kind) (r₀ s t r : List ℕ) : Type 0 where
  pub image : t ≡ cleaned_to kind (entries kind) s
  pub told : r ≡ tab (told_from kind r₀ s) (entries kind)

-- ---- all three

pub record Repaired (kind : Kind) (s t r : List ℕ) : Type 0 where
  pub image : t ≡ repaired kind s
  pub told : r ≡ report_of kind s
