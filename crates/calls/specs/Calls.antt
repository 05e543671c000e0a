-- A call with several records, and with one. Assumes nothing.
use Rattle.std.specs.Prelude.{ℕ, ◌≡◌, Bool, true, false, List, Some}
use Rattle.words.specs.Tests.{◌if◌else◌}
use Rattle.words.specs.Tables.{first_of}
use Rattle.rules.specs.declared.routine.Routine.{Routine}
use Rattle.rules.specs.Serves.{Buffers, Outcome, Did}
use Rattle.rules.specs.Call.{served, call}
use Rattle.rules.specs.Several.{serves_run, several, told, call_run}
use Rattle.rules.specs.Vector.{Five, besides, rows_vector, vector_of}
use Rattle.rules.specs.declared.kind.Kind.{Kind}

-- with several records to a call, and with one
unfoldable pub call_by : Kind → Bool → ℕ → ℕ → ℕ → Buffers → Outcome
call_by kind true = call_run kind
call_by kind false = call kind

-- once the general table lets it pass
unfoldable pub served_by : Kind → Bool → ℕ → Routine → ℕ → ℕ → Buffers → Outcome
served_by kind true n k p c b = told (several kind n p c b) if serves_run n else served kind (Some k) p c b
served_by kind false n k p c b = served kind (Some k) p c b

-- ---- With the vector beside the image (T-04)

-- what a routine answered and left is that outcome, and the vector that it left is that of the image
pub record DidBeside (kind : Kind) (o : Outcome) (answer : ℕ) (left : Buffers) (vector : List ℕ) : Type 0 where
  pub did : Did o answer left
  pub agrees : vector ≡ vector_of kind left.image

unfoldable pub five_by : Kind → Bool → ℕ → ℕ → ℕ → List ℕ → Buffers → Five
five_by kind z n p c v b = besides kind (first_of (rows_vector kind n p c v b)) v b (call_by kind z n p c b)
