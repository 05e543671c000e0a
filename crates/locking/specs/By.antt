-- A call's table and effect, on what its routine has found: the caller's list, its open at place o, the file, the run. Assumes nothing.
use Rattle.std.specs.Prelude.{ℕ}
use Rattle.rules.specs.declared.file.File.{File}
use Rattle.rules.specs.declared.list.LockList.{LockList}
use Rattle.rules.specs.Serves.{Buffers, Outcome}
use Rattle.rules.specs.Codes.{rows42, rows43}
use Rattle.rules.specs.Effects.{does42, does43}
use Rattle.rules.specs.Call.{unless}
use Rattle.rules.specs.declared.kind.Kind.{Kind}

unfoldable pub by42 : Kind → ℕ → LockList → ℕ → File → ℕ → ℕ → Buffers → Outcome
by42 kind p l o f r n b = unless (rows42 kind p l o f r n b.dma b.image) b (does42 p l o f r n b)

unfoldable pub by43 : Kind → ℕ → LockList → ℕ → File → ℕ → ℕ → Buffers → Outcome
by43 kind p l o f r n b = unless (rows43 kind l o r n b.dma) b (does43 p l o f r n b)
