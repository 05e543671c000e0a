-- A call's table and effect, on what its routine has found: the caller's list, its open at place o, the file. Assumes nothing.
use Rattle.std.specs.Prelude.{ℕ}
use Rattle.rules.specs.declared.file.File.{File}
use Rattle.rules.specs.declared.list.LockList.{LockList}
use Rattle.rules.specs.Serves.{Buffers, Outcome}
use Rattle.rules.specs.Drive.{look_up}
use Rattle.rules.specs.Codes.{rows15, rows19, rows22, rows23, rows35}
use Rattle.rules.specs.Effects.{does15, does19, does22, does23, does35}
use Rattle.rules.specs.Call.{unless}
use Rattle.rules.specs.declared.kind.Kind.{Kind}

unfoldable pub by15 : Kind → ℕ → LockList → ℕ → File → Buffers → Outcome
by15 kind p l o f b = unless (rows15 kind p l o f (look_up kind b.image f) b.fcb) b (does15 p l o f (look_up kind b.image f) b)

unfoldable pub by22 : Kind → ℕ → LockList → File → Buffers → Outcome
by22 kind p l f b = unless (rows22 kind p l (look_up kind b.image f) b.fcb b.image) b (does22 kind p l f b)

unfoldable pub by19 : Kind → ℕ → LockList → ℕ → File → Buffers → Outcome
by19 kind p l o f b = unless (rows19 kind p l f (look_up kind b.image f) b.fcb b.image) b (does19 kind p l o f b)

unfoldable pub by23 : Kind → LockList → File → File → Buffers → Outcome
by23 kind l f new b =
    unless (rows23 kind l f (look_up kind b.image f) (look_up kind b.image new) b.fcb b.image) b (does23 kind f new b)

unfoldable pub by35 : Kind → File → Buffers → Outcome
by35 kind f b = unless (rows35 kind (look_up kind b.image f) b.fcb) b (does35 (look_up kind b.image f) b)
