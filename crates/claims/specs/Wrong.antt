-- Wrong engines: those of "What the contracts have to say", and three more. Assumes nothing.
use Rattle.std.specs.Prelude.{ℕ, ◌+◌, Bool, [], ◌∷◌, set, eqb}
use Rattle.words.specs.Tests.{◌and◌, ◌or◌, ◌if◌else◌}
use Rattle.words.specs.Bytes.{byte, put, le}
use Rattle.words.specs.Tables.{◌∕◌}
use Rattle.rules.specs.declared.kind.Kind.{Kind}
use Rattle.rules.specs.Serves.{Buffers, Outcome, buffers, outcome, with_dma, with_list}
use Rattle.rules.specs.Several.{call_run, call_singly}
use Rattle.history.specs.History.{Serving, Engine, forgetful}

-- an engine refusing everything
unfoldable pub refusing : Engine
refusing before n p c b = outcome (255 ∕ 13) b

-- one answering 0/0 to everything
unfoldable pub accepting : Engine
accepting before n p c b = outcome (0 ∕ 0) b

-- one that answers well but stores nothing
unfoldable pub unstored : Outcome → Buffers → Outcome
unstored o b = outcome o.answer (buffers o.left.fcb o.left.dma b.list b.image)

unfoldable pub idle : Kind → Engine
idle kind before n p c b = unstored (call_run kind n p c b) b

-- one that does the first call's work and then pretends
unfoldable pub pretending : Kind → Engine
pretending kind [] n p c b = call_run kind n p c b
pretending kind (q ∷ qs) n p c b = unstored (call_run kind n p c b) b

-- one that does something else where a function is accepted, and serves all other calls as the rules do
unfoldable pub but_after : ℕ → (ℕ → Outcome → Outcome) → Serving → Serving
but_after function other e n p c b = other p (e n p c b) if eqb n function and eqb (e n p c b).answer (0 ∕ 0) else e n p c b

-- one with a made-up figure from 46
unfoldable pub figured : ℕ → ℕ → Outcome → Outcome
figured figure p o = outcome o.answer (with_dma o.left (put 0 (le 3 figure) o.left.dma))

unfoldable pub made_up : Kind → ℕ → Engine
made_up kind figure = forgetful (but_after 46 (figured figure) (call_run kind))

-- ---- Beyond the customer's text

-- single calls without the four bits
unfoldable pub unbitted : Kind → Engine
unbitted kind = forgetful (call_singly kind)

-- one that sets both limits to 64 on an accepted 46
unfoldable pub unlimited : ℕ → Outcome → Outcome
unlimited p o = outcome o.answer (with_list o.left (put 1 (64 ∷ 64 ∷ []) o.left.list))

unfoldable pub lavish : Kind → Engine
lavish kind = forgetful (but_after 46 unlimited (call_run kind))

-- one whose accepted 143 adds one to the caller's user in the list, and that refuses all writes
unfoldable pub promoted : ℕ → Outcome → Outcome
promoted p o = outcome o.answer (with_list o.left (set o.left.list (3 + p) (byte o.left.list (3 + p) + 1)))

unfoldable pub is_writing : ℕ → Bool
is_writing n = eqb n 19 or eqb n 22 or eqb n 23 or eqb n 34 or eqb n 40 or eqb n 41

unfoldable pub promoting : Kind → Engine
promoting kind before n p c b = outcome (255 ∕ 13) b if is_writing n else but_after 143 promoted (call_run kind) n p c b
