-- "Order of unlocks" (T-13), as statements about how a Lock and an Unlock are done, of every input. Assumes nothing.
use Rattle.std.specs.Prelude.{ℕ, ◌+◌, ◌≡◌, Bool, true, false, List, [], ◌∷◌, Option}
use Rattle.words.specs.Tests.{any}
use Rattle.words.specs.Bytes.{are_bytes}
use Rattle.words.specs.Tables.{◌∕◌}
use Rattle.rules.specs.declared.kind.Kind.{Kind}
use Rattle.rules.specs.declared.file.File.{File}
use Rattle.rules.specs.Serves.{Buffers, Outcome, buffers, outcome}
use Rattle.rules.specs.Locks.{held, unpack}
use Rattle.rules.specs.Asks.{caller_file, record_of}
use Rattle.rules.specs.Call.{call}
use Rattle.rules.specs.Told.{call_told}

-- ---- A Lock or an Unlock as lent

-- its process, its count, its own FCB and DMA
pub record Asking : Type 0 where
  pub process : ℕ
  pub count : ℕ
  pub fcb : List ℕ
  pub dma : List ℕ

-- the buffers that it is lent: its own two, the list and the image
abbrev pub lent_to : Asking → List ℕ → List ℕ → Buffers
lent_to q list image = buffers q.fcb q.dma list image

-- How it is done: what it answers and leaves, on a list and an image.
abbrev pub Doing : Type 0
Doing = Asking → List ℕ → List ℕ → Outcome

-- on what a call before it left
abbrev pub after : Doing → Asking → Outcome → Outcome
after does q o = does q o.left.list o.left.image

-- by the rules, on drives of one kind; ..
unfoldable pub locks : Kind → Doing
locks kind q list image = call kind 42 q.process q.count (lent_to q list image)

unfoldable pub unlocks : Kind → Doing
unlocks kind q list image = call kind 43 q.process q.count (lent_to q list image)

-- .. as `mpm_call` promises it, told the kind
unfoldable pub locks_told : Option Kind → Doing
locks_told t q list image = call_told t 42 q.process q.count (lent_to q list image)

unfoldable pub unlocks_told : Option Kind → Doing
unlocks_told t q list image = call_told t 43 q.process q.count (lent_to q list image)

-- an outcome leaves the call's own FCB and DMA, and the image, as they were
pub record Keeps (q : Asking) (image : List ℕ) (o : Outcome) : Type 0 where
  pub fcb_same : o.left.fcb ≡ q.fcb
  pub dma_same : o.left.dma ≡ q.dma
  pub image_same : o.left.image ≡ image

-- ---- "two Unlock calls, by one process or two, give the same answers and bytes in either order"

-- of the outcomes of u and then v, and of v and then u
pub record EitherOrder (u v : Asking) (image : List ℕ) (u-first v-second v-first u-second : Outcome) : Type 0 where
  pub answers_u : u-second.answer ≡ u-first.answer
  pub answers_v : v-second.answer ≡ v-first.answer
  pub list_same : u-second.left.list ≡ v-second.left.list
  pub keeps_u_first : Keeps u image u-first
  pub keeps_v_second : Keeps v image v-second
  pub keeps_v_first : Keeps v image v-first
  pub keeps_u_second : Keeps u image u-second

unfoldable pub Commutes : Doing → Type 0
Commutes unlock = (u v : Asking) (list image : List ℕ) → EitherOrder u v image
    (unlock u list image) (after unlock v (unlock u list image)) (unlock v list image) (after unlock u (unlock v list image))

-- ---- "one repeated adds nothing"

-- the second answers as the first did, and all four buffers are as the first left them
pub record AddsNothing (u : Asking) (image : List ℕ) (once again : Outcome) : Type 0 where
  pub same : again ≡ once
  pub keeps : Keeps u image once

unfoldable pub Repeats : Doing → Type 0
Repeats unlock = (u : Asking) (list image : List ℕ) → AddsNothing u image (unlock u list image) (after unlock u (unlock u list image))

-- ---- "an accepted Lock on records that the caller did not hold, followed by the Unlock of that run, gives back the list byte for byte"

-- the caller's file
abbrev pub file_of_caller : Asking → List ℕ → File
file_of_caller q list = caller_file q.process (unpack list) q.fcb

-- the caller holds the record at distance k from the first; .. some record of the run
unfoldable pub holds_at : Asking → List ℕ → ℕ → Bool
holds_at q list k = held (unpack list) q.process (file_of_caller q list) (record_of q.fcb + k)

unfoldable pub holds_some : Asking → List ℕ → Bool
holds_some q list = any (holds_at q list) q.count

-- the Unlock is accepted, and all four buffers are as they were before the Lock; the Lock's own FCB and DMA stayed too
pub record GivenBack (q : Asking) (list image : List ℕ) (locked unlocked : Outcome) : Type 0 where
  pub back : unlocked ≡ outcome (0 ∕ 0) (lent_to q list image)
  pub keeps : Keeps q image locked

unfoldable pub GivesBack : Doing → Doing → Type 0
GivesBack lock unlock = (q : Asking) (list image : List ℕ) → are_bytes list ≡ true → holds_some q list ≡ false → (lock q list image).answer ≡ 0 ∕ 0
    → GivenBack q list image (lock q list image) (after unlock q (lock q list image))

-- + and of such records alone: where the caller held one of the run, the list is another in the end
unfoldable pub TakesHeld : Doing → Doing → Type 0
TakesHeld lock unlock = (q : Asking) (list image : List ℕ) → holds_some q list ≡ true → (lock q list image).answer ≡ 0 ∕ 0
    → (after unlock q (lock q list image)).left.list ≡ list → ⊥

-- ---- + any number of Unlocks, in any order

-- the list after some of them, one after the other, over the same image
unfoldable pub list_after : Doing → List Asking → List ℕ → List ℕ → List ℕ
list_after unlock [] list image = list
list_after unlock (u ∷ us) list image = list_after unlock us (unlock u list image).left.list image

-- one order and another of the same calls
pub data Reordered : List Asking → List Asking → Type 0 where
  none : Reordered [] []
  first : (u : Asking) (us vs : List Asking) → Reordered us vs → Reordered (u ∷ us) (u ∷ vs)
  exchanged : (u v : Asking) (us : List Asking) → Reordered (u ∷ v ∷ us) (v ∷ u ∷ us)
  then : (us vs ws : List Asking) → Reordered us vs → Reordered vs ws → Reordered us ws

-- each answers what it would have answered before them all, and the list is the same in the end
pub record AnyOrder (unlock : Doing) : Type 0 where
  pub answers : (us : List Asking) (u : Asking) (list image : List ℕ) → (unlock u (list_after unlock us list image) image).answer ≡ (unlock u list image).answer
  pub ends : (us vs : List Asking) → Reordered us vs → (list image : List ℕ) → list_after unlock vs list image ≡ list_after unlock us list image

-- ---- All of it

pub record Unlocking (lock unlock : Doing) : Type 0 where
  pub commutes : Commutes unlock
  pub repeats : Repeats unlock
  pub gives_back : GivesBack lock unlock
  pub takes_held : TakesHeld lock unlock
  pub any_order : AnyOrder unlock
