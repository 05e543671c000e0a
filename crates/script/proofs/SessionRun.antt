-- `mpmcalls` prints document 01's nine lines for S0 to S6, and DISK.OUT is the image after S6. Each call is as the session's theorem lists it.
-- Assumes nothing.
use Prim.Native.Nat.{ℕ, zero, suc, ◌+◌, ◌≤◌, ◌<◌}
use mathlib.Core.Path.{◌≡◌, refl, ap, ◌∙◌}
use mathlib.Core.Bool.{true, false}
use mathlib.Core.List.{List, [], ◌∷◌, ◌++◌}
use mathlib.Core.Option.{some}
use native.Mathlib.Nat.{not-suc-le-zero}
use native.Mathlib.Omega.{arith}
use lib.ListN.{length, take, replicate, length-append, length-replicate}
use Rattle.words.specs.Tests.{◌if◌else◌}
use Rattle.words.specs.Tables.{◌∕◌, any_row}
use Rattle.rules.specs.declared.kind.Rule.TheVariants.{Mpm}
use Rattle.rules.specs.declared.kind.Kind.TheVariants.{Small}
use Rattle.rules.specs.Kinds.{told_rule, told_kind}
use Rattle.rules.specs.Locks.{rule_in}
use Rattle.rules.specs.Serves.{Outcome, buffers, processes, list_size, fcb_size, dma_size}
use Rattle.rules.specs.Several.{call_run}
use Rattle.rules.specs.Vector.{Five, Built, five, vector_of, rows_build}
use Rattle.rules.specs.Told.{five_told, build_told}
use Rattle.rules.proofs.Vector.{five_whole, build_accepted}
use Rattle.session.specs.Open.{rules}
use Rattle.session.specs.Session.{Step, Line, AsListed, session, fcb_with, dma_with, first_image, first_list, image5, orders, list0, list1, list3, list11, list12}
use Rattle.session.specs.Session.{list13, list_with, open_by, lock_by, none}
use Rattle.session.proofs.Session.{the_session}
use Rattle.script.specs.Text.{text, digits_below, digits}
use Rattle.script.specs.Records.{start_record, call_record, call_size, is_start, is_call}
use Rattle.script.specs.Lines.{field, header_line, call_line, end_line}
use Rattle.script.specs.Run.{Ran, ran, ◌then◌, image_of, start_of, call_of, vector_long, vector_for, call_then, calls_on, run_of}
use Rattle.script.specs.SessionRun.{step_record, step_records, session_start, session_input, nine_lines}
use Rattle.script.proofs.Records.{start_is, call_is, call_fcb, call_dma, is_long}
use Rattle.script.proofs.Runs.{image_fits, start_good, calls_end, calls_go_on}

-- an outcome, and beside it the vector of its image
unfoldable with_vector : Outcome → Five
with_vector o = five o (vector_of (Small Mpm) o.left.image)

-- ---- a record of the session

fcb_long : (r : ℕ) → length (fcb_with r) ≡ fcb_size
unfolding fcb_with
fcb_long r = refl

dma_long : (id : ℕ) → length (dma_with id) ≡ dma_size
unfolding dma_with
dma_long id = ap suc (length-replicate {A = ℕ} 2047 0)

step_is : (s : Step) → is_call (step_record s) ≡ true
unfolding step_record
step_is s = call_is s.function s.process s.count (fcb_with s.record_number) (dma_with s.id) (fcb_long s.record_number) (dma_long s.id)

-- with the vector of the image: the call of four buffers, and the vector of the image that it left
step_asks : (s : Step) (l i : List ℕ) → rule_in l ≡ Mpm
    → call_of (step_record s) l i (vector_of (Small Mpm) i)
    ≡ with_vector (call_run (Small Mpm) s.function s.process s.count (buffers (fcb_with s.record_number) (dma_with s.id) l i))
unfolding step_record call_of call_record told_kind five_told with_vector ◌if◌else◌
step_asks s l i r =
    let f = call_fcb s.function s.process s.count (fcb_with s.record_number) (dma_with s.id) (fcb_long s.record_number) (dma_long s.id) in
    let d = call_dma s.function s.process s.count (fcb_with s.record_number) (dma_with s.id) (fcb_long s.record_number) (dma_long s.id) in
    rw (r, f, d) (five_whole (Small Mpm) s.function s.process s.count (vector_of (Small Mpm) i)
    (buffers (fcb_with s.record_number) (dma_with s.id) l i) refl)

-- ---- calls of the session, as listed

-- the lines of calls, and the line after them
unfoldable lines_from : ℕ → List Line → List ℕ
lines_from calls [] = end_line calls
lines_from calls (x ∷ xs) = call_line calls x.asks.process x.asks.function x.gives.answer ++ lines_from (calls + 1) xs

-- the image that they leave
unfoldable image_after : List ℕ → List Line → List ℕ
image_after i [] = i
image_after i (x ∷ xs) = image_after x.gives.left.image xs

-- the line of a call of the session, and on with what is listed
step_then : (calls : ℕ) (s : Step) (o : Outcome) (f : List ℕ → List ℕ → List ℕ → Ran)
    → call_then calls (step_record s) (with_vector o) f
    ≡ (call_line calls s.process s.function o.answer then f o.left.list o.left.image (vector_of (Small Mpm) o.left.image))
unfolding call_then step_record call_record with_vector
step_then calls s o f = refl

-- every list that is listed chooses the rule 0
unfoldable EachMpm : List Line → Type 0
EachMpm [] = Unit {0}
EachMpm (x ∷ xs) = (rule_in x.gives.left.list ≡ Mpm) × EachMpm xs

calls_run : (more calls : ℕ) (l i : List ℕ) (xs : List Line) → length xs < more → AsListed l i xs → rule_in l ≡ Mpm → EachMpm xs
    → calls_on more calls (step_records xs) l i (vector_of (Small Mpm) i) ≡ ran (lines_from calls xs) (some (image_after i xs))
unfolding AsListed EachMpm step_records lines_from image_after
calls_run zero calls l i xs h a r m = absurd (not-suc-le-zero h)
calls_run (suc more) calls l i [] h a r m = calls_end more calls l i (vector_of (Small Mpm) i)
calls_run (suc more) calls l i (x ∷ xs) h a r m =
    calls_go_on more calls (step_record x.asks) (step_records xs) l i (vector_of (Small Mpm) i) (step_is x.asks)
    ∙ ap (λ (o : Five). call_then calls (step_record x.asks) o (calls_on more (calls + 1) (step_records xs))) (step_asks x.asks l i r ∙ ap with_vector a.0)
    ∙ step_then calls x.asks x.gives (calls_on more (calls + 1) (step_records xs))
    ∙ ap (λ (r : Ran). call_line calls x.asks.process x.asks.function x.gives.answer then r)
    (calls_run more (calls + 1) x.gives.left.list x.gives.left.image xs (omega arith) a.1 m.0 m.1)

-- the first k calls of those listed
first_listed : (k : ℕ) (l i : List ℕ) (xs : List Line) → AsListed l i xs → AsListed l i (take k xs)
unfolding AsListed
first_listed zero l i xs a = tt
first_listed (suc k) l i [] a = tt
first_listed (suc k) l i (x ∷ xs) a = (a.0, first_listed k x.gives.left.list x.gives.left.image xs a.1)

first_mpm : (k : ℕ) (xs : List Line) → EachMpm xs → EachMpm (take k xs)
unfolding EachMpm
first_mpm zero xs m = tt
first_mpm (suc k) [] m = tt
first_mpm (suc k) (x ∷ xs) m = (m.0, first_mpm k xs m.1)

-- there are no more calls than bytes
few : (xs : List Line) → length xs ≤ length (step_records xs)
unfolding step_records
few [] = omega arith
few (x ∷ xs) =
    let h = few xs in
    let n = is_long call_size 0x43 (step_record x.asks) (step_is x.asks) in
    let l = length-append (step_record x.asks) (step_records xs) in
    omega arith

-- ---- from the start on

pub begins : is_start session_start ≡ true
unfolding session_start
begins = start_is 3 2 2 (replicate processes 0) 0 refl

pub starts : start_of session_start (replicate list_size 0) ≡ record { answer = 0 ∕ 0; list = first_list }
unfolding rules start_of session_start start_record first_list
starts = refl

-- the first image is sound, so the vector beside it is its own
pub begins_with : vector_for session_start first_image ≡ vector_of (Small Mpm) first_image
unfolding vector_for told_kind told_rule build_told session_start start_record ◌if◌else◌
begins_with = ap (λ (x : Built). x.vector) (build_accepted (Small Mpm) first_image (replicate vector_long 0) fine)
  where
    fine : any_row (rows_build (Small Mpm) first_image (replicate vector_long 0)) ≡ false
    fine = unfold rules first_image in refl

-- the session is written to the rule 0
first_is_mpm : rule_in first_list ≡ Mpm
unfolding rules first_list
first_is_mpm = refl

session_mpm : EachMpm session
unfolding rules EachMpm session orders first_list list0 list1 list3 list11 list12 list13 list_with open_by lock_by none
session_mpm = (refl, (refl, (refl, (refl, (refl, (refl, (refl, (refl, (refl, (refl, (refl, (refl, (refl, (refl, tt))))))))))))))

-- the first k calls of the session
the_run : (k : ℕ)
    → run_of (some first_image) (session_start ++ step_records (take k session))
    ≡ ran (header_line ++ lines_from 0 (take k session)) (some (image_after first_image (take k session)))
unfolding image_of first_image
the_run k =
    let rest = step_records (take k session) in
    let n = length-append session_start (step_records (take k session)) in
    let m = few (take k session) in
    let listed = first_listed k first_list first_image session the_session in
    image_fits (some first_image) (session_start ++ rest) (omega (arith, length-replicate {A = ℕ} 4096 0xE5))
    ∙ ap (λ (r : Ran). header_line then r)
    (start_good session_start rest first_image first_list begins starts
    ∙ ap (calls_on (suc (length (session_start ++ rest))) 0 rest first_list first_image) begins_with
    ∙ calls_run (suc (length (session_start ++ rest))) 0 first_list first_image (take k session) (omega arith) listed first_is_mpm (first_mpm k session
    session_mpm))

pub nine-lines : run_of (some first_image) session_input ≡ ran nine_lines (some image5)
unfolding session_input nine_lines session lines_from image_after text digits_below digits field header_line call_line end_line ◌if◌else◌
nine-lines = the_run 7
