-- Lines of the kinds that S0 to S6 do not print, and runs that end with them. Assumes nothing.
use Prim.Native.Nat.{ℕ}
use mathlib.Core.Path.{◌≡◌, refl, ap, ◌∙◌}
use mathlib.Core.List.{List, [], ◌∷◌, ◌++◌}
use mathlib.Core.Option.{none, some}
use native.Mathlib.Omega.{arith}
use lib.ListN.{replicate, length-replicate}
use Rattle.words.specs.Tests.{◌and◌, ◌if◌else◌}
use Rattle.session.specs.Open.{rules}
use Rattle.session.specs.Session.{first_list}
use Rattle.script.specs.Text.{text, digits_below, digits}
use Rattle.script.specs.Records.{start_record, is_record}
use Rattle.script.specs.Lines.{field, header_line, call_line, bad_line, bad_start_line, bad_call_line, long_image_line}
use Rattle.script.specs.Run.{Ran, ran, ◌then◌, image_of, start_of, run_of}
use Rattle.script.specs.SessionRun.{session_start}
use Rattle.script.proofs.Runs.{image_long, image_fits, start_cut, start_refused, start_good, calls_cut}
use Rattle.script.proofs.SessionRun.{begins, starts}

-- 255/13 is 255 + 256·13
refused : call_line 10 200 99 3583 ≡ text "10 200 99 255 13\n"
unfolding text digits_below digits field call_line ◌if◌else◌
refused = refl

bad-start : bad_start_line ≡ text "bad record 0\n"
unfolding text digits_below digits field bad_line bad_start_line ◌if◌else◌
bad-start = refl

bad_first_call : bad_call_line 0 ≡ text "bad record 1\n"
unfolding text digits_below digits field bad_line bad_call_line ◌if◌else◌
bad_first_call = refl

-- an image of 65,537 bytes
too_long : (input : List ℕ) → run_of (some (replicate 65537 0xE5)) input ≡ ran (text "image too long\n") none
unfolding image_of long_image_line
too_long input = image_long (some (replicate 65537 0xE5)) input (omega (arith, length-replicate {A = ℕ} 65537 0xE5))

-- no image, and no start record
nothing : run_of none [] ≡ ran (header_line ++ text "bad record 0\n") none
unfolding image_of is_record ◌and◌
nothing = start_cut none [] (omega arith) refl ∙ ap (λ (v : List ℕ). ran (header_line ++ v) none) bad-start

-- a start record with a capacity over 64
over : run_of none (start_record 65 2 2 (replicate 16 0) 0) ≡ ran (header_line ++ text "bad record 0\n") none
unfolding rules start_of start_record image_of
over = start_refused none (start_record 65 2 2 (replicate 16 0) 0) (omega arith) refl ∙ ap (λ (v : List ℕ). ran (header_line ++ v) none) bad-start

-- a call record cut after its first byte
cut : run_of none (session_start ++ (0x4D ∷ [])) ≡ ran (header_line ++ text "bad record 1\n") none
unfolding image_of is_record ◌and◌
cut =
    image_fits none (session_start ++ (0x4D ∷ [])) (omega arith)
    ∙ ap (λ (r : Ran). header_line then r)
    (start_good session_start (0x4D ∷ []) [] first_list begins starts ∙ calls_cut _ 0 (0x4D ∷ []) first_list [] _ (omega arith) refl)
    ∙ ap (λ (v : List ℕ). ran (header_line ++ v) none) bad_first_call
