-- "S0 to S6 print": the input that says those calls, and document 01's nine lines. Assumes nothing.
use Rattle.std.specs.Prelude.{ℕ, List, [], ◌∷◌, ◌++◌, take, replicate}
use Rattle.rules.specs.Serves.{processes}
use Rattle.session.specs.Session.{Step, Line, session, fcb_with, dma_with}
use Rattle.script.specs.Text.{text}
use Rattle.script.specs.Records.{start_record, call_record}

-- the records of calls of the session
unfoldable pub step_record : Step → List ℕ
step_record s = call_record s.function s.process s.count (fcb_with s.record_number) (dma_with s.id)

unfoldable pub step_records : List Line → List ℕ
step_records [] = []
step_records (x ∷ xs) = step_record x.asks ++ step_records xs

-- capacity 3, open limit 2, lock limit 2, all users 0; ..
unfoldable pub session_start : List ℕ
session_start = start_record 3 2 2 (replicate processes 0) 0

-- .. then S0 to S6
unfoldable pub session_input : List ℕ
session_input = session_start ++ step_records (take 7 session)

unfoldable pub nine_lines : List ℕ
nine_lines =
    text "call process function A H\n"
    ++ text "0 1 22 0 0\n"
    ++ text "1 2 15 0 0\n"
    ++ text "2 1 34 0 0\n"
    ++ text "3 1 42 0 0\n"
    ++ text "4 2 34 8 0\n"
    ++ text "5 2 34 0 0\n"
    ++ text "6 2 42 14 0\n"
    ++ text "end 7\n"
