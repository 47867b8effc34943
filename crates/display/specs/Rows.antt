-- Some calls on a display, worked out by hand: display 3, which follows host 1. Document 02, P11. What is heard are bytes, those of messages that
-- the reader accepts but for the rows of refusals.
use Rattle.std.specs.Prelude.{Option, ℕ, List, [], ◌∷◌, ◌++◌, replicate}
use Rattle.message.specs.declared.Name.{Name}
use Rattle.message.specs.declared.NameEntry.{NameEntry}
use Rattle.message.specs.Entry.{as_host, as_number, blank_cue}
use Rattle.message.specs.Message.{DATA, RQST, REPL, SESS, XPRS, FTCH, LATE, ANNC, Meaning, bytes_of}
use Rattle.end.specs.Answer.{Effect, Out, Got, Done, Ignored, Nothing, Did}
use Rattle.display_window.specs.declared.Window.{Window}
use Rattle.display_window.specs.Parts.{Unstarted, started, NoneAbove, between}
use Rattle.display_window.specs.declared.Span.{Span}
use Rattle.display_window.specs.declared.Lost.{Lost}
use Rattle.display_window.specs.Window.{none_lost}
use Rattle.display.specs.declared.Display.{Display}
use Rattle.display.specs.Display.{with_clock}
use Rattle.display.specs.Call.{Hear, Step, question_of, Result, event_of}

-- ---- displays

abbrev pub display_at : Option Window → Display
display_at w = record { own = as_host 3; sender = as_host 1; clock = 0; window = w }

abbrev pub window : ℕ → ℕ → ℕ → Option Window
window trail lead set = started (as_number trail) (as_number lead) set

-- ---- messages

abbrev pub named : ℕ → ℕ → Name
named source n = record { source = as_host source; number = as_number n }

abbrev pub entry : ℕ → ℕ → ℕ → NameEntry
entry source n host = record { name = named source n; host = as_host host }

abbrev pub from : ℕ → ℕ → List NameEntry → List (List ℕ) → Meaning
from sender kind names cues = record { kind = kind; sender = as_host sender; stamp = 5; names = names; cues = cues; reports = []; echoes = [] }

abbrev pub data_of : ℕ → ℕ → Meaning
data_of h n = from h DATA (entry h n h ∷ []) (blank_cue ∷ [])

-- host 2's REPL of a source's cue, for host 4
abbrev pub repair_of : ℕ → ℕ → Meaning
repair_of source n = from 2 REPL (entry source n 4 ∷ []) (blank_cue ∷ [])

abbrev pub announced : ℕ → ℕ → ℕ → Meaning
announced h trail lead = from h ANNC (entry h trail h ∷ entry h lead h ∷ []) []

-- the cue with focus −2 and all else 0
abbrev pub cue_minus_two : List ℕ
cue_minus_two = 255 ∷ 254 ∷ replicate 22 0

abbrev pub got : ℕ → Effect
got n = Got (named 1 n) blank_cue

abbrev pub losing : ℕ → ℕ → Option Span → Lost
losing trail set above = record { trail = as_number trail; set = set; above = above }

-- ---- what is heard: a window, the message, and the answer, the losses and the window that follow

pub record Row : Type 0 where
  pub before : Option Window
  pub message : Meaning
  pub effect : Effect
  pub lost : Lost
  pub then : Option Window

abbrev pub row : Option Window → Meaning → Effect → Lost → Option Window → Row
row before message effect lost then = record { before = before; message = message; effect = effect; lost = lost; then = then }

abbrev pub ignores : Option Window → Meaning → Row
ignores w message = row w message Ignored none_lost w

abbrev pub heard_by : Row → Result
heard_by r = event_of (display_at r.before) (Hear (bytes_of r.message)) 7 128

abbrev pub foreseen : Row → Result
foreseen r = record { outcome = Did r.effect; lost = r.lost; left = with_clock (display_at r.then) 7 }

unfoldable pub rows : List Row
rows =
    -- the start
    row Unstarted (data_of 1 5) (got 5) none_lost (window 5 5 1)
    -- trail is 7 then: 5 was received, and 6 is above the old lead
    ∷ row (window 5 5 1) (data_of 1 70) (got 70) (losing 5 0 (between (as_number 6) (as_number 6))) (window 7 70 9223372036854775808)
    -- the 53 numbers 7 to 59 are lost
    ∷ row (window 7 70 9223372036854775808) (announced 1 60 70) Done (losing 7 9007199254740991 NoneAbove) (window 60 70 1024)
    -- 60 to 69 in the set, and 71 to 199 above the old lead: all of the old window is passed
    ∷ row (window 60 70 1024) (announced 1 200 210) Done (losing 60 1023 (between (as_number 71) (as_number 199))) (window 200 210 0)
    ∷ row (window 200 210 0) (data_of 1 205) (got 205) (losing 200 0 NoneAbove) (window 200 210 32)
    -- a repeat, and a cue below trail
    ∷ ignores (window 200 210 32) (data_of 1 205)
    ∷ ignores (window 200 210 32) (data_of 1 199)
    -- values lower than it has heard; and one lower, one higher: each goes by itself
    ∷ row (window 200 210 32) (announced 1 150 205) Done (losing 200 0 NoneAbove) (window 200 210 32)
    ∷ row (window 200 210 32) (announced 1 190 220) Done (losing 200 0 NoneAbove) (window 200 220 32)
    ∷ row (window 200 210 32) (announced 1 206 208) Done (losing 200 31 NoneAbove) (window 206 210 0)
    -- a window of 64 numbers is passed as a whole: with its last received, and with none
    ∷ row (window 7 70 9223372036854775808) (announced 1 71 71) Done (losing 7 9223372036854775807 NoneAbove) (window 71 71 0)
    ∷ row (window 0 63 0) (announced 1 64 127) Done (losing 0 18446744073709551615 NoneAbove) (window 64 127 0)
    -- the first and the last number
    ∷ row Unstarted (data_of 1 0) (got 0) none_lost (window 0 0 1)
    ∷ row (window 0 0 1) (data_of 1 65535) (got 65535) (losing 0 0 (between (as_number 1) (as_number 65471))) (window 65472 65535 9223372036854775808)
    ∷ row Unstarted (data_of 1 65535) (got 65535) none_lost (window 65535 65535 1)
    -- a REPL before the start, one of another's cue, and one of the sender's
    ∷ ignores Unstarted (repair_of 1 5)
    ∷ ignores (window 5 5 1) (repair_of 0 6)
    ∷ row (window 5 5 1) (repair_of 1 6) (got 6) (losing 5 0 NoneAbove) (window 5 6 3)
    -- a REPL that loses, a repeat, and one below trail
    ∷ row (window 5 5 1) (repair_of 1 70) (got 70) (losing 5 0 (between (as_number 6) (as_number 6))) (window 7 70 9223372036854775808)
    ∷ ignores (window 200 210 32) (repair_of 1 205)
    ∷ ignores (window 200 210 32) (repair_of 1 199)
    -- another cue than zeros
    ∷ row (window 5 5 1) (from 1 DATA (entry 1 6 1 ∷ []) (cue_minus_two ∷ [])) (Got (named 1 6) cue_minus_two) (losing 5 0 NoneAbove) (window 5 6 3)
    -- kind 24 before the start, and another's
    ∷ ignores Unstarted (announced 1 5 10)
    ∷ ignores (window 5 5 1) (announced 2 5 10)
    -- another's DATA, a RQST, a SESS and the kinds 21 to 23
    ∷ ignores Unstarted (data_of 2 5)
    ∷ ignores (window 5 5 1) (data_of 2 6)
    ∷ ignores (window 5 5 1) (from 2 RQST (entry 1 6 2 ∷ []) [])
    ∷ ignores (window 5 5 1) (from 1 SESS [] [])
    ∷ ignores (window 5 5 1) (from 2 XPRS (entry 1 6 0 ∷ []) [])
    ∷ ignores (window 5 5 1) (from 2 FTCH (entry 1 6 0 ∷ []) [])
    ∷ ignores (window 5 5 1) (from 2 LATE (entry 1 6 4 ∷ []) (blank_cue ∷ []))
    ∷ []

unfoldable pub heard_rows : List Row → List Result
heard_rows [] = []
heard_rows (r ∷ rs) = heard_by r ∷ heard_rows rs

unfoldable pub foreseen_rows : List Row → List Result
foreseen_rows [] = []
foreseen_rows (r ∷ rs) = foreseen r ∷ foreseen_rows rs

-- ---- steps: 6 is the lowest number that window 5..8 with 5 and 8 received lacks, and its RQST goes out at clock 392

abbrev pub stepping : Option Window → Result
stepping w = event_of (display_at w) Step 392 128

abbrev pub steps_to : Effect → Option Window → Result
steps_to effect w = record { outcome = Did effect; lost = none_lost; left = with_clock (display_at w) 392 }

abbrev pub request6 : List ℕ
request6 = 18 ∷ 3 ∷ 0 ∷ 0 ∷ 0 ∷ 0 ∷ 1 ∷ 136 ∷ 1 ∷ 1 ∷ 0 ∷ 6 ∷ 3 ∷ 0 ∷ 0 ∷ 0 ∷ []

unfoldable pub steps : List Result
steps = stepping (window 5 8 9) ∷ stepping (window 5 8 15) ∷ stepping Unstarted ∷ []

unfoldable pub steps_give : List Result
steps_give = steps_to (Out request6) (window 5 8 9) ∷ steps_to Nothing (window 5 8 15) ∷ steps_to Nothing Unstarted ∷ []

-- ---- a probe is passed over, and sets the clock

abbrev pub probed : Result
probed = event_of (display_at (window 5 8 9)) (Hear []) 7 128

abbrev pub probed_gives : Result
probed_gives = record { outcome = Did Ignored; lost = none_lost; left = with_clock (display_at (window 5 8 9)) 7 }

-- ---- the old kinds: a DATA and a REPL of document 01's layout, kinds 1 and 3, of cue 6

abbrev pub old_bytes : ℕ → ℕ → ℕ → List ℕ
old_bytes kind sender host = kind ∷ sender ∷ 0 ∷ 0 ∷ 0 ∷ 0 ∷ 0 ∷ 5 ∷ 1 ∷ 1 ∷ 6 ∷ host ∷ 1 ∷ blank_cue ++ (0 ∷ 0 ∷ [])

unfoldable pub old_heard : List Result
old_heard = event_of (display_at Unstarted) (Hear (old_bytes 1 1 1)) 7 128 ∷ event_of (display_at (window 5 5 1)) (Hear (old_bytes 3 2 4)) 7 128 ∷ []

unfoldable pub old_gives : List Result
old_gives =
    record { outcome = Did (got 6); lost = none_lost; left = with_clock (display_at (window 6 6 1)) 7 }
    ∷ record { outcome = Did (got 6); lost = losing 5 0 NoneAbove; left = with_clock (display_at (window 5 6 3)) 7 }
    ∷ []

-- ---- refusals: a display, the call with its clock and room, and the number

abbrev pub at5 : Option Window → Display
at5 w = with_clock (display_at w) 5

abbrev pub hosts : ℕ → ℕ → Display
hosts own sender = record { own = as_host own; sender = as_host sender; clock = 5; window = Unstarted }

-- the number of each refusal; of some a later question would be answered no too: 1 before 3, 3 before 4, 4 before 8, 5 before 8
unfoldable pub refused_as : List ℕ
refused_as =
    question_of (hosts 8 1) Step 5 127
    ∷ question_of (hosts 8 1) Step 281474976710656 128
    ∷ question_of (hosts 3 8) Step 5 128
    ∷ question_of (hosts 3 3) Step 5 128
    ∷ question_of (with_clock (display_at Unstarted) 281474976710656) Step 281474976710656 128
    ∷ question_of (at5 (window 6 5 0)) Step 5 128
    ∷ question_of (at5 (window 5 69 0)) Step 5 128
    ∷ question_of (at5 (window 5 8 16)) Step 5 128
    ∷ question_of (at5 (window 5 68 9)) (Hear (1 ∷ [])) 281474976710656 128
    ∷ question_of (at5 (window 5 68 9)) (Hear (1 ∷ [])) 4 128
    ∷ question_of (at5 Unstarted) (Hear (1 ∷ [])) 5 128
    ∷ question_of (at5 Unstarted) (Hear (bytes_of (from 1 ANNC (entry 1 5 1 ∷ []) []))) 5 128
    ∷ question_of (at5 Unstarted) (Hear (bytes_of (announced 8 5 6))) 5 128
    ∷ question_of (at5 Unstarted) (Hear (bytes_of (announced 1 5 69))) 5 128
    ∷ []

abbrev pub numbers : List ℕ
numbers = 1 ∷ 3 ∷ 3 ∷ 3 ∷ 3 ∷ 3 ∷ 3 ∷ 3 ∷ 4 ∷ 5 ∷ 8 ∷ 9 ∷ 10 ∷ 11 ∷ []
