-- Every number once. Document 02, P11: "Every number from the start to lead is received, missing or lost."; "After any messages each number
-- from the start to lead was handed out once, is missing, or was reported lost once." The history is the list of a display's calls with their
-- answers and losses; any bytes may be heard, and refused calls are among them.
use Rattle.std.specs.Prelude.{◌≡◌, ℕ, ◌+◌, ◌-◌, ◌≤◌, ◌<◌, Bool, true, false, cond, not, ◌&&◌, List, [], ◌∷◌, ◌++◌, ◌⊎◌, leb, ltb, eqb}
use Rattle.std.proofs.Math.Option.{Option, none, some}
use Rattle.numbers.specs.Bits.{bit}
use Rattle.message.specs.declared.Host.{Host}
use Rattle.message.specs.Message.{bytes_of}
use Rattle.end.specs.Answer.{Effect, Out, Nothing, Did, Class, PutsOut, HandsOut, HandsLate, Untouched, class_in, Outcome}
use Rattle.display_window.specs.Parts.{Seen, Unstarted, Started, started, NoneAbove, Above}
use Rattle.std.specs.Prelude as rust
use Rattle.display_window.specs.declared.Span.{Span}
use Rattle.display_window.specs.declared.Lost.{Lost}
use Rattle.display_window.specs.Window.{none_lost}
use Rattle.display.specs.declared.Display.{Display}
use Rattle.display.specs.Display.{sound_of, opening_of, with_clock}
use Rattle.display.specs.Request.{request_for}
use Rattle.display.specs.Call.{Event, Step, question_of, Result, event_of}

-- ---- the history
pub record Call : Type 0 where
  pub event : Event
  pub clock : ℕ
  pub room : ℕ

pub record Told : Type 0 where
  pub outcome : Outcome
  pub lost : Lost

abbrev pub after : Display → Call → Display
after d c = (event_of d c.event c.clock c.room).left

unfoldable pub after_all : Display → List Call → Display
after_all d [] = d
after_all d (c ∷ cs) = after_all (after d c) cs

unfoldable pub told : Display → List Call → List Told
told d [] = []
told d (c ∷ cs) =
    let r = event_of d c.event c.clock c.room in
    record { outcome = r.outcome; lost = r.lost } ∷ told (after d c) cs

-- ---- what it says of a number

-- 1 where it holds
abbrev pub one : Bool → ℕ
one b = cond b 1 0

-- the number that a call handed out
abbrev pub handed_in : Class → Option ℕ
handed_in (PutsOut bytes) = none
handed_in (HandsOut name cue) = some name.number.0
handed_in (HandsLate name cue) = none
handed_in Untouched = none

abbrev pub is_the : Option ℕ → ℕ → Bool
is_the none n = false
is_the (some k) n = eqb k n

-- how often a number was handed out
unfoldable pub handed_out : List Told → ℕ → ℕ
handed_out [] n = 0
handed_out (c ∷ cs) n = one (is_the (handed_in (class_in c.outcome)) n) + handed_out cs n

-- the numbers that a call reports as lost
abbrev pub in_set : Lost → ℕ → Bool
in_set l n = leb l.trail.0 n && bit l.set (n - l.trail.0)

abbrev pub in_span : rust.Option Span → ℕ → Bool
in_span NoneAbove n = false
in_span (Above s) n = leb s.first.0 n && leb n s.last.0

-- how often a number was reported lost
unfoldable pub reported_lost : List Told → ℕ → ℕ
reported_lost [] n = 0
reported_lost (c ∷ cs) n = one (in_set c.lost n) + one (in_span c.lost.above n) + reported_lost cs n

-- a number of trail..lead that was not received
abbrev pub is_missing : Seen → ℕ → Bool
is_missing Unstarted n = false
is_missing (Started w) n = (leb w.trail.0 n && leb n w.lead.0) && not (bit w.set (n - w.trail.0))

-- the start: the first number that was handed out
unfoldable pub start_of : List Told → Option ℕ
start_of [] = none
start_of (c ∷ cs) = or_else (handed_in (class_in c.outcome)) (start_of cs)
  where
    or_else : Option ℕ → Option ℕ → Option ℕ
    or_else none k = k
    or_else (some k) l = some k

-- "each number from the start to lead"
abbrev pub is_covered : Option ℕ → Seen → ℕ → Bool
is_covered none w n = false
is_covered (some start) Unstarted n = false
is_covered (some start) (Started w) n = leb start n && leb n w.lead.0

-- ---- the statements

-- Of the three each number from the start to lead has exactly one, once; and any other number none.
abbrev pub EachNumberOnce : Type 0
EachNumberOnce = (own sender : Host) (cs : List Call) (n : ℕ) → let d = (opening_of own sender).display in
    let w = (after_all d cs).window in
    handed_out (told d cs) n + reported_lost (told d cs) n + one (is_missing w n) ≡ one (is_covered (start_of (told d cs)) w n)

-- "and it stays so": what was handed out or reported lost is so after more calls too, once; with EachNumberOnce of the longer list, it is then
-- neither missing nor the other of the two
abbrev pub StaysSo : Type 0
StaysSo = (own sender : Host) (cs more : List Call) (n : ℕ) → let d = (opening_of own sender).display in
    (handed_out (told d cs) n ≡ 1 → handed_out (told d (cs ++ more)) n ≡ 1) × (reported_lost (told d cs) n ≡ 1 → reported_lost (told d (cs ++ more)) n ≡ 1)

-- "Values lower than it has heard .. it passes over": neither trail nor lead ever falls, and once started a display stays so. What a higher value
-- does is said by `EdgesHeard` (Answers.antt).
abbrev pub no_lower : Seen → Seen → Bool
no_lower Unstarted v = true
no_lower (Started w) Unstarted = false
no_lower (Started w) (Started v) = leb w.trail.0 v.trail.0 && leb w.lead.0 v.lead.0

abbrev pub NeverLower : Type 0
NeverLower = (own sender : Host) (cs more : List Call) → let d = (opening_of own sender).display in
    no_lower (after_all d cs).window (after_all d (cs ++ more)).window ≡ true

-- So none is left out of account: a number that was one of the three after some calls is one of them after more.
abbrev pub NoneForgotten : Type 0
NoneForgotten = (own sender : Host) (cs more : List Call) (n : ℕ) → let d = (opening_of own sender).display in
    is_covered (start_of (told d cs)) (after_all d cs).window n ≡ true → is_covered (start_of (told d (cs ++ more))) (after_all d (cs ++ more)).window n ≡ true

-- "A number becomes lost exactly when trail passes it before it is received, that call reports it": of one call on a display as its calls
-- left it
abbrev pub is_received_in : Seen → ℕ → Bool
is_received_in Unstarted n = false
is_received_in (Started w) n = leb w.trail.0 n && bit w.set (n - w.trail.0)

abbrev pub passes : Seen → Seen → ℕ → Bool
passes Unstarted v n = false
passes (Started w) Unstarted n = false
passes (Started w) (Started v) n = leb w.trail.0 n && not (leb v.trail.0 n)

abbrev pub LostAsPassed : Type 0
LostAsPassed = (own sender : Host) (cs : List Call) (c : Call) (n : ℕ) → let d = after_all (opening_of own sender).display cs in
    let l = (event_of d c.event c.clock c.room).lost in
    one (in_set l n) + one (in_span l.above n) ≡ one (passes d.window (after d c).window n && not (is_received_in d.window n))

-- "(a 64-bit set up from the old trail, and a span for those above the old lead)": what a call reports in the set is up to the old lead, and the set
-- counts from the old trail; what it reports in the span is above the old lead. Of any display.
abbrev pub is_between : Seen → ℕ → Bool
is_between Unstarted n = false
is_between (Started w) n = leb w.trail.0 n && leb n w.lead.0

abbrev pub is_above : Seen → ℕ → Bool
is_above Unstarted n = false
is_above (Started w) n = ltb w.lead.0 n

abbrev pub is_trail : Seen → ℕ → Bool
is_trail Unstarted n = false
is_trail (Started w) n = eqb w.trail.0 n

pub record Stands (w : Seen) (l : Lost) (n : ℕ) : Type 0 where
  pub in_set_lem : in_set l n ≡ true → (is_between w n ≡ true) × (is_trail w l.trail.0 ≡ true)
  pub in_span_lem : in_span l.above n ≡ true → is_above w n ≡ true

abbrev pub LossesStand : Type 0
LossesStand = (d : Display) (c : Call) (n : ℕ) → Stands d.window (event_of d c.event c.clock c.room).lost n

-- Missing is what was not yet received, and is at least trail, up to lead.
abbrev pub MissingIs : Type 0
MissingIs = (own sender : Host) (cs : List Call) (n : ℕ) → let d = (opening_of own sender).display in
    let w = (after_all d cs).window in
    is_missing w n ≡ (is_between w n && eqb (handed_out (told d cs) n) 0)

-- "A step puts out RQST of the lowest missing number, or gives Nothing": one that is not refused does the first where a number is missing, and
-- gives Nothing where none is; either way it sets the clock and changes nothing else. Of any display.
abbrev pub none_missing : Seen → ℕ → Type 0
none_missing w n = (k : ℕ) → k < n → is_missing w k ≡ false

abbrev pub stepped : Effect → Display → Result
stepped effect d = record { outcome = Did effect; lost = none_lost; left = d }

abbrev pub StepAsksLowest : Type 0
StepAsksLowest = (d : Display) (clock room : ℕ) → question_of d Step clock room ≡ 0 → let after = with_clock d clock in
    ((n : ℕ)
    × (event_of d Step clock room ≡ stepped (Out (bytes_of (request_for after n))) after)
    × (is_missing d.window n ≡ true)
    × none_missing d.window n)
    ⊎ ((event_of d Step clock room ≡ stepped Nothing after) × ((n : ℕ) → none_missing d.window n))

-- A number that was handed out is never reported lost, before or after.
abbrev pub ReceivedNeverReported : Type 0
ReceivedNeverReported = (own sender : Host) (cs more : List Call) (n : ℕ) → let d = (opening_of own sender).display in
    1 ≤ handed_out (told d cs) n → reported_lost (told d (cs ++ more)) n ≡ 0

-- ---- sound stays sound

-- a display is opened sound, refused or not
abbrev pub OpensSound : Type 0
OpensSound = (own sender : Host) → sound_of (opening_of own sender).display ≡ true

-- and every call on a sound one leaves a sound one, whatever it brings
abbrev pub StaysSound : Type 0
StaysSound = (d : Display) (c : Call) → sound_of d ≡ true → sound_of (after d c) ≡ true

-- so 3 never comes on a display that is used as its calls left it
abbrev pub NeverUnsound : Type 0
NeverUnsound = (own sender : Host) (cs : List Call) (c : Call) → let d = after_all (opening_of own sender).display cs in
    question_of d c.event c.clock c.room ≡ 3 → ⊥
