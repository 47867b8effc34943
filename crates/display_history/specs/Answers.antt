-- What a display answers and where its trail and lead come from, by what it hears. Document 02, P11: "It starts at its sender's first DATA, trail and
-- lead both that number; a later cue n counts as trail n−63 and lead n"; "A newly received cue is Got, its sender's kind 24 once started Done, all
-- else Ignored"; and what an Out is. How often a number was handed out stands in the history; of the state it is only looked at which host it
-- follows, whether it has started, and at trail and lead.
use Rattle.std.specs.Prelude.{◌≡◌, Bool, true, cond, ◌&&◌, ◌||◌, List, ℕ, ◌-◌, max, leb, eqb}
use Rattle.std.proofs.Math.Option.{Option, none, some}
use Rattle.message.specs.declared.Host.{Host}
use Rattle.message.specs.declared.Verdict.TheVariants.{Accepted}
use Rattle.message.specs.Message.{DATA, REPL, ANNC, Meaning, Datagram, Probe, Saying, meaning_from, datagram_from, bytes_of}
use Rattle.message.specs.Question.{same_host, read_of}
use Rattle.end.specs.Messages.{message_name, message_cue}
use Rattle.end.specs.Answer.{Effect, Out, Got, Done, Ignored, Refused, Did}
use Rattle.display_window.specs.Parts.{Seen, Unstarted, Started, started}
use Rattle.display_window.specs.Window.{none_lost}
use Rattle.display.specs.declared.Display.{Display}
use Rattle.display.specs.Display.{opening_of, with_clock}
use Rattle.display.specs.Hear.{lead_in}
use Rattle.display.specs.Request.{request_for}
use Rattle.display.specs.Call.{Hear, Step, question_of, event_of}
use Rattle.display_history.specs.History.{Call, after, after_all, told, handed_out, is_missing, none_missing}

-- ---- what is heard

-- the first name is one of the followed host's: of a DATA or REPL that is its cue; a kind 24, by question 11, names numbers of the host that sent
-- it, as a DATA does
abbrev pub is_of : Host → Meaning → Bool
is_of sender m = same_host (message_name m).source sender

abbrev pub brings_cue : Meaning → Bool
brings_cue m = eqb m.kind DATA || eqb m.kind REPL

abbrev pub got_if : Bool → Meaning → Effect
got_if new m = cond new (Got (message_name m) (message_cue m)) Ignored

-- "It starts at its sender's first DATA"; "once started it takes any REPL of the sender's cue as that cue"; "cues below trail, it passes over";
-- `times` is how often the number was handed out before
unfoldable pub answered : Seen → Host → Meaning → ℕ → Effect
answered Unstarted sender m times = got_if (eqb m.kind DATA && is_of sender m) m
answered (Started w) sender m times =
    cond (brings_cue m && is_of sender m)
    (got_if (leb w.trail.0 (message_name m).number.0 && eqb times 0) m)
    (cond (eqb m.kind ANNC && is_of sender m) Done Ignored)

abbrev pub answered_to : Datagram Meaning → Display → (ℕ → ℕ) → Effect
answered_to Probe d times = Ignored
answered_to (Saying m) d times = answered d.window d.sender m (times (message_name m).number.0)

-- Of any bytes that are not refused, after any calls.
abbrev pub AnswersHeard : Type 0
AnswersHeard = (own sender : Host) (cs : List Call) (bytes : List ℕ) (clock room : ℕ) → let o = (opening_of own sender).display in
    let d = after_all o cs in
    question_of d (Hear bytes) clock room ≡ 0
    → (event_of d (Hear bytes) clock room).outcome ≡ Did (answered_to (datagram_from bytes) d (handed_out (told o cs)))

-- ---- trail and lead: each is the greatest that was heard, since "values lower than it has heard .. it passes over"; kind 24 says both

abbrev pub edges_of : Seen → Option (ℕ × ℕ)
edges_of Unstarted = none
edges_of (Started w) = some (w.trail.0, w.lead.0)

unfoldable pub edges_by : Seen → Host → Meaning → Option (ℕ × ℕ)
edges_by Unstarted sender m =
    let n = (message_name m).number.0 in
    cond (eqb m.kind DATA && is_of sender m) (some (n, n)) none
edges_by (Started w) sender m =
    let n = (message_name m).number.0 in
    cond (brings_cue m && is_of sender m)
    (some (max w.trail.0 (n - 63), max w.lead.0 n))
    (cond (eqb m.kind ANNC && is_of sender m) (some (max w.trail.0 n, max w.lead.0 (lead_in m))) (some (w.trail.0, w.lead.0)))

abbrev pub edges_to : Datagram Meaning → Display → Option (ℕ × ℕ)
edges_to Probe d = edges_of d.window
edges_to (Saying m) d = edges_by d.window d.sender m

-- Of any display and any bytes that are not refused. A cue that is passed over moves neither: it is at most lead, and lead at most trail+63.
abbrev pub EdgesHeard : Type 0
EdgesHeard = (d : Display) (bytes : List ℕ) (clock room : ℕ) → question_of d (Hear bytes) clock room ≡ 0
    → edges_of (event_of d (Hear bytes) clock room).left.window ≡ edges_to (datagram_from bytes) d

-- ---- the clock and the hosts: "hear and step set its clock"; a refused call changes nothing, and loses nothing

abbrev pub SetsClock : Type 0
SetsClock = (d : Display) (c : Call) → question_of d c.event c.clock c.room ≡ 0 → let e = after d c in
    (e.clock ≡ c.clock) × (e.own ≡ d.own) × (e.sender ≡ d.sender)

abbrev pub RefusedStays : Type 0
RefusedStays = (d : Display) (c : Call) (k : ℕ) → let r = event_of d c.event c.clock c.room in
    r.outcome ≡ Refused k → (r.left ≡ d) × (r.lost ≡ none_lost)

-- ---- what is put out

-- the RQST of the lowest missing number, from the display's host at the call's clock, which the reader accepts as that
pub record Asking (d : Display) (c : Call) (bytes : List ℕ) : Type 0 where
  pub step : c.event ≡ Step
  pub number : ℕ
  pub missing : is_missing d.window number ≡ true
  pub lowest : none_missing d.window number
  pub is : bytes ≡ bytes_of (request_for (with_clock d c.clock) number)
  pub accepted : (read_of bytes).verdict ≡ Accepted
  pub means : meaning_from bytes ≡ request_for (with_clock d c.clock) number

-- "A step puts out RQST of the lowest missing number": every Out of a display is such, after any calls; so no end refuses it as 8 to 11.
abbrev pub OutIsRequest : Type 0
OutIsRequest = (own sender : Host) (cs : List Call) (c : Call) (bytes : List ℕ) → let d = after_all (opening_of own sender).display cs in
    (event_of d c.event c.clock c.room).outcome ≡ Did (Out bytes) → Asking d c bytes
