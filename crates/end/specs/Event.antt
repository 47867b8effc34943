-- The eleven events, their questions, and what a call gives. Document 01, "The questions, in this order" and "Events".
use Rattle.std.specs.Prelude.{ℕ, ◌+◌, Bool, true, false, cond, not, ◌||◌, List, [], ◌∷◌, ◌++◌, length, ltb, leb, eqb}
use Rattle.message.specs.declared.Name.{Name}
use Rattle.message.specs.Limit.{number_limit, room_needed}
use Rattle.message.specs.Cue.{cue_in}
use Rattle.message.specs.Entry.{as_number}
use Rattle.message.specs.Message.{Meaning, Datagram, Probe, Saying, datagram_from, bytes_of}
use Rattle.message.specs.Question.{Question, ask, first_no, read_questions, ticks_in}
use Rattle.end.specs.declared.Status.{Status}
use Rattle.end.specs.declared.Status.TheVariants.{Idle, Joining, Member, Leaving, Crashed}
use Rattle.end.specs.Parts.{Span, Closed, Open}
use Rattle.end.specs.declared.Source.{Source}
use Rattle.end.specs.declared.Move.{Move}
use Rattle.end.specs.declared.Move.TheVariants.{Join, Joined, Leave, Left, Crash}
use Rattle.end.specs.declared.Event.{Event}
use Rattle.end.specs.declared.Event.TheVariants as event
use Rattle.end.specs.declared.Stepped.{Stepped}
use Rattle.end.specs.declared.End.{End}
use Rattle.end.specs.declared.Moment.{Moment}
use Rattle.end.specs.State.{unheard_sources, source_at, is_member, is_crashed, moment_of, with_clock, with_status, with_next, with_sources, on_source}
use Rattle.end.specs.Sound.{sound_of}
use Rattle.end.specs.Round.{draw_count}
use Rattle.end.specs.Names.{hold, rise, open_at}
use Rattle.end.specs.Answer.{Out, Done, Ignored, Nothing, Step, give, Refused, Result, done, called_of, buffer_of}
use Rattle.end.specs.Messages.{data_message, announce_message, session_message}
use Rattle.end.specs.Arrival.{arrival_of}
use Rattle.end.specs.Fire.{fire_of}
use Rattle.end.specs.Fetch.{fetch_of}

-- ---- the events

-- the events of which the book only says that they hand nothing out; events added later join them
pub data Other : Type 0 where
  Fire Report Announce : Other
  Fetch : Name → Other

-- an event with its arguments: the cue of a Send is the 24 bytes of its declared type, and a message is any bytes
pub data Action : Type 0 where
  Moves : Move → Action
  Send : List ℕ → Action
  Arrival : List ℕ → Action
  Else : Other → Action

-- of the declared event, with the cue and the bytes that stand beside it
abbrev pub action_of : Event → List ℕ → List ℕ → Action
action_of (event.Moves m) cue bytes = Moves m
action_of event.Send cue bytes = Send cue
action_of event.Arrival cue bytes = Arrival bytes
action_of event.Fire cue bytes = Else Fire
action_of event.Report cue bytes = Else Report
action_of (event.Fetch name) cue bytes = Else (Fetch name)
action_of event.Announce cue bytes = Else Announce

-- ---- the moves: "Join: idle to joining. Joined: joining to member. Leave: joining or member to leaving. Left: leaving to idle.
-- Crash: to crashed. These give Done, from any other status Ignored."
abbrev pub moves : Move → Status → Bool
moves Join Idle = true
moves Join Joining = false
moves Join Member = false
moves Join Leaving = false
moves Join Crashed = false
moves Joined Idle = false
moves Joined Joining = true
moves Joined Member = false
moves Joined Leaving = false
moves Joined Crashed = false
moves Leave Idle = false
moves Leave Joining = true
moves Leave Member = true
moves Leave Leaving = false
moves Leave Crashed = false
moves Left Idle = false
moves Left Joining = false
moves Left Member = false
moves Left Leaving = true
moves Left Crashed = false
moves Crash Idle = true
moves Crash Joining = true
moves Crash Member = true
moves Crash Leaving = true
moves Crash Crashed = false

abbrev pub moves_to : Move → Status
moves_to Join = Joining
moves_to Joined = Member
moves_to Leave = Leaving
moves_to Left = Idle
moves_to Crash = Crashed

-- "Leave and Crash clear firsts, names and heard stamps and set distances to others to 40. The next own number stays." The count of the
-- numbers missed goes with its first: "0 without one" (document 02, P7); so does the kept pair: "until Leave or Crash" (P8); and the first
-- original's number and what was reported, tried and handed out as Late "since joining": "non-members keep none" (P9)
abbrev pub cleared : End → Status → End
cleared e status = with_sources (with_status e status) (unheard_sources e.host.0)

abbrev pub clears : Move → Bool
clears Join = false
clears Joined = false
clears Leave = true
clears Left = false
clears Crash = true

unfoldable pub moved_end : Move → End → End
moved_end m e = cond (clears m) (cleared e (moves_to m)) (with_status e (moves_to m))

unfoldable pub move_of : Move → End → Step
move_of m e = cond (moves m e.status) (give Done (moved_end m e)) (give Ignored e)

-- ---- Send: "hold the cue under the next number; it becomes last, and first if none; Out DATA."
abbrev pub own_name : End → Name
own_name e = record { source = e.host; number = as_number e.next }

-- last rises by the one rise, which retires the numbers below L−63
abbrev pub extended : Moment → List ℕ → ℕ → Source → Span → Source
extended t us n s Closed = open_at n s
extended t us n s (Open first last) = rise t us n s (Open first last)

-- the own source
abbrev pub sent_source : Moment → List ℕ → ℕ → List ℕ → Source → Source
sent_source t us n cue s = hold n cue (extended t us n s s.span)

abbrev pub sent_end : List ℕ → List ℕ → End → End
sent_end us cue e = with_next (on_source e e.host (sent_source (moment_of e) us e.next cue)) (e.next + 1)

abbrev pub send_of : List ℕ → List ℕ → End → Step
send_of us cue e = give (Out (bytes_of (data_message (moment_of e) (own_name e) cue))) (sent_end us cue e)

-- ---- Announce. Document 02, P11: "has a member put out its own first and last as trail and lead in kind 24 ..; without a first it gives
-- Nothing, outside membership Ignored"
abbrev pub announced : Moment → Span → End → Step
announced t Closed e = give Nothing e
announced t (Open first last) e = give (Out (bytes_of (announce_message t first last))) e

abbrev pub announce_of : End → Step
announce_of e = announced (moment_of e) (source_at e e.host).span e

-- ---- Fire; Report: "Out SESS with all firsts' sources and all heard stamps."; Fetch: document 02, P9
abbrev pub other_of : List ℕ → Other → End → Step
other_of us Fire e = fire_of us e
other_of us Report e = give (Out (bytes_of (session_message e))) e
other_of us Announce e = announce_of e
other_of us (Fetch name) e = fetch_of name e

-- ---- Arrival. Document 02, P5: "A message of no bytes is now taken by a member as a Report event at that clock, and by any other status as
-- Ignored."
abbrev pub hearing_of : List ℕ → Datagram Meaning → End → Step
hearing_of us Probe e = other_of us Report e
hearing_of us (Saying m) e = arrival_of us m e

-- ---- "Send, Fire, Report, Arrival outside membership ..: Ignored."; P9: "A member may fetch"; P11: "outside membership
-- Ignored"
abbrev pub if_member : End → Step → Step
if_member e step = cond (is_member e.status) step (give Ignored e)

-- what an event does on an end that is not crashed and whose clock is set
unfoldable pub act_of : List ℕ → Action → End → Step
act_of us (Moves m) e = move_of m e
act_of us (Send cue) e = if_member e (send_of us cue e)
act_of us (Arrival bytes) e = if_member e (hearing_of us (datagram_from bytes) e)
act_of us (Else o) e = if_member e (other_of us o e)

-- "An unrefused event sets the clock. On a crashed end everything unrefused is Ignored and nothing changes, clock included."
unfoldable pub step_of : ℕ → List ℕ → Action → End → Step
step_of clock us a e = cond (is_crashed e.status) (give Ignored e) (act_of us a (with_clock e clock))

-- ---- the questions

-- "Any event: Has the output at least 128 bytes? 1. Are there 64 draws, one byte each? 2. Is the state sound? 3. Is the clock at
-- most 2^48−1? 4. Is it at least the state's? 5." The draws are now "64 numbers of 16 bits" (document 02, P1): they are counted as numbers
abbrev pub state_questions : End → ℕ → List Question
state_questions e clock = ask (sound_of e) 3 ∷ ask (ticks_in clock) 4 ∷ ask (leb e.clock clock) 5 ∷ []

abbrev pub any_questions : End → ℕ → ℕ → ℕ → List Question
any_questions e clock room draws = ask (leb room_needed room) 1 ∷ ask (eqb draws draw_count) 2 ∷ state_questions e clock

-- "Send: are offsets and lamp in range? 6. For a member, is the next number below 64? 7.", which document 02, P7, makes "Number 7 comes only
-- at 65,536". Arrival asks the reader's questions, and a probe none
abbrev pub own_questions : Action → End → List Question
own_questions (Moves m) e = []
own_questions (Send cue) e = ask (cue_in cue) 6 ∷ ask (not (is_member e.status) || ltb e.next number_limit) 7 ∷ []
own_questions (Arrival bytes) e = read_questions bytes
own_questions (Else o) e = []

unfoldable pub question_of : End → Action → ℕ → ℕ → ℕ → ℕ
question_of e a clock room draws = first_no (any_questions e clock room draws ++ own_questions a e)

-- ---- what a call gives: an event on an end, with the clock, the length of the output and the draws
unfoldable pub event_of : End → Action → ℕ → ℕ → List ℕ → Result
event_of e a clock room draws =
    cond (eqb (question_of e a clock room (length draws)) 0)
    (done (step_of clock draws a e))
    (record { outcome = Refused (question_of e a clock room (length draws)); left = e })

-- the declared value that it gives, and what it leaves in the output that it was lent
abbrev pub gives : End → Action → ℕ → List ℕ → List ℕ → Stepped
gives e a clock draws out = called_of (event_of e a clock (length out) draws)

abbrev pub leaves : End → Action → ℕ → List ℕ → List ℕ → List ℕ
leaves e a clock draws out = buffer_of (event_of e a clock (length out) draws).outcome out
