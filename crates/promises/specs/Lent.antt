-- Ends and displays lent as bytes to hosts in C and Rust: the statements of the crate `lent_runs`, which defines what is seen of a call and what a
-- restart is, the laws of the bytes (`lent_end`, `lent_display`), and what `lent_lens` says of plain numbers. So demands 1, 2 and 3 are about what
-- a host in C sees.
use Rattle.std.specs.Prelude.{◌≡◌, true, false, List, [], map, ℕ, ◌≤◌, ◌<◌, length}
use Rattle.numbers.specs.Number.{Bytes}
use Rattle.message.specs.declared.Host.{Host}
use Rattle.message.specs.Limit.{room_needed}
use Rattle.end.specs.declared.Params.{Params}
use Rattle.end.specs.declared.Status.TheVariants.{Idle, Leaving}
use Rattle.end.specs.declared.Move.TheVariants.{Leave, Left}
use Rattle.end.specs.declared.Wait.{Wait}
use Rattle.end.specs.declared.End.{End}
use Rattle.end.specs.State.{is_member, is_crashed, unheard_sources, with_clock}
use Rattle.end.specs.Round.{draw_count}
use Rattle.end.specs.Sound.{sound_of}
use Rattle.end.specs.Answer.{Out, Nothing, Did, buffer_of}
use Rattle.end.specs.Event.{Action, Moves, Else, Fire, moves, step_of, event_of, gives, leaves}
use Rattle.end.specs.Opening.{opening_of}
use Rattle.end.specs.Book.{RunFrom, empty_book}
use Rattle.end.specs.Lates.{LatesAsFiled}
use Rattle.end.specs.Run.{Call, CueArray, Allowed, Fresh, seen}
use Rattle.invariants.specs.Lists.{through, Declared}
use Rattle.guarantees.specs.Calls.{OneCall, after_all}
use Rattle.guarantees.specs.Fires.{fire, FireTaken}
use Rattle.guarantees.specs.Waits.{waits_at, Among}
use Rattle.end_due.specs.Due.{never, next_due}
use Rattle.end_reopen.specs.Reopen.{reopened}
use Rattle.end_reopen.specs.Reopening.{reopening_of}
use Rattle.lent_answer.specs.Number.{number_of, of_kind, OUT, NOTHING}
use Rattle.lent_end.specs.State.{state_width, end_from, is_state, end_bytes, EndFits, Holds}
use Rattle.lent_calls.specs.Call.{call_number, call_state, call_out}
use Rattle.lent_calls.specs.Arguments.{cue_of}
use Rattle.lent_calls.specs.Open.{opened_number, opened_state, open_of, reopen_of}
use Rattle.lent_looks.specs.Looks.{look, due_in}
use Rattle.lent_runs.specs.Due.{FireLent}
use Rattle.lent_runs.specs.Plain.{PlainNumbers}
use Rattle.lent_runs.specs.Reopening.{left_at}
use Rattle.lent_runs.specs.Numbers.{outcome_in}
use Rattle.lent_runs.specs.Lists.{Lent, OpenedLent, lent_through, given, held_by, played, LentAllowed, onlooked, house}
use Rattle.lent_runs.specs.Restarts.{Turn, turns_through, turns_given, as_calls, TurnsDeclared, TurnsAllowed, MayRestart, numbers_of}
use Rattle.display.specs.declared.Display.{Display}
use Rattle.display.specs.Call as display
use Rattle.display.specs.Call.{Event}
use Rattle.display_history.specs.History as shown
use Rattle.lent_display.specs.Bytes as lentBytes
use Rattle.lent_display.specs.Bytes.{display_bytes, DisplayFits, display_from, is_display}
use Rattle.lent_display.specs.Call as lentDisplay
use Rattle.lent_display.specs.Call.{call_lost, opened_for, open_number, open_state}
use Rattle.lent_runs.specs.Displays as lists
use Rattle.lent_runs.specs.Displays.{bytes_through, as_given}

pub record LentKept : Type 0 where
  -- "every value of type End has exactly one form": its bytes hold it (they are read back as it, and pass the test), and bytes that pass the test
  -- are, read and written again, the very bytes. `EndFits` is what the declared types say.
  pub state_back : (e : End) (s : List ℕ) → EndFits e → s ≡ end_bytes e → Holds s e
  pub state_forth : (s : List ℕ) → Bytes s → is_state s ≡ true → end_bytes (end_from s) ≡ s
  -- The next due time is the least due time of all waits of the eight sources, 2^64−1 where nothing waits.
  pub none_due_before : (e : End) (w : Wait) → w.name.source.0 < 8 → Among w (waits_at e w.name) → next_due e ≤ w.due
  pub due_is_of_one : (e : End) → (next_due e ≡ never → ⊥)
      → (w : Wait) × (w.name.source.0 < 8) × Among w (waits_at e w.name) × (w.due ≡ next_due e)
  -- Before the next due time a Fire of a member that is not refused answers Nothing and sets the clock, no more; from it on a message goes out.
  pub nothing_before_due : (e : End) (clock room : ℕ) (draws : List ℕ) → FireTaken e clock room draws → clock < next_due e
      → fire e clock room draws ≡ record { outcome = Did Nothing; left = with_clock e clock }
  pub out_from_due : (e : End) (clock room : ℕ) (draws : List ℕ) → FireTaken e clock room draws → next_due e ≤ clock
      → (bytes : List ℕ) × ((fire e clock room draws).outcome ≡ Did (Out bytes))
  -- The same of lent bytes: cuelink_fire against cuelink_due.
  pub lent_nothing_before_due : (s : List ℕ) (clock : ℕ) (draws output : List ℕ) → FireLent s clock draws output → clock < look due_in s
      → (call_number (Else Fire) clock draws output s ≡ of_kind NOTHING 0)
      × (call_state (Else Fire) clock draws output s ≡ end_bytes (with_clock (end_from s) clock))
      × (call_out (Else Fire) clock draws output s ≡ output)
  pub lent_out_from_due : (s : List ℕ) (clock : ℕ) (draws output : List ℕ) → FireLent s clock draws output → look due_in s ≤ clock
      → (n : ℕ) × (n ≤ 127) × (call_number (Else Fire) clock draws output s ≡ of_kind OUT n)
  -- Reopening with host, parameters and next own number is what Leave and Left leave: of every member and joining end, sound or not; after any
  -- calls from an opening of every end that is not crashed; of a leaving end Left alone; and an idle end is it already.
  pub left_is_reopened : (e : End) (clock : ℕ) → moves Leave e.status ≡ true → left_at e clock ≡ reopened e.host e.params clock e.next
  pub opened-left : (h : Host) (p : Params) (cs : List OneCall) → let e = after_all (opening_of h p).end cs in
      is_crashed e.status ≡ false → (clock : ℕ) → left_at e clock ≡ reopened e.host e.params clock e.next
  pub opened-leaving : (h : Host) (p : Params) (cs : List OneCall) → let e = after_all (opening_of h p).end cs in
      e.status ≡ Leaving → (clock : ℕ) → (step_of clock [] (Moves Left) e).left ≡ reopened e.host e.params clock e.next
  pub opened-idle : (h : Host) (p : Params) (cs : List OneCall) → let e = after_all (opening_of h p).end cs in
      e.status ≡ Idle → e ≡ reopened e.host e.params e.clock e.next
  pub non_members_keep_nothing : (h : Host) (p : Params) (cs : List OneCall) → let e = after_all (opening_of h p).end cs in
      is_member e.status ≡ false → e.sources ≡ unheard_sources e.host.0
  -- Every reopening, refused or not, gives a sound state, whatever it is given.
  pub reopens_sound : (h : Host) (p : Params) (clock next : ℕ) → sound_of (reopening_of h p clock next).end ≡ true
  -- A crash is for good, and no calls lead from a crashed end to a reopened one.
  pub crash_is_for_good : (e : End) → is_crashed e.status ≡ true → (cs : List OneCall) → after_all e cs ≡ e
  pub crashed_is_not_reopened : (e : End) → is_crashed e.status ≡ true → (cs : List OneCall) (h : Host) (p : Params) (clock next : ℕ)
      → after_all e cs ≡ reopened h p clock next → ⊥
  -- A sound idle end that came from elsewhere need not be a reopened one: the bytes of an empty record's cue are free.
  pub sound_idle_may_differ : (e : End) × (sound_of e ≡ true) × (e.status ≡ Idle) × (e ≡ reopened e.host e.params e.clock e.next → ⊥)
  -- Every call's outcome is read off the number that it answers and the output that it leaves.
  pub outcome_reads_back : (e : End) (a : Action) (clock : ℕ) (draws output : List ℕ) → CueArray a
      → outcome_in (number_of (gives e a clock draws output).answer) (leaves e a clock draws output) ≡ (event_of e a clock (length output) draws).outcome
  -- Bytes that are no state are refused as 3, and nothing changes.
  pub no_state_is_refused : (a : Action) (clock : ℕ) (draws output s : List ℕ) → room_needed ≤ length output → length draws ≡ draw_count → is_state s ≡ false
      → (call_number a clock draws output s ≡ 3) × (call_state a clock draws output s ≡ s) × (call_out a clock draws output s ≡ output)
  -- No number and no cue that a host hands over is cut: hosts, parameters, cues and names that there are are the very ones, and others are refused as
  -- 12, 13 and 6 in their order, a Fetch of such a name Ignored.
  pub plain-numbers : PlainNumbers
  -- Whatever bytes a host hands over as a cue, what is sent has 24; and there are lent states: every buffer that is long enough is opened.
  pub cues_fit : (cue : List ℕ) → length (cue_of cue) ≡ 24
  pub house-opens : (s : List ℕ) → length s ≡ state_width → OpenedLent (λ h. opened_state (open_of h house) s)
  -- A list of calls over eight lent states, from openings, is the list of the same calls on the ends that they hold: the states hold these ends
  -- after every list, and each call answers and leaves the same.
  pub lent-fresh : (l : Lent) → OpenedLent l → Fresh (held_by l)
  pub lent-holds : (l : Lent) → OpenedLent l → (cs : List Call) → Declared cs → (h : ℕ) → h < 8
      → Holds (lent_through l cs h) ((through (held_by l) cs).ends h)
  pub lent_gives : (l : Lent) → OpenedLent l → (cs : List Call) → Declared cs → given l cs ≡ played (held_by l) cs
  -- The lists that demand 3 speaks of are the same, and what the hosts see is what demand 3's onlooker sees: a run of the service.
  pub lent-allowed : (l : Lent) → OpenedLent l → (cs : List Call) → LentAllowed l [] cs → Allowed (held_by l) cs
  pub allowed_is_lent : (l : Lent) → OpenedLent l → (cs : List Call) → Declared cs → Allowed (held_by l) cs → LentAllowed l [] cs
  pub lent_seen : (l : Lent) → OpenedLent l → (cs : List Call) → LentAllowed l [] cs → map onlooked (given l cs) ≡ seen (held_by l) cs
  pub lent-service : (l : Lent) → OpenedLent l → (cs : List Call) → LentAllowed l [] cs → RunFrom empty_book (map onlooked (given l cs))
  pub lent_lates : (l : Lent) → OpenedLent l → (cs : List Call) → LentAllowed l [] cs → LatesAsFiled empty_book (map onlooked (given l cs))
  -- A list with restarts is the list with a Leave and a Left in the place of each: the same bytes and the same answers; so it is a run too.
  pub restart_states : (l : Lent) → OpenedLent l → (ts : List Turn) → TurnsDeclared l ts → turns_through l ts ≡ lent_through l (as_calls ts)
  pub restart_gives : (l : Lent) → OpenedLent l → (ts : List Turn) → TurnsDeclared l ts → turns_given l ts ≡ given l (as_calls ts)
  pub restart_service : (l : Lent) → OpenedLent l → (ts : List Turn) → TurnsAllowed l [] ts → RunFrom empty_book (map onlooked (turns_given l ts))
  pub restart_lates : (l : Lent) → OpenedLent l → (ts : List Turn) → TurnsAllowed l [] ts → LatesAsFiled empty_book (map onlooked (turns_given l ts))
  -- And a host whose end did not crash may always restart, at the clock of its state; cuelink_reopen then answers 0.
  pub may_always_restart : (l : Lent) → OpenedLent l → (ts : List Turn) → TurnsDeclared l ts → (h : ℕ) → h < 8 → (buffer : List ℕ)
      → length buffer ≡ state_width → let s = turns_through l ts h in is_crashed (end_from s).status ≡ false → MayRestart h s (end_from s).clock buffer
  pub reopen_answers_0 : (l : Lent) → OpenedLent l → (ts : List Turn) → TurnsDeclared l ts → (h clock : ℕ) (buffer : List ℕ)
      → let s = turns_through l ts h in MayRestart h s clock buffer
      → opened_number (reopen_of h (numbers_of (end_from s).params) clock (end_from s).next) buffer ≡ 0

pub record LentDisplaysKept : Type 0 where
  -- The same two laws of a display's 25 bytes.
  pub display_back : (d : Display) (s : List ℕ) → DisplayFits d → s ≡ display_bytes d → lentBytes.Holds s d
  pub display_forth : (s : List ℕ) → Bytes s → is_display s ≡ true → display_bytes (display_from s) ≡ s
  -- From an opening that answers 0, in any buffer: whatever the calls, the bytes hold the display that the calls on displays leave, and every call
  -- gives what the call on its display does. So every number is received, missing or lost once of what the host sees too (`displays`).
  pub display_holds : (own sender : ℕ) (s : List ℕ) → open_number own sender s ≡ 0 → (cs : List shown.Call)
      → lentBytes.Holds (bytes_through (open_state own sender s) cs) (shown.after_all (opened_for own sender).display cs)
  pub display_gives : (own sender : ℕ) (s : List ℕ) → open_number own sender s ≡ 0 → (cs : List shown.Call)
      → lists.given (open_state own sender s) cs ≡ map as_given (shown.told (opened_for own sender).display cs)
  -- And of every further call, whatever output it was lent: the output is that of the call on the display, whose outcome is read off number and output.
  pub display_output : (own sender : ℕ) (s : List ℕ) → open_number own sender s ≡ 0 → (cs : List shown.Call) (c : shown.Call) (out : List ℕ)
      → lentDisplay.call_out c.event c.clock c.room (bytes_through (open_state own sender s) cs) out
      ≡ buffer_of (display.event_of (shown.after_all (opened_for own sender).display cs) c.event c.clock c.room).outcome out
  pub display_reads_back : (own sender : ℕ) (s : List ℕ) → open_number own sender s ≡ 0 → (cs : List shown.Call) (c : shown.Call) (out : List ℕ)
      → let left = bytes_through (open_state own sender s) cs in
      outcome_in (lentDisplay.call_number c.event c.clock c.room left) (lentDisplay.call_out c.event c.clock c.room left out)
      ≡ (display.event_of (shown.after_all (opened_for own sender).display cs) c.event c.clock c.room).outcome
  -- Bytes that are no display's are refused as 3, and nothing changes.
  pub no_display_is_refused : (ev : Event) (clock room : ℕ) (s lost out : List ℕ) → room_needed ≤ room → is_display s ≡ false
      → (lentDisplay.call_number ev clock room s ≡ 3)
      × (lentDisplay.call_state ev clock room s ≡ s)
      × (call_lost ev clock room s lost ≡ lost)
      × (lentDisplay.call_out ev clock room s out ≡ out)
