-- A season of cues, document 02, P7: what is kept, what is retired, and the count: the statements of the crate `guarantees`, History, Rises and
-- what BackOff says of first and last.
use Rattle.std.specs.Prelude.{◌≡◌, true, false, List, ◌⊎◌, ℕ, ◌+◌, ◌-◌, ◌≤◌, ◌<◌, min, max, get_or}
use Rattle.std.proofs.Math.Option.{some}
use Rattle.message.specs.declared.Host.{Host}
use Rattle.message.specs.Entry.{as_host}
use Rattle.end.specs.declared.Params.{Params}
use Rattle.end.specs.declared.Request.{Request}
use Rattle.end.specs.declared.Source.{Source}
use Rattle.end.specs.declared.Moment.{Moment}
use Rattle.end.specs.declared.End.{End}
use Rattle.end.specs.State.{blank_record, source_at, is_member}
use Rattle.end.specs.Records.{place, is_below, is_held}
use Rattle.end.specs.Round.{draw_at}
use Rattle.end.specs.Names.{is_requester, rise, rise_by_data}
use Rattle.end.specs.Event.{Action, event_of}
use Rattle.end.specs.Opening.{opening_of}
use Rattle.guarantees.specs.Calls.{OneCall, after_all}
use Rattle.guarantees.specs.Records.{record_of, slot_of, request_of, clearing, SpanMayBecome, retired}
use Rattle.guarantees.specs.BackOff.{NoneClears}
use Rattle.guarantees.specs.History.{told, since_joining, AsTold}
use Rattle.guarantees.specs.HistoryRows.{TenToEighty, LeftAgain, WholeSeason}
use Rattle.guarantees.specs.Rises.{rise_before, UpTo63}

pub record SeasonKept : Type 0 where
  -- "Per source the end counts the numbers retired without a cue since joining, those passed over in one rise included; this equals the count
  -- taken over the history of events.": after any calls on an end that was opened, refused ones and any bytes among them; and first, last and
  -- what is held of another's source are what the history says.
  pub count_over_history : (h : Host) (p : Params) (cs : List OneCall) (s : ℕ) → s < 8
      → AsTold (opening_of h p).end.host.0 s (since_joining (opening_of h p).end.host.0 s (told (opening_of h p).end cs)) (source_at (after_all (opening_of h p).end cs) (as_host s))
  pub non_members_count_none : (h : Host) (p : Params) (cs : List OneCall) (s : ℕ) → s < 8
      → is_member (after_all (opening_of h p).end cs).status ≡ false → (source_at (after_all (opening_of h p).end cs) (as_host s)).missed ≡ 0
  -- Every call changes first and last only as `SpanMayBecome` says: first moves only with last, by a rise, or both go with Leave or Crash.
  pub spans_may_become : (e : End) (a : Action) (clock room : ℕ) (draws : List ℕ) (h : ℕ) → h < 8
      → SpanMayBecome (clearing a) (source_at e (as_host h)).span (source_at (event_of e a clock room draws).left (as_host h)).span
  -- Of a number that is retired nothing is left: no cue, no request, no reply, no reply-quiet time.
  pub retired_are_gone : (e : End) (a : Action) (clock room : ℕ) (draws : List ℕ) (h n : ℕ) → retired e (event_of e a clock room draws).left h n ≡ true
      → record_of (event_of e a clock room draws).left h n ≡ blank_record
  -- Through any calls without Leave and Crash, until first passes its number, a held cue stays held and the same, and a name that waits goes
  -- on waiting or gets its cue.
  pub held-through : (cs : List OneCall) (e : End) (h n : ℕ) → h < 8 → NoneClears cs → is_held (slot_of e h n) ≡ true
      → is_below (source_at (after_all e cs) (as_host h)).span n ≡ false
      → (is_held (slot_of (after_all e cs) h n) ≡ true) × ((record_of (after_all e cs) h n).cue ≡ (record_of e h n).cue)
  pub waits_or_held_through : (cs : List OneCall) (e : End) (h n : ℕ) (q : Request) → h < 8 → NoneClears cs → request_of e h n ≡ some q
      → is_below (source_at (after_all e cs) (as_host h)).span n ≡ false
      → ((p : Request) × (request_of (after_all e cs) h n ≡ some p)) ⊎ (is_held (slot_of (after_all e cs) h n) ≡ true)
  -- However far last rises, at most 64 records are written and at most 64 looked at.
  pub rises_by_64 : (first last n : ℕ) → first ≤ last → last ≤ first + 63
      → (max last n + 1 - max (max first (max last n - 63)) (last + 1) ≤ 64) × (min (max first (max last n - 63)) (last + 1) - first ≤ 64)
  -- With numbers up to 63 nothing differs from document 01: places and draws, the rise, nothing is retired, nothing is counted.
  pub places_as_before : (us : List ℕ) (n : ℕ) → n ≤ 63 → (place n ≡ n) × (draw_at us n ≡ get_or us n 0)
  pub rise_as_before : (t : Moment) (us : List ℕ) (n : ℕ) (s : Source) → n ≤ 63 → UpTo63 s.span → rise t us n s s.span ≡ rise_before t us n s s.span
  -- Before a DATA the rise is the same, unless the end is the requester of the kept pair.
  pub data_rises_alike : (t : Moment) (us : List ℕ) (n : ℕ) (s : Source) → is_requester t.me s.pair ≡ false
      → rise_by_data t us n s s.span ≡ rise t us n s s.span
  pub nothing_retired_up_to_63 : (e : End) (a : Action) (clock room : ℕ) (draws : List ℕ) (h n : ℕ) → h < 8
      → UpTo63 (source_at (event_of e a clock room draws).left (as_host h)).span → retired e (event_of e a clock room draws).left h n ≡ false
  pub none_missed_up_to_63 : (host : Host) (p : Params) (cs : List OneCall) (s : ℕ) → s < 8
      → UpTo63 (source_at (after_all (opening_of host p).end cs) (as_host s)).span → (source_at (after_all (opening_of host p).end cs) (as_host s)).missed ≡ 0
  -- the count over small histories, computed
  pub ten_to_eighty_lem : TenToEighty
  pub left-again : LeftAgain
  pub whole-season : WholeSeason
