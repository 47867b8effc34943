-- A rise of last: how much work it is, and that with numbers up to 63 nothing differs from document 01; proofs/Rises.antt proves each.
use Rattle.std.specs.Prelude.{◌≡◌, false, List, ℕ, zero, suc, ◌+◌, ◌-◌, ◌≤◌, ◌<◌, min, max, get_or, set}
use Rattle.message.specs.declared.Host.{Host}
use Rattle.message.specs.Entry.{as_host, as_number}
use Rattle.end.specs.declared.Params.{Params}
use Rattle.end.specs.declared.Record.{Record}
use Rattle.end.specs.Parts.{Span, Closed, Open}
use Rattle.end.specs.declared.Source.{Source}
use Rattle.end.specs.declared.End.{End}
use Rattle.end.specs.declared.Moment.{Moment}
use Rattle.end.specs.State.{blank_record, source_at, with_span, with_names}
use Rattle.end.specs.Records.{place}
use Rattle.end.specs.Round.{draw_at, request_with}
use Rattle.end.specs.Names.{asking, first_after, is_requester, rise, rise_by_data}
use Rattle.end.specs.Event.{Action, event_of}
use Rattle.end.specs.Opening.{opening_of}
use Rattle.guarantees.specs.Calls.{OneCall, after_all}
use Rattle.guarantees.specs.Records.{retired}

-- However far last rises, from a span of at most 64 numbers, at most 64 records are written and at most 64 looked at for their cues.
abbrev pub RisesBy64 : Type 0
RisesBy64 = (first last n : ℕ) → first ≤ last → last ≤ first + 63 → let l = max last n in let lo = first_after first l in
    (l + 1 - max lo (last + 1) ≤ 64) × (min lo (last + 1) - first ≤ 64)

-- ---- numbers up to 63: "cue numbers 0..63 per source", as document 01 has it

-- a number has the place and the draw of the number itself: "u the draw at the cue number"
abbrev pub PlacesAsBefore : Type 0
PlacesAsBefore = (us : List ℕ) (n : ℕ) → n ≤ 63 → (place n ≡ n) × (draw_at us n ≡ get_or us n 0)

-- document 01's rise: "each number between gets round 1 and last rises". The k numbers from n on, each in its own place
unfoldable pub requested : Moment → List ℕ → ℕ → ℕ → ℕ → List Record → List Record
requested t us d zero n names = names
requested t us d (suc k) n names = requested t us d k (n + 1) (set names n (asking blank_record (request_with t (get_or us n 0) d 1)))

-- first stays, and nothing is counted
unfoldable pub rise_before : Moment → List ℕ → ℕ → Source → Span → Source
rise_before t us n s Closed = s
rise_before t us n s (Open first last) =
    with_names (with_span s (Open first (as_number (max last.0 n)))) (requested t us s.distance (n - last.0) (last.0 + 1) s.names)

-- first is not above last, and last is at most 63
abbrev pub UpTo63 : Span → Type 0
UpTo63 Closed = Unit {0}
UpTo63 (Open first last) = (first.0 ≤ last.0) × (last.0 ≤ 63)

abbrev pub RiseAsBefore : Type 0
RiseAsBefore = (t : Moment) (us : List ℕ) (n : ℕ) (s : Source) → n ≤ 63 → UpTo63 s.span → rise t us n s s.span ≡ rise_before t us n s s.span

-- And before a DATA the same rise happens, unless the end is the requester of the kept pair (document 02, P8).
abbrev pub DataRisesAlike : Type 0
DataRisesAlike = (t : Moment) (us : List ℕ) (n : ℕ) (s : Source) → is_requester t.me s.pair ≡ false
    → rise_by_data t us n s s.span ≡ rise t us n s s.span

-- A call after which last is at most 63 retires nothing. So the statements of Arrivals.antt and BackOff.antt then say what they said of
-- document 01: what is held stays held.
abbrev pub NothingRetiredUpTo63 : Type 0
NothingRetiredUpTo63 = (e : End) (a : Action) (clock room : ℕ) (draws : List ℕ) (h n : ℕ) → h < 8 → let left = (event_of e a clock room draws).left in
    UpTo63 (source_at left (as_host h)).span → retired e left h n ≡ false

-- And after any calls on an end that was opened, a source whose last is at most 63 has counted nothing.
abbrev pub NoneMissedUpTo63 : Type 0
NoneMissedUpTo63 = (host : Host) (p : Params) (cs : List OneCall) (s : ℕ) → s < 8 → let left = source_at (after_all (opening_of host p).end cs) (as_host s) in
    UpTo63 left.span → left.missed ≡ 0
