-- An end's state: its parts, and the state with a part changed. Document 01, "What an end keeps". Apart from the blank values (no_source,
-- unheard, fresh_end) only the setters build a Source or an End: a field that is added later is a line in each of both.
use Rattle.std.specs.Prelude.{ℕ, Bool, true, false, List, [], get_or, set, replicate}
use Rattle.message.specs.declared.Host.{Host}
use Rattle.message.specs.Entry.{blank_cue}
use Rattle.end.specs.declared.Params.{Params}
use Rattle.end.specs.declared.Status.{Status}
use Rattle.end.specs.declared.Status.TheVariants.{Idle, Joining, Member, Leaving, Crashed}
use Rattle.end.specs.declared.Slot.TheVariants.{Empty}
use Rattle.end.specs.declared.Record.{Record}
use Rattle.end.specs.Parts.{Pair, NoPair, Span, Closed, Heard, Never, Origin, NoOrigin}
use Rattle.end.specs.declared.Attempt.{Attempt}
use Rattle.end.specs.declared.Source.{Source}
use Rattle.end.specs.declared.End.{End}
use Rattle.end.specs.declared.Moment.{Moment}

-- ---- what stands past the end of an array, as the language has it
abbrev pub no_record : Record
no_record = record { slot = Empty; cue = []; hush = 0 }

abbrev pub no_source : Source
no_source = record { span = Closed; missed = 0; pair = NoPair; distance = 0; heard = Never; names = []; origin = NoOrigin; attempts = [] }

abbrev pub no_attempt : Attempt
no_attempt = record { tried = 0; late = false }

-- ---- a fresh end

-- "An end keeps the latest 64 numbers of each source" (document 02, P7), each in a place of its own
abbrev pub places : ℕ
places = 64

-- a name of which an end has nothing
abbrev pub blank_record : Record
blank_record = record { slot = Empty; cue = blank_cue; hush = 0 }

abbrev pub blank_names : List Record
blank_names = replicate places blank_record

-- the marks of the numbers below a first original: nobody tried, and nothing handed out
abbrev pub blank_attempts : List Attempt
blank_attempts = replicate places no_attempt

-- "A distance .. is .. at first 40; to oneself it is 0."
abbrev pub first_distance : ℕ
first_distance = 40

abbrev pub unheard : ℕ → Source
unheard distance = record {
  span = Closed;
  missed = 0;
  pair = NoPair;
  distance = distance;
  heard = Never;
  names = blank_names;
  origin = NoOrigin;
  attempts = blank_attempts;
}

-- the eight sources of which nothing is kept: 0 to oneself, 40 to the others
abbrev pub unheard_sources : ℕ → List Source
unheard_sources me = set (replicate 8 (unheard first_distance)) me (unheard 0)

abbrev pub fresh_end : Host → Params → Status → End
fresh_end me p status = record { host = me; params = p; clock = 0; status = status; next = 0; sources = unheard_sources me.0 }

-- ---- reading a part
abbrev pub source_at : End → Host → Source
source_at e h = get_or e.sources h.0 no_source

abbrev pub distance_to : End → Host → ℕ
distance_to e h = (source_at e h).distance

abbrev pub is_member : Status → Bool
is_member Idle = false
is_member Joining = false
is_member Member = true
is_member Leaving = false
is_member Crashed = false

abbrev pub is_crashed : Status → Bool
is_crashed Idle = false
is_crashed Joining = false
is_crashed Member = false
is_crashed Leaving = false
is_crashed Crashed = true

-- the moment of a call on an end whose clock is the call's
abbrev pub moment_of : End → Moment
moment_of e = record { me = e.host; params = e.params; clock = e.clock }

-- ---- changing a part of a source
abbrev pub with_span : Source → Span → Source
with_span s span = record {
  span = span;
  missed = s.missed;
  pair = s.pair;
  distance = s.distance;
  heard = s.heard;
  names = s.names;
  origin = s.origin;
  attempts = s.attempts;
}

abbrev pub with_missed : Source → ℕ → Source
with_missed s missed = record {
  span = s.span;
  missed = missed;
  pair = s.pair;
  distance = s.distance;
  heard = s.heard;
  names = s.names;
  origin = s.origin;
  attempts = s.attempts;
}

abbrev pub with_pair : Source → Pair → Source
with_pair s pair = record {
  span = s.span;
  missed = s.missed;
  pair = pair;
  distance = s.distance;
  heard = s.heard;
  names = s.names;
  origin = s.origin;
  attempts = s.attempts;
}

abbrev pub with_distance : Source → ℕ → Source
with_distance s distance = record {
  span = s.span;
  missed = s.missed;
  pair = s.pair;
  distance = distance;
  heard = s.heard;
  names = s.names;
  origin = s.origin;
  attempts = s.attempts;
}

abbrev pub with_heard : Source → Heard → Source
with_heard s heard = record {
  span = s.span;
  missed = s.missed;
  pair = s.pair;
  distance = s.distance;
  heard = heard;
  names = s.names;
  origin = s.origin;
  attempts = s.attempts;
}

abbrev pub with_names : Source → List Record → Source
with_names s names = record {
  span = s.span;
  missed = s.missed;
  pair = s.pair;
  distance = s.distance;
  heard = s.heard;
  names = names;
  origin = s.origin;
  attempts = s.attempts;
}

abbrev pub with_origin : Source → Origin → Source
with_origin s origin = record {
  span = s.span;
  missed = s.missed;
  pair = s.pair;
  distance = s.distance;
  heard = s.heard;
  names = s.names;
  origin = origin;
  attempts = s.attempts;
}

abbrev pub with_attempts : Source → List Attempt → Source
with_attempts s attempts = record {
  span = s.span;
  missed = s.missed;
  pair = s.pair;
  distance = s.distance;
  heard = s.heard;
  names = s.names;
  origin = s.origin;
  attempts = attempts;
}

-- ---- changing a part of an end
abbrev pub with_clock : End → ℕ → End
with_clock e t = record { host = e.host; params = e.params; clock = t; status = e.status; next = e.next; sources = e.sources }

abbrev pub with_status : End → Status → End
with_status e status = record { host = e.host; params = e.params; clock = e.clock; status = status; next = e.next; sources = e.sources }

abbrev pub with_next : End → ℕ → End
with_next e next = record { host = e.host; params = e.params; clock = e.clock; status = e.status; next = next; sources = e.sources }

abbrev pub with_sources : End → List Source → End
with_sources e sources = record { host = e.host; params = e.params; clock = e.clock; status = e.status; next = e.next; sources = sources }

abbrev pub with_source : End → Host → Source → End
with_source e h s = with_sources e (set e.sources h.0 s)

-- one source stepped: the one way in which a step on a source is a step on the end
abbrev pub on_source : End → Host → (Source → Source) → End
on_source e h f = with_source e h (f (source_at e h))
