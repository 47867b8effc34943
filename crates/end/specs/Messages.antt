-- What a message about a name says, and the messages that an end puts out. Document 01, "Messages" (the table) and "Events": "Out DATA", "goes
-- out as RQST", "goes out as REPL", "Out SESS with all firsts' sources and all heard stamps"; document 02, P8, P9 and P11: the kinds 21 to 24.
use Rattle.std.specs.Prelude.{ℕ, zero, suc, ◌-◌, List, [], ◌∷◌, ◌++◌, get_or}
use Rattle.message.specs.declared.Host.{Host}
use Rattle.message.specs.declared.CueNumber.{CueNumber}
use Rattle.message.specs.declared.Name.{Name}
use Rattle.message.specs.declared.NameEntry.{NameEntry}
use Rattle.message.specs.declared.Report.{Report}
use Rattle.message.specs.declared.Echo.{Echo}
use Rattle.message.specs.Entry.{as_host, blank_name, blank_cue}
use Rattle.message.specs.Message.{DATA, RQST, REPL, SESS, XPRS, FTCH, LATE, ANNC, Meaning}
use Rattle.end.specs.Parts.{Span, Closed, Open, Heard, Never, At}
use Rattle.end.specs.declared.End.{End}
use Rattle.end.specs.declared.Moment.{Moment}
use Rattle.end.specs.State.{no_source}

-- ---- what a message about a name says
abbrev pub message_name : Meaning → Name
message_name m = (get_or m.names 0 blank_name).name

abbrev pub message_host : Meaning → Host
message_host m = (get_or m.names 0 blank_name).host

abbrev pub message_cue : Meaning → List ℕ
message_cue m = get_or m.cues 0 blank_cue

-- ---- what is put out

-- a message about one name: its host, and its cue if it carries one; sender and stamp are one's own host and the clock
abbrev pub about_name : ℕ → Moment → Name → Host → List (List ℕ) → Meaning
about_name kind t name host cues = record {
  kind = kind;
  sender = t.me;
  stamp = t.clock;
  names = record { name = name; host = host } ∷ [];
  cues = cues;
  reports = [];
  echoes = [];
}

abbrev pub data_message : Moment → Name → List ℕ → Meaning
data_message t name cue = about_name DATA t name t.me (cue ∷ [])

abbrev pub request_message : Moment → Name → Meaning
request_message t name = about_name RQST t name t.me []

-- document 02, P8: "goes out as kind 21, laid out as kind 18, with the sender then kept as host"
abbrev pub express_message : Moment → Name → Host → Meaning
express_message t name host = about_name XPRS t name host []

abbrev pub repair_message : Moment → Name → Host → List ℕ → Meaning
repair_message t name requester cue = about_name REPL t name requester (cue ∷ [])

-- document 02, P9: "Fetch, kind 22, is shaped as kind 21 with the host tried as host; its cue, kind 23, as REPL": the host of kind 23 is who
-- fetches
abbrev pub fetch_message : Moment → Name → Host → Meaning
fetch_message t name tried = about_name FTCH t name tried []

abbrev pub fetched_message : Moment → Name → Host → List ℕ → Meaning
fetched_message t name requester cue = about_name LATE t name requester (cue ∷ [])

-- document 02, P11: "its own first and last as trail and lead in kind 24, two names laid out as kind 18's with the sender as source and host"
abbrev pub own_entry : Moment → CueNumber → NameEntry
own_entry t n = record { name = record { source = t.me; number = n }; host = t.me }

abbrev pub announce_message : Moment → CueNumber → CueNumber → Meaning
announce_message t first last = record {
  kind = ANNC;
  sender = t.me;
  stamp = t.clock;
  names = own_entry t first ∷ own_entry t last ∷ [];
  cues = [];
  reports = [];
  echoes = [];
}

-- the report of a source that has a first, and the echo of a host that was heard: its stamp, and the ticks since
abbrev pub report_on : Host → Span → List Report
report_on h Closed = []
report_on h (Open first last) = record { source = h; last = last } ∷ []

abbrev pub echo_on : Host → ℕ → Heard → List Echo
echo_on h clock Never = []
echo_on h clock (At stamp when reported) = record { host = h; stamp = stamp; held = clock - when } ∷ []

-- of the hosts below k, in rising order
unfoldable pub reports_below : End → ℕ → List Report
reports_below e zero = []
reports_below e (suc k) = reports_below e k ++ report_on (as_host k) (get_or e.sources k no_source).span

unfoldable pub echoes_below : End → ℕ → List Echo
echoes_below e zero = []
echoes_below e (suc k) = echoes_below e k ++ echo_on (as_host k) e.clock (get_or e.sources k no_source).heard

abbrev pub session_message : End → Meaning
session_message e = record {
  kind = SESS;
  sender = e.host;
  stamp = e.clock;
  names = [];
  cues = [];
  reports = reports_below e 8;
  echoes = echoes_below e 8;
}
