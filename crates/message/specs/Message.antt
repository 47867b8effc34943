-- What a message means, and its layout in bytes. Document 01, "Messages": "Kind (1 byte), sender (1), stamp (6, the sender's
-- clock), then four sections, each after its one-byte count: names .., cues .., reports .., echoes ..".
use Rattle.std.specs.Prelude.{ℕ, ◌+◌, ◌*◌, ◌-◌, ◌≤◌, List, [], ◌∷◌, ◌++◌, length, get_or, take, drop}
use Rattle.numbers.specs.Number.{value, digits}
use Rattle.message.specs.Section.{section, section_from, after, padded}
use Rattle.message.specs.Entry.{as_host, name_width, name_of, name_bytes, cue_width, cue_of, cue_bytes, report_width, report_of, report_bytes, echo_width, echo_of, echo_bytes, blank_name, blank_cue, blank_report, blank_echo}
use Rattle.message.specs.declared.Host.{Host}
use Rattle.message.specs.declared.NameEntry.{NameEntry}
use Rattle.message.specs.declared.Report.{Report}
use Rattle.message.specs.declared.Echo.{Echo}
use Rattle.message.specs.declared.Counts.{Counts}
use Rattle.message.specs.declared.Message.{Message}
pub use Rattle.message.specs.Kind.{DATA, RQST, REPL, SESS, XPRS, FTCH, LATE, ANNC, is_old, kind_of, kind_shift, number_width, most_number}

-- What a message says.
pub record Meaning : Type 0 where
  pub kind : ℕ
  pub sender : Host
  pub stamp : ℕ
  pub names : List NameEntry
  pub cues : List (List ℕ)
  pub reports : List Report
  pub echoes : List Echo

-- how many entries each section has
abbrev pub counts_of : Meaning → Counts
counts_of M = record { names = length M.names; cues = length M.cues; reports = length M.reports; echoes = length M.echoes }

-- ---- The meaning of the declared struct, whose arrays have places that its counts may not use.

-- what a message struct means: the names, reports and echoes in the first places, as many as the counts say; `cue` is the one
-- place for a cue
abbrev pub meaning_of : Message → Meaning
meaning_of m = record {
  kind = m.kind;
  sender = m.sender;
  stamp = m.stamp;
  names = take m.counts.names m.names;
  cues = take m.counts.cues (m.cue ∷ []);
  reports = take m.counts.reports m.reports;
  echoes = take m.counts.echoes m.echoes;
}

-- how many places a message struct has for names, reports and echoes
abbrev pub name_places : ℕ
name_places = 2

abbrev pub report_places : ℕ
report_places = 8

abbrev pub echo_places : ℕ
echo_places = 7

-- the struct that holds a meaning, with blanks in the places left over; for a meaning with at most one cue and no more names,
-- reports and echoes than there are places, as question 9 sees to
abbrev pub held_as : Meaning → Message
held_as M = record {
  kind = M.kind;
  sender = M.sender;
  stamp = M.stamp;
  counts = counts_of M;
  names = padded name_places blank_name M.names;
  cue = get_or M.cues 0 blank_cue;
  reports = padded report_places blank_report M.reports;
  echoes = padded echo_places blank_echo M.echoes;
}

-- ---- The layout, over the width w of a cue number and the byte that says the kind.

-- kind, sender, stamp
abbrev pub head_bytes : ℕ → Host → ℕ → List ℕ
head_bytes byte sender stamp = byte ∷ sender.0 ∷ digits 6 stamp

-- the head, the names and the cues
abbrev pub front_bytes : ℕ → ℕ → Host → ℕ → List NameEntry → List (List ℕ) → List ℕ
front_bytes w byte sender stamp names cues = head_bytes byte sender stamp ++ (section (name_bytes w) names ++ section cue_bytes cues)

-- the reports and the echoes
abbrev pub back_bytes : ℕ → List Report → List Echo → List ℕ
back_bytes w reports echoes = section (report_bytes w) reports ++ section echo_bytes echoes

unfoldable pub bytes_with : ℕ → ℕ → Meaning → List ℕ
bytes_with w byte M = front_bytes w byte M.sender M.stamp M.names M.cues ++ back_bytes w M.reports M.echoes

-- the byte that a message starts with; 0, which is no kind, where there are no bytes
abbrev pub kind_byte : List ℕ → ℕ
kind_byte s = get_or s 0 0

-- where the sections start: names after the head, then cues, reports and echoes
abbrev pub from_names : List ℕ → List ℕ
from_names s = drop 8 s

abbrev pub from_cues : ℕ → List ℕ → List ℕ
from_cues w s = after (name_width w) (from_names s)

abbrev pub from_reports : ℕ → List ℕ → List ℕ
from_reports w s = after cue_width (from_cues w s)

abbrev pub from_echoes : ℕ → List ℕ → List ℕ
from_echoes w s = after (report_width w) (from_reports w s)

unfoldable pub meaning_with : ℕ → List ℕ → Meaning
meaning_with w s = record {
  kind = kind_of (kind_byte s);
  sender = as_host (get_or s 1 0);
  stamp = value (take 6 (drop 2 s));
  names = section_from (name_of w) (name_width w) (from_names s);
  cues = section_from cue_of cue_width (from_cues w s);
  reports = section_from (report_of w) (report_width w) (from_reports w s);
  echoes = section_from echo_of echo_width (from_echoes w s);
}

-- how long a message with these counts is: the head, four count bytes and the entries
abbrev pub size_with : ℕ → Counts → ℕ
size_with w c = 12 + c.names * name_width w + c.cues * cue_width + c.reports * report_width w + c.echoes * echo_width

-- what the kinds' counts allow: they fit the places of a message struct, and the message has at most 127 bytes
pub record Small (w : ℕ) (c : Counts) : Type 0 where
  pub names : c.names ≤ name_places
  pub cues : c.cues ≤ 1
  pub reports : c.reports ≤ report_places
  pub echoes : c.echoes ≤ echo_places
  pub size : size_with w c ≤ 127

-- ---- The layout of a message, with the width that its kind byte asks for.

-- the bytes of a meaning after a kind byte
abbrev pub bytes_as : ℕ → Meaning → List ℕ
bytes_as byte M = bytes_with (number_width byte) byte M

-- the bytes that a meaning is written as: those of its kind
abbrev pub bytes_of : Meaning → List ℕ
bytes_of M = bytes_as M.kind M

-- the bytes that a meaning of kinds 17 to 20 has in document 01, under kinds 1 to 4: document 02, P7: "no longer written"
abbrev pub old_bytes_of : Meaning → List ℕ
old_bytes_of M = bytes_as (M.kind - kind_shift) M

-- the meaning that bytes are read as
abbrev pub meaning_from : List ℕ → Meaning
meaning_from s = meaning_with (number_width (kind_byte s)) s

-- how long bytes with these counts must be
abbrev pub size_from : List ℕ → ℕ
size_from s = size_with (number_width (kind_byte s)) (counts_of (meaning_from s))

-- ---- A datagram. Document 02, P5: "A message of no bytes": it says "probe", and any other datagram is a message. `A` is what stands for a
-- message: its meaning, or the struct that the writer is handed.
pub data Datagram (A : Type 0) : Type 0 where
  Probe : Datagram A
  Saying : A → Datagram A

-- what a datagram is written as, and what bytes are read as
abbrev pub datagram_bytes : Datagram Meaning → List ℕ
datagram_bytes Probe = []
datagram_bytes (Saying M) = bytes_of M

abbrev pub datagram_from : List ℕ → Datagram Meaning
datagram_from [] = Probe
datagram_from (b ∷ s) = Saying (meaning_from (b ∷ s))

-- what a datagram says whose message stands in a struct
abbrev pub said_by : Datagram Message → Datagram Meaning
said_by Probe = Probe
said_by (Saying m) = Saying (meaning_of m)
