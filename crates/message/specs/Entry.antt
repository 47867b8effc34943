-- The entries of the four sections as bytes. Document 01, "Messages": "names (source, cue number, host: 3 bytes), cues (24),
-- reports (source, last: 2), echoes (host, stamp, held ticks: 1+6+6)".
-- The width w of a cue number is a parameter: one byte in document 01's kinds, two in those of document 02, P7 (`number_width` of Kind.antt).
use Rattle.std.specs.Prelude.{ℕ, ◌+◌, List, [], ◌∷◌, ◌++◌, get_or, take, drop, replicate}
use Rattle.numbers.specs.Number.{value, digits}
use Rattle.message.specs.declared.Host.{Host}
use Rattle.message.specs.declared.CueNumber.{CueNumber}
use Rattle.message.specs.declared.NameEntry.{NameEntry}
use Rattle.message.specs.declared.Report.{Report}
use Rattle.message.specs.declared.Echo.{Echo}

-- a host and a cue number from the numbers that stand for them
abbrev pub as_host : ℕ → Host
as_host n = record { 0 = n }

abbrev pub as_number : ℕ → CueNumber
as_number n = record { 0 = n }

-- a name, which is a source with a cue number, and its host
abbrev pub name_width : ℕ → ℕ
name_width w = 2 + w

abbrev pub name_of : ℕ → List ℕ → NameEntry
name_of w s = record {
  name = record { source = as_host (get_or s 0 0); number = as_number (value (take w (drop 1 s))) };
  host = as_host (get_or (drop (1 + w) s) 0 0);
}

abbrev pub name_bytes : ℕ → NameEntry → List ℕ
name_bytes w n = n.name.source.0 ∷ (digits w n.name.number.0 ++ (n.host.0 ∷ []))

-- a cue: its 24 bytes
abbrev pub cue_width : ℕ
cue_width = 24

abbrev pub cue_of : List ℕ → List ℕ
cue_of s = take cue_width s

abbrev pub cue_bytes : List ℕ → List ℕ
cue_bytes cue = cue

-- a report: source, last
abbrev pub report_width : ℕ → ℕ
report_width w = 1 + w

abbrev pub report_of : ℕ → List ℕ → Report
report_of w s = record { source = as_host (get_or s 0 0); last = as_number (value (take w (drop 1 s))) }

abbrev pub report_bytes : ℕ → Report → List ℕ
report_bytes w r = r.source.0 ∷ digits w r.last.0

-- an echo: host, stamp, held ticks
abbrev pub echo_width : ℕ
echo_width = 13

abbrev pub echo_of : List ℕ → Echo
echo_of s = record { host = as_host (get_or s 0 0); stamp = value (take 6 (drop 1 s)); held = value (take 6 (drop 7 s)) }

abbrev pub echo_bytes : Echo → List ℕ
echo_bytes e = e.host.0 ∷ (digits 6 e.stamp ++ digits 6 e.held)

-- what a place holds that no entry uses
abbrev pub blank_name : NameEntry
blank_name = record { name = record { source = as_host 0; number = as_number 0 }; host = as_host 0 }

abbrev pub blank_cue : List ℕ
blank_cue = replicate cue_width 0

abbrev pub blank_report : Report
blank_report = record { source = as_host 0; last = as_number 0 }

abbrev pub blank_echo : Echo
blank_echo = record { host = as_host 0; stamp = 0; held = 0 }
