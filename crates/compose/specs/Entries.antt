-- The entries that an end has to report, in the places of a message, and one entry more.
use Rattle.std.specs.Prelude.{ℕ, ◌+◌, Option, Some, None, List, [], ◌∷◌, length, set}
use Rattle.message.specs.declared.Report.{Report}
use Rattle.message.specs.declared.Echo.{Echo}
use Rattle.message.specs.Section.{padded}
use Rattle.message.specs.Entry.{blank_report, blank_echo}
use Rattle.message.specs.Message.{report_places, echo_places}
use Rattle.end.specs.declared.End.{End}
use Rattle.end.specs.Messages.{reports_below, echoes_below}
use Rattle.compose.specs.declared.Reports.{Reports}
use Rattle.compose.specs.declared.Echoes.{Echoes}
use Rattle.compose.specs.declared.Entries.{Entries}

-- the cues of a message that has this one, or none
abbrev pub listed : Option (List ℕ) → List (List ℕ)
listed None = []
listed (Some cue) = cue ∷ []

-- these reports, and these echoes, in the first places
abbrev pub reports_in : List Report → Reports
reports_in l = record { count = length l; places = padded report_places blank_report l }

abbrev pub echoes_in : List Echo → Echoes
echoes_in l = record { count = length l; places = padded echo_places blank_echo l }

-- what the first k hosts give
abbrev pub entries_below : End → ℕ → Entries
entries_below e k = record { reports = reports_in (reports_below e k); echoes = echoes_in (echoes_below e k) }

-- with the entry that a host gives, if it gives one
abbrev pub with_report : Reports → List Report → Reports
with_report all [] = all
with_report all (x ∷ l) = record { count = all.count + 1; places = set all.places all.count x }

abbrev pub with_echo : Echoes → List Echo → Echoes
with_echo all [] = all
with_echo all (x ∷ l) = record { count = all.count + 1; places = set all.places all.count x }
