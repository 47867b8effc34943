-- The count taken over small histories of host 1's end, computed; proofs/HistoryRows.antt. Source 0's number 10 is handed out, and a session
-- message reports 80: 10 to 16 are retired, of which 11 to 16 were not handed out.
use Rattle.std.specs.Prelude.{◌≡◌, List, [], ◌∷◌, ◌++◌, ℕ, replicate}
use Rattle.std.proofs.Math.Option.{some}
use Rattle.message.specs.Entry.{as_host, as_number}
use Rattle.end.specs.declared.Move.TheVariants.{Join, Joined, Leave}
use Rattle.end.specs.Parts.{Open}
use Rattle.end.specs.Answer.{Got, Done, Refused, Did}
use Rattle.end.specs.Event.{Moves, Arrival}
use Rattle.guarantees.specs.History.{Told, nothing_yet, since_joining, count_over, counted, span_since}

-- a cue of 24 zero bytes
abbrev pub dark_cue : List ℕ
dark_cue = replicate 24 0

-- DATA of host 0, stamp 0, with one name and one cue
abbrev pub data_of : ℕ → List ℕ
data_of n = 17 ∷ 0 ∷ 0 ∷ 0 ∷ 0 ∷ 0 ∷ 0 ∷ 0 ∷ 1 ∷ 0 ∷ 0 ∷ n ∷ 0 ∷ 1 ∷ (dark_cue ++ (0 ∷ 0 ∷ []))

-- SESS of host 2, stamp 0, with a report of source 0
abbrev pub report_of : ℕ → List ℕ
report_of n = 20 ∷ 2 ∷ 0 ∷ 0 ∷ 0 ∷ 0 ∷ 0 ∷ 0 ∷ 0 ∷ 0 ∷ 1 ∷ 0 ∷ 0 ∷ n ∷ 0 ∷ []

-- a report before the first hand-out and a refused call say nothing
abbrev pub ten_to_eighty : List Told
ten_to_eighty =
    record { action = Moves Join; outcome = Did Done }
    ∷ record { action = Moves Joined; outcome = Did Done }
    ∷ record { action = Arrival (report_of 200); outcome = Did Done }
    ∷ record { action = Arrival (data_of 10); outcome = Did (Got (record { source = as_host 0; number = as_number 10 }) dark_cue) }
    ∷ record { action = Arrival (report_of 250); outcome = Refused 5 }
    ∷ record { action = Arrival (report_of 80); outcome = Did Done }
    ∷ []

pub record TenToEighty : Type 0 where
  pub since : since_joining 1 0 ten_to_eighty ≡ record { handed = 10 ∷ []; highest = some 80 }
  pub span : span_since (since_joining 1 0 ten_to_eighty) ≡ Open (as_number 17) (as_number 80)
  pub count : counted (since_joining 1 0 ten_to_eighty) ≡ 6

-- after a Leave nothing has happened since joining
abbrev pub LeftAgain : Type 0
LeftAgain = since_joining 1 0 (ten_to_eighty ++ (record { action = Moves Leave; outcome = Did Done } ∷ [])) ≡ nothing_yet

-- number 0 alone handed out and 65,535 brought: 0 to 65,471 are retired, and all but 0 counted
abbrev pub WholeSeason : Type 0
WholeSeason = count_over (0 ∷ []) (some 65535) ≡ 65471
