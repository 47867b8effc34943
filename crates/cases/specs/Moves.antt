-- The five moves from each of the five statuses, through `event_of`. Document 01, "Events".
use Rattle.std.specs.Prelude.{List, [], ◌∷◌, map, replicate}
use Rattle.message.specs.Entry.{as_host}
use Rattle.end.specs.declared.Status.{Status}
use Rattle.end.specs.declared.Status.TheVariants.{Idle, Joining, Member, Leaving, Crashed}
use Rattle.end.specs.State.{fresh_end}
use Rattle.end.specs.Answer.{Done, Ignored}
use Rattle.end.specs.declared.Move.{Move}
use Rattle.end.specs.Event.{Moves, event_of}
use Rattle.end.specs.declared.Move.TheVariants.{Join, Joined, Leave, Left, Crash}
use Rattle.end.specs.Answer.{Outcome, Did}
use Rattle.end.specs.Opening.{house_params}
use Rattle.cases.specs.Case.{Case, case}

-- what a call answers, and the status that it leaves
abbrev pub Turn : Type 0
Turn = Outcome × Status

abbrev pub moved : Move → Status → Turn
moved m status = let r = event_of (fresh_end (as_host 0) house_params status) (Moves m) 5 128 (replicate 64 0) in (r.outcome, r.left.status)

-- a move from each status: idle, joining, member, leaving, crashed
abbrev pub from_each : Move → List Turn
from_each m = map (moved m) (Idle ∷ Joining ∷ Member ∷ Leaving ∷ Crashed ∷ [])

-- "These give Done, from any other status Ignored."
abbrev pub goes : Status → Turn
goes status = (Did Done, status)

abbrev pub stays : Status → Turn
stays status = (Did Ignored, status)

unfoldable pub move_rows : List Case
move_rows =
    -- "Join: idle to joining."
    case (from_each Join) (goes Joining ∷ stays Joining ∷ stays Member ∷ stays Leaving ∷ stays Crashed ∷ [])
    -- "Joined: joining to member."
    ∷ case (from_each Joined) (stays Idle ∷ goes Member ∷ stays Member ∷ stays Leaving ∷ stays Crashed ∷ [])
    -- "Leave: joining or member to leaving."
    ∷ case (from_each Leave) (stays Idle ∷ goes Leaving ∷ goes Leaving ∷ stays Leaving ∷ stays Crashed ∷ [])
    -- "Left: leaving to idle."
    ∷ case (from_each Left) (stays Idle ∷ stays Joining ∷ stays Member ∷ goes Idle ∷ stays Crashed ∷ [])
    -- "Crash: to crashed." On a crashed end "everything unrefused is Ignored"
    ∷ case (from_each Crash) (goes Crashed ∷ goes Crashed ∷ goes Crashed ∷ goes Crashed ∷ stays Crashed ∷ [])
    ∷ []
