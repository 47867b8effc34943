-- Lists of calls over lent bytes, as statements; proofs/Lists.antt proves each. Eight hosts each lend the bytes of their end's state to each of
-- its calls, and nobody else writes them. Such a list is one of demand 3: at every point the bytes hold the end of the World, and the numbers
-- and outputs are those of its answers; so what the hosts see is a run of the service by document 01's book.
use Rattle.std.specs.Prelude.{◌≡◌, false, List, [], ◌∷◌, map, ℕ, ◌≤◌, ◌<◌, length}
use Rattle.message.specs.Limit.{room_needed}
use Rattle.end.specs.Round.{draw_count, Drawn}
use Rattle.end.specs.Answer.{Outcome}
use Rattle.end.specs.Event.{Action, gives, leaves}
use Rattle.end.specs.Book.{put, Entry, RunFrom, empty_book}
use Rattle.end.specs.Lates.{LatesAsFiled}
use Rattle.end.specs.Run.{Call, World, result_of, sent_after, world_after, seen, Brought, CueArray, Allowed, Fresh}
use Rattle.invariants.specs.Lists.{through, Declared}
use Rattle.lent_answer.specs.Number.{number_of}
use Rattle.lent_end.specs.State.{state_width, status_of, status_number, end_from, is_state, Holds}
use Rattle.lent_calls.specs.Arguments.{cue_of}
use Rattle.lent_calls.specs.Call.{call_number, call_state, call_out}
use Rattle.lent_calls.specs.Open.{opened_number, opened_state, open_of}
use Rattle.lent_looks.specs.Looks.{look, status_in}
use Rattle.lent_runs.specs.Numbers.{outcome_in}

-- the bytes that each host lends
abbrev pub Lent : Type 0
Lent = ℕ → List ℕ

-- at first those that cuelink_open leaves where it answers 0, of any parameters, in any buffer; a list on fewer ends never calls the others
abbrev pub OpenedLent : Lent → Type 0
OpenedLent l = (h : ℕ) → h < 8 → (params s : List ℕ) × (opened_number (open_of h params) s ≡ 0) × (l h ≡ opened_state (open_of h params) s)

-- ---- a call gets the bytes that its end's last call left
abbrev pub number_on : Lent → Call → ℕ
number_on l c = call_number c.action c.clock c.draws c.output (l c.host)

abbrev pub output_on : Lent → Call → List ℕ
output_on l c = call_out c.action c.clock c.draws c.output (l c.host)

abbrev pub state_on : Lent → Call → List ℕ
state_on l c = call_state c.action c.clock c.draws c.output (l c.host)

unfoldable pub lent_after : Lent → Call → Lent
lent_after l c = put l c.host (state_on l c)

unfoldable pub lent_through : Lent → List Call → Lent
lent_through l [] = l
lent_through l (c ∷ cs) = lent_through (lent_after l c) cs

-- one call as its host sees it: the number that it answered, the output that it left, and the status that cuelink_status then says
pub record Given : Type 0 where
  pub host : ℕ
  pub action : Action
  pub number : ℕ
  pub output : List ℕ
  pub status : ℕ

abbrev pub given_on : Lent → Call → Given
given_on l c = record { host = c.host; action = c.action; number = number_on l c; output = output_on l c; status = look status_in (state_on l c) }

unfoldable pub given : Lent → List Call → List Given
given l [] = []
given l (c ∷ cs) = given_on l c ∷ given (lent_after l c) cs

-- ---- the ends that the bytes hold

-- the World of demand 3 whose ends the bytes hold
abbrev pub held_by : Lent → World
held_by l = record { ends = λ h. end_from (l h); sent = [] }

-- what the same call on the end of a World gives, as numbers
abbrev pub played_on : World → Call → Given
played_on w c =
    let e = w.ends c.host in
    let r = gives e c.action c.clock c.draws c.output in
    record {
      host = c.host;
      action = c.action;
      number = number_of r.answer;
      output = leaves e c.action c.clock c.draws c.output;
      status = status_number r.end.status;
    }

unfoldable pub played : World → List Call → List Given
played w [] = []
played w (c ∷ cs) = played_on w c ∷ played (world_after w c.host (result_of w c)) cs

-- From openings: whatever the calls, refused ones among them, with arguments of their declared types, after them the bytes hold the ends that the
-- calls on ends leave, and every call answered and left what the call on its end does.
pub record Plays (l : Lent) (w : World) : Type 0 where
  pub fresh : Fresh w
  pub holds : (cs : List Call) → Declared cs → (h : ℕ) → h < 8 → Holds (lent_through l cs h) ((through w cs).ends h)
  pub gives : (cs : List Call) → Declared cs → given l cs ≡ played w cs

abbrev pub LentIsPlayed : Type 0
LentIsPlayed = (l : Lent) → OpenedLent l → Plays l (held_by l)

-- the arguments' types are no limit: whatever bytes a host hands to cuelink_send as a cue, 24 or not, what is sent has 24
abbrev pub CuesFit : Type 0
CuesFit = (cue : List ℕ) → length (cue_of cue) ≡ 24

-- Bytes that are no state, "of any other form, or of another length", are refused as 3 and nothing changes.
abbrev pub NoStateIsRefused : Type 0
NoStateIsRefused = (a : Action) (clock : ℕ) (draws output s : List ℕ) → room_needed ≤ length output → length draws ≡ draw_count → is_state s ≡ false
    → (call_number a clock draws output s ≡ 3) × (call_state a clock draws output s ≡ s) × (call_out a clock draws output s ≡ output)

-- ---- demand 3

-- what a call of the list did, as its host sees it
abbrev pub outcome_on : Lent → Call → Outcome
outcome_on l c = outcome_in (number_on l c) (output_on l c)

-- the lists that demand 3 speaks of, as the hosts see them: a host's calls are on its own bytes, and an unrefused Arrival brings what an earlier
-- Out of the list put out (draws are of 16 bits by their type)
abbrev pub LentAllowed : Lent → List (List ℕ) → List Call → Type 0
LentAllowed l sent [] = Unit {0}
LentAllowed l sent (c ∷ cs) =
    (c.host < 8)
    × Drawn c.draws
    × CueArray c.action
    × Brought sent c.action (outcome_on l c)
    × LentAllowed (lent_after l c) (sent_after (outcome_on l c) sent) cs

-- the entry of the book that a host would write
unfoldable pub onlooked : Given → Entry
onlooked g = record { host = g.host; action = g.action; outcome = outcome_in g.number g.output; status = status_of g.status }

-- Such a list is one of demand 3, and its hosts see what demand 3's onlooker sees.
pub record AsSeen (l : Lent) (cs : List Call) : Type 0 where
  pub fresh : Fresh (held_by l)
  pub allowed : Allowed (held_by l) cs
  pub same : map onlooked (given l cs) ≡ seen (held_by l) cs

abbrev pub LentIsSeen : Type 0
LentIsSeen = (l : Lent) → OpenedLent l → (cs : List Call) → LentAllowed l [] cs → AsSeen l cs

-- And every list of demand 3 with arguments of their declared types is such a list: nothing that it speaks of is left out.
abbrev pub AllowedIsLent : Type 0
AllowedIsLent = (l : Lent) → OpenedLent l → (cs : List Call) → Declared cs → Allowed (held_by l) cs → LentAllowed l [] cs

-- There are such bytes: every buffer that is long enough is opened for each host, with the parameters of `house`.
abbrev pub house : List ℕ
house = 9 ∷ 8 ∷ 4 ∷ 4 ∷ 4 ∷ 8 ∷ 0 ∷ []

abbrev pub HouseOpens : Type 0
HouseOpens = (s : List ℕ) → length s ≡ state_width → OpenedLent (λ h. opened_state (open_of h house) s)

-- Demand 3 over lent bytes: what the numbers, outputs and states say is a run of the service; and a cue that is handed out as Late has the
-- source's bytes (document 02, P9).
abbrev pub LentService : Type 0
LentService = (l : Lent) → OpenedLent l → (cs : List Call) → LentAllowed l [] cs → RunFrom empty_book (map onlooked (given l cs))

abbrev pub LentLatesAsFiled : Type 0
LentLatesAsFiled = (l : Lent) → OpenedLent l → (cs : List Call) → LentAllowed l [] cs → LatesAsFiled empty_book (map onlooked (given l cs))
