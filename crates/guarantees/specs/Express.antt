-- Express repair (document 02, P8), as statements; proofs/Express and Pairs prove them.
use Rattle.std.specs.Prelude.{◌≡◌, Bool, true, false, cond, ◌&&◌, List, [], ◌∷◌, ◌⊎◌, ℕ, ◌+◌, ◌≤◌, ◌<◌, length, eqb}
use Rattle.std.proofs.Math.Option.{Option, none, some}
use Rattle.message.specs.declared.Host.{Host}
use Rattle.message.specs.declared.Name.{Name}
use Rattle.message.specs.Entry.{as_host}
use Rattle.message.specs.Message.{RQST, XPRS, Meaning, meaning_from, bytes_of}
use Rattle.message.specs.Question.{same_host}
use Rattle.end.specs.declared.Params.{Params}
use Rattle.end.specs.declared.Request.{Request}
use Rattle.end.specs.Parts.{Express, Unset, Soon, Pair, NoPair}
use Rattle.end.specs.declared.Slot.TheVariants.{Waiting}
use Rattle.end.specs.declared.End.{End}
use Rattle.end.specs.State.{source_at, distance_to, is_member, with_clock, on_source}
use Rattle.end.specs.Records.{is_above, is_held, express_in}
use Rattle.end.specs.Round.{request_at}
use Rattle.end.specs.Names.{is_requester, latest, quiet_reply, drop_express}
use Rattle.end.specs.Messages.{repair_message}
use Rattle.end.specs.Answer.{Effect, Out, Got, Done, Ignored, Nothing, Clash, Late, Exhausted, Outcome, Refused, Did}
use Rattle.end.specs.Arrival.{message_name, message_host}
use Rattle.end.specs.Event.{Action, Moves, Send, Arrival, Else, clears, question_of, event_of}
use Rattle.end.specs.Opening.{opening_of}
use Rattle.end.specs.Book.{source, is_repair, read_as}
use Rattle.guarantees.specs.Calls.{moment_at, OneCall, after_all}
use Rattle.guarantees.specs.Records.{record_of, slot_of, request_of, firing}
use Rattle.guarantees.specs.Arrivals.{hear, is_data_of}
use Rattle.guarantees.specs.Fires.{fire}
use Rattle.guarantees.specs.History.{Told, told, is_done}

-- ---- the express wait

abbrev pub express_of : End → ℕ → ℕ → Express
express_of e h n = express_in (slot_of e h n)

-- an end and a call that sets one: "A member that sets round 1 by a gap before a DATA, not a REPL, and is that requester also sets an express
-- wait, due E ticks on." The gap is what lies above last and below the number of the DATA
pub record SetByGap (e : End) (a : Action) (clock : ℕ) (draws : List ℕ) (h n : ℕ) (left : End) (due : ℕ) : Type 0 where
  pub member : is_member e.status ≡ true
  pub bytes : List ℕ
  pub arrival : a ≡ Arrival bytes
  pub original : is_data_of (meaning_from bytes) h ≡ true
  pub above : is_above (source_at e (as_host h)).span n ≡ true
  pub below : n < (message_name (meaning_from bytes)).number.0
  pub requester : is_requester e.host (source_at e (as_host h)).pair ≡ true
  pub round : slot_of left h n ≡ Waiting (request_at (moment_at e clock) draws (distance_to e (as_host h)) n 1) (Soon due)
  pub in_time_lem : due ≡ clock + e.params.express

-- No other call sets one.
abbrev pub ExpressSetByGap : Type 0
ExpressSetByGap = (e : End) (a : Action) (clock room : ℕ) (draws : List ℕ) (h n due : ℕ) → h < 8 → let left = (event_of e a clock room draws).left in
    express_of e h n ≡ Unset → express_of left h n ≡ Soon due → SetByGap e a clock draws h n left due

-- An express wait stays, over new rounds of its request too; or it goes with its request; or it was due, Fire has dropped it, and the request
-- is the very same.
abbrev pub ExpressStaysOrGoes : Type 0
ExpressStaysOrGoes = (e : End) (a : Action) (clock room : ℕ) (draws : List ℕ) (h n : ℕ) (q : Request) (due : ℕ) → h < 8
    → slot_of e h n ≡ Waiting q (Soon due) → let left = (event_of e a clock room draws).left in
    (express_of left h n ≡ Soon due)
    ⊎ ((express_of left h n ≡ Unset) × (request_of left h n ≡ none))
    ⊎ ((firing a ≡ true) × (due ≤ clock) × (slot_of left h n ≡ Waiting q Unset))

-- what a Fire that puts out an XPRS has found, and what it leaves: under the name that goes out an express wait was due; it is dropped, and
-- nothing else changes but the clock
pub record WentOut (e : End) (clock : ℕ) (name : Name) (left : End) : Type 0 where
  pub request : Request
  pub due : ℕ
  pub waited : slot_of e name.source.0 name.number.0 ≡ Waiting request (Soon due)
  pub in_time_lem : due ≤ clock
  pub dropped : left ≡ on_source (with_clock e clock) name.source (drop_express name.number.0)

abbrev pub ExpressGoesOut : Type 0
ExpressGoesOut = (e : End) (clock room : ℕ) (draws bytes : List ℕ) → (fire e clock room draws).outcome ≡ Did (Out bytes)
    → (meaning_from bytes).kind ≡ XPRS → WentOut e clock (message_name (meaning_from bytes)) (fire e clock room draws).left

-- ---- an XPRS that arrives

-- "The named sender, if it holds the cue and clock ≥ reply-quiet": a member, named by another end's XPRS of a cue that it holds
pub record NamedHolder (e : End) (clock : ℕ) (m : Meaning) : Type 0 where
  pub member : is_member e.status ≡ true
  pub another : same_host m.sender e.host ≡ false
  pub kind : m.kind ≡ XPRS
  pub named : same_host (message_host m) e.host ≡ true
  pub held : is_held (slot_of e (message_name m).source.0 (message_name m).number.0) ≡ true
  pub over : (record_of e (message_name m).source.0 (message_name m).number.0).hush ≤ clock

-- It "drops its waiting reply, sets reply-quiet as Fire does and answers Out REPL in that call, with kind 21's sender as requester", and with
-- the held cue; nothing else changes but the clock.
abbrev pub ExpressAnswered : Type 0
ExpressAnswered = (e : End) (bytes : List ℕ) (clock room : ℕ) (draws : List ℕ) → question_of e (Arrival bytes) clock room (length draws) ≡ 0
    → NamedHolder e clock (meaning_from bytes) → let m = meaning_from bytes in let name = message_name m in hear e bytes clock room draws ≡ record {
      outcome = Did (Out (bytes_of (repair_message (moment_at e clock) name m.sender (record_of e name.source.0 name.number.0).cue)));
      left = on_source (with_clock e clock) name.source (quiet_reply (moment_at e clock) name.number.0 (distance_to e m.sender));
    }

-- the RQST with the name, the sender and the stamp of an XPRS
abbrev pub as_request : Meaning → Meaning
as_request m = record {
  kind = RQST;
  sender = m.sender;
  stamp = m.stamp;
  names = record { name = message_name m; host = m.sender } ∷ [];
  cues = m.cues;
  reports = m.reports;
  echoes = m.echoes;
}

-- "Otherwise it, like every other end, treats kind 21 as RQST from its sender": the same answer, the same bytes and the same state, in any
-- status, from bytes that are read as that RQST.
abbrev pub ExpressElseRequest : Type 0
ExpressElseRequest = (e : End) (bytes asking : List ℕ) (clock room : ℕ) (draws : List ℕ)
    → question_of e (Arrival bytes) clock room (length draws) ≡ 0 → question_of e (Arrival asking) clock room (length draws) ≡ 0
    → (meaning_from bytes).kind ≡ XPRS → meaning_from asking ≡ as_request (meaning_from bytes) → (NamedHolder e clock (meaning_from bytes) → ⊥)
    → hear e bytes clock room draws ≡ hear e asking clock room draws

-- ---- the kept pair: "Per source an end keeps, until Leave or Crash, the requester and sender of the latest REPL answered Got or Done that
-- named a number at least as high as the kept one's." Which is the later of two is `latest`

abbrev pub is_got_or_done : Effect → Bool
is_got_or_done (Out bytes) = false
is_got_or_done (Got name cue) = true
is_got_or_done Done = true
is_got_or_done Ignored = false
is_got_or_done Nothing = false
is_got_or_done (Clash name) = false
is_got_or_done (Late name cue) = false
is_got_or_done Exhausted = false

-- the pair of source s after a message that was so answered
unfoldable pub pair_message : ℕ → Pair → Meaning → Effect → Pair
pair_message s pair m a = cond (is_repair m && (eqb (source m) s && is_got_or_done a)) (latest pair (message_host m) m.sender (message_name m).number) pair

unfoldable pub pair_read : ℕ → Pair → Option Meaning → Effect → Pair
pair_read s pair none a = pair
pair_read s pair (some m) a = pair_message s pair m a

-- after an event; a move that is Done and no Leave or Crash is none of a member, who alone keeps pairs
unfoldable pub pair_action : ℕ → Pair → Action → Effect → Pair
pair_action s pair (Moves m) a = cond (is_done a && clears m) NoPair pair
pair_action s pair (Send cue) a = pair
pair_action s pair (Arrival bytes) a = pair_read s pair (read_as bytes) a
pair_action s pair (Else o) a = pair

unfoldable pub pair_after : ℕ → Pair → Action → Outcome → Pair
pair_after s pair a (Refused k) = pair
pair_after s pair a (Did effect) = pair_action s pair a effect

-- Every call leaves the pair of each source that this says: it changes only by a REPL answered Got or Done, and goes by Leave and Crash.
abbrev pub PairsMayBecome : Type 0
PairsMayBecome = (e : End) (a : Action) (clock room : ℕ) (draws : List ℕ) (s : ℕ) → s < 8 → let r = event_of e a clock room draws in
    (source_at r.left (as_host s)).pair ≡ pair_after s (source_at e (as_host s)).pair a r.outcome

-- the pair over a history of calls with their answers
unfoldable pub pair_from : ℕ → Pair → List Told → Pair
pair_from s pair [] = pair
pair_from s pair (c ∷ cs) = pair_from s (pair_after s pair c.action c.outcome) cs

-- After any calls on an end that was opened, each source's pair is the one that the history of these calls says.
abbrev pub PairOverHistory : Type 0
PairOverHistory = (h : Host) (p : Params) (cs : List OneCall) (s : ℕ) → s < 8 → let e = (opening_of h p).end in
    (source_at (after_all e cs) (as_host s)).pair ≡ pair_from s NoPair (told e cs)
