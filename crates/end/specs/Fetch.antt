-- Fetching what came before: document 02, P9. "A controller that joined late lacks the earlier cues." The event Fetch tries a host for a
-- number, kind 22 asks that host, kind 23 brings the cue, which is handed out as Late. None of them moves first or last, a request or a reply
-- ("Late cues lie outside its record of receptions, and first doesn't move"); kind 22 only looks whether the cue is held.
use Rattle.std.specs.Prelude.{ℕ, Bool, true, false, cond, not, ◌&&◌, List, ltb, eqb}
use Rattle.numbers.specs.Bits.{bit, with_bit}
use Rattle.message.specs.declared.Host.{Host}
use Rattle.message.specs.declared.Name.{Name}
use Rattle.message.specs.Entry.{as_host}
use Rattle.message.specs.Message.{Meaning, bytes_of}
use Rattle.message.specs.Question.{host_in, same_host}
use Rattle.end.specs.Parts.{Heard, Never, At, Nearest, Nobody, Found}
use Rattle.end.specs.declared.Attempt.{Attempt}
use Rattle.end.specs.declared.Source.{Source}
use Rattle.end.specs.declared.End.{End}
use Rattle.end.specs.State.{source_at, distance_to, moment_of, on_source}
use Rattle.end.specs.Records.{record_at, fetchable, attempt_at, with_attempt}
use Rattle.end.specs.Names.{holds_cue}
use Rattle.end.specs.Messages.{message_name, message_host, message_cue, fetch_message, fetched_message}
use Rattle.end.specs.Answer.{Out, Ignored, Late, Exhausted, Step, give}
use Rattle.end.specs.Fire.{fold_up}

-- ---- the marks of a number that may be fetched (Records.antt)

-- the host was tried for the number
abbrev pub tries : ℕ → Host → Source → Source
tries n h s = with_attempt s n (record { tried = with_bit (attempt_at s n).tried h.0; late = (attempt_at s n).late })

-- its cue was handed out as Late
abbrev pub hands_late : ℕ → Source → Source
hands_late n s = with_attempt s n (record { tried = (attempt_at s n).tried; late = true })

-- ---- the event: "A member may fetch any of the 64 numbers just below ..; any other fetch, or one already handed out, is Ignored."

-- what an end has done to fetch a name
abbrev pub attempt_on : End → Name → Attempt
attempt_on e name = attempt_at (source_at e name.source) name.number.0

-- one's own source has no first original of another host
unfoldable pub may_fetch : End → Name → Bool
may_fetch e name = host_in name.source && (fetchable (source_at e name.source).origin name.number.0 && not (attempt_on e name).late)

-- "Candidates are the other hosts whose last heard session message since joining reported that source.": the source itself may be one
abbrev pub reported_by : Heard → Host → Bool
reported_by Never source = false
reported_by (At stamp when reported) source = bit reported source.0

abbrev pub candidate : End → Name → ℕ → Bool
candidate e name h = not (eqb h e.host.0) && reported_by (source_at e (as_host h)).heard name.source

-- "among those not yet tried for that number since joining"
unfoldable pub untried : End → Name → ℕ → Bool
untried e name h = candidate e name h && not (bit (attempt_on e name).tried h)

-- "the one with the least distance, ties to the lower host": the hosts are gone through by rising number, so of two that are as near the one
-- met first stays
abbrev pub nearer : Nearest → Host → ℕ → Nearest
nearer Nobody h d = Found h d
nearer (Found k least) h d = cond (ltb d least) (Found h d) (Found k least)

-- of the first k hosts
unfoldable pub nearest : End → Name → ℕ → Nearest
nearest e name k = fold_up (λ h best. cond (untried e name h) (nearer best (as_host h) (distance_to e (as_host h))) best) Nobody k

-- "Each call tries the one ..; to a fetch that isn't Ignored, "exhausted" is answered exactly when no untried candidate is left."
unfoldable pub try_of : Name → End → Nearest → Step
try_of name e Nobody = give Exhausted e
try_of name e (Found h d) = give (Out (bytes_of (fetch_message (moment_of e) name h))) (on_source e name.source (tries name.number.0 h))

unfoldable pub fetch_of : Name → End → Step
fetch_of name e = cond (may_fetch e name) (try_of name e (nearest e name 8)) (give Ignored e)

-- ---- kind 22: "The tried host answers with kind 23 in that call if it holds the cue." "All else is Ignored"
unfoldable pub may_answer : End → Meaning → Bool
may_answer e m = same_host (message_host m) e.host && holds_cue (source_at e (message_name m).source) (message_name m).number.0

abbrev pub held_cue : End → Name → List ℕ
held_cue e name = (record_at (source_at e name.source) name.number.0).cue

unfoldable pub fetched_of : Meaning → End → Step
fetched_of m e =
    cond (may_answer e m)
    (give (Out (bytes_of (fetched_message (moment_of e) (message_name m) m.sender (held_cue e (message_name m))))) e)
    (give Ignored e)

-- ---- kind 23: "Its requester hands it out as Late, written as Got is, if it has tried that sender for the number since joining, at most once
-- since joining .. All else is Ignored"
unfoldable pub may_hand : End → Meaning → Bool
may_hand e m =
    same_host (message_host m) e.host
    && (bit (attempt_on e (message_name m)).tried m.sender.0 && not (attempt_on e (message_name m)).late)

unfoldable pub late_of : Meaning → End → Step
late_of m e =
    cond (may_hand e m)
    (give (Late (message_name m) (message_cue m)) (on_source e (message_name m).source (hands_late (message_name m).number.0)))
    (give Ignored e)
