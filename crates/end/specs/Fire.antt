-- Fire. Document 01, "Events": "of all waits with due ≤ clock the earliest; ties: request before reply, then lower source, lower
-- number. A request goes out as RQST and its next round is set. A reply goes out as REPL, is dropped, and reply-quiet is set as
-- above. None due: Nothing." Document 02, P8: an express wait "Fired, .. is dropped and goes out as kind 21 .., with the sender then kept as
-- host"; "Express waits come before requests in ties."
use Rattle.std.specs.Prelude.{ℕ, zero, suc, ◌+◌, Bool, cond, ◌&&◌, ◌||◌, List, get_or, ltb, leb, eqb}
use Rattle.message.specs.declared.Host.{Host}
use Rattle.message.specs.declared.Name.{Name}
use Rattle.message.specs.Entry.{as_host, as_number}
use Rattle.message.specs.Message.{bytes_of}
use Rattle.end.specs.declared.Slot.{Slot}
use Rattle.end.specs.declared.Slot.TheVariants.{Empty, Held, Waiting}
use Rattle.end.specs.Parts.{Express, Unset, Soon, Pair, NoPair, Kept, No, Due, Earliest, NoWait, First}
use Rattle.end.specs.declared.Source.{Source}
use Rattle.end.specs.declared.End.{End}
use Rattle.end.specs.declared.Wait.{Wait}
use Rattle.end.specs.State.{no_source, source_at, distance_to, moment_of, on_source}
use Rattle.end.specs.Records.{start, width, record_at}
use Rattle.end.specs.Round.{next_round}
use Rattle.end.specs.Names.{set_round, quiet_reply, drop_express}
use Rattle.end.specs.Messages.{request_message, repair_message, express_message}
use Rattle.end.specs.Answer.{Out, Nothing, Step, give}

-- f at 0, then at 1, .. up to k − 1
unfoldable pub fold_up : {A : Type 0} → (ℕ → A → A) → A → ℕ → A
fold_up f a zero = a
fold_up f a (suc k) = f k (fold_up f a k)

-- the ranks of waits that are due at one time: express, request, reply
abbrev pub express_rank : ℕ
express_rank = 0

abbrev pub request_rank : ℕ
request_rank = 1

abbrev pub reply_rank : ℕ
reply_rank = 2

-- a wait comes before another if it is due earlier, or at the same time and has the lower rank
abbrev pub before : Wait → Wait → Bool
before w v = ltb w.due v.due || (eqb w.due v.due && ltb w.rank v.rank)

-- the earlier of the earliest so far and a wait. The names are gone through by rising source and number, so of two waits that do
-- not come before each other the one met first, of the lower source and number, stays
abbrev pub earlier : Earliest → Wait → Earliest
earlier NoWait w = First w
earlier (First v) w = cond (before w v) (First w) (First v)

-- a wait of a name counts once it is due
abbrev pub due_at : Name → ℕ → ℕ → ℕ → Earliest → Earliest
due_at name clock rank due best = cond (leb due clock) (earlier best (record { due = due; rank = rank; name = name })) best

abbrev pub express_at : Name → ℕ → Express → Earliest → Earliest
express_at name clock Unset best = best
express_at name clock (Soon due) best = due_at name clock express_rank due best

-- what a record has waiting: its request, beside it perhaps an express wait, or the reply of a held cue
abbrev pub offered : Name → ℕ → Slot → Earliest → Earliest
offered name clock Empty best = best
offered name clock (Waiting q x) best = due_at name clock request_rank q.due (express_at name clock x best)
offered name clock (Held No) best = best
offered name clock (Held (Due due requester)) best = due_at name clock reply_rank due best

-- of the first k of a source's numbers first..last
abbrev pub earliest_name : Host → ℕ → Source → Earliest → ℕ → Earliest
earliest_name h clock s best k =
    fold_up (λ i x. offered (record { source = h; number = as_number (start s.span + i) }) clock (record_at s (start s.span + i)).slot x) best k

-- of the first k sources
unfoldable pub earliest : End → ℕ → Earliest
earliest e k = fold_up (λ h x. let s = get_or e.sources h no_source in earliest_name (as_host h) e.clock s x (width s.span)) NoWait k

-- "the sender then kept"; a sound state has a pair where an express wait stands
abbrev pub kept_sender : Pair → Host
kept_sender NoPair = as_host 0
kept_sender (Kept requester sender n) = sender

-- the wait under a name goes out: a name has a request, and beside it perhaps an express wait, or a reply, so its rank tells which was chosen
unfoldable pub fire_at : List ℕ → ℕ → Name → End → Slot → Step
fire_at us rank name e Empty = give Nothing e
fire_at us rank name e (Waiting q x) =
    cond (eqb rank express_rank)
    (give (Out (bytes_of (express_message (moment_of e) name (kept_sender (source_at e name.source).pair)))) (on_source e name.source (drop_express name.number.0)))
    (give (Out (bytes_of (request_message (moment_of e) name))) (on_source e name.source (set_round (moment_of e) us name.number.0 (next_round q.round))))
fire_at us rank name e (Held No) = give Nothing e
fire_at us rank name e (Held (Due due requester)) =
    give (Out (bytes_of (repair_message (moment_of e) name requester (record_at (source_at e name.source) name.number.0).cue)))
    (on_source e name.source (quiet_reply (moment_of e) name.number.0 (distance_to e requester)))

unfoldable pub fired : List ℕ → End → Earliest → Step
fired us e NoWait = give Nothing e
fired us e (First w) = fire_at us w.rank w.name e (record_at (source_at e w.name.source) w.name.number.0).slot

abbrev pub fire_of : List ℕ → End → Step
fire_of us e = fired us e (earliest e 8)
