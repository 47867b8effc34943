-- What a member does with another end's DATA, RQST, REPL or XPRS: it decides on the one source that the name is of, and then does what was
-- decided. Document 01, "Events": DATA, RQST, REPL; document 02, P3: the reasons, P4: the same cue, and P8: express repair. What is done is
-- decided by `decide` alone; how a rise, a new request and the kept pair go is in their own definitions (Names).
use Rattle.std.specs.Prelude.{ℕ, Bool, true, false, cond, not, ◌&&◌, List, [], ◌∷◌, ltb, leb, eqb}
use Rattle.message.specs.Message.{bytes_of}
use Rattle.message.specs.Question.{same_host}
use Rattle.end.specs.Parts.{Reply, Span, Closed, Open, From}
use Rattle.end.specs.declared.Slot.{Slot}
use Rattle.end.specs.declared.Slot.TheVariants.{Empty, Held, Waiting}
use Rattle.end.specs.declared.Record.{Record}
use Rattle.end.specs.declared.Source.{Source}
use Rattle.end.specs.declared.End.{End}
use Rattle.end.specs.declared.Moment.{Moment}
use Rattle.end.specs.declared.Says.{Says}
use Rattle.end.specs.declared.Says.TheVariants.{Data, Rqst, Repl, Xprs}
use Rattle.end.specs.declared.Word.{Word}
use Rattle.end.specs.declared.Reason.{Reason}
use Rattle.end.specs.declared.Reason.TheVariants.{NotOpen, BelowFirst, OwnAboveLast, AlreadyHeld, ReplyWaiting, ReplyQuiet, RequestQuiet}
use Rattle.end.specs.declared.Decision.{Decision}
use Rattle.end.specs.declared.Decision.TheVariants.{Ignores, Opens, Takes, Repairs, Hushes, Replies, Learns, BacksOff, Clashes, Expresses}
use Rattle.end.specs.State.{source_at, with_origin, on_source}
use Rattle.end.specs.Records.{is_above, record_at, is_held, is_no, reply_in}
use Rattle.end.specs.Round.{next_round}
use Rattle.end.specs.Names.{set_round, hold, set_reply, quiet_reply, keep_pair, rise, rise_by_data, open_at}
use Rattle.end.specs.Messages.{repair_message}
use Rattle.end.specs.Answer.{Effect, Out, Got, Done, Ignored, Clash, Step, give}

abbrev pub number : Word → ℕ
number w = w.name.number.0

-- what the reader has of the name
abbrev pub known : Word → Source → Record
known w s = record_at s (number w)

-- ---- what is decided

-- ignored for this reason where it holds; otherwise ..
abbrev pub unless : Bool → Reason → Decision → Decision
unless holds why otherwise = cond holds (Ignores why) otherwise

-- document 02, P4: "DATA and REPL messages counted as the same cue when their names agreed; now all 24 cue bytes must agree too."
unfoldable pub same_cue : List ℕ → List ℕ → Bool
same_cue [] [] = true
same_cue [] (b ∷ bs) = false
same_cue (a ∷ l) [] = false
same_cue (a ∷ l) (b ∷ bs) = eqb a b && same_cue l bs

-- of a cue that is held: this where the message has the same bytes; "with other bytes .. a new answer, Clash"
abbrev pub if_same : Word → Record → Decision → Decision
if_same w r decided = cond (same_cue w.cue r.cue) decided Clashes

-- "DATA: no first: first = last = the number, Got. Below first or held: Ignored. Otherwise hold it .."
unfoldable pub decide_data : Word → Record → Span → Decision
decide_data w r Closed = Opens
decide_data w r (Open first last) =
    unless (ltb (number w) first.0) BelowFirst
    (cond (is_held r.slot) (if_same w r (Ignores AlreadyHeld)) Takes)

-- "RQST: no first, below first, or own above last: Ignored." "REPL: Ignored as RQST's first line has it"
unfoldable pub reached : Moment → Word → Span → Decision → Decision
reached t w Closed otherwise = Ignores NotOpen
reached t w (Open first last) otherwise =
    unless (ltb (number w) first.0) BelowFirst
    (unless (same_host w.name.source t.me && ltb last.0 (number w)) OwnAboveLast otherwise)

-- "Held: with no reply waiting and clock ≥ reply-quiet, set a reply ..; otherwise Ignored."
unfoldable pub decide_reply : Moment → Reply → ℕ → Decision
decide_reply t reply quiet = unless (not (is_no reply)) ReplyWaiting (unless (ltb t.clock quiet) ReplyQuiet Replies)

-- "Not held up to last: clock above quiet-until .. sets the next round, Done; otherwise Ignored." A sound state has a request there
unfoldable pub decide_round : Moment → Slot → Decision
decide_round t Empty = Ignores RequestQuiet
decide_round t (Held reply) = Ignores RequestQuiet
decide_round t (Waiting q x) = unless (leb t.clock q.quiet) RequestQuiet (BacksOff q.round)

-- "Not held and above last: numbers between get round 1, this one round 2, last rises, Done."
unfoldable pub decide_request : Moment → Word → Record → Span → Decision
decide_request t w r x =
    cond (is_held r.slot) (decide_reply t (reply_in r.slot) r.hush)
    (cond (is_above x (number w)) Learns (decide_round t r.slot))

-- document 02, P8: "The named sender, if it holds the cue and clock ≥ reply-quiet, .. answers Out REPL in that call .. Otherwise it, like every
-- other end, treats kind 21 as RQST from its sender." A cue that is held has passed RQST's first line
abbrev pub at_once : Moment → Word → Record → Bool
at_once t w r = same_host w.host t.me && (is_held r.slot && leb r.hush t.clock)

unfoldable pub decide_express : Moment → Word → Record → Span → Decision
decide_express t w r x = cond (at_once t w r) Expresses (decide_request t w r x)

-- "REPL: .. Not held: as DATA, Got; held: Done."
unfoldable pub decide_repair : Word → Record → Decision
decide_repair w r = cond (is_held r.slot) (if_same w r Hushes) Repairs

-- of the source, only first and last and the name's record are looked at; what the word says is an argument of its own, so that
-- proofs go by its cases
unfoldable pub decide_as : Says → Moment → Word → Record → Span → Decision
decide_as Data t w r x = decide_data w r x
decide_as Rqst t w r x = reached t w x (decide_request t w r x)
decide_as Repl t w r x = reached t w x (decide_repair w r)
decide_as Xprs t w r x = reached t w x (decide_express t w r x)

abbrev pub decide : Moment → Word → Source → Decision
decide t w s = decide_as w.says t w (known w s) s.span

-- ---- what is done: a line for each decision

-- "if it is above last, each number between gets round 1 and last rises"
abbrev pub risen : Moment → List ℕ → Word → Source → Source
risen t us w s = rise t us (number w) s s.span

-- the same before a DATA, where an express wait may stand beside the request (document 02, P8)
abbrev pub risen_by_data : Moment → List ℕ → Word → Source → Source
risen_by_data t us w s = rise_by_data t us (number w) s s.span

-- a REPL answered Got or Done is kept as the source's pair, unless it named a lower number
abbrev pub paired : Word → Source → Source
paired w s = keep_pair w.requester w.sender w.name.number s

-- "no first: first = last = the number"; document 02, P9: the end keeps "that first original's number"
abbrev pub opened : Word → Source → Source
opened w s = with_origin (open_at (number w) s) (From w.name.number)

-- REPL: "Either way its waiting reply goes and reply-quiet = t + D3×d, d to the requester." P4: "apart from the clock nothing changes,
-- reply waits included". P8: the named sender "drops its waiting reply, sets reply-quiet as Fire does"
unfoldable pub apply : Moment → List ℕ → Word → Decision → Source → Source
apply t us w (Ignores why) s = s
apply t us w Opens s = hold (number w) w.cue (opened w s)
apply t us w Takes s = hold (number w) w.cue (risen_by_data t us w s)
apply t us w Repairs s = paired w (quiet_reply t (number w) w.distance (hold (number w) w.cue (risen t us w s)))
apply t us w Hushes s = paired w (quiet_reply t (number w) w.distance s)
apply t us w Replies s = set_reply t us (number w) w.distance w.requester s
apply t us w Learns s = set_round t us (number w) 2 (risen t us w s)
apply t us w (BacksOff k) s = set_round t us (number w) (next_round k) s
apply t us w Clashes s = s
apply t us w Expresses s = quiet_reply t (number w) w.distance s

-- "answers Out REPL in that call, with kind 21's sender as requester": the cue is the held one, of the record
unfoldable pub effect_of : Moment → Word → Record → Decision → Effect
effect_of t w r (Ignores why) = Ignored
effect_of t w r Opens = Got w.name w.cue
effect_of t w r Takes = Got w.name w.cue
effect_of t w r Repairs = Got w.name w.cue
effect_of t w r Hushes = Done
effect_of t w r Replies = Done
effect_of t w r Learns = Done
effect_of t w r (BacksOff k) = Done
effect_of t w r Clashes = Clash w.name
effect_of t w r Expresses = Out (bytes_of (repair_message t w.name w.requester r.cue))

-- ---- the step of one source, lifted to the end
abbrev pub step_by : Moment → List ℕ → Word → End → Decision → Step
step_by t us w e d = give (effect_of t w (known w (source_at e w.name.source)) d) (on_source e w.name.source (apply t us w d))

unfoldable pub step_at : Moment → List ℕ → Word → End → Step
step_at t us w e = step_by t us w e (decide t w (source_at e w.name.source))
