-- A cue that an end hands out has its 24 bytes.
use mathlib.Core.Path.{◌≡◌, ap, ◌∙◌}
use mathlib.Core.List.{List, [], ◌∷◌}
use Prim.Native.Nat.{ℕ, zero, suc, ◌-◌, ◌≤◌, ◌<◌}
use native.Mathlib.Omega.{arith}
use lib.ListN.{length, get_or, drop, length-drop}
use lib.Seq.{length-take-le}
use lib.Dec.{eqb, lit≤}
use borrow.Author.Tests.{eqb-true}
use Rattle.message.specs.Section.{entries, section_from}
use Rattle.message.specs.Entry.{cue_of, blank_cue}
use Rattle.message.specs.Message.{DATA, RQST, REPL, XPRS, FTCH, LATE, ANNC, number_width, kind_byte, Meaning, meaning_with, meaning_from, size_from, from_cues}
use Rattle.message.specs.Question.{message_questions, same_host, first_no}
use Rattle.message.specs.declared.Name.{Name}
use Rattle.message.proofs.LayoutLaws.{cues-at, cues-count, at_cues, counts_with}
use Rattle.roundtrip.proofs.RoundTrip.{accepted}
use Rattle.end.specs.declared.End.{End}
use Rattle.end.specs.declared.Slot.{Slot}
use Rattle.end.specs.declared.Slot.TheVariants.{Empty, Held, Waiting}
use Rattle.end.specs.Parts.{No, Due, Earliest, NoWait, First, Nearest, Nobody, Found, Span, Closed, Open}
use Rattle.end.specs.declared.Says.{Says}
use Rattle.end.specs.declared.Says.TheVariants.{Data, Rqst, Repl, Xprs}
use Rattle.end.specs.declared.Moment.{Moment}
use Rattle.end.specs.declared.Record.{Record}
use Rattle.end.specs.declared.Word.{Word}
use Rattle.end.specs.declared.Decision.{Decision}
use Rattle.end.specs.declared.Decision.TheVariants.{Ignores, Opens, Takes, Repairs, Hushes, Replies, Learns, BacksOff, Clashes, Expresses}
use Rattle.end.specs.State.{source_at, is_member, is_crashed, moment_of, with_clock}
use Rattle.end.specs.Answer.{Class, PutsOut, HandsOut, HandsLate, Untouched, class_of, class_in, Step, Result}
use Rattle.end.specs.Decide.{decide, effect_of, step_at}
use Rattle.end.specs.Session.{session_of}
use Rattle.end.specs.Fetch.{may_fetch, nearest, try_of, fetch_of, may_answer, fetched_of, may_hand, late_of}
use Rattle.end.specs.Arrival.{message_cue, word_of, word_step, message_step, arrival_of}
use Rattle.end.specs.Fire.{express_rank, earliest, fire_at, fired}
use Rattle.end.specs.Event.{Action, Moves, Send, Arrival, Else, Fire, Report, Announce, Fetch, announced, moves, move_of, act_of, step_of, question_of, own_questions, event_of}
use Rattle.end.proofs.Tools.{by_cond}
use Rattle.end.proofs.Service.Frame.{passes}

-- ---- a cue that was read

first-cue : (n : ℕ) (t : List ℕ) → (0 < n → 24 ≤ length t) → 24 ≤ length (get_or (entries cue_of 24 n t) 0 blank_cue)
unfolding entries
first-cue zero t h = lit≤ tt
first-cue (suc n) t h = rw (length-take-le 24 t (h (omega arith))) (lit≤ tt)

cue_read : (s : List ℕ) → first_no (message_questions s) ≡ 0 → 24 ≤ length (message_cue (meaning_from s))
unfolding meaning_with section_from
cue_read s h =
    let size : size_from s ≡ length s = (accepted s h).size in
    let w : ℕ = number_width (kind_byte s) in
    let t = from_cues w s in
    let count : (counts_with w s).cues ≡ get_or t 0 0 = cues-count w s in
    let long : length t ≡ length s - at_cues w s = ap length (cues-at w s) ∙ length-drop (at_cues w s) s in
    first-cue (get_or t 0 0) (drop 1 t) (λ p. rw length-drop (omega (arith, size, count, long)))

-- ---- a cue that is handed out

-- what an answer's class has to show
abbrev pub Wide : Class → Type 0
Wide (PutsOut bytes) = Unit {0}
Wide (HandsOut name cue) = 24 ≤ length cue
Wide (HandsLate name cue) = 24 ≤ length cue
Wide Untouched = Unit {0}

abbrev WideStep : Step → Type 0
WideStep step = Wide (class_of step.effect)

wide_word : (t : Moment) (w : Word) (r : Record) → 24 ≤ length w.cue → (d : Decision) → Wide (class_of (effect_of t w r d))
unfolding effect_of
wide_word t w r h (Ignores why) = tt
wide_word t w r h Opens = h
wide_word t w r h Takes = h
wide_word t w r h Repairs = h
wide_word t w r h Hushes = tt
wide_word t w r h Replies = tt
wide_word t w r h Learns = tt
wide_word t w r h (BacksOff k) = tt
wide_word t w r h Clashes = tt
wide_word t w r h Expresses = tt

wide_message : (us : List ℕ) (m : Meaning) (e : End) → 24 ≤ length (message_cue m) → WideStep (message_step us m e)
unfolding message_step step_at fetched_of late_of session_of
wide_message us m e h =
    let word : (says : Says) → WideStep (word_step us says m e) =
    λ says. let w = word_of says m e in wide_word (moment_of e) w _ h (decide (moment_of e) w (source_at e w.name.source)) in
    by_cond WideStep (eqb m.kind DATA) (λ _. word Data)
    (λ _. by_cond WideStep (eqb m.kind RQST) (λ _. word Rqst)
    (λ _. by_cond WideStep (eqb m.kind REPL) (λ _. word Repl)
    (λ _. by_cond WideStep (eqb m.kind XPRS) (λ _. word Xprs)
    (λ _. by_cond WideStep (eqb m.kind FTCH) (λ _. by_cond WideStep (may_answer e m) (λ _. tt) (λ _. tt))
    (λ _. by_cond WideStep (eqb m.kind LATE) (λ _. by_cond WideStep (may_hand e m) (λ _. h) (λ _. tt))
    (λ _. by_cond WideStep (eqb m.kind ANNC) (λ _. tt) (λ _. tt)))))))

wide_fire : (us : List ℕ) (rank : ℕ) (name : Name) (e : End) (slot : Slot) → WideStep (fire_at us rank name e slot)
unfolding fire_at
wide_fire us rank name e Empty = tt
wide_fire us rank name e (Waiting q x) = by_cond WideStep (eqb rank express_rank) (λ _. tt) (λ _. tt)
wide_fire us rank name e (Held No) = tt
wide_fire us rank name e (Held (Due due requester)) = tt

wide_fired : (us : List ℕ) (e : End) (first : Earliest) → WideStep (fired us e first)
unfolding fired
wide_fired us e NoWait = tt
wide_fired us e (First w) = wide_fire us w.rank w.name e _

wide_try : (name : Name) (e : End) (found : Nearest) → WideStep (try_of name e found)
unfolding try_of
wide_try name e Nobody = tt
wide_try name e (Found h d) = tt

wide_announced : (t : Moment) (x : Span) (e : End) → WideStep (announced t x e)
wide_announced t Closed e = tt
wide_announced t (Open first last) e = tt

wide_act : (us : List ℕ) (a : Action) (was e : End) → first_no (own_questions a was) ≡ 0 → WideStep (act_of us a e)
unfolding act_of move_of arrival_of fetch_of
wide_act us (Moves m) was e h = by_cond WideStep (moves m e.status) (λ _. tt) (λ _. tt)
wide_act us (Send cue) was e h = by_cond WideStep (is_member e.status) (λ _. tt) (λ _. tt)
wide_act us (Arrival []) was e h = by_cond WideStep (is_member e.status) (λ _. tt) (λ _. tt)
wide_act us (Arrival (b ∷ s)) was e h =
    let m = meaning_from (b ∷ s) in
    by_cond WideStep (is_member e.status)
    (λ _. by_cond WideStep (same_host m.sender e.host) (λ _. tt) (λ _. wide_message us m e (cue_read (b ∷ s) h)))
    (λ _. tt)
wide_act us (Else Fire) was e h = by_cond WideStep (is_member e.status) (λ _. wide_fired us e (earliest e 8)) (λ _. tt)
wide_act us (Else Report) was e h = by_cond WideStep (is_member e.status) (λ _. tt) (λ _. tt)
wide_act us (Else Announce) was e h =
    by_cond WideStep (is_member e.status) (λ _. wide_announced (moment_of e) (source_at e e.host).span e) (λ _. tt)
wide_act us (Else (Fetch name)) was e h =
    by_cond WideStep (is_member e.status)
    (λ _. by_cond WideStep (may_fetch e name) (λ _. wide_try name e (nearest e name 8)) (λ _. tt))
    (λ _. tt)

pub wide : (e : End) (a : Action) (clock room : ℕ) (draws : List ℕ) → Wide (class_in (event_of e a clock room draws).outcome)
unfolding event_of step_of
wide e a clock room draws =
    let q = question_of e a clock room (length draws) in
    by_cond (λ (r : Result). Wide (class_in r.outcome)) (eqb q 0)
    (λ t. by_cond WideStep (is_crashed e.status) (λ _. tt) (λ _. wide_act draws a e (with_clock e clock) (passes e a clock room (length draws) (eqb-true q 0 t)).own))
    (λ _. tt)
