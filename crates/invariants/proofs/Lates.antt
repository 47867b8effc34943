-- What a kind 22 and a kind 23 are answered, that what is handed out as Late is right, and that only a Fetch is answered "exhausted": the
-- statements of specs/Lates.antt.
use mathlib.Core.Path.{◌≡◌, refl, sym, ap, ◌∙◌}
use Prim.Native.Nat.{ℕ}
use native.Mathlib.Omega.{arith}
use mathlib.Core.Bool.{Bool, true, false}
use mathlib.Core.List.{List, [], ◌∷◌, ◌++◌}
use lib.ListN.{length, drop}
use lib.Dec.{eqb}
use borrow.Author.Tests.{eqb-true, eq-eqb}
use Rattle.message.specs.declared.Name.{Name}
use Rattle.message.specs.Message.{DATA, RQST, REPL, XPRS, FTCH, LATE, ANNC, Meaning, meaning_from}
use Rattle.message.specs.Question.{first_no, message_questions, same_host}
use Rattle.end.specs.declared.Slot.{Slot}
use Rattle.end.specs.declared.Slot.TheVariants.{Empty, Held, Waiting}
use Rattle.end.specs.Parts.{No, Due, Span, Closed, Open, Earliest, NoWait, First, Nearest, Nobody, Found}
use Rattle.end.specs.declared.Says.{Says}
use Rattle.end.specs.declared.Decision.{Decision}
use Rattle.end.specs.declared.Decision.TheVariants.{Ignores, Opens, Takes, Repairs, Hushes, Replies, Learns, BacksOff, Clashes, Expresses}
use Rattle.end.specs.declared.Says.TheVariants.{Data, Rqst, Repl, Xprs}
use Rattle.end.specs.declared.Moment.{Moment}
use Rattle.end.specs.declared.Move.{Move}
use Rattle.end.specs.declared.End.{End}
use Rattle.end.specs.State.{source_at, is_member, is_crashed, moment_of, with_clock}
use Rattle.end.specs.Records.{record_at}
use Rattle.end.specs.Answer.{Effect, Out, Got, Done, Ignored, Nothing, Clash, Late, Exhausted, Step, give, Outcome, Did, Result, done, buffer_of}
use Rattle.end.specs.Decide.{decide, effect_of, step_by, step_at}
use Rattle.end.specs.Session.{session_of}
use Rattle.end.specs.Arrival.{message_name, message_cue, word_of, word_step, message_step, arrival_of}
use Rattle.end.specs.Fire.{express_rank, earliest, fire_at, fired}
use Rattle.end.specs.Fetch.{may_fetch, nearest, try_of, fetch_of, may_answer, fetched_of, may_hand, late_of}
use Rattle.end.specs.Event.{Action, Moves, Send, Arrival, Else, Other, Fire, Report, Announce, Fetch, announced, moves, move_of, other_of, if_member, act_of, step_of}
use Rattle.end.specs.Event.{own_questions, question_of, event_of}
use Rattle.end.proofs.Tools.{by_cond, clash}
use Rattle.end.proofs.AttemptLaws.{tried-fetchable}
use Rattle.invariants.specs.Lates.{FromAnother, FetchAnswered, LateAnswered, RightLate, LateIsRight, ExhaustedByFetch}
use Rattle.invariants.proofs.Facts.{SoundState, facts}
use Rattle.invariants.proofs.Readings.{message_in_lem}
use Rattle.invariants.proofs.Ends.{clock-kept}
use Rattle.invariants.proofs.Moves.{member_not_crashed}
use Rattle.invariants.proofs.Fetches.{handed_in_lem, other-source}
use Rattle.invariants.proofs.Questions.{passes}

-- ---- most steps hand nothing out as Late, and are not answered "exhausted"
abbrev is_of_fetch : Effect → Bool
is_of_fetch (Out bytes) = false
is_of_fetch (Got name cue) = false
is_of_fetch Done = false
is_of_fetch Ignored = false
is_of_fetch Nothing = false
is_of_fetch (Clash name) = false
is_of_fetch (Late name cue) = true
is_of_fetch Exhausted = true

abbrev Prompt : Step → Type 0
Prompt r = is_of_fetch r.effect ≡ false

move-prompt : (m : Move) (e : End) → Prompt (move_of m e)
unfolding move_of
move-prompt m e = by_cond Prompt (moves m e.status) (λ _. refl) (λ _. refl)

module _ (us : List ℕ) (e : End) where
  decided_prompt : (says : Says) (m : Meaning) (d : Decision) → Prompt (step_by (moment_of e) us (word_of says m e) e d)
  unfolding effect_of
  decided_prompt says m (Ignores why) = refl
  decided_prompt says m Opens = refl
  decided_prompt says m Takes = refl
  decided_prompt says m Repairs = refl
  decided_prompt says m Hushes = refl
  decided_prompt says m Replies = refl
  decided_prompt says m Learns = refl
  decided_prompt says m (BacksOff k) = refl
  decided_prompt says m Clashes = refl
  decided_prompt says m Expresses = refl

  word_prompt : (says : Says) (m : Meaning) → Prompt (word_step us says m e)
  unfolding step_at
  word_prompt says m = decided_prompt says m (decide (moment_of e) (word_of says m e) (source_at e (message_name m).source))

  fire-prompt : (rank : ℕ) (name : Name) (x : Slot) → Prompt (fire_at us rank name e x)
  unfolding fire_at
  fire-prompt rank name Empty = refl
  fire-prompt rank name (Waiting q x) = by_cond Prompt (eqb rank express_rank) (λ _. refl) (λ _. refl)
  fire-prompt rank name (Held No) = refl
  fire-prompt rank name (Held (Due due k)) = refl

  fired-prompt : (x : Earliest) → Prompt (fired us e x)
  unfolding fired
  fired-prompt NoWait = refl
  fired-prompt (First w) = fire-prompt w.rank w.name (record_at (source_at e w.name.source) w.name.number.0).slot

  announced-prompt : (t : Moment) (x : Span) → Prompt (announced t x e)
  announced-prompt t Closed = refl
  announced-prompt t (Open first last) = refl

-- ---- what a step hands out as Late is right, and it is "exhausted" only by a Fetch
record Handed (e : End) (a : Action) (r : Step) : Type 0 where
  late : (name : Name) (cue : List ℕ) → r.effect ≡ Late name cue → RightLate e a name cue (Did (Late name cue))
  exhausted : r.effect ≡ Exhausted → (name : Name) × (a ≡ Else (Fetch name))

prompt-handed : (e : End) (a : Action) (r : Step) → Prompt r → Handed e a r
prompt-handed e a r s = record { late = λ name cue p. clash (sym (ap is_of_fetch p) ∙ s); exhausted = λ p. clash (sym (ap is_of_fetch p) ∙ s) }

module _ (us : List ℕ) (e : End) where
  try_handed : (name : Name) (x : Nearest) → Handed e (Else (Fetch name)) (try_of name e x)
  unfolding try_of
  try_handed name Nobody =
      record { late = λ name cue p. let z : ◌≡◌ {A = ℕ} 0 1 = cc in absurd (omega arith); exhausted = λ _. (name, refl) }
  try_handed name (Found h d) = prompt-handed e (Else (Fetch name)) _ refl

  other-handed : (o : Other) → Handed e (Else o) (other_of us o e)
  unfolding fetch_of
  other-handed Fire = prompt-handed e (Else Fire) _ (fired-prompt us e (earliest e 8))
  other-handed Report = prompt-handed e (Else Report) _ refl
  other-handed Announce = prompt-handed e (Else Announce) _ (announced-prompt us e (moment_of e) (source_at e e.host).span)
  other-handed (Fetch name) = by_cond (Handed e (Else (Fetch name))) (may_fetch e name)
      (λ _. try_handed name (nearest e name 8)) (λ _. prompt-handed e (Else (Fetch name)) _ refl)

module _ (us : List ℕ) (e : End) (f : SoundState e) (member : is_member e.status ≡ true) where
  module _ (b : ℕ) (s : List ℕ) (read : first_no (message_questions (b ∷ s)) ≡ 0) where
    abbrev m : Meaning
    m = meaning_from (b ∷ s)

    -- kind 23
    late-handed : same_host m.sender e.host ≡ false → eqb m.kind LATE ≡ true → Handed e (Arrival (b ∷ s)) (late_of m e)
    unfolding late_of buffer_of
    late-handed another k = by_cond (Handed e (Arrival (b ∷ s))) (may_hand e m)
        (λ t. record {
          late = λ name cue p.
              let v = message_in_lem (b ∷ s) read in
              let h = handed_in_lem e f m t in
              let same : message_name m ≡ name = cc in
              let bytes : message_cue m ≡ cue = cc in
              let may = tried-fetchable (source_at e (message_name m).source) (message_name m).number.0 m.sender.0 h.1 in
              rw (sym same, sym bytes)
              (record {
                bytes = b ∷ s;
                arrival = refl;
                member = member;
                another = another;
                kind = eqb-true m.kind LATE k;
                requester = h.0;
                named = refl;
                carried = refl;
                tried = h.1;
                once = h.2;
                other = other-source e f (message_name m) v.source may;
                below = may;
                long = v.long;
                output = λ out. ap (λ (n : ℕ). message_cue m ++ drop n out) v.long;
              });
          exhausted = λ p. let z : ◌≡◌ {A = ℕ} 0 1 = cc in absurd (omega arith);
        })
        (λ _. prompt-handed e (Arrival (b ∷ s)) (give Ignored e) refl)

    message-handed : same_host m.sender e.host ≡ false → Handed e (Arrival (b ∷ s)) (message_step us m e)
    unfolding message_step session_of fetched_of
    message-handed another =
        let H = Handed e (Arrival (b ∷ s)) in
        let word : (says : Says) → H (word_step us says m e) = λ says. prompt-handed e _ _ (word_prompt us e says m) in
        by_cond H (eqb m.kind DATA) (λ _. word Data)
        (λ _. by_cond H (eqb m.kind RQST) (λ _. word Rqst)
        (λ _. by_cond H (eqb m.kind REPL) (λ _. word Repl)
        (λ _. by_cond H (eqb m.kind XPRS) (λ _. word Xprs)
        (λ _. by_cond H (eqb m.kind FTCH)
        (λ _. by_cond H (may_answer e m) (λ _. prompt-handed e _ _ refl) (λ _. prompt-handed e _ _ refl))
        (λ _. by_cond H (eqb m.kind LATE) (late-handed another)
        (λ _. by_cond H (eqb m.kind ANNC) (λ _. prompt-handed e _ _ refl) (λ _. prompt-handed e _ _ refl)))))))

    arrival-handed : Handed e (Arrival (b ∷ s)) (arrival_of us m e)
    unfolding arrival_of
    arrival-handed = by_cond (Handed e (Arrival (b ∷ s))) (same_host m.sender e.host) (λ _. prompt-handed e _ _ refl) message-handed

-- ---- every event
module _ (us : List ℕ) (e : End) (t : ℕ) (f : SoundState (with_clock e t)) where
  now : End
  now = with_clock e t

  joined : (a : Action) (r : Step) → (is_member e.status ≡ true → Handed now a r) → Handed now a (if_member now r)
  unfolding now
  joined a r g = by_cond (Handed now a) (is_member e.status) g (λ _. prompt-handed now a _ refl)

  act_handed : (a : Action) → first_no (own_questions a e) ≡ 0 → Handed (with_clock e t) a (act_of us a (with_clock e t))
  unfolding act_of now
  act_handed (Moves m) own = prompt-handed now (Moves m) _ (move-prompt m now)
  act_handed (Send cue) own = joined (Send cue) _ (λ _. prompt-handed now (Send cue) _ refl)
  act_handed (Arrival []) own = joined (Arrival []) _ (λ _. prompt-handed now (Arrival []) _ refl)
  act_handed (Arrival (b ∷ s)) own = joined (Arrival (b ∷ s)) _ (λ member. arrival-handed us now f member b s own)
  act_handed (Else o) own = joined (Else o) _ (λ _. other-handed us now o)

-- the clock is no part of what is known of a fetch
late-clock : (e : End) (a : Action) (t : ℕ) (name : Name) (cue : List ℕ) (o : Outcome) → RightLate (with_clock e t) a name cue o → RightLate e a name cue o
late-clock e a t name cue o r = record {
  bytes = r.bytes;
  arrival = r.arrival;
  member = r.member;
  another = r.another;
  kind = r.kind;
  requester = r.requester;
  named = r.named;
  carried = r.carried;
  tried = r.tried;
  once = r.once;
  other = r.other;
  below = r.below;
  long = r.long;
  output = r.output;
}

-- a call by its cases: what is known of the step of one that is not refused, on an end that is not crashed
module _ (e : End) (a : Action) (clock room : ℕ) (draws : List ℕ) where
  step-handed : (P : Step → Type 0) → P (give Ignored e) → ((r : Step) → Handed (with_clock e clock) a r → P r)
      → eqb (question_of e a clock room (length draws)) 0 ≡ true → P (step_of clock draws a e)
  unfolding step_of
  step-handed P crashed acts t =
      let p = passes e a clock room (length draws) (eqb-true _ _ t) in
      by_cond P (is_crashed e.status) (λ _. crashed)
      (λ _. acts _ (act_handed draws e clock (clock-kept e clock (facts e p.sound) p.later p.ticks) a p.own))

pub late_is_right : LateIsRight
unfolding event_of
late_is_right e a clock room draws name cue =
    by_cond (λ (r : Result). r.outcome ≡ Did (Late name cue) → RightLate e a name cue r.outcome) (eqb (question_of e a clock room (length draws)) 0)
    (λ t o.
    let late : (step_of clock draws a e).effect ≡ Late name cue = cc in
    rw late
    (step-handed e a clock room draws (λ (r : Step). r.effect ≡ Late name cue → RightLate e a name cue (Did (Late name cue)))
    (λ n. let z : ◌≡◌ {A = ℕ} 0 1 = cc in absurd (omega arith))
    (λ r q n. late-clock e a clock name cue _ (q.late name cue n))
    t late))
    (λ _ o. let z : ◌≡◌ {A = ℕ} 0 1 = cc in absurd (omega arith))

pub exhausted_by_fetch : ExhaustedByFetch
unfolding event_of
exhausted_by_fetch e a clock room draws =
    by_cond (λ (r : Result). r.outcome ≡ Did Exhausted → (name : Name) × (a ≡ Else (Fetch name))) (eqb (question_of e a clock room (length draws)) 0)
    (λ t o.
    let exhausted : (step_of clock draws a e).effect ≡ Exhausted = cc in
    step-handed e a clock room draws (λ (r : Step). r.effect ≡ Exhausted → (name : Name) × (a ≡ Else (Fetch name)))
    (λ n. let z : ◌≡◌ {A = ℕ} 0 1 = cc in absurd (omega arith)) (λ r q n. q.exhausted n) t exhausted)
    (λ _ o. let z : ◌≡◌ {A = ℕ} 0 1 = cc in absurd (omega arith))

-- ---- the kinds 22 and 23, exactly

-- a message that is asked of a member, which is not its sender, is a step by its kind
module _ (e : End) (b : ℕ) (s : List ℕ) (clock room : ℕ) (draws : List ℕ) (asked : question_of e (Arrival (b ∷ s)) clock room (length draws) ≡ 0) where
  said-step : (kind : ℕ) → FromAnother e kind (meaning_from (b ∷ s))
      → event_of e (Arrival (b ∷ s)) clock room draws ≡ done (message_step draws (meaning_from (b ∷ s)) (with_clock e clock))
  unfolding event_of step_of act_of arrival_of
  said-step kind c =
      let none = eq-eqb (question_of e (Arrival (b ∷ s)) clock room (length draws)) 0 asked in
      rw (none, member_not_crashed e.status c.member, c.member, c.another)

pub fetch-answered : FetchAnswered
unfolding message_step fetched_of may_answer
fetch-answered e b s clock room draws asked c = said-step e b s clock room draws asked FTCH c ∙ rw c.said

pub late-answered : LateAnswered
unfolding message_step late_of may_hand
late-answered e b s clock room draws asked c = said-step e b s clock room draws asked LATE c ∙ rw c.said
