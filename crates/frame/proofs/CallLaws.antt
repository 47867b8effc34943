-- What a call gives, by its first no, the end's status and the event: it is taken, or it is not.
use mathlib.Core.Path.{◌≡◌, refl, sym, ap, ◌∙◌}
use mathlib.Core.Bool.{true, false, cond}
use mathlib.Core.List.{List}
use Prim.Native.Nat.{ℕ}
use lib.ListN.{length}
use lib.Dec.{eqb}
use borrow.Author.Tests.{eqb-true, eq-eqb, ne_eqb}
use Rattle.numbers.proofs.Cases.{by_flag}
use Rattle.message.specs.declared.Message.{Message}
use Rattle.message.specs.Message.{meaning_of}
use Rattle.end.specs.declared.Answer.TheVariants as answer
use Rattle.end.specs.declared.Event.{Event}
use Rattle.end.specs.declared.Stepped.{Stepped}
use Rattle.end.specs.declared.End.{End}
use Rattle.end.specs.State.{is_crashed, with_clock}
use Rattle.end.specs.Answer.{Effect, Out, Got, Done, Ignored, Nothing, Clash, Late, Exhausted, Step, give, Outcome, Refused, Did, Result, done, answer_of, called_of, buffer_of, answer_number, answer_values}
use Rattle.end.specs.Event.{Action, action_of, act_of, step_of, question_of, event_of, gives}
use Rattle.taking.specs.Taking.{reading_for, takes}
use Rattle.taking.proofs.ReadingLaws.{counts_as}
use Rattle.acting.specs.Acting.{acted, Acting}
use Rattle.frame.specs.Promise.{outcome_values, Promised}
use Rattle.frame.proofs.GivenLaws.{acts, rests, passed, acting}

-- ---- the answer alone
did_number : (x : Effect) → answer_number (answer_of (Did x)) ≡ 0
unfolding answer_of
did_number (Out bytes) = refl
did_number (Got name cue) = refl
did_number Done = refl
did_number Ignored = refl
did_number Nothing = refl
did_number (Clash name) = refl
did_number (Late name cue) = refl
did_number Exhausted = refl

values : (o : Outcome) → answer_values (answer_of o) ≡ outcome_values o
unfolding answer_of
values (Refused k) = refl
values (Did (Out bytes)) = refl
values (Did (Got name cue)) = refl
values (Did Done) = refl
values (Did Ignored) = refl
values (Did Nothing) = refl
values (Did (Clash name)) = refl
values (Did (Late name cue)) = refl
values (Did Exhausted) = refl

-- ---- a call
module _ (e : End) (what : Event) (cue bytes : List ℕ) (clock : ℕ) (draws out : List ℕ) where
  abbrev This : Action
  This = action_of what cue bytes

  -- the event that it counts as
  abbrev pub As : Event
  As = counts_as what bytes

  abbrev pub Asked : ℕ
  Asked = question_of e This clock (length out) (length draws)

  -- what the call promises of its result and of the output that it leaves
  abbrev pub Promise : Stepped → List ℕ → Type 0
  Promise = Promised e This clock draws out

  by_number : (q : ℕ) (step : Step) → answer_number (answer_of (cond (eqb q 0) (done step) (record { outcome = Refused q; left = e })).outcome) ≡ q
  unfolding answer_of
  by_number q step = by_flag (eqb q 0) (λ t. rw t (did_number step.effect ∙ sym (eqb-true q 0 t))) (λ t. rw t)

  number : answer_number (gives e This clock draws out).answer ≡ Asked
  unfolding event_of
  number = by_number Asked (step_of clock draws This e)

  promised : (x : Result) (r : Stepped) (last : List ℕ) → event_of e This clock (length out) draws ≡ x → r ≡ called_of x → last ≡ buffer_of x.outcome out → Promise r last
  promised x r last p q l =
      let same : r ≡ gives e This clock draws out = q ∙ sym (ap called_of p) in (
        same,
        (
          l ∙ sym (ap (λ (y : Result). buffer_of y.outcome out) p),
          (
            ap (λ (y : Stepped). answer_number y.answer) same ∙ number,
            ap (λ (y : Stepped). answer_values y.answer) same ∙ values (event_of e This clock (length out) draws).outcome,
          ),
        ),
      )

  -- a call that is refused
  pub refused : (q : ℕ) → q ≡ Asked → (q ≡ 0 → ⊥) → Promise (record { answer = answer.Refused q; end = e }) out
  unfolding event_of answer_of buffer_of
  refused q h n =
      promised (record { outcome = Refused Asked; left = e }) _ out (rw (ne_eqb Asked 0 (λ z. n (h ∙ z)))) (ap (λ (k : ℕ). record { answer = answer.Refused k; end = e }) h) refl

  -- one that is not, by whether the end is crashed and by what the event does
  module _ (h : Asked ≡ 0) where
    unrefused : event_of e This clock (length out) draws ≡ done (step_of clock draws This e)
    unfolding event_of
    unrefused = rw (eq-eqb Asked 0 h)

    pub crashed : is_crashed e.status ≡ true → Promise (record { answer = answer.Ignored; end = e }) out
    unfolding step_of answer_of buffer_of
    crashed x = promised (done (give Ignored e)) _ out (unrefused ∙ rw x) refl refl

    acted_as : is_crashed e.status ≡ false → event_of e This clock (length out) draws ≡ done (act_of draws This (with_clock e clock))
    unfolding step_of
    acted_as x = unrefused ∙ rw x

    pub rested : is_crashed e.status ≡ false → takes As e.status ≡ false → Promise (record { answer = answer.Ignored; end = with_clock e clock }) out
    unfolding answer_of buffer_of
    rested x t =
        promised (done (give Ignored (with_clock e clock))) _ out (acted_as x ∙ ap done (rests draws what cue bytes (with_clock e clock) t)) refl refl

    pub given : (message : Message) → message ≡ (reading_for what bytes).message → takes As e.status ≡ true
        → Acting As (with_clock e clock) message (length draws) (length out)
    given message p t = acting e what cue bytes message clock (length out) (length draws) p h t

    pub taken : (message : Message) (r : Stepped) (last : List ℕ) → message ≡ (reading_for what bytes).message → is_crashed e.status ≡ false
        → takes As e.status ≡ true → called_of (done (acted draws As cue (meaning_of message) (with_clock e clock))) ≡ r
        → last ≡ buffer_of (Did (acted draws As cue (meaning_of message) (with_clock e clock)).effect) out → Promise r last
    taken message r last p x t g l =
        let own = (passed e This clock (length out) (length draws) h).own in
        promised (done (acted draws As cue (meaning_of message) (with_clock e clock))) r last
        (acted_as x ∙ ap done (acts e clock cue bytes message draws what p own t)) (sym g) l
