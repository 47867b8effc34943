-- What an event that is taken is given: the questions answered yes, and the reader's message, whose meaning is that of the bytes.
use mathlib.Core.Path.{◌≡◌, refl, sym, ap, subst, ◌∙◌}
use Prim.Native.Nat.{ℕ, ◌≤◌}
use native.Mathlib.Omega.{arith}
use mathlib.Core.Bool.{Bool, true, false, cond, not, ◌||◌}
use mathlib.Core.List.{List, [], ◌∷◌}
use lib.Dec.{leb, eqb, ltb}
use borrow.Author.Tests.{eqb-true, leb-true, ltb-true}
use Rattle.message.specs.declared.Message.{Message}
use Rattle.message.specs.Limit.{number_limit}
use Rattle.message.specs.Cue.{cue_in}
use Rattle.message.specs.Message.{Meaning, meaning_of}
use Rattle.message.specs.Question.{ask, first_no, ticks_in, read_questions, read_of}
use Rattle.message.proofs.QuestionLaws.{all-passed}
use Rattle.end.specs.declared.Event.{Event}
use Rattle.end.specs.declared.Event.TheVariants.{Moves, Send, Arrival, Fire, Report, Fetch, Announce}
use Rattle.end.specs.declared.End.{End}
use Rattle.end.specs.State.{is_member, with_clock}
use Rattle.end.specs.Sound.{sound_of}
use Rattle.end.specs.Answer.{Step, give, Ignored}
use Rattle.end.specs.Arrival.{arrival_of}
use Rattle.end.specs.Event as rules
use Rattle.end.specs.Event.{Action, action_of, act_of, if_member, own_questions, question_of}
use Rattle.state.specs.Settled.{Settled}
use Rattle.state.proofs.Settled.{settled}
use Rattle.taking.specs.Taking.{reading_for, takes}
use Rattle.taking.proofs.ReadingLaws.{heard, counts_as, message_arrives}
use Rattle.acting.specs.Acting.{acted, OwnGiven, Acting}

-- ---- an event's own questions
member_acts : (x : End) (step : Step) → is_member x.status ≡ true → if_member x step ≡ step
member_acts x step t = ap (λ (b : Bool). cond b step (give Ignored x)) t

-- of an arrival
arrival_acts : {message : Message} (us cue : List ℕ) (x : End) (bytes : List ℕ) → message ≡ (read_of bytes).message → first_no (read_questions bytes) ≡ 0
    → takes (counts_as Arrival bytes) x.status ≡ true
    → act_of us (rules.Arrival bytes) x ≡ acted us (counts_as Arrival bytes) cue (meaning_of message) x
unfolding act_of read_of
arrival_acts us cue x [] p h t = member_acts x _ t
arrival_acts {message} us cue x (b ∷ s) p h t =
    let heard_as : counts_as Arrival (b ∷ s) ≡ Arrival = message_arrives b s in
    member_acts x _ (sym (ap (λ (what : Event). takes what x.status) heard_as) ∙ t)
    ∙ ap (λ (M : Meaning). arrival_of us M x) (sym (heard b s message p h).means)
    ∙ sym (ap (λ (what : Event). acted us what cue (meaning_of message) x) heard_as)

arrival_rests : (us bytes : List ℕ) (x : End) → takes (counts_as Arrival bytes) x.status ≡ false → act_of us (rules.Arrival bytes) x ≡ give Ignored x
unfolding act_of read_of
arrival_rests us [] x t = rw t
arrival_rests us (b ∷ s) x t =
    let aside : is_member x.status ≡ false = sym (ap (λ (what : Event). takes what x.status) (message_arrives b s)) ∙ t in
    rw aside

arrival-given : {message : Message} (e : End) (bytes : List ℕ) → message ≡ (read_of bytes).message → first_no (read_questions bytes) ≡ 0
    → OwnGiven (counts_as Arrival bytes) e message
unfolding read_of
arrival-given e [] p h = tt
arrival-given {message} e (b ∷ s) p h =
    let w = heard b s message p h in
    subst (λ (what : Event). OwnGiven what e message) (sym (message_arrives b s)) (record { counts_in = w.counts_in; ranges_in = w.ranges_in })

module _ (e : End) (clock : ℕ) (cue bytes : List ℕ) (message : Message) where
  pub own-given : (what : Event) → message ≡ (reading_for what bytes).message → first_no (own_questions (action_of what cue bytes) e) ≡ 0
      → takes (counts_as what bytes) e.status ≡ true → OwnGiven (counts_as what bytes) (with_clock e clock) message
  own-given (Moves m) p h t = tt
  own-given Send p h t =
      let a6 = all-passed (cue_in cue) 6 (ask (not (is_member e.status) || ltb e.next number_limit) 7 ∷ []) (omega arith) h in
      let a7 = all-passed (not (is_member e.status) || ltb e.next number_limit) 7 [] (omega arith) a6.1 in
      ltb-true e.next number_limit (sym (ap (λ (b : Bool). not b || ltb e.next number_limit) t) ∙ a7.0)
  own-given Arrival p h t = arrival-given (with_clock e clock) bytes p h
  own-given Fire p h t = tt
  own-given Report p h t = tt
  own-given (Fetch name) p h t = tt
  own-given Announce p h t = tt

  -- what the rules do where the event is taken, and where it is not
  pub acts : (us : List ℕ) (what : Event) → message ≡ (reading_for what bytes).message → first_no (own_questions (action_of what cue bytes) e) ≡ 0
      → takes (counts_as what bytes) e.status ≡ true
      → act_of us (action_of what cue bytes) (with_clock e clock) ≡ acted us (counts_as what bytes) cue (meaning_of message) (with_clock e clock)
  unfolding act_of
  acts us (Moves m) p h t = refl
  acts us Send p h t = member_acts (with_clock e clock) _ t
  acts us Arrival p h t = arrival_acts us cue (with_clock e clock) bytes p h t
  acts us Fire p h t = member_acts (with_clock e clock) _ t
  acts us Report p h t = member_acts (with_clock e clock) _ t
  acts us (Fetch name) p h t = member_acts (with_clock e clock) _ t
  acts us Announce p h t = member_acts (with_clock e clock) _ t

pub rests : (us : List ℕ) (what : Event) (cue bytes : List ℕ) (x : End) → takes (counts_as what bytes) x.status ≡ false
    → act_of us (action_of what cue bytes) x ≡ give Ignored x
unfolding act_of
rests us (Moves m) cue bytes x t = cc
rests us Send cue bytes x t = rw t
rests us Arrival cue bytes x t = arrival_rests us bytes x t
rests us Fire cue bytes x t = rw t
rests us Report cue bytes x t = rw t
rests us (Fetch name) cue bytes x t = rw t
rests us Announce cue bytes x t = rw t

-- ---- the questions
-- what a call that is not refused has passed
pub record Passed (e : End) (a : Action) (clock room draws : ℕ) : Type 0 where
  pub room_in : 128 ≤ room
  pub draws_in : draws ≡ 64
  pub settled-then : Settled (with_clock e clock)
  pub own : first_no (own_questions a e) ≡ 0

pub passed : (e : End) (a : Action) (clock room draws : ℕ) → question_of e a clock room draws ≡ 0 → Passed e a clock room draws
unfolding question_of
passed e a clock room draws h =
    let own = own_questions a e in
    let q5 = ask (leb e.clock clock) 5 ∷ own in
    let q4 = ask (ticks_in clock) 4 ∷ q5 in
    let q3 = ask (sound_of e) 3 ∷ q4 in
    let q2 = ask (eqb draws 64) 2 ∷ q3 in
    let a1 = all-passed (leb 128 room) 1 q2 (omega arith) h in
    let a2 = all-passed (eqb draws 64) 2 q3 (omega arith) a1.1 in
    let a3 = all-passed (sound_of e) 3 q4 (omega arith) a2.1 in
    let a4 = all-passed (ticks_in clock) 4 q5 (omega arith) a3.1 in
    let a5 = all-passed (leb e.clock clock) 5 own (omega arith) a4.1 in
    record {
      room_in = leb-true 128 room a1.0;
      draws_in = eqb-true draws 64 a2.0;
      settled-then = settled e clock a3.0 (ltb-true clock 281474976710656 a4.0) (leb-true e.clock clock a5.0);
      own = a5.1;
    }

pub acting : (e : End) (what : Event) (cue bytes : List ℕ) (message : Message) (clock room draws : ℕ) → message ≡ (reading_for what bytes).message
    → question_of e (action_of what cue bytes) clock room draws ≡ 0 → takes (counts_as what bytes) e.status ≡ true
    → Acting (counts_as what bytes) (with_clock e clock) message draws room
acting e what cue bytes message clock room draws p h t =
    let w = passed e (action_of what cue bytes) clock room draws h in
    record { settled = w.settled-then; draws = w.draws_in; room = w.room_in; own = own-given e clock cue bytes message what p w.own t }
