-- From what a call promises of the display that the bytes hold to what it promises of the bytes.
use mathlib.Core.Path.{◌≡◌, refl, sym, ap, ◌∙◌}
use Prim.Native.Nat.{ℕ, ◌≤◌, ◌<◌}
use native.Mathlib.Omega.{arith}
use mathlib.Core.Bool.{Bool, true, false, and-false}
use mathlib.Core.List.{List, [], ◌∷◌, ◌++◌}
use lib.ListN.{length, drop, set}
use lib.Dec.{leb, eqb}
use borrow.Author.Tests.{eq-eqb, ne_eqb, le-leb, lt-leb}
use Rattle.message.specs.Limit.{room_needed}
use Rattle.message.specs.declared.Host.{Host}
use Rattle.message.specs.Question.{refusal_of}
use Rattle.end.specs.declared.Answer.{Answer}
use Rattle.end.specs.Answer.{Effect, Out, Got, Done, Ignored, Nothing, Clash, Late, Exhausted, Outcome, Refused, Did, answer_of, buffer_of}
use Rattle.display.specs.declared.Display.{Display}
use Rattle.display.specs.declared.Shown.{Shown}
use Rattle.display.specs.declared.OpenedDisplay.{OpenedDisplay}
use Rattle.display.specs.Display.{opening_of, with_clock}
use Rattle.display.specs.Call.{Event, Hear, question_of, act_of, event_of, gives, leaves}
use Rattle.lent_answer.specs.Number.{NONE, host_of, number_of, is_refused}
use Rattle.lent_display.specs.Bytes.{display_bytes, display_from, is_display, Holds}
use Rattle.lent_display.specs.Call.{lost_numbers, hear_room, result_of, goes, call_number, call_state, call_lost, call_out, Called, CallIs, HearIs, hear_lost}
use Rattle.lent_display.specs.Call.{opened_for, open_number, open_state, OpenIs, look}

-- ---- a refusal
did_not : (e : Effect) → is_refused (answer_of (Did e)) ≡ false
unfolding answer_of
did_not (Out bytes) = refl
did_not (Got name cue) = refl
did_not Done = refl
did_not Ignored = refl
did_not Nothing = refl
did_not (Clash name) = refl
did_not (Late name cue) = refl
did_not Exhausted = refl

both_ways_lem : {b : Bool} → b ≡ true → b ≡ false → ⊥
both_ways_lem p q = let z : ◌≡◌ {A = ℕ} 0 1 = cc in absurd (omega arith)

-- it writes nothing
refused_buffer : (o : Outcome) (out : List ℕ) → is_refused (answer_of o) ≡ true → buffer_of o out ≡ out
unfolding buffer_of
refused_buffer (Refused k) out h = refl
refused_buffer (Did e) out h = absurd (both_ways_lem h (did_not e))

module _ (d : Display) (ev : Event) (clock room : ℕ) where
  -- and leaves the display as it was
  pub refused-left : is_refused (answer_of (event_of d ev clock room).outcome) ≡ true → (event_of d ev clock room).left ≡ d
  unfolding event_of
  refused-left h = go (eqb (question_of d ev clock room) 0) refl h
    where
      go : (b : Bool) → eqb (question_of d ev clock room) 0 ≡ b → is_refused (answer_of (event_of d ev clock room).outcome) ≡ true
          → (event_of d ev clock room).left ≡ d
      go true e h = absurd (both_ways_lem (rw e at h) (did_not (act_of ev (with_clock d clock)).effect))
      go false e h = rw e

  -- question 1
  room-refused : leb room_needed room ≡ false → is_refused (answer_of (event_of d ev clock room).outcome) ≡ true
  unfolding event_of question_of answer_of
  room-refused h = rw h

-- ---- on bytes that are a display's
module _ (ev : Event) (clock : ℕ) (s out out' : List ℕ) (d : Display) (r : Shown) (p : d ≡ display_from s) (q : r ≡ gives d ev clock out)
    (w : out' ≡ leaves d ev clock out) (k : is_display s ≡ true) where
  same : r ≡ gives (display_from s) ev clock out
  same = q ∙ ap (λ (x : Display). gives x ev clock out) p

  same_answer : r.answer ≡ answer_of (result_of ev clock (length out) s).outcome
  same_answer = ap (λ (x : Shown). x.answer) same

  same_out : out' ≡ buffer_of (result_of ev clock (length out) s).outcome out
  same_out = w ∙ ap (λ (x : Display). leaves x ev clock out) p

  module _ (t : Bool) (h : t ≡ is_refused r.answer) where
    is : (b : Bool) → t ≡ b → is_refused (answer_of (result_of ev clock (length out) s).outcome) ≡ b
    is b g = ap is_refused (sym same_answer) ∙ sym h ∙ g

    pub refused : t ≡ true → Called ev clock s s out out' r.answer
    unfolding goes call_state call_out
    refused g =
        let no = is true g in
        record {
          answered = same_answer;
          written = rw (k, no);
          output = rw (k, no) (same_out ∙ refused_buffer (result_of ev clock (length out) s).outcome out no);
          tested = k;
          held = sym (refused-left (display_from s) ev clock (length out) no);
        }

    pub refused-lost : (lost : List ℕ) → t ≡ true → Called ev clock s s out out' r.answer × (lost ≡ call_lost ev clock (length out) s lost)
    unfolding goes call_lost
    refused-lost lost g = (refused g, rw (k, is true g))

    pub moved : (last : List ℕ) → t ≡ false → Holds last r.display → Called ev clock s last out out' r.answer
    unfolding goes call_state call_out
    moved last g l =
        let yes = is false g in
        let left : r.display ≡ (result_of ev clock (length out) s).left = ap (λ (x : Shown). x.display) same in
        record {
          answered = same_answer;
          written = rw (k, yes) (l.bytes ∙ ap display_bytes left);
          output = rw (k, yes) same_out;
          tested = l.tested;
          held = l.reads ∙ left;
        }

    pub moved-lost : (last lost lost' : List ℕ) → t ≡ false → Holds last r.display → lost' ≡ lost_numbers r.lost ++ drop 4 lost
        → Called ev clock s last out out' r.answer × (lost' ≡ call_lost ev clock (length out) s lost)
    unfolding goes call_lost
    moved-lost last lost lost' g l e = (moved last g l, rw (k, is false g) (e ∙ ap (λ (x : Shown). lost_numbers x.lost ++ drop 4 lost) same))

-- ---- the questions in their order
module _ (ev : Event) (clock room : ℕ) (s : List ℕ) where
  stays : is_refused (answer_of (result_of ev clock room s).outcome) ≡ true → goes ev clock room s ≡ false
  unfolding goes
  stays h = rw h (and-false (is_display s))

  module _ (h : room < 128) where
    no : is_refused (answer_of (result_of ev clock room s).outcome) ≡ true
    no = room-refused (display_from s) ev clock room (lt-leb 128 room h)

    pub no_room : (out : List ℕ) → CallIs ev clock room s s out out 1
    unfolding call_number call_state call_out
    no_room out = record {
      number = rw (lt-leb 128 room h);
      state = rw (stays no);
      output = rw (stays no);
      kept = λ k. k;
      reads = λ k. sym (refused-left (display_from s) ev clock room no);
    }

    pub no_room_lost : (lost : List ℕ) → lost ≡ call_lost ev clock room s lost
    unfolding call_lost
    no_room_lost lost = rw (stays no)

  module _ (h : 128 ≤ room) (ok : Bool) (t : ok ≡ is_display s) where
    module _ (f : ok ≡ false) where
      none-there : is_display s ≡ false
      none-there = sym t ∙ f

      pub no_display : (out : List ℕ) → CallIs ev clock room s s out out 3
      unfolding call_number call_state call_out goes
      no_display out =
          let e = none-there in
          record {
            number = rw (le-leb 128 room h, e);
            state = rw e;
            output = rw e;
            kept = λ k. k;
            reads = λ k. absurd (both_ways_lem k e);
          }

      pub no_display_lost : (lost : List ℕ) → lost ≡ call_lost ev clock room s lost
      unfolding call_lost goes
      no_display_lost lost = let e = none-there in rw e

    pub on_display : {out out' s' : List ℕ} {answer : Answer} {n : ℕ} → ok ≡ true → room ≡ length out → Called ev clock s s' out out' answer
        → n ≡ number_of answer → CallIs ev clock room s s' out out' n
    unfolding call_number
    on_display f e c m =
        let k : is_display s ≡ true = sym t ∙ f in
        let z : leb 128 room ≡ true = le-leb 128 room h in
        rw e record {
          number = rw (rw e at z, k) (m ∙ ap number_of c.answered);
          state = c.written;
          output = c.output;
          kept = λ y. c.tested;
          reads = λ y. c.held;
        }

  -- on a display's bytes the number is that of the answer on the display, whatever the room
  pub number-told : is_display s ≡ true → call_number ev clock room s ≡ number_of (answer_of (result_of ev clock room s).outcome)
  unfolding call_number event_of question_of answer_of
  number-told k = go (leb room_needed room) refl
    where
      go : (b : Bool) → leb room_needed room ≡ b → call_number ev clock room s ≡ number_of (answer_of (result_of ev clock room s).outcome)
      go true e = rw (e, k)
      go false e = rw e

-- the room that hear is asked about
module _ (lost out : List ℕ) where
  pub room_out : length out < 128 → hear_room lost out < 128
  room_out h = go (leb 4 (length lost)) refl
    where
      go : (b : Bool) → leb 4 (length lost) ≡ b → hear_room lost out < 128
      go true e = rw e h
      go false e = rw e (omega arith)

  pub room-lost : length lost < 4 → hear_room lost out < 128
  room-lost h = rw (lt-leb 4 (length lost) h) (omega arith)

  pub room_both : 4 ≤ length lost → hear_room lost out ≡ length out
  room_both h = rw (le-leb 4 (length lost) h)

lost_in_lem : (ev : Event) (clock room : ℕ) (s lost last out : List ℕ) → room ≡ length out → last ≡ call_lost ev clock (length out) s lost
    → last ≡ call_lost ev clock room s lost
lost_in_lem ev clock room s lost last out e h = rw e h

-- the three ways that hear goes
module _ (bytes : List ℕ) (clock : ℕ) (s lost out : List ℕ) where
  abbrev Heard : List ℕ → List ℕ → List ℕ → ℕ → Type 0
  Heard s' lost' out' n = HearIs bytes clock lost s s' out out' n × (lost' ≡ hear_lost bytes clock lost s out)

  pub hear_short : hear_room lost out < 128 → Heard s lost out 1
  hear_short h = (no_room (Hear bytes) clock _ s h out, no_room_lost (Hear bytes) clock _ s h lost)

  module _ (h : 128 ≤ length out) (g : 4 ≤ length lost) (ok : Bool) (t : ok ≡ is_display s) where
    long : 128 ≤ hear_room lost out
    long = omega (arith, room_both lost out g)

    pub hear-none : ok ≡ false → Heard s lost out 3
    hear-none f = (no_display (Hear bytes) clock _ s long ok t f out, no_display_lost (Hear bytes) clock _ s long ok t f lost)

    pub hear-on : {s' lost' out' : List ℕ} {answer : Answer} {n : ℕ} → ok ≡ true
        → Called (Hear bytes) clock s s' out out' answer × (lost' ≡ call_lost (Hear bytes) clock (length out) s lost)
        → n ≡ number_of answer → Heard s' lost' out' n
    hear-on {lost' = lost'} f c m =
        let room = room_both lost out g in
        (on_display (Hear bytes) clock _ s long ok t f room c.0 m, lost_in_lem (Hear bytes) clock _ s lost lost' out room c.1)

-- ---- the lost numbers
pub four-set : (l : List ℕ) (a b c d : ℕ) → 4 ≤ length l → set (set (set (set l 0 a) 1 b) 2 c) 3 d ≡ a ∷ b ∷ c ∷ d ∷ drop 4 l
four-set [] a b c d h = absurd (omega arith)
four-set (w ∷ []) a b c d h = absurd (omega arith)
four-set (w ∷ x ∷ []) a b c d h = absurd (omega arith)
four-set (w ∷ x ∷ y ∷ []) a b c d h = absurd (omega arith)
four-set (w ∷ x ∷ y ∷ z ∷ l) a b c d h = refl

-- ---- opening
three-not : ◌≡◌ {A = ℕ} 3 0 → ⊥
three-not e = absurd (omega (arith, e))

pub open_short : (own sender : ℕ) (s : List ℕ) → (length s ≡ 25 → ⊥) → OpenIs own sender s s 3
unfolding open_number open_state
open_short own sender s h =
    let e : eqb (length s) 25 ≡ false = ne_eqb (length s) 25 h in
    record { number = rw e; state = rw e; kept = λ z. absurd (three-not z); reads = λ z. absurd (three-not z) }

module _ (own sender : ℕ) (s : List ℕ) (a b : Host) (o : OpenedDisplay) (q : ℕ) (g : length s ≡ 25) (ae : a ≡ host_of own) (be : b ≡ host_of sender)
    (oe : o ≡ opening_of a b) (qe : q ≡ refusal_of o.verdict) where
  opened : o ≡ opened_for own sender
  opened = oe ∙ (λ i. opening_of (ae i) (be i))

  open_number_lem : q ≡ open_number own sender s
  unfolding open_number
  open_number_lem = rw (eq-eqb (length s) 25 g) (qe ∙ ap (λ (x : OpenedDisplay). refusal_of x.verdict) opened)

  pub open_refused : (q ≡ 0 → ⊥) → OpenIs own sender s s q
  unfolding open_state
  open_refused not-zero =
      let e : eqb (open_number own sender s) 0 ≡ false = ap (λ (n : ℕ). eqb n 0) (sym open_number_lem) ∙ ne_eqb q 0 not-zero in
      record { number = open_number_lem; state = rw e; kept = λ z. absurd (not-zero z); reads = λ z. absurd (not-zero z) }

  pub open_taken : (last : List ℕ) → q ≡ 0 → Holds last o.display → OpenIs own sender s last 0
  unfolding open_state
  open_taken last z l =
      let n : 0 ≡ open_number own sender s = sym z ∙ open_number_lem in
      record {
        number = n;
        state = rw (← n) (l.bytes ∙ ap (λ (x : OpenedDisplay). display_bytes x.display) opened);
        kept = λ y. l.tested;
        reads = λ y. l.reads ∙ ap (λ (x : OpenedDisplay). x.display) opened;
      }

-- ---- looks
module _ (f : Display → ℕ) (s : List ℕ) (ok : Bool) (t : ok ≡ is_display s) where
  pub look_none : ok ≡ false → NONE ≡ look f s
  look_none h =
      let e : is_display s ≡ false = sym t ∙ h in
      rw e

  pub look_is : (d : Display) (v : ℕ) → ok ≡ true → d ≡ display_from s → v ≡ f d → v ≡ look f s
  look_is d v h p q =
      let e : is_display s ≡ true = sym t ∙ h in
      rw e (q ∙ ap f p)
