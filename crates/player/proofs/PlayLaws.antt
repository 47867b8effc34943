-- What a line gives, from what its call returned and what was made of that.
use mathlib.Core.Path.{◌≡◌, refl, sym, ap, ◌∙◌, subst}
use mathlib.Core.Bool.{Bool, true, false, cond}
use mathlib.Core.List.{List, [], ◌∷◌, ◌++◌}
use Prim.Native.Nat.{ℕ, suc, ◌+◌, ◌*◌, ◌-◌, ◌≤◌, ◌<◌, min}
use native.Mathlib.Nat.{min-eq_left}
use native.Mathlib.Numerals.{add-one}
use native.Mathlib.Omega.{arith}
use lib.ListN.{length, get_or, take, drop, replicate, length-append}
use lib.Seq.{take_at, take-append-le}
use lib.Dec.{ltb}
use borrow.Author.Tests.{ltb-true, lt-ltb, le-ltb}
use Rattle.numbers.specs.Number.{value}
use Rattle.numbers.specs.Signed.{signed}
use Rattle.end.specs.declared.Answer.{Answer}
use Rattle.end.specs.declared.Answer.TheVariants as answer
use Rattle.end.specs.declared.End.{End}
use Rattle.end.specs.declared.Stepped.{Stepped}
use Rattle.end.specs.declared.Why.{Why}
use Rattle.end.specs.declared.Why.TheVariants as why
use Rattle.end.specs.Why.{why_of}
use Rattle.end.specs.Answer.{Out, Got, Done, Ignored, Nothing, Clash, Late, Exhausted}
use Rattle.end.specs.Event.{Action, Arrival, event_of}
use Rattle.end.specs.Answer.{Outcome, Refused, Did, Result}
use Rattle.end.specs.Answer.{class_in, answer_of, called_of, buffer_of}
use Rattle.script.specs.declared.Verb.{Verb}
use Rattle.script.specs.declared.Verb.TheVariants as verb
use Rattle.answers.specs.declared.Shown.{Shown}
use Rattle.answers.specs.declared.Shown.TheVariants as shown
use Rattle.store.specs.declared.Store.{Store}
use Rattle.store.specs.Store.{most, room, message_in, first_messages, kept}
use Rattle.store.proofs.StoreLaws.{length-first, first-at}
use Rattle.player.specs.declared.Played.{Played}
use Rattle.player.specs.Play.{Printed, Bad, Shows, draws, event_for, heard_number, is_known, Turn, turn_of, result_of, played_of, shows, stops}
use Rattle.player.specs.Explain.{with_reason, explained, why_for}
use Rattle.player.specs.Promise.{Plays, Tells, printed_for, messages_for, InOutput}
use Rattle.player.proofs.CueLaws.{Wide, wide}

-- ---- the message that is heard

-- a known message is in one of the 64 places
pub known-place : (v : Verb) (k : ℕ) → is_known v k ≡ true → k ≤ most → heard_number v < most
known-place verb.Join k h l = omega arith
known-place verb.Joined k h l = omega arith
known-place verb.Leave k h l = omega arith
known-place verb.Left k h l = omega arith
known-place verb.Crash k h l = omega arith
known-place (verb.Send focus) k h l = omega arith
known-place (verb.Hear n) k h l = omega (arith, ltb-true n k h)
known-place verb.Fire k h l = omega arith
known-place verb.Report k h l = omega arith

-- the event, with the message from its place
event-known : (v : Verb) (places lengths : List ℕ) (k : ℕ) → is_known v k ≡ true
    → event_for v (message_in places lengths (heard_number v)) ≡ event_for v (get_or (first_messages places lengths k) (heard_number v) [])
event-known verb.Join places lengths k h = refl
event-known verb.Joined places lengths k h = refl
event-known verb.Leave places lengths k h = refl
event-known verb.Left places lengths k h = refl
event-known verb.Crash places lengths k h = refl
event-known (verb.Send focus) places lengths k h = refl
event-known (verb.Hear n) places lengths k h = ap Arrival (sym (first-at places lengths k n (ltb-true n k h)))
event-known verb.Fire places lengths k h = refl
event-known verb.Report places lengths k h = refl

-- ---- what an answer tells

in_buffer : (o : Outcome) (output : List ℕ) → InOutput (answer_of o) (buffer_of o output)
unfolding InOutput answer_of buffer_of
in_buffer (Refused k) output = tt
in_buffer (Did (Out bytes)) output = rw length-append (omega arith)
in_buffer (Did (Got name cue)) output = tt
in_buffer (Did Done) output = tt
in_buffer (Did Ignored) output = tt
in_buffer (Did Nothing) output = tt
in_buffer (Did (Clash name)) output = tt
in_buffer (Did (Late name cue)) output = tt
in_buffer (Did Exhausted) output = tt

-- how many messages are kept, where each has a place
length-kept : (s : Store) → s.count ≤ most → length (kept s) ≡ s.count
length-kept s h = length-first s.places s.lengths (min s.count most) ∙ min-eq_left h

-- an answer that puts nothing out
pub tells : {w : Why} {a b : Answer} {p : Printed} {output : List ℕ} {s : Store} → a ≡ b → p ≡ explained w (printed_for b output s.count)
    → ((ms : List (List ℕ)) → messages_for b output ms ≡ ms) → Tells w a output s s p
tells {w} {a} {b} {p} {output} {s} is q m =
    record {
      printed = q ∙ ap (λ (x : Answer). explained w (printed_for x output s.count)) (sym is);
      messages = sym (m (kept s)) ∙ ap (λ (x : Answer). messages_for x output (kept s)) (sym is);
    }

-- an answer that puts a message out has no reason
out_as_is : (w : Why) (there : Bool) (count : ℕ) → cond there (Shows (shown.Out count)) Bad ≡ explained w (cond there (Shows (shown.Out count)) Bad)
out_as_is w true count = refl
out_as_is w false count = refl

pub tells-out : {w : Why} {a : Answer} {n : ℕ} {output : List ℕ} {s after : Store} {r : Printed} → a ≡ answer.Out n
    → Tells why.NoReason (answer.Out n) output s after r → Tells w a output s after r
unfolding printed_for
tells-out {w} {a} {n} {output} {s} {after} {r} e t =
    let here = ltb s.count most in
    subst (λ (x : Answer). Tells w x output s after r) (sym e)
    (record { printed = t.printed ∙ sym (out_as_is why.NoReason here s.count) ∙ out_as_is w here s.count; messages = t.messages })

pub out-there : {a : Answer} {n : ℕ} (output : List ℕ) → a ≡ answer.Out n → InOutput a output → n ≤ length output
unfolding InOutput
out-there {a} {n} output e h = subst (λ (x : Answer). InOutput x output) e h

-- a message that is put out
module _ (n : ℕ) (output : List ℕ) (s : Store) (few : s.count ≤ most) where
  abbrev out : Answer
  out = answer.Out n

  pub put-kept : (after : Store) → s.count < most → kept after ≡ kept s ++ (take n output ∷ []) → Tells why.NoReason out output s after (Shows (shown.Out s.count))
  unfolding printed_for messages_for
  put-kept after h e =
      let t : ltb s.count most ≡ true = lt-ltb s.count most h in
      let l : ltb (length (kept s)) most ≡ true = ap (λ (x : ℕ). ltb x most) (length-kept s few) ∙ t in
      record { printed = rw t; messages = rw l e }

  pub put_beyond : most ≤ s.count → Tells why.NoReason out output s s Bad
  unfolding printed_for messages_for
  put_beyond h =
      let t : ltb s.count most ≡ false = le-ltb s.count most h in
      let l : ltb (length (kept s)) most ≡ false = ap (λ (x : ℕ). ltb x most) (length-kept s few) ∙ t in
      record { printed = rw t; messages = rw l }

-- ---- the turn of an outcome, by the answer and the output

pub record TurnFor (o : Outcome) (e : End) (output : List ℕ) (ms : List (List ℕ)) : Type 0 where
  pub printed : printed_for (answer_of o) (buffer_of o output) (length ms) ≡ (turn_of o e ms).printed
  pub messages : messages_for (answer_of o) (buffer_of o output) ms ≡ (turn_of o e ms).messages
  pub left : e ≡ (turn_of o e ms).left

out-turn : (b : Bool) (e : End) (ms : List (List ℕ)) (bytes output : List ℕ)
    → let turn = cond b (shows (shown.Out (length ms)) e (ms ++ (bytes ∷ []))) (stops e ms) in
    (cond b (Shows (shown.Out (length ms))) Bad ≡ turn.printed)
    × ((cond b (ms ++ (take (length bytes) (bytes ++ output) ∷ [])) ms ≡ turn.messages) × (e ≡ turn.left))
out-turn true e ms bytes output = (refl, (ap (λ (x : List ℕ). ms ++ (x ∷ [])) (take_at bytes output (length bytes) refl), refl))
out-turn false e ms bytes output = (refl, (refl, refl))

-- the focus stands in the first two bytes of a cue that was handed out
focus_read : (cue output : List ℕ) → 24 ≤ length cue → take 2 (cue ++ drop (length cue) output) ≡ take 2 cue
focus_read cue output w = take-append-le 2 cue (drop (length cue) output) (omega (arith, w))

turn_for : (o : Outcome) (e : End) (output : List ℕ) (ms : List (List ℕ)) → Wide (class_in o) → TurnFor o e output ms
unfolding printed_for messages_for answer_of buffer_of turn_of
turn_for (Refused k) e output ms w = record { printed = refl; messages = refl; left = refl }
turn_for (Did (Out bytes)) e output ms w =
    let t = out-turn (ltb (length ms) most) e ms bytes (drop (length bytes) output) in
    record { printed = t.0; messages = t.1.0; left = t.1.1 }
turn_for (Did (Got name cue)) e output ms w =
    let says : List ℕ → Printed = λ x. Shows (shown.Got name (signed (value x))) in
    record { printed = ap says (focus_read cue output w); messages = refl; left = refl }
turn_for (Did Done) e output ms w = record { printed = refl; messages = refl; left = refl }
turn_for (Did Ignored) e output ms w = record { printed = refl; messages = refl; left = refl }
turn_for (Did Nothing) e output ms w = record { printed = refl; messages = refl; left = refl }
turn_for (Did (Clash name)) e output ms w = record { printed = refl; messages = refl; left = refl }
turn_for (Did (Late name cue)) e output ms w =
    let says : List ℕ → Printed = λ x. Shows (shown.Late name (signed (value x))) in
    record { printed = ap says (focus_read cue output w); messages = refl; left = refl }
turn_for (Did Exhausted) e output ms w = record { printed = refl; messages = refl; left = refl }

-- ---- the reason

-- without one, all is shown as it is
shown_as_is : (a : Shown) → with_reason why.NoReason a ≡ a
shown_as_is (shown.Out message) = refl
shown_as_is (shown.Got name focus) = refl
shown_as_is shown.Done = refl
shown_as_is shown.Ignored = refl
shown_as_is (shown.IgnoredFor reason) = refl
shown_as_is shown.Nothing = refl
shown_as_is (shown.Refused question) = refl
shown_as_is (shown.Clash name) = refl
shown_as_is (shown.Late name focus) = refl
shown_as_is shown.Exhausted = refl

-- asked for, or not
explained-by : (explains : Bool) (w : Why) (p : Printed) → explained (cond explains w why.NoReason) p ≡ cond explains (explained w p) p
explained-by true w p = refl
explained-by false w Bad = refl
explained-by false w (Shows a) = ap Shows (shown_as_is a)

-- ---- a played line

module _ (explains : Bool) (e : End) (v : Verb) (clock : ℕ) (s : Store) (few : s.count ≤ most) where
  abbrev ms : List (List ℕ)
  ms = kept s

  counted : length ms ≡ s.count
  counted = length-kept s few

  stays : (explains : Bool) → Bad ≡ cond explains Bad Bad
  stays true = refl
  stays false = refl

  -- an unknown message number
  pub not-played : is_known v s.count ≡ false → Plays explains e v clock ms (record { printed = Bad; end = e }) ms
  unfolding played_of
  not-played h =
      let known : is_known v (length ms) ≡ false = ap (is_known v) counted ∙ h in
      let turn : played_of e v clock ms ≡ stops e ms = rw known in
      record {
        printed = stays explains ∙ sym (ap (λ (t : Turn). cond explains (explained (why_for e v clock ms) t.printed) t.printed) turn);
        left = sym (ap (λ (t : Turn). t.left) turn);
        kept = sym (ap (λ (t : Turn). t.messages) turn);
      }

  -- the event, and the call that the code makes
  abbrev Happens : Action
  Happens = event_for v (message_in s.places s.lengths (heard_number v))

  abbrev Made : Result
  Made = event_of e Happens clock room draws

  module _ (known : is_known v s.count ≡ true) (st : Stepped) (output : List ℕ) (is-called : st ≡ called_of Made) (is-left : output ≡ buffer_of Made.outcome (replicate 128 0)) where
    heard : Happens ≡ event_for v (get_or ms (heard_number v) [])
    heard = event-known v s.places s.lengths (min s.count most) (ap (is_known v) (min-eq_left few) ∙ known)

    turned : played_of e v clock ms ≡ turn_of Made.outcome Made.left ms
    unfolding played_of
    turned =
        let k : is_known v (length ms) ≡ true = ap (is_known v) counted ∙ known in
        let made : Made ≡ result_of e v clock ms = ap (λ (ev : Action). event_of e ev clock room draws) heard in
        rw k (ap (λ (r : Result). turn_of r.outcome r.left ms) (sym made))

    pub in_output : InOutput st.answer output
    in_output = rw (is-called, is-left) (in_buffer Made.outcome (replicate 128 0))

    pub played : (p : Printed) (after : Store) (w : Why) → w ≡ cond explains (why_of e clock Happens) why.NoReason → Tells w st.answer output s after p
        → Plays explains e v clock ms (record { printed = p; end = st.end }) (kept after)
    played p after w asked told =
        let o = Made.outcome in
        let f = turn_for o Made.left (replicate 128 0) ms (wide e Happens clock room draws) in
        let a : st.answer ≡ answer_of o = ap (λ (x : Stepped). x.answer) is-called in
        let plain : printed_for st.answer output s.count ≡ (played_of e v clock ms).printed =
        (λ i. printed_for (a i) (is-left i) (sym counted i)) ∙ f.printed ∙ sym (ap (λ (t : Turn). t.printed) turned) in
        let reason : why_of e clock Happens ≡ why_for e v clock ms = ap (why_of e clock) heard in
        record {
          printed =
              told.printed ∙ ap (λ (x : Why). explained x (printed_for st.answer output s.count)) asked
              ∙ explained-by explains (why_of e clock Happens) (printed_for st.answer output s.count)
              ∙ (λ i. cond explains (explained (reason i) (plain i)) (plain i));
          left = ap (λ (x : Stepped). x.end) is-called ∙ f.left ∙ sym (ap (λ (t : Turn). t.left) turned);
          kept = told.messages ∙ (λ i. messages_for (a i) (is-left i) ms) ∙ f.messages ∙ sym (ap (λ (t : Turn). t.messages) turned);
        }

-- with no more messages counted than there are places, the same are kept
pub same-kept : (s : Store) (used : ℕ) → used ≡ min s.count most → kept (record s { count = used }) ≡ kept s
same-kept s used e = let n : min used most ≡ min s.count most = omega (arith, e) in ap (first_messages s.places s.lengths) n
