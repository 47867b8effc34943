-- What the code finds as the reason of an event that is not refused is the first of document 02's list that holds.
use mathlib.Core.Path.{◌≡◌, refl, sym, ap, subst, ◌∙◌}
use Prim.Native.Nat.{ℕ}
use mathlib.Core.Bool.{Bool, true, false, cond, not}
use mathlib.Core.List.{List, [], ◌∷◌}
use mathlib.Core.Option.{Option, none, some}
use lib.Dec.{leb}
use native.Mathlib.Omega.{arith}
use borrow.Author.Tests.{ne_eqb}
use Rattle.message.specs.declared.Message.{Message}
use Rattle.message.specs.Message.{Meaning, meaning_of, meaning_from}
use Rattle.message.specs.Question.{ask, first_no, same_host, ticks_in, read_questions, read_of}
use Rattle.message.proofs.QuestionLaws.{all-passed}
use Rattle.end.specs.declared.Reason.{Reason}
use Rattle.end.specs.declared.Reason.TheVariants.{Crashed, WrongStatus, OwnMessage, NoFetch}
use Rattle.end.specs.declared.Why.{Why}
use Rattle.end.specs.declared.Why.TheVariants as why
use Rattle.end.specs.declared.Event.{Event}
use Rattle.end.specs.declared.Event.TheVariants.{Moves, Send, Arrival, Fire, Report, Fetch, Announce}
use Rattle.end.specs.declared.End.{End}
use Rattle.end.specs.State.{is_member, is_crashed, with_clock}
use Rattle.end.specs.Reasons.{name_reasons, reasons, first_that}
use Rattle.end.specs.Sound.{sound_of}
use Rattle.end.specs.Event.{Action, moves, action_of, own_questions}
use Rattle.end.specs.Fetch.{may_fetch}
use Rattle.end.specs.Why.{no_fetch_in, reason_holds, refused_as, because, why_of, why_refusal}
use Rattle.end.proofs.Tools.{by_test}
use Rattle.end.specs.Arrival.{named_in}
use Rattle.end.proofs.ReasonLaws.{first_of_both, later, or_else, if_no_fetch}
use Rattle.receive.specs.Reason.{reason_for}
use Rattle.receive.proofs.Reasons.{first-later}
use Rattle.taking.specs.Taking.{reading_for}
use Rattle.taking.proofs.ReadingLaws.{heard, counts_as, message_arrives}
use Rattle.reasons.specs.Reason.{Heard, first_reason}

-- the event's own questions were answered yes
pub own-passed : (e : End) (clock : ℕ) (a : Action) → refused_as e clock a ≡ 0 → first_no (own_questions a e) ≡ 0
own-passed e clock a h =
    let own = own_questions a e in
    let a3 = all-passed (sound_of e) 3 (ask (ticks_in clock) 4 ∷ ask (leb e.clock clock) 5 ∷ own) (omega arith) h in
    let a4 = all-passed (ticks_in clock) 4 (ask (leb e.clock clock) 5 ∷ own) (omega arith) a3.1 in
    (all-passed (leb e.clock clock) 5 own (omega arith) a4.1).1

-- an arrival's message passed question 10; a probe counts as a Report, which has none
module _ (e : End) (cue : List ℕ) {message : Message} where
  arrival-given : (bytes : List ℕ) → message ≡ (read_of bytes).message → first_no (read_questions bytes) ≡ 0 → Heard (counts_as Arrival bytes) message
  unfolding read_of
  arrival-given [] p h = tt
  arrival-given (b ∷ s) p h = subst (λ (what : Event). Heard what message) (sym (message_arrives b s)) (heard b s message p h).ranges_in

  pub given : (bytes : List ℕ) (what : Event) → message ≡ (reading_for what bytes).message → first_no (own_questions (action_of what cue bytes) e) ≡ 0 → Heard (counts_as what bytes) message
  given bytes (Moves m) p h = tt
  given bytes Send p h = tt
  given bytes Arrival p h = arrival-given bytes p h
  given bytes Fire p h = tt
  given bytes Report p h = tt
  given bytes (Fetch name) p h = tt
  given bytes Announce p h = tt

by-member : (b : Bool) (x y : Option Reason) → x ≡ y → cond b x (some WrongStatus) ≡ cond (not b) (some WrongStatus) y
by-member true x y p = p
by-member false x y p = refl

module _ (e : End) (clock : ℕ) (cue : List ℕ) (message : Message) where
  abbrev Crash : Option Reason → Option Reason
  Crash o = cond (is_crashed e.status) (some Crashed) o

  -- what the code finds, of the event that a call counts as, is the first that holds
  abbrev First : Event → List ℕ → Type 0
  First what bytes = first_reason (counts_as what bytes) (meaning_of message) (with_clock e clock) ≡ first_that (reason_holds e clock (action_of what cue bytes)) reasons

  abbrev Later : Meaning → Option Reason
  Later m = let at = with_clock e clock in or_else (later at (named_in m at)) (if_no_fetch (no_fetch_in m at))

  -- of a message, before its own reasons
  abbrev Heeded : Meaning → Option Reason → Option Reason
  Heeded m o = Crash (cond (not (is_member e.status)) (some WrongStatus) (cond (same_host m.sender e.host) (some OwnMessage) o))

  abbrev Arrived : List ℕ → Action
  Arrived bytes = action_of Arrival cue bytes

  message-first : (m : Meaning) → first_reason Arrival m (with_clock e clock)
      ≡ Heeded m (Later m)
  message-first m =
      ap Crash (by-member (is_member e.status) (reason_for m (with_clock e clock)) _
      (ap (λ (o : Option Reason). cond (same_host m.sender e.host) (some OwnMessage) o) (first-later m (with_clock e clock))))

  arrival-first : (bytes : List ℕ) → message ≡ (read_of bytes).message → first_no (read_questions bytes) ≡ 0 → First Arrival bytes
  unfolding read_of
  arrival-first [] p h = ap Crash (by-member (is_member e.status) none none refl)
  arrival-first (b ∷ s) p h =
      ap (λ (what : Event). first_reason what (meaning_of message) (with_clock e clock)) (message_arrives b s)
      ∙ ap (λ (m : Meaning). first_reason Arrival m (with_clock e clock)) (heard b s message p h).means
      ∙ message-first (meaning_from (b ∷ s))
      ∙ ap (λ (o : Option Reason). Heeded (meaning_from (b ∷ s)) o)
      (sym (first_of_both (reason_holds e clock (Arrived (b ∷ s))) name_reasons (NoFetch ∷ [])))

  pub first-is : (what : Event) (bytes : List ℕ) → message ≡ (reading_for what bytes).message → first_no (own_questions (action_of what cue bytes) e) ≡ 0 → First what bytes
  first-is (Moves m) bytes p h = ap Crash (by-member (moves m e.status) none none refl)
  first-is Send bytes p h = ap Crash (by-member (is_member e.status) none none refl)
  first-is Arrival bytes p h = arrival-first bytes p h
  first-is Fire bytes p h = ap Crash (by-member (is_member e.status) none none refl)
  first-is Report bytes p h = ap Crash (by-member (is_member e.status) none none refl)
  first-is (Fetch name) bytes p h =
      ap Crash (by-member (is_member e.status) _ _ (by_test (may_fetch (with_clock e clock) name) (λ t. rw t) (λ t. rw t)))
  first-is Announce bytes p h = ap Crash (by-member (is_member e.status) none none refl)

-- ---- what the call promises
abbrev pub Reasoned : End → ℕ → Action → Why → Type 0
Reasoned e clock a r = (r ≡ why_of e clock a) × (why_refusal r ≡ refused_as e clock a)

because-number : (o : Option Reason) → why_refusal (because o) ≡ 0
because-number none = refl
because-number (some reason) = refl

module _ (e : End) (clock : ℕ) (cue bytes : List ℕ) where
  pub refused_why : (what : Event) (q : ℕ) → q ≡ refused_as e clock (action_of what cue bytes) → (q ≡ 0 → ⊥) → Reasoned e clock (action_of what cue bytes) (why.Refused q)
  unfolding why_of
  refused_why what q p n = rw (← p) (rw (ne_eqb q 0 n) refl, refl)

  pub unrefused_why : (message : Message) (what : Event) (r : Why) (q : ℕ) → message ≡ (reading_for what bytes).message → q ≡ refused_as e clock (action_of what cue bytes)
      → q ≡ 0 → r ≡ because (first_reason (counts_as what bytes) (meaning_of message) (with_clock e clock)) → Reasoned e clock (action_of what cue bytes) r
  unfolding why_of
  unrefused_why message what r q m p z h =
      let zero : refused_as e clock (action_of what cue bytes) ≡ 0 = sym p ∙ z in
      let own = own-passed e clock (action_of what cue bytes) zero in (
        h ∙ ap because (first-is e clock cue message what bytes m own) ∙ sym (rw zero),
        ap why_refusal h ∙ because-number (first_reason (counts_as what bytes) (meaning_of message) (with_clock e clock)) ∙ sym zero,
      )
