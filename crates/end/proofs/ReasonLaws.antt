-- What the reason call says of an event is so: specs/Why.antt.
use mathlib.Core.Path.{◌≡◌, refl, sym, ap, ◌∙◌}
use Prim.Native.Nat.{ℕ, zero, suc, ◌+◌, ◌-◌, ◌≤◌, ◌<◌}
use native.Mathlib.Omega.{arith}
use mathlib.Core.Bool.{Bool, true, false, cond, not}
use mathlib.Core.List.{List, [], ◌∷◌, ◌++◌}
use mathlib.Core.Option.{Option, none, some}
use lib.ListN.{length, get_or}
use lib.Dec.{eqb, leb}
use borrow.Author.Tests.{le-leb, eq-eqb, eqb-true}
use Rattle.message.specs.Limit.{room_needed}
use Rattle.message.specs.Message.{Meaning, DATA, RQST, REPL, XPRS, FTCH, LATE, ANNC, Datagram, Probe, Saying, datagram_from}
use Rattle.message.specs.Question.{same_host}
use Rattle.end.specs.declared.Slot.{Slot}
use Rattle.end.specs.declared.Slot.TheVariants.{Empty, Held, Waiting}
use Rattle.end.specs.Parts.{No, Due, Span, Closed, Open, Earliest, NoWait, First, Nearest, Nobody, Found}
use Rattle.end.specs.declared.Record.{Record}
use Rattle.end.specs.declared.Says.{Says}
use Rattle.end.specs.declared.Says.TheVariants.{Data, Rqst, Repl, Xprs}
use Rattle.end.specs.declared.Moment.{Moment}
use Rattle.end.specs.declared.Word.{Word}
use Rattle.end.specs.declared.Reason.{Reason}
use Rattle.end.specs.declared.Reason.TheVariants.{Crashed, WrongStatus, OwnMessage, NotOpen, BelowFirst, OwnAboveLast, AlreadyHeld, ReplyWaiting, ReplyQuiet, RequestQuiet, NoFetch}
use Rattle.end.specs.declared.Why.{Why}
use Rattle.end.specs.declared.Why.TheVariants as why
use Rattle.end.specs.declared.Decision.{Decision}
use Rattle.end.specs.declared.Decision.TheVariants.{Ignores, Opens, Takes, Repairs, Hushes, Replies, Learns, BacksOff, Clashes, Expresses}
use Rattle.end.specs.declared.Source.{Source}
use Rattle.end.specs.declared.Move.{Move}
use Rattle.message.specs.declared.Name.{Name}
use Rattle.end.specs.declared.End.{End}
use Rattle.end.specs.State.{source_at, is_member, is_crashed, moment_of, with_clock}
use Rattle.end.specs.Records.{within, record_at, is_held}
use Rattle.end.specs.Sound.{all_below}
use Rattle.end.specs.Round.{draw_count}
use Rattle.end.specs.Answer.{Effect, Out, Done, Ignored, Nothing, Step, give, Outcome, Refused, Did, Result, done}
use Rattle.end.specs.Decide.{number, known, decide, effect_of, step_at}
use Rattle.end.specs.Reasons.{name_reasons, reasons, first_that, reason_of}
use Rattle.end.specs.Session.{session_of}
use Rattle.end.specs.Arrival.{word_of, named_in, message_step, arrival_of}
use Rattle.end.specs.Fire.{express_rank, fire_at, fired, earliest}
use Rattle.end.specs.Fetch.{may_fetch, nearest, try_of, fetch_of, may_answer, fetched_of, may_hand, late_of}
use Rattle.end.specs.Event.{Other, Fire, Report, Announce, Fetch, announced, Action, Moves, Send, Arrival, Else, moves, move_of, other_of, hearing_of, act_of, step_of, question_of, event_of}
use Rattle.end.specs.Why.{wrong_status, is_own, own_message, named_of, named_by, holds_of, no_fetch_in, no_fetch_of, no_fetch_for, no_fetch, reason_holds, refused_as, because, why_of, reason_number, is_ignored, ReasonIsFirst, NoneHolds, NumberExactly, ReasonExactly, NoneExactly}
use Rattle.end.proofs.Tools.{by_cond, by_test, clash, clash'}
use Rattle.end.proofs.RecordLaws.{at_outside}
use Rattle.end.proofs.SoundLaws.{all-at}
use Rattle.end.proofs.Reasons.{ignored_for_the_first_reason}

-- ---- the first of the list that holds: it holds, and those before it do not

-- the reason at a place of the list
abbrev at : List Reason → ℕ → Reason
at l i = get_or l i Crashed

record FirstAt (f : Reason → Bool) (l : List Reason) (reason : Reason) : Type 0 where
  pub index : ℕ
  pub short : index < length l
  pub there : at l index ≡ reason
  pub true-there : f reason ≡ true
  pub false-before : (j : ℕ) → j < index → f (at l j) ≡ false

first-at : (f : Reason → Bool) (l : List Reason) (reason : Reason) → first_that f l ≡ some reason → FirstAt f l reason
first-at f [] reason = λ p. let z : ◌≡◌ {A = ℕ} 0 1 = cc in absurd (omega arith)
first-at f (x ∷ l) reason = by_cond (λ o. o ≡ some reason → FirstAt f (x ∷ l) reason) (f x)
    (λ h p.
    let same : x ≡ reason = cc in
    record { index = 0; short = omega arith; there = same; true-there = sym (ap f same) ∙ h; false-before = λ j k. absurd (omega arith) })
    (λ h p.
    let rest = first-at f l reason p in
    record { index = suc rest.index; short = omega (arith, rest.short); there = rest.there; true-there = rest.true-there; false-before = before h rest.index rest.false-before })
  where
    before : f x ≡ false → (i : ℕ) → ((j : ℕ) → j < i → f (at l j) ≡ false) → (j : ℕ) → j < suc i → f (at (x ∷ l) j) ≡ false
    before h i g zero k = h
    before h i g (suc j) k = g j (omega arith)

-- a reason's number is its place in the list, from 1
numbered : (reason : Reason) → (1 ≤ reason_number reason) × (at reasons (reason_number reason - 1) ≡ reason) × (reason_number reason ≤ 11)
numbered Crashed = (omega arith, refl, omega arith)
numbered WrongStatus = (omega arith, refl, omega arith)
numbered OwnMessage = (omega arith, refl, omega arith)
numbered NotOpen = (omega arith, refl, omega arith)
numbered BelowFirst = (omega arith, refl, omega arith)
numbered OwnAboveLast = (omega arith, refl, omega arith)
numbered AlreadyHeld = (omega arith, refl, omega arith)
numbered ReplyWaiting = (omega arith, refl, omega arith)
numbered ReplyQuiet = (omega arith, refl, omega arith)
numbered RequestQuiet = (omega arith, refl, omega arith)
numbered NoFetch = (omega arith, refl, omega arith)

placed : (i : ℕ) → i < length reasons → reason_number (at reasons i) ≡ suc i
unfolding all_below
placed i h = eqb-true _ _ (all-at (λ i. eqb (reason_number (at reasons i)) (suc i)) 11 i refl h)

first_holds : (f : Reason → Bool) (reason : Reason) → first_that f reasons ≡ some reason
    → (f reason ≡ true) × ((other : Reason) → reason_number other < reason_number reason → f other ≡ false)
first_holds f reason p =
    let w = first-at f reasons reason p in
    let n : reason_number reason ≡ suc w.index = ap reason_number (sym w.there) ∙ placed w.index w.short in (
      w.true-there,
      λ other l.
          let k = numbered other in
          sym (ap f k.1) ∙ w.false-before (reason_number other - 1) (omega (arith, k.0, l, n)),
    )

because-some : (o : Option Reason) (reason : Reason) → because o ≡ why.Because reason → o ≡ some reason
because-some none reason p = cc
because-some (some x) reason p = cc

pub reason_is_first : ReasonIsFirst
unfolding why_of
reason_is_first e clock a reason = by_cond (λ (x : Why). x ≡ why.Because reason → (reason_holds e clock a reason ≡ true)
    × ((other : Reason) → reason_number other < reason_number reason → reason_holds e clock a other ≡ false)) (eqb (refused_as e clock a) 0)
    (λ t p. first_holds (reason_holds e clock a) reason (because-some _ reason p))
    (λ t p. let z : ◌≡◌ {A = ℕ} 0 1 = cc in absurd (omega arith))

-- where no reason is first, none holds
some-not : {x : Reason} → some x ≡ none → ⊥
some-not p = let z : ◌≡◌ {A = ℕ} 0 1 = cc in omega arith

none-at : (f : Reason → Bool) (l : List Reason) → first_that f l ≡ none → (i : ℕ) → i < length l → f (at l i) ≡ false
none-at f [] p i k = absurd (omega arith)
none-at f (x ∷ l) p zero k = by_test (f x) (λ h. absurd (some-not (rw h at p))) (λ h. h)
none-at f (x ∷ l) p (suc i) k = by_test (f x) (λ h. absurd (some-not (rw h at p))) (λ h. none-at f l (rw h at p) i (omega arith))

because-none : (o : Option Reason) → because o ≡ why.NoReason → o ≡ none
because-none none p = refl
because-none (some x) p = cc

pub none-holds : NoneHolds
unfolding why_of
none-holds e clock a = by_cond (λ (x : Why). x ≡ why.NoReason → (reason : Reason) → reason_holds e clock a reason ≡ false) (eqb (refused_as e clock a) 0)
    (λ t p reason.
    let k = numbered reason in
    sym (ap (reason_holds e clock a) k.1)
    ∙ none-at (reason_holds e clock a) reasons (because-none _ p) (reason_number reason - 1) (omega (arith, k.0, k.2)))
    (λ t p. let z : ◌≡◌ {A = ℕ} 0 1 = cc in absurd (omega arith))

-- ---- what the event gives

-- what the reason call says of an outcome; the three cases exclude each other
abbrev Foretells : Why → Outcome → Type 0
Foretells (why.Refused k) o = o ≡ Refused k
Foretells (why.Because reason) o = o ≡ Did Ignored
Foretells why.NoReason o = (x : Effect) × (o ≡ Did x) × (is_ignored x ≡ false)

-- a decision is ignored where it has a reason
decided : (t : Moment) (w : Word) (r : Record) (d : Decision) → Foretells (because (reason_of d)) (Did (effect_of t w r d))
unfolding effect_of
decided t w r (Ignores reason) = refl
decided t w r Opens = (_, refl, refl)
decided t w r Takes = (_, refl, refl)
decided t w r Repairs = (_, refl, refl)
decided t w r Hushes = (_, refl, refl)
decided t w r Replies = (_, refl, refl)
decided t w r Learns = (_, refl, refl)
decided t w r (BacksOff k) = (_, refl, refl)
decided t w r Clashes = (_, refl, refl)
decided t w r Expresses = (_, refl, refl)

-- the reasons that lie in a name's source, by what is said of the name
abbrev pub later : End → Option Word → Option Reason
later e o = first_that (λ reason. holds_of e reason o) name_reasons

-- and then the last one, which no message about a name has that lies in its source
abbrev pub or_else : Option Reason → Option Reason → Option Reason
or_else none other = other
or_else (some reason) other = some reason

abbrev pub if_no_fetch : Bool → Option Reason
if_no_fetch b = cond b (some NoFetch) none

pub or_none : (o : Option Reason) → or_else o none ≡ o
or_none none = refl
or_none (some reason) = refl

pub first_of_both : (f : Reason → Bool) (l k : List Reason) → first_that f (l ++ k) ≡ or_else (first_that f l) (first_that f k)
first_of_both f [] k = refl
first_of_both f (x ∷ l) k = by_test (f x) (λ t. rw t) (λ t. rw t (first_of_both f l k))

-- kinds differ
other-kind : (kind a b : ℕ) → eqb kind a ≡ true → eqb a b ≡ false → eqb kind b ≡ false
other-kind kind a b p q = ap (λ (k : ℕ). eqb k b) (eqb-true kind a p) ∙ q

closed_bare : (w : Word) (s : Source) → s.span ≡ Closed → is_held (known w s).slot ≡ false
closed_bare w s p = ap (λ (r : Record). is_held r.slot) (at_outside s (number w) (ap (λ (x : Span). within x (number w)) p))

pub later_decided : (e : End) (w : Word) → later e (some w) ≡ reason_of (decide (moment_of e) w (source_at e w.name.source))
later_decided e w =
    let s = source_at e w.name.source in
    sym (ignored_for_the_first_reason (moment_of e) w (known w s) s.span (closed_bare w s))

-- a message at a member, from another
module _ (us : List ℕ) (m : Meaning) (e : End) where
  about : (says : Says) → Foretells (because (later e (some (word_of says m e)))) (Did (step_at (moment_of e) us (word_of says m e) e).effect)
  unfolding step_at
  about says = rw (later_decided e (word_of says m e)) (decided (moment_of e) (word_of says m e) _ (decide (moment_of e) (word_of says m e) (source_at e (word_of says m e).name.source)))

  -- of one of the kinds 17 to 19 and 21 no fetch is the last reason
  named : (kind : ℕ) (says : Says) → eqb m.kind kind ≡ true → eqb kind FTCH ≡ false → eqb kind LATE ≡ false
      → Foretells (because (or_else (later e (some (word_of says m e))) (if_no_fetch (no_fetch_in m e)))) (Did (step_at (moment_of e) us (word_of says m e) e).effect)
  named kind says k f l =
      rw (other-kind m.kind kind FTCH k f, other-kind m.kind kind LATE k l, or_none (later e (some (word_of says m e)))) (about says)

  message-told : Foretells (because (or_else (later e (named_in m e)) (if_no_fetch (no_fetch_in m e)))) (Did (message_step us m e).effect)
  unfolding message_step session_of fetched_of late_of
  message-told = by_test (eqb m.kind DATA) (λ d. rw d (named DATA Data d refl refl))
      (λ d. by_test (eqb m.kind RQST) (λ r. rw (d, r) (named RQST Rqst r refl refl))
      (λ r. by_test (eqb m.kind REPL) (λ p. rw (d, r, p) (named REPL Repl p refl refl))
      (λ p. by_test (eqb m.kind XPRS) (λ x. rw (d, r, p, x) (named XPRS Xprs x refl refl))
      (λ x. by_test (eqb m.kind FTCH)
      (λ f. by_test (may_answer e m) (λ t. rw (d, r, p, x, f, t) (_, refl, refl)) (λ t. rw (d, r, p, x, f, t)))
      (λ f. by_test (eqb m.kind LATE)
      (λ l. by_test (may_hand e m) (λ t. rw (d, r, p, x, f, l, t) (_, refl, refl)) (λ t. rw (d, r, p, x, f, l, t)))
      (λ l. by_test (eqb m.kind ANNC) (λ a. rw (d, r, p, x, f, l, a) (_, refl, refl))
      (λ a. rw (d, r, p, x, f, l, a) (_, refl, refl))))))))

  arrival-told : Foretells (because (cond (same_host m.sender e.host) (some OwnMessage) (or_else (later e (named_in m e)) (if_no_fetch (no_fetch_in m e)))))
      (Did (arrival_of us m e).effect)
  unfolding arrival_of
  arrival-told = by_test (same_host m.sender e.host) (λ o. rw o) (λ o. rw o message-told)

-- a datagram: a probe is a Report
module _ (us : List ℕ) (e : End) where
  heard-told : (d : Datagram Meaning)
      → Foretells (because (cond (is_own d e.host) (some OwnMessage) (or_else (later e (named_of d e)) (if_no_fetch (no_fetch_of d e))))) (Did (hearing_of us d e).effect)
  heard-told Probe = (_, refl, refl)
  heard-told (Saying m) = arrival-told us m e

-- Fire is never Ignored
fire-at : (us : List ℕ) (e : End) (x : Earliest) → is_ignored (fired us e x).effect ≡ false
unfolding fired fire_at
fire-at us e NoWait = refl
fire-at us e (First w) = go (record_at (source_at e w.name.source) w.name.number.0).slot
  where
    go : (slot : Slot) → is_ignored (fire_at us w.rank w.name e slot).effect ≡ false
    go Empty = refl
    go (Waiting q x) = by_cond (λ (r : Step). is_ignored r.effect ≡ false) (eqb w.rank express_rank) (λ _. refl) (λ _. refl)
    go (Held No) = refl
    go (Held (Due due requester)) = refl

-- nor is a fetch that may be made
try_at : (name : Name) (e : End) (x : Nearest) → is_ignored (try_of name e x).effect ≡ false
unfolding try_of
try_at name e Nobody = refl
try_at name e (Found h d) = refl

-- nor is an Announce
announced-at : (t : Moment) (x : Span) (e : End) → is_ignored (announced t x e).effect ≡ false
announced-at t Closed e = refl
announced-at t (Open first last) e = refl

other-told : (us : List ℕ) (o : Other) (e : End) → Foretells (because (if_no_fetch (no_fetch_for o e))) (Did (other_of us o e).effect)
unfolding fetch_of
other-told us Fire e = (_, refl, fire-at us e (earliest e 8))
other-told us Report e = (_, refl, refl)
other-told us Announce e = (_, refl, announced-at (moment_of e) (source_at e e.host).span e)
other-told us (Fetch name) e = by_test (may_fetch e name) (λ t. rw t (_, refl, try_at name e (nearest e name 8))) (λ t. rw t)

-- an event on an end that is not crashed and whose clock is set
module _ (us : List ℕ) (e : End) where
  abbrev first : Action → Option Reason
  first a =
      cond (wrong_status a e.status) (some WrongStatus)
      (cond (own_message a e.host) (some OwnMessage) (or_else (later e (named_by a e)) (if_no_fetch (no_fetch a e))))

  act_told : (a : Action) → Foretells (because (first a)) (Did (act_of us a e).effect)
  unfolding act_of move_of
  act_told (Moves m) = by_test (moves m e.status) (λ t. rw t (_, refl, refl)) (λ t. rw t)
  act_told (Send cue) = by_test (is_member e.status) (λ t. rw t (_, refl, refl)) (λ t. rw t)
  act_told (Arrival bytes) = by_test (is_member e.status) (λ t. rw t (heard-told us e (datagram_from bytes))) (λ t. rw t)
  act_told (Else o) = by_test (is_member e.status) (λ t. rw t (other-told us o e)) (λ t. rw t)

step-told : (e : End) (clock : ℕ) (us : List ℕ) (a : Action) → Foretells (because (first_that (reason_holds e clock a) reasons)) (Did (step_of clock us a e).effect)
unfolding step_of
step-told e clock us a =
    by_test (is_crashed e.status) (λ t. rw t)
    (λ t. rw (t, first_of_both (reason_holds e clock a) name_reasons (NoFetch ∷ [])) (act_told us (with_clock e clock) a))

-- with an output and draws as they must be, the questions asked are the same
asked : (e : End) (clock room draws : ℕ) (a : Action) → room_needed ≤ room → draws ≡ draw_count → question_of e a clock room draws ≡ refused_as e clock a
unfolding question_of
asked e clock room draws a r d = rw (le-leb room_needed room r, eq-eqb draws draw_count d)

foretells : (e : End) (clock room : ℕ) (draws : List ℕ) (a : Action) → room_needed ≤ room → length draws ≡ draw_count
    → Foretells (why_of e clock a) (event_of e a clock room draws).outcome
unfolding why_of event_of
foretells e clock room draws a r d =
    let q : question_of e a clock room (length draws) ≡ refused_as e clock a = asked e clock room (length draws) a r d in
    by_test (eqb (refused_as e clock a) 0) (λ t. rw (q, t) (step-told e clock draws a)) (λ t. rw (q, t))

-- ---- so each of the three comes exactly where the outcome is its

never : {P : Type 0} → ◌≡◌ {A = ℕ} 0 1 → P
never z = absurd (omega arith)

-- a number
number-then : (w : Why) (o : Outcome) (k : ℕ) → Foretells w o → w ≡ why.Refused k → o ≡ Refused k
number-then (why.Refused x) o k f p = f ∙ cc
number-then (why.Because x) o k f p = never cc
number-then why.NoReason o k f p = never cc

then-number : (w : Why) (o : Outcome) (k : ℕ) → Foretells w o → o ≡ Refused k → w ≡ why.Refused k
then-number (why.Refused x) o k f p = cc
then-number (why.Because x) o k f p = never cc
then-number why.NoReason o k f p = let q = f.1 in never cc

pub number_exactly : NumberExactly
number_exactly e clock a k room draws r d =
    let f = foretells e clock room draws a r d in
    (number-then _ _ k f, then-number _ _ k f)

-- a reason
reason_then : (w : Why) (o : Outcome) (reason : Reason) → Foretells w o → w ≡ why.Because reason → o ≡ Did Ignored
reason_then (why.Refused x) o reason f p = never cc
reason_then (why.Because x) o reason f p = f
reason_then why.NoReason o reason f p = never cc

then_reason : (w : Why) (o : Outcome) → Foretells w o → o ≡ Did Ignored → (reason : Reason) × (w ≡ why.Because reason)
then_reason (why.Refused x) o f p = never cc
then_reason (why.Because x) o f p = (x, refl)
then_reason why.NoReason o f p = let q : Did f.0 ≡ Did Ignored = sym f.1 ∙ p in let same : f.0 ≡ Ignored = cc in clash (sym (ap is_ignored same) ∙ f.2)

pub reason_exactly : ReasonExactly
reason_exactly e clock a room draws r d =
    let f = foretells e clock room draws a r d in
    (λ reason. reason_then _ _ reason f, then_reason _ _ f)

-- none
none_then : (w : Why) (o : Outcome) → Foretells w o → w ≡ why.NoReason → (x : Effect) × (o ≡ Did x) × (is_ignored x ≡ false)
none_then (why.Refused x) o f p = never cc
none_then (why.Because x) o f p = never cc
none_then why.NoReason o f p = f

then-none : (w : Why) (o : Outcome) → Foretells w o → (x : Effect) → o ≡ Did x → is_ignored x ≡ false → w ≡ why.NoReason
then-none (why.Refused y) o f x p n = never cc
then-none (why.Because y) o f x p n = let same : x ≡ Ignored = cc in clash (sym (ap is_ignored same) ∙ n)
then-none why.NoReason o f x p n = refl

pub none_exactly : NoneExactly
none_exactly e clock a room draws r d =
    let f = foretells e clock room draws a r d in
    (none_then _ _ f, then-none _ _ f)
