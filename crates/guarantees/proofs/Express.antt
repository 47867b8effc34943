-- The statements of specs/Express.antt on the express wait and on an XPRS that arrives.
use mathlib.Core.Path.{◌≡◌, refl, sym, ap, ◌∙◌, subst}
use mathlib.Core.Bool.{Bool, true, false, cond, ◌&&◌}
use mathlib.Core.List.{List, [], ◌∷◌}
use mathlib.Core.Logic.{◌⊎◌, inl, inr, ⊎_elim}
use mathlib.Core.Option.{none}
use Prim.Native.Nat.{ℕ, ◌+◌, ◌≤◌}
use native.Mathlib.Omega.{arith}
use lib.ListN.{length}
use lib.Dec.{leb, eqb}
use borrow.Author.Tests.{eqb-true, eq-eqb, ne_eqb, ltb-true, le-ltb, le-leb, leb-true}
use Rattle.message.specs.declared.Name.{Name}
use Rattle.message.specs.Entry.{as_host}
use Rattle.message.specs.Message.{DATA, RQST, REPL, XPRS, Meaning, meaning_with, meaning_from}
use Rattle.message.specs.Question.{same_host}
use Rattle.message.proofs.QuestionLaws.{and_both}
use Rattle.end.specs.declared.Request.{Request}
use Rattle.end.specs.Parts.{Express, Unset, Soon, Pair, Span, Closed, Open, First}
use Rattle.end.specs.declared.Slot.{Slot}
use Rattle.end.specs.declared.Slot.TheVariants.{Empty, Held, Waiting}
use Rattle.end.specs.declared.Record.{Record}
use Rattle.end.specs.declared.Source.{Source}
use Rattle.end.specs.declared.End.{End}
use Rattle.end.specs.declared.Moment.{Moment}
use Rattle.end.specs.declared.Says.TheVariants.{Rqst, Xprs}
use Rattle.end.specs.declared.Word.{Word}
use Rattle.end.specs.declared.Decision.{Decision}
use Rattle.end.specs.declared.Decision.TheVariants.{Ignores, Opens, Takes, Repairs, Hushes, Replies, Learns, BacksOff, Clashes, Expresses}
use Rattle.end.specs.State.{source_at, distance_to, is_member, is_crashed, moment_of, with_clock}
use Rattle.end.specs.Records.{within, is_above, record_at, is_held, express_in}
use Rattle.end.specs.Round.{request_at}
use Rattle.end.specs.Names.{is_requester}
use Rattle.end.specs.Answer.{Ignored, Step, give, Result, done}
use Rattle.end.specs.Decide.{reached, decide_request, decide_express, decide_as, at_once, decide, known, apply, effect_of, step_by, step_at}
use Rattle.end.specs.Arrival.{message_name, message_host, word_of, word_step, message_step, arrival_of}
use Rattle.end.specs.Fire.{request_rank, reply_rank, fire_at, fired}
use Rattle.end.specs.Event.{Action, Moves, Send, Arrival, Else, act_of, step_of, question_of, event_of}
use Rattle.end.proofs.RecordLaws.{at_outside}
use Rattle.end.proofs.Tools.{by_cond, by_test, clash', and_no}
use Rattle.guarantees.specs.Calls.{moment_at}
use Rattle.guarantees.specs.Records.{slot_of, request_in, retired, Cause, ExpressStays, MayBecome, HeardAs}
use Rattle.guarantees.specs.Waits.{waits_at}
use Rattle.guarantees.specs.Arrivals.{asks, is_data_of, express_by, hear}
use Rattle.guarantees.specs.Fires.{kind_for}
use Rattle.guarantees.specs.BackOff.{cause_of}
use Rattle.guarantees.specs.Express.{express_of, SetByGap, ExpressSetByGap, ExpressStaysOrGoes, WentOut, ExpressGoesOut, NamedHolder, ExpressAnswered, as_request, ExpressElseRequest}
use Rattle.guarantees.proofs.Names.{waits-inside, held-inside}
use Rattle.guarantees.proofs.Retired.{retired_outside, inside_unretired}
use Rattle.guarantees.proofs.Heard.{not-kind, not-asked}
use Rattle.guarantees.proofs.Calls.{call-cases, member_not_crashed}
use Rattle.guarantees.proofs.Arrivals.{heard-at}
use Rattle.guarantees.proofs.Slots.{slots_may_become}
use Rattle.guarantees.proofs.Choice.{fires_as}
use Rattle.guarantees.proofs.Fires.{goes}

-- ---- what stays beside a request, and what goes
unset_soon : {P : Type 0} (due : ℕ) → Unset ≡ Soon due → P
unset_soon due z = absurd (let w : ◌≡◌ {A = ℕ} 0 1 = cc in omega arith)

-- a slot with an express wait has a request
soon_waits : (x : Slot) (due : ℕ) → express_in x ≡ Soon due → (q : Request) × (x ≡ Waiting q (Soon due))
soon_waits Empty due h = unset_soon due h
soon_waits (Held reply) due h = unset_soon due h
soon_waits (Waiting q x) due h = (q, ap (Waiting q) h)

module _ (c : Cause) (t : Moment) (us : List ℕ) (d n : ℕ) (q : Request) (due : ℕ) where
  goes_or_stays : (y : Slot) → MayBecome c t us d n (Waiting q (Soon due)) y
      → (express_in y ≡ Soon due) ⊎ ((express_in y ≡ Unset) × (request_in y ≡ none)) ⊎ ((c.fires ≡ true) × (due ≤ t.clock) × (y ≡ Waiting q Unset))
  goes_or_stays Empty h = inr (inl (refl, refl))
  goes_or_stays (Held reply) h = inr (inl (refl, refl))
  goes_or_stays (Waiting p y) (inl same) = ⊎_elim (λ k. inl k)
      (λ k. inr (inr (k.0, k.1, λ i. Waiting (same.0 i) (k.2 i)))) same.1
  goes_or_stays (Waiting p y) (inr next) = inl next.2

pub express_stays_or_goes : ExpressStaysOrGoes
express_stays_or_goes e a clock room draws h n q due hh before =
    let left = (event_of e a clock room draws).left in
    let t = moment_at e clock in
    let c = cause_of t a h (source_at e (as_host h)).pair in
    by_test (retired e left h n)
    (λ gone.
    let blank = at_outside (source_at left (as_host h)) n (retired_outside (source_at e (as_host h)).span (source_at left (as_host h)).span n gone) in
    inr (inl (ap (λ (r : Record). express_in r.slot) blank, ap (λ (r : Record). request_in r.slot) blank)))
    (λ kept. goes_or_stays c t draws (distance_to e (as_host h)) n q due (slot_of left h n)
    (subst (λ (x : Slot). MayBecome c t draws (distance_to e (as_host h)) n x (slot_of left h n)) before (slots_may_become e a clock room draws h n hh kept)))

-- ---- who sets one

-- only a message that arrives does
module _ (c : Cause) (t : Moment) (us : List ℕ) (d n : ℕ) (due : ℕ) where
  set_as : (x y : Slot) → express_in x ≡ Unset → express_in y ≡ Soon due → MayBecome c t us d n x y → c.express ≡ Soon due
  set_as x Empty was now h = unset_soon due now
  set_as x (Held reply) was now h = unset_soon due now
  set_as Empty (Waiting p y) was now h = sym h.4 ∙ now
  set_as (Held reply) (Waiting p y) was now h = absurd h
  set_as (Waiting q x) (Waiting p y) was now (inl same) = stays x same.1 was
    where
      stays : (x : Express) → ExpressStays c t x y → x ≡ Unset → c.express ≡ Soon due
      stays Unset k u = unset_soon due (sym k ∙ now)
      stays (Soon at) k u = unset_soon at (sym u)
  set_as (Waiting q x) (Waiting p y) was now (inr next) = unset_soon due (sym was ∙ sym next.2 ∙ now)

-- what it is then: round 1, where no cue was asked for
heard-round : (t : Moment) (us : List ℕ) (d n : ℕ) (carried asked : Bool) (new : Express) (due : ℕ) → asked ≡ false → (x y : Slot)
    → express_in x ≡ Unset → express_in y ≡ Soon due → HeardAs t us d n carried asked new x y → y ≡ Waiting (request_at t us d n 1) (Soon due)
heard-round t us d n a b new due no-ask x Empty was now h = unset_soon due now
heard-round t us d n a b new due no-ask x (Held reply) was now h = unset_soon due now
heard-round t us d n a b new due no-ask Empty (Waiting p y) was now h =
    λ i. Waiting ((h.0 ∙ ap (λ (k : Bool). request_at t us d n (cond k 2 1)) no-ask) i) (now i)
heard-round t us d n a b new due no-ask (Held reply) (Waiting p y) was now h = absurd h
heard-round t us d n a b new due no-ask (Waiting q x) (Waiting p y) was now h = unset_soon due (sym was ∙ sym h.1 ∙ now)

-- a DATA asks for nothing
data_asks_none : (m : Meaning) (h n : ℕ) → is_data_of m h ≡ true → asks m h n ≡ false
unfolding is_data_of
data_asks_none m h n k =
    let is : m.kind ≡ DATA = eqb-true m.kind DATA (and_both (eqb m.kind DATA) _ k).0 in
    not-asked m h n (not-kind RQST m h n (ne_eqb m.kind RQST (λ r. omega arith))) (not-kind XPRS m h n (ne_eqb m.kind XPRS (λ r. omega arith)))

-- what `express_by` says
express-by : (t : Moment) (m : Meaning) (h : ℕ) (pair : Pair) (due : ℕ) → express_by t m h pair ≡ Soon due
    → (is_data_of m h ≡ true) × (is_requester t.me pair ≡ true) × (due ≡ t.clock + t.params.express)
unfolding express_by
express-by t m h pair due =
    by_cond (λ (x : Express). x ≡ Soon due → (is_data_of m h ≡ true) × (is_requester t.me pair ≡ true) × (due ≡ t.clock + t.params.express))
    (is_data_of m h && is_requester t.me pair)
    (λ k p. let both = and_both (is_data_of m h) _ k in (both.0, both.1, cc))
    (λ k p. unset_soon due p)

-- outside membership nothing is set
sets-member : (e : End) (bytes : List ℕ) (clock room : ℕ) (draws : List ℕ) (h n due : ℕ) → express_of e h n ≡ Unset
    → express_of (hear e bytes clock room draws).left h n ≡ Soon due → is_member e.status ≡ true
unfolding act_of
sets-member e bytes clock room draws h n due was =
    call-cases (λ (r : Result). express_of r.left h n ≡ Soon due → is_member e.status ≡ true) e (Arrival bytes) clock room draws
    (λ k now. unset_soon due (sym was ∙ now)) (λ z c now. unset_soon due (sym was ∙ now))
    (λ z c. by_cond (λ (s : Step). express_of s.left h n ≡ Soon due → is_member e.status ≡ true) (is_member e.status)
    (λ k now. k) (λ k now. unset_soon due (sym was ∙ now)))

pub express_set_by_gap : ExpressSetByGap
express_set_by_gap e a clock room draws h n due hh was now = go a now
  where
    left : Action → End
    left a = (event_of e a clock room draws).left

    kept : (a : Action) → express_of (left a) h n ≡ Soon due → retired e (left a) h n ≡ false
    kept a now =
        let s = source_at (left a) (as_host h) in
        let w = soon_waits (slot_of (left a) h n) due now in
        inside_unretired (source_at e (as_host h)).span s.span n (waits-inside s n w.0 (ap request_in w.1))

    set : (a : Action) → express_of (left a) h n ≡ Soon due → (cause_of (moment_at e clock) a h (source_at e (as_host h)).pair).express ≡ Soon due
    set a now =
        set_as (cause_of (moment_at e clock) a h (source_at e (as_host h)).pair) (moment_at e clock) draws (distance_to e (as_host h)) n due
        (slot_of e h n) (slot_of (left a) h n) was now (slots_may_become e a clock room draws h n hh (kept a now))

    go : (a : Action) → express_of (left a) h n ≡ Soon due → SetByGap e a clock draws h n (left a) due
    go (Moves m) now = unset_soon due (set (Moves m) now)
    go (Send cue) now = unset_soon due (set (Send cue) now)
    go (Arrival bytes) now =
        let t = moment_at e clock in
        let m = meaning_from bytes in
        let by = express-by t m h (source_at e (as_host h)).pair due (set (Arrival bytes) now) in
        let heard = heard-at e bytes clock room draws h n hh (kept (Arrival bytes) now) in
        let gap = and_both (is_above (source_at e (as_host h)).span n) _ (heard.express due was now) in
        record {
          member = sets-member e bytes clock room draws h n due was now;
          bytes = bytes;
          arrival = refl;
          original = by.0;
          above = gap.0;
          below = ltb-true n (message_name m).number.0 gap.1;
          requester = by.1;
          round = heard-round t draws (distance_to e (as_host h)) n _ _ _ due (data_asks_none m h n by.0) (slot_of e h n) (slot_of (left (Arrival bytes)) h n)
              was now heard.slots;
          in_time_lem = by.2;
        }
    go (Else o) now = unset_soon due (set (Else o) now)

-- ---- what goes out by Fire
pub express_goes_out : ExpressGoesOut
unfolding fired waits_at fire_at
express_goes_out e clock room draws bytes h kind =
    let g = goes e clock room draws bytes h in
    let late = with_clock e clock in
    let w = g.wait in
    let n = w.name.number.0 in
    let s = source_at e w.name.source in
    let read : meaning_from bytes ≡ g.tells.message = ap meaning_from (sym g.is) ∙ (g.tells.written g.sound).back in
    let rank : kind_for w.rank ≡ XPRS = sym g.tells.kind ∙ sym (ap (λ (m : Meaning). m.kind) read) ∙ kind in
    let name : w.name ≡ message_name (meaning_from bytes) = sym g.tells.name ∙ sym (ap message_name read) in
    let out = fires_as (λ (r : Step). WentOut e clock w.name r.left) draws late w (record_at s n).slot g.first.due.waits
    (λ q i k. record { request = q; due = w.due; waited = i; in_time_lem = g.first.due.due; dropped = refl })
    (λ q y i time k. absurd (let z : ◌≡◌ {A = ℕ} (kind_for request_rank) XPRS = ap kind_for (sym k) ∙ rank in omega (arith, z)))
    (λ j i k. absurd (let z : ◌≡◌ {A = ℕ} (kind_for reply_rank) XPRS = ap kind_for (sym k) ∙ rank in omega (arith, z))) in
    subst (λ (x : End). WentOut e clock (message_name (meaning_from bytes)) x) (sym g.left)
    (subst (λ (a : Name). WentOut e clock a (fired draws late (First w)).left) name out)

-- ---- an XPRS that arrives

-- it is of none of the other kinds
module _ (m : Meaning) (is : m.kind ≡ XPRS) where
  no_data : eqb m.kind DATA ≡ false
  no_data = ne_eqb m.kind DATA (λ k. omega arith)

  no_request : eqb m.kind RQST ≡ false
  no_request = ne_eqb m.kind RQST (λ k. omega arith)

  no_repair : eqb m.kind REPL ≡ false
  no_repair = ne_eqb m.kind REPL (λ k. omega arith)

  it_is : eqb m.kind XPRS ≡ true
  it_is = eq-eqb m.kind XPRS is

  pub as_word : (us : List ℕ) (e : End) → same_host m.sender e.host ≡ false → arrival_of us m e ≡ word_step us Xprs m e
  unfolding arrival_of message_step
  as_word us e another = rw (another, no_data, no_request, no_repair, it_is)

-- a name inside first..last passes RQST's first line
pub reached-inside : (t : Moment) (w : Word) (x : Span) (d : Decision) → within x w.name.number.0 ≡ true → reached t w x d ≡ d
unfolding reached
reached-inside t w Closed d i = clash' i
reached-inside t w (Open first last) d i =
    let n = w.name.number.0 in
    let both = and_both (leb first.0 n) (leb n last.0) i in
    rw (le-ltb n first.0 (leb-true first.0 n both.0), le-ltb last.0 n (leb-true n last.0 both.1), and_no (same_host w.name.source t.me))

module _ (us : List ℕ) (m : Meaning) (e : End) (c : NamedHolder e e.clock m) where
  abbrev t₀ : Moment
  t₀ = moment_of e

  abbrev w₀ : Word
  w₀ = word_of Xprs m e

  abbrev s₀ : Source
  s₀ = source_at e (message_name m).source

  decides : decide t₀ w₀ s₀ ≡ Expresses
  unfolding decide_as decide_express
  decides =
      let r = known w₀ s₀ in
      reached-inside t₀ w₀ s₀.span (decide_express t₀ w₀ r s₀.span) (held-inside s₀ (message_name m).number.0 c.held)
      ∙ (λ i. cond (c.named i && (c.held i && le-leb r.hush e.clock c.over i)) Expresses (decide_request t₀ w₀ r s₀.span))

  answers : word_step us Xprs m e ≡ step_by t₀ us w₀ e Expresses
  unfolding step_at
  answers = ap (step_by t₀ us w₀ e) decides

pub express-answered : ExpressAnswered
unfolding event_of step_of act_of meaning_with apply effect_of
express-answered e [] clock room draws asked c = absurd (omega (arith, c.kind))
express-answered e (b ∷ rest) clock room draws asked c =
    let bytes : List ℕ = b ∷ rest in
    let m = meaning_from bytes in
    let late = with_clock e clock in
    let here : NamedHolder late clock m =
    record { member = c.member; another = c.another; kind = c.kind; named = c.named; held = c.held; over = c.over } in
    rw (eq-eqb (question_of e (Arrival bytes) clock room (length draws)) 0 asked, member_not_crashed e.status c.member, c.member)
    (ap done (as_word m c.kind draws late c.another ∙ answers draws m late here))

-- ---- otherwise

-- what is done, and what is put out, does not go by the host that the name has
module _ (us : List ℕ) (m : Meaning) (e : End) where
  abbrev t₁ : Moment
  t₁ = moment_of e

  abbrev w₁ : Word
  w₁ = word_of Xprs m e

  abbrev v₁ : Word
  v₁ = word_of Rqst (as_request m) e

  abbrev s₁ : Source
  s₁ = source_at e (message_name m).source

  same_step : (d : Decision) → step_by t₁ us w₁ e d ≡ step_by t₁ us v₁ e d
  unfolding apply effect_of
  same_step (Ignores why) = refl
  same_step Opens = refl
  same_step Takes = refl
  same_step Repairs = refl
  same_step Hushes = refl
  same_step Replies = refl
  same_step Learns = refl
  same_step (BacksOff k) = refl
  same_step Clashes = refl
  same_step Expresses = refl

  same_decision : (r : Record) (x : Span) → reached t₁ w₁ x (decide_request t₁ w₁ r x) ≡ reached t₁ v₁ x (decide_request t₁ v₁ r x)
  unfolding reached decide_request
  same_decision r Closed = refl
  same_decision r (Open first last) = refl

  decides_alike : at_once t₁ w₁ (known w₁ s₁) ≡ false → decide t₁ w₁ s₁ ≡ decide t₁ v₁ s₁
  unfolding decide_as decide_express
  decides_alike off =
      let r = known w₁ s₁ in
      ap (λ (b : Bool). reached t₁ w₁ s₁.span (cond b Expresses (decide_request t₁ w₁ r s₁.span))) off ∙ same_decision r s₁.span

  asks_alike : at_once t₁ w₁ (known w₁ s₁) ≡ false → word_step us Xprs m e ≡ word_step us Rqst (as_request m) e
  unfolding step_at
  asks_alike off = same_step (decide t₁ w₁ s₁) ∙ ap (step_by t₁ us v₁ e) (decides_alike off)

  -- any other end is not the named holder
  not_at_once : is_member e.status ≡ true → same_host m.sender e.host ≡ false → m.kind ≡ XPRS → (NamedHolder e e.clock m → ⊥)
      → at_once t₁ w₁ (known w₁ s₁) ≡ false
  not_at_once member another kind off = by_test (at_once t₁ w₁ (known w₁ s₁))
      (λ t.
      let a = and_both (same_host (message_host m) e.host) _ t in
      let b = and_both (is_held (known w₁ s₁).slot) _ a.1 in
      absurd (off (record {
        member = member;
        another = another;
        kind = kind;
        named = a.0;
        held = b.0;
        over = leb-true (known w₁ s₁).hush e.clock b.1;
      })))
      (λ t. t)

  arrives_alike : is_member e.status ≡ true → m.kind ≡ XPRS → (NamedHolder e e.clock m → ⊥) → arrival_of us m e ≡ arrival_of us (as_request m) e
  unfolding arrival_of message_step
  arrives_alike member kind off = by_test (same_host m.sender e.host)
      (λ looped. rw looped)
      (λ another. as_word m kind us e another ∙ asks_alike (not_at_once member another kind off) ∙ sym (as_request_lem another))
    where
      as_request_lem : same_host m.sender e.host ≡ false → arrival_of us (as_request m) e ≡ word_step us Rqst (as_request m) e
      as_request_lem another = rw another

pub express_else_request : ExpressElseRequest
unfolding event_of step_of act_of meaning_with
express_else_request e [] asking clock room draws a b kind same off = absurd (omega (arith, kind))
express_else_request e (x ∷ xs) [] clock room draws a b kind same off = absurd (omega (arith, ap (λ (m : Meaning). m.kind) same))
express_else_request e (x ∷ xs) (y ∷ ys) clock room draws a b kind same off =
    let m = meaning_from (x ∷ xs) in
    let late = with_clock e clock in
    let elsewhere : NamedHolder late clock m → ⊥ =
    λ c. off (record { member = c.member; another = c.another; kind = c.kind; named = c.named; held = c.held; over = c.over }) in
    rw (eq-eqb (question_of e (Arrival (x ∷ xs)) clock room (length draws)) 0 a, eq-eqb (question_of e (Arrival (y ∷ ys)) clock room (length draws)) 0 b)
    (ap (λ (s : Step). done (cond (is_crashed e.status) (give Ignored e) s))
    (by_test (is_member e.status)
    (λ member. rw member (arrives_alike draws m late member kind elsewhere ∙ ap (λ (z : Meaning). arrival_of draws z late) (sym same)))
    (λ member. rw member)))
