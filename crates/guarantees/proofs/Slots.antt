-- Every event, refused or not, changes first and last only as `SpanMayBecome` says and each slot that is not retired only as `MayBecome` says;
-- none but Leave and Crash changes a held cue that is not retired, and none changes host or parameters.
use mathlib.Core.Path.{◌≡◌, refl, sym, ap, ◌∙◌, subst}
use mathlib.Core.Bool.{Bool, true, false}
use mathlib.Core.List.{List, [], ◌∷◌}
use mathlib.Core.Option.{some}
use mathlib.Core.Logic.{◌⊎◌, inl, inr, ⊎_elim}
use Prim.Native.Nat.{ℕ, ◌<◌}
use native.Mathlib.Omega.{arith}
use lib.ListN.{length, get_or}
use lib.Dec.{eqb}
use borrow.Author.Tests.{eqb-true}
use Rattle.message.specs.declared.Host.{Host}
use Rattle.message.specs.declared.Name.{Name}
use Rattle.message.specs.Entry.{as_host}
use Rattle.message.specs.Message.{meaning_from}
use Rattle.end.specs.declared.Request.{Request}
use Rattle.end.specs.Parts.{Express, Unset, Soon, No, Span, Closed, Open, Earliest, NoWait, First}
use Rattle.end.specs.declared.Slot.{Slot}
use Rattle.end.specs.declared.Slot.TheVariants.{Empty, Held, Waiting}
use Rattle.end.specs.declared.Record.{Record}
use Rattle.end.specs.declared.Source.{Source}
use Rattle.end.specs.declared.End.{End}
use Rattle.end.specs.declared.Move.{Move}
use Rattle.end.specs.declared.Moment.{Moment}
use Rattle.end.specs.State.{no_source, blank_record, unheard_sources, source_at, distance_to, is_member, moment_of, with_clock, with_source}
use Rattle.end.specs.Records.{within, is_below, record_at, with_record, is_held, with_reply, express_in, with_express}
use Rattle.end.specs.Round.{request_at, next_round}
use Rattle.end.specs.Names.{asking, expressed, holding, quieted}
use Rattle.end.specs.Answer.{Step, Result}
use Rattle.end.specs.Sound.{sound_of}
use Rattle.end.specs.Fire.{earliest, fire_at, fired}
use Rattle.end.specs.Event.{Action, Moves, Send, Arrival, Else, Other, Fire, Report, Announce, Fetch, moves, clears, moved_end, move_of, extended, sent_source, other_of, act_of, event_of}
use Rattle.end.proofs.Facts.{unheard-at, narrow}
use Rattle.end.proofs.RecordLaws.{Narrow, at_outside, read_same, read_other, store_elim}
use Rattle.end.proofs.RiseLaws.{rise-span}
use Rattle.end.proofs.Tools.{by_cond, by_test, set_elim, clash, clash'}
use Rattle.invariants.proofs.Ends.{clock-kept}
use Rattle.invariants.proofs.Facts.{SoundState, facts, span_in}
use Rattle.invariants.proofs.Questions.{Passed}
use Rattle.guarantees.specs.Calls.{moment_at, OneCall, after, after_all}
use Rattle.guarantees.specs.Waits.{waits_at, IsDue}
use Rattle.guarantees.specs.Records.{slot_of, request_in, SpanMayBecome, retires, retired, Cause, ExpressStays, MayBecome, HeardAs}
use Rattle.guarantees.specs.Arrivals.{asks, is_data_of}
use Rattle.guarantees.specs.Fires.{HostAndParamsStay}
use Rattle.guarantees.specs.BackOff.{cause_of, SpansMayBecome, RetiredAreGone, SlotsMayBecome, WaitsUntilHeld, HeldUntilCleared, NoneClears, WaitsOrHeldThrough, HeldThrough}
use Rattle.guarantees.proofs.Names.{waits_as, waits-inside, held-inside, source_of, Ends, own-ends, next_outside, next-inside, extended_narrow, extended-length, extended_elim}
use Rattle.guarantees.proofs.Retired.{span_stay, rise-moves, retired_outside, retired-below, outside_before, below_stays}
use Rattle.guarantees.proofs.Heard.{carried_by}
use Rattle.guarantees.proofs.Fetches.{announce-cases, fetch-cases, marked_at}
use Rattle.guarantees.proofs.Messages.{span-may, HeardEnd}
use Rattle.guarantees.proofs.Calls.{call-cases}
use Rattle.guarantees.proofs.Arrivals.{passed-heard}
use Rattle.guarantees.proofs.Choice.{choice_is_earliest, fires_as}

-- ---- one slot
module _ (c : Cause) (t : Moment) (us : List ℕ) (d n : ℕ) where
  express-stays : (x : Express) → ExpressStays c t x x
  express-stays Unset = refl
  express-stays (Soon due) = inl refl

  stays : (x : Slot) → MayBecome c t us d n x x
  stays Empty = tt
  stays (Held reply) = tt
  stays (Waiting q x) = inl (refl, express-stays x)

  -- its reply goes
  quiets : (x : Slot) → MayBecome c t us d n x (with_reply No x)
  quiets Empty = tt
  quiets (Held reply) = tt
  quiets (Waiting q x) = inl (refl, express-stays x)

  new_request : (asked : Bool) (q : Request) (x : Express) → HeardAs t us d n false asked c.express Empty (Waiting q x)
      → MayBecome c t us d n Empty (Waiting q x)
  new_request true q x h = (2, omega arith, omega arith, h.0, h.1)
  new_request false q x h = (1, omega arith, omega arith, h.0, h.1)

  -- what bytes that arrive may do, a call may do
  heard-may : (carried asked : Bool) (x y : Slot) → HeardAs t us d n carried asked c.express x y → MayBecome c t us d n x y
  heard-may a b Empty Empty h = tt
  heard-may a b Empty (Held reply) h = h.1
  heard-may a b Empty (Waiting q x) h = new_request b q x h
  heard-may a b (Held reply) Empty h = absurd h
  heard-may a b (Held reply) (Held now) h = tt
  heard-may a b (Held reply) (Waiting q x) h = h
  heard-may a b (Waiting q x) Empty h = absurd h
  heard-may a b (Waiting q x) (Held reply) h = h.1
  heard-may a b (Waiting q x) (Waiting p y) h =
      ⊎_elim (λ s. inl (s, subst (ExpressStays c t x) (sym h.1) (express-stays x))) (λ s. inr (inl s.1, s.2, h.1)) h.0

  empties : c.empties ≡ true → (x : Slot) → MayBecome c t us d n x Empty
  empties k Empty = tt
  empties k (Held reply) = k
  empties k (Waiting q x) = k

-- ---- one record: its slot, and a cue that is held in it
pub record May (c : Cause) (t : Moment) (us : List ℕ) (d j : ℕ) (r p : Record) : Type 0 where
  pub slot : MayBecome c t us d j r.slot p.slot
  pub cue : c.empties ≡ false → is_held r.slot ≡ true → p.cue ≡ r.cue

-- a source: first and last, and every record that is not retired
pub record MaySource (c : Cause) (t : Moment) (us : List ℕ) (s p : Source) : Type 0 where
  pub span : SpanMayBecome c.empties s.span p.span
  pub each : (j : ℕ) → retires s.span p.span j ≡ false → May c t us s.distance j (record_at s j) (record_at p j)

-- an end, whose host and parameters stay
abbrev pub MayEnd : Action → Moment → List ℕ → End → End → Type 0
MayEnd a t us e p = ((p.host ≡ e.host) × (p.params ≡ e.params))
    × ((h : ℕ) → h < 8 → MaySource (cause_of t a h (source_of e h).pair) t us (source_of e h) (source_of p h))

may-same : (c : Cause) (t : Moment) (us : List ℕ) (d j : ℕ) (r : Record) → May c t us d j r r
may-same c t us d j r = record { slot = stays c t us d j r.slot; cue = λ _ _. refl }

may_stay : (a : Action) (t : Moment) (us : List ℕ) (e : End) → MayEnd a t us e e
may_stay a t us e = (
  (refl, refl),
  λ h hh.
      let s = source_of e h in
      record { span = span_stay _ s.span; each = λ j _. may-same _ t us s.distance j (record_at s j) },
)

module _ (a : Action) (t : Moment) (us : List ℕ) (e : End) where
  -- one source is another
  may-source : (k : Host) (x : Source) → MaySource (cause_of t a k.0 (source_at e k).pair) t us (source_at e k) x → MayEnd a t us e (with_source e k x)
  may-source k x q = (
    (refl, refl),
    λ h hh. set_elim (MaySource (cause_of t a h (source_of e h).pair) t us (source_of e h)) e.sources k.0 h x no_source
        (λ i. subst (λ l. MaySource (cause_of t a l (source_of e l).pair) t us (source_of e l) x) (sym i) q) ((may_stay a t us e).1 h hh),
  )

  -- one record of one source, in first..last, is another
  may_record : (f : SoundState e) (name : Name) → name.source.0 < 8 → within (source_at e name.source).span name.number.0 ≡ true → (r : Record)
      → May (cause_of t a name.source.0 (source_at e name.source).pair) t us (distance_to e name.source) name.number.0
      (record_at (source_at e name.source) name.number.0) r
      → MayEnd a t us e (with_source e name.source (with_record (source_at e name.source) name.number.0 r))
  may_record f name hs w r q =
      let s = source_at e name.source in
      let here = f.each name.source.0 hs in
      let c = cause_of t a name.source.0 s.pair in
      may-source name.source (with_record s name.number.0 r) (record {
        span = span_stay _ s.span;
        each = λ j _. store_elim (May c t us s.distance j (record_at s j)) s name.number.0 r j (narrow s.span (span_in _ _ _ _ _ s here))
            w here.names
            (λ i. subst (λ k. May c t us s.distance k (record_at s k) r) (sym i) q)
            (may-same c t us s.distance j (record_at s j));
      })

-- ---- the events
module _ (t : Moment) (us : List ℕ) (e : End) where
  cleared-may : (c : Cause) → c.empties ≡ true → (me h : ℕ) → h < 8 → MaySource c t us (source_of e h) (get_or (unheard_sources me) h no_source)
  cleared-may c k me h hh =
      let now = get_or (unheard_sources me) h no_source in
      let shut = (unheard-at me h hh).0 in
      record {
        span = rw shut (closes (source_of e h).span);
        each = λ j _. record {
          slot = rw (at_outside now j (rw shut)) (empties c t us (source_of e h).distance j k (record_at (source_of e h) j).slot);
          cue = λ kept _. clash (sym k ∙ kept);
        };
      }
    where
      closes : (x : Span) → SpanMayBecome c.empties x Closed
      closes Closed = tt
      closes (Open first last) = k

  move-may : (m : Move) → MayEnd (Moves m) t us e (move_of m e).left
  unfolding move_of moved_end
  move-may m =
      let stay = may_stay (Moves m) t us e in
      by_cond (λ (s : Step). MayEnd (Moves m) t us e s.left) (moves m e.status)
      (λ _. by_cond (MayEnd (Moves m) t us e) (clears m) (λ k. ((refl, refl), cleared-may _ k e.host.0)) (λ _. stay)) (λ _. stay)

  heard_end_may : (bytes : List ℕ) (p : End) → HeardEnd t us (meaning_from bytes) e p → MayEnd (Arrival bytes) t us e p
  heard_end_may bytes p q = (
    (q.same.host, q.same.params),
    λ h hh.
        let m = meaning_from bytes in
        let now = q.sources h hh in
        let was = source_of e h in
        record {
          span = span-may false (is_data_of m h) was.span (source_of p h).span now.rest.0;
          each = λ j kept.
              let each = now.each j kept in
              record {
                slot = heard-may _ t us was.distance j (carried_by m h j) (asks m h j)
                    (record_at was j).slot (record_at (source_of p h) j).slot each.slots;
                cue = λ _ held. (each.held held).1;
              };
        },
  )

-- the own next number was outside; every other is as it was, or is retired
sent-may : (c : Cause) → c.empties ≡ false → (t : Moment) (us : List ℕ) (e : End) → sound_of e ≡ true → (cue : List ℕ)
    → MaySource c t us (source_at e e.host) (sent_source t us e.next cue (source_at e e.host))
sent-may c unemptied t us e sound cue = record {
  span = subst (λ (b : Bool). SpanMayBecome b s.span x.span)
      (sym unemptied) (span-now s.span thin);
  each = each;
}
  where
    s : Source
    s = source_at e e.host

    n : ℕ
    n = e.next

    sized : length s.names ≡ 64
    sized = ((facts e sound).each e.host.0 (facts e sound).host).names

    thin : Narrow s.span
    thin = (own-ends e sound).1

    ends : Ends n s.span
    ends = (own-ends e sound).0

    span-now : (x : Span) → Narrow x → SpanMayBecome false x (extended t us n s x).span
    span-now Closed o = tt
    span-now (Open first last) o = subst (SpanMayBecome false (Open first last)) (sym (rise-span _ n s first last)) (rise-moves n first last o)

    x : Source
    x = extended t us n s s.span

    r : Record
    r = holding (record_at x n) cue

    narrow_now : Narrow x.span
    narrow_now = extended_narrow t us n s sized s.span refl thin

    here : within x.span n ≡ true
    here = next-inside t us n s sized s.span ends thin

    each : (j : ℕ) → retires s.span x.span j ≡ false → May c t us s.distance j (record_at s j) (record_at (with_record x n r) j)
    each j kept = by_test (eqb j n)
        (λ b.
        let now = read_same x n r here (extended-length t us n s sized s.span ∙ sized) in
        let was = at_outside s n (next_outside n s.span ends) in
        let held : May c t us s.distance n blank_record r = record { slot = refl; cue = λ _ h. clash' h } in
        subst (λ k. May c t us s.distance k (record_at s k) (record_at (with_record x n r) k)) (sym (eqb-true j n b))
        (subst (λ y. May c t us s.distance n y (record_at (with_record x n r) n)) (sym was)
        (subst (May c t us s.distance n blank_record) (sym now) held)))
        (λ b.
        let same = may-same c t us s.distance j (record_at s j) in
        subst (May c t us s.distance j (record_at s j)) (sym (read_other x n r j narrow_now here b))
        (extended_elim t us n s sized (May c t us s.distance j (record_at s j)) s.span refl ends j b (λ _. same)
        (λ out. subst (May c t us s.distance j (record_at s j))
        (at_outside s j (outside_before s.span x.span j (span-now s.span thin) thin kept out)) same)))

-- Fire changes the record of the wait that is chosen
fired-may : (us : List ℕ) (e : End) → SoundState e → (x : Earliest) → earliest e 8 ≡ x → MayEnd (Else Fire) (moment_of e) us e (fired us e x).left
unfolding fired waits_at fire_at
fired-may us e f NoWait p = may_stay (Else Fire) (moment_of e) us e
fired-may us e f (First w) p = go (choice_is_earliest e w p).due
  where
    name : Name
    name = w.name

    n : ℕ
    n = name.number.0

    s : Source
    s = source_at e name.source

    c : Cause
    c = cause_of (moment_of e) (Else Fire) name.source.0 s.pair

    Becomes : Slot → Slot → Type 0
    Becomes = MayBecome c (moment_of e) us s.distance n

    go : IsDue e w → MayEnd (Else Fire) (moment_of e) us e (fire_at us w.rank w.name e (record_at s n).slot).left
    go d = fires_as (λ (r : Step). MayEnd (Else Fire) (moment_of e) us e r.left) us e w (record_at s n).slot d.waits
        (λ q i k. may_record (Else Fire) (moment_of e) us e f name d.source (waits-inside s n q (ap request_in i)) (expressed Unset (record_at s n)) (record {
          slot = subst (λ (z : Slot). Becomes z (with_express Unset z)) (sym i) (inl (refl, inr (refl, d.due, refl)));
          cue = λ _ _. refl;
        }))
        (λ q y i time k. may_record (Else Fire) (moment_of e) us e f name d.source (waits-inside s n q (ap request_in i)) (asking (record_at s n) _) (record {
          slot = subst (λ (z : Slot). Becomes z (Waiting (request_at (moment_of e) us s.distance n (next_round q.round)) (express_in z))) (sym i)
              (inr (inr (omega (arith, time, d.due)), refl, refl));
          cue = λ _ _. refl;
        }))
        (λ j i k. may_record (Else Fire) (moment_of e) us e f name d.source (held-inside s n (ap is_held i)) (quieted (record_at s n) _)
        (record { slot = quiets c (moment_of e) us s.distance n (record_at s n).slot; cue = λ _ _. refl }))

other-may : (us : List ℕ) (o : Other) (e : End) → SoundState e → MayEnd (Else o) (moment_of e) us e (other_of us o e).left
unfolding record_at
other-may us Fire e f = fired-may us e f (earliest e 8) refl
other-may us Report e f = may_stay (Else Report) (moment_of e) us e
other-may us Announce e f =
    let stay = may_stay (Else Announce) (moment_of e) us e in
    announce-cases (λ (r : Step). MayEnd (Else Announce) (moment_of e) us e r.left) e stay (λ bytes. stay)
other-may us (Fetch name) e f =
    let t = moment_of e in
    let stay = may_stay (Else (Fetch name)) t us e in
    fetch-cases (λ (r : Step). MayEnd (Else (Fetch name)) t us e r.left) name e stay stay
    (λ bytes l. (
      (refl, refl),
      λ h hh.
          let q = stay.1 h hh in
          marked_at (MaySource (cause_of t (Else (Fetch name)) h (source_of e h).pair) t us (source_of e h)) e name.source l h q
          (record { span = q.span; each = q.each }),
    ))

pub acts_may : (e : End) (a : Action) (clock : ℕ) (us : List ℕ) → Passed e a clock → MayEnd a (moment_at e clock) us e (act_of us a (with_clock e clock)).left
unfolding act_of
acts_may e (Moves m) clock us z = move-may (moment_at e clock) us (with_clock e clock) m
acts_may e (Send cue) clock us z =
    let t = moment_at e clock in
    let stay = may_stay (Send cue) t us e in
    by_cond (λ (s : Step). MayEnd (Send cue) t us e s.left) (is_member e.status)
    (λ member. may-source (Send cue) t us e e.host _ (sent-may _ refl t us e z.sound cue)) (λ _. stay)
acts_may e (Arrival bytes) clock us z = heard_end_may (moment_at e clock) us e bytes _ (passed-heard e bytes clock us z)
acts_may e (Else o) clock us z =
    let t = moment_at e clock in
    let stay = may_stay (Else o) t us e in
    by_cond (λ (s : Step). MayEnd (Else o) t us e s.left) (is_member e.status)
    (λ _. other-may us o (with_clock e clock) (clock-kept e clock (facts e z.sound) z.later z.ticks)) (λ _. stay)

may_become : (e : End) (a : Action) (clock room : ℕ) (us : List ℕ) → MayEnd a (moment_at e clock) us e (event_of e a clock room us).left
may_become e a clock room us =
    let stay = may_stay a (moment_at e clock) us e in
    call-cases (λ (r : Result). MayEnd a (moment_at e clock) us e r.left) e a clock room us (λ k. stay) (λ z c. stay)
    (λ z c. acts_may e a clock us z)

pub host_and_params_stay : HostAndParamsStay
host_and_params_stay e a clock room us = (may_become e a clock room us).0

pub spans_may_become : SpansMayBecome
spans_may_become e a clock room us h hh = ((may_become e a clock room us).1 h hh).span

pub retired_are_gone : RetiredAreGone
retired_are_gone e a clock room us h n gone =
    let left = (event_of e a clock room us).left in
    at_outside (source_at left (as_host h)) n (retired_outside (source_at e (as_host h)).span (source_at left (as_host h)).span n gone)

pub slots_may_become : SlotsMayBecome
slots_may_become e a clock room us h n hh kept = (((may_become e a clock room us).1 h hh).each n kept).slot

-- ---- with every call but Leave and Crash
module _ (c : Cause) (kept : c.empties ≡ false) (t : Moment) (us : List ℕ) (d n : ℕ) where
  waits-on : (q : Request) (x : Express) (y : Slot) → MayBecome c t us d n (Waiting q x) y → ((p : Request) × (request_in y ≡ some p)) ⊎ (is_held y ≡ true)
  waits-on q x Empty h = clash' (sym kept ∙ h)
  waits-on q x (Held reply) h = inr refl
  waits-on q x (Waiting p y) h = inl (p, refl)

  held_on : (x y : Slot) → is_held x ≡ true → MayBecome c t us d n x y → is_held y ≡ true
  held_on Empty y p h = clash' p
  held_on (Held reply) Empty p h = clash' (sym kept ∙ h)
  held_on (Held reply) (Held now) p h = refl
  held_on (Held reply) (Waiting q x) p h = absurd h
  held_on (Waiting q x) y p h = clash' p

pub waits_until_held : WaitsUntilHeld
waits_until_held e a clock room us h n q hh kept before stays =
    let t = moment_at e clock in
    let c = cause_of t a h (source_at e (as_host h)).pair in
    let d = distance_to e (as_host h) in
    let now = slot_of (event_of e a clock room us).left h n in
    waits-on c kept t us d n q (express_in (slot_of e h n)) now
    (subst (λ (x : Slot). MayBecome c t us d n x now) (waits_as (slot_of e h n) q before) (slots_may_become e a clock room us h n hh stays))

pub held_until_cleared : HeldUntilCleared
held_until_cleared e a clock room us h n hh kept before stays =
    let may = ((may_become e a clock room us).1 h hh).each n stays in
    let t = moment_at e clock in
    let now = slot_of (event_of e a clock room us).left h n in
    (held_on (cause_of t a h (source_at e (as_host h)).pair) kept t us (distance_to e (as_host h)) n (slot_of e h n) now before may.slot, may.cue kept before)

-- ---- through any calls but these, as long as first has not passed the number
below-through : (cs : List OneCall) (e : End) (h n : ℕ) → h < 8 → NoneClears cs → is_below (source_at e (as_host h)).span n ≡ true
    → is_below (source_at (after_all e cs) (as_host h)).span n ≡ true
below-through [] e h n hh kept p = p
below-through (c ∷ cs) e h n hh kept p =
    let was = (source_at e (as_host h)).span in
    let now = (source_at (after e c) (as_host h)).span in
    let moved = subst (λ (b : Bool). SpanMayBecome b was now) kept.0 (spans_may_become e c.action c.clock c.room c.draws h hh) in
    below-through cs (after e c) h n hh kept.1 (below_stays was now n moved p)

-- so the first of them does not retire it
first-keeps : (c : OneCall) (cs : List OneCall) (e : End) (h n : ℕ) → h < 8 → NoneClears cs
    → is_below (source_at (after_all (after e c) cs) (as_host h)).span n ≡ false
    → retired e (after e c) h n ≡ false
first-keeps c cs e h n hh kept above = by_test (retired e (after e c) h n)
    (λ gone.
    let passed = retired-below (source_at e (as_host h)).span (source_at (after e c) (as_host h)).span n gone in
    clash (sym (below-through cs (after e c) h n hh kept passed) ∙ above))
    (λ stays. stays)

pub held-through : HeldThrough
held-through [] e h n hh kept p above = (p, refl)
held-through (c ∷ cs) e h n hh kept p above =
    let stays = first-keeps c cs e h n hh kept.1 above in
    let one = held_until_cleared e c.action c.clock c.room c.draws h n hh kept.0 p stays in
    let rest = held-through cs (after e c) h n hh kept.1 one.0 above in
    (rest.0, rest.1 ∙ one.1)

pub waits_or_held_through : WaitsOrHeldThrough
waits_or_held_through [] e h n q hh kept p above = inl (q, p)
waits_or_held_through (c ∷ cs) e h n q hh kept p above =
    let stays = first-keeps c cs e h n hh kept.1 above in
    ⊎_elim (λ waits. waits_or_held_through cs (after e c) h n waits.0 hh kept.1 waits.1 above)
    (λ held. inr (held-through cs (after e c) h n hh kept.1 held above).0)
    (waits_until_held e c.action c.clock c.room c.draws h n q hh kept.0 p stays)
