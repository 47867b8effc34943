-- The statements of specs/BackOff.antt: rounds and due times, what is heard in a quiet time; then from an opening, through lists of
-- calls: rounds, who set the request that waits, its quiet time, and the end of repeated Fire.
use mathlib.Core.Path.{◌≡◌, refl, sym, ap, ◌∙◌, subst}
use mathlib.Core.Bool.{Bool, true, false, ◌&&◌, ◌||◌}
use mathlib.Core.List.{List, [], ◌∷◌}
use mathlib.Core.Logic.{◌⊎◌, inl, inr, ⊎_elim}
use mathlib.Core.Option.{some}
use Prim.Native.Nat.{ℕ, ◌+◌, ◌*◌, ◌≤◌, ◌<◌, zero, suc}
use native.Mathlib.Nat.{mul-le-mul}
use native.Mathlib.Omega.{arith}
use lib.ListN.{length}
use lib.Seq.{set-get_or}
use lib.Dec.{eqb}
use borrow.Author.Tests.{ltb-true, eqb-true, eq-eqb}
use Rattle.message.specs.declared.Host.{Host}
use Rattle.message.specs.declared.Name.{Name}
use Rattle.message.specs.Entry.{as_host, as_number}
use Rattle.message.specs.Message.{DATA, RQST, REPL, XPRS, Meaning, meaning_with, meaning_from}
use Rattle.message.specs.Question.{same_host, host_in, ask}
use Rattle.message.proofs.QuestionLaws.{and_both, all-passed}
use Rattle.end.specs.declared.Params.{Params}
use Rattle.end.specs.declared.Request.{Request}
use Rattle.end.specs.Parts.{Express, Unset, Soon, Span}
use Rattle.end.specs.declared.Slot.{Slot}
use Rattle.end.specs.declared.Slot.TheVariants.{Empty, Held, Waiting}
use Rattle.end.specs.declared.Record.{Record}
use Rattle.end.specs.declared.Source.{Source}
use Rattle.end.specs.declared.End.{End}
use Rattle.end.specs.declared.Moment.{Moment}
use Rattle.end.specs.declared.Says.{Says}
use Rattle.end.specs.declared.Says.TheVariants.{Data, Rqst, Repl, Xprs}
use Rattle.end.specs.declared.Decision.{Decision}
use Rattle.end.specs.declared.Decision.TheVariants.{Ignores, Opens, Takes, Repairs, Hushes, Replies, Learns, BacksOff, Clashes, Expresses}
use Rattle.end.specs.State.{distance_to, moment_of, with_clock, no_source, source_at, is_member, with_sources}
use Rattle.end.specs.Records.{is_held, is_below, within, place, record_at, express_in}
use Rattle.end.specs.Round.{Drawn, draw_at, factor, share, request_at, next_round}
use Rattle.end.specs.Answer.{Result, Ignored, Step, give, done}
use Rattle.end.specs.Sound.{sound_of, all_of, params_tests, delay_in}
use Rattle.end.specs.Decide.{decide, apply, effect_of, step_by, step_at}
use Rattle.end.specs.Arrival.{message_name, word_of, message_step, arrival_of}
use Rattle.end.specs.Fire.{request_rank}
use Rattle.end.specs.Event.{Action, event_of, Arrival, act_of, step_of, question_of}
use Rattle.end.specs.Opening.{opening_of, constrained_tests, open_refusal, end_for}
use Rattle.end.proofs.Bounds.{share-most, factor-least}
use Rattle.end.proofs.Facts.{facts, unheard-at}
use Rattle.end.proofs.Grounds.{is_request, Grounds, grounds}
use Rattle.end.proofs.Readings.{reads, in_range_lem}
use Rattle.end.proofs.RecordLaws.{at_outside}
use Rattle.end.proofs.SoundLaws.{nth}
use Rattle.end.proofs.Tools.{by_cond, by_test, clash, clash'}
use Rattle.invariants.proofs.Questions.{Passed, passes}
use Rattle.invariants.proofs.Stays.{opens-sound, stays-sound}
use Rattle.guarantees.specs.Calls.{moment_at, OneCall, after, after_all}
use Rattle.guarantees.specs.Waits.{wait_of, waits_in, waits_at, Among}
use Rattle.guarantees.specs.Records.{slot_of, request_in, request_of, retired, Cause, MayBecome, HeardAs}
use Rattle.guarantees.specs.Arrivals.{hear, is_about, asks, express_by}
use Rattle.guarantees.specs.Fires.{OpenedFiringEnds, OpenedC3BelowC1}
use Rattle.guarantees.specs.BackOff.{cause_of, asks_for, RoundsRise, SetNow, SetOrKept, Hearing, heard_all, OncePerQuiet, AlwaysDue, QuietIgnores, RoundsThrough, SetIn, DrawsFit, CuesAreArrays, AlwaysSet, QuietBeforeDue, OneRoundPerQuiet}
use Rattle.guarantees.proofs.Names.{sound-waits, waits_as, waits-inside, inside_not_above, waiting-not, far}
use Rattle.guarantees.proofs.Calls.{call-cases, member_not_crashed}
use Rattle.guarantees.proofs.Arrivals.{held_stays, slots_as_heard, spans_as_heard}
use Rattle.guarantees.proofs.Retired.{retired-below, inside_unretired, below_stays}
use Rattle.guarantees.proofs.Messages.{span-may}
use Rattle.guarantees.proofs.Slots.{acts_may, slots_may_become, host_and_params_stay}
use Rattle.guarantees.proofs.Fires.{due_means_out, firing-ends}

-- what waits afterwards is not retired
waits_kept : (e left : End) (h n : ℕ) (p : Request) → request_of left h n ≡ some p → retired e left h n ≡ false
waits_kept e left h n p now =
    inside_unretired (source_at e (as_host h)).span (source_at left (as_host h)).span n (waits-inside (source_at left (as_host h)) n p now)

-- from a request that waits to one that waits: it is the same, or the next
module _ (c : Cause) (t : Moment) (us : List ℕ) (d n : ℕ) where
  abbrev pub SameOrNext : Request → Request → Type 0
  SameOrNext q p = (p ≡ q) ⊎ (((q.quiet < t.clock) ⊎ (q.due ≤ t.clock)) × (p ≡ request_at t us d n (next_round q.round)))

  both_wait : (q p : Request) (x y : Express) → MayBecome c t us d n (Waiting q x) (Waiting p y) → SameOrNext q p
  both_wait q p x y h = ⊎_elim (λ same. inl same.0) (λ next. inr (next.0, next.1)) h

  between : (x y : Slot) (q p : Request) → request_in x ≡ some q → request_in y ≡ some p → MayBecome c t us d n x y → SameOrNext q p
  between x y q p before now h = both_wait q p (express_in x) (express_in y)
      (subst (λ (z : Slot). MayBecome c t us d n z (Waiting p (express_in y))) (waits_as x q before)
      (subst (MayBecome c t us d n x) (waits_as y p now) h))

-- one call
pub call-between : (e : End) (a : Action) (clock room : ℕ) (draws : List ℕ) (h n : ℕ) (q p : Request) → h < 8
    → request_of e h n ≡ some q → request_of (event_of e a clock room draws).left h n ≡ some p
    → SameOrNext (cause_of (moment_at e clock) a h (source_at e (as_host h)).pair) (moment_at e clock) draws (distance_to e (as_host h)) n q p
call-between e a clock room draws h n q p hh before now =
    let left = (event_of e a clock room draws).left in
    between _ (moment_at e clock) draws (distance_to e (as_host h)) n (slot_of e h n) (slot_of left h n) q p before now
    (slots_may_become e a clock room draws h n hh (waits_kept e left h n p now))

-- from a round up to 16
pub round-step : (e : End) (a : Action) (clock room : ℕ) (draws : List ℕ) (h n : ℕ) (q p : Request) → q.round ≤ 16 → h < 8
    → request_of e h n ≡ some q → request_of (event_of e a clock room draws).left h n ≡ some p
    → (q.round ≤ p.round) × (p.round ≤ q.round + 1) × (p.round ≤ 16)
round-step e a clock room draws h n q p most hh before now =
    ⊎_elim (λ same. let k = ap (λ (r : Request). r.round) same in (omega arith, omega arith, omega arith))
    (λ next. let k : p.round ≡ next_round q.round = ap (λ (r : Request). r.round) next.1 in (omega arith, omega arith, omega arith))
    (call-between e a clock room draws h n q p hh before now)

pub rounds-rise : RoundsRise
rounds-rise e a clock room draws h n q p sound hh before now =
    round-step e a clock room draws h n q p (sound-waits e sound h n hh q before).most hh before now

-- ---- a request that is set

pub set-now : (e : End) (clock : ℕ) (draws : List ℕ) (h n : ℕ) (p : Request) (k : ℕ) → sound_of e ≡ true → Drawn draws → 1 ≤ k → k ≤ 16
    → p ≡ request_at (moment_at e clock) draws (distance_to e (as_host h)) n k → SetNow e clock draws h n p
set-now e clock draws h n p k sound bytes least most is =
    let t = moment_at e clock in
    let d = distance_to e (as_host h) in
    let round : p.round ≡ k = ap (λ (r : Request). r.round) is in
    let due = ap (λ (r : Request). r.due) is in
    let most-drawn : share (factor k * e.params.c2 * d) (draw_at draws n) ≤ factor k * e.params.c2 * d =
    share-most (factor k * e.params.c2 * d) (draw_at draws n) (bytes (place n)) in
    let both : factor k * (e.params.c1 + e.params.c2) * d ≡ factor k * e.params.c1 * d + factor k * e.params.c2 * d = omega arith in
    record {
      sound = sound;
      least = omega arith;
      most = omega arith;
      is = is ∙ ap (request_at t draws d n) (sym round);
      not-before = rw round (omega arith);
      not_after = rw round (omega arith);
    }

set-step : (e : End) (c : Cause) (clock : ℕ) (draws : List ℕ) (h n : ℕ) (p : Request) (y : Express) → sound_of e ≡ true → Drawn draws → (x : Slot)
    → MayBecome c (moment_at e clock) draws (distance_to e (as_host h)) n x (Waiting p y) → (request_in x ≡ some p) ⊎ SetNow e clock draws h n p
set-step e c clock draws h n p y sound bytes Empty s = inr (set-now e clock draws h n p s.0 sound bytes s.1 (omega (arith, s.2)) s.3)
set-step e c clock draws h n p y sound bytes (Held reply) s = absurd s
set-step e c clock draws h n p y sound bytes (Waiting q x) s = ⊎_elim (λ same. inl (ap some (sym same)))
    (λ next. inr (set-now e clock draws h n p (next_round q.round) sound bytes (omega arith) (omega arith) next.1))
    (both_wait c (moment_at e clock) draws (distance_to e (as_host h)) n q p x y s)

pub set_or_kept : SetOrKept
set_or_kept e a clock room draws h n p bytes hh =
    call-cases (λ (r : Result). request_of r.left h n ≡ some p → (request_of e h n ≡ some p) ⊎ SetNow e clock draws h n p) e a clock room draws
    (λ k now. inl now)
    (λ z c now. inl now)
    (λ z c now.
    let left = (act_of draws a (with_clock e clock)).left in
    let t = moment_at e clock in
    let cause = cause_of t a h (source_at e (as_host h)).pair in
    set-step e cause clock draws h n p (express_in (slot_of left h n)) z.sound bytes (slot_of e h n)
    (subst (MayBecome cause t draws (distance_to e (as_host h)) n (slot_of e h n)) (waits_as (slot_of left h n) p now)
    (((acts_may e a clock draws z).1 h hh).each n (waits_kept e left h n p now)).slot))

-- ---- a quiet time

-- below first stays below first through all that arrives
below-through : (xs : List Hearing) (e : End) (h n : ℕ) → h < 8 → is_below (source_at e (as_host h)).span n ≡ true
    → is_below (source_at (heard_all e xs) (as_host h)).span n ≡ true
below-through [] e h n hh p = p
below-through (x ∷ xs) e h n hh p =
    let now = (hear e x.bytes x.clock x.room x.draws).left in
    let moves = spans_as_heard e x.bytes x.clock x.room x.draws h hh in
    let was = (source_at e (as_host h)).span in
    below-through xs now h n hh (below_stays was (source_at now (as_host h)).span n (span-may false _ was (source_at now (as_host h)).span moves) p)

-- so what is not below first in the end is not retired by the first of them
first-kept : (x : Hearing) (xs : List Hearing) (e : End) (h n : ℕ) → h < 8 → is_below (source_at (heard_all e (x ∷ xs)) (as_host h)).span n ≡ false
    → retired e (hear e x.bytes x.clock x.room x.draws).left h n ≡ false
first-kept x xs e h n hh above =
    let now = (hear e x.bytes x.clock x.room x.draws).left in
    by_test (retired e now h n)
    (λ gone. clash (sym (below-through xs now h n hh (retired-below (source_at e (as_host h)).span (source_at now (as_host h)).span n gone)) ∙ above))
    (λ kept. kept)

-- a held cue stays through all that arrives
held-through : (xs : List Hearing) (e : End) (h n : ℕ) → h < 8 → is_held (slot_of e h n) ≡ true → is_below (source_at (heard_all e xs) (as_host h)).span n ≡ false
    → is_held (slot_of (heard_all e xs) h n) ≡ true
held-through [] e h n hh p above = p
held-through (x ∷ xs) e h n hh p above =
    let now = (hear e x.bytes x.clock x.room x.draws).left in
    held-through xs now h n hh (held_stays e x.bytes x.clock x.room x.draws h n hh p (first-kept x xs e h n hh above)).0 above

-- one arrival up to quiet-until
quiet_one : (t : Moment) (us : List ℕ) (d n : ℕ) (a b : Bool) (new : Express) (q : Request) (x : Express) (y : Slot) → t.clock ≤ q.quiet
    → HeardAs t us d n a b new (Waiting q x) y → (request_in y ≡ some q) ⊎ (is_held y ≡ true)
quiet_one t us d n a b new q x Empty l h = absurd h
quiet_one t us d n a b new q x (Held reply) l h = inr refl
quiet_one t us d n a b new q x (Waiting p y) l h = ⊎_elim (λ same. inl (ap some same)) (λ next. let late = next.1 in absurd (omega arith)) h.0

pub once_per_quiet : OncePerQuiet
once_per_quiet e h n q hh p [] by above = inl p
once_per_quiet e h n q hh p (x ∷ xs) by above =
    let now = (hear e x.bytes x.clock x.room x.draws).left in
    let t = moment_at e x.clock in
    let d = distance_to e (as_host h) in
    let kept = first-kept x xs e h n hh above in
    let m = meaning_from x.bytes in
    let new = express_by t m h (source_at e (as_host h)).pair in
    ⊎_elim (λ same. once_per_quiet now h n q hh same xs by.1 above)
    (λ held. inr (held-through xs now h n hh held above))
    (quiet_one t x.draws d n (is_about DATA m h n || is_about REPL m h n) (asks m h n) new q (express_in (slot_of e h n)) (slot_of now h n) by.0
    (rw (waits_as (slot_of e h n) q p) at (slots_as_heard e x.bytes x.clock x.room x.draws h n hh kept)))

-- ---- always a due time
request-among : (name : Name) (q : Request) (x : Express) → Among (wait_of name request_rank q.due) (waits_in name (Waiting q x))
unfolding waits_in
request-among name q Unset = inl refl
request-among name q (Soon due) = inr (inl refl)

pub always_due : AlwaysDue
unfolding waits_at
always_due e h n q sound hh p =
    let name : Name = record { source = as_host h; number = as_number n } in (
      (sound-waits e sound h n hh q p).due,
      λ clock room draws f l. due_means_out e clock room draws f (wait_of name request_rank q.due) (record {
        source = hh;
        waits = subst (λ (x : Slot). Among (wait_of name request_rank q.due) (waits_in name x)) (sym (waits_as (slot_of e h n) q p)) (request-among name q _);
        due = l;
      }),
    )

-- ---- what is Ignored in a quiet time

-- a step that is Ignored and changes nothing
abbrev Ignores-all : End → Step → Type 0
Ignores-all e step = step ≡ give Ignored e

module _ (us : List ℕ) (m : Meaning) (e : End) (q : Request)
    (waiting : request_in (record_at (source_at e (message_name m).source) (message_name m).number.0).slot ≡ some q) (quiet : e.clock ≤ q.quiet)
    (says : Says) (asks : is_request says ≡ true) where
  abbrev s₀ : Source
  s₀ = source_at e (message_name m).source

  abbrev n₀ : ℕ
  n₀ = (message_name m).number.0

  -- the cue is not held
  lacks : is_held (record_at s₀ n₀).slot ≡ false
  lacks = ap is_held (waits_as (record_at s₀ n₀).slot q waiting)

  no_repair : says ≡ Repl → ⊥
  no_repair p = clash' (sym (ap is_request p) ∙ asks)

  no_original : says ≡ Data → ⊥
  no_original p = clash' (sym (ap is_request p) ∙ asks)

  -- every decision but to ignore it has grounds that do not hold here
  decided : (d : Decision) → Grounds (moment_of e) (word_of says m e) (record_at s₀ n₀) s₀.span d → Ignores-all e (step_by (moment_of e) us (word_of says m e) e d)
  unfolding Grounds apply effect_of
  decided (Ignores why) g = ap (λ (l : List Source). give Ignored (with_sources e l)) (set-get_or e.sources (message_name m).source.0 no_source)
  decided Opens g = absurd (no_original g.0)
  decided Takes g = absurd (no_original g.0)
  decided Repairs g = absurd (no_repair g.0)
  decided Hushes g = absurd (no_repair g.0)
  decided Replies g = clash (sym g.1.held ∙ lacks)
  decided Learns g = absurd (inside_not_above s₀.span n₀ (waits-inside s₀ n₀ q waiting) g.2)
  decided Clashes g = clash (sym g.1 ∙ lacks)
  decided (BacksOff k) g =
      let z : some q ≡ some g.1.request = sym waiting ∙ ap request_in g.1.waits in
      let same : q ≡ g.1.request = cc in
      absurd (omega (arith, ap (λ (r : Request). r.quiet) same, g.1.over, quiet))
  decided Expresses g = clash (sym g.1 ∙ lacks)

  word_ignored : Ignores-all e (step_at (moment_of e) us (word_of says m e) e)
  unfolding step_at
  word_ignored =
      let w = word_of says m e in
      decided (decide (moment_of e) w s₀) (grounds (moment_of e) w (record_at s₀ n₀) s₀.span)

message-ignored : (us : List ℕ) (m : Meaning) (e : End) (q : Request)
    → request_in (record_at (source_at e (message_name m).source) (message_name m).number.0).slot ≡ some q → e.clock ≤ q.quiet
    → asks_for m.kind ≡ true → Ignores-all e (arrival_of us m e)
unfolding arrival_of message_step
message-ignored us m e q waiting quiet kind =
    let Quiet = Ignores-all e in
    let is : (k : ℕ) → eqb m.kind k ≡ true → asks_for k ≡ true = λ k t. subst (λ (i : ℕ). asks_for i ≡ true) (eqb-true m.kind k t) kind in
    by_cond Quiet (same_host m.sender e.host) (λ _. refl)
    (λ _. by_cond Quiet (eqb m.kind DATA) (λ t. clash' (is DATA t))
    (λ _. by_cond Quiet (eqb m.kind RQST) (λ _. word_ignored us m e q waiting quiet Rqst refl)
    (λ r. by_cond Quiet (eqb m.kind REPL) (λ t. clash' (is REPL t))
    (λ _. by_cond Quiet (eqb m.kind XPRS) (λ _. word_ignored us m e q waiting quiet Xprs refl)
    (λ x. clash' (sym (λ i. r i || x i) ∙ kind))))))

pub quiet-ignores : QuietIgnores
unfolding event_of step_of act_of meaning_with
quiet-ignores e [] clock room draws q asked kind p l = clash' kind
quiet-ignores e (b ∷ t) clock room draws q asked kind p l =
    let bytes : List ℕ = b ∷ t in
    let m = meaning_from bytes in
    let s = source_at e (message_name m).source in
    let z : Passed e (Arrival bytes) clock = passes e (Arrival bytes) clock room (length draws) asked in
    let fits = in_range_lem bytes m (reads bytes z.own) in
    let f = facts e z.sound in
    let member : is_member e.status ≡ true = by_test (is_member e.status) (λ t. t)
    (λ t. clash' (sym (ap (λ (x : Span). within x (message_name m).number.0) (f.aside t (message_name m).source.0 fits.source)) ∙ waits-inside s (message_name m).number.0 q p)) in
    let step = message-ignored draws m (with_clock e clock) q p l kind in
    rw (eq-eqb (question_of e (Arrival bytes) clock room (length draws)) 0 asked, member_not_crashed e.status member, member) (ap done step)

-- ---- an opening

pub opened_c3_below_c1 : OpenedC3BelowC1
unfolding opening_of open_refusal
opened_c3_below_c1 h p = go (open_refusal h p) refl
  where
    go : (k : ℕ) → open_refusal h p ≡ k → (end_for k h p).params.c3 < (end_for k h p).params.c1
    go zero q =
        let last = ask (delay_in p) 14 ∷ [] in
        let twelve = all-passed (host_in h) 12 (ask (all_of (params_tests p) && all_of (constrained_tests p)) 13 ∷ last) (omega arith) q in
        let thirteen = all-passed (all_of (params_tests p) && all_of (constrained_tests p)) 13 last (omega arith) twelve.1 in
        ltb-true p.c3 p.c1 (nth (constrained_tests p) 0 (and_both (all_of (params_tests p)) _ thirteen.0).1)
    go (suc k) q = omega arith

-- a fresh end has nothing of any name
opened_empty : (me : Host) (p : Params) (h n : ℕ) → h < 8 → slot_of (opening_of me p).end h n ≡ Empty
unfolding opening_of
opened_empty me p h n hh = go (open_refusal me p)
  where
    go : (k : ℕ) → slot_of (end_for k me p) h n ≡ Empty
    go zero = ap (λ (r : Record). r.slot) (at_outside (source_at (end_for zero me p) (as_host h)) n (rw (unheard-at me.0 h hh).0))
    go (suc k) = ap (λ (r : Record). r.slot) (at_outside (source_at (end_for (suc k) me p) (as_host h)) n (rw (unheard-at 0 h hh).0))

-- ---- calls one after the other

same-waiting : (x : Slot) (q p : Request) → request_in x ≡ some q → request_in x ≡ some p → q ≡ p
same-waiting x q p a b = let z : some q ≡ some p = sym a ∙ b in cc

pub rounds-through : RoundsThrough
rounds-through [] e h n q p hh most before through now =
    let k = ap (λ (r : Request). r.round) (same-waiting (slot_of e h n) q p before now) in
    (omega arith, omega arith, omega arith)
rounds-through (c ∷ cs) e h n q p hh most before through now =
    let next = through.0.0 in
    let one = round-step e c.action c.clock c.room c.draws h n q next most hh before through.0.1 in
    let rest = rounds-through cs (after e c) h n next p hh one.2 through.0.1 through.1 now in
    (omega (arith, one.0, rest.0), omega (arith, one.1, rest.1), rest.2)

-- a request that waits after the calls waited before them, or one of them set it
set_in : (cs : List OneCall) (e : End) (h n : ℕ) (p : Request) → DrawsFit cs → h < 8 → request_of (after_all e cs) h n ≡ some p
    → (request_of e h n ≡ some p) ⊎ SetIn h n p e cs
set_in [] e h n p bytes hh now = inl now
set_in (c ∷ cs) e h n p bytes hh now =
    ⊎_elim (λ here. ⊎_elim (λ kept. inl kept) (λ set. inr (inl (set, here))) (set_or_kept e c.action c.clock c.room c.draws h n p bytes.0 hh here))
    (λ later. inr (inr later))
    (set_in cs (after e c) h n p bytes.1 hh now)

pub always_set : AlwaysSet
always_set me params cs h n p bytes hh now =
    ⊎_elim (λ here. waiting-not (slot_of (opening_of me params).end h n) p (opened_empty me params h n hh) here)
    (λ set. set) (set_in cs (opening_of me params).end h n p bytes hh now)

-- ---- what stays

pub kept-through : (cs : List OneCall) (e : End) → ((after_all e cs).host ≡ e.host) × ((after_all e cs).params ≡ e.params)
kept-through [] e = (refl, refl)
kept-through (c ∷ cs) e =
    let rest = kept-through cs (after e c) in
    let one = host_and_params_stay e c.action c.clock c.room c.draws in
    (rest.0 ∙ one.0, rest.1 ∙ one.1)

-- ---- a request's quiet time ends before it is due

less_product : (f a b d : ℕ) → 1 ≤ f → a < b → 1 ≤ d → f * a * d < f * b * d
less_product f a b d hf l hd =
    let more : f * (a + 1) * d ≤ f * b * d = mul-le-mul (mul-le-mul {n₁ = f} {n₂ = f} (omega arith) (omega arith)) (omega arith) in
    let one : 1 * 1 ≤ f * d = mul-le-mul hf hd in
    let sum : f * (a + 1) * d ≡ f * a * d + f * d = omega arith in
    omega arith

pub set-quiet : (e : End) (clock : ℕ) (draws : List ℕ) (h n : ℕ) (q : Request) → h < 8 → e.params.c3 < e.params.c1 → same_host (as_host h) e.host ≡ false → SetNow e clock draws h n q → q.quiet < q.due
set-quiet e clock draws h n q hh l other s =
    let quiet : q.quiet ≡ clock + factor q.round * e.params.c3 * distance_to e (as_host h) = ap (λ (r : Request). r.quiet) s.is in
    let less = less_product (factor q.round) e.params.c3 e.params.c1 (distance_to e (as_host h)) (factor-least q.round) l (far e s.sound h hh other) in
    let due = s.not-before in
    omega arith

set_in_quiet : (cs : List OneCall) (e : End) (h n : ℕ) (q : Request) → h < 8 → e.params.c3 < e.params.c1 → same_host (as_host h) e.host ≡ false → SetIn h n q e cs → q.quiet < q.due
set_in_quiet [] e h n q hh l other s = absurd s
set_in_quiet (c ∷ cs) e h n q hh l other (inl s) = set-quiet e c.clock c.draws h n q hh l other s.0
set_in_quiet (c ∷ cs) e h n q hh l other (inr s) =
    let kept = host_and_params_stay e c.action c.clock c.room c.draws in
    set_in_quiet cs (after e c) h n q hh (rw kept.1 l) (ap (same_host (as_host h)) kept.0 ∙ other) s

-- sound stays sound
sound-through : (cs : List OneCall) (e : End) → DrawsFit cs → CuesAreArrays cs → sound_of e ≡ true → sound_of (after_all e cs) ≡ true
sound-through [] e bytes cues s = s
sound-through (c ∷ cs) e bytes cues s =
    sound-through cs (after e c) bytes.1 cues.1 (stays-sound e c.action c.clock c.room c.draws bytes.0 cues.0 s)

pub quiet_before_due : QuietBeforeDue
quiet_before_due me params cs h n q bytes cues hh now =
    let fresh = (opening_of me params).end in
    let sound = sound-through cs fresh bytes cues (opens-sound me params) in
    let other = (sound-waits (after_all fresh cs) sound h n hh q now).other in
    set_in_quiet cs fresh h n q hh (opened_c3_below_c1 me params) (ap (same_host (as_host h)) (sym (kept-through cs fresh).0) ∙ other) (always_set me params cs h n q bytes hh now)

-- one call up to quiet-until
quiet-call : (e : End) (c : OneCall) (h n : ℕ) (q p : Request) → h < 8 → request_of e h n ≡ some q → q.quiet < q.due → c.clock ≤ q.quiet
    → request_of (after e c) h n ≡ some p → p ≡ q
quiet-call e c h n q p hh before l by now =
    ⊎_elim (λ same. same) (λ next. ⊎_elim (λ late. absurd (omega arith)) (λ due. absurd (omega arith)) next.0)
    (call-between e c.action c.clock c.room c.draws h n q p hh before now)

pub one_round_per_quiet : OneRoundPerQuiet
one_round_per_quiet [] e h n q hh before l through by = before
one_round_per_quiet (c ∷ cs) e h n q hh before l through by =
    let same = quiet-call e c h n q through.0.0 hh before l by.0 through.0.1 in
    one_round_per_quiet cs (after e c) h n q hh (through.0.1 ∙ ap some same) l through.1 by.1

-- ---- Fire, after any calls
pub opened_firing_ends : OpenedFiringEnds
opened_firing_ends me p before clock room calls out =
    let fresh = (opening_of me p).end in
    let below = opened_c3_below_c1 me p in
    let least : 1 ≤ fresh.params.c1 = omega arith in
    let ends = firing-ends (after_all fresh before) clock room calls (rw (kept-through before fresh).1 least) out in
    omega (arith, ends.0, ends.1)
