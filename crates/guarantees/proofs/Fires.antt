-- What goes out by Fire is about the earliest wait that is due, and Nothing means that none is due. Each Fire that puts something out
-- leaves one wait less that is due: a fired request is due again only later, a fired reply or express wait is gone, and no other wait has
-- changed.
use mathlib.Core.Path.{◌≡◌, refl, sym, ap, ◌∙◌, subst}
use mathlib.Core.Bool.{Bool, true, false, cond}
use mathlib.Core.List.{List, [], ◌∷◌}
use mathlib.Core.Option.{some}
use Prim.Native.Nat.{ℕ, ◌+◌, ◌-◌, ◌*◌, ◌≤◌, ◌<◌, zero, suc}
use native.Mathlib.Nat.{mul-le-mul}
use native.Mathlib.Omega.{arith}
use lib.ListN.{length}
use lib.Seq.{get_or-set_same}
use lib.Dec.{leb}
use borrow.Author.Tests.{eq-eqb, le-leb, lt-leb, not-true}
use Rattle.numbers.proofs.Cases.{by_order}
use Rattle.message.specs.declared.Host.{Host}
use Rattle.message.specs.declared.CueNumber.{CueNumber}
use Rattle.message.specs.declared.Name.{Name}
use Rattle.message.specs.Entry.{as_host, as_number}
use Rattle.message.specs.Message.{Meaning, bytes_of}
use Rattle.message.proofs.QuestionLaws.{and_both}
use Rattle.end.specs.declared.Request.{Request}
use Rattle.end.specs.Parts.{Express, Unset, Soon, Pair, NoPair, Kept, No, Due, Earliest, NoWait, First}
use Rattle.end.specs.declared.Slot.{Slot}
use Rattle.end.specs.declared.Slot.TheVariants.{Empty, Held, Waiting}
use Rattle.end.specs.declared.Record.{Record}
use Rattle.end.specs.declared.Source.{Source}
use Rattle.end.specs.declared.End.{End}
use Rattle.end.specs.declared.Moment.{Moment}
use Rattle.end.specs.declared.Wait.{Wait}
use Rattle.end.specs.State.{source_at, is_member, moment_of, with_clock, no_source, distance_to, with_source}
use Rattle.end.specs.Records.{within, start, record_at, with_record, with_reply, express_in, with_express}
use Rattle.end.specs.Ready.{SpanIn}
use Rattle.end.specs.Round.{factor, request_at, next_round}
use Rattle.end.specs.Answer.{Effect, Out, Ignored, Nothing, Step, give, Refused, Did, Result, done}
use Rattle.end.specs.Messages.{request_message, repair_message, express_message}
use Rattle.end.specs.Sound.{time_in, is_no_pair, inside_sound, sound_of}
use Rattle.end.specs.Arrival.{message_name, message_host}
use Rattle.end.specs.Fire.{express_rank, request_rank, reply_rank, earliest, kept_sender, fire_at, fired, fire_of}
use Rattle.end.specs.Event.{Else, Fire, act_of, step_of, question_of, event_of}
use Rattle.end.proofs.Bounds.{factor-least}
use Rattle.end.proofs.Facts.{among_64, narrow}
use Rattle.end.proofs.RecordLaws.{read_same, store_elim}
use Rattle.end.proofs.Tools.{by_cond, clash, set_elim}
use Rattle.invariants.proofs.Ends.{there, clock-kept}
use Rattle.invariants.proofs.Facts.{SoundState, facts, span_in}
use Rattle.invariants.proofs.Outputs.{Written, request-written, express-written, repair-written}
use Rattle.invariants.proofs.Questions.{Passed}
use Rattle.invariants.proofs.Records.{waiting_in}
use Rattle.guarantees.specs.Waits.{waits_in, waits_at, Among, IsDue, IsEarliest, due_count, first_number, due_waits, sum_below}
use Rattle.guarantees.specs.Records.{request_in}
use Rattle.guarantees.specs.Fires.{fire, FireTaken, kind_for, TellsOf, OutIsEarliest, NothingMeansNone, NoneMeansNothing, DueMeansOut, OneLessDue, AllOut, FiringEnds}
use Rattle.guarantees.proofs.Names.{sound-waits, far}
use Rattle.guarantees.proofs.Calls.{call-cases, member_not_crashed}
use Rattle.guarantees.proofs.Choice.{choice_is_earliest, no_choice_none_due, due-inside, fires_as}
use Rattle.guarantees.proofs.Slots.{host_and_params_stay}

-- ---- the step

-- a step that puts out a message about a wait; that of a sound end is read as it was written, and an XPRS has the sender of a kept pair
pub record Tells (e : End) (w : Wait) (step : Step) : Type 0 where
  pub message : Meaning
  pub out : step.effect ≡ Out (bytes_of message)
  pub written : SoundState e → Written message
  pub kind : message.kind ≡ kind_for w.rank
  pub name : message_name message ≡ w.name
  pub sender : message.sender ≡ e.host
  pub stamp : message.stamp ≡ e.clock
  pub clock : step.left.clock ≡ e.clock
  pub kept : SoundState e → w.rank ≡ express_rank
      → (requester : Host) × (n : CueNumber) × ((source_at e w.name.source).pair ≡ Kept requester (message_host message) n)
  pub requester : w.rank ≡ reply_rank → (record_at (source_at e w.name.source) w.name.number.0).slot ≡ Held (Due w.due (message_host message))

-- a rank is one
two_ranks : {P : Type 0} (r a b : ℕ) → (a ≡ b → ⊥) → r ≡ a → r ≡ b → P
two_ranks r a b d p q = absurd (d (sym p ∙ q))

-- a pair where an express wait stands
kept_pair : (pair : Pair) → is_no_pair pair ≡ false → (requester : Host) × (n : CueNumber) × (pair ≡ Kept requester (kept_sender pair) n)
kept_pair NoPair h = clash h
kept_pair (Kept requester sender n) h = (requester, n, refl)

beside_pair : (e : End) → SoundState e → (name : Name) (q : Request) (due : ℕ)
    → (record_at (source_at e name.source) name.number.0).slot ≡ Waiting q (Soon due) → is_no_pair (source_at e name.source).pair ≡ false
beside_pair e f name q due p =
    let pair = (source_at e name.source).pair in
    let r = record_at (source_at e name.source) name.number.0 in
    let at = there e f name (λ o. let no : ◌≡◌ {A = ℕ} 0 1 = cc in omega arith) in
    let sound = (waiting_in e.host name.source pair r q (Soon due) (ap (inside_sound e.host name.source pair r) (sym p) ∙ at.sound)).express in
    not-true (is_no_pair pair) (and_both (time_in due) _ sound).1

fire-tells : (us : List ℕ) (e : End) (w : Wait) (x : Slot) → (record_at (source_at e w.name.source) w.name.number.0).slot ≡ x
    → Among w (waits_in w.name x)
    → Tells e w (fire_at us w.rank w.name e x)
unfolding fire_at
fire-tells us e w x slot h = fires_as (Tells e w) us e w x h
    (λ q i k. record {
      message = express_message (moment_of e) w.name (kept_sender (source_at e w.name.source).pair);
      out = refl;
      written = λ f. express-written e f w.name q (Soon w.due) (slot ∙ i) refl;
      kind = ap kind_for (sym k);
      name = refl;
      sender = refl;
      stamp = refl;
      clock = refl;
      kept = λ f _. kept_pair (source_at e w.name.source).pair (beside_pair e f w.name q w.due (slot ∙ i));
      requester = two_ranks w.rank express_rank reply_rank (λ d. omega arith) k;
    })
    (λ q y i time k. record {
      message = request_message (moment_of e) w.name;
      out = refl;
      written = λ f. request-written e f w.name q y (slot ∙ i);
      kind = ap kind_for (sym k);
      name = refl;
      sender = refl;
      stamp = refl;
      clock = refl;
      kept = λ f. two_ranks w.rank request_rank express_rank (λ d. omega arith) k;
      requester = two_ranks w.rank request_rank reply_rank (λ d. omega arith) k;
    })
    (λ j i k. record {
      message = repair_message (moment_of e) w.name j (record_at (source_at e w.name.source) w.name.number.0).cue;
      out = refl;
      written = λ f. repair-written e f w.name w.due j (slot ∙ i);
      kind = ap kind_for (sym k);
      name = refl;
      sender = refl;
      stamp = refl;
      clock = refl;
      kept = λ f. two_ranks w.rank reply_rank express_rank (λ d. omega arith) k;
      requester = λ _. slot ∙ i;
    })

-- either nothing is due and Nothing comes, or the earliest goes out
fire-cases : (P : Step → Type 0) (us : List ℕ) (e : End)
    → (((w : Wait) → IsDue e w → ⊥) → P (give Nothing e))
    → ((w : Wait) → IsEarliest e w → Tells e w (fired us e (First w)) → P (fired us e (First w)))
    → P (fire_of us e)
unfolding fired waits_at
fire-cases P us e nothing goes = go (earliest e 8) refl
  where
    go : (x : Earliest) → earliest e 8 ≡ x → P (fired us e x)
    go NoWait p = nothing (no_choice_none_due e p)
    go (First w) p = let first = choice_is_earliest e w p in goes w first (fire-tells us e w _ refl first.due.waits)

-- ---- the call

-- a call of Fire is refused, Ignored, or what Fire does on the end with its clock set
fire-call : (P : Result → Type 0) (e : End) (clock room : ℕ) (draws : List ℕ)
    → ((k : ℕ) → P (record { outcome = Refused k; left = e }))
    → ((x : End) → P (record { outcome = Did Ignored; left = x }))
    → (Passed e (Else Fire) clock → P (done (fire_of draws (with_clock e clock))))
    → P (fire e clock room draws)
unfolding act_of
fire-call P e clock room draws refused ignored acts = call-cases P e (Else Fire) clock room draws refused (λ z c. ignored e)
    (λ z c. by_cond (λ s. P (done s)) (is_member e.status) (λ m. acts z) (λ m. ignored (with_clock e clock)))

-- a step's effect, of what the call did
did : (a b : Effect) → Did a ≡ Did b → a ≡ b
did a b p = cc

-- what is read of a message that is read as it was written
read_tells : (e : End) (clock : ℕ) (w : Wait) (step : Step) (bytes : List ℕ) (t : Tells (with_clock e clock) w step)
    → Written t.message → bytes_of t.message ≡ bytes → SoundState (with_clock e clock) → TellsOf e clock w bytes
read_tells e clock w step bytes t is same f = subst (TellsOf e clock w) same (record {
  accepted = is.accepted;
  kind = ap (λ (m : Meaning). m.kind) is.back ∙ t.kind;
  name = ap (λ (m : Meaning). message_name m) is.back ∙ t.name;
  sender = ap (λ (m : Meaning). m.sender) is.back ∙ t.sender;
  stamp = ap (λ (m : Meaning). m.stamp) is.back ∙ t.stamp;
  kept = λ k.
      let p = t.kept f k in
      (p.0, p.1, p.2 ∙ ap (λ (m : Meaning). Kept p.0 (message_host m) p.1) (sym is.back));
  requester = λ r. t.requester r ∙ ap (λ (m : Meaning). Held (Due w.due (message_host m))) (sym is.back);
})

-- a call of Fire that puts something out
pub record Goes (e : End) (clock : ℕ) (draws bytes : List ℕ) (r : Result) : Type 0 where
  pub before : sound_of e ≡ true
  pub sound : SoundState (with_clock e clock)
  pub wait : Wait
  pub first : IsEarliest (with_clock e clock) wait
  pub tells : Tells (with_clock e clock) wait (fired draws (with_clock e clock) (First wait))
  pub is : bytes_of tells.message ≡ bytes
  pub left : r.left ≡ (fired draws (with_clock e clock) (First wait)).left

pub goes : (e : End) (clock room : ℕ) (draws bytes : List ℕ) → (fire e clock room draws).outcome ≡ Did (Out bytes) → Goes e clock draws bytes (fire e clock room draws)
goes e clock room draws bytes =
    fire-call (λ r. r.outcome ≡ Did (Out bytes) → Goes e clock draws bytes r) e clock room draws
    (λ k h. absurd (let z : ◌≡◌ {A = ℕ} 0 1 = cc in omega arith)) (λ x h. absurd (let z : ◌≡◌ {A = ℕ} 0 1 = cc in omega arith))
    (λ z. fire-cases (λ s. Did s.effect ≡ Did (Out bytes) → Goes e clock draws bytes (done s)) draws (with_clock e clock)
    (λ free h. absurd (let z : ◌≡◌ {A = ℕ} 0 1 = cc in omega arith))
    (λ w first t h.
    let same : Out (bytes_of t.message) ≡ Out bytes = sym t.out ∙ did _ (Out bytes) h in
    record { before = z.sound; sound = clock-kept e clock (facts e z.sound) z.later z.ticks; wait = w; first = first; tells = t; is = cc; left = refl }))

pub out_is_earliest : OutIsEarliest
out_is_earliest e clock room draws bytes h =
    let g = goes e clock room draws bytes h in
    (g.wait, g.first, read_tells e clock g.wait _ bytes g.tells (g.tells.written g.sound) g.is g.sound)

pub nothing_means_none : NothingMeansNone
nothing_means_none e clock room draws =
    let late = with_clock e clock in
    fire-call (λ r. r.outcome ≡ Did Nothing → (w : Wait) → IsDue late w → ⊥) e clock room draws
    (λ k h. absurd (let z : ◌≡◌ {A = ℕ} 0 1 = cc in omega arith)) (λ x h. absurd (let z : ◌≡◌ {A = ℕ} 0 1 = cc in omega arith))
    (λ z. fire-cases (λ s. Did s.effect ≡ Did Nothing → (w : Wait) → IsDue late w → ⊥) draws late
    (λ free h. free)
    (λ w first t h.
    let same : Out (bytes_of t.message) ≡ Nothing = sym t.out ∙ did _ Nothing h in
    absurd (let z : ◌≡◌ {A = ℕ} 0 1 = cc in omega arith)))

fire-is : (e : End) (clock room : ℕ) (draws : List ℕ) → FireTaken e clock room draws → fire e clock room draws ≡ done (fire_of draws (with_clock e clock))
unfolding event_of step_of act_of
fire-is e clock room draws f =
    rw (eq-eqb (question_of e (Else Fire) clock room (length draws)) 0 f.unrefused, member_not_crashed e.status f.member, f.member)

pub none_means_nothing : NoneMeansNothing
none_means_nothing e clock room draws f free =
    let late = with_clock e clock in
    fire-is e clock room draws f ∙ fire-cases (λ s. done s ≡ record { outcome = Did Nothing; left = late }) draws late
    (λ _. refl)
    (λ w first t. absurd (free w first.due))

pub due_means_out : DueMeansOut
due_means_out e clock room draws f w d =
    let late = with_clock e clock in
    let goes = fire-cases (λ s. (bytes : List ℕ) × (s.effect ≡ Out bytes)) draws late
    (λ free. absurd (free w d))
    (λ w first t. (bytes_of t.message, t.out)) in
    (goes.0, ap (λ (r : Result). r.outcome) (fire-is e clock room draws f) ∙ ap Did goes.1)

-- ---- sums over the numbers below k: two that agree everywhere, or everywhere but at one place

sum_same : (f g : ℕ → ℕ) (k : ℕ) → ((i : ℕ) → i < k → g i ≡ f i) → sum_below g k ≡ sum_below f k
unfolding sum_below
sum_same f g zero h = refl
sum_same f g (suc k) h = omega (arith, sum_same f g k (λ i l. h i (omega arith)), h k (omega arith))

-- one is less by one at i
sum_less : (f g : ℕ → ℕ) (k i : ℕ) → i < k → ((j : ℕ) → j < k → (j ≡ i → ⊥) → g j ≡ f j) → g i + 1 ≡ f i → sum_below g k + 1 ≡ sum_below f k
unfolding sum_below
sum_less f g zero i l h e = absurd (omega arith)
sum_less f g (suc k) i l h e = by_order i k
    (λ below. omega (arith, sum_less f g k i below (λ j m d. h j (omega arith) d) e, h k (omega arith) (λ d. omega arith)))
    (λ above.
    let last : i ≡ k = omega arith in
    omega (arith, sum_same f g k (λ j m. h j (omega arith) (λ d. omega arith)), ap g last, ap f last))

sum_most : (f : ℕ → ℕ) (m k : ℕ) → ((i : ℕ) → f i ≤ m) → sum_below f k ≤ k * m
unfolding sum_below
sum_most f m zero h = omega arith
sum_most f m (suc k) h =
    let more : suc k * m ≡ k * m + m = omega arith in
    omega (arith, sum_most f m k h, h k)

-- ---- one record of an end changed

-- a name from its two numbers
abbrev name_at : ℕ → ℕ → Name
name_at h n = record { source = as_host h; number = as_number n }

-- the end with another record under a name
abbrev with_named : End → Name → Record → End
with_named e name r = with_source e name.source (with_record (source_at e name.source) name.number.0 r)

-- where a name's wait is due, its source has 64 records and its number lies in first..last
module _ (e : End) (f : SoundState e) (name : Name) (hs : name.source.0 < 8)
    (inside : within (source_at e name.source).span name.number.0 ≡ true) (r : Record) where
  abbrev s₀ : Source
  s₀ = source_at e name.source

  abbrev n₀ : ℕ
  n₀ = name.number.0

  sized : length s₀.names ≡ 64
  sized = (f.each name.source.0 hs).names

  span-is : SpanIn s₀.span
  span-is = span_in _ _ _ _ _ s₀ (f.each name.source.0 hs)

  waits_there : waits_at (with_named e name r) name ≡ waits_in name r.slot
  unfolding waits_at
  waits_there =
      ap (λ (y : Source). waits_in name (record_at y n₀).slot)
      (get_or-set_same e.sources name.source.0 (with_record s₀ n₀ r) no_source (omega (arith, f.sources)))
      ∙ ap (λ (y : Record). waits_in name y.slot) (read_same s₀ n₀ r inside sized)

  waits_elsewhere : (h n : ℕ) → (h ≡ name.source.0 → n ≡ n₀ → ⊥) → waits_at (with_named e name r) (name_at h n) ≡ waits_at e (name_at h n)
  unfolding waits_at
  waits_elsewhere h n apart =
      set_elim (λ (y : Source). waits_in (name_at h n) (record_at y n).slot ≡ waits_at e (name_at h n))
      e.sources name.source.0 h (with_record s₀ n₀ r) no_source
      (λ i. store_elim (λ (y : Record). waits_in (name_at h n) y.slot ≡ waits_at e (name_at h n)) s₀ n₀ r n (narrow s₀.span span-is) inside sized
      (λ j. absurd (apart i j))
      (ap (λ k. waits_in (name_at h n) (record_at (source_at e (as_host k)) n).slot) (sym i)))
      refl

  -- first of every source is as it was
  first-same : (h : ℕ) → first_number (with_named e name r) h ≡ first_number e h
  first-same h = set_elim (λ (y : Source). start y.span ≡ first_number e h) e.sources name.source.0 h (with_record s₀ n₀ r) no_source
      (λ i. ap (λ (k : ℕ). first_number e k) (sym i)) refl

  count_elsewhere : (h i : ℕ) → (h ≡ name.source.0 → first_number e h + i ≡ n₀ → ⊥)
      → due_count e.clock (waits_at (with_named e name r) (name_at h (first_number (with_named e name r) h + i)))
      ≡ due_count e.clock (waits_at e (name_at h (first_number e h + i)))
  count_elsewhere h i apart =
      ap (λ (k : ℕ). due_count e.clock (waits_at (with_named e name r) (name_at h (k + i)))) (first-same h)
      ∙ ap (due_count e.clock) (waits_elsewhere h (first_number e h + i) apart)

-- where one less is due under the name of a due wait, one less is due in all
one_less : (e : End) → SoundState e → (w : Wait) → IsDue e w → (r : Record)
    → due_count e.clock (waits_in w.name r.slot) + 1 ≡ due_count e.clock (waits_at e w.name)
    → due_waits (with_named e w.name r) + 1 ≡ due_waits e
unfolding due_waits
one_less e f w due r is =
    let name = w.name in
    let inside = due-inside e w due in
    let h = name.source.0 in
    let n = name.number.0 in
    let low = first_number e h in
    let among = among_64 (source_at e name.source).span n (span-is e f name due.source inside r) inside in
    let there : low + (n - low) ≡ n = omega (arith, among.0) in
    let was : due_count e.clock (waits_at e (name_at h (low + (n - low)))) ≡ due_count e.clock (waits_at e name) =
    ap (λ (k : ℕ). due_count e.clock (waits_at e (name_at h k))) there in
    let now : due_count e.clock (waits_at (with_named e name r) (name_at h (first_number (with_named e name r) h + (n - low))))
    ≡ due_count e.clock (waits_in name r.slot) =
    ap (λ (k : ℕ). due_count e.clock (waits_at (with_named e name r) (name_at h (k + (n - low))))) (first-same e f name due.source inside r h)
    ∙ ap (λ (k : ℕ). due_count e.clock (waits_at (with_named e name r) (name_at h k))) there
    ∙ ap (due_count e.clock) (waits_there e f name due.source inside r) in
    sum_less _ _ 8 h due.source
    (λ k hk d. sum_same _ _ 64 (λ i l. count_elsewhere e f name due.source inside r k i (λ p q. d p)))
    (sum_less _ _ 64 (n - low) (omega (arith, among.1))
    (λ i l d. count_elsewhere e f name due.source inside r h i (λ p q. d (omega arith)))
    (omega (arith, was, now, is)))

-- ---- what Fire leaves under the name

-- a request that is set is due after its clock, where C1 and the distance are 1 or more
set-later : (t : Moment) (us : List ℕ) (d n k : ℕ) → 1 ≤ t.params.c1 → 1 ≤ d → t.clock < (request_at t us d n k).due
set-later t us d n k hc hd =
    let wait : 1 * 1 * 1 ≤ factor k * t.params.c1 * d = mul-le-mul (mul-le-mul (factor-least k) hc) hd in
    omega arith

-- what is due counts, and what is not does not
counts : (due clock : ℕ) → due ≤ clock → ◌≡◌ {A = ℕ} (cond (leb due clock) 1 0) 1
counts due clock l = ap (λ (t : Bool). cond t 1 0) (le-leb due clock l)

counts-not : (due clock : ℕ) → clock < due → ◌≡◌ {A = ℕ} (cond (leb due clock) 1 0) 0
counts-not due clock l = ap (λ (t : Bool). cond t 1 0) (lt-leb due clock l)

-- under one name: its express wait goes; its request is due later, and what stands beside it stays; its reply goes
module _ (clock : ℕ) (name : Name) where
  abbrev due_in : Slot → ℕ
  due_in x = due_count clock (waits_in name x)

  express_less : (q : Request) (due : ℕ) → due ≤ clock → due_in (Waiting q Unset) + 1 ≡ due_in (Waiting q (Soon due))
  unfolding due_count waits_in
  express_less q due l = omega (arith, counts due clock l)

  request_less : (q p : Request) (x : Express) → q.due ≤ clock → clock < p.due → due_in (Waiting p x) + 1 ≡ due_in (Waiting q x)
  unfolding due_count waits_in
  request_less q p Unset l k = omega (arith, counts q.due clock l, counts-not p.due clock k)
  request_less q p (Soon due) l k = omega (arith, counts q.due clock l, counts-not p.due clock k)

  reply_less : (due : ℕ) (k : Host) → due ≤ clock → due_in (Held No) + 1 ≡ due_in (Held (Due due k))
  unfolding due_count waits_in
  reply_less due k l = omega (arith, counts due clock l)

  one : (due : ℕ) → cond (leb due clock) 1 0 ≤ 1
  one due = by_cond (λ (k : ℕ). k ≤ 1) (leb due clock) (λ _. omega arith) (λ _. omega arith)

  at_most_two : (x : Slot) → due_in x ≤ 2
  unfolding due_count waits_in
  at_most_two Empty = omega arith
  at_most_two (Waiting q Unset) = omega (arith, one q.due)
  at_most_two (Waiting q (Soon due)) = omega (arith, one q.due, one due)
  at_most_two (Held No) = omega arith
  at_most_two (Held (Due due k)) = omega (arith, one due)

fired_less : (us : List ℕ) (e : End) → SoundState e → (w : Wait) → IsDue e w → 1 ≤ e.params.c1
    → ((q : Request) → request_in (record_at (source_at e w.name.source) w.name.number.0).slot ≡ some q → 1 ≤ distance_to e w.name.source)
    → due_waits (fired us e (First w)).left + 1 ≡ due_waits e
unfolding fired waits_at fire_at
fired_less us e f w d c1 distance =
    let name = w.name in
    let n = name.number.0 in
    let s = source_at e name.source in
    let clock = e.clock in
    fires_as (λ (r : Step). due_waits r.left + 1 ≡ due_waits e) us e w (record_at s n).slot d.waits
    (λ q i k. one_less e f w d _
    (subst (λ (z : Slot). due_in clock name (with_express Unset z) + 1 ≡ due_in clock name z) (sym i) (express_less clock name q w.due d.due)))
    (λ q y i time k.
    let next = request_at (moment_of e) us s.distance n (next_round q.round) in
    let later = set-later (moment_of e) us s.distance n (next_round q.round) c1 (distance q (ap request_in i)) in
    one_less e f w d _ (subst (λ (z : Slot). due_in clock name (Waiting next (express_in z)) + 1 ≡ due_in clock name z) (sym i)
    (request_less clock name q next y (omega (arith, time, d.due)) later)))
    (λ j i k. one_less e f w d _
    (subst (λ (z : Slot). due_in clock name (with_reply No z) + 1 ≡ due_in clock name z) (sym i) (reply_less clock name w.due j d.due)))

-- ---- the call

pub one_less_due : OneLessDue
one_less_due e clock room draws bytes c1 h =
    let g = goes e clock room draws bytes h in
    let sound = g.before in
    let name = g.wait.name in
    let hs = g.first.due.source in
    ap (λ (x : End). due_waits x + 1) g.left
    ∙ fired_less draws (with_clock e clock) g.sound g.wait g.first.due c1
    (λ q p. far e sound name.source.0 hs (sound-waits e sound name.source.0 name.number.0 hs q p).other)

all_less : (e : End) (clock room : ℕ) (calls : List (List ℕ)) → 1 ≤ e.params.c1 → AllOut clock room e calls → length calls ≤ due_waits (with_clock e clock)
all_less e clock room [] c1 h = omega arith
all_less e clock room (draws ∷ more) c1 h =
    let left = (fire e clock room draws).left in
    let kept = (host_and_params_stay e (Else Fire) clock room draws).1 in
    let less : due_waits left + 1 ≡ due_waits (with_clock e clock) = one_less_due e clock room draws h.0.0 c1 h.0.1 in
    let rest : length more ≤ due_waits (with_clock left clock) = all_less left clock room more (rw kept c1) h.1 in
    let g = goes e clock room draws h.0.0 h.0.1 in
    let late : left.clock ≡ clock = ap (λ (x : End). x.clock) g.left ∙ g.tells.clock in
    let same : due_waits (with_clock left clock) ≡ due_waits left = ap (λ (k : ℕ). due_waits (with_clock left k)) (sym late) in
    omega arith

pub firing-ends : FiringEnds
unfolding due_waits waits_at
firing-ends e clock room calls c1 h =
    (all_less e clock room calls c1 h, sum_most _ 128 8 (λ s. sum_most _ 2 64 (λ n. at_most_two clock _ _)))
