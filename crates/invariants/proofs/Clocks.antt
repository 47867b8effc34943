-- Clocks of one call: the statements of specs/Clocks.antt but those about lists.
use mathlib.Core.Path.{◌≡◌, refl, sym, ap, ◌∙◌}
use Prim.Native.Nat.{ℕ, ◌≤◌}
use native.Mathlib.Omega.{arith}
use mathlib.Core.List.{List, [], ◌∷◌}
use lib.ListN.{length}
use lib.Dec.{eqb}
use borrow.Author.Tests.{eqb-true, leb-true}
use Rattle.message.specs.declared.Name.{Name}
use Rattle.message.specs.declared.Report.{Report as ReportEntry}
use Rattle.message.specs.Message.{DATA, RQST, REPL, XPRS, FTCH, LATE, ANNC, Meaning, meaning_from}
use Rattle.message.specs.Question.{same_host}
use Rattle.end.specs.declared.Slot.{Slot}
use Rattle.end.specs.declared.Slot.TheVariants.{Empty, Held, Waiting}
use Rattle.end.specs.Parts.{No, Due, Span, Closed, Open, Heard, At, Earliest, NoWait, First, Nearest, Nobody, Found}
use Rattle.end.specs.declared.Moment.{Moment}
use Rattle.end.specs.declared.Move.{Move}
use Rattle.end.specs.declared.End.{End}
use Rattle.end.specs.State.{is_member, is_crashed, source_at, moment_of, on_source, with_clock}
use Rattle.end.specs.Records.{record_at}
use Rattle.end.specs.Sound.{all_of, heard_tests}
use Rattle.end.specs.Answer.{Step, Result}
use Rattle.end.specs.Decide.{step_at}
use Rattle.end.specs.Session.{reported_source, all_reported, session_of}
use Rattle.end.specs.Arrival.{message_step, arrival_of}
use Rattle.end.specs.Fire.{express_rank, earliest, fire_at, fired}
use Rattle.end.specs.Fetch.{may_fetch, nearest, try_of, fetch_of, may_answer, fetched_of, may_hand, late_of}
use Rattle.end.specs.Event.{Action, Moves, Send, Arrival, Else, Other, Fire, Report, Announce, Fetch, announced, moves, clears, moved_end, move_of, other_of, act_of, step_of}
use Rattle.end.specs.Event.{question_of, event_of}
use Rattle.end.proofs.SoundLaws.{nth}
use Rattle.end.proofs.Tools.{by_cond}
use Rattle.invariants.specs.Clocks.{ClockNeverFalls, HeardByNow}
use Rattle.invariants.proofs.Facts.{facts}
use Rattle.invariants.proofs.Questions.{passes}

-- what a step leaves has the clock of the end
abbrev Keeps : End → Step → Type 0
Keeps e r = r.left.clock ≡ e.clock

move-clock : (m : Move) (e : End) → Keeps e (move_of m e)
unfolding move_of moved_end
move-clock m e = by_cond (Keeps e) (moves m e.status) (λ _. by_cond (λ (x : End). x.clock ≡ e.clock) (clears m) (λ _. refl) (λ _. refl)) (λ _. refl)

reported-clock : (t : Moment) (us : List ℕ) (rs : List ReportEntry) (e : End) → (all_reported t us rs e).clock ≡ e.clock
unfolding all_reported
reported-clock t us [] e = refl
reported-clock t us (r ∷ rs) e = reported-clock t us rs (on_source e r.source (reported_source t us r))

module _ (us : List ℕ) (e : End) where
  -- a message about a name changes one source: there is no case
  message-clock : (m : Meaning) → Keeps e (message_step us m e)
  unfolding message_step step_at session_of fetched_of late_of
  message-clock m =
      by_cond (Keeps e) (eqb m.kind DATA) (λ _. refl)
      (λ _. by_cond (Keeps e) (eqb m.kind RQST) (λ _. refl)
      (λ _. by_cond (Keeps e) (eqb m.kind REPL) (λ _. refl)
      (λ _. by_cond (Keeps e) (eqb m.kind XPRS) (λ _. refl)
      (λ _. by_cond (Keeps e) (eqb m.kind FTCH) (λ _. by_cond (Keeps e) (may_answer e m) (λ _. refl) (λ _. refl))
      (λ _. by_cond (Keeps e) (eqb m.kind LATE) (λ _. by_cond (Keeps e) (may_hand e m) (λ _. refl) (λ _. refl))
      (λ _. by_cond (Keeps e) (eqb m.kind ANNC) (λ _. refl)
      (λ _. reported-clock (moment_of e) us m.reports e)))))))

  fire-clock : (rank : ℕ) (name : Name) (x : Slot) → Keeps e (fire_at us rank name e x)
  unfolding fire_at
  fire-clock rank name Empty = refl
  fire-clock rank name (Waiting q x) = by_cond (Keeps e) (eqb rank express_rank) (λ _. refl) (λ _. refl)
  fire-clock rank name (Held No) = refl
  fire-clock rank name (Held (Due due k)) = refl

  fired-clock : (x : Earliest) → Keeps e (fired us e x)
  unfolding fired
  fired-clock NoWait = refl
  fired-clock (First w) = fire-clock w.rank w.name (record_at (source_at e w.name.source) w.name.number.0).slot

  tried-clock : (name : Name) (x : Nearest) → Keeps e (try_of name e x)
  unfolding try_of
  tried-clock name Nobody = refl
  tried-clock name (Found h d) = refl

  announced-clock : (t : Moment) (x : Span) → Keeps e (announced t x e)
  announced-clock t Closed = refl
  announced-clock t (Open first last) = refl

  other-clock : (o : Other) → Keeps e (other_of us o e)
  unfolding fetch_of
  other-clock Fire = fired-clock (earliest e 8)
  other-clock Report = refl
  other-clock Announce = announced-clock (moment_of e) (source_at e e.host).span
  other-clock (Fetch name) = by_cond (Keeps e) (may_fetch e name) (λ _. tried-clock name (nearest e name 8)) (λ _. refl)

  pub act_clock : (a : Action) → Keeps e (act_of us a e)
  unfolding act_of arrival_of
  act_clock (Moves m) = move-clock m e
  act_clock (Send cue) = by_cond (Keeps e) (is_member e.status) (λ _. refl) (λ _. refl)
  act_clock (Arrival []) = by_cond (Keeps e) (is_member e.status) (λ _. refl) (λ _. refl)
  act_clock (Arrival (b ∷ s)) =
      let m = meaning_from (b ∷ s) in
      by_cond (Keeps e) (is_member e.status) (λ _. by_cond (Keeps e) (same_host m.sender e.host) (λ _. refl) (λ _. message-clock m)) (λ _. refl)
  act_clock (Else o) = by_cond (Keeps e) (is_member e.status) (λ _. other-clock o) (λ _. refl)

pub clock_never_falls : ClockNeverFalls
unfolding event_of step_of
clock_never_falls e a clock room draws =
    by_cond (λ (r : Result). e.clock ≤ r.left.clock) (eqb (question_of e a clock room (length draws)) 0)
    (λ t.
    let later : e.clock ≤ clock = (passes e a clock room (length draws) (eqb-true _ _ t)).later in
    by_cond (λ (r : Step). e.clock ≤ r.left.clock) (is_crashed e.status) (λ _. omega arith) (λ _. omega (arith, later, act_clock draws (with_clock e clock) a)))
    (λ _. omega arith)

pub heard_by_now : HeardByNow
heard_by_now e t h hh stamp when reported p =
    let own = same_host h e.host in
    let tests = heard_tests own e.clock (At stamp when reported) in
    leb-true when e.clock (nth tests 2 (ap (λ (x : Heard). all_of (heard_tests own e.clock x)) (sym p) ∙ ((facts e t).each h.0 hh).heard))
