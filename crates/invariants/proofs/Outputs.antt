-- What goes out is right: the statement of specs/Outputs.antt.
use mathlib.Core.Path.{◌≡◌, refl, sym, ap, ◌∙◌, subst}
use Prim.Native.Nat.{ℕ, ◌+◌, ◌≤◌, ◌<◌}
use native.Mathlib.Omega.{arith}
use mathlib.Core.Bool.{Bool, true, false, not}
use mathlib.Core.List.{List, [], ◌∷◌}
use lib.ListN.{length}
use Rattle.std.specs.Prelude.{Option}
use lib.Dec.{eqb}
use borrow.Author.Tests.{eqb-true, leb-true, ltb-true, not-true}
use Rattle.message.specs.declared.Host.{Host}
use Rattle.message.specs.declared.Name.{Name}
use Rattle.message.specs.Cue.{cue_in}
use Rattle.message.specs.Kind.{row_of, most_number, row_or}
use Rattle.message.specs.Message.{DATA, RQST, REPL, XPRS, FTCH, LATE, ANNC, Meaning, meaning_from, bytes_of, counts_of}
use Rattle.message.specs.declared.Row.{Row}
use Rattle.message.specs.Question.{first_no, message_questions, meaning_questions, has_counts, kind_has_counts, same_host, read_of}
use Rattle.message.specs.declared.Reading.{Reading}
use Rattle.message.specs.declared.Verdict.TheVariants.{Accepted}
use Rattle.message.proofs.QuestionLaws.{and_both, counts_new}
use Rattle.message.proofs.SectionLaws.{All, none, some}
use Rattle.message.proofs.EntryLaws.{CueFits}
use Rattle.roundtrip.proofs.RoundTrip.{accepts, fits_of_lem, meaning_accepted, read_back, read_message}
use Rattle.end.specs.declared.Request.{Request}
use Rattle.end.specs.Parts.{Express, Unset, Soon, Pair, No, Due, Span, Closed, Open, Earliest, NoWait, First, Nearest, Nobody, Found}
use Rattle.end.specs.declared.Slot.{Slot}
use Rattle.end.specs.declared.Slot.TheVariants.{Empty, Held, Waiting}
use Rattle.end.specs.declared.Record.{Record}
use Rattle.end.specs.declared.Says.{Says}
use Rattle.end.specs.declared.Says.TheVariants.{Data, Rqst, Repl, Xprs}
use Rattle.end.specs.declared.Decision.{Decision}
use Rattle.end.specs.declared.Decision.TheVariants.{Ignores, Opens, Takes, Repairs, Hushes, Replies, Learns, BacksOff, Clashes, Expresses}
use Rattle.end.specs.declared.Move.{Move}
use Rattle.end.specs.declared.End.{End}
use Rattle.end.specs.State.{source_at, is_member, is_crashed, moment_of, with_clock}
use Rattle.end.specs.Records.{is_held, reply_in, express_in}
use Rattle.end.specs.Sound.{all_of, time_in, is_no_pair, express_sound, span_tests}
use Rattle.end.specs.Messages.{about_name, fetch_message, data_message, request_message, express_message, repair_message, announce_message, session_message}
use Rattle.end.specs.Answer.{Effect, Out, Ignored, Nothing, Step, give, Class, PutsOut, HandsOut, HandsLate, Untouched, class_of, Did, Result}
use Rattle.end.specs.Decide.{effect_of, step_by, step_at}
use Rattle.end.specs.Session.{session_of}
use Rattle.end.specs.Arrival.{message_name, message_host, message_cue, word_of, word_step, message_step, arrival_of}
use Rattle.end.specs.Fire.{express_rank, earliest, kept_sender, fire_at, fired}
use Rattle.end.specs.Fetch.{may_fetch, untried, nearest, try_of, fetch_of, may_answer, fetched_of, may_hand, late_of}
use Rattle.end.specs.Event.{Action, Moves, Send, Arrival, Else, Other, Fire, Report, Announce, Fetch, announced, moves, move_of, own_name, send_of, other_of, if_member, act_of, step_of}
use Rattle.end.specs.Event.{own_questions, question_of, event_of}
use Rattle.end.specs.Run.{CueArray}
use Rattle.end.proofs.Tools.{by_cond, clash, clash', eqb_flip}
use Rattle.end.proofs.SoundLaws.{nth}
use Rattle.end.proofs.Grounds.{Grounds, grounds}
use Rattle.invariants.specs.Outputs.{kept_under, pair_of, AtOnce, Answered, at_once, fetched, MayTry, Fetches, Announces, RightMessage, RightOut, GoesOutRight}
use Rattle.invariants.proofs.Facts.{SoundState, facts}
use Rattle.invariants.proofs.Records.{held-is, WaitingIn, waiting_in, held_in, reply_from, sender_in}
use Rattle.invariants.proofs.Readings.{message_in_lem, express-source, fetch-source}
use Rattle.invariants.proofs.Ends.{Stands, stands_as, there, clock-kept}
use Rattle.invariants.proofs.Fetches.{Fetchable, fetchable_in, may_try, try_may, NearestIs, nearest-is}
use Rattle.invariants.proofs.Stays.{kind_of}
use Rattle.invariants.proofs.Chosen.{is_soon, Chosen, earliest_chosen}
use Rattle.invariants.proofs.Questions.{passes, send-asked}
use Rattle.invariants.proofs.Written.{data_passes, request-passes, asking-passes, carrying_passes, announce-passes, session-counts, session-passes}

-- ---- a message that passes its questions is read as it was written
pub record Written (y : Meaning) : Type 0 where
  pub accepted : (read_of (bytes_of y)).verdict ≡ Accepted
  pub back : meaning_from (bytes_of y) ≡ y

written : (y : Meaning) → kind_has_counts y.kind (counts_of y) ≡ true → first_no (meaning_questions y.kind y) ≡ 0 → All CueFits y.cues → Written y
written y counts passes cues =
    let fits = fits_of_lem y.kind y passes cues in
    let passed = accepts (bytes_of y) (meaning_accepted y fits counts passes) in
    record { accepted = ap (λ (r : Reading). r.verdict) (read_message (bytes_of y) passed); back = read_back y (counts_new y.kind (counts_of y) counts) fits }

-- ---- what a step puts out is right
Right : End → Action → Step → Type 0
Right e a r = (x : List ℕ) → r.effect ≡ Out x → RightOut e a e.clock x

-- a message that is put out is right if its meaning is
out-right : (e : End) (a : Action) (y : Meaning) (left : End) → Written y → RightMessage e a e.clock y → Right e a (give (Out (bytes_of y)) left)
unfolding Right
out-right e a y left w right x p =
    let same : bytes_of y ≡ x = cc in
    subst (RightOut e a e.clock) same (record { accepted = w.accepted; message = subst (RightMessage e a e.clock) (sym w.back) right })

-- ---- moves and most messages put nothing out
abbrev puts_out : Class → Bool
puts_out (PutsOut bytes) = true
puts_out (HandsOut name cue) = false
puts_out (HandsLate name cue) = false
puts_out Untouched = false

abbrev Silent : Step → Type 0
Silent r = puts_out (class_of r.effect) ≡ false

silent_right : (e : End) (a : Action) (r : Step) → Silent r → Right e a r
unfolding Right
silent_right e a r s x p = clash (sym (ap (λ (y : Effect). puts_out (class_of y)) p) ∙ s)

move_silent : (m : Move) (e : End) → Silent (move_of m e)
unfolding move_of
move_silent m e = by_cond Silent (moves m e.status) (λ _. refl) (λ _. refl)

abbrev is_xprs : Says → Bool
is_xprs Data = false
is_xprs Rqst = false
is_xprs Repl = false
is_xprs Xprs = true

-- ---- Send, Report and Fire

-- the event is another than Send
unsent : {P : Type 0} (o : Other) (cue : List ℕ) → Else o ≡ Send cue → P
unsent o cue p = absurd (let z : ◌≡◌ {A = ℕ} 0 1 = cc in omega arith)

-- and than Arrival
unheard : {P : Type 0} (o : Other) (x : List ℕ) → Else o ≡ Arrival x → P
unheard o x p = absurd (let z : ◌≡◌ {A = ℕ} 0 1 = cc in omega arith)

module _ (e : End) (f : SoundState e) where
  -- ---- messages about names under which there is something
  waiting-name : (name : Name) (q : Request) (x : Express) → (kept_under e name).slot ≡ Waiting q x
      → Stands e name × WaitingIn e.host name.source (pair_of e name) (kept_under e name) q x
  waiting-name name q x p =
      let at = there e f name (λ o. let no : ◌≡◌ {A = ℕ} 0 1 = cc in omega arith) in
      (at, waiting_in e.host name.source (pair_of e name) (kept_under e name) q x (stands_as (Waiting q x) at p))

  pub request-written : (name : Name) (q : Request) (x : Express) → (kept_under e name).slot ≡ Waiting q x → Written (request_message (moment_of e) name)
  request-written name q x p =
      let w = waiting-name name q x p in
      written (request_message (moment_of e) name) refl
      (request-passes e f name w.0.source w.0.number (eqb_flip name.source.0 e.host.0 w.1.other)) none

  -- where an express wait stands there is a pair, whose sender is another
  pair-stands : (pair : Pair) (x : Express) → is_soon x ≡ true → express_sound pair x ≡ true → is_no_pair pair ≡ false
  pair-stands pair Unset k p = clash' k
  pair-stands pair (Soon due) k p = not-true (is_no_pair pair) (and_both (time_in due) (not (is_no_pair pair)) p).1

  pub express-pair : (name : Name) (q : Request) (x : Express) → (kept_under e name).slot ≡ Waiting q x → is_soon x ≡ true → is_no_pair (pair_of e name) ≡ false
  express-pair name q x p k = pair-stands (pair_of e name) x k (waiting-name name q x p).1.express

  pub express-written : (name : Name) (q : Request) (x : Express) → (kept_under e name).slot ≡ Waiting q x → is_soon x ≡ true
      → Written (express_message (moment_of e) name (kept_sender (pair_of e name)))
  express-written name q x p k =
      let w = waiting-name name q x p in
      let to = kept_sender (pair_of e name) in
      let v = sender_in e.host (pair_of e name) (f.each name.source.0 w.0.source).pair (express-pair name q x p k) in
      written (express_message (moment_of e) name to) refl
      (asking-passes e f XPRS refl refl name to w.0.source w.0.number v.0 v.1 w.1.other) none

  -- the held cue of a name, to a host that may have asked for it, as REPL or as kind 23
  held-written : (kind : ℕ) → most_number kind ≡ 65535 → row_of kind ≡ row_of REPL → (name : Name) (k : Host) → is_held (kept_under e name).slot ≡ true
      → k.0 < 8 → same_host k e.host ≡ false → same_host k name.source ≡ false
      → Written (about_name kind (moment_of e) name k ((kept_under e name).cue ∷ []))
  held-written kind most row name k held hk other apart =
      let at = there e f name (λ o. clash (sym held ∙ ap is_held o)) in
      let r = kept_under e name in
      let v = held_in e.host name.source (pair_of e name) r (reply_in r.slot) (stands_as (Held (reply_in r.slot)) at (held-is r.slot held)) in
      let y = about_name kind (moment_of e) name k (r.cue ∷ []) in
      written y (ap (λ (x : Option Row). has_counts x (counts_of y)) row)
      (carrying_passes e f kind most (ap (λ (x : Option Row). (row_or x).host) row) name k r.cue at.source at.number hk v.cue other apart) (some v.long none)

  pub repair-written : (name : Name) (due : ℕ) (k : Host) → (kept_under e name).slot ≡ Held (Due due k) → Written (repair_message (moment_of e) name k (kept_under e name).cue)
  repair-written name due k p =
      let at = there e f name (λ o. let no : ◌≡◌ {A = ℕ} 0 1 = cc in omega arith) in
      let v = held_in e.host name.source (pair_of e name) (kept_under e name) (Due due k) (stands_as (Held (Due due k)) at p) in
      let a = reply_from e.host name.source due k v.reply in
      held-written REPL refl refl name k (ap is_held p) a.host a.other a.apart

  send-right : (us cue : List ℕ) → length cue ≡ 24 → cue_in cue ≡ true → e.next < 65536 → Right e (Send cue) (send_of us cue e)
  send-right us cue long fits l =
      let y = data_message (moment_of e) (own_name e) cue in
      out-right e (Send cue) y _ (written y refl (data_passes e f cue l fits) (some long none)) (record {
        sender = refl;
        stamp = refl;
        sent = λ c p. let same : cue ≡ c = cc in (refl, refl, same);
        probed = λ p. let z : ◌≡◌ {A = ℕ} 0 1 = cc in absurd (omega arith);
        answered = λ b s p. let z : ◌≡◌ {A = ℕ} 0 1 = cc in absurd (omega arith);
        fetches = λ name p. let z : ◌≡◌ {A = ℕ} 0 1 = cc in absurd (omega arith);
        fetched = λ k. absurd (omega arith);
        announces = λ p. let z : ◌≡◌ {A = ℕ} 0 1 = cc in absurd (omega arith);
        announced = λ k. absurd (omega arith);
        lacks = λ k. absurd (omega arith);
        express = λ k. absurd (omega arith);
        holds = λ k. absurd (omega arith);
        given = λ k. absurd (omega arith);
        late = λ k. absurd (omega arith);
      })

  -- by Fire goes out a message about a name: of its kinds one is what it is
  fire-out : (y : Meaning) (left : End) → Written y → y.sender ≡ e.host → y.stamp ≡ e.clock
      → (y.kind < FTCH) → (y.kind ≡ RQST → is_held (kept_under e (message_name y)).slot ≡ false)
      → (y.kind ≡ XPRS → (is_held (kept_under e (message_name y)).slot ≡ false) × (is_no_pair (pair_of e (message_name y)) ≡ false)
      × (message_host y ≡ kept_sender (pair_of e (message_name y))))
      → (y.kind ≡ REPL → (is_held (kept_under e (message_name y)).slot ≡ true) × (message_cue y ≡ (kept_under e (message_name y)).cue))
      → Right e (Else Fire) (give (Out (bytes_of y)) left)
  fire-out y left w sender stamp old lacks express holds = out-right e (Else Fire) y left w (record {
    sender = sender;
    stamp = stamp;
    sent = λ c u. unsent Fire c u;
    probed = λ u. unheard Fire [] u;
    answered = λ b s u. unheard Fire (b ∷ s) u;
    fetches = λ name u. let z : ◌≡◌ {A = ℕ} 0 1 = cc in absurd (omega arith);
    fetched = λ k. absurd (omega (arith, old));
    announces = λ u. let z : ◌≡◌ {A = ℕ} 0 1 = cc in absurd (omega arith);
    announced = λ k. absurd (omega (arith, old));
    lacks = lacks;
    express = express;
    holds = holds;
    given = λ k. absurd (omega (arith, old));
    late = λ k. absurd (omega (arith, old));
  })

  fire-right : (us : List ℕ) (rank : ℕ) (name : Name) (x : Slot) → (kept_under e name).slot ≡ x → (eqb rank express_rank ≡ true → is_soon (express_in x) ≡ true)
      → Right e (Else Fire) (fire_at us rank name e x)
  unfolding fire_at
  fire-right us rank name Empty p soon = silent_right e (Else Fire) (give Nothing e) refl
  fire-right us rank name (Waiting q x) p soon = by_cond (Right e (Else Fire)) (eqb rank express_rank)
      (λ k. fire-out (express_message (moment_of e) name (kept_sender (pair_of e name))) _ (express-written name q x p (soon k)) refl refl (omega arith)
      (λ _. ap is_held p) (λ _. (ap is_held p, express-pair name q x p (soon k), refl)) (λ i. absurd (omega arith)))
      (λ _. fire-out (request_message (moment_of e) name) _ (request-written name q x p) refl refl (omega arith)
      (λ _. ap is_held p) (λ i. absurd (omega arith)) (λ i. absurd (omega arith)))
  fire-right us rank name (Held No) p soon = silent_right e (Else Fire) (give Nothing e) refl
  fire-right us rank name (Held (Due due k)) p soon =
      fire-out (repair_message (moment_of e) name k (kept_under e name).cue) _ (repair-written name due k p) refl refl (omega arith)
      (λ i. absurd (omega arith)) (λ i. absurd (omega arith)) (λ _. (ap is_held p, refl))

  fired-right : (us : List ℕ) (x : Earliest) → Chosen e x → Right e (Else Fire) (fired us e x)
  unfolding fired
  fired-right us NoWait c = silent_right e (Else Fire) (give Nothing e) refl
  fired-right us (First w) c = fire-right us w.rank w.name (kept_under e w.name).slot refl c

  pub session-written : Written (session_message e)
  session-written = written (session_message e) (session-counts e f) (session-passes e f) none

  -- Report, and a probe that arrives
  report-right : (a : Action) → ((cue : List ℕ) → a ≡ Send cue → ⊥) → ((b : ℕ) (s : List ℕ) → a ≡ Arrival (b ∷ s) → ⊥)
      → ((name : Name) → a ≡ Else (Fetch name) → ⊥) → (a ≡ Else Announce → ⊥) → (us : List ℕ) → Right e a (other_of us Report e)
  report-right a no-send no-message no_fetch_lem no-announce us =
      out-right e a (session_message e) e session-written (record {
        sender = refl;
        stamp = refl;
        sent = λ c p. absurd (no-send c p);
        probed = λ _. refl;
        answered = λ b s p. absurd (no-message b s p);
        fetches = λ name p. absurd (no_fetch_lem name p);
        fetched = λ k. absurd (omega arith);
        announces = λ p. absurd (no-announce p);
        announced = λ k. absurd (omega arith);
        lacks = λ k. absurd (omega arith);
        express = λ k. absurd (omega arith);
        holds = λ k. absurd (omega arith);
        given = λ k. absurd (omega arith);
        late = λ k. absurd (omega arith);
      })

  -- by a Fetch goes out a kind 22, to the host that is tried
  pub fetch-written : (name : Name) (h : Host) → Fetchable e name → h.0 < 8 → untried e name h.0 ≡ true → Written (fetch_message (moment_of e) name h)
  fetch-written name h v host may =
      written (fetch_message (moment_of e) name h) refl
      (asking-passes e f FTCH refl refl name h v.source v.number host (may_try e name h may).other v.other) none

  try_right : (name : Name) → Fetchable e name → (x : Nearest) → NearestIs e name 8 x → Right e (Else (Fetch name)) (try_of name e x)
  unfolding try_of
  try_right name v Nobody q = silent_right e _ _ refl
  try_right name v (Found h d) q =
      let y = fetch_message (moment_of e) name h in
      let may = may_try e name h q.may in
      let fetches : Fetches e name y = record {
        kind = refl;
        name = refl;
        below = v.below;
        lacking = v.lacking;
        host = q.host;
        may = may;
        least = λ k l m. omega (arith, q.distance, q.least k.0 l (try_may e name k m));
        lower = λ k l m. omega (arith, q.distance, q.lower k.0 l (try_may e name k m));
      } in
      out-right e (Else (Fetch name)) y _ (fetch-written name h v q.host q.may) (record {
        sender = refl;
        stamp = refl;
        sent = λ c p. unsent (Fetch name) c p;
        probed = λ p. unheard (Fetch name) [] p;
        answered = λ b s p. unheard (Fetch name) (b ∷ s) p;
        fetches = λ k p. let same : name ≡ k = cc in subst (λ (k : Name). Fetches e k y) same fetches;
        fetched = λ _. refl;
        announces = λ p. let z : ◌≡◌ {A = ℕ} 0 1 = cc in absurd (omega arith);
        announced = λ k. absurd (omega arith);
        lacks = λ k. absurd (omega arith);
        express = λ k. absurd (omega arith);
        holds = λ k. absurd (omega arith);
        given = λ k. absurd (omega arith);
        late = λ k. absurd (omega arith);
      })

  fetch-right : (name : Name) → Right e (Else (Fetch name)) (fetch_of name e)
  unfolding fetch_of
  fetch-right name =
      by_cond (Right e (Else (Fetch name))) (may_fetch e name)
      (λ t. try_right name (fetchable_in e f name t) (nearest e name 8) (nearest-is e name 8)) (λ _. silent_right e _ _ refl)

  -- by an Announce goes out a kind 24 where there is a first
  announced-right : (missed : ℕ) (x : Span) → (source_at e e.host).span ≡ x → all_of (span_tests (same_host e.host e.host) e.next missed x) ≡ true
      → Right e (Else Announce) (announced (moment_of e) x e)
  announced-right missed Closed p h = silent_right e (Else Announce) (give Nothing e) refl
  announced-right missed (Open first last) p h =
      let y = announce_message (moment_of e) first last in
      let tests = span_tests (same_host e.host e.host) e.next missed (Open first last) in
      let rising = leb-true first.0 last.0 (nth tests 0 h) in
      let below = ltb-true last.0 65536 (nth tests 1 h) in
      let window = leb-true last.0 (first.0 + 63) (nth tests 3 h) in
      out-right e (Else Announce) y e (written y refl (announce-passes e f first last rising window below) none) (record {
        sender = refl;
        stamp = refl;
        sent = λ c u. unsent Announce c u;
        probed = λ u. unheard Announce [] u;
        answered = λ b s u. unheard Announce (b ∷ s) u;
        fetches = λ name u. let z : ◌≡◌ {A = ℕ} 0 1 = cc in absurd (omega arith);
        fetched = λ k. absurd (omega arith);
        announces = λ _. record { kind = refl; first = first; last = last; own = p; names = refl; rising = rising; window = window };
        announced = λ _. refl;
        lacks = λ k. absurd (omega arith);
        express = λ k. absurd (omega arith);
        holds = λ k. absurd (omega arith);
        given = λ k. absurd (omega arith);
        late = λ k. absurd (omega arith);
      })

  announce-right : Right e (Else Announce) (announced (moment_of e) (source_at e e.host).span e)
  announce-right = let s = source_at e e.host in announced-right s.missed s.span refl (f.each e.host.0 f.host).span

  other-right : (us : List ℕ) (o : Other) → Right e (Else o) (other_of us o e)
  other-right us Fire = fired-right us (earliest e 8) (earliest_chosen e 8)
  other-right us Report =
      report-right (Else Report) (λ c p. unsent Report c p) (λ b s p. unheard Report (b ∷ s) p) (λ name p. let z : ◌≡◌ {A = ℕ} 0 1 = cc in omega arith)
      (λ p. let z : ◌≡◌ {A = ℕ} 0 1 = cc in omega arith) us
  other-right us Announce = announce-right
  other-right us (Fetch name) = fetch-right name

  probe-right : (us : List ℕ) → Right e (Arrival []) (other_of us Report e)
  probe-right =
      report-right (Arrival []) (λ c p. let z : ◌≡◌ {A = ℕ} 0 1 = cc in omega arith) (λ b s p. let z : ◌≡◌ {A = ℕ} 0 1 = cc in omega arith)
      (λ name p. let z : ◌≡◌ {A = ℕ} 0 1 = cc in omega arith) (λ p. let z : ◌≡◌ {A = ℕ} 0 1 = cc in omega arith)

  -- ---- messages: only an XPRS and a kind 22 are answered by what goes out
  module _ (us : List ℕ) (b : ℕ) (s : List ℕ) (read : first_no (message_questions (b ∷ s)) ≡ 0)
      (other : same_host (meaning_from (b ∷ s)).sender e.host ≡ false) where
    abbrev m : Meaning
    m = meaning_from (b ∷ s)

    abbrev held : Record
    held = kept_under e (message_name m)

    -- what is answered carries the held cue
    answer-out : (kind : ℕ) (left : End) → is_held held.slot ≡ true → let y = about_name kind (moment_of e) (message_name m) m.sender (held.cue ∷ []) in
        Written y → RQST < kind → (kind ≡ XPRS → ⊥) → (kind ≡ FTCH → ⊥) → kind < ANNC → Answered e e.clock m y → Right e (Arrival (b ∷ s)) (give (Out (bytes_of y)) left)
    answer-out kind left h w above no_express no_fetch_lem below for =
        let y = about_name kind (moment_of e) (message_name m) m.sender (held.cue ∷ []) in
        out-right e (Arrival (b ∷ s)) y left w (record {
          sender = refl;
          stamp = refl;
          sent = λ c p. let z : ◌≡◌ {A = ℕ} 0 1 = cc in absurd (omega arith);
          probed = λ p. let z : ◌≡◌ {A = ℕ} 0 1 = cc in absurd (omega arith);
          answered = λ c l p.
              let same : b ∷ s ≡ c ∷ l = cc in
              subst (λ (x : List ℕ). Answered e e.clock (meaning_from x) y) same for;
          fetches = λ name p. let z : ◌≡◌ {A = ℕ} 0 1 = cc in absurd (omega arith);
          fetched = λ i. absurd (no_fetch_lem i);
          announces = λ p. let z : ◌≡◌ {A = ℕ} 0 1 = cc in absurd (omega arith);
          announced = λ i. absurd (omega (arith, below));
          lacks = λ i. absurd (omega (arith, above));
          express = λ i. absurd (no_express i);
          holds = λ _. (h, refl);
          given = λ _. (b ∷ s, refl);
          late = λ _. (h, refl);
        })

    at-once : (left : End) → eqb m.kind XPRS ≡ true → is_held held.slot ≡ true → held.hush ≤ e.clock → same_host (message_host m) e.host ≡ true
        → Right e (Arrival (b ∷ s)) (give (Out (bytes_of (repair_message (moment_of e) (message_name m) m.sender held.cue))) left)
    at-once left k h over named =
        let y = repair_message (moment_of e) (message_name m) m.sender held.cue in
        let w = held-written REPL refl refl (message_name m) m.sender h (message_in_lem (b ∷ s) read).sender other (express-source (b ∷ s) read k) in
        let kind = eqb-true m.kind XPRS k in
        answer-out REPL left h w (omega arith) (λ i. omega arith) (λ i. omega arith) (omega arith)
        (at_once (record { express = kind; named = named; over = over; repair = refl; name = refl; requester = refl }))

    expresses-right : (says : Says) → eqb m.kind (kind_of says) ≡ true → says ≡ Xprs → is_held held.slot ≡ true → held.hush ≤ e.clock
        → same_host (message_host m) e.host ≡ true → Right e (Arrival (b ∷ s)) (step_by (moment_of e) us (word_of says m e) e Expresses)
    unfolding effect_of
    expresses-right Data k p h over named = clash (ap is_xprs (sym p))
    expresses-right Rqst k p h over named = clash (ap is_xprs (sym p))
    expresses-right Repl k p h over named = clash (ap is_xprs (sym p))
    expresses-right Xprs k p h over named = at-once _ k h over named

    decided_right : (says : Says) → eqb m.kind (kind_of says) ≡ true → (x : Span) (d : Decision) → Grounds (moment_of e) (word_of says m e) held x d
        → Right e (Arrival (b ∷ s)) (step_by (moment_of e) us (word_of says m e) e d)
    unfolding Grounds effect_of
    decided_right says k x (Ignores why) g = silent_right e _ _ refl
    decided_right says k x Opens g = silent_right e _ _ refl
    decided_right says k x Takes g = silent_right e _ _ refl
    decided_right says k x Repairs g = silent_right e _ _ refl
    decided_right says k x Hushes g = silent_right e _ _ refl
    decided_right says k x Replies g = silent_right e _ _ refl
    decided_right says k x Learns g = silent_right e _ _ refl
    decided_right says k x (BacksOff i) g = silent_right e _ _ refl
    decided_right says k x Clashes g = silent_right e _ _ refl
    decided_right says k x Expresses g = expresses-right says k g.0 g.1 g.2 g.3

    word_right : (says : Says) → eqb m.kind (kind_of says) ≡ true → Right e (Arrival (b ∷ s)) (word_step us says m e)
    unfolding step_at
    word_right says k =
        let x = (source_at e (message_name m).source).span in
        decided_right says k x _ (grounds (moment_of e) (word_of says m e) held x)

    -- kind 22
    fetched-right : eqb m.kind FTCH ≡ true → Right e (Arrival (b ∷ s)) (fetched_of m e)
    unfolding fetched_of may_answer
    fetched-right k =
        by_cond (Right e (Arrival (b ∷ s))) (may_answer e m)
        (λ t.
        let both = and_both (same_host (message_host m) e.host) (is_held held.slot) t in
        let w = held-written LATE refl refl (message_name m) m.sender both.1 (message_in_lem (b ∷ s) read).sender other (fetch-source (b ∷ s) read k) in
        answer-out LATE e both.1 w (omega arith) (λ i. omega arith) (λ i. omega arith) (omega arith)
        (fetched (record { fetch = eqb-true m.kind FTCH k; tried = both.0; late = refl; name = refl; asker = refl })))
        (λ _. silent_right e _ _ refl)

    -- kind 23
    handed_silent : Silent (late_of m e)
    unfolding late_of
    handed_silent = by_cond Silent (may_hand e m) (λ _. refl) (λ _. refl)

    message-right : Right e (Arrival (b ∷ s)) (message_step us m e)
    unfolding message_step session_of
    message-right =
        let R = Right e (Arrival (b ∷ s)) in
        by_cond R (eqb m.kind DATA) (word_right Data)
        (λ _. by_cond R (eqb m.kind RQST) (word_right Rqst)
        (λ _. by_cond R (eqb m.kind REPL) (word_right Repl)
        (λ _. by_cond R (eqb m.kind XPRS) (word_right Xprs)
        (λ _. by_cond R (eqb m.kind FTCH) fetched-right
        (λ _. by_cond R (eqb m.kind LATE) (λ _. silent_right e _ _ handed_silent)
        (λ _. by_cond R (eqb m.kind ANNC) (λ _. silent_right e _ _ refl)
        (λ _. silent_right e _ _ refl)))))))

  arrival-right : (us : List ℕ) (b : ℕ) (s : List ℕ) → first_no (message_questions (b ∷ s)) ≡ 0 → Right e (Arrival (b ∷ s)) (arrival_of us (meaning_from (b ∷ s)) e)
  unfolding arrival_of
  arrival-right us b s read =
      by_cond (Right e (Arrival (b ∷ s))) (same_host (meaning_from (b ∷ s)).sender e.host) (λ _. silent_right e _ _ refl) (message-right us b s read)

-- ---- every event
module _ (us : List ℕ) (e : End) (t : ℕ) (f : SoundState (with_clock e t)) where
  now : End
  now = with_clock e t

  -- a member's step, or Ignored
  joined : (a : Action) (r : Step) → (is_member e.status ≡ true → Right now a r) → Right now a (if_member now r)
  unfolding now
  joined a r g = by_cond (Right now a) (is_member e.status) g (λ _. silent_right now a (give Ignored now) refl)

  act_right : (a : Action) → CueArray a → first_no (own_questions a e) ≡ 0 → Right (with_clock e t) a (act_of us a (with_clock e t))
  unfolding act_of now
  act_right (Moves m) array own = silent_right now (Moves m) _ (move_silent m now)
  act_right (Send cue) array own = let asked = send-asked cue e own in joined (Send cue) _ (λ m. send-right now f us cue array asked.0 (asked.1 m))
  act_right (Arrival []) array own = joined (Arrival []) _ (λ _. probe-right now f us)
  act_right (Arrival (b ∷ s)) array own =
      joined (Arrival (b ∷ s)) _ (λ _. arrival-right now f us b s own)
  act_right (Else o) array own = joined (Else o) _ (λ _. other-right now f us o)

-- the clock is no part of what is kept under a name
at_once_clock : (e : End) (t : ℕ) (m y : Meaning) → AtOnce (with_clock e t) t m y → AtOnce e t m y
at_once_clock e t m y r = record { express = r.express; named = r.named; over = r.over; repair = r.repair; name = r.name; requester = r.requester }

answered-clock : (e : End) (t : ℕ) (m y : Meaning) → Answered (with_clock e t) t m y → Answered e t m y
answered-clock e t m y (at_once r) = at_once (at_once_clock e t m y r)
answered-clock e t m y (fetched r) = fetched (record { fetch = r.fetch; tried = r.tried; late = r.late; name = r.name; asker = r.asker })

may-clock : (e : End) (t : ℕ) (name : Name) (h : Host) → MayTry e name h → MayTry (with_clock e t) name h
may-clock e t name h r = record { other = r.other; reports = r.reports; untried = r.untried }

clock-may : (e : End) (t : ℕ) (name : Name) (h : Host) → MayTry (with_clock e t) name h → MayTry e name h
clock-may e t name h r = record { other = r.other; reports = r.reports; untried = r.untried }

fetches-clock : (e : End) (t : ℕ) (name : Name) (y : Meaning) → Fetches (with_clock e t) name y → Fetches e name y
fetches-clock e t name y r = record {
  kind = r.kind;
  name = r.name;
  below = r.below;
  lacking = r.lacking;
  host = r.host;
  may = clock-may e t name (message_host y) r.may;
  least = λ k l m. r.least k l (may-clock e t name k m);
  lower = λ k l m. r.lower k l (may-clock e t name k m);
}

announces-clock : (e : End) (t : ℕ) (y : Meaning) → Announces (with_clock e t) y → Announces e y
announces-clock e t y r =
    record { kind = r.kind; first = r.first; last = r.last; own = r.own; names = r.names; rising = r.rising; window = r.window }

before-clock : (e : End) (a : Action) (t : ℕ) (x : List ℕ) → RightOut (with_clock e t) a t x → RightOut e a t x
before-clock e a t x r =
    let y = r.message in
    record {
      accepted = r.accepted;
      message = record {
        sender = y.sender;
        stamp = y.stamp;
        sent = y.sent;
        probed = y.probed;
        answered = λ b s p. answered-clock e t (meaning_from (b ∷ s)) (meaning_from x) (y.answered b s p);
        fetches = λ name p. fetches-clock e t name (meaning_from x) (y.fetches name p);
        fetched = y.fetched;
        announces = λ p. announces-clock e t (meaning_from x) (y.announces p);
        announced = y.announced;
        lacks = y.lacks;
        express = y.express;
        holds = y.holds;
        given = y.given;
        late = y.late;
      };
    }

pub goes_out_right : GoesOutRight
unfolding event_of step_of Right
goes_out_right e a clock room draws bytes array =
    by_cond (λ (r : Result). r.outcome ≡ Did (Out bytes) → RightOut e a clock bytes) (eqb (question_of e a clock room (length draws)) 0)
    (λ t o.
    let p = passes e a clock room (length draws) (eqb-true _ _ t) in
    let out : (step_of clock draws a e).effect ≡ Out bytes = cc in
    by_cond (λ (r : Step). r.effect ≡ Out bytes → RightOut e a clock bytes) (is_crashed e.status)
    (λ _ n. let z : ◌≡◌ {A = ℕ} 0 1 = cc in absurd (omega arith))
    (λ _ n. before-clock e a clock bytes (act_right draws e clock (clock-kept e clock (facts e p.sound) p.later p.ticks) a array p.own bytes n))
    out)
    (λ _ o. let z : ◌≡◌ {A = ℕ} 0 1 = cc in absurd (omega arith))
