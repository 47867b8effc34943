-- What an end keeps of a host's session messages is what the history says: by the laws of arrivals where none of that host comes, and by the
-- step of a SESS where one does.
use mathlib.Core.Path.{◌≡◌, refl, sym, ap, ◌∙◌, subst}
use mathlib.Core.Bool.{Bool, true, false, cond, not, ◌&&◌, ◌||◌}
use mathlib.Core.List.{List, [], ◌∷◌}
use mathlib.Core.Option.{Option, none, some}
use Prim.Native.Nat.{ℕ, zero, suc, ◌<◌}
use native.Mathlib.Omega.{arith}
use lib.ListN.{get_or, replicate, get_or-replicate}
use lib.Dec.{eqb}
use borrow.Author.Tests.{eqb-true, eqb-false, eq-eqb, not-true}
use Rattle.numbers.specs.Bits.{bit, with_bit}
use Rattle.numbers.proofs.BitLaws.{bit-none, bit_with, bit-other}
use Rattle.message.specs.declared.Host.{Host}
use Rattle.message.specs.declared.Report.{Report as Reported}
use Rattle.message.specs.Entry.{as_host}
use Rattle.message.specs.Kind.{is_kind}
use Rattle.message.specs.Message.{DATA, RQST, REPL, SESS, FTCH, Meaning, meaning_from, counts_of}
use Rattle.message.specs.Question.{same_host, first_no, read_questions, read_refusal}
use Rattle.message.proofs.QuestionLaws.{and_both, counted as counted-row}
use Rattle.roundtrip.proofs.RoundTrip.{accepted, counts_read}
use Rattle.end.specs.declared.Params.{Params}
use Rattle.end.specs.declared.Move.{Move}
use Rattle.end.specs.Parts.{Heard, Never, At, No, Due, Span, Closed, Open, Earliest, NoWait, First}
use Rattle.end.specs.declared.Slot.{Slot}
use Rattle.end.specs.declared.Slot.TheVariants.{Empty, Held, Waiting}
use Rattle.end.specs.declared.Source.{Source}
use Rattle.end.specs.declared.End.{End}
use Rattle.end.specs.declared.Moment.{Moment}
use Rattle.end.specs.State.{no_source, unheard, unheard_sources, source_at, is_member, moment_of, with_clock, with_source}
use Rattle.end.specs.Records.{record_at}
use Rattle.end.specs.Sound.{is_never, non_member_tests}
use Rattle.end.specs.Answer.{Ignored, Step, give, Result}
use Rattle.end.specs.Session.{all_reported, heard_from, reported_after, reported_in, session_of}
use Rattle.end.specs.Arrival.{message_step, arrival_of}
use Rattle.end.specs.Fire.{express_rank, earliest, fire_at, fired}
use Rattle.end.specs.Fetch.{reported_by}
use Rattle.end.specs.Event.{Action, Moves, Send, Arrival, Else, Other, Fire, Report, Announce, Fetch, moves, clears, moved_end, move_of, extended, other_of, if_member, act_of, event_of}
use Rattle.end.specs.Opening.{open_refusal, end_for, opening_of}
use Rattle.end.specs.Book.{source, read_as}
use Rattle.end.proofs.Readings.{reads, in_range_lem}
use Rattle.end.proofs.RiseLaws.{rise-heard}
use Rattle.end.proofs.SoundLaws.{nth}
use Rattle.end.proofs.Tools.{by_cond, by_test, clash, clash', or_left, or_right, set_elim, eqb_flip}
use Rattle.invariants.proofs.Facts.{SoundState, facts}
use Rattle.invariants.proofs.Ends.{clock-kept}
use Rattle.invariants.proofs.Questions.{Passed}
use Rattle.guarantees.specs.Calls.{OneCall, after, after_all}
use Rattle.guarantees.specs.Arrivals.{has_name, is_fetched, is_announced, is_session_of}
use Rattle.guarantees.specs.History.{told, is_done}
use Rattle.guarantees.specs.Fetch.{reports, reported_read, reported_action, reported_call, reported_from, ReportedOverHistory}
use Rattle.guarantees.proofs.Calls.{call-cases, changed-at}
use Rattle.guarantees.proofs.Names.{source_of}
use Rattle.guarantees.proofs.Fetches.{announce-cases, fetch-cases, marked_at}
use Rattle.guarantees.proofs.Arrivals.{arrival-heard}
use Rattle.guarantees.proofs.HistoryMessages.{reported-long, known-session}
use Rattle.guarantees.proofs.History.{kept_from}

-- ---- the reported sources as a set
or_none : (b : Bool) → (b || false) ≡ b
or_none true = refl
or_none false = refl

reported-after : (rs : List Reported) (sources s : ℕ) → bit (reported_after sources rs) s ≡ (bit sources s || reports rs s)
unfolding reported_after reports
reported-after [] sources s = sym (or_none (bit sources s))
reported-after (r ∷ rs) sources s =
    reported-after rs (with_bit sources r.source.0) s
    ∙ by_test (eqb r.source.0 s)
    (λ e.
    let same : s ≡ r.source.0 = sym (eqb-true r.source.0 s e) in
    let now : bit (with_bit sources r.source.0) s ≡ true = ap (bit (with_bit sources r.source.0)) same ∙ bit_with sources r.source.0 in
    rw (now, e) (sym (or_all (bit sources s))))
    (λ e. rw (bit-other sources r.source.0 s (eqb_flip r.source.0 s e), e))
  where
    or_all : (b : Bool) → (b || true) ≡ true
    or_all true = refl
    or_all false = refl

reported_in_lem : (rs : List Reported) (s : ℕ) → bit (reported_in rs) s ≡ reports rs s
reported_in_lem rs s = reported-after rs 0 s ∙ ap (λ (b : Bool). b || reports rs s) (bit-none s)

-- ---- what leaves what was heard
abbrev SameHeard : ℕ → End → Step → Type 0
SameHeard h e r = (source_of r.left h).heard ≡ (source_of e h).heard

stored_heard : (e : End) (k : Host) (x : Source) → x.heard ≡ (source_at e k).heard → (h : ℕ) → (source_of (with_source e k x) h).heard ≡ (source_of e h).heard
stored_heard e k x same h = set_elim (λ (y : Source). y.heard ≡ (source_of e h).heard) e.sources k.0 h x no_source
    (λ i. same ∙ ap (λ (j : ℕ). (source_of e j).heard) (sym i)) refl

extended-heard : (t : Moment) (us : List ℕ) (n : ℕ) (s : Source) (x : Span) → (extended t us n s x).heard ≡ s.heard
extended-heard t us n s Closed = refl
extended-heard t us n s (Open first last) = rise-heard _ n s (Open first last)

fire-heard : (us : List ℕ) (e : End) (x : Earliest) (h : ℕ) → SameHeard h e (fired us e x)
unfolding fired fire_at
fire-heard us e NoWait h = refl
fire-heard us e (First w) h = go (record_at (source_at e w.name.source) w.name.number.0).slot
  where
    go : (x : Slot) → SameHeard h e (fire_at us w.rank w.name e x)
    go Empty = refl
    go (Waiting q x) = by_cond (SameHeard h e) (eqb w.rank express_rank)
        (λ _. stored_heard e w.name.source _ refl h) (λ _. stored_heard e w.name.source _ refl h)
    go (Held No) = refl
    go (Held (Due due k)) = stored_heard e w.name.source _ refl h

other-heard : (us : List ℕ) (o : Other) (e : End) (h : ℕ) → SameHeard h e (other_of us o e)
other-heard us Fire e h = fire-heard us e (earliest e 8) h
other-heard us Report e h = refl
other-heard us Announce e h = announce-cases (SameHeard h e) e refl (λ bytes. refl)
other-heard us (Fetch name) e h = fetch-cases (SameHeard h e) name e refl refl
    (λ bytes l. marked_at (λ (y : Source). y.heard ≡ (source_of e h).heard) e name.source l h refl refl)

-- ---- a message that arrives

-- a session message of host h
module _ (m : Meaning) (h : ℕ) where
  is-session : is_kind m.kind ≡ true → is_session_of m h ≡ true → (m.kind ≡ SESS) × (m.sender.0 ≡ h)
  unfolding is_session_of
  is-session known t =
      let unheeded = is_fetched m || is_announced m in
      let both = and_both (not (has_name m || unheeded)) (eqb m.sender.0 h) t in
      let neither = not-true (has_name m || unheeded) both.0 in
      let n = or_left (has_name m) unheeded neither in
      let u = or_right (has_name m) unheeded neither in
      let f = or_left (is_fetched m) (is_announced m) u in
      let d = or_right (eqb m.kind DATA) _ n in
      let r = or_right (eqb m.kind RQST) _ d in (
        eqb-true m.kind SESS (known-session m.kind known (or_left (eqb m.kind DATA) _ n) (or_left (eqb m.kind RQST) _ d)
            (or_left (eqb m.kind REPL) _ r) (or_right (eqb m.kind REPL) _ r) (or_left (eqb m.kind FTCH) _ f) (or_right (eqb m.kind FTCH) _ f) (or_right (is_fetched m) (is_announced m) u)),
        eqb-true m.sender.0 h both.1,
      )

  no_session : is_session_of m h ≡ false → (d : Bool) → (eqb m.kind SESS && (eqb m.sender.0 h && d)) ≡ false
  unfolding is_session_of
  no_session t d = by_test (eqb m.kind SESS)
      (λ k. by_test (eqb m.sender.0 h)
      (λ i. clash ((rw (eqb-true m.kind SESS k, i) refl) ∙ t))
      (λ i. rw (k, i)))
      (λ k. rw k)

-- what is not Done is none that is heard
none_done : (a b : Bool) → (a && (b && false)) ≡ false
none_done true true = refl
none_done true false = refl
none_done false b = refl

session-step : (us : List ℕ) (m : Meaning) (e : End) → m.kind ≡ SESS → message_step us m e ≡ session_of (moment_of e) us m e
unfolding message_step
session-step us m e k = rw k

module _ (us : List ℕ) (m : Meaning) (e : End) (f : SoundState e) (hm : source m < 8) (known : is_kind m.kind ≡ true) (h s : ℕ) (hh : h < 8) where
  abbrev was : Bool
  was = reported_by (source_of e h).heard (as_host s)

  abbrev Reads : Step → Type 0
  Reads r = reported_by (source_of r.left h).heard (as_host s)
      ≡ cond (eqb m.kind SESS && (eqb m.sender.0 h && is_done r.effect)) (reports m.reports s) was

  ignored-reads : Reads (give Ignored e)
  ignored-reads = sym (ap (λ (b : Bool). cond b (reports m.reports s) was) (none_done (eqb m.kind SESS) (eqb m.sender.0 h)))

  session-reads : m.kind ≡ SESS → m.sender.0 ≡ h → Reads (session_of (moment_of e) us m e)
  unfolding session_of
  session-reads k i =
      let now = all_reported (moment_of e) us m.reports e in
      let p = heard_from (moment_of e) m (source_at now m.sender) in
      rw (eq-eqb m.kind SESS k, eq-eqb m.sender.0 h i)
      (changed-at (λ (y : Source). reported_by y.heard (as_host s) ≡ reports m.reports s) now.sources m.sender.0 p h
      (omega (arith, reported-long (moment_of e) us m.reports e, f.sources))
      (λ _. reported_in_lem m.reports s) (λ off. absurd (eqb-false h m.sender.0 off (sym i))))

  arrival-reads : Reads (if_member e (arrival_of us m e))
  unfolding arrival_of
  arrival-reads = by_test (is_session_of m h)
      (λ t.
      let is = is-session m h known t in
      by_cond Reads (is_member e.status) (λ _. by_cond Reads (same_host m.sender e.host) (λ _. ignored-reads)
      (λ _. subst Reads (sym (session-step us m e is.0)) (session-reads is.0 is.1))) (λ _. ignored-reads))
      (λ t.
      let same = (((arrival-heard us m e f hm).sources h hh).rest.1 t).1 in
      ap (λ (x : Heard). reported_by x (as_host s)) same
      ∙ sym (ap (λ (b : Bool). cond b (reports m.reports s) was) (no_session m h t (is_done (if_member e (arrival_of us m e)).effect))))

-- ---- a call
never-by : (x : Heard) (s : Host) → is_never x ≡ true → reported_by x s ≡ false
never-by Never s t = refl
never-by (At stamp when reported) s t = clash' t

-- a host of which nothing is kept
unheard-none : (me h s : ℕ) → h < 8 → reported_by (get_or (unheard_sources me) h no_source).heard (as_host s) ≡ false
unheard-none me h s hh = set_elim (λ (y : Source). reported_by y.heard (as_host s) ≡ false) (replicate 8 (unheard 40)) me h (unheard 0) no_source
    (λ _. refl) (rw (get_or-replicate 8 h (unheard 40) no_source hh) refl)

probe_unread : read_as [] ≡ none
unfolding read_as read_refusal
probe_unread = refl

module _ (us : List ℕ) (e : End) (f : SoundState e) (h s : ℕ) (hh : h < 8) where
  abbrev kept : End → Bool
  kept p = reported_by (source_of p h).heard (as_host s)

  abbrev Goes : Action → Step → Type 0
  Goes a r = kept r.left ≡ reported_action h s (kept e) a r.effect

  aside-kept : is_member e.status ≡ false → kept e ≡ false
  aside-kept aside =
      never-by (source_of e h).heard (as_host s) (nth (non_member_tests (same_host (as_host h) e.host) (source_of e h)) 1 ((f.each h hh).aside aside))

  move-goes : (m : Move) → Goes (Moves m) (move_of m e)
  unfolding move_of moved_end reported_action
  move-goes m = by_cond (Goes (Moves m)) (moves m e.status)
      (λ t. by_cond (λ (p : End). kept p ≡ false) (clears m) (λ _. unheard-none e.host.0 h s hh) (λ c. aside-kept (kept_from m e.status c t)))
      (λ _. refl)

  ignored-goes : (a : Action) → Goes a (give Ignored e)
  unfolding reported_action reported_read
  ignored-goes (Moves m) = refl
  ignored-goes (Send cue) = refl
  ignored-goes (Arrival bytes) = go (read_as bytes)
    where
      go : (o : Option Meaning) → kept e ≡ reported_read h s (kept e) o Ignored
      go none = refl
      go (some m) = sym (ap (λ (b : Bool). cond b (reports m.reports s) (kept e)) (none_done (eqb m.kind SESS) (eqb m.sender.0 h)))
  ignored-goes (Else o) = refl

  act_goes : (a : Action) → ((bytes : List ℕ) → a ≡ Arrival bytes → first_no (read_questions bytes) ≡ 0) → Goes a (act_of us a e)
  unfolding act_of reported_action reported_read
  act_goes (Moves m) own = move-goes m
  act_goes (Send cue) own = by_cond (Goes (Send cue)) (is_member e.status)
      (λ _. ap (λ (x : Heard). reported_by x (as_host s))
      (stored_heard e e.host _ (extended-heard (moment_of e) us e.next (source_at e e.host) (source_at e e.host).span) h))
      (λ _. refl)
  act_goes (Arrival []) own = by_cond (Goes (Arrival [])) (is_member e.status) (λ _. rw probe_unread) (λ _. rw probe_unread)
  act_goes (Arrival (b ∷ bytes)) own =
      let m = meaning_from (b ∷ bytes) in
      let read = reads (b ∷ bytes) (own (b ∷ bytes) refl) in
      let known = (counted-row m.kind (counts_of m) (counts_read (b ∷ bytes) (accepted (b ∷ bytes) (own (b ∷ bytes) refl)))).known in
      rw read (arrival-reads us m e f (in_range_lem (b ∷ bytes) m read).source known h s hh)
  act_goes (Else o) own = by_cond (Goes (Else o)) (is_member e.status) (λ _. ap (λ (x : Heard). reported_by x (as_host s)) (other-heard us o e h)) (λ _. refl)

call-goes : (e : End) (a : Action) (clock room : ℕ) (us : List ℕ) (h s : ℕ) → h < 8 → let r = event_of e a clock room us in
    reported_by (source_of r.left h).heard (as_host s) ≡ reported_call h s (reported_by (source_of e h).heard (as_host s)) a r.outcome
unfolding reported_call
call-goes e a clock room us h s hh =
    call-cases (λ (r : Result). reported_by (source_of r.left h).heard (as_host s)
    ≡ reported_call h s (reported_by (source_of e h).heard (as_host s)) a r.outcome) e a clock room us
    (λ k. refl)
    (λ z c. ignored-goes us e (facts e z.sound) h s hh a)
    (λ z c. act_goes us (with_clock e clock) (clock-kept e clock (facts e z.sound) z.later z.ticks) h s hh a
    (λ bytes i. (subst (λ (y : Action). Passed e y clock) i z).own))

-- ---- a list of calls
through : (cs : List OneCall) (e : End) (h s : ℕ) → h < 8
    → reported_by (source_of (after_all e cs) h).heard (as_host s) ≡ reported_from h s (reported_by (source_of e h).heard (as_host s)) (told e cs)
unfolding told reported_from
through [] e h s hh = refl
through (c ∷ cs) e h s hh =
    through cs (after e c) h s hh
    ∙ ap (λ (b : Bool). reported_from h s b (told (after e c) cs)) (call-goes e c.action c.clock c.room c.draws h s hh)

opened-unheard : (host : Host) (p : Params) (h s : ℕ) → h < 8 → reported_by (source_of (opening_of host p).end h).heard (as_host s) ≡ false
unfolding opening_of
opened-unheard host p h s hh = go (open_refusal host p)
  where
    go : (k : ℕ) → reported_by (source_of (end_for k host p) h).heard (as_host s) ≡ false
    go zero = unheard-none host.0 h s hh
    go (suc k) = unheard-none 0 h s hh

pub reported_over_history : ReportedOverHistory
reported_over_history host p cs h s hh =
    let e = (opening_of host p).end in
    through cs e h s hh ∙ ap (λ (b : Bool). reported_from h s b (told e cs)) (opened-unheard host p h s hh)
