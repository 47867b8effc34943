-- The count is the count taken over the history: each event by what it does to the sources, then a call, then a list of calls.
use mathlib.Core.Path.{◌≡◌, refl, sym, ap, ◌∙◌, subst}
use mathlib.Core.Bool.{Bool, true, false, ◌&&◌}
use mathlib.Core.List.{List, [], ◌∷◌}
use mathlib.Core.Option.{none}
use Prim.Native.Nat.{ℕ, zero, suc, ◌+◌, ◌-◌, ◌<◌, max}
use native.Mathlib.Omega.{arith}
use lib.ListN.{length, get_or, set, replicate, get_or-replicate}
use lib.Dec.{eqb}
use borrow.Author.Tests.{eqb-true, eq-eqb}
use Rattle.message.specs.declared.Host.{Host}
use Rattle.message.specs.declared.Name.{Name}
use Rattle.message.specs.declared.Report.{Report}
use Rattle.message.specs.Entry.{as_host}
use Rattle.message.specs.Message.{DATA, RQST, REPL, XPRS, FTCH, LATE, ANNC, Meaning, meaning_from, counts_of}
use Rattle.message.specs.Question.{same_host, read_refusal}
use Rattle.message.proofs.QuestionLaws.{counted as counted-row}
use Rattle.roundtrip.proofs.RoundTrip.{accepted, counts_read}
use Rattle.end.specs.declared.Params.{Params}
use Rattle.end.specs.declared.Status.{Status}
use Rattle.end.specs.declared.Status.TheVariants.{Idle, Joining, Member, Leaving, Crashed}
use Rattle.end.specs.declared.Move.{Move}
use Rattle.end.specs.declared.Move.TheVariants.{Join, Joined, Leave, Left, Crash}
use Rattle.end.specs.Parts.{Express, Unset, No, Due, Span, Closed, Open, Origin, NoOrigin, From, Earliest, NoWait, First}
use Rattle.end.specs.declared.Slot.{Slot}
use Rattle.end.specs.declared.Slot.TheVariants.{Empty, Held, Waiting}
use Rattle.end.specs.declared.Record.{Record}
use Rattle.end.specs.declared.Source.{Source}
use Rattle.end.specs.declared.End.{End}
use Rattle.end.specs.declared.Moment.{Moment}
use Rattle.end.specs.State.{no_source, unheard, unheard_sources, source_at, is_member, moment_of, with_clock, on_source}
use Rattle.end.specs.Records.{is_closed, within, record_at, is_held, with_record, with_express}
use Rattle.end.specs.Names.{asked, holds_cue, first_after}
use Rattle.end.specs.Sound.{all_of, span_tests, non_member_tests, origin_sound, sound_of}
use Rattle.end.specs.Answer.{Done, Ignored, Step, Untouched, Did, Result, done}
use Rattle.end.specs.Decide.{step_at}
use Rattle.end.specs.Session.{reported_source, all_reported, session_of}
use Rattle.end.specs.Arrival.{message_step, arrival_of}
use Rattle.end.specs.Fire.{express_rank, earliest, fire_at, fired}
use Rattle.end.specs.Event.{Action, Moves, Send, Arrival, Else, Other, Fire, Report as Reporting, Announce, Fetch, moves, clears, moved_end, move_of, extended, sent_source, send_of, other_of, if_member, act_of, event_of}
use Rattle.end.specs.Opening.{open_refusal, end_for, opening_of}
use Rattle.end.specs.Book.{read_as, among}
use Rattle.end.proofs.Tools.{by_cond, clash, clash', set_elim}
use Rattle.end.proofs.Lacking.{lacking_no}
use Rattle.end.proofs.Readings.{reads}
use Rattle.end.proofs.RecordLaws.{Narrow, within_in}
use Rattle.end.proofs.RiseLaws.{missed-plain}
use Rattle.end.proofs.SoundLaws.{nth, own_held, sound-end}
use Rattle.end.proofs.AttemptLaws.{sound-origin}
use Rattle.invariants.proofs.Facts.{SoundState, facts, sound}
use Rattle.invariants.proofs.Ends.{clock-kept}
use Rattle.invariants.proofs.Questions.{Passed}
use Rattle.guarantees.specs.Calls.{OneCall, after, after_all}
use Rattle.guarantees.specs.Records.{request_in}
use Rattle.guarantees.specs.History.{told, Since, nothing_yet, since_read, since_action, since_call, since_from, since_joining, count_over, counted, span_since, origin_over, CountOverHistory, NonMembersCountNone}
use Rattle.guarantees.proofs.Calls.{call-cases, crashed_no_member, changed-at}
use Rattle.guarantees.proofs.Names.{waits-inside, held-inside, source_of, Ends, own-ends}
use Rattle.guarantees.proofs.Fetches.{announce-cases, fetch-cases, fetched-cases, late-cases, marked_at}
use Rattle.guarantees.proofs.Heard.{replied-held}
use Rattle.guarantees.proofs.HistoryMessages.{Tells, read_none, closed_none, tells_none, tells_stored, tells_marked, arrival-tells}
use Rattle.guarantees.proofs.HistoryKept.{Others, rise-origin, others-count, others-span, others-origin, others-least, others-held}

-- an express wait beside a request, or none
beside_held : (x : Express) (y : Slot) → is_held (with_express x y) ≡ is_held y
beside_held x Empty = refl
beside_held x (Held reply) = refl
beside_held x (Waiting q was) = refl

-- ---- Fire: a wait that goes out changes one record, which stays held or not
module _ (us : List ℕ) (e : End) (long : length e.sources ≡ 8) (past : ℕ → Since)
    (told_so : (s : ℕ) → s < 8 → Tells (eqb s e.host.0) (past s) (source_of e s)) (s : ℕ) (hh : s < 8) where
  abbrev Stays : Step → Type 0
  Stays r = Tells (eqb s e.host.0) (past s) (source_of r.left s)

  stored_tells : (name : Name) (r : Record) → let p = source_at e name.source in
      within p.span name.number.0 ≡ true → is_held r.slot ≡ holds_cue p name.number.0
      → Tells (eqb s e.host.0) (past s) (get_or (set e.sources name.source.0 (with_record p name.number.0 r)) s no_source)
  stored_tells name r w same =
      let n = name.number.0 in
      changed-at (Tells (eqb s e.host.0) (past s)) e.sources name.source.0 (with_record (source_at e name.source) n r) s (omega arith)
      (λ it. tells_stored (eqb s e.host.0) (past s) (source_at e name.source) n r w same
      (subst (λ (k : ℕ). Tells (eqb s e.host.0) (past s) (source_of e k)) it (told_so s hh)))
      (λ _. told_so s hh)

  fire-tells : (rank : ℕ) (name : Name) (x : Slot) → (record_at (source_at e name.source) name.number.0).slot ≡ x → Stays (fire_at us rank name e x)
  unfolding fire_at
  fire-tells rank name Empty p = told_so s hh
  fire-tells rank name (Waiting q x) p =
      let inside = waits-inside (source_at e name.source) name.number.0 q (ap request_in p) in
      by_cond Stays (eqb rank express_rank)
      (λ _. stored_tells name _ inside (beside_held Unset (record_at (source_at e name.source) name.number.0).slot))
      (λ _. stored_tells name _ inside (sym (ap is_held p)))
  fire-tells rank name (Held No) p = told_so s hh
  fire-tells rank name (Held (Due due k)) p =
      stored_tells name _ (held-inside (source_at e name.source) name.number.0 (ap is_held p))
      (replied-held No (record_at (source_at e name.source) name.number.0).slot)

  other-tells : (o : Other) → Stays (other_of us o e)
  unfolding fired
  other-tells Fire = go (earliest e 8)
    where
      go : (x : Earliest) → Stays (fired us e x)
      go NoWait = told_so s hh
      go (First w) = fire-tells w.rank w.name _ refl
  other-tells Reporting = told_so s hh
  other-tells Announce = announce-cases Stays e (told_so s hh) (λ bytes. told_so s hh)
  other-tells (Fetch name) = fetch-cases Stays name e (told_so s hh) (told_so s hh)
      (λ bytes l. marked_at (Tells (eqb s e.host.0) (past s)) e name.source l s (told_so s hh)
      (tells_marked (eqb s e.host.0) (past s) (source_of e s) l (told_so s hh)))

-- ---- Send: own numbers are all held, so none is counted
own_uncounted : (t : Moment) (us : List ℕ) (next : ℕ) (s : Source) (x : Span) → s.span ≡ x → Ends next x → Narrow x
    → ((j : ℕ) → within x j ≡ true → holds_cue s j ≡ true)
    → (extended t us next s x).missed ≡ s.missed
own_uncounted t us next s Closed is ends o held = refl
own_uncounted t us next s (Open first last) is ends o held =
    let f = first.0 in
    let k = last.0 in
    let low = first_after f (max k next) in
    let all = lacking_no (holds_cue s) (low - f) f (λ j a b. held j (within_in f k j a (omega (arith, o.0)))) in
    missed-plain (asked t us s.distance) next s first last is o.0 ∙ ap (λ (i : ℕ). s.missed + i) all ∙ plain s.missed
  where
    plain : (i : ℕ) → i + 0 ≡ i
    plain i = omega arith

extended-origin : (t : Moment) (us : List ℕ) (n : ℕ) (s : Source) (x : Span) → (extended t us n s x).origin ≡ s.origin
extended-origin t us n s Closed = refl
extended-origin t us n s (Open first last) = rise-origin _ n s (Open first last)

own-tells : (x : Since) (s p : Source) → p.missed ≡ s.missed → p.origin ≡ s.origin → Tells true x s → Tells true x p
unfolding Tells
own-tells x s p same begins q = (q.0, same ∙ q.1, begins ∙ q.2)

send-tells : (us cue : List ℕ) (e : End) → sound_of e ≡ true → (clock : ℕ) (past : ℕ → Since)
    → ((s : ℕ) → s < 8 → Tells (eqb s e.host.0) (past s) (source_of e s))
    → (s : ℕ) → s < 8 → Tells (eqb s e.host.0) (past s) (source_of (send_of us cue (with_clock e clock)).left s)
send-tells us cue e sound clock past told_so s hh =
    let f = facts e sound in
    let me = e.host in
    let p = source_at e me in
    let ends = own-ends e sound in
    let own = eq-eqb me.0 me.0 refl in
    let held : (j : ℕ) → within p.span j ≡ true → holds_cue p j ≡ true =
    λ j w. own_held me me p.pair p.span j (record_at p j) (rw w ((f.each me.0 f.host).inside j w)) w own in
    changed-at (Tells (eqb s me.0) (past s)) e.sources me.0 (sent_source (moment_of (with_clock e clock)) us e.next cue p) s
    (omega (arith, f.sources))
    (λ it.
    let mine : eqb s me.0 ≡ true = eq-eqb s me.0 it in
    rw mine (own-tells (past s) p _ (own_uncounted (moment_of (with_clock e clock)) us e.next p p.span refl ends.0 ends.1 held)
    (extended-origin (moment_of (with_clock e clock)) us e.next p p.span)
    (subst (λ (k : ℕ). Tells true (past s) (source_of e k)) it (subst (λ (b : Bool). Tells b (past s) (source_of e s)) mine (told_so s hh)))))
    (λ _. told_so s hh)

-- ---- the moves

-- a move that clears nothing is no member's
pub kept_from : (m : Move) (x : Status) → clears m ≡ false → moves m x ≡ true → is_member x ≡ false
kept_from m Idle c t = refl
kept_from m Joining c t = refl
kept_from m Leaving c t = refl
kept_from m Crashed c t = refl
kept_from Join Member c t = clash' t
kept_from Joined Member c t = clash' t
kept_from Leave Member c t = clash c
kept_from Left Member c t = clash' t
kept_from Crash Member c t = clash c

-- a source of which nothing is kept: no first, nothing counted, and no first original
abbrev pub Bare : Source → Type 0
Bare s = (s.span ≡ Closed) × (s.missed ≡ 0) × (s.origin ≡ NoOrigin)

pub unheard_bare : (me s : ℕ) → s < 8 → Bare (get_or (unheard_sources me) s no_source)
unheard_bare me s hs =
    set_elim Bare (replicate 8 (unheard 40)) me s (unheard 0) no_source (λ i. (refl, refl, refl))
    (rw (get_or-replicate 8 s (unheard 40) no_source hs) (refl, refl, refl))

-- so of a sound non-member
pub aside_bare : (e : End) → SoundState e → is_member e.status ≡ false → (s : ℕ) → s < 8 → Bare (source_of e s)
aside_bare e f aside s hh =
    let p = source_of e s in
    let own = same_host (as_host s) e.host in
    let origin = sound-origin e.host e.next e.clock (is_member e.status) (as_host s) p ((sound-end e (sound e f)).each s hh) in
    go own p.missed p.span p.origin (nth (non_member_tests own p) 0 ((f.each s hh).aside aside)) (f.each s hh).span origin
  where
    go : (own : Bool) (missed : ℕ) (x : Span) (o : Origin) → is_closed x ≡ true → all_of (span_tests own e.next missed x) ≡ true → origin_sound own x o ≡ true
        → (x ≡ Closed) × (missed ≡ 0) × (o ≡ NoOrigin)
    go own missed Closed NoOrigin c t k = (refl, eqb-true missed 0 t, refl)
    go own missed Closed (From n) c t k = clash' k
    go own missed (Open first last) o c t k = clash' c

-- ---- a call
record After (e : End) (past : ℕ → Since) (a : Action) (r : Result) : Type 0 where
  host : r.left.host ≡ e.host
  tells : (s : ℕ) → s < 8 → Tells (eqb s e.host.0) (since_call e.host.0 s (past s) a r.outcome) (source_of r.left s)
  aside : is_member r.left.status ≡ false → (s : ℕ) → s < 8 → (source_of r.left s).missed ≡ 0

reported-frame : (t : Moment) (us : List ℕ) (rs : List Report) (e : End) → ((all_reported t us rs e).host ≡ e.host) × ((all_reported t us rs e).status ≡ e.status)
unfolding all_reported
reported-frame t us [] e = (refl, refl)
reported-frame t us (r ∷ rs) e = let q = reported-frame t us rs (on_source e r.source (reported_source t us r)) in (q.0, q.1)

-- what an event other than a move leaves of host and status
abbrev pub Frame : End → Step → Type 0
Frame e r = (r.left.host ≡ e.host) × (r.left.status ≡ e.status)

pub arrival-frame : (us : List ℕ) (m : Meaning) (e : End) → Frame e (arrival_of us m e)
unfolding arrival_of message_step step_at session_of
arrival-frame us m e = by_cond (Frame e) (same_host m.sender e.host) (λ _. (refl, refl))
    (λ _. by_cond (Frame e) (eqb m.kind DATA) (λ _. (refl, refl))
    (λ _. by_cond (Frame e) (eqb m.kind RQST) (λ _. (refl, refl))
    (λ _. by_cond (Frame e) (eqb m.kind REPL) (λ _. (refl, refl))
    (λ _. by_cond (Frame e) (eqb m.kind XPRS) (λ _. (refl, refl))
    (λ _. by_cond (Frame e) (eqb m.kind FTCH) (λ _. fetched-cases (Frame e) m e (refl, refl) (λ bytes. (refl, refl)))
    (λ _. by_cond (Frame e) (eqb m.kind LATE) (λ _. late-cases (Frame e) m e (refl, refl) (λ l. (refl, refl)))
    (λ _. by_cond (Frame e) (eqb m.kind ANNC) (λ _. (refl, refl))
    (λ _. reported-frame (moment_of e) us m.reports e))))))))

fire-frame : (us : List ℕ) (e : End) (x : Earliest) → Frame e (fired us e x)
unfolding fired fire_at
fire-frame us e NoWait = (refl, refl)
fire-frame us e (First w) = go (record_at (source_at e w.name.source) w.name.number.0).slot
  where
    go : (x : Slot) → Frame e (fire_at us w.rank w.name e x)
    go Empty = (refl, refl)
    go (Waiting q x) = by_cond (Frame e) (eqb w.rank express_rank) (λ _. (refl, refl)) (λ _. (refl, refl))
    go (Held No) = (refl, refl)
    go (Held (Due due k)) = (refl, refl)

pub other-frame : (us : List ℕ) (o : Other) (e : End) → Frame e (other_of us o e)
other-frame us Fire e = fire-frame us e (earliest e 8)
other-frame us Reporting e = (refl, refl)
other-frame us Announce e = announce-cases (Frame e) e (refl, refl) (λ bytes. (refl, refl))
other-frame us (Fetch name) e = fetch-cases (Frame e) name e (refl, refl) (refl, refl) (λ bytes l. (refl, refl))

-- Ignored outside membership: no source is open, so nothing is told of any, whatever arrives
ignored-tells : (e : End) → SoundState e → is_member e.status ≡ false → (a : Action) (x : Since) (s : ℕ) → s < 8
    → Tells (eqb s e.host.0) x (source_of e s)
    → Tells (eqb s e.host.0) (since_action e.host.0 s x a Ignored) (source_of e s)
unfolding since_action
ignored-tells e f aside (Moves m) x s hh q = q
ignored-tells e f aside (Send cue) x s hh q = q
ignored-tells e f aside (Arrival bytes) x s hh q =
    let none_yet = closed_none (eqb s e.host.0) x (source_of e s) (aside_bare e f aside s hh).0 q in
    let stays = ap (λ (y : Since). since_read e.host.0 s y (read_as bytes) Untouched) none_yet ∙ read_none e.host.0 s (read_as bytes) ∙ sym none_yet in
    subst (λ (y : Since). Tells (eqb s e.host.0) y (source_of e s)) (sym stays) q
ignored-tells e f aside (Else o) x s hh q = q

probe_unread : read_as [] ≡ none
unfolding read_as read_refusal
probe_unread = refl

module _ (us : List ℕ) (e : End) (past : ℕ → Since) (told_so : (s : ℕ) → s < 8 → Tells (eqb s e.host.0) (past s) (source_of e s))
    (uncounted : is_member e.status ≡ false → (s : ℕ) → s < 8 → (source_of e s).missed ≡ 0) where
  ignored-after : (a : Action) → SoundState e → is_member e.status ≡ false → (clock : ℕ)
      → After e past a (record { outcome = Did Ignored; left = with_clock e clock })
  unfolding since_call
  ignored-after a f no_member clock =
      record { host = refl; tells = λ s hh. ignored-tells e f no_member a (past s) s hh (told_so s hh); aside = uncounted }

  move-after : (m : Move) (clock : ℕ) → SoundState e → After e past (Moves m) (done (move_of m (with_clock e clock)))
  unfolding move_of moved_end since_call since_action
  move-after m clock f = by_cond (λ (r : Step). After e past (Moves m) (done r)) (moves m e.status)
      (λ t. by_cond (λ (x : End). After e past (Moves m) (record { outcome = Did Done; left = x })) (clears m)
      (λ _. record {
        host = refl;
        tells = λ s hh.
            let q = unheard_bare e.host.0 s hh in
            tells_none (eqb s e.host.0) (get_or (unheard_sources e.host.0) s no_source) q.0 q.1 q.2;
        aside = λ _ s hh. (unheard_bare e.host.0 s hh).1;
      })
      (λ c.
      let bare = aside_bare e f (kept_from m e.status c t) in
      record {
        host = refl;
        tells = λ s hh. let q = bare s hh in tells_none (eqb s e.host.0) (source_of e s) q.0 q.1 q.2;
        aside = λ _ s hh. (bare s hh).1;
      }))
      (λ _. record { host = refl; tells = told_so; aside = uncounted })

  -- a member's step, or Ignored
  joined : (a : Action) (clock : ℕ) (r : Step) → SoundState e → Frame e r
      → (is_member e.status ≡ true → (s : ℕ) → s < 8 → Tells (eqb s e.host.0) (since_action e.host.0 s (past s) a r.effect) (source_of r.left s))
      → After e past a (done (if_member (with_clock e clock) r))
  unfolding since_call
  joined a clock r f frame g = by_cond (λ (x : Step). After e past a (done x)) (is_member e.status)
      (λ member. record { host = frame.0; tells = g member; aside = λ no_member. clash (sym member ∙ sym (ap is_member frame.1) ∙ no_member) })
      (λ no_member. ignored-after a f no_member clock)

  act_after : (a : Action) (clock : ℕ) → Passed e a clock → After e past a (done (act_of us a (with_clock e clock)))
  unfolding act_of since_action since_read
  act_after (Moves m) clock z = move-after m clock (facts e z.sound)
  act_after (Send cue) clock z = joined (Send cue) clock _ (facts e z.sound) (refl, refl) (λ _. send-tells us cue e z.sound clock past told_so)
  act_after (Arrival []) clock z = joined (Arrival []) clock _ (facts e z.sound) (refl, refl) (λ _ s hh. rw probe_unread (told_so s hh))
  act_after (Arrival (b ∷ bytes)) clock z =
      let f = facts e z.sound in
      let now = with_clock e clock in
      let m = meaning_from (b ∷ bytes) in
      let read = reads (b ∷ bytes) z.own in
      let kinds = (counted-row m.kind (counts_of m) (counts_read (b ∷ bytes) (accepted (b ∷ bytes) z.own))).known in
      joined (Arrival (b ∷ bytes)) clock (arrival_of us m now) f (arrival-frame us m now)
      (λ _ s hh. rw read (arrival-tells us b bytes now (clock-kept e clock f z.later z.ticks) read kinds past told_so s hh))
  act_after (Else o) clock z =
      let f = facts e z.sound in
      joined (Else o) clock _ f (other-frame us o (with_clock e clock)) (λ _ s hh. other-tells us (with_clock e clock) f.sources past told_so s hh o)

  call-after : (a : Action) (clock room : ℕ) → After e past a (event_of e a clock room us)
  unfolding since_call
  call-after a clock room = call-cases (After e past a) e a clock room us
      (λ k. record { host = refl; tells = told_so; aside = uncounted })
      (λ z c.
      let q = ignored-after a (facts e z.sound) (crashed_no_member e.status c) e.clock in
      record { host = q.host; tells = q.tells; aside = q.aside })
      (λ z c. act_after a clock z)

-- ---- a list of calls
record Through (me s : ℕ) (x : Since) (left : End) : Type 0 where
  tells : Tells (eqb s me) x (source_of left s)
  aside : is_member left.status ≡ false → (source_of left s).missed ≡ 0

through : (cs : List OneCall) (e : End) (past : ℕ → Since) → ((s : ℕ) → s < 8 → Tells (eqb s e.host.0) (past s) (source_of e s))
    → (is_member e.status ≡ false → (s : ℕ) → s < 8 → (source_of e s).missed ≡ 0) → (s : ℕ) → s < 8
    → Through e.host.0 s (since_from e.host.0 s (past s) (told e cs)) (after_all e cs)
unfolding told since_from
through [] e past told_so uncounted s hh = record { tells = told_so s hh; aside = λ no_member. uncounted no_member s hh }
through (c ∷ cs) e past told_so uncounted s hh =
    let one = call-after c.draws e past told_so uncounted c.action c.clock c.room in
    let outcome = (event_of e c.action c.clock c.room c.draws).outcome in
    let now : ℕ → Since = λ k. since_call e.host.0 k (past k) c.action outcome in
    let host : (after e c).host.0 ≡ e.host.0 = ap (λ (h : Host). h.0) one.host in
    subst (λ (me : ℕ). Through me s (since_from me s (now s) (told (after e c) cs)) (after_all (after e c) cs)) host
    (through cs (after e c) now (λ k hk. subst (λ (me : ℕ). Tells (eqb k me) (now k) (source_of (after e c) k)) (sym host) (one.tells k hk)) one.aside s hh)

-- ---- from an opening
pub opened_bare : (h : Host) (p : Params) (s : ℕ) → s < 8 → Bare (source_of (opening_of h p).end s)
unfolding opening_of
opened_bare h p s hh = go (open_refusal h p)
  where
    go : (k : ℕ) → Bare (source_of (end_for k h p) s)
    go zero = unheard_bare h.0 s hh
    go (suc k) = unheard_bare 0 s hh

from_opening : (h : Host) (p : Params) (cs : List OneCall) (s : ℕ) → s < 8 → let e = (opening_of h p).end in
    Through e.host.0 s (since_joining e.host.0 s (told e cs)) (after_all e cs)
from_opening h p cs s hh =
    let e = (opening_of h p).end in
    through cs e (λ _. nothing_yet) (λ k hk. let q = opened_bare h p k hk in tells_none (eqb k e.host.0) (source_of e k) q.0 q.1 q.2)
    (λ _ k hk. (opened_bare h p k hk).1) s hh

-- what is told, in the statement's words
as_told : (own : Bool) (x : Since) (p : Source) → Tells own x p → (p.missed ≡ counted x) × (own ≡ true → p.missed ≡ 0)
    × (own ≡ false → p.span ≡ span_since x) × (own ≡ false → p.origin ≡ origin_over x.handed) × (own ≡ true → p.origin ≡ NoOrigin)
    × (own ≡ false → (n : ℕ) → holds_cue p n ≡ (within (span_since x) n && among n x.handed))
unfolding Tells count_over
as_told true x p q = (q.1 ∙ sym (ap counted q.0), (λ _. q.1), (λ c. clash c), (λ c. clash c), (λ _. q.2), λ c n. clash c)
as_told false x p q = (
  others-count x.handed x.highest p q,
  (λ c. clash' c),
  (λ _. others-span x.handed x.highest p q),
  (λ _. others-origin x.handed x.highest p q),
  (λ c. clash' c),
  λ _. others-held x.handed x.highest p q,
)

pub count_over_history : CountOverHistory
count_over_history h p cs s hh =
    let e = (opening_of h p).end in
    let q = as_told (eqb s e.host.0) _ _ (from_opening h p cs s hh).tells in
    record { count = q.0; own = q.1; span = q.2; origin = q.3; own_origin = q.4; held = q.5 }

-- what is handed out is not below the first one
pub handed-least : (h : Host) (p : Params) (cs : List OneCall) (s : ℕ) → s < 8 → let e = (opening_of h p).end in
    let x = since_joining e.host.0 s (told e cs) in eqb s e.host.0 ≡ false
    → (first : ℕ) (more : List ℕ) → x.handed ≡ first ∷ more → (n : ℕ) → n < first → among n x.handed ≡ false
unfolding Tells
handed-least h p cs s hh other first more is n l =
    let e = (opening_of h p).end in
    let x = since_joining e.host.0 s (told e cs) in
    let q : Tells false x (source_of (after_all e cs) s) =
    subst (λ (own : Bool). Tells own x (source_of (after_all e cs) s)) other (from_opening h p cs s hh).tells in
    subst (λ (hs : List ℕ). among n hs ≡ false) (sym is)
    (others-least first more x.highest _ (subst (λ (hs : List ℕ). Others hs x.highest (source_of (after_all e cs) s)) is q) n l)

pub non_members_count_none : NonMembersCountNone
non_members_count_none h p cs s hh = (from_opening h p cs s hh).aside
