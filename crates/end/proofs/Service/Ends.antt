-- Every event of an end that passed its questions is by the book; and so demand 3.
use mathlib.Core.Path.{◌≡◌, refl, sym, ap, ◌∙◌, subst}
use mathlib.Core.Bool.{Bool, true, false, not, ◌&&◌, ◌||◌, and-false}
use mathlib.Core.List.{List, [], ◌∷◌}
use mathlib.Core.Option.{Option, none, some}
use Prim.Native.Nat.{ℕ, ◌+◌, ◌≤◌, ◌<◌}
use native.Mathlib.Omega.{arith}
use lib.ListN.{length}
use lib.Dec.{eqb, ltb, leb}
use borrow.Author.Tests.{eqb-true, eqb-false, eq-eqb, ltb-true, lt-ltb, leb-true, le-leb}
use Rattle.numbers.proofs.Cases.{by_order}
use Rattle.message.specs.Cue.{cue_in as cueFits}
use Rattle.message.specs.Section.{all, rises}
use Rattle.message.specs.Message.{DATA, RQST, REPL, SESS, XPRS, FTCH, LATE, ANNC, Meaning, meaning_from, datagram_from, bytes_of}
use Rattle.message.specs.Question.{ask, first_no, message_questions, read_questions, read_refusal, same_host, in_range, window_fits, hosts_fit}
use Rattle.message.proofs.QuestionLaws.{all-passed}
use Rattle.message.proofs.SectionLaws as sections
use Rattle.end.specs.declared.Status.{Status}
use Rattle.end.specs.declared.Status.TheVariants.{Idle, Joining, Member, Leaving, Crashed}
use Rattle.end.specs.Parts.{Span, Closed, Open}
use Rattle.end.specs.declared.Says.{Says}
use Rattle.end.specs.declared.Says.TheVariants.{Data, Rqst, Repl, Xprs}
use Rattle.end.specs.declared.Move.{Move}
use Rattle.end.specs.declared.Move.TheVariants.{Join, Joined, Leave, Left, Crash}
use Rattle.end.specs.declared.Moment.{Moment}
use Rattle.end.specs.declared.Source.{Source}
use Rattle.end.specs.declared.End.{End}
use Rattle.end.specs.State.{source_at, is_member, is_crashed, moment_of, with_source, with_status, with_next, with_clock}
use Rattle.end.specs.Records.{is_closed, within}
use Rattle.end.specs.Names.{hold, asked, rise_with}
use Rattle.end.specs.Sound.{all_of, span_tests, source_tests, sound_of}
use Rattle.end.specs.Messages.{data_message}
use Rattle.end.specs.Answer.{Done, Ignored, Step, give}
use Rattle.end.specs.Fetch.{fetched_of, late_of}
use Rattle.end.specs.Arrival.{message_name, word_step, message_step, arrival_of}
use Rattle.end.specs.Event.{moves, moves_to, moved_end, move_of, cleared, Action, Moves, Send, Arrival, Else, Other, Report, own_name, extended, sent_source, sent_end, send_of, other_of, hearing_of, if_member, act_of, step_of, own_questions}
use Rattle.end.specs.Book.{Book, due_message, after_message, read_as, is_original, is_repair, is_about_name, brought_to, source, is_some, due, after, Meets}
use Rattle.end.specs.Run.{CueArray, Service}
use Rattle.end.proofs.Tools.{by_cond, clash, clash'}
use Rattle.end.proofs.RecordLaws.{Narrow}
use Rattle.end.proofs.RiseLaws.{rise-reaches}
use Rattle.end.proofs.SoundLaws.{nth, sound-end}
use Rattle.end.proofs.Facts.{Facts, facts, facts-clock, narrow}
use Rattle.end.proofs.Readings.{reads, written-reads, in_range_lem, reports_in_lem, original-source, session-kind}
use Rattle.end.proofs.Grounds.{is_data}
use Rattle.end.proofs.Service.View.{first_in, last_in, TookSource, holds, first_at, last_at, Same, Rose, Took, Rel, Filed, Right}
use Rattle.end.proofs.Service.Booked.{rel_same, calm-right, QuietBy, Quiet, untouched_quiet, quiet-right, fresh, takes, heeds, Hears, arrival-right, Sends, send-right, Moved, move-right}
use Rattle.end.proofs.Service.Frame.{Passed, EventsRight, service-from, none-held}
use Rattle.end.proofs.Service.Sources.{outside_none, took_opened, took_risen}
use Rattle.end.proofs.Service.Steps.{same_refl, took_source}
use Rattle.end.proofs.Service.Words.{is_repairing, word_hears}
use Rattle.end.proofs.Service.Quiets.{ignored-quiet, others, session-quiet, brings-none, fetched-quiet, late-quiet}

-- ---- Join, Joined, Leave, Left, Crash

cleared-moved : (m : Move) (e : End) → is_member (moves_to m) ≡ false → Moved m e (cleared e (moves_to m))
cleared-moved m e x = record {
  host = refl;
  status = refl;
  next = refl;
  holding = λ s n c hs p. let z : none ≡ some c = sym (none-held (cleared e (moves_to m)) refl s n hs) ∙ p in cc;
  empty = λ y. clash (sym y ∙ x);
  no_first = λ y. clash (sym y ∙ x);
  no_last = λ y. clash (sym y ∙ x);
}

kept-moved : (m : Move) (e : End) → is_member (moves_to m) ≡ false → Moved m e (with_status e (moves_to m))
unfolding holds
kept-moved m e x = record {
  host = refl;
  status = refl;
  next = refl;
  holding = λ s n c hs p. p;
  empty = λ y. clash (sym y ∙ x);
  no_first = λ y. clash (sym y ∙ x);
  no_last = λ y. clash (sym y ∙ x);
}

-- a status from which Joined moves is no member's
joining : (x : Status) → moves Joined x ≡ true → is_member x ≡ false
joining Idle t = clash' t
joining Joining t = refl
joining Member t = clash' t
joining Leaving t = clash' t
joining Crashed t = clash' t

moved-is : (m : Move) (e : End) → Facts e → moves m e.status ≡ true → Moved m e (moved_end m e)
unfolding moved_end holds first_at first_in last_at last_in
moved-is Join e f t = kept-moved Join e refl
moved-is Joined e f t =
    let a : is_member e.status ≡ false = joining e.status t in
    record {
      host = refl;
      status = refl;
      next = refl;
      holding = λ s n c hs p. p;
      empty = λ y s n hs. outside_none (source_at e (record { 0 = s })) n (ap (λ (x : Span). within x n) (f.aside a s hs));
      no_first = λ y s hs. ap first_in (f.aside a s hs);
      no_last = λ y s hs. ap last_in (f.aside a s hs);
    }
moved-is Leave e f t = cleared-moved Leave e refl
moved-is Left e f t = kept-moved Left e refl
moved-is Crash e f t = cleared-moved Crash e refl

-- ---- Send

-- "own last, if any, is next−1; first ≤ last"
abbrev OwnLast : ℕ → Span → Type 0
OwnLast next Closed = Unit {0}
OwnLast next (Open first last) = (first.0 ≤ last.0) × (last.0 + 1 ≡ next)

own-last : (e : End) → sound_of e ≡ true → OwnLast e.next (source_at e e.host).span
own-last e h =
    let q = sound-end e h in
    let s = source_at e e.host in
    go s.span (nth (source_tests e.host e.next e.clock (is_member e.status) e.host s) 1 (q.each e.host.0 q.host))
  where
    go : (x : Span) → all_of (span_tests (same_host e.host e.host) e.next (source_at e e.host).missed x) ≡ true → OwnLast e.next x
    go Closed t = tt
    go (Open first last) t =
        let tests = span_tests (same_host e.host e.host) e.next (source_at e e.host).missed (Open first last) in
        let own : eqb (last.0 + 1) e.next ≡ true = sym (ap (λ (b : Bool). not b || eqb (last.0 + 1) e.next) (eq-eqb e.host.0 e.host.0 refl)) ∙ nth tests 2 t in
        (leb-true first.0 last.0 (nth tests 0 t), eqb-true (last.0 + 1) e.next own)

next_took : (e e' : End) (k s n : ℕ) (c : List ℕ) → Took e e' s n c → Took e (with_next e' k) s n c
unfolding first_at last_at holds
next_took e e' k s n c v = record {
  host = v.host;
  status = v.status;
  first-there = v.first-there;
  last-there = v.last-there;
  holds-there = v.holds-there;
  holding-there = v.holding-there;
  firsts = v.firsts;
  lasts = v.lasts;
  holding = v.holding;
}

-- own last, if any, is next − 1, so the new number lies in first..last once last has risen to it
sent-source : (t : Moment) (us : List ℕ) (n : ℕ) (c : List ℕ) (s : Source) → Narrow s.span → OwnLast n s.span → length s.names ≡ 64
    → (x : Span) → s.span ≡ x → TookSource s (hold n c (extended t us n s x)) n c
sent-source t us n c s o own long Closed p = took_opened s n c p long
sent-source t us n c s o own long (Open first last) p =
    let new = asked t us s.distance in
    let before : OwnLast n (Open first last) = subst (OwnLast n) p own in
    let reaches = rise-reaches new n s first last (subst Narrow p o) (omega (arith, before.0, before.1)) in
    let inside = ap (λ (x : Span). within (rise_with new n s x).span n) p ∙ reaches in
    subst (λ (x : Span). TookSource s (hold n c (rise_with new n s x)) n c) p (took_risen new (λ m. refl) n s long o (ap is_closed p) inside c)

sent_took : (us c : List ℕ) (e : End) → Facts e → OwnLast e.next (source_at e e.host).span → Took e (sent_end us c e) e.host.0 e.next c
sent_took us c e f o =
    let s = source_at e e.host in
    let x = sent_source (moment_of e) us e.next c s in
    next_took e (with_source e e.host x) (e.next + 1) e.host.0 e.next c
    (took_source e e.host x (omega (arith, f.host, f.sources)) e.next c
    (sent-source (moment_of e) us e.next c s (narrow s.span (f.spans e.host.0 f.host)) o (f.names e.host.0 f.host) s.span refl))

-- the DATA is read as itself
data_reads : (c : List ℕ) (e : End) → Facts e → e.next < 65536 → cueFits c ≡ true → length c ≡ 24 → read_as (bytes_of (data_message (moment_of e) (own_name e) c)) ≡ some (data_message (moment_of e) (own_name e) c)
unfolding in_range hosts_fit window_fits all rises
data_reads c e f l fits long =
    written-reads (data_message (moment_of e) (own_name e) c)
    (record { stamp = f.clock; names = sections.some l sections.none; cues = sections.some long sections.none; reports = sections.none; echoes = sections.none })
    refl
    (rw (lt-ltb e.host.0 8 f.host, lt-ltb e.clock 281474976710656 f.clock, le-leb e.next 65535 (omega arith), fits, eq-eqb e.host.0 e.host.0 refl))

sends : (us c : List ℕ) (e : End) → Facts e → OwnLast e.next (source_at e e.host).span → e.next < 65536 → cueFits c ≡ true → length c ≡ 24 → Sends e.host.0 c e (send_of us c e)
sends us c e f o l fits long = record {
  bytes = bytes_of (data_message (moment_of e) (own_name e) c);
  answer = refl;
  message = record { message = data_message (moment_of e) (own_name e) c; reads = data_reads c e f l fits long; original = refl; name = refl; carried = refl };
  next = refl;
  took = sent_took us c e f o;
}

-- ---- Arrival

-- a message that is passed over, and one that only brings its numbers
hears-not : {h : ℕ} {e : End} {m : Meaning} {r : Step} → takes h e m ≡ false → heeds h e m ≡ false → Quiet e r → Hears h e m r
hears-not t n v = record { hands = λ x. clash (sym x ∙ t); brings = λ _ x. clash (sym x ∙ n); else = λ _. v }

hears_rose : {h : ℕ} {e : End} {m : Meaning} {r : Step} → takes h e m ≡ false → heeds h e m ≡ true → QuietBy (Rose (brought_to m) e) e r → Hears h e m r
hears_rose t n v = record { hands = λ x. clash (sym x ∙ t); brings = λ _ _. v; else = λ x. clash (sym n ∙ x) }

not_carried : (m : Meaning) (h : ℕ) (e : End) → is_original m ≡ false → is_repair m ≡ false → takes h e m ≡ false
unfolding takes
not_carried m h e o r = rw (o, r)

-- the kind of a message that says so
abbrev kind_of : Says → ℕ
kind_of Data = DATA
kind_of Rqst = RQST
kind_of Repl = REPL
kind_of Xprs = XPRS

module _ (e : End) (f : Facts e) (us : List ℕ) (member : is_member e.status ≡ true) (x : List ℕ) (m : Meaning) (p : read_as x ≡ some m)
    (other : eqb m.sender.0 e.host.0 ≡ false) where
  -- what a kind says of the kinds that carry a cue
  data_says : (says : Says) → eqb m.kind (kind_of says) ≡ true → is_original m ≡ is_data says
  data_says Data k = k
  data_says Rqst k = ap (λ (i : ℕ). eqb i DATA) (eqb-true m.kind RQST k)
  data_says Repl k = ap (λ (i : ℕ). eqb i DATA) (eqb-true m.kind REPL k)
  data_says Xprs k = ap (λ (i : ℕ). eqb i DATA) (eqb-true m.kind XPRS k)

  repair-says : (says : Says) → eqb m.kind (kind_of says) ≡ true → is_repair m ≡ is_repairing says
  repair-says Data k = ap (λ (i : ℕ). eqb i REPL) (eqb-true m.kind DATA k)
  repair-says Rqst k = ap (λ (i : ℕ). eqb i REPL) (eqb-true m.kind RQST k)
  repair-says Repl k = k
  repair-says Xprs k = ap (λ (i : ℕ). eqb i REPL) (eqb-true m.kind XPRS k)

  about : (says : Says) → eqb m.kind (kind_of says) ≡ true → is_about_name m ≡ true
  about Data k = ap (λ (i : ℕ). eqb i DATA || (eqb i RQST || (eqb i REPL || eqb i XPRS))) (eqb-true m.kind DATA k)
  about Rqst k = ap (λ (i : ℕ). eqb i DATA || (eqb i RQST || (eqb i REPL || eqb i XPRS))) (eqb-true m.kind RQST k)
  about Repl k = ap (λ (i : ℕ). eqb i DATA || (eqb i RQST || (eqb i REPL || eqb i XPRS))) (eqb-true m.kind REPL k)
  about Xprs k = ap (λ (i : ℕ). eqb i DATA || (eqb i RQST || (eqb i REPL || eqb i XPRS))) (eqb-true m.kind XPRS k)

  another : (says : Says) → eqb m.kind (kind_of says) ≡ true → says ≡ Data → same_host (message_name m).source e.host ≡ false
  another Data k q = sym (ap (λ (i : ℕ). eqb i e.host.0) (original-source x m p k)) ∙ other
  another Rqst k q = clash' (ap is_data q)
  another Repl k q = clash' (ap is_data q)
  another Xprs k q = clash' (ap is_data q)

  no_session : (kind : ℕ) → eqb m.kind kind ≡ true → eqb kind SESS ≡ false → eqb m.kind SESS ≡ false
  no_session kind k n = ap (λ (i : ℕ). eqb i SESS) (eqb-true m.kind kind k) ∙ n

  heard-hears : Hears e.host.0 e m (message_step us m e)
  unfolding message_step heeds
  heard-hears =
      let r = in_range_lem x m p in
      let h = e.host.0 in
      let word : (says : Says) → eqb m.kind (kind_of says) ≡ true → Hears h e m (word_step us says m e) =
      λ says k. word_hears says m (about says k) (data_says says k) (repair-says says k) e f us member other r.source (another says k) in
      by_cond (Hears h e m) (eqb m.kind DATA) (word Data)
      (λ a. by_cond (Hears h e m) (eqb m.kind RQST) (word Rqst)
      (λ c. by_cond (Hears h e m) (eqb m.kind REPL) (word Repl)
      (λ b. by_cond (Hears h e m) (eqb m.kind XPRS) (word Xprs)
      (λ d.
      let brought : (r : Step) → QuietBy (Rose (brought_to m) e) e r → Hears h e m r = λ r v. hears_rose (not_carried m h e a b) (rw (member, other)) v in
      by_cond (Hears h e m) (eqb m.kind FTCH)
      (λ k. brought (fetched_of m e) (brings-none m e (fetched_of m e) f (rw (a, c, b, d)) (no_session FTCH k refl) (fetched-quiet m e f)))
      (λ g. by_cond (Hears h e m) (eqb m.kind LATE)
      (λ k. brought (late_of m e) (brings-none m e (late_of m e) f (rw (a, c, b, d)) (no_session LATE k refl) (late-quiet m e)))
      (λ l. by_cond (Hears h e m) (eqb m.kind ANNC)
      (λ k. brought (give Done e) (brings-none m e (give Done e) f (rw (a, c, b, d)) (no_session ANNC k refl) (untouched_quiet (Same e) e e Done refl (same_refl e))))
      (λ n. brought _ (session-quiet us m e f (rw (a, c, b, d)) (session-kind x m p a c b d g l n) (reports_in_lem x m p)))))))))

-- a looped message is passed over, and a non-member gets nothing
looped-takes : (m : Meaning) (h : ℕ) (e : End) → eqb m.sender.0 h ≡ true → takes h e m ≡ false
unfolding takes
looped-takes m h e t = rw t (and-false (is_original m || (is_repair m && is_some (first_at e (source m)))))

aside-takes : (m : Meaning) (h : ℕ) (e : End) → is_member e.status ≡ false → takes h e m ≡ false
unfolding takes fresh
aside-takes m h e t = rw (t, and-false (not (eqb m.sender.0 h))) (and-false (is_original m || (is_repair m && is_some (first_at e (source m)))))

looped_heeds : (m : Meaning) (h : ℕ) (e : End) → eqb m.sender.0 h ≡ true → heeds h e m ≡ false
unfolding heeds
looped_heeds m h e t = rw t (and-false (is_member e.status))

aside_heeds : (m : Meaning) (h : ℕ) (e : End) → is_member e.status ≡ false → heeds h e m ≡ false
unfolding heeds
aside_heeds m h e t = rw t

pub arrives : (us : List ℕ) (e : End) → Facts e → (x : List ℕ) (m : Meaning) → read_as x ≡ some m → Hears e.host.0 e m (if_member e (arrival_of us m e))
unfolding arrival_of
arrives us e f x m p =
    let h = e.host.0 in
    by_cond (Hears h e m) (is_member e.status)
    (λ i. by_cond (Hears h e m) (same_host m.sender e.host)
    (λ l. hears-not (looped-takes m h e l) (looped_heeds m h e l) (ignored-quiet e))
    (λ l. heard-hears e f us i x m p l))
    (λ i. hears-not (aside-takes m h e i) (aside_heeds m h e i) (ignored-quiet e))

-- ---- every event

clock-same : (e : End) (t : ℕ) → Same e (with_clock e t)
unfolding first_at last_at holds
clock-same e t = record { host = refl; status = refl; next = refl; firsts = λ s hs. refl; lasts = λ s hs. refl; holding = λ s n hs. refl }

ignored-right : (b : Book) (h : ℕ) (ev : Action) (e : End) → Rel b h e → after b h ev ≡ b → Meets (due b h ev) Ignored → Right b h ev (give Ignored e)
ignored-right b h ev e q k a = calm-right q (same_refl e) k a (λ x p. let z : ◌≡◌ {A = ℕ} 0 1 = cc in absurd (omega arith))

move-event : (b : Book) (h : ℕ) (e : End) (m : Move) → Facts e → Rel b h e → Right b h (Moves m) (move_of m e)
unfolding move_of due after
move-event b h e m f q = by_cond (Right b h (Moves m)) (moves m e.status)
    (λ t. move-right b h m e (give Done (moved_end m e)) q t refl (moved-is m e f t))
    (λ t.
    let bt : moves m (b.status h) ≡ false = ap (moves m) (sym q.status) ∙ t in
    ignored-right b h (Moves m) e q (rw bt) (rw bt))

-- what the questions of Send leave
send-asked : (c : List ℕ) (e : End) → first_no (own_questions (Send c) e) ≡ 0 → (cueFits c ≡ true) × (is_member e.status ≡ true → e.next < 65536)
send-asked c e h =
    let six = all-passed (cueFits c) 6 (ask (not (is_member e.status) || ltb e.next 65536) 7 ∷ []) (omega arith) h in
    let seven = (all-passed (not (is_member e.status) || ltb e.next 65536) 7 [] (omega arith) six.1).0 in
    (six.0, λ m. ltb-true e.next 65536 (sym (ap (λ (t : Bool). not t || ltb e.next 65536) m) ∙ seven))

send-event : (b : Book) (h : ℕ) (us : List ℕ) (e : End) (c : List ℕ) → Facts e → OwnLast e.next (source_at e e.host).span → Rel b h e → length c ≡ 24 → first_no (own_questions (Send c) e) ≡ 0
    → Right b h (Send c) (if_member e (send_of us c e))
unfolding due after
send-event b h us e c f o q long z =
    let passed = send-asked c e z in
    by_cond (Right b h (Send c)) (is_member e.status)
    (λ m. send-right b h c e (send_of us c e) (rw (← q.host) f.host) q m (subst (λ k. Sends k c e (send_of us c e)) q.host (sends us c e f o (passed.1 m) passed.0 long)))
    (λ m.
    let bm : is_member (b.status h) ≡ false = ap is_member (sym q.status) ∙ m in
    ignored-right b h (Send c) e q (rw bm) (rw bm))

message-event : (b : Book) (h : ℕ) (us : List ℕ) (e : End) (x : List ℕ) → Facts e → Rel b h e → Filed b x → first_no (message_questions x) ≡ 0
    → Right b h (Arrival x) (if_member e (arrival_of us (meaning_from x) e))
message-event b h us e x f q filed z =
    let p : read_as x ≡ some (meaning_from x) = reads x z in
    arrival-right b h e x (meaning_from x) (if_member e (arrival_of us (meaning_from x) e)) q filed p
    (subst (λ k. Hears k e (meaning_from x) (if_member e (arrival_of us (meaning_from x) e))) q.host (arrives us e f x (meaning_from x) p))

-- outside membership nothing happens
others-quiet : (us : List ℕ) (o : Other) (e : End) → Facts e → Quiet e (if_member e (other_of us o e))
others-quiet us o e f = by_cond (Quiet e) (is_member e.status) (λ _. others us o e f) (λ _. ignored-quiet e)

-- a probe is a Report, and to the book no message
arrival-event : (b : Book) (h : ℕ) (us : List ℕ) (e : End) (x : List ℕ) → Facts e → Rel b h e → Filed b x → first_no (read_questions x) ≡ 0
    → Right b h (Arrival x) (if_member e (hearing_of us (datagram_from x) e))
unfolding due after due_message after_message read_as read_refusal
arrival-event b h us e [] f q filed z = quiet-right q (others-quiet us Report e f) refl refl
arrival-event b h us e (y ∷ s) f q filed z = message-event b h us e (y ∷ s) f q filed z

other-event : (b : Book) (h : ℕ) (us : List ℕ) (e : End) (o : Other) → Facts e → Rel b h e → Right b h (Else o) (if_member e (other_of us o e))
unfolding due after
other-event b h us e o f q = quiet-right q (others-quiet us o e f) refl refl

-- a crashed end, whose events are all Ignored
crashed-is : (x : Status) → is_crashed x ≡ true → x ≡ Crashed
crashed-is Idle t = clash' t
crashed-is Joining t = clash' t
crashed-is Member t = clash' t
crashed-is Leaving t = clash' t
crashed-is Crashed t = refl

crashed-stays : (m : Move) → moves m Crashed ≡ false
crashed-stays Join = refl
crashed-stays Joined = refl
crashed-stays Leave = refl
crashed-stays Left = refl
crashed-stays Crash = refl

crashed-event : (b : Book) (h : ℕ) (e : End) (ev : Action) → e.status ≡ Crashed → Rel b h e → ((x : List ℕ) → ev ≡ Arrival x → Filed b x) → Right b h ev (give Ignored e)
unfolding due after after_message due_message
crashed-event b h e (Moves m) c q f =
    let bt : moves m (b.status h) ≡ false = ap (moves m) (sym q.status ∙ c) ∙ crashed-stays m in
    ignored-right b h (Moves m) e q (rw bt) (rw bt)
crashed-event b h e (Send cue) c q f =
    let bm : is_member (b.status h) ≡ false = ap is_member (sym q.status ∙ c) in
    ignored-right b h (Send cue) e q (rw bm) (rw bm)
crashed-event b h e (Arrival x) c q f = go (read_as x) refl
  where
    go : (o : Option Meaning) → read_as x ≡ o → Right b h (Arrival x) (give Ignored e)
    go none p = quiet-right q (ignored-quiet e) (ap (after_message b h) p) (ap (due_message b h) p)
    go (some m) p = arrival-right b h e x m (give Ignored e) q (f x refl) p (hears-not (aside-takes m h e (ap is_member c)) (aside_heeds m h e (ap is_member c)) (ignored-quiet e))
crashed-event b h e (Else o) c q f = quiet-right q (ignored-quiet e) refl refl

-- an end that is not
acting : (b : Book) (e : End) (h t : ℕ) (us : List ℕ) (ev : Action) → CueArray ev → Passed e ev t → Rel b h e → ((x : List ℕ) → ev ≡ Arrival x → Filed b x)
    → Right b h ev (act_of us ev (with_clock e t))
unfolding act_of
acting b e h t us (Moves m) array z q f = move-event b h (with_clock e t) m (facts-clock e t z.ticks (facts e z.sound)) (rel_same q (clock-same e t))
acting b e h t us (Send c) array z q f = send-event b h us (with_clock e t) c (facts-clock e t z.ticks (facts e z.sound)) (own-last e z.sound) (rel_same q (clock-same e t)) array z.own
acting b e h t us (Arrival x) array z q f =
    arrival-event b h us (with_clock e t) x (facts-clock e t z.ticks (facts e z.sound)) (rel_same q (clock-same e t)) (f x refl) z.own
acting b e h t us (Else o) array z q f = other-event b h us (with_clock e t) o (facts-clock e t z.ticks (facts e z.sound)) (rel_same q (clock-same e t))

pub events : EventsRight
unfolding step_of
events b e h t us ev hh array z q f = by_cond (Right b h ev) (is_crashed e.status)
    (λ c. crashed-event b h e ev (crashed-is e.status c) q f)
    (λ _. acting b e h t us ev array z q f)

-- Demand 3: every allowed list of calls on freshly opened ends is a run of the service.
pub service : Service
service = service-from events
