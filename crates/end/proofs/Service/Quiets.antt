-- The events that hand nothing out as Got: Fire, Report, SESS, Announce, Fetch and the kinds 22 to 24.
use mathlib.Core.Path.{◌≡◌, refl, sym, ap, ◌∙◌, subst}
use mathlib.Core.Bool.{Bool, true, false, not, ◌&&◌, ◌||◌}
use mathlib.Core.List.{List, [], ◌∷◌}
use mathlib.Core.Option.{Option, none, some}
use Prim.Native.Nat.{ℕ, ◌<◌}
use native.Mathlib.Omega.{arith}
use lib.ListN.{length, get_or, length-set, get_or-eq_default}
use lib.Dec.{eqb}
use borrow.Author.Tests.{ltb-true}
use Rattle.numbers.proofs.Cases.{by_order}
use Rattle.message.specs.declared.Host.{Host}
use Rattle.message.specs.declared.Name.{Name}
use Rattle.message.specs.declared.Report.{Report as ReportEntry}
use Rattle.message.specs.Kind.{is_old}
use Rattle.message.specs.Message.{DATA, REPL, SESS, LATE, number_width, Meaning, bytes_of}
use Rattle.message.specs.Section.{all}
use Rattle.message.specs.Question.{host_in, number_in, report_in, same_host}
use Rattle.message.proofs.QuestionLaws.{and_both}
use Rattle.message.proofs.SectionLaws.{none, some}
use Rattle.roundtrip.proofs.ThereAndBack.{Fits}
use Rattle.end.specs.Parts.{Unset, No, Due, Span, Closed, Open, Nearest, Nobody, Found, Earliest, NoWait, First}
use Rattle.end.specs.declared.Slot.{Slot}
use Rattle.end.specs.declared.Slot.TheVariants.{Empty, Held, Waiting}
use Rattle.end.specs.declared.Record.{Record}
use Rattle.end.specs.declared.Source.{Source}
use Rattle.end.specs.declared.Moment.{Moment}
use Rattle.end.specs.declared.Attempt.{Attempt}
use Rattle.end.specs.declared.End.{End}
use Rattle.end.specs.State.{no_source, source_at, with_source, moment_of, distance_to, on_source}
use Rattle.end.specs.Records.{within, is_above, record_at, with_record, is_held, with_attempt}
use Rattle.end.specs.Round.{request_at, next_round, quiet_after_reply}
use Rattle.end.specs.Names.{asking, expressed, quieted, set_round, quiet_reply, drop_express, asked}
use Rattle.end.specs.Answer.{Out, Done, Ignored, Nothing, Exhausted, PutsOut, Step, give}
use Rattle.end.specs.Messages.{about_name, request_message, repair_message, express_message, announce_message, session_message, fetch_message, fetched_message}
use Rattle.end.specs.Session.{reported_source, all_reported, heard_from, session_of}
use Rattle.end.specs.Fetch.{may_fetch, nearest, try_of, fetch_of, may_answer, fetched_of, may_hand, late_of}
use Rattle.end.specs.Arrival.{message_name, message_host, message_cue}
use Rattle.end.specs.Fire.{express_rank, kept_sender, fire_at, fired, earliest}
use Rattle.end.specs.Event.{Other, Fire, Report, Announce, Fetch, announced, other_of}
use Rattle.end.specs.Book.{read_as, source, number, is_about_name, reported_to, brought_to, not_below, is_got}
use Rattle.end.proofs.Tools.{by_cond, by_test, clash, clash', and_right, set_elim}
use Rattle.end.proofs.RecordLaws.{Narrow, at-inside, at_outside}
use Rattle.end.proofs.RiseLaws.{rise-length, rise_narrow}
use Rattle.end.proofs.SoundLaws.{held-cue}
use Rattle.end.proofs.Facts.{Facts, narrow, within-small}
use Rattle.end.proofs.Readings.{written-kind, written_back}
use Rattle.end.proofs.Service.View.{held_in_lem, windowed, held_at, RoseSource, holds, first_at, last_at, Same, Rose, carries}
use Rattle.end.proofs.Service.Booked.{QuietBy, Quiet, untouched_quiet, Grown, window-twice, reported_grows}
use Rattle.end.proofs.Service.Sources.{held-is, any_reply, any_express, still_window, same_record, same_rose, same_refl_source, rose}
use Rattle.end.proofs.Service.Steps.{Narrows, same_refl, same_source, rose_source}

-- ---- what is put out

pub ignored-quiet : (e : End) → Quiet e (give Ignored e)
ignored-quiet e = untouched_quiet (Same e) e e Ignored refl (same_refl e)

nothing-quiet : (e : End) → Quiet e (give Nothing e)
nothing-quiet e = untouched_quiet (Same e) e e Nothing refl (same_refl e)

out-is : (y x : List ℕ) → PutsOut y ≡ PutsOut x → y ≡ x
out-is y x p = cc

-- a message put out that carries no cue
pub bare_quiet : (e e' : End) (y : Meaning) → is_old y.kind ≡ false → carries y ≡ false → Same e e' → Quiet e (give (Out (bytes_of y)) e')
unfolding is_got
bare_quiet e e' y o n v = record {
  same = v;
  not-got = refl;
  out = λ x p m z k.
      let kind : m.kind ≡ y.kind = written-kind y m o (ap read_as (out-is (bytes_of y) x p) ∙ z) in
      clash (sym k ∙ ap (λ (i : ℕ). (eqb i DATA || eqb i REPL) || eqb i LATE) kind ∙ n);
}

-- a message put out that carries a cue which the end holds under its name
pub carrying_quiet : (P : End → Type 0) (e e' : End) (y : Meaning) → is_old y.kind ≡ false → Fits (number_width y.kind) y → holds e (source y) (number y) ≡ some (message_cue y) → P e'
    → QuietBy P e (give (Out (bytes_of y)) e')
unfolding is_got
carrying_quiet P e e' y o f h v = record {
  same = v;
  not-got = refl;
  out = λ x p m z k.
      let same : y ≡ m = written_back y m o f (ap read_as (out-is (bytes_of y) x p) ∙ z) in
      rw same at h;
}

-- ---- Fire

-- a name of which something is kept is one of the eight hosts' numbers in first..last
pub record There (e : End) (name : Name) : Type 0 where
  pub source : name.source.0 < 8
  pub number : name.number.0 < 65536
  pub inside : within (source_at e name.source).span name.number.0 ≡ true

abbrev is_empty : Slot → Bool
is_empty Empty = true
is_empty (Held reply) = false
is_empty (Waiting q x) = false

kept_there : (e : End) → Facts e → (name : Name) → is_empty (record_at (source_at e name.source) name.number.0).slot ≡ false → There e name
kept_there e f name h =
    let s = source_at e name.source in
    let n = name.number.0 in
    by_order name.source.0 8
    (λ hs. by_test (within s.span n)
    (λ i. record { source = hs; number = within-small s.span n (f.spans name.source.0 hs) i; inside = i })
    (λ o. clash (sym (ap (λ (r : Record). is_empty r.slot) (at_outside s n o)) ∙ h)))
    (λ hs.
    let none : s ≡ no_source = get_or-eq_default e.sources no_source (omega (arith, f.sources)) in
    clash (sym (ap (λ (r : Record). is_empty r.slot) (at_outside s n (ap (λ (x : Source). within x.span n) none))) ∙ h))

pub held-there : (e : End) → Facts e → (name : Name) → is_held (record_at (source_at e name.source) name.number.0).slot ≡ true → There e name
held-there e f name h = kept_there e f name (not_empty (record_at (source_at e name.source) name.number.0).slot h)
  where
    not_empty : (x : Slot) → is_held x ≡ true → is_empty x ≡ false
    not_empty Empty p = clash' p
    not_empty (Held reply) p = refl
    not_empty (Waiting q x) p = refl

module _ (us : List ℕ) (e : End) (f : Facts e) (name : Name) where
  abbrev s : Source
  s = source_at e name.source

  abbrev r : Record
  r = record_at (source_at e name.source) name.number.0

  -- what a slot that is seen says of what is held
  slot_held : (x : Slot) → r.slot ≡ x → held_at s name.number.0 ≡ held_in_lem x r.cue
  unfolding held_at
  slot_held x p = ap (λ (y : Slot). held_in_lem y r.cue) p

  module _ (there : There e name) where
    wide : Narrow s.span
    wide = narrow s.span (f.spans name.source.0 there.source)

    stored_same : (x : Record) → held_in_lem x.slot x.cue ≡ held_at s name.number.0 → Same e (with_source e name.source (with_record s name.number.0 x))
    stored_same x h = same_source e name.source _ (same_record s name.number.0 x wide there.inside (f.names name.source.0 there.source) h)

    round_same : (k : ℕ) → held_at s name.number.0 ≡ none → Same e (on_source e name.source (set_round (moment_of e) us name.number.0 k))
    unfolding held_in_lem
    round_same k h = stored_same (asking r (request_at (moment_of e) us s.distance name.number.0 k)) (sym h)

    quiet_same : (d : ℕ) → Same e (on_source e name.source (quiet_reply (moment_of e) name.number.0 d))
    unfolding held_at
    quiet_same d = stored_same (quieted r (quiet_after_reply (moment_of e) d)) (any_reply No r.slot r.cue)

    -- a message with the held cue, of any kind about a name
    pub cue-fits : (kind : ℕ) (k : Host) → is_held r.slot ≡ true → Fits 2 (about_name kind (moment_of e) name k (r.cue ∷ []))
    cue-fits kind k p =
        let raw = at-inside s name.number.0 there.inside in
        let cue = held-cue e.host name.source s.pair s.span name.number.0 r (rw raw (f.records name.source.0 name.number.0 there.source there.inside)) p in
        let small : name.number.0 < 65536 = there.number in
        record { stamp = f.clock; names = some small none; cues = some cue.0 none; reports = none; echoes = none }

    express-same : held_at s name.number.0 ≡ none → Same e (on_source e name.source (drop_express name.number.0))
    unfolding held_at
    express-same h = stored_same (expressed Unset r) (any_express Unset r.slot r.cue)

  fire-quiet : (rank : ℕ) (x : Slot) → r.slot ≡ x → Quiet e (fire_at us rank name e x)
  unfolding fire_at held_in_lem holds
  fire-quiet rank Empty p = nothing-quiet e
  fire-quiet rank (Waiting q x) p =
      let there = kept_there e f name (ap is_empty p) in
      let none-held = slot_held (Waiting q x) p in
      by_cond (Quiet e) (eqb rank express_rank)
      (λ _. bare_quiet e _ (express_message (moment_of e) name (kept_sender s.pair)) refl refl (express-same there none-held))
      (λ _. bare_quiet e _ (request_message (moment_of e) name) refl refl (round_same there (next_round q.round) none-held))
  fire-quiet rank (Held No) p = nothing-quiet e
  fire-quiet rank (Held (Due due k)) p =
      let there = kept_there e f name (ap is_empty p) in
      carrying_quiet (Same e) e _ (repair_message (moment_of e) name k r.cue) refl (cue-fits there REPL k (ap is_held p)) (slot_held (Held (Due due k)) p) (quiet_same there (distance_to e k))

fired-quiet : (us : List ℕ) (e : End) → Facts e → (x : Earliest) → Quiet e (fired us e x)
unfolding fired
fired-quiet us e f NoWait = nothing-quiet e
fired-quiet us e f (First w) = fire-quiet us e f w.name w.rank _ refl

-- ---- Fetch, and the kinds 22 and 23: what was done to fetch a number is none of the service's business

marked_same : (e : End) (h : Host) (n : ℕ) (a : Attempt) → Same e (on_source e h (λ s. with_attempt s n a))
unfolding held_at record_at
marked_same e h n a = same_source e h (with_attempt (source_at e h) n a) (record { first = refl; last = refl; holding = λ n. refl })

try_quiet : (name : Name) (e : End) (x : Nearest) → Quiet e (try_of name e x)
unfolding try_of
try_quiet name e Nobody = untouched_quiet (Same e) e e Exhausted refl (same_refl e)
try_quiet name e (Found h d) = bare_quiet e _ (fetch_message (moment_of e) name h) refl refl (marked_same e name.source name.number.0 _)

fetch-quiet : (name : Name) (e : End) → Quiet e (fetch_of name e)
unfolding fetch_of
fetch-quiet name e = by_cond (Quiet e) (may_fetch e name) (λ _. try_quiet name e (nearest e name 8)) (λ _. ignored-quiet e)

-- kind 22 is answered with the held cue
pub fetched-quiet : (m : Meaning) (e : End) → Facts e → Quiet e (fetched_of m e)
unfolding fetched_of may_answer holds held_at
fetched-quiet m e f = by_cond (Quiet e) (may_answer e m)
    (λ t.
    let name = message_name m in
    let r = record_at (source_at e name.source) name.number.0 in
    let held : is_held r.slot ≡ true = and_right (same_host (message_host m) e.host) _ t in
    carrying_quiet (Same e) e e (fetched_message (moment_of e) name m.sender r.cue) refl
    (cue-fits [] e f name (held-there e f name held) LATE m.sender held) (held-is r.slot r.cue held) (same_refl e))
    (λ _. ignored-quiet e)

-- a cue that is handed out as Late is not Got, and nothing is put out
pub late-quiet : (m : Meaning) (e : End) → Quiet e (late_of m e)
unfolding late_of is_got
late-quiet m e = by_cond (Quiet e) (may_hand e m)
    (λ _. record {
      same = marked_same e (message_name m).source (message_name m).number.0 _;
      not-got = refl;
      out = λ x p. let z : ◌≡◌ {A = ℕ} 0 1 = cc in absurd (omega arith);
    })
    (λ _. ignored-quiet e)

-- Announce: what it puts out carries no cue
announced-quiet : (x : Span) (e : End) → Quiet e (announced (moment_of e) x e)
announced-quiet Closed e = nothing-quiet e
announced-quiet (Open first last) e = bare_quiet e e (announce_message (moment_of e) first last) refl refl (same_refl e)

-- the events that the book says nothing of: one clause each
pub others : (us : List ℕ) (o : Other) (e : End) → Facts e → Quiet e (other_of us o e)
others us Fire e f = fired-quiet us e f (earliest e 8)
others us Report e f = bare_quiet e e (session_message e) refl refl (same_refl e)
others us Announce e f = announced-quiet (source_at e e.host).span e
others us (Fetch name) e f = fetch-quiet name e

-- ---- SESS

-- first..last of every source has at most 64 numbers, and there is a place for each: what a rise needs, and keeps
abbrev Laid : Source → Type 0
Laid s = Narrow s.span × (length s.names ≡ 64)

reported-source : (t : Moment) (us : List ℕ) (r : ReportEntry) (s : Source) → Laid s
    → RoseSource (not (same_host r.source t.me)) s (reported_source t us r s) r.last.0 × Laid (reported_source t us r s)
reported-source t us r s q =
    let another = not (same_host r.source t.me) in
    let new = asked t us s.distance in
    let n = r.last.0 in
    by_cond (λ z. RoseSource another s z n × Laid z) (another && is_above s.span n)
    (λ _. (rose new (λ m. refl) n s q.1 another, (rise_narrow new n s s.span refl q.0, rise-length new n s s.span ∙ q.1)))
    (λ h. (same_rose another s s n q.0 (λ a. sym (ap (λ (x : Bool). x && is_above s.span n) a) ∙ h) (same_refl_source s), q))

-- numbers brought, and then more of them
rose_trans : {a b c : End} {f g : ℕ → Option ℕ → Option ℕ} → ((s : ℕ) (top : Option ℕ) → Grown top (g s top)) → Rose f a b → Rose g b c → Rose (λ s top. g s (f s top)) a c
rose_trans {a} {b} {c} {f} {g} up p q = record {
  host = q.host ∙ p.host;
  status = q.status ∙ p.status;
  next = q.next ∙ p.next;
  firsts = λ s hs d.
      let d' : eqb b.host.0 s ≡ false = ap (λ (h : ℕ). eqb h s) p.host ∙ d in
      q.firsts s hs d' ∙ ap (λ x. windowed x (last_at c s)) (p.firsts s hs d)
      ∙ window-twice (first_at a s) (last_at b s) (last_at c s) (rw (q.lasts s hs d') (up s (last_at b s)));
  lasts = λ s hs d.
      let d' : eqb b.host.0 s ≡ false = ap (λ (h : ℕ). eqb h s) p.host ∙ d in
      q.lasts s hs d' ∙ ap (g s) (p.lasts s hs d);
  up = λ s n hs h. p.up s n hs (q.up s n hs h);
  holding = λ s n hs h. q.holding s n hs h ∙ p.holding s n hs (q.up s n hs h);
}

rose_then : {top : ℕ → Option ℕ → Option ℕ} {a b c : End} → Rose top a b → Same b c → Rose top a c
rose_then {top} {a} {b} {c} p q = record {
  host = q.host ∙ p.host;
  status = q.status ∙ p.status;
  next = q.next ∙ p.next;
  firsts = λ s hs d. q.firsts s hs ∙ p.firsts s hs d ∙ ap (windowed (first_at a s)) (sym (q.lasts s hs));
  lasts = λ s hs d. q.lasts s hs ∙ p.lasts s hs d;
  up = λ s n hs h. p.up s n hs (ap (λ o. not_below o n) (sym (q.firsts s hs)) ∙ h);
  holding = λ s n hs h. q.holding s n hs ∙ p.holding s n hs (ap (λ o. not_below o n) (sym (q.firsts s hs)) ∙ h);
}

-- no number brought
none_rose : (e : End) → Narrows e → Rose (λ s top. top) e e
unfolding first_at last_at
none_rose e o = record {
  host = refl;
  status = refl;
  next = refl;
  firsts = λ s hs d. sym (still_window (get_or e.sources s no_source).span (o s hs));
  lasts = λ s hs d. refl;
  up = λ s n hs h. h;
  holding = λ s n hs h. refl;
}

-- a message of a kind that brings no number
pub brings-none : (m : Meaning) (e : End) (r : Step) → Facts e → is_about_name m ≡ false → eqb m.kind SESS ≡ false → Quiet e r → QuietBy (Rose (brought_to m) e) e r
unfolding brought_to
brings-none m e r f a k v =
    let still = rose_then (none_rose e (λ s hs. narrow (get_or e.sources s no_source).span (f.spans s hs))) v.same in
    record {
      same = record {
        host = still.host;
        status = still.status;
        next = still.next;
        firsts = still.firsts;
        lasts = λ s hs d. rw (a, k) (still.lasts s hs d);
        up = still.up;
        holding = still.holding;
      };
      not-got = v.not-got;
      out = v.out;
    }

-- the reports, one after the other
all_rose : (t : Moment) (us : List ℕ) (rs : List ReportEntry) (e : End) → t.me.0 ≡ e.host.0 → length e.sources ≡ 8 → all (report_in 65535) rs ≡ true
    → ((s : ℕ) → s < 8 → Laid (get_or e.sources s no_source)) → Rose (λ s. reported_to s rs) e (all_reported t us rs e)
unfolding all_reported all reported_to
all_rose t us [] e i l h q = none_rose e (λ s hs. (q s hs).0)
all_rose t us (r ∷ rs) e i l h q =
    let both = and_both (report_in 65535 r) (all (report_in 65535) rs) h in
    let hs : r.source.0 < 8 = ltb-true r.source.0 8 (and_both (host_in r.source) (number_in 65535 r.last) both.0).0 in
    let k = reported-source t us r (source_at e r.source) (q r.source.0 hs) in
    let own : same_host r.source t.me ≡ eqb r.source.0 e.host.0 = ap (eqb r.source.0) i in
    let x : Source = reported_source t us r (source_at e r.source) in
    rose_trans (λ s top. reported_grows s rs top)
    (rose_source e r.source x (omega arith) r.last.0 (λ s hs. (q s hs).0)
    (subst (λ (b : Bool). RoseSource (not b) (source_at e r.source) x r.last.0) own k.0))
    (all_rose t us rs (on_source e r.source (reported_source t us r)) i (length-set e.sources r.source.0 _ ∙ l) both.1
    (λ s hs. set_elim Laid e.sources r.source.0 s (reported_source t us r (source_at e r.source)) no_source (λ _. k.1) (q s hs)))

-- the sender's stamp and distance are none of the service's business
heard-same : (t : Moment) (m : Meaning) (e : End) → Same e (on_source e m.sender (heard_from t m))
unfolding held_at record_at
heard-same t m e = same_source e m.sender (heard_from t m (source_at e m.sender)) (record { first = refl; last = refl; holding = λ n. refl })

pub session-quiet : (us : List ℕ) (m : Meaning) (e : End) → Facts e → is_about_name m ≡ false → eqb m.kind SESS ≡ true → all (report_in 65535) m.reports ≡ true
    → QuietBy (Rose (brought_to m) e) e (session_of (moment_of e) us m e)
unfolding session_of brought_to
session-quiet us m e f a k h =
    let rose-all = rose_then (all_rose (moment_of e) us m.reports e refl f.sources h (λ s hs. (narrow (get_or e.sources s no_source).span (f.spans s hs), f.names s hs)))
    (heard-same (moment_of e) m (all_reported (moment_of e) us m.reports e)) in
    untouched_quiet (Rose (brought_to m) e) e _ Done refl (record {
      host = rose-all.host;
      status = rose-all.status;
      next = rose-all.next;
      firsts = rose-all.firsts;
      lasts = λ s hs d. rw (a, k) (rose-all.lasts s hs d);
      up = rose-all.up;
      holding = rose-all.holding;
    })
