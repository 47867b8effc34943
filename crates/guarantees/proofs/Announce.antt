-- What an Announce answers and puts out, and kind 24 at an end; and over a sender's calls neither trail nor lead falls: the statements of
-- specs/Announce.antt but those on the book. The argument: the next own number only grows, and own first and last are opened at it, by a Send
-- alone, and then never fall.
use mathlib.Core.Path.{◌≡◌, refl, sym, ap, ◌∙◌, subst}
use mathlib.Core.Bool.{Bool, true, false, cond}
use mathlib.Core.List.{List, [], ◌∷◌}
use mathlib.Core.Option.{some}
use Prim.Native.Nat.{ℕ, ◌+◌, ◌≤◌, ◌<◌}
use native.Mathlib.Omega.{arith}
use lib.ListN.{length, get_or}
use lib.Dec.{eqb}
use borrow.Author.Tests.{eq-eqb}
use Rattle.message.specs.declared.Host.{Host}
use Rattle.message.specs.declared.NameEntry.{NameEntry}
use Rattle.message.specs.Entry.{blank_name}
use Rattle.message.specs.Message.{DATA, meaning_from}
use Rattle.message.specs.Question.{same_host}
use Rattle.end.specs.declared.Slot.{Slot}
use Rattle.end.specs.declared.Slot.TheVariants.{Empty, Held, Waiting}
use Rattle.end.specs.Parts.{No, Due, Span, Closed, Open, Earliest, NoWait, First}
use Rattle.end.specs.declared.Source.{Source}
use Rattle.end.specs.declared.Move.{Move}
use Rattle.end.specs.declared.End.{End}
use Rattle.end.specs.State.{no_source, source_at, is_member, is_crashed, moment_of, with_clock, with_source}
use Rattle.end.specs.Records.{record_at}
use Rattle.end.specs.Answer.{Out, Ignored, Step, Did, Result, done}
use Rattle.end.specs.Arrival.{message_step, arrival_of}
use Rattle.end.specs.Fire.{express_rank, earliest, fire_at, fired}
use Rattle.end.specs.Event.{Action, Moves, Send, Arrival, Else, Other, Fire, Report, Announce, Fetch, moves, clears, moved_end, move_of, extended, sent_source, send_of, announced, other_of, act_of, step_of}
use Rattle.end.specs.Event.{question_of, event_of}
use Rattle.end.specs.Opening.{opening_of}
use Rattle.end.specs.Sound.{sound_of}
use Rattle.end.specs.Book.{read_as}
use Rattle.end.proofs.Tools.{by_cond, by_test, clash, set_elim}
use Rattle.end.proofs.Readings.{reads, original-source}
use Rattle.invariants.specs.Outputs.{Announces}
use Rattle.invariants.proofs.Outputs.{goes_out_right}
use Rattle.invariants.proofs.Questions.{Passed}
use Rattle.invariants.proofs.Facts.{facts}
use Rattle.guarantees.specs.Calls.{OneCall, after, after_all}
use Rattle.guarantees.specs.Records.{SpanMayBecome, clearing}
use Rattle.guarantees.specs.Arrivals.{SpanAs, is_data_of}
use Rattle.guarantees.specs.Announce.{announce, own_span, AnnouncesOwn, trail_in, lead_in, OutIsAnnouncement, OnlyAnnounceAnnounces, NeitherFalls, AnnouncedIsDone}
use Rattle.guarantees.proofs.Calls.{call-cases, member_not_crashed}
use Rattle.guarantees.proofs.Names.{source_of, Ends, own-ends}
use Rattle.guarantees.proofs.Fetches.{announce-cases, fetch-cases}
use Rattle.guarantees.proofs.Retired.{first-rises, last-rises}
use Rattle.guarantees.proofs.Arrivals.{passed-heard}
use Rattle.guarantees.proofs.Slots.{host_and_params_stay, spans_may_become}
use Rattle.guarantees.proofs.History.{unheard_bare}

-- ---- what it answers
module _ (e : End) (clock room : ℕ) (draws : List ℕ) (asked : question_of e (Else Announce) clock room (length draws) ≡ 0) where
  own_out : is_member e.status ≡ true → (x : Span) → own_span e ≡ x
      → announce e clock room draws ≡ done (announced (moment_of (with_clock e clock)) x (with_clock e clock))
  unfolding event_of step_of act_of
  own_out member x p =
      let none = eq-eqb (question_of e (Else Announce) clock room (length draws)) 0 asked in
      rw (none, member_not_crashed e.status member, member, p)

  aside-out : is_member e.status ≡ false
      → announce e clock room draws ≡ record { outcome = Did Ignored; left = cond (is_crashed e.status) e (with_clock e clock) }
  unfolding event_of step_of act_of
  aside-out aside =
      let none = eq-eqb (question_of e (Else Announce) clock room (length draws)) 0 asked in
      by_test (is_crashed e.status) (λ c. rw (none, c)) (λ c. rw (none, c, aside))

pub announces-own : AnnouncesOwn
announces-own e clock room draws asked = record {
  puts-out = λ member first last p. own_out e clock room draws asked member (Open first last) p;
  without_first_lem = λ member p. own_out e clock room draws asked member Closed p;
  no_member = aside-out e clock room draws asked;
}

-- ---- what it puts out
abbrev number_at : List NameEntry → ℕ → ℕ
number_at names i = (get_or names i blank_name).name.number.0

pub out_is_announcement : OutIsAnnouncement
out_is_announcement e clock room draws bytes out =
    let right = goes_out_right e (Else Announce) clock room draws bytes tt out in
    let a = right.message.announces refl in
    let low : trail_in bytes ≡ a.first.0 = ap (λ (l : List NameEntry). number_at l 0) a.names in
    let high : lead_in bytes ≡ a.last.0 = ap (λ (l : List NameEntry). number_at l 1) a.names in
    record {
      accepted = right.accepted;
      kind = a.kind;
      two = ap length a.names;
      sender = right.message.sender;
      stamp = right.message.stamp;
      rising = omega (arith, low, high, a.rising);
      window = omega (arith, low, high, a.window);
    }

pub only_announce_announces : OnlyAnnounceAnnounces
only_announce_announces e a clock room draws bytes array out kind = (goes_out_right e a clock room draws bytes array out).message.announced kind

-- ---- kind 24
pub announced_is_done : AnnouncedIsDone
unfolding event_of step_of act_of arrival_of message_step
announced_is_done e b s clock room draws asked c =
    let none = eq-eqb (question_of e (Arrival (b ∷ s)) clock room (length draws)) 0 asked in
    rw (none, member_not_crashed e.status c.member, c.member, c.another, c.said)

-- ---- the own source over one call

-- from own first and last before to those after, `next` being the next own number before: what is opened is opened at it or above, and what is
-- open does not fall
abbrev OwnMay : ℕ → Span → Span → Type 0
OwnMay next Closed Closed = Unit {0}
OwnMay next Closed (Open first last) = (next ≤ first.0) × (next ≤ last.0)
OwnMay next (Open first last) Closed = Unit {0}
OwnMay next (Open first last) (Open first' last') = (first.0 ≤ first'.0) × (last.0 ≤ last'.0)

own-stays : (next : ℕ) (x : Span) → OwnMay next x x
own-stays next Closed = tt
own-stays next (Open first last) = (omega arith, omega arith)

own-closes : (next : ℕ) (x : Span) → OwnMay next x Closed
own-closes next Closed = tt
own-closes next (Open first last) = tt

-- an open one rises by every call; so there is only to say at which number one is opened
own-rises : (emptied : Bool) (next : ℕ) (x y : Span) → SpanMayBecome emptied x y → (x ≡ Closed → OwnMay next x y) → OwnMay next x y
own-rises emptied next Closed y h opens = opens refl
own-rises emptied next (Open first last) Closed h opens = tt
own-rises emptied next (Open first last) (Open first' last') h opens =
    (first-rises first last first' last' h, last-rises first last first' last' h)

record Grown (e left : End) : Type 0 where
  next : e.next ≤ left.next
  span : own_span e ≡ Closed → OwnMay e.next (own_span e) (source_of left e.host.0).span

grown_same : (e left : End) → left.next ≡ e.next → (source_of left e.host.0).span ≡ own_span e → Grown e left
grown_same e left n s =
    record { next = omega (arith, n); span = λ _. subst (OwnMay e.next (own_span e)) (sym s) (own-stays e.next (own_span e)) }

-- ---- the events that leave next number, first and last
abbrev Same : End → Step → Type 0
Same e r = (r.left.next ≡ e.next) × ((source_of r.left e.host.0).span ≡ own_span e)

-- one source is another with the same first and last
stored_span : (e : End) (k : Host) (x : Source) → x.span ≡ (source_at e k).span → (s : ℕ) → (source_of (with_source e k x) s).span ≡ (source_of e s).span
stored_span e k x same s = set_elim (λ (y : Source). y.span ≡ (source_of e s).span) e.sources k.0 s x no_source
    (λ i. same ∙ ap (λ (j : ℕ). (source_of e j).span) (sym i)) refl

fire-same : (us : List ℕ) (e : End) (x : Earliest) → Same e (fired us e x)
unfolding fired fire_at
fire-same us e NoWait = (refl, refl)
fire-same us e (First w) = go (record_at (source_at e w.name.source) w.name.number.0).slot
  where
    go : (x : Slot) → Same e (fire_at us w.rank w.name e x)
    go Empty = (refl, refl)
    go (Waiting q x) = by_cond (Same e) (eqb w.rank express_rank)
        (λ _. (refl, stored_span e w.name.source _ refl e.host.0)) (λ _. (refl, stored_span e w.name.source _ refl e.host.0))
    go (Held No) = (refl, refl)
    go (Held (Due due k)) = (refl, stored_span e w.name.source _ refl e.host.0)

other-same : (us : List ℕ) (o : Other) (e : End) → Same e (other_of us o e)
other-same us Fire e = fire-same us e (earliest e 8)
other-same us Report e = (refl, refl)
other-same us Announce e = announce-cases (Same e) e (refl, refl) (λ bytes. (refl, refl))
other-same us (Fetch name) e =
    fetch-cases (Same e) name e (refl, refl) (refl, refl) (λ bytes l. (refl, stored_span e name.source _ refl e.host.0))

-- ---- the moves and Send
move_grown : (m : Move) (e : End) → e.host.0 < 8 → Grown e (move_of m e).left
unfolding move_of moved_end
move_grown m e hh = by_cond (λ (r : Step). Grown e r.left) (moves m e.status)
    (λ _. by_cond (Grown e) (clears m)
    (λ _. record {
      next = omega arith;
      span = λ _. subst (OwnMay e.next (own_span e)) (sym (unheard_bare e.host.0 e.host.0 hh).0) (own-closes e.next (own_span e));
    })
    (λ _. grown_same e _ refl refl))
    (λ _. grown_same e _ refl refl)

send_grown : (us cue : List ℕ) (e : End) → Grown e (send_of us cue e).left
send_grown us cue e =
    let n = e.next in
    let s = source_at e e.host in
    let t = moment_of e in
    record {
      next = omega arith;
      span = λ closed. set_elim (λ (y : Source). OwnMay n s.span y.span) e.sources e.host.0 e.host.0 (sent_source t us n cue s) no_source
          (λ _. subst (λ (x : Span). OwnMay n x (extended t us n s x).span) (sym closed) (omega arith, omega arith))
          (own-stays n s.span);
    }

-- ---- what arrives: a DATA of the own source is the end's own message come back
own_undata : (b : ℕ) (s : List ℕ) (h : ℕ) → let m = meaning_from (b ∷ s) in read_as (b ∷ s) ≡ some m → eqb m.sender.0 h ≡ false → is_data_of m h ≡ false
unfolding is_data_of
own_undata b s h read other =
    let m = meaning_from (b ∷ s) in
    by_test (eqb m.kind DATA)
    (λ k. let away = ap (λ (i : ℕ). eqb i h) (sym (original-source (b ∷ s) m read k)) ∙ other in rw (k, away))
    (λ k. rw k)

looped-stays : (us : List ℕ) (b : ℕ) (s : List ℕ) (e : End) → same_host (meaning_from (b ∷ s)).sender e.host ≡ true → (act_of us (Arrival (b ∷ s)) e).left ≡ e
unfolding act_of arrival_of
looped-stays us b s e looped = by_cond (λ (r : Step). r.left ≡ e) (is_member e.status) (λ _. rw looped) (λ _. refl)

unopened : (next : ℕ) (opens : Bool) (x y : Span) → opens ≡ false → SpanAs opens x y → x ≡ Closed → OwnMay next x y
unopened next opens Closed Closed shut h p = tt
unopened next opens Closed (Open first last) shut h p = clash (sym h ∙ shut)
unopened next opens (Open first last) y shut h p = let z : ◌≡◌ {A = ℕ} 0 1 = cc in absurd (omega arith)

arrival_grown : (e : End) (bytes : List ℕ) (clock : ℕ) (us : List ℕ) → e.host.0 < 8 → Passed e (Arrival bytes) clock
    → Grown e (act_of us (Arrival bytes) (with_clock e clock)).left
unfolding act_of
arrival_grown e [] clock us hh z =
    by_cond (λ (r : Step). Grown e r.left) (is_member e.status) (λ _. grown_same e _ refl refl) (λ _. grown_same e _ refl refl)
arrival_grown e (b ∷ s) clock us hh z =
    let m = meaning_from (b ∷ s) in
    let me = e.host.0 in
    let left = (act_of us (Arrival (b ∷ s)) (with_clock e clock)).left in
    let heard = passed-heard e (b ∷ s) clock us z in
    by_test (same_host m.sender e.host)
    (λ looped.
    let same = looped-stays us b s (with_clock e clock) looped in
    grown_same e left (ap (λ (x : End). x.next) same) (ap (λ (x : End). (source_of x me).span) same))
    (λ other. record {
      next = omega (arith, heard.same.next);
      span = unopened e.next (is_data_of m me) (own_span e) (source_of left me).span (own_undata b s me (reads (b ∷ s) z.own) other)
          (heard.sources me hh).rest.0;
    })

-- ---- a call
act_grown : (e : End) (a : Action) (clock : ℕ) (us : List ℕ) → Passed e a clock → Grown e (act_of us a (with_clock e clock)).left
unfolding act_of
act_grown e a clock us z = go a z
  where
    hh : e.host.0 < 8
    hh = (facts e z.sound).host

    go : (a : Action) → Passed e a clock → Grown e (act_of us a (with_clock e clock)).left
    go (Moves m) y = let g = move_grown m (with_clock e clock) hh in record { next = g.next; span = g.span }
    go (Send cue) y = by_cond (λ (r : Step). Grown e r.left) (is_member e.status)
        (λ _. let g = send_grown us cue (with_clock e clock) in record { next = g.next; span = g.span }) (λ _. grown_same e _ refl refl)
    go (Arrival bytes) y = arrival_grown e bytes clock us hh y
    go (Else o) y = by_cond (λ (r : Step). Grown e r.left) (is_member e.status)
        (λ _. let q = other-same us o (with_clock e clock) in grown_same e _ q.0 q.1) (λ _. grown_same e _ refl refl)

-- trail and lead of an earlier Announce: the next number is above lead, and first and last, where there are any, are not below them
abbrev Above : ℕ → ℕ → Span → Type 0
Above f l Closed = Unit {0}
Above f l (Open first last) = (f ≤ first.0) × (l ≤ last.0)

record Floor (f l : ℕ) (e : End) : Type 0 where
  order : f ≤ l
  next : l < e.next
  host : e.host.0 < 8
  span : Above f l (own_span e)

above_on : (f l next : ℕ) (x y : Span) → f ≤ l → l < next → Above f l x → OwnMay next x y → Above f l y
above_on f l next Closed Closed o n a h = tt
above_on f l next Closed (Open first last) o n a h = (omega (arith, h.0), omega (arith, h.1))
above_on f l next (Open first last) Closed o n a h = tt
above_on f l next (Open first last) (Open first' last') o n a h = (omega (arith, a.0, h.0), omega (arith, a.1, h.1))

floor_call : (f l : ℕ) (e : End) (a : Action) (clock room : ℕ) (us : List ℕ) → Floor f l e → Floor f l (event_of e a clock room us).left
floor_call f l e a clock room us q =
    let me = e.host.0 in
    let left = (event_of e a clock room us).left in
    let stays = (host_and_params_stay e a clock room us).0 in
    let g : Grown e left = call-cases (λ (r : Result). Grown e r.left) e a clock room us
    (λ k. grown_same e e refl refl) (λ z c. grown_same e e refl refl) (λ z c. act_grown e a clock us z) in
    let may = own-rises (clearing a) e.next (own_span e) (source_of left me).span (spans_may_become e a clock room us me q.host) g.span in
    record {
      order = q.order;
      next = omega (arith, q.next, g.next);
      host = subst (λ (h : Host). h.0 < 8) (sym stays) q.host;
      span = subst (λ (h : Host). Above f l (source_at left h).span) (sym stays)
          (above_on f l e.next (own_span e) (source_of left me).span q.order q.next q.span may);
    }

floor_calls : (f l : ℕ) (cs : List OneCall) (e : End) → Floor f l e → Floor f l (after_all e cs)
floor_calls f l [] e q = q
floor_calls f l (c ∷ cs) e q = floor_calls f l cs (after e c) (floor_call f l e c.action c.clock c.room c.draws q)

-- ---- two Announces
module _ (e : End) (clock room : ℕ) (draws bytes : List ℕ) (out : (announce e clock room draws).outcome ≡ Did (Out bytes)) where
  abbrev says : Announces e (meaning_from bytes)
  says = (goes_out_right e (Else Announce) clock room draws bytes tt out).message.announces refl

  low : trail_in bytes ≡ says.first.0
  low = ap (λ (l : List NameEntry). number_at l 0) says.names

  high : lead_in bytes ≡ says.last.0
  high = ap (λ (l : List NameEntry). number_at l 1) says.names

  -- one that puts something out was not refused, so the state was sound
  was_sound : sound_of e ≡ true
  was_sound = call-cases (λ (r : Result). r.outcome ≡ Did (Out bytes) → sound_of e ≡ true) e (Else Announce) clock room draws
      (λ k p. let z : ◌≡◌ {A = ℕ} 0 1 = cc in absurd (omega arith)) (λ z c p. z.sound) (λ z c p. z.sound) out

  floor_here : Floor (trail_in bytes) (lead_in bytes) e
  floor_here =
      let ends : says.last.0 + 1 ≡ e.next = subst (Ends e.next) says.own (own-ends e was_sound).0 in
      record {
        order = omega (arith, low, high, says.rising);
        next = omega (arith, high, ends);
        host = (facts e was_sound).host;
        span = subst (Above (trail_in bytes) (lead_in bytes)) (sym says.own) (omega (arith, low), omega (arith, high));
      }

  -- what it puts out is not below a floor of its state
  above_floor : (f l : ℕ) → Floor f l e → (f ≤ trail_in bytes) × (l ≤ lead_in bytes)
  above_floor f l q =
      let a = subst (Above f l) says.own q.span in
      (omega (arith, low, a.0), omega (arith, high, a.1))

pub neither_falls : NeitherFalls
neither_falls h p before between clock room clock' room' draws draws' x y =
    let e = after_all (opening_of h p).end before in
    let left = (announce e clock room draws).left in
    λ first second.
    let here = floor_here e clock room draws x first in
    let then = floor_call (trail_in x) (lead_in x) e (Else Announce) clock room draws here in
    above_floor (after_all left between) clock' room' draws' y second (trail_in x) (lead_in x) (floor_calls (trail_in x) (lead_in x) between left then)
