-- What the fields' types say of a state and soundness does not: every record's cue has 24 bytes, held or not, and a set of hosts is one of eight.
-- An opening has it and every call keeps it, where a cue that is sent has the 24 bytes of its type.
use mathlib.Core.Path.{◌≡◌, refl, sym, ap, ◌∙◌, subst}
use mathlib.Core.Bool.{true, not, ◌&&◌}
use mathlib.Core.List.{List, [], ◌∷◌}
use Prim.Native.Nat.{ℕ, zero, suc, ◌+◌, ◌<◌}
use native.Mathlib.Omega.{arith}
use lib.ListN.{length, get_or, set, replicate, get_or-replicate}
use lib.Dec.{eqb}
use Rattle.numbers.specs.Bits.{with_bit}
use Rattle.numbers.proofs.BitLaws.{with_below}
use Rattle.message.specs.declared.Host.{Host}
use Rattle.message.specs.declared.Name.{Name}
use Rattle.message.specs.declared.Report.{Report}
use Rattle.message.specs.Section.{all}
use Rattle.message.specs.Message.{DATA, RQST, REPL, XPRS, FTCH, LATE, ANNC, Meaning, meaning_from}
use Rattle.message.specs.Question.{host_in, number_in, report_in, same_host}
use Rattle.message.proofs.QuestionLaws.{and_both}
use borrow.Author.Tests.{ltb-true}
use Rattle.end.specs.declared.Slot.{Slot}
use Rattle.end.specs.declared.Slot.TheVariants.{Empty, Held, Waiting}
use Rattle.end.specs.Parts.{No, Due, Heard, Never, At, Span, Closed, Open, Earliest, NoWait, First, Nearest, Nobody, Found}
use Rattle.end.specs.declared.Record.{Record}
use Rattle.end.specs.declared.Attempt.{Attempt}
use Rattle.end.specs.declared.Source.{Source}
use Rattle.end.specs.declared.End.{End}
use Rattle.end.specs.declared.Moment.{Moment}
use Rattle.end.specs.declared.Move.{Move}
use Rattle.end.specs.declared.Word.{Word}
use Rattle.end.specs.declared.Decision.{Decision}
use Rattle.end.specs.declared.Decision.TheVariants.{Ignores, Opens, Takes, Repairs, Hushes, Replies, Learns, BacksOff, Clashes, Expresses}
use Rattle.end.specs.declared.Says.{Says}
use Rattle.end.specs.declared.Says.TheVariants.{Data, Rqst, Repl, Xprs}
use Rattle.end.specs.State.{no_record, no_source, no_attempt, blank_record, unheard, unheard_sources, source_at, distance_to, is_member, moment_of, with_clock, on_source}
use Rattle.end.specs.Records.{within, place, record_at, is_above, with_record, fetchable, attempt_at, with_attempt}
use Rattle.end.specs.Round.{next_round}
use Rattle.end.specs.Names.{filled, rise_with, asked, asked_by_data, set_round, quiet_reply, drop_express}
use Rattle.end.specs.Decide.{number, opened, risen, risen_by_data, paired, decide, apply, step_at}
use Rattle.end.specs.Session.{reported_source, all_reported, reported_after, heard_from, session_of}
use Rattle.end.specs.Arrival.{message_name, message_cue, word_of, message_step, arrival_of}
use Rattle.end.specs.Fire.{express_rank, earliest, fire_at, fired}
use Rattle.end.specs.Fetch.{tries, hands_late, may_fetch, nearest, try_of, fetch_of, may_answer, fetched_of, may_hand, late_of}
use Rattle.end.specs.Answer.{Step, Result}
use Rattle.end.specs.Event.{Action, Moves, Send, Arrival, Else, Other, Fire, Report as Reporting, Announce, Fetch, moves, clears, moved_end, move_of}
use Rattle.end.specs.Event.{extended, sent_source, announced, other_of, act_of, event_of}
use Rattle.end.specs.Run.{CueArray}
use Rattle.end.proofs.Tools.{by_cond, set_elim}
use Rattle.end.proofs.RecordLaws.{place_in}
use Rattle.invariants.proofs.Questions.{Passed}
use Rattle.invariants.proofs.Readings.{message_in_lem}
use Rattle.invariants.proofs.Fetches.{NearestIs, nearest-is}
use Rattle.guarantees.proofs.Calls.{call-cases}
use Rattle.end_reopen.proofs.ReopenLaws.{Blank}

-- the sources that a host reported
abbrev pub reported_of : Heard → ℕ
reported_of Never = 0
reported_of (At stamp when reported) = reported

abbrev Cues : List Record → Type 0
Cues names = (i : ℕ) → i < 64 → length (get_or names i no_record).cue ≡ 24

pub record Typed (s : Source) : Type 0 where
  pub cues : Cues s.names
  pub reported : reported_of s.heard < 256
  pub tried : (i : ℕ) → i < 64 → (get_or s.attempts i no_attempt).tried < 256

abbrev pub TypedEnd : End → Type 0
TypedEnd e = (h : ℕ) → h < 8 → Typed (get_or e.sources h no_source)

-- ---- nothing is kept
unheard_typed : (d : ℕ) → Typed (unheard d)
unheard_typed d = record {
  cues = λ i l. ap (λ (r : Record). length r.cue) (get_or-replicate 64 i blank_record no_record l);
  reported = omega arith;
  tried = λ i l. subst (λ (a : Attempt). a.tried < 256) (sym (get_or-replicate 64 i no_attempt no_attempt l)) (omega arith);
}

unheard-all : (me h : ℕ) → h < 8 → Typed (get_or (unheard_sources me) h no_source)
unheard-all me h hh = set_elim Typed (replicate 8 (unheard 40)) me h (unheard 0) no_source (λ _. unheard_typed 0)
    (subst Typed (sym (get_or-replicate 8 h (unheard 40) no_source hh)) (unheard_typed 40))

pub blank_typed : (e : End) → Blank e → TypedEnd e
blank_typed e b h hh = subst (λ (l : List Source). Typed (get_or l h no_source)) (sym b) (unheard-all e.host.0 h hh)

-- ---- one source
record_cue : (s : Source) → Typed s → (n : ℕ) → length (record_at s n).cue ≡ 24
unfolding record_at
record_cue s t n = by_cond (λ (r : Record). length r.cue ≡ 24) (within s.span n) (λ _. t.cues (place n) (place_in n)) (λ _. refl)

-- a record that is stored, with a cue of its own or with that of the number's record
stored_cues : (names : List Record) → Cues names → (n : ℕ) (r : Record) → length r.cue ≡ 24 → Cues (set names (place n) r)
stored_cues names c n r h i l = set_elim (λ (y : Record). length y.cue ≡ 24) names (place n) i r no_record (λ _. h) (c i l)

stored : (s : Source) → Typed s → (n : ℕ) (r : Record) → length r.cue ≡ 24 → Typed (with_record s n r)
stored s t n r h = record { cues = stored_cues s.names t.cues n r h; reported = t.reported; tried = t.tried }

changed : (s : Source) → Typed s → (n : ℕ) (r : Record) → r.cue ≡ (record_at s n).cue → Typed (with_record s n r)
changed s t n r same = stored s t n r (ap length same ∙ record_cue s t n)

-- last rises: a new number has a blank cue
filled-cues : (new : ℕ → Record) → ((n : ℕ) → length (new n).cue ≡ 24) → (k n : ℕ) (names : List Record) → Cues names → Cues (filled new k n names)
unfolding filled
filled-cues new h zero n names c = c
filled-cues new h (suc k) n names c = filled-cues new h k (n + 1) (set names (place n) (new n)) (stored_cues names c n (new n) (h n))

rise_typed : (new : ℕ → Record) → ((n : ℕ) → length (new n).cue ≡ 24) → (n : ℕ) (s : Source) (x : Span) → Typed s → Typed (rise_with new n s x)
unfolding rise_with
rise_typed new h n s Closed t = t
rise_typed new h n s (Open first last) t = record { cues = filled-cues new h _ _ s.names t.cues; reported = t.reported; tried = t.tried }

-- what is decided on a message about a name
module _ (t : Moment) (us : List ℕ) (w : Word) (long : length w.cue ≡ 24) (s : Source) (q : Typed s) where
  up : Typed (risen t us w s)
  up = rise_typed (asked t us s.distance) (λ n. refl) (number w) s s.span q

  hushed : (x : Source) → Typed x → Typed (quiet_reply t (number w) w.distance x)
  hushed x p = changed x p (number w) _ refl

  pairs : (x : Source) → Typed x → Typed (paired w x)
  pairs x p = record { cues = p.cues; reported = p.reported; tried = p.tried }

  applied : (d : Decision) → Typed (apply t us w d s)
  unfolding apply
  applied (Ignores why) = q
  applied Opens = stored (opened w s) (record { cues = q.cues; reported = q.reported; tried = q.tried }) (number w) _ long
  applied Takes = stored (risen_by_data t us w s) (rise_typed (asked_by_data t us s) (λ n. refl) (number w) s s.span q) (number w) _ long
  applied Repairs = pairs _ (hushed _ (stored (risen t us w s) up (number w) _ long))
  applied Hushes = pairs _ (hushed s q)
  applied Replies = changed s q (number w) _ refl
  applied Learns = changed (risen t us w s) up (number w) _ refl
  applied (BacksOff k) = changed s q (number w) _ refl
  applied Clashes = q
  applied Expresses = hushed s q

-- ---- the end, of which one source is changed
on_typed : (e : End) (h : Host) (f : Source → Source) → ((s : Source) → Typed s → Typed (f s)) → TypedEnd e → TypedEnd (on_source e h f)
on_typed e h f g t k hk = set_elim Typed e.sources h.0 k (f (source_at e h)) no_source (λ same. g (source_at e h) (t h.0 (omega arith))) (t k hk)

abbrev Leaves : Step → Type 0
Leaves r = TypedEnd r.left

-- a SESS: the sources that it reports are of eight
reported-below : (rs : List Report) (set : ℕ) → set < 256 → all (report_in 65535) rs ≡ true → reported_after set rs < 256
unfolding reported_after all
reported-below [] set l h = l
reported-below (r ∷ rs) set l h =
    let both = and_both (report_in 65535 r) (all (report_in 65535) rs) h in
    let host = ltb-true r.source.0 8 (and_both (host_in r.source) (number_in 65535 r.last) both.0).0 in
    reported-below rs (with_bit set r.source.0) (with_below set r.source.0 8 l host) both.1

module _ (us : List ℕ) where
  reported_typed : (t : Moment) (r : Report) (s : Source) → Typed s → Typed (reported_source t us r s)
  reported_typed t r s q = by_cond Typed (not (same_host r.source t.me) && is_above s.span r.last.0)
      (λ _. rise_typed (asked t us s.distance) (λ n. refl) r.last.0 s s.span q) (λ _. q)

  all_typed : (t : Moment) (rs : List Report) (e : End) → TypedEnd e → TypedEnd (all_reported t us rs e)
  unfolding all_reported
  all_typed t [] e q = q
  all_typed t (r ∷ rs) e q = all_typed t rs (on_source e r.source (reported_source t us r)) (on_typed e r.source _ (reported_typed t r) q)

  session_typed : (t : Moment) (m : Meaning) (e : End) → all (report_in 65535) m.reports ≡ true → TypedEnd e → Leaves (session_of t us m e)
  unfolding session_of
  session_typed t m e h q =
      let reported = reported-below m.reports 0 (omega arith) h in
      on_typed (all_reported t us m.reports e) m.sender (heard_from t m)
      (λ s p. record { cues = p.cues; reported = reported; tried = p.tried }) (all_typed t m.reports e q)

  -- Fire
  fire_typed : (e : End) → TypedEnd e → (rank : ℕ) (name : Name) (x : Slot) → Leaves (fire_at us rank name e x)
  unfolding fire_at
  fire_typed e q rank name Empty = q
  fire_typed e q rank name (Waiting r x) = by_cond Leaves (eqb rank express_rank)
      (λ _. on_typed e name.source (drop_express name.number.0) (λ s p. changed s p name.number.0 _ refl) q)
      (λ _. on_typed e name.source (set_round (moment_of e) us name.number.0 (next_round r.round)) (λ s p. changed s p name.number.0 _ refl) q)
  fire_typed e q rank name (Held No) = q
  fire_typed e q rank name (Held (Due due k)) =
      on_typed e name.source (quiet_reply (moment_of e) name.number.0 (distance_to e k)) (λ s p. changed s p name.number.0 _ refl) q

  fired_typed : (e : End) → TypedEnd e → (x : Earliest) → Leaves (fired us e x)
  unfolding fired
  fired_typed e q NoWait = q
  fired_typed e q (First w) = fire_typed e q w.rank w.name (record_at (source_at e w.name.source) w.name.number.0).slot

-- Fetch and the kinds 22 and 23: a host that is tried is one of eight
attempt_below : (s : Source) → Typed s → (n : ℕ) → (attempt_at s n).tried < 256
unfolding attempt_at
attempt_below s q n = by_cond (λ (a : Attempt). a.tried < 256) (fetchable s.origin n) (λ _. q.tried (place n) (place_in n)) (λ _. omega arith)

marked : (s : Source) → Typed s → (n : ℕ) (a : Attempt) → a.tried < 256 → Typed (with_attempt s n a)
marked s q n a l = record {
  cues = q.cues;
  reported = q.reported;
  tried = λ i k. set_elim (λ (y : Attempt). y.tried < 256) s.attempts (place n) i a no_attempt (λ _. l) (q.tried i k);
}

tried_typed : (e : End) → TypedEnd e → (name : Name) (x : Nearest) → NearestIs e name 8 x → Leaves (try_of name e x)
unfolding try_of
tried_typed e q name Nobody is = q
tried_typed e q name (Found h d) is = on_typed e name.source (tries name.number.0 h)
    (λ s p. marked s p name.number.0 _ (with_below (attempt_at s name.number.0).tried h.0 8 (attempt_below s p name.number.0) is.host)) q

fetch_typed : (e : End) → TypedEnd e → (name : Name) → Leaves (fetch_of name e)
unfolding fetch_of
fetch_typed e q name = by_cond Leaves (may_fetch e name) (λ _. tried_typed e q name (nearest e name 8) (nearest-is e name 8)) (λ _. q)

-- ---- what a member does
module _ (e : End) (q : TypedEnd e) (us : List ℕ) where
  word_typed : (says : Says) (m : Meaning) → length (message_cue m) ≡ 24 → Leaves (step_at (moment_of e) us (word_of says m e) e)
  unfolding step_at
  word_typed says m long =
      let w = word_of says m e in
      on_typed e (message_name m).source (apply (moment_of e) us w (decide (moment_of e) w (source_at e (message_name m).source)))
      (λ s p. applied (moment_of e) us w long s p _) q

  message_typed : (m : Meaning) → length (message_cue m) ≡ 24 → all (report_in 65535) m.reports ≡ true → Leaves (message_step us m e)
  unfolding message_step fetched_of late_of
  message_typed m long reports =
      by_cond Leaves (eqb m.kind DATA) (λ _. word_typed Data m long)
      (λ _. by_cond Leaves (eqb m.kind RQST) (λ _. word_typed Rqst m long)
      (λ _. by_cond Leaves (eqb m.kind REPL) (λ _. word_typed Repl m long)
      (λ _. by_cond Leaves (eqb m.kind XPRS) (λ _. word_typed Xprs m long)
      (λ _. by_cond Leaves (eqb m.kind FTCH) (λ _. by_cond Leaves (may_answer e m) (λ _. q) (λ _. q))
      (λ _. by_cond Leaves (eqb m.kind LATE)
      (λ _. by_cond Leaves (may_hand e m)
      (λ _. on_typed e (message_name m).source (hands_late (message_name m).number.0)
      (λ s p. marked s p (message_name m).number.0 _ (attempt_below s p (message_name m).number.0)) q)
      (λ _. q))
      (λ _. by_cond Leaves (eqb m.kind ANNC) (λ _. q)
      (λ _. session_typed us (moment_of e) m e reports q)))))))

  announced_typed : (x : Span) → Leaves (announced (moment_of e) x e)
  announced_typed Closed = q
  announced_typed (Open first last) = q

  other_typed : (o : Other) → Leaves (other_of us o e)
  other_typed Fire = fired_typed us e q (earliest e 8)
  other_typed Reporting = q
  other_typed Announce = announced_typed (source_at e e.host).span
  other_typed (Fetch name) = fetch_typed e q name

  extended_typed : (t : Moment) (n : ℕ) (s : Source) (x : Span) → Typed s → Typed (extended t us n s x)
  extended_typed t n s Closed p = record { cues = p.cues; reported = p.reported; tried = p.tried }
  extended_typed t n s (Open first last) p = rise_typed (asked t us s.distance) (λ k. refl) n s (Open first last) p

  sent_typed : (cue : List ℕ) → length cue ≡ 24 → TypedEnd (on_source e e.host (sent_source (moment_of e) us e.next cue))
  sent_typed cue long = on_typed e e.host (sent_source (moment_of e) us e.next cue)
      (λ s p. stored (extended (moment_of e) us e.next s s.span) (extended_typed (moment_of e) e.next s s.span p) e.next _ long) q

move_typed : (m : Move) (e : End) → TypedEnd e → Leaves (move_of m e)
unfolding move_of moved_end
move_typed m e q = by_cond Leaves (moves m e.status) (λ _. by_cond TypedEnd (clears m) (λ _. unheard-all e.host.0) (λ _. q)) (λ _. q)

-- ---- every call
act_typed : (us : List ℕ) (a : Action) (e : End) (t : ℕ) → CueArray a → Passed e a t → TypedEnd e → Leaves (act_of us a (with_clock e t))
unfolding act_of arrival_of
act_typed us (Moves m) e t array z q = move_typed m (with_clock e t) q
act_typed us (Send cue) e t array z q = by_cond Leaves (is_member e.status) (λ _. sent_typed (with_clock e t) q us cue array) (λ _. q)
act_typed us (Arrival []) e t array z q = by_cond Leaves (is_member e.status) (λ _. q) (λ _. q)
act_typed us (Arrival (b ∷ s)) e t array z q =
    let m = meaning_from (b ∷ s) in
    let v = message_in_lem (b ∷ s) z.own in
    by_cond Leaves (is_member e.status)
    (λ _. by_cond Leaves (same_host m.sender e.host) (λ _. q) (λ _. message_typed (with_clock e t) q us m v.long v.reports))
    (λ _. q)
act_typed us (Else o) e t array z q = by_cond Leaves (is_member e.status) (λ _. other_typed (with_clock e t) q us o) (λ _. q)

pub call_typed : (e : End) (a : Action) (clock room : ℕ) (draws : List ℕ) → CueArray a → TypedEnd e → TypedEnd (event_of e a clock room draws).left
call_typed e a clock room draws array q = call-cases (λ (r : Result). TypedEnd r.left) e a clock room draws (λ k. q) (λ z c. q)
    (λ z c. act_typed draws a e clock array z q)
