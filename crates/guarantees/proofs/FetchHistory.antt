-- What was tried and handed out as Late is what the history says: each event by what it does to the marks of a name, then a call, then a list of
-- calls. From it: Late at most once, each host at most once, and nothing both Late and Got.
use mathlib.Core.Path.{◌≡◌, refl, sym, ap, ◌∙◌, subst}
use mathlib.Core.Bool.{Bool, true, false, cond, not, ◌&&◌, ◌||◌}
use mathlib.Core.List.{List, [], ◌∷◌, ◌++◌}
use Prim.Native.Nat.{ℕ, suc, ◌<◌}
use native.Mathlib.Omega.{arith}
use lib.ListN.{length, get_or}
use lib.Dec.{eqb}
use borrow.Author.Tests.{eqb-true, eqb-false, eq-eqb, not-true}
use Rattle.numbers.specs.Bits.{bit, with_bit, members}
use Rattle.numbers.proofs.BitLaws.{bit-none, bit_with, bit-other, members_with, members_less}
use Rattle.message.specs.declared.Host.{Host}
use Rattle.message.specs.declared.Name.{Name}
use Rattle.message.specs.Message.{DATA, RQST, REPL, XPRS, FTCH, LATE, ANNC, Meaning, meaning_from, bytes_of}
use Rattle.message.specs.Question.{same_host}
use Rattle.message.proofs.QuestionLaws.{and_both}
use Rattle.end.specs.declared.Params.{Params}
use Rattle.end.specs.declared.Move.{Move}
use Rattle.end.specs.Parts.{Origin, Nearest, Nobody, Found}
use Rattle.end.specs.declared.Attempt.{Attempt}
use Rattle.end.specs.declared.Says.TheVariants.{Data, Rqst, Repl, Xprs}
use Rattle.end.specs.declared.Source.{Source}
use Rattle.end.specs.declared.End.{End}
use Rattle.end.specs.State.{no_source, no_attempt, unheard_sources, source_at, is_member, moment_of, with_clock, on_source}
use Rattle.end.specs.Records.{fetchable, attempt_at, with_attempt}
use Rattle.end.specs.Messages.{message_name, message_host, fetch_message}
use Rattle.end.specs.Fetch.{attempt_on, may_fetch, nearest, try_of, fetch_of, may_hand, late_of}
use Rattle.end.specs.Answer.{Ignored, Class, PutsOut, HandsOut, HandsLate, Untouched, class_of, Step, give, Did, Result}
use Rattle.end.specs.Arrival.{message_step, arrival_of}
use Rattle.end.specs.Fire.{earliest}
use Rattle.end.specs.Event.{Action, Moves, Send, Arrival, Else, Other, Fire, Report, Announce, Fetch, moves, clears, moved_end, move_of, other_of, act_of, event_of}
use Rattle.end.specs.Opening.{opening_of}
use Rattle.end.specs.Book.{source, among}
use Rattle.end.proofs.AttemptLaws.{below, attempt_outside, attempt_same, tried-fetchable, late-fetchable}
use Rattle.end.proofs.Readings.{reads, in_range_lem}
use Rattle.end.proofs.Tools.{by_cond, by_test, clash, clash', and_left, and_right, eqb_flip}
use Rattle.invariants.proofs.Facts.{SoundState, facts}
use Rattle.invariants.proofs.Ends.{clock-kept}
use Rattle.invariants.proofs.Questions.{Passed}
use Rattle.invariants.proofs.Stays.{opens-sound}
use Rattle.invariants.proofs.Fetches.{Fetchable, fetchable_in, may_try, handed_in_lem, NearestIs, nearest-is}
use Rattle.invariants.proofs.Outputs.{fetch-written}
use Rattle.guarantees.specs.Calls.{OneCall, after, after_all}
use Rattle.guarantees.specs.History.{told, origin_over}
use Rattle.guarantees.specs.Fetch.{is_name, Fetched, unfetched, after_late, fetched_other, fetched_action, fetched_call, fetched_from, fetched_since, different}
use Rattle.guarantees.specs.Fetch.{AttemptsOverHistory, LateAtMostOnce, TriedOnce, BelowFirstGot, FetchableNeverGot, LateNeverGot}
use Rattle.guarantees.proofs.Calls.{call-cases, changed-at}
use Rattle.guarantees.proofs.Names.{source_of}
use Rattle.guarantees.proofs.Fetches.{announce-cases, fetched-cases}
use Rattle.guarantees.proofs.Slots.{host_and_params_stay}
use Rattle.guarantees.proofs.History.{kept_from, unheard_bare, aside_bare, opened_bare, count_over_history, handed-least}
use Rattle.guarantees.proofs.HistoryKept.{among_it, among-other}
use Rattle.guarantees.proofs.FetchAnswers.{marks_unmoved}
use Rattle.guarantees.proofs.FetchMarks.{closed_marks, is_late, Unmarked, session_marks, fire_marks, send_marks, word_marks}

-- ---- a list with one number more
length_more : (l : List ℕ) (h : ℕ) → length (l ++ (h ∷ [])) ≡ suc (length l)
length_more [] h = refl
length_more (x ∷ l) h = ap suc (length_more l h)

different-more : (l : List ℕ) (h : ℕ) → different l ≡ true → among h l ≡ false → different (l ++ (h ∷ [])) ≡ true
unfolding different among
different-more [] h d new = refl
different-more (x ∷ l) h d new =
    let apart : eqb x h ≡ false = eqb_flip h x (or_none (eqb h x) _ new).0 in
    let first : among x (l ++ (h ∷ [])) ≡ false = among-other x h l apart ∙ not-true (among x l) (and_left (not (among x l)) _ d) in
    let rest = different-more l h (and_right (not (among x l)) _ d) (or_none (eqb h x) _ new).1 in
    λ i. not (first i) && rest i
  where
    or_none : (a b : Bool) → a || b ≡ false → (a ≡ false) × (b ≡ false)
    or_none true b q = clash q
    or_none false b q = (refl, q)

-- ---- the marks of a name, and what the history says of it
record Marks (me : ℕ) (x : Fetched) (a : Attempt) : Type 0 where
  tried : (h : ℕ) → bit a.tried h ≡ among h x.tried
  late : x.late ≡ cond a.late 1 0
  once : different x.tried ≡ true
  others : (h : ℕ) → among h x.tried ≡ true → (h < 8) × (eqb h me ≡ false)
  count : length x.tried ≡ members a.tried 8

none_marked : (me : ℕ) → Marks me unfetched no_attempt
unfolding among different members
none_marked me = record {
  tried = bit-none;
  late = refl;
  once = refl;
  others = λ h q. clash' q;
  count = rw (bit-none 0, bit-none 1, bit-none 2, bit-none 3, bit-none 4, bit-none 5, bit-none 6, bit-none 7);
}

-- one more host is tried
tried-more : (me : ℕ) (x : Fetched) (a : Attempt) (h : ℕ) → h < 8 → eqb h me ≡ false → bit a.tried h ≡ false → Marks me x a
    → Marks me (record { tried = x.tried ++ (h ∷ []); late = x.late }) (record { tried = with_bit a.tried h; late = a.late })
tried-more me x a h hh other new q = record {
  tried = λ k. by_test (eqb k h)
      (λ e. let same : k ≡ h = eqb-true k h e in
      subst (λ (j : ℕ). bit (with_bit a.tried h) j ≡ among j (x.tried ++ (h ∷ []))) (sym same)
      (bit_with a.tried h ∙ sym (among_it h h x.tried (eq-eqb h h refl))))
      (λ e. bit-other a.tried h k e ∙ q.tried k ∙ sym (among-other k h x.tried e));
  late = q.late;
  once = different-more x.tried h q.once (sym (q.tried h) ∙ new);
  others = λ k t. by_test (eqb k h)
      (λ e. let same : k ≡ h = eqb-true k h e in subst (λ (j : ℕ). (j < 8) × (eqb j me ≡ false)) (sym same) (hh, other))
      (λ e. q.others k (sym (among-other k h x.tried e) ∙ t));
  count = length_more x.tried h ∙ ap suc q.count ∙ sym (members_with a.tried h 8 new hh);
}

-- Late is answered for the first time
late-once : (me : ℕ) (x : Fetched) (a : Attempt) → a.late ≡ false → Marks me x a
    → Marks me (record { tried = x.tried; late = suc x.late }) (record { tried = a.tried; late = true })
late-once me x a not_yet q =
    record { tried = q.tried; late = ap suc (q.late ∙ ap (λ (b : Bool). cond b 1 0) not_yet); once = q.once; others = q.others; count = q.count }

-- ---- one event on a sound end, and one name
module _ (us : List ℕ) (e : End) (f : SoundState e) (x : Fetched) (s n : ℕ) (hs : s < 8) (q : Marks e.host.0 x (attempt_at (source_of e s) n)) where
  abbrev Goes : Action → Step → Type 0
  Goes a r = Marks e.host.0 (fetched_action s n (after_late s n x (class_of r.effect)) a r.effect) (attempt_at (source_of r.left s) n)

  -- what the marks are is the same as before, and nothing is handed out as Late
  abbrev Heard : Step → Type 0
  Heard r = Marks e.host.0 (after_late s n x (class_of r.effect)) (attempt_at (source_of r.left s) n)

  unlate : (c : Class) → is_late c ≡ false → after_late s n x c ≡ x
  unlate (PutsOut bytes) h = refl
  unlate (HandsOut name cue) h = refl
  unlate (HandsLate name cue) h = clash h
  unlate Untouched h = refl

  unmarked : (r : Step) → Unmarked e r → Heard r
  unmarked r u = rw (unlate (class_of r.effect) u.answer, u.marks s n hs) q

  -- the marks of a name are stored: of this one, and of another
  abbrev storing : Name → Attempt → Attempt
  storing name a = attempt_at (source_of (on_source e name.source (λ y. with_attempt y name.number.0 a)) s) n

  stored_here : (y : Fetched) (name : Name) (a : Attempt) → is_name s n name ≡ true
      → fetchable (source_at e name.source).origin name.number.0 ≡ true → Marks e.host.0 y a → Marks e.host.0 y (storing name a)
  stored_here y name a is may p =
      let both = and_both (eqb name.source.0 s) (eqb name.number.0 n) is in
      let at : name.source.0 ≡ s = eqb-true name.source.0 s both.0 in
      let number : name.number.0 ≡ n = eqb-true name.number.0 n both.1 in
      changed-at (λ (p : Source). Marks e.host.0 y (attempt_at p n)) e.sources name.source.0 _ s (omega (arith, f.sources))
      (λ _. subst (λ (j : ℕ). Marks e.host.0 y (attempt_at (with_attempt (source_at e name.source) name.number.0 a) j)) number
      (rw (attempt_same (source_at e name.source) name.number.0 a may (f.each name.source.0 (omega arith)).attempts) p))
      (λ off. absurd (eqb-false s name.source.0 off (sym at)))

  stored_there : (name : Name) (a : Attempt) → is_name s n name ≡ false → fetchable (source_at e name.source).origin name.number.0 ≡ true
      → Marks e.host.0 x (storing name a)
  stored_there name a off may = rw ((marks_unmoved e name a (Did Ignored) may refl).attempts s n hs off) q

  -- the marks of the name, where it is this one
  was_here : (name : Name) → is_name s n name ≡ true → Marks e.host.0 x (attempt_on e name)
  was_here name is =
      let both = and_both (eqb name.source.0 s) (eqb name.number.0 n) is in
      let at : s ≡ name.source.0 = sym (eqb-true name.source.0 s both.0) in
      let number : n ≡ name.number.0 = sym (eqb-true name.number.0 n both.1) in
      subst (λ (j : ℕ). Marks e.host.0 x (attempt_at (source_at e name.source) j)) number
      (subst (λ (k : ℕ). Marks e.host.0 x (attempt_at (source_of e k) n)) at q)

  -- ---- kind 23
  late-goes : (m : Meaning) → Heard (late_of m e)
  unfolding late_of
  late-goes m =
      let name = message_name m in
      let a = attempt_on e name in
      by_cond Heard (may_hand e m)
      (λ t.
      let v = handed_in_lem e f m t in
      let may = tried-fetchable (source_at e name.source) name.number.0 m.sender.0 v.1 in
      by_test (is_name s n name)
      (λ is. rw is (stored_here _ name (record { tried = a.tried; late = true }) is may (late-once e.host.0 x a v.2 (was_here name is))))
      (λ off. rw off (stored_there name (record { tried = a.tried; late = true }) off may)))
      (λ _. q)

  message-goes : (m : Meaning) → source m < 8 → Heard (message_step us m e)
  unfolding message_step
  message-goes m hm =
      by_cond Heard (eqb m.kind DATA) (λ _. unmarked _ (word_marks us m e f Data hm))
      (λ _. by_cond Heard (eqb m.kind RQST) (λ _. unmarked _ (word_marks us m e f Rqst hm))
      (λ _. by_cond Heard (eqb m.kind REPL) (λ _. unmarked _ (word_marks us m e f Repl hm))
      (λ _. by_cond Heard (eqb m.kind XPRS) (λ _. unmarked _ (word_marks us m e f Xprs hm))
      (λ _. by_cond Heard (eqb m.kind FTCH) (λ _. fetched-cases Heard m e q (λ bytes. q))
      (λ _. by_cond Heard (eqb m.kind LATE) (λ _. late-goes m)
      (λ _. by_cond Heard (eqb m.kind ANNC) (λ _. q)
      (λ _. unmarked _ (session_marks (moment_of e) us m e))))))))

  arrival-goes : (m : Meaning) → source m < 8 → Heard (arrival_of us m e)
  unfolding arrival_of
  arrival-goes m hm = by_cond Heard (same_host m.sender e.host) (λ _. q) (λ _. message-goes m hm)

  -- ---- Fetch
  either_way : (b : Bool) → cond b x x ≡ x
  either_way true = refl
  either_way false = refl

  try_goes : (name : Name) → Fetchable e name → (y : Nearest) → NearestIs e name 8 y → Goes (Else (Fetch name)) (try_of name e y)
  unfolding try_of fetched_action fetched_other
  try_goes name v Nobody near = rw (either_way (is_name s n name)) q
  try_goes name v (Found h d) near =
      let a = attempt_on e name in
      let now : Attempt = record { tried = with_bit a.tried h.0; late = a.late } in
      let may = may_try e name h near.may in
      let host : (message_host (meaning_from (bytes_of (fetch_message (moment_of e) name h)))).0 ≡ h.0 =
      ap (λ (m : Meaning). (message_host m).0) (fetch-written e f name h v near.host near.may).back in
      by_test (is_name s n name)
      (λ is. rw (is, host) (stored_here _ name now is v.below
      (tried-more e.host.0 x a h.0 near.host may.other may.untried (was_here name is))))
      (λ off. rw off (stored_there name now off v.below))

  fetch_goes : (name : Name) → Goes (Else (Fetch name)) (fetch_of name e)
  unfolding fetch_of fetched_action fetched_other
  fetch_goes name = by_cond (Goes (Else (Fetch name))) (may_fetch e name)
      (λ t. try_goes name (fetchable_in e f name t) (nearest e name 8) (nearest-is e name 8)) (λ _. rw (either_way (is_name s n name)) q)

  other_goes : (o : Other) → Goes (Else o) (other_of us o e)
  unfolding fetched_action fetched_other
  other_goes Fire = unmarked _ (fire_marks us e (earliest e 8))
  other_goes Report = q
  other_goes Announce = announce-cases (Goes (Else Announce)) e q (λ bytes. q)
  other_goes (Fetch name) = fetch_goes name

  -- ---- the moves
  move-goes : (m : Move) → Goes (Moves m) (move_of m e)
  unfolding move_of moved_end fetched_action
  move-goes m = by_cond (Goes (Moves m)) (moves m e.status)
      (λ t. by_cond (λ (p : End). Marks e.host.0 unfetched (attempt_at (source_of p s) n)) (clears m)
      (λ _. rw (attempt_outside (get_or (unheard_sources e.host.0) s no_source) n (ap (λ (o : Origin). fetchable o n) (unheard_bare e.host.0 s hs).2))
      (none_marked e.host.0))
      (λ c. rw (closed_marks (source_of e s) (f.each s hs) (aside_bare e f (kept_from m e.status c t) s hs).0 n) (none_marked e.host.0)))
      (λ _. q)

  ignored-goes : (a : Action) → Goes a (give Ignored e)
  unfolding fetched_action fetched_other
  ignored-goes (Moves m) = q
  ignored-goes (Send cue) = q
  ignored-goes (Arrival bytes) = q
  ignored-goes (Else Fire) = q
  ignored-goes (Else Report) = q
  ignored-goes (Else Announce) = q
  ignored-goes (Else (Fetch name)) = rw (either_way (is_name s n name)) q

  act_goes : (a : Action) → ((b : ℕ) (l : List ℕ) → a ≡ Arrival (b ∷ l) → source (meaning_from (b ∷ l)) < 8) → Goes a (act_of us a e)
  unfolding act_of fetched_action
  act_goes (Moves m) read = move-goes m
  act_goes (Send cue) read = by_cond (Goes (Send cue)) (is_member e.status) (λ _. unmarked _ (send_marks us cue e)) (λ _. q)
  act_goes (Arrival []) read = by_cond (Goes (Arrival [])) (is_member e.status) (λ _. q) (λ _. q)
  act_goes (Arrival (b ∷ l)) read =
      by_cond (Goes (Arrival (b ∷ l))) (is_member e.status) (λ _. arrival-goes (meaning_from (b ∷ l)) (read b l refl)) (λ _. q)
  act_goes (Else o) read = by_cond (Goes (Else o)) (is_member e.status) (λ _. other_goes o) (λ _. ignored-goes (Else o))

-- ---- a call
call-goes : (e : End) (a : Action) (clock room : ℕ) (us : List ℕ) (x : Fetched) (s n : ℕ) → s < 8 → Marks e.host.0 x (attempt_at (source_of e s) n)
    → let r = event_of e a clock room us in Marks e.host.0 (fetched_call s n x a r.outcome) (attempt_at (source_of r.left s) n)
unfolding fetched_call
call-goes e a clock room us x s n hs q =
    call-cases (λ (r : Result). Marks e.host.0 (fetched_call s n x a r.outcome) (attempt_at (source_of r.left s) n)) e a clock room us
    (λ k. q)
    (λ z c. ignored-goes us e (facts e z.sound) x s n hs q a)
    (λ z c. act_goes us (with_clock e clock) (clock-kept e clock (facts e z.sound) z.later z.ticks) x s n hs q a (λ b l i. named z b l i))
  where
    named : Passed e a clock → (b : ℕ) (l : List ℕ) → a ≡ Arrival (b ∷ l) → source (meaning_from (b ∷ l)) < 8
    named z b l i =
        let own = (subst (λ (y : Action). Passed e y clock) i z).own in
        (in_range_lem (b ∷ l) (meaning_from (b ∷ l)) (reads (b ∷ l) own)).source

-- ---- a list of calls
through : (cs : List OneCall) (e : End) (x : Fetched) (s n : ℕ) → s < 8 → Marks e.host.0 x (attempt_at (source_of e s) n)
    → Marks e.host.0 (fetched_from s n x (told e cs)) (attempt_at (source_of (after_all e cs) s) n)
unfolding told fetched_from
through [] e x s n hs q = q
through (c ∷ cs) e x s n hs q =
    let one = call-goes e c.action c.clock c.room c.draws x s n hs q in
    let host : (after e c).host.0 ≡ e.host.0 = ap (λ (h : Host). h.0) (host_and_params_stay e c.action c.clock c.room c.draws).0 in
    let now = fetched_call s n x c.action (event_of e c.action c.clock c.room c.draws).outcome in
    subst (λ (me : ℕ). Marks me (fetched_from s n now (told (after e c) cs)) (attempt_at (source_of (after_all (after e c) cs) s) n)) host
    (through cs (after e c) now s n hs (subst (λ (me : ℕ). Marks me now (attempt_at (source_of (after e c) s) n)) (sym host) one))

from_opening : (h : Host) (p : Params) (cs : List OneCall) (s n : ℕ) → s < 8 → let e = (opening_of h p).end in
    Marks e.host.0 (fetched_since s n (told e cs)) (attempt_at (source_of (after_all e cs) s) n)
from_opening h p cs s n hs =
    let e = (opening_of h p).end in
    let none = attempt_outside (source_of e s) n (ap (λ (o : Origin). fetchable o n) (opened_bare h p s hs).2) in
    through cs e unfetched s n hs (rw none (none_marked e.host.0))

pub attempts_over_history : AttemptsOverHistory
attempts_over_history h p cs s n hs = let q = from_opening h p cs s n hs in record { tried = q.tried; late = q.late }

pub late_at_most_once : LateAtMostOnce
late_at_most_once h p cs s n hs =
    let q = from_opening h p cs s n hs in
    let a = attempt_at (source_of (after_all (opening_of h p).end cs) s) n in
    by_test a.late (λ t. omega (arith, q.late ∙ ap (λ (b : Bool). cond b 1 0) t)) (λ t. omega (arith, q.late ∙ ap (λ (b : Bool). cond b 1 0) t))

pub tried-once : TriedOnce
tried-once h p cs s n hs =
    let e = (opening_of h p).end in
    let me = e.host.0 in
    let q = from_opening h p cs s n hs in
    let a = attempt_at (source_of (after_all e cs) s) n in
    let never : bit a.tried me ≡ false =
    by_test (bit a.tried me) (λ t. clash (sym (eq-eqb me me refl) ∙ (q.others me (sym (q.tried me) ∙ t)).1)) (λ t. t) in
    record { once = q.once; others = q.others; most = omega (arith, q.count, members_less a.tried me 8 (facts e (opens-sound h p)).host never) }

-- the first original is the first one handed out
below-first : (n : ℕ) (handed : List ℕ) (o : Origin) → o ≡ origin_over handed → fetchable o n ≡ true
    → ((first : ℕ) (more : List ℕ) → handed ≡ first ∷ more → n < first → among n handed ≡ false) → BelowFirstGot n handed
unfolding origin_over
below-first n [] o is may least = clash' (sym (ap (λ (y : Origin). fetchable y n) is) ∙ may)
below-first n (first ∷ more) o is may least =
    let b = below first n (sym (ap (λ (y : Origin). fetchable y n) is) ∙ may) in
    record { first = first; more = more; is = refl; below = b.under; near = b.near; never-got = least first more refl b.under }

pub fetchable_never_got : FetchableNeverGot
fetchable_never_got h p cs s n hs may =
    let e = (opening_of h p).end in
    let left = source_of (after_all e cs) s in
    let told_so = count_over_history h p cs s hs in
    by_test (eqb s e.host.0)
    (λ own. clash' (sym (ap (λ (o : Origin). fetchable o n) (told_so.own_origin own)) ∙ may))
    (λ other. below-first n _ left.origin (told_so.origin other) may (λ first more is l. handed-least h p cs s hs other first more is n l))

pub late_never_got : LateNeverGot
late_never_got h p cs s n hs some =
    let left = source_of (after_all (opening_of h p).end cs) s in
    let q = from_opening h p cs s n hs in
    let late : (attempt_at left n).late ≡ true =
    by_test (attempt_at left n).late (λ t. t) (λ t. absurd (omega (arith, q.late ∙ ap (λ (b : Bool). cond b 1 0) t))) in
    fetchable_never_got h p cs s n hs (late-fetchable left n late)
