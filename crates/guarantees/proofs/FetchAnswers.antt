-- What a Fetch and the messages of kinds 22 and 23 answer, and what they leave: the statements of specs/Fetch.antt on one call.
use mathlib.Core.Path.{◌≡◌, refl, sym, ap, ◌∙◌, subst}
use mathlib.Core.Bool.{Bool, true, false, cond, not, ◌&&◌}
use mathlib.Core.List.{List, [], ◌∷◌}
use Prim.Native.Nat.{ℕ, ◌+◌, ◌≤◌, ◌<◌}
use native.Mathlib.Omega.{arith}
use lib.ListN.{length}
use lib.Dec.{eqb}
use borrow.Author.Tests.{eqb-true, eq-eqb, lt-ltb, le-leb}
use Rattle.message.specs.declared.CueNumber.{CueNumber}
use Rattle.message.specs.declared.Name.{Name}
use Rattle.message.specs.Message.{FTCH, LATE, Meaning, meaning_with, meaning_from}
use Rattle.message.specs.Question.{same_host}
use Rattle.end.specs.Parts.{Origin, NoOrigin, From, Nearest, Nobody, Found}
use Rattle.end.specs.declared.Attempt.{Attempt}
use Rattle.end.specs.declared.Source.{Source}
use Rattle.end.specs.declared.End.{End}
use Rattle.end.specs.State.{no_source, source_at, is_member, is_crashed, with_clock, on_source}
use Rattle.end.specs.Records.{fetchable, attempt_at, with_attempt}
use Rattle.end.specs.Messages.{message_name}
use Rattle.end.specs.Answer.{Effect, Out, Ignored, Exhausted, Step, give, Outcome, Refused, Did, Result, done, buffer_of}
use Rattle.end.specs.Answer.{Class, PutsOut, HandsOut, HandsLate, Untouched, class_of, class_in, hands_out}
use Rattle.end.specs.Fetch.{may_fetch, untried, nearest, try_of, fetch_of, may_answer, fetched_of, may_hand, late_of}
use Rattle.end.specs.Arrival.{message_step, arrival_of}
use Rattle.end.specs.Event.{Action, Arrival, Else, Fetch, if_member, act_of, step_of, question_of, event_of}
use Rattle.end.proofs.Tools.{by_cond, by_test, clash, clash', or_alone, set_elim, eqb_flip}
use Rattle.end.proofs.AttemptLaws.{below, tried-fetchable, attempt_other}
use Rattle.invariants.proofs.Facts.{SoundState, facts}
use Rattle.invariants.proofs.Ends.{clock-kept}
use Rattle.invariants.proofs.Questions.{Passed, passes}
use Rattle.invariants.proofs.Fetches.{Fetchable, fetchable_in, handed_in_lem, NearestIs, nearest-is}
use Rattle.invariants.proofs.Lates.{exhausted_by_fetch}
use Rattle.guarantees.specs.Arrivals.{is_fetched}
use Rattle.guarantees.specs.Fetch.{fetch, FetchAnswer, ExhaustedExactly, WasExhausted, ExhaustedMeans, IgnoredFetchStays}
use Rattle.guarantees.specs.Fetch.{FetchMayBeMade, FetchOtherwiseIgnored}
use Rattle.guarantees.specs.Fetch.{SameSource, is_name, Unmoved, FetchMovesNothing, FetchedMovesNothing}
use Rattle.guarantees.proofs.Calls.{call-cases, member_not_crashed}
use Rattle.guarantees.proofs.Names.{source_of}
use Rattle.guarantees.proofs.Messages.{same_end}
use Rattle.guarantees.proofs.Fetches.{marked, fetch-cases}

-- ---- a Fetch
-- it puts out a message
abbrev puts_out : Class → Bool
puts_out (PutsOut bytes) = true
puts_out (HandsOut name cue) = false
puts_out (HandsLate name cue) = false
puts_out Untouched = false

abbrev puts_in : Outcome → Bool
puts_in o = puts_out (class_in o)

-- a member's, by its three answers
module _ (e : End) (name : Name) where
  abbrev Answers : Effect → Type 0
  Answers a = FetchAnswer e name (Did a)

  fetch-ignored : may_fetch e name ≡ false → Answers Ignored
  fetch-ignored never = record {
    ignored = λ _. refl;
    ignored-only = λ _. never;
    exhausted = λ may. clash (sym may ∙ never);
    exhausted-only = λ p. let z : ◌≡◌ {A = ℕ} 0 1 = cc in absurd (omega arith);
    tries = λ may. clash (sym may ∙ never);
  }

  fetch-tries : may_fetch e name ≡ true → (x : Nearest) → NearestIs e name 8 x → Answers (try_of name e x).effect
  unfolding try_of
  fetch-tries may Nobody q = record {
    ignored = λ never. clash (sym may ∙ never);
    ignored-only = λ p. let z : ◌≡◌ {A = ℕ} 0 1 = cc in absurd (omega arith);
    exhausted = λ _ _. refl;
    exhausted-only = λ _. (may, λ h l. q h (omega arith));
    tries = λ _ some. absurd (some (λ h l. q h (omega arith)));
  }
  fetch-tries may (Found h d) q = record {
    ignored = λ never. clash (sym may ∙ never);
    ignored-only = λ p. let z : ◌≡◌ {A = ℕ} 0 1 = cc in absurd (omega arith);
    exhausted = λ _ left. clash (sym q.may ∙ left h.0 q.host);
    exhausted-only = λ p. let z : ◌≡◌ {A = ℕ} 0 1 = cc in absurd (omega arith);
    tries = λ _ _. (_, refl);
  }

  fetch-answers : Answers (fetch_of name e).effect
  unfolding fetch_of
  fetch-answers = by_cond (λ (r : Step). Answers r.effect) (may_fetch e name) (λ t. fetch-tries t (nearest e name 8) (nearest-is e name 8)) fetch-ignored

-- the clock is another matter
answer-clock : (e : End) (t : ℕ) (name : Name) (o : Outcome) → FetchAnswer (with_clock e t) name o → FetchAnswer e name o
unfolding may_fetch untried
answer-clock e t name o q = record {
  ignored = q.ignored;
  ignored-only = q.ignored-only;
  exhausted = q.exhausted;
  exhausted-only = q.exhausted-only;
  tries = q.tries;
}

pub exhausted_exactly : ExhaustedExactly
unfolding event_of step_of act_of
exhausted_exactly e name clock room draws asked member =
    rw (eq-eqb (question_of e (Else (Fetch name)) clock room (length draws)) 0 asked, member_not_crashed e.status member, member)
    (answer-clock e clock name _ (fetch-answers (with_clock e clock) name))

-- a Fetch that tries no host changes nothing but the clock, and on a crashed end not even that
fetch-stays : (e : End) (name : Name) (clock room : ℕ) (draws : List ℕ) → (a : Effect) → puts_out (class_of a) ≡ false
    → (fetch e name clock room draws).outcome ≡ Did a → (fetch e name clock room draws).left ≡ cond (is_crashed e.status) e (with_clock e clock)
unfolding act_of
fetch-stays e name clock room draws a silent =
    call-cases (λ (r : Result). r.outcome ≡ Did a → r.left ≡ cond (is_crashed e.status) e (with_clock e clock)) e (Else (Fetch name)) clock room draws
    (λ k o. let z : ◌≡◌ {A = ℕ} 0 1 = cc in absurd (omega arith))
    (λ z c o. rw c)
    (λ z c. rw c (by_cond Stays (is_member e.status) (λ _. fetch-cases Stays name now (λ o. refl) (λ o. refl) out) (λ _ o. refl)))
  where
    now : End
    now = with_clock e clock

    Stays : Step → Type 0
    Stays r = Did r.effect ≡ Did a → r.left ≡ now

    out : (bytes : List ℕ) (l : List Attempt) → Stays (give (Out bytes) (marked now name.source l))
    out bytes l o = clash (ap puts_in o ∙ silent)

pub ignored_fetch_stays : IgnoredFetchStays
ignored_fetch_stays e name clock room draws = fetch-stays e name clock room draws Ignored refl

-- outside membership a Fetch is refused or Ignored
exhausted-member : (e : End) (name : Name) (clock room : ℕ) (draws : List ℕ) → (fetch e name clock room draws).outcome ≡ Did Exhausted
    → (is_member e.status ≡ true) × (question_of e (Else (Fetch name)) clock room (length draws) ≡ 0)
unfolding event_of step_of act_of
exhausted-member e name clock room draws =
    by_cond (λ (r : Result). r.outcome ≡ Did Exhausted → Ready) (eqb (question_of e (Else (Fetch name)) clock room (length draws)) 0)
    (λ t. by_cond Ends (is_crashed e.status) (λ _. never)
    (λ _. by_cond Ends (is_member e.status) (λ member _. (member, eqb-true _ 0 t)) (λ _. never)))
    (λ _ o. let z : ◌≡◌ {A = ℕ} 0 1 = cc in absurd (omega arith))
  where
    Ready : Type 0
    Ready = (is_member e.status ≡ true) × (question_of e (Else (Fetch name)) clock room (length draws) ≡ 0)

    Ends : Step → Type 0
    Ends r = Did r.effect ≡ Did Exhausted → Ready

    never : Did Ignored ≡ Did Exhausted → Ready
    never o = let z : ◌≡◌ {A = ℕ} 0 1 = cc in absurd (omega arith)

exhausted-fetch : (e : End) (name : Name) (clock room : ℕ) (draws : List ℕ) → (fetch e name clock room draws).outcome ≡ Did Exhausted
    → WasExhausted e (Else (Fetch name)) clock (fetch e name clock room draws)
unfolding buffer_of
exhausted-fetch e name clock room draws o =
    let v = exhausted-member e name clock room draws o in
    let is = (exhausted_exactly e name clock room draws v.1 v.0).exhausted-only o in
    record {
      name = name;
      fetched = refl;
      member = v.0;
      may = is.0;
      none_left = is.1;
      left = fetch-stays e name clock room draws Exhausted refl o ∙ rw (member_not_crashed e.status v.0);
      output = λ out. rw o;
    }

pub exhausted-means : ExhaustedMeans
exhausted-means e a clock room draws o =
    let by = exhausted_by_fetch e a clock room draws o in
    subst (λ (x : Action). (event_of e x clock room draws).outcome ≡ Did Exhausted → WasExhausted e x clock (event_of e x clock room draws)) (sym by.1)
    (exhausted-fetch e by.0 clock room draws) o

pub fetch_may_be_made : FetchMayBeMade
unfolding may_fetch
fetch_may_be_made e name first hs is under near not_yet =
    let n = name.number.0 in
    rw is (λ i. lt-ltb name.source.0 8 hs i && ((lt-ltb n first.0 under i && le-leb first.0 (n + 64) near i) && not (not_yet i)))

-- one that a member may not make is Ignored, and so is any outside membership
fetch_else : (e : End) (name : Name) (clock room : ℕ) (draws : List ℕ) → question_of e (Else (Fetch name)) clock room (length draws) ≡ 0
    → (is_member e.status ≡ true → may_fetch e name ≡ false) → (fetch e name clock room draws).outcome ≡ Did Ignored
unfolding event_of step_of act_of fetch_of may_fetch
fetch_else e name clock room draws asked never =
    rw (eq-eqb (question_of e (Else (Fetch name)) clock room (length draws)) 0 asked)
    (by_cond Ends (is_crashed e.status) (λ _. refl) (λ _. by_cond Ends (is_member e.status) (λ member. rw (never member)) (λ _. refl)))
  where
    Ends : Step → Type 0
    Ends r = Did r.effect ≡ Did Ignored

-- of a sound state it is known what may be fetched
module _ (e : End) (f : SoundState e) (name : Name) where
  unless : (Fetchable e name → ⊥) → may_fetch e name ≡ false
  unless never = by_test (may_fetch e name) (λ may. absurd (never (fetchable_in e f name may))) (λ may. may)

  -- the first original, by what a number that may be fetched says of it
  no_original_yet : (source_at e name.source).origin ≡ NoOrigin → Fetchable e name → ⊥
  no_original_yet is v = clash' (sym (ap (λ (x : Origin). fetchable x name.number.0) is) ∙ v.below)

  not-among : (first : CueNumber) → (source_at e name.source).origin ≡ From first → Fetchable e name
      → (name.number.0 < first.0) × (first.0 ≤ name.number.0 + 64)
  not-among first is v =
      let b = below first.0 name.number.0 (sym (ap (λ (x : Origin). fetchable x name.number.0) is) ∙ v.below) in
      (b.under, b.near)

pub fetch_otherwise_ignored : FetchOtherwiseIgnored
fetch_otherwise_ignored e name clock room draws asked =
    let f = facts e (passes e (Else (Fetch name)) clock room (length draws) asked).sound in
    let else = fetch_else e name clock room draws asked in
    let unless-made : (Fetchable e name → ⊥) → (fetch e name clock room draws).outcome ≡ Did Ignored = λ never. else (λ _. unless e f name never) in
    record {
      no_member = λ aside. else (λ member. clash (sym member ∙ aside));
      own-source = λ own. unless-made (λ v. clash (sym own ∙ v.other));
      no_host = λ l. unless-made (λ v. omega (arith, v.source));
      no_original = λ is. unless-made (no_original_yet e f name is);
      not-below = λ first is l. unless-made (λ v. omega (arith, (not-among e f name first is v).0));
      too_far_below = λ first is l. unless-made (λ v. omega (arith, (not-among e f name first is v).1));
      handed_out = λ late. unless-made (λ v. clash (sym late ∙ v.lacking));
    }

-- ---- kinds 22 and 23

fetch-step : (us : List ℕ) (m : Meaning) (e : End) → m.kind ≡ FTCH → message_step us m e ≡ fetched_of m e
unfolding message_step
fetch-step us m e k = rw k

late-step : (us : List ℕ) (m : Meaning) (e : End) → m.kind ≡ LATE → message_step us m e ≡ late_of m e
unfolding message_step
late-step us m e k = rw k

-- a message of no bytes is neither
probe_not_fetched : is_fetched (meaning_from []) ≡ true → ⊥
unfolding meaning_with
probe_not_fetched is = clash (sym is)

-- one that arrives, by its cases: Ignored, or taken by a member from another end as a kind 22 or as a kind 23
heard-cases : (P : Step → Type 0) (us : List ℕ) (m : Meaning) (e : End) → is_fetched m ≡ true → P (give Ignored e)
    → (is_member e.status ≡ true → same_host m.sender e.host ≡ false → m.kind ≡ FTCH → P (fetched_of m e))
    → (is_member e.status ≡ true → same_host m.sender e.host ≡ false → m.kind ≡ LATE → P (late_of m e))
    → P (if_member e (arrival_of us m e))
unfolding arrival_of
heard-cases P us m e is ignored answers hands =
    by_cond P (is_member e.status) (λ member. by_cond P (same_host m.sender e.host) (λ _. ignored) (λ another.
    by_test (eqb m.kind FTCH)
    (λ k. let fetched = eqb-true m.kind FTCH k in subst P (sym (fetch-step us m e fetched)) (answers member another fetched))
    (λ k. let late = eqb-true m.kind LATE (or_alone (eqb m.kind FTCH) (eqb m.kind LATE) is k) in
    subst P (sym (late-step us m e late)) (hands member another late)))) (λ _. ignored)

-- a state that has passed the questions is sound with its clock set
set-clock : (e : End) (a : Action) (clock : ℕ) → Passed e a clock → SoundState (with_clock e clock)
set-clock e a clock z = clock-kept e clock (facts e z.sound) z.later z.ticks

-- ---- what they leave
same_source : (s : Source) → SameSource s s
same_source s = record { span = refl; missed = refl; pair = refl; distance = refl; heard = refl; names = refl; origin = refl }

unmoved : (e : End) (name : Name) (o : Outcome) → hands_out (class_in o) ≡ false → Unmoved e name (record { outcome = o; left = e })
unmoved e name o silent = record { same = same_end e; sources = λ s hs. same_source (source_of e s); attempts = λ s n hs other. refl; never-got = silent }

-- the marks of one number that may be fetched are stored
pub marks_unmoved : (e : End) (name : Name) (a : Attempt) (o : Outcome) → fetchable (source_at e name.source).origin name.number.0 ≡ true
    → hands_out (class_in o) ≡ false
    → Unmoved e name (record { outcome = o; left = on_source e name.source (λ s. with_attempt s name.number.0 a) })
marks_unmoved e name a o may silent = record {
  same = record { host = refl; params = refl; status = refl; next = refl };
  sources = λ s hs. set_elim (SameSource (source_of e s)) e.sources name.source.0 s _ no_source
      (λ i. subst (λ (k : ℕ). SameSource (source_of e k) (with_attempt (source_at e name.source) name.number.0 a)) (sym i)
      (record { span = refl; missed = refl; pair = refl; distance = refl; heard = refl; names = refl; origin = refl }))
      (same_source (source_of e s));
  attempts = λ s n hs other. set_elim (λ (y : Source). attempt_at y n ≡ attempt_at (source_of e s) n) e.sources name.source.0 s _ no_source
      (λ i. subst (λ (k : ℕ). attempt_at (with_attempt (source_at e name.source) name.number.0 a) n ≡ attempt_at (source_of e k) n) (sym i)
      (attempt_other (source_at e name.source) name.number.0 a n may (eqb_flip name.number.0 n (another-number s n i other))))
      refl;
  never-got = silent;
}
  where
    another-number : (s n : ℕ) → s ≡ name.source.0 → is_name s n name ≡ false → eqb name.number.0 n ≡ false
    another-number s n i other = sym (ap (λ (t : Bool). t && eqb name.number.0 n) (eq-eqb name.source.0 s (sym i))) ∙ other

-- the clock is another matter
unmoved_clock : (e : End) (t : ℕ) (name : Name) (r : Result) → Unmoved (with_clock e t) name r → Unmoved e name r
unmoved_clock e t name r q =
    let s = q.same in record {
      same = record { host = s.host; params = s.params; status = s.status; next = s.next };
      sources = q.sources;
      attempts = q.attempts;
      never-got = q.never-got;
    }

fetch_unmoved : (e : End) → SoundState e → (name : Name) → Unmoved e name (done (fetch_of name e))
unfolding fetch_of try_of
fetch_unmoved e f name = by_cond (λ (r : Step). Unmoved e name (done r)) (may_fetch e name)
    (λ may. go (nearest e name 8) (fetchable_in e f name may)) (λ _. unmoved e name (Did Ignored) refl)
  where
    go : (x : Nearest) → Fetchable e name → Unmoved e name (done (try_of name e x))
    go Nobody v = unmoved e name (Did Exhausted) refl
    go (Found h d) v = marks_unmoved e name _ _ v.below refl

pub fetch_moves_nothing : FetchMovesNothing
unfolding act_of
fetch_moves_nothing e name clock room draws = call-cases (Unmoved e name) e (Else (Fetch name)) clock room draws
    (λ k. unmoved e name (Refused k) refl)
    (λ z c. unmoved e name (Did Ignored) refl)
    (λ z c.
    let now = with_clock e clock in
    unmoved_clock e clock name _ (by_cond (λ (r : Step). Unmoved now name (done r)) (is_member e.status)
    (λ _. fetch_unmoved now (set-clock e (Else (Fetch name)) clock z) name) (λ _. unmoved now name (Did Ignored) refl)))

fetched_unmoved : (us : List ℕ) (m : Meaning) (e : End) → SoundState e → is_fetched m ≡ true
    → Unmoved e (message_name m) (done (if_member e (arrival_of us m e)))
unfolding fetched_of late_of
fetched_unmoved us m e f is = heard-cases Leaves us m e is ignored
    (λ _ _ _. by_cond Leaves (may_answer e m) (λ _. unmoved e name _ refl) (λ _. ignored))
    (λ _ _ _. by_cond Leaves (may_hand e m)
    (λ t. marks_unmoved e name _ _ (tried-fetchable (source_at e name.source) name.number.0 m.sender.0 (handed_in_lem e f m t).1) refl)
    (λ _. ignored))
  where
    name : Name
    name = message_name m

    Leaves : Step → Type 0
    Leaves r = Unmoved e name (done r)

    ignored : Leaves (give Ignored e)
    ignored = unmoved e name (Did Ignored) refl

fetched_acts : (us : List ℕ) (b : ℕ) (s : List ℕ) (e : End) → SoundState e → is_fetched (meaning_from (b ∷ s)) ≡ true
    → Unmoved e (message_name (meaning_from (b ∷ s))) (done (act_of us (Arrival (b ∷ s)) e))
unfolding act_of
fetched_acts us b s e f is = fetched_unmoved us (meaning_from (b ∷ s)) e f is

pub fetched_moves_nothing : FetchedMovesNothing
fetched_moves_nothing e [] clock room draws is = absurd (probe_not_fetched is)
fetched_moves_nothing e (b ∷ s) clock room draws is = call-cases (Unmoved e (message_name (meaning_from (b ∷ s)))) e (Arrival (b ∷ s)) clock room draws
    (λ k. unmoved e _ (Refused k) refl)
    (λ z c. unmoved e _ (Did Ignored) refl)
    (λ z c. unmoved_clock e clock _ _ (fetched_acts draws b s (with_clock e clock) (set-clock e (Arrival (b ∷ s)) clock z) is))
