-- What keeps a member's source sound as first..last changes: the first cue opens it, last of another's rises, and a Send, by which last of
-- the own source rises and the new number's cue is held at once.
use mathlib.Core.Path.{◌≡◌, refl, sym, ap, ◌∙◌, subst}
use Prim.Native.Nat.{ℕ, ◌+◌, ◌-◌, ◌≤◌, ◌<◌, max}
use native.Mathlib.Omega.{arith}
use mathlib.Core.Bool.{Bool, true, false, not, ◌&&◌, ◌||◌, or-true}
use mathlib.Core.List.{List, [], ◌∷◌}
use lib.ListN.{length, get_or}
use lib.Seq.{set-set}
use lib.Dec.{eqb}
use borrow.Author.Tests.{lt-ltb, le-leb, eq-eqb, leb-true, eqb-true, ltb-false}
use Rattle.numbers.proofs.Cases.{by_order}
use Rattle.message.specs.declared.Host.{Host}
use Rattle.message.specs.declared.CueNumber.{CueNumber}
use Rattle.message.specs.Cue.{cue_in}
use Rattle.message.specs.Question.{same_host}
use Rattle.message.specs.Entry.{as_number}
use Rattle.end.specs.Parts.{Express, Unset, Soon, Origin, NoOrigin, From, Span, Closed, Open}
use Rattle.end.specs.declared.Record.{Record}
use Rattle.end.specs.declared.Source.{Source}
use Rattle.end.specs.declared.Moment.{Moment}
use Rattle.end.specs.State.{no_record, blank_record, with_names, with_origin}
use Rattle.end.specs.Records.{within, is_above, start, place, raw_at, record_at}
use Rattle.end.specs.Round.{Drawn, request_at}
use Rattle.end.specs.Names.{expressed, is_requester, asked, asked_by_data, holding, hold, filled, holds_cue, rise_with, rise, rise_by_data, open_at}
use Rattle.end.specs.Sound.{all_of, time_limit, span_tests, express_sound, inside_sound, outside_sound, origin_sound, attempts_sound}
use Rattle.end.specs.Event.{extended}
use Rattle.end.specs.Ready.{SpanIn, Ranges}
use Rattle.end.proofs.Tools.{by_cond, clash}
use Rattle.end.proofs.SoundLaws.{nth}
use Rattle.end.proofs.RecordLaws.{within_in, within-above, inside, at-inside, raw-other, read_same, stored_length}
use Rattle.end.proofs.Lacking.{lacking-most}
use Rattle.end.proofs.RiseLaws.{first_now, last_now, raw-over, rise-length, rise-at, rise-reaches, missed-plain}
use Rattle.end.proofs.Facts.{narrow}
use Rattle.invariants.proofs.Facts.{SoundSource, span_in}
use Rattle.invariants.proofs.Records.{round_in_lem, asking-sound, holding-sound, outside_hush, requester-kept}
use Rattle.invariants.proofs.Attempts.{none_before, origin-up, marks_opened}

-- the tests of first and last, by what these are
tests_of_lem : {me : Host} {next clock : ℕ} {member : Bool} {h : Host} (s : Source) → SoundSource me next clock member h s → (x : Span) → s.span ≡ x
    → all_of (span_tests (same_host h me) next s.missed x) ≡ true
tests_of_lem {me} {next} {clock} {member} {h} s q x p = ap (λ (x : Span). all_of (span_tests (same_host h me) next s.missed x)) (sym p) ∙ q.span

-- ---- a closed source gets its first number

module _ {me : Host} {next clock : ℕ} {member : Bool} {h : Host} (s : Source) (q : SoundSource me next clock member h s) (p : s.span ≡ Closed) where
  -- each place of it holds nothing
  closed-blank : (m : ℕ) → outside_sound (raw_at s.names m) (raw_at s.names m).slot ≡ true
  closed-blank m =
      let low : start s.span ≡ 0 = ap start p in
      let twice : place (place m) ≡ place m = omega arith in
      subst (λ (k : ℕ). outside_sound (get_or s.names k no_record) (get_or s.names k no_record).slot ≡ true) twice
      (q.outside (place m) (omega arith) (omega arith) (ap (λ (x : Span). within x (place m)) p))

  none-missed : s.missed ≡ 0
  none-missed = eqb-true s.missed 0 (tests_of_lem s q Closed p)

  -- there was no original
  none_yet : s.origin ≡ NoOrigin
  none_yet = none_before (same_host h me) s.origin (ap (λ (x : Span). origin_sound (same_host h me) x s.origin) (sym p) ∙ q.origin)

  module _ (n : ℕ) (cue : List ℕ) (long : length cue ≡ 24) (fits : cue_in cue ≡ true) (x : Origin) where
    abbrev fresh : Source
    fresh = with_origin (open_at n s) x

    opened : Record
    opened = holding (record_at fresh n) cue

    opened-sound : inside_sound me h s.pair opened opened.slot ≡ true
    unfolding opened
    opened-sound =
        let now = within_in n n n (omega arith) (omega arith) in
        holding-sound me h s.pair (record_at fresh n) cue
        (rw (at-inside fresh n now) (outside_hush me h (raw_at s.names n) (raw_at s.names n).slot (closed-blank n))) long fits

    opened_inside : (j : ℕ) → within (Open (as_number n) (as_number n)) j ≡ true
        → let r = record_at (hold n cue fresh) j in inside_sound me h s.pair r r.slot ≡ true
    unfolding opened
    opened_inside j w =
        let i = inside n n j w in
        let same : n ≡ j = omega (arith, i.low, i.high) in
        subst (λ (k : ℕ). let r = record_at (hold n cue fresh) k in inside_sound me h s.pair r r.slot ≡ true) same
        (rw (read_same fresh n opened (within_in n n n (omega arith) (omega arith)) q.names) opened-sound)

    opened_outside : (j : ℕ) → n ≤ j → j < n + 64 → within (Open (as_number n) (as_number n)) j ≡ false
        → let r = raw_at (hold n cue fresh).names j in outside_sound r r.slot ≡ true
    unfolding opened
    opened_outside j a b w = by_order n j
        (λ l. rw (raw-other s.names n j opened (λ e. omega arith)) (closed-blank j))
        (λ l. clash (sym (within_in n n j (omega arith) (omega arith)) ∙ w))

    open_kept : (next' : ℕ) → member ≡ true → n < 65536 → (not (same_host h me) || eqb (n + 1) next') ≡ true
        → origin_sound (same_host h me) (Open (as_number n) (as_number n)) x ≡ true → attempts_sound me x s.attempts 64 ≡ true
        → SoundSource me next' clock member h (hold n cue fresh)
    open_kept next' joined hn own from marks =
        let up = le-leb n n (omega arith) in
        let top = lt-ltb n 65536 hn in
        let near = le-leb n (n + 63) (omega arith) in
        let counted = le-leb s.missed n (omega (arith, none-missed)) in
        record {
          names = stored_length fresh n _ ∙ q.names;
          span = λ i. all_of (up i ∷ top i ∷ own i ∷ near i ∷ counted i ∷ []);
          distance = q.distance;
          heard = q.heard;
          aside = λ no. clash (sym joined ∙ no);
          pair = q.pair;
          inside = opened_inside;
          outside = opened_outside;
          attempts = q.attempts;
          origin = from;
          marks = marks;
        }

  -- by an original of another, whose number is kept
  pub original-kept : (n : CueNumber) (cue : List ℕ) → length cue ≡ 24 → cue_in cue ≡ true → member ≡ true → n.0 < 65536 → same_host h me ≡ false
      → SoundSource me next clock member h (hold n.0 cue (with_origin (open_at n.0 s) (From n)))
  original-kept n cue long fits joined hn other =
      let top = le-leb n.0 n.0 (omega arith) in
      open_kept n.0 cue long fits (From n) next joined hn (λ i. not (other i) || eqb (n.0 + 1) next) (λ i. not (other i) && top i)
      (marks_opened me s.attempts n (subst (λ (x : Origin). attempts_sound me x s.attempts 64 ≡ true) none_yet q.marks))

  -- by the first cue that the end sends itself
  own-kept : (n : ℕ) (cue : List ℕ) → length cue ≡ 24 → cue_in cue ≡ true → (next' : ℕ) → member ≡ true → n < 65536
      → (not (same_host h me) || eqb (n + 1) next') ≡ true → same_host h me ≡ true → SoundSource me next' clock member h (hold n cue (open_at n s))
  own-kept n cue long fits next' joined hn own same =
      open_kept n cue long fits s.origin next' joined hn own (ap (origin_sound (same_host h me) (Open (as_number n) (as_number n))) none_yet ∙ same) q.marks

-- ---- last of an open source rises, where the records of new numbers are sound
module _ {me : Host} {next clock : ℕ} {member : Bool} {h : Host} (s : Source) (q : SoundSource me next clock member h s) (new : ℕ → Record) (n : ℕ)
    (first last : CueNumber) (p : s.span ≡ Open first last) where
  abbrev risen : Source
  risen = rise_with new n s (Open first last)

  abbrev low : ℕ
  low = first_now new n s first last

  abbrev high : ℕ
  high = last_now new n s first last

  ends : SpanIn (Open first last)
  ends = subst SpanIn p (span_in me next clock member h s q)

  -- each number retired is counted at most once
  counted : risen.missed ≤ low
  counted =
      let tests = span_tests (same_host h me) next s.missed (Open first last) in
      let was = leb-true s.missed first.0 (nth tests 4 (tests_of_lem s q (Open first last) p)) in
      rw (missed-plain new n s first last p ends.0) (omega (arith, was, lacking-most (holds_cue s) (low - first.0) first.0))

  risen-span : (next' : ℕ) → n < 65536 → (not (same_host h me) || eqb (high + 1) next') ≡ true
      → all_of (span_tests (same_host h me) next' risen.missed risen.span) ≡ true
  unfolding rise_with
  risen-span next' hn own =
      let a = le-leb low high (omega (arith, ends.0, ends.2)) in
      let b = lt-ltb high 65536 (omega (arith, ends.1)) in
      let c = le-leb high (low + 63) (omega arith) in
      let d = le-leb risen.missed low counted in
      λ i. all_of (a i ∷ b i ∷ own i ∷ c i ∷ d i ∷ [])

  -- inside, a number is new or was inside
  risen-inside : ((j : ℕ) → inside_sound me h s.pair (new j) (new j).slot ≡ true) → (j : ℕ) → within risen.span j ≡ true
      → inside_sound me h s.pair (record_at risen j) (record_at risen j).slot ≡ true
  unfolding rise_with
  risen-inside good j w =
      let i = inside low high j w in
      rw (rise-at new n s (Open first last) p q.names j, w)
      (by_cond (λ (r : Record). inside_sound me h s.pair r r.slot ≡ true) (is_above (Open first last) j) (λ _. good j)
      (λ c. q.inside j (ap (λ (x : Span). within x j) p ∙ within_in first.0 last.0 j (omega (arith, i.low)) (ltb-false last.0 j c))))

  -- outside, a place is as it was
  risen_outside : (j : ℕ) → start risen.span ≤ j → j < start risen.span + 64 → within risen.span j ≡ false
      → outside_sound (raw_at risen.names j) (raw_at risen.names j).slot ≡ true
  unfolding rise_with
  risen_outside j a b w = by_order high j
      (λ l.
      let from : start s.span ≡ first.0 = ap start p in
      rw (raw-over new s.names last.0 low high j l b)
      (q.outside j (omega arith) (omega arith) (ap (λ (x : Span). within x j) p ∙ within-above first.0 last.0 j (omega arith))))
      (λ l. clash (sym (within_in low high j a l) ∙ w))

  risen-origin : origin_sound (same_host h me) risen.span s.origin ≡ true
  unfolding rise_with
  risen-origin =
      origin-up (same_host h me) s.origin first last (as_number low) (as_number high)
      (ap (λ (x : Span). origin_sound (same_host h me) x s.origin) (sym p) ∙ q.origin) (omega arith)

  rise_open : (next' : ℕ) → member ≡ true → n < 65536 → (not (same_host h me) || eqb (high + 1) next') ≡ true
      → ((j : ℕ) → inside_sound me h s.pair (new j) (new j).slot ≡ true) → SoundSource me next' clock member h risen
  unfolding rise_with
  rise_open next' joined hn own good = record {
    names = rise-length new n s (Open first last) ∙ q.names;
    span = risen-span next' hn own;
    distance = q.distance;
    heard = q.heard;
    aside = λ no. clash (sym joined ∙ no);
    pair = q.pair;
    inside = risen-inside good;
    outside = risen_outside;
    attempts = q.attempts;
    origin = risen-origin;
    marks = q.marks;
  }

-- ---- last of another's source rises: the new numbers are asked for
module _ {me : Host} {next clock : ℕ} {member : Bool} (joined : member ≡ true) {h : Host} (other : same_host h me ≡ false)
    (t : Moment) (us : List ℕ) (drawn : Drawn us) (s : Source) (n : ℕ) (hn : n < 65536) (far : Ranges t s.distance)
    (q : SoundSource me next clock member h s) where
  -- a new number's request, with an express wait or without one
  Asked : ℕ → Express → Type 0
  Asked j x = let r = expressed x (asked t us s.distance j) in inside_sound me h s.pair r r.slot ≡ true

  new_sound : (j : ℕ) (x : Express) → express_sound s.pair x ≡ true → Asked j x
  unfolding Asked
  new_sound j x express =
      asking-sound me h s.pair (expressed x (asked t us s.distance j)) (request_at t us s.distance j 1) x other refl
      (round_in_lem t us drawn s.distance far j 1 (omega arith) (omega arith)) express

  soon_sound : is_requester t.me s.pair ≡ true → express_sound s.pair (Soon (t.clock + t.params.express)) ≡ true
  soon_sound k =
      let due = lt-ltb (t.clock + t.params.express) time_limit (omega (arith, far.clock, far.express)) in
      λ i. due i && not (requester-kept t.me s.pair k i)

  by_data_sound : (j : ℕ) → let r = asked_by_data t us s j in inside_sound me h s.pair r r.slot ≡ true
  unfolding Asked
  by_data_sound j =
      by_cond (Asked j) (is_requester t.me s.pair)
      (λ k. new_sound j (Soon (t.clock + t.params.express)) (soon_sound k))
      (λ _. new_sound j Unset refl)

  module _ (new : ℕ → Record) (good : (j : ℕ) → inside_sound me h s.pair (new j) (new j).slot ≡ true) where
    rise_in : (x : Span) → s.span ≡ x → SoundSource me next clock member h (rise_with new n s x)
    unfolding rise_with
    rise_in Closed p = q
    rise_in (Open first last) p = rise_open s q new n first last p next joined hn (λ i. not (other i) || eqb (last_now new n s first last + 1) next) good

  pub rise-kept : SoundSource me next clock member h (rise t us n s s.span)
  unfolding Asked
  rise-kept = rise_in (asked t us s.distance) (λ j. new_sound j Unset refl) s.span refl

  -- before a DATA
  pub rise_by_data_kept : SoundSource me next clock member h (rise_by_data t us n s s.span)
  rise_by_data_kept = rise_in (asked_by_data t us s) by_data_sound s.span refl

  -- a number not below first is inside once last has risen to it
  pub risen-within : (new : ℕ → Record) (first last : CueNumber) → s.span ≡ Open first last → first.0 ≤ n → within (rise_with new n s s.span).span n ≡ true
  risen-within new first last p a =
      ap (λ (x : Span). within (rise_with new n s x).span n) p ∙ rise-reaches new n s first last (narrow (Open first last) (ends s q new n first last p)) a

-- ---- Send

-- the own source rises by one number, which is held: so it rises to a number whose record holds the cue
sent-rises : (t : Moment) (us cue : List ℕ) (n : ℕ) (s : Source) (first last : CueNumber) → s.span ≡ Open first last → SpanIn (Open first last)
    → length s.names ≡ 64 → last.0 + 1 ≡ n → hold n cue (rise t us n s (Open first last)) ≡ rise_with (λ _. holding blank_record cue) n s (Open first last)
unfolding rise_with filled
sent-rises t us cue n s first last p ends long up =
    let f = first.0 in
    let k = last.0 in
    let new = asked t us s.distance in
    let x = rise_with new n s (Open first last) in
    let l : max k n ≡ n = omega arith in
    let from : max (max f (n - 63)) (k + 1) ≡ n = omega (arith, ends.0) in
    let one : n + 1 - n ≡ 1 = omega arith in
    let w : within x.span n ≡ true = rise-reaches new n s first last (narrow (Open first last) ends) (omega (arith, ends.0)) in
    let r : record_at x n ≡ new n = rw (rise-at new n s (Open first last) p long n, w, lt-ltb k n (omega arith)) in
    let names : (hold n cue x).names ≡ (rise_with (λ _. holding blank_record cue) n s (Open first last)).names =
    rw (r, l, from, one) (set-set s.names (place n) (new n) (holding blank_record cue)) in
    λ i. with_names x (names i)

module _ (t : Moment) (us cue : List ℕ) (long : length cue ≡ 24) (fits : cue_in cue ≡ true) (me : Host) (next clock : ℕ) (hn : next < 65536) (member : Bool)
    (joined : member ≡ true) (s : Source) (q : SoundSource me next clock member me s) where
  own-next : (m : ℕ) → m ≡ next → (not (same_host me me) || eqb (m + 1) (next + 1)) ≡ true
  own-next m e = ap (λ (b : Bool). not (same_host me me) || b) (eq-eqb (m + 1) (next + 1) (omega arith)) ∙ or-true (not (same_host me me))

  pub sent-kept : (x : Span) → s.span ≡ x → SoundSource me (next + 1) clock member me (hold next cue (extended t us next s x))
  sent-kept Closed p = own-kept s q p next cue long fits (next + 1) joined hn (own-next next refl) (eq-eqb me.0 me.0 refl)
  sent-kept (Open first last) p =
      let tests = span_tests (same_host me me) next s.missed (Open first last) in
      let own : (not (same_host me me) || eqb (last.0 + 1) next) ≡ true = nth tests 2 (tests_of_lem s q (Open first last) p) in
      let same : same_host me me ≡ true = eq-eqb me.0 me.0 refl in
      let up : last.0 + 1 ≡ next = eqb-true (last.0 + 1) next (sym (ap (λ (b : Bool). not b || eqb (last.0 + 1) next) same) ∙ own) in
      let new : ℕ → Record = λ _. holding blank_record cue in
      subst (SoundSource me (next + 1) clock member me)
      (sym (sent-rises t us cue next s first last p (ends s q new next first last p) q.names up))
      (rise_open s q new next first last p (next + 1) joined hn (own-next (max last.0 next) (omega arith))
      (λ j. holding-sound me me s.pair blank_record cue refl long fits))
