-- A message, and what the history says of each source after it: DATA, RQST, REPL and XPRS, SESS, and any that is read.
use mathlib.Core.Path.{◌≡◌, refl, sym, ap, ◌∙◌, subst}
use mathlib.Core.Bool.{Bool, true, false, cond, not, ◌&&◌, ◌||◌}
use mathlib.Core.List.{List, [], ◌∷◌}
use mathlib.Core.Option.{Option, none, some}
use Prim.Native.Nat.{ℕ, ◌<◌}
use native.Mathlib.Omega.{arith}
use lib.ListN.{length, length-set}
use lib.Dec.{eqb}
use borrow.Author.Tests.{eqb-true, eq-eqb, ne_eqb}
use Rattle.message.specs.declared.Name.{Name}
use Rattle.message.specs.declared.Report.{Report}
use Rattle.message.specs.Kind.{is_kind}
use Rattle.message.specs.Message.{DATA, RQST, REPL, SESS, XPRS, FTCH, LATE, ANNC, Meaning, meaning_from}
use Rattle.message.specs.Question.{same_host}
use Rattle.end.specs.declared.Record.{Record}
use Rattle.end.specs.Parts.{Closed, NoOrigin}
use Rattle.end.specs.declared.Attempt.{Attempt}
use Rattle.end.specs.declared.Source.{Source}
use Rattle.end.specs.declared.End.{End}
use Rattle.end.specs.declared.Moment.{Moment}
use Rattle.end.specs.declared.Says.{Says}
use Rattle.end.specs.declared.Says.TheVariants.{Data, Rqst, Repl, Xprs}
use Rattle.end.specs.declared.Word.{Word}
use Rattle.end.specs.declared.Decision.{Decision}
use Rattle.end.specs.declared.Decision.TheVariants.{Ignores, Opens, Takes, Repairs, Hushes, Replies, Learns, BacksOff, Clashes, Expresses}
use Rattle.end.specs.State.{source_at, moment_of, with_attempts, on_source}
use Rattle.end.specs.Records.{within, is_above, is_held, with_record}
use Rattle.end.specs.Names.{asked, holds_cue}
use Rattle.end.specs.Answer.{Step, Class, PutsOut, HandsOut, HandsLate, Untouched, class_of, hands_out}
use Rattle.end.specs.Decide.{decide, apply, effect_of, step_at, known}
use Rattle.end.specs.Session.{reported_source, all_reported, heard_from, session_of}
use Rattle.end.specs.Arrival.{message_name, word_of, word_step, message_step, arrival_of}
use Rattle.end.specs.Book.{source, raised_to, reported_to, is_about_name, brought_to, read_as}
use Rattle.end.proofs.Tools.{by_cond, by_test, clash, clash', eqb_flip}
use Rattle.end.proofs.Grounds.{Grounds, grounds}
use Rattle.end.proofs.Readings.{in_range_lem, original-source}
use Rattle.invariants.proofs.Facts.{SoundState}
use Rattle.guarantees.specs.History.{told, Since, nothing_yet, handing, bringing, since_message, since_read}
use Rattle.guarantees.proofs.Calls.{changed-at}
use Rattle.guarantees.proofs.Names.{source_of}
use Rattle.guarantees.proofs.Fetches.{fetched-cases, late-cases, marked_at}
use Rattle.guarantees.proofs.Messages.{kind_of, has_name_lem}
use Rattle.guarantees.proofs.HistoryKept.{Others, others-risen, others_still, others_stored, others-measured, others_marked, others-closed}
use Rattle.guarantees.proofs.HistoryWords.{Next, word_others, word_own}

-- what the history says of a source: of the own one nothing, its count is 0, and it has no first original
unfoldable pub Tells : Bool → Since → Source → Type 0
Tells true x s = (x ≡ nothing_yet) × (s.missed ≡ 0) × (s.origin ≡ NoOrigin)
Tells false x s = Others x.handed x.highest s

-- ---- a history in which nothing was handed out stays so, whatever is brought

reported-none : (s : ℕ) (rs : List Report) → reported_to s rs none ≡ none
unfolding reported_to raised_to
reported-none s [] = refl
reported-none s (r ∷ rs) = by_cond (λ (x : Option ℕ). reported_to s rs x ≡ none) (eqb r.source.0 s) (λ _. reported-none s rs) (λ _. reported-none s rs)

brought_none : (m : Meaning) (s : ℕ) → brought_to m s none ≡ none
unfolding brought_to raised_to
brought_none m s = by_cond (λ (x : Option ℕ). x ≡ none) (is_about_name m)
    (λ _. by_cond (λ (x : Option ℕ). x ≡ none) (eqb (source m) s) (λ _. refl) (λ _. refl))
    (λ _. by_cond (λ (x : Option ℕ). x ≡ none) (eqb m.kind SESS) (λ _. reported-none s m.reports) (λ _. refl))

bringing-none : (me : ℕ) (m : Meaning) (s : ℕ) → bringing me m s nothing_yet ≡ nothing_yet
bringing-none me m s = by_cond (λ (x : Since). x ≡ nothing_yet) (eqb m.sender.0 me) (λ _. refl)
    (λ _. ap (λ (x : Option ℕ). record { handed = []; highest = x }) (brought_none m s))

-- where nothing is handed out
nothing-handed : (me s : ℕ) (m : Meaning) (c : Class) → hands_out c ≡ false → since_message me s nothing_yet m c ≡ nothing_yet
unfolding since_message
nothing-handed me s m (HandsOut name cue) h = clash h
nothing-handed me s m (PutsOut bytes) h = bringing-none me m s
nothing-handed me s m (HandsLate name cue) h = bringing-none me m s
nothing-handed me s m Untouched h = bringing-none me m s

pub read_none : (me s : ℕ) (o : Option Meaning) → since_read me s nothing_yet o Untouched ≡ nothing_yet
unfolding since_read since_message
read_none me s none = refl
read_none me s (some m) = bringing-none me m s

-- of a source with no first nothing is told
pub closed_none : (own : Bool) (x : Since) (s : Source) → s.span ≡ Closed → Tells own x s → x ≡ nothing_yet
unfolding Tells
closed_none true x s shut q = q.0
closed_none false x s shut q = let z = others-closed x.handed x.highest s shut q in λ i. record { handed = z.0 i; highest = z.1 i }

pub tells_none : (own : Bool) (s : Source) → s.span ≡ Closed → s.missed ≡ 0 → s.origin ≡ NoOrigin → Tells own nothing_yet s
unfolding Tells Others
tells_none true s shut free no_Origin = (refl, free, no_Origin)
tells_none false s shut free no_Origin = (refl, shut, free, no_Origin)

-- ---- one record in first..last is changed, and stays held or not
pub tells_stored : (own : Bool) (x : Since) (s : Source) (n : ℕ) (r : Record) → within s.span n ≡ true → is_held r.slot ≡ holds_cue s n
    → Tells own x s → Tells own x (with_record s n r)
unfolding Tells
tells_stored true x s n r w same q = q
tells_stored false x s n r w same q = others_stored s n r x.handed x.highest w same q

-- the marks of numbers below the first original are another matter
pub tells_marked : (own : Bool) (x : Since) (s : Source) (l : List Attempt) → Tells own x s → Tells own x (with_attempts s l)
unfolding Tells
tells_marked true x s l q = q
tells_marked false x s l q = others_marked s l x.handed x.highest q

-- ---- DATA, RQST, REPL and XPRS
module _ (us : List ℕ) (m : Meaning) (e : End) (f : SoundState e) (unlooped : eqb m.sender.0 e.host.0 ≡ false)
    (says : Says) (kind : eqb m.kind (kind_of says) ≡ true) (hs : source m < 8)
    (original : says ≡ Data → same_host (message_name m).source e.host ≡ false) where
  abbrev me : ℕ
  me = e.host.0

  abbrev t₀ : Moment
  t₀ = moment_of e

  abbrev w₀ : Word
  w₀ = word_of says m e

  abbrev s₀ : Source
  s₀ = source_at e (message_name m).source

  abbrev n₀ : ℕ
  n₀ = (message_name m).number.0

  abbrev SinceWord : Decision → ℕ → Since → Since
  SinceWord d s x = since_message me s x m (class_of (effect_of t₀ w₀ (known w₀ s₀) d))

  named : (s : ℕ) (top : Option ℕ) → brought_to m s top ≡ cond (eqb (source m) s) (raised_to n₀ top) top
  unfolding brought_to
  named s top = rw (has_name_lem m says kind)

  -- it brings its number to the source that it names, and to no other
  brings : (s : ℕ) (x : Since) → eqb (source m) s ≡ true → bringing me m s x ≡ record { handed = x.handed; highest = raised_to n₀ x.highest }
  brings s x it = rw (unlooped, named s x.highest, it)

  brings-none : (s : ℕ) (x : Since) → eqb (source m) s ≡ false → bringing me m s x ≡ x
  brings-none s x off = rw (unlooped, named s x.highest, off)

  apart : (s : ℕ) (x : Since) → eqb (source m) s ≡ false → (c : Class)
      → ((name : Name) (cue : List ℕ) → c ≡ HandsOut name cue → name ≡ message_name m) → since_message me s x m c ≡ x
  unfolding since_message
  apart s x off (HandsOut name cue) is =
      ap (λ (b : Bool). cond b (handing name.number.0 x) x) (ap (λ (z : Name). eqb z.source.0 s) (is name cue refl) ∙ off)
  apart s x off (PutsOut bytes) is = brings-none s x off
  apart s x off (HandsLate name cue) is = brings-none s x off
  apart s x off Untouched is = brings-none s x off

  -- what is handed out has the message's name
  handed-name : (d : Decision) (name : Name) (cue : List ℕ) → class_of (effect_of t₀ w₀ (known w₀ s₀) d) ≡ HandsOut name cue → name ≡ message_name m
  unfolding effect_of
  handed-name (Ignores why) name cue p = let z : ◌≡◌ {A = ℕ} 0 1 = cc in absurd (omega arith)
  handed-name Opens name cue p = cc
  handed-name Takes name cue p = cc
  handed-name Repairs name cue p = cc
  handed-name Hushes name cue p = let z : ◌≡◌ {A = ℕ} 0 1 = cc in absurd (omega arith)
  handed-name Replies name cue p = let z : ◌≡◌ {A = ℕ} 0 1 = cc in absurd (omega arith)
  handed-name Learns name cue p = let z : ◌≡◌ {A = ℕ} 0 1 = cc in absurd (omega arith)
  handed-name (BacksOff k) name cue p = let z : ◌≡◌ {A = ℕ} 0 1 = cc in absurd (omega arith)
  handed-name Expresses name cue p = let z : ◌≡◌ {A = ℕ} 0 1 = cc in absurd (omega arith)
  handed-name Clashes name cue p = let z : ◌≡◌ {A = ℕ} 0 1 = cc in absurd (omega arith)

  -- the source that it names, another's
  next-told : (x : Since) (p : Source) (c : Class) → ((name : Name) (cue : List ℕ) → c ≡ HandsOut name cue → name ≡ message_name m)
      → Next c n₀ x.handed x.highest p → let y = since_message me (source m) x m c in Others y.handed y.highest p
  unfolding since_message
  next-told x p (HandsOut name cue) is q =
      let it : cond (eqb name.source.0 (source m)) (handing name.number.0 x) x ≡ handing n₀ x =
      ap (λ (z : Name). cond (eqb z.source.0 (source m)) (handing z.number.0 x) x) (is name cue refl)
      ∙ ap (λ (b : Bool). cond b (handing n₀ x) x) (eq-eqb (source m) (source m) refl) in
      subst (λ (y : Since). Others y.handed y.highest p) (sym it) q
  next-told x p (PutsOut bytes) is q =
      subst (λ (y : Since). Others y.handed y.highest p) (sym (brings (source m) x (eq-eqb (source m) (source m) refl))) q
  next-told x p (HandsLate name cue) is q =
      subst (λ (y : Since). Others y.handed y.highest p) (sym (brings (source m) x (eq-eqb (source m) (source m) refl))) q
  next-told x p Untouched is q = subst (λ (y : Since). Others y.handed y.highest p) (sym (brings (source m) x (eq-eqb (source m) (source m) refl))) q

  here : (own : Bool) → same_host (message_name m).source e.host ≡ own → (x : Since) → Tells own x s₀ → (d : Decision)
      → Grounds t₀ w₀ (known w₀ s₀) s₀.span d
      → Tells own (SinceWord d (source m) x) (apply t₀ us w₀ d s₀)
  unfolding Tells since_message
  here true own x q d g =
      let z = word_own t₀ us w₀ s₀ own original ((f.each (source m) hs).inside n₀) d g in
      let c = class_of (effect_of t₀ w₀ (known w₀ s₀) d) in (
        ap (λ (y : Since). since_message me (source m) y m c) q.0 ∙ nothing-handed me (source m) m c z.class,
        z.missed ∙ q.1,
        z.origin ∙ q.2,
      )
  here false own x q d g =
      next-told x (apply t₀ us w₀ d s₀) (class_of (effect_of t₀ w₀ (known w₀ s₀) d)) (handed-name d)
      (word_others t₀ us w₀ s₀ (f.each (source m) hs).names x.handed x.highest q own d g)

  word_tells : (past : ℕ → Since) → ((s : ℕ) → s < 8 → Tells (eqb s me) (past s) (source_of e s)) → (s : ℕ) → s < 8
      → Tells (eqb s me) (since_message me s (past s) m (class_of (word_step us says m e).effect)) (source_of (word_step us says m e).left s)
  unfolding step_at
  word_tells past told s hh =
      let d = decide t₀ w₀ s₀ in
      changed-at (Tells (eqb s me) (SinceWord d s (past s))) e.sources (source m) (apply t₀ us w₀ d s₀) s (omega (arith, f.sources))
      (λ it. subst (λ (k : ℕ). Tells (eqb k me) (SinceWord d k (past k)) (apply t₀ us w₀ d s₀)) (sym it)
      (here (eqb (source m) me) refl (past (source m)) (told (source m) hs) d (grounds t₀ w₀ (known w₀ s₀) s₀.span)))
      (λ off. subst (λ (x : Since). Tells (eqb s me) x (source_of e s))
      (sym (apart s (past s) (eqb_flip s (source m) off) (class_of (effect_of t₀ w₀ (known w₀ s₀) d)) (handed-name d))) (told s hh))

-- ---- SESS

-- a message that was read and is about no name is a SESS
pub known-session : (kind : ℕ) → is_kind kind ≡ true → eqb kind DATA ≡ false → eqb kind RQST ≡ false → eqb kind REPL ≡ false
    → eqb kind XPRS ≡ false → eqb kind FTCH ≡ false → eqb kind LATE ≡ false → eqb kind ANNC ≡ false → eqb kind SESS ≡ true
known-session kind h d r p x f l n = by_test (eqb kind SESS) (λ t. t) (λ t. clash' ((rw (d, r, p, t, x, f, l, n) refl) ∙ h))

module _ (us : List ℕ) (e : End) where
  abbrev t₁ : Moment
  t₁ = moment_of e

  -- one report, to the source s of x
  report-others : (s : ℕ) → eqb s e.host.0 ≡ false → (r : Report) → r.source.0 ≡ s → (hs : List ℕ) (top : Option ℕ) (p : Source) → Others hs top p
      → Others hs (raised_to r.last.0 top) (reported_source t₁ us r p)
  report-others s other r it hs top p q =
      let another : same_host r.source e.host ≡ false = ap (λ (k : ℕ). eqb k e.host.0) it ∙ other in
      by_cond (Others hs (raised_to r.last.0 top)) (not (same_host r.source e.host) && is_above p.span r.last.0)
      (λ _. others-risen p (asked t₁ us p.distance) (λ m. refl) r.last.0 hs top q)
      (λ c. others_still p r.last.0 hs top (sym (ap (λ (b : Bool). not b && is_above p.span r.last.0) another) ∙ c) q)

  report-own : (s : ℕ) → eqb s e.host.0 ≡ true → (r : Report) → r.source.0 ≡ s → (p : Source) → reported_source t₁ us r p ≡ p
  report-own s own r it p =
      let mine : same_host r.source e.host ≡ true = ap (λ (k : ℕ). eqb k e.host.0) it ∙ own in
      rw mine

  report-tells : (s : ℕ) (own : Bool) → eqb s e.host.0 ≡ own → (r : Report) → r.source.0 ≡ s → (hs : List ℕ) (top : Option ℕ) (p : Source)
      → Tells own (record { handed = hs; highest = top }) p → Tells own (record { handed = hs; highest = raised_to r.last.0 top }) (reported_source t₁ us r p)
  unfolding Tells raised_to
  report-tells s true is r it hs top p q = (
    ap (λ (y : Since). record { handed = y.handed; highest = raised_to r.last.0 y.highest }) q.0,
    ap (λ (y : Source). y.missed) (report-own s is r it p) ∙ q.1,
    ap (λ (y : Source). y.origin) (report-own s is r it p) ∙ q.2,
  )
  report-tells s false is r it hs top p q = report-others s is r it hs top p q

  reports_tell : (s : ℕ) (own : Bool) → eqb s e.host.0 ≡ own → (rs : List Report) (x : End) → s < length x.sources → (hs : List ℕ) (top : Option ℕ)
      → Tells own (record { handed = hs; highest = top }) (source_of x s)
      → Tells own (record { handed = hs; highest = reported_to s rs top }) (source_of (all_reported t₁ us rs x) s)
  unfolding reported_to all_reported
  reports_tell s own is [] x long hs top q = q
  reports_tell s own is (r ∷ rs) x long hs top q =
      let k = r.source.0 in
      let p = reported_source t₁ us r (source_at x r.source) in
      reports_tell s own is rs (on_source x r.source (reported_source t₁ us r)) (omega (arith, length-set x.sources k p)) hs _
      (changed-at (Tells own (record { handed = hs; highest = cond (eqb k s) (raised_to r.last.0 top) top })) x.sources k p s long
      (λ it. rw (eq-eqb k s (sym it))
      (subst (λ (i : ℕ). Tells own (record { handed = hs; highest = raised_to r.last.0 top }) (reported_source t₁ us r (source_of x i))) it
      (report-tells s own is r (sym it) hs top (source_of x s) q)))
      (λ off. rw (eqb_flip s k off) q))

  -- then the sender's distance and stamp are new, which is another matter
  measured-tells : (own : Bool) (x : Since) (m : Meaning) (p : Source) → Tells own x p → Tells own x (heard_from t₁ m p)
  unfolding Tells
  measured-tells true x m p q = q
  measured-tells false x m p q = others-measured p _ _ x.handed x.highest q

pub reported-long : (t : Moment) (us : List ℕ) (rs : List Report) (e : End) → length (all_reported t us rs e).sources ≡ length e.sources
unfolding all_reported
reported-long t us [] e = refl
reported-long t us (r ∷ rs) e =
    reported-long t us rs (on_source e r.source (reported_source t us r))
    ∙ length-set e.sources r.source.0 (reported_source t us r (source_at e r.source))

session-tells : (us : List ℕ) (m : Meaning) (e : End) → length e.sources ≡ 8 → eqb m.sender.0 e.host.0 ≡ false → is_about_name m ≡ false
    → eqb m.kind SESS ≡ true
    → (x : Since) (s : ℕ) → s < 8 → Tells (eqb s e.host.0) x (source_of e s)
    → let r = session_of (moment_of e) us m e in Tells (eqb s e.host.0) (since_message e.host.0 s x m (class_of r.effect)) (source_of r.left s)
unfolding session_of since_message brought_to
session-tells us m e long unlooped unnamed session x s hh q =
    let own = eqb s e.host.0 in
    let now = all_reported (moment_of e) us m.reports e in
    let p = heard_from (moment_of e) m (source_at now m.sender) in
    let y : Since = record { handed = x.handed; highest = reported_to s m.reports x.highest } in
    let all : Tells own y (source_of now s) = reports_tell us e s own refl m.reports e (omega arith) x.handed x.highest q in
    rw (unlooped, unnamed, session)
    (changed-at (Tells own y) now.sources m.sender.0 p s (omega (arith, reported-long (moment_of e) us m.reports e))
    (λ it. subst (λ (k : ℕ). Tells own y (heard_from (moment_of e) m (source_of now k))) it (measured-tells us e own y m (source_of now s) all))
    (λ off. all))

-- ---- any message to a member
module _ (us : List ℕ) (m : Meaning) (e : End) (f : SoundState e) (unlooped : eqb m.sender.0 e.host.0 ≡ false) (hs : source m < 8)
    (original : eqb m.kind DATA ≡ true → same_host (message_name m).source e.host ≡ false) (kinds : is_kind m.kind ≡ true)
    (past : ℕ → Since) (told_so : (s : ℕ) → s < 8 → Tells (eqb s e.host.0) (past s) (source_of e s)) (s : ℕ) (hh : s < 8) where
  abbrev Went : Step → Type 0
  Went r = Tells (eqb s e.host.0) (since_message e.host.0 s (past s) m (class_of r.effect)) (source_of r.left s)

  -- kinds 22 to 24 bring no number
  unbrought : (kind : ℕ) → eqb m.kind kind ≡ true → eqb kind SESS ≡ false → is_about_name m ≡ false → bringing e.host.0 m s (past s) ≡ past s
  unfolding brought_to
  unbrought kind k other unnamed =
      let no_session : eqb m.kind SESS ≡ false = ap (λ (i : ℕ). eqb i SESS) (eqb-true m.kind kind k) ∙ other in
      rw (unlooped, unnamed, no_session)

  message-tells : Went (message_step us m e)
  unfolding message_step since_message
  message-tells =
      by_cond Went (eqb m.kind DATA) (λ k. word_tells us m e f unlooped Data k hs (λ _. original k) past told_so s hh)
      (λ d. by_cond Went (eqb m.kind RQST)
      (λ k. word_tells us m e f unlooped Rqst k hs (λ p. absurd (let z : ◌≡◌ {A = ℕ} 0 1 = cc in omega arith)) past told_so s hh)
      (λ r. by_cond Went (eqb m.kind REPL)
      (λ k. word_tells us m e f unlooped Repl k hs (λ p. absurd (let z : ◌≡◌ {A = ℕ} 0 1 = cc in omega arith)) past told_so s hh)
      (λ p. by_cond Went (eqb m.kind XPRS)
      (λ k. word_tells us m e f unlooped Xprs k hs (λ p. absurd (let z : ◌≡◌ {A = ℕ} 0 1 = cc in omega arith)) past told_so s hh)
      (λ x. by_cond Went (eqb m.kind FTCH)
      (λ k. let quiet = unbrought FTCH k (ne_eqb FTCH SESS (λ i. omega (arith, i))) (λ i. d i || (r i || (p i || x i))) in
      fetched-cases Went m e (rw quiet (told_so s hh)) (λ bytes. rw quiet (told_so s hh)))
      (λ q. by_cond Went (eqb m.kind LATE)
      (λ k. let quiet = unbrought LATE k (ne_eqb LATE SESS (λ i. omega (arith, i))) (λ i. d i || (r i || (p i || x i))) in
      late-cases Went m e (rw quiet (told_so s hh)) (λ l. rw quiet (marked_at (Tells (eqb s e.host.0) (past s)) e (message_name m).source l s (told_so s hh)
      (tells_marked (eqb s e.host.0) (past s) (source_of e s) l (told_so s hh)))))
      (λ l. by_cond Went (eqb m.kind ANNC)
      (λ k. let quiet = unbrought ANNC k (ne_eqb ANNC SESS (λ i. omega (arith, i))) (λ i. d i || (r i || (p i || x i))) in
      rw quiet (told_so s hh))
      (λ n. session-tells us m e f.sources unlooped (λ i. d i || (r i || (p i || x i)))
      (known-session m.kind kinds d r p x q l n) (past s) s hh (told_so s hh))))))))

-- looped or not
pub arrival-tells : (us : List ℕ) (b : ℕ) (bytes : List ℕ) (e : End) → SoundState e → read_as (b ∷ bytes) ≡ some (meaning_from (b ∷ bytes))
    → is_kind (meaning_from (b ∷ bytes)).kind ≡ true → (past : ℕ → Since) → ((s : ℕ) → s < 8 → Tells (eqb s e.host.0) (past s) (source_of e s))
    → (s : ℕ) → s < 8 → let r = arrival_of us (meaning_from (b ∷ bytes)) e in
    Tells (eqb s e.host.0) (since_message e.host.0 s (past s) (meaning_from (b ∷ bytes)) (class_of r.effect)) (source_of r.left s)
unfolding arrival_of since_message
arrival-tells us b bytes e f read kinds past told_so s hh =
    let m = meaning_from (b ∷ bytes) in
    by_cond (λ (r : Step). Tells (eqb s e.host.0) (since_message e.host.0 s (past s) m (class_of r.effect)) (source_of r.left s))
    (same_host m.sender e.host)
    (λ looped. rw looped (told_so s hh))
    (λ unlooped.
    let mine : eqb m.kind DATA ≡ true → same_host (message_name m).source e.host ≡ false =
    λ k. ap (λ (i : ℕ). eqb i e.host.0) (sym (original-source (b ∷ bytes) m read k)) ∙ unlooped in
    message-tells us m e f unlooped (in_range_lem (b ∷ bytes) m read).source mine kinds past told_so s hh)
