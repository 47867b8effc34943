-- DATA, RQST, REPL and XPRS, and what the history says of the source that they name: by what is decided, a line each.
use mathlib.Core.Path.{◌≡◌, refl, sym, ap, ◌∙◌, subst}
use mathlib.Core.Bool.{true, false, not}
use mathlib.Core.List.{List, [], ◌∷◌, ◌++◌}
use mathlib.Core.Option.{Option, none, some}
use Prim.Native.Nat.{ℕ}
use native.Mathlib.Omega.{arith}
use lib.ListN.{length}
use borrow.Author.Tests.{not-true, ltb-true, le-ltb}
use Rattle.message.specs.Question.{same_host}
use Rattle.message.proofs.QuestionLaws.{and_both}
use Rattle.end.specs.Parts.{Reply, No, Span, Closed, Open}
use Rattle.end.specs.declared.Record.{Record}
use Rattle.end.specs.declared.Source.{Source}
use Rattle.end.specs.declared.Moment.{Moment}
use Rattle.end.specs.declared.Says.TheVariants.{Data}
use Rattle.end.specs.declared.Word.{Word}
use Rattle.end.specs.declared.Reason.{Reason}
use Rattle.end.specs.declared.Reason.TheVariants.{Crashed, WrongStatus, OwnMessage, NotOpen, BelowFirst, OwnAboveLast, AlreadyHeld, ReplyWaiting, ReplyQuiet, RequestQuiet, NoFetch}
use Rattle.end.specs.declared.Decision.{Decision}
use Rattle.end.specs.declared.Decision.TheVariants.{Ignores, Opens, Takes, Repairs, Hushes, Replies, Learns, BacksOff, Clashes, Expresses}
use Rattle.end.specs.Records.{is_closed, within, is_below, is_above, record_at, is_held, with_record, with_reply}
use Rattle.end.specs.Names.{asked, asked_by_data, hold, holds_cue, rise_with}
use Rattle.end.specs.Sound.{inside_sound}
use Rattle.end.specs.Answer.{Class, PutsOut, HandsOut, HandsLate, Untouched, class_of, hands_out}
use Rattle.end.specs.Decide.{number, known, apply, effect_of}
use Rattle.end.specs.Book.{raised_to, higher}
use Rattle.end.proofs.Tools.{clash, clash'}
use Rattle.end.proofs.RecordLaws.{Narrow, inside}
use Rattle.end.proofs.RiseLaws.{rise_elim, rise-reaches}
use Rattle.end.proofs.Grounds.{is_data, is_request, answered, holds, Missing, Wanted, Grounds, wanted_other}
use Rattle.guarantees.specs.Records.{request_in}
use Rattle.guarantees.proofs.Names.{waits-inside, held-inside}
use Rattle.guarantees.proofs.Heard.{replied-held}
use Rattle.guarantees.proofs.HistoryKept.{Others, others-risen, others_still, others_stored, others-handed, others-begun, others-paired, others_narrow}

-- ---- where a name stands
inside_low : (x : Span) (n : ℕ) → within x n ≡ true → is_above x n ≡ false
inside_low Closed n w = refl
inside_low (Open first last) n w = le-ltb last.0 n (inside first.0 last.0 n w).high

below_low : (x : Span) (n : ℕ) → Narrow x → is_below x n ≡ true → is_above x n ≡ false
below_low Closed n o b = refl
below_low (Open first last) n o b = le-ltb last.0 n (omega (arith, o.0, ltb-true n first.0 b))

closed_low : (x : Span) (n : ℕ) → is_closed x ≡ true → is_above x n ≡ false
closed_low Closed n c = refl
closed_low (Open first last) n c = clash' c

-- an ignored message about another's name does not lie above its last
ignored_low : (t : Moment) (w : Word) (s : Source) → same_host w.name.source t.me ≡ false → Narrow s.span → (why : Reason)
    → holds w.says t w (known w s) s.span why ≡ true → is_above s.span (number w) ≡ false
ignored_low t w s other o Crashed h = clash' h
ignored_low t w s other o WrongStatus h = clash' h
ignored_low t w s other o OwnMessage h = clash' h
ignored_low t w s other o NotOpen h = closed_low s.span (number w) (and_both (not (is_data w.says)) _ h).1
ignored_low t w s other o BelowFirst h = below_low s.span (number w) o h
ignored_low t w s other o OwnAboveLast h =
    clash (sym (and_both (same_host w.name.source t.me) _ (and_both (not (is_data w.says)) _ h).1).0 ∙ other)
ignored_low t w s other o AlreadyHeld h =
    inside_low s.span (number w) (held-inside s (number w) (and_both (is_held (known w s).slot) _ (and_both (is_data w.says) _ h).1).0)
ignored_low t w s other o ReplyWaiting h =
    let a = (and_both (not (answered w.says t w (known w s))) _ (and_both (is_request w.says) _ h).1).1 in
    inside_low s.span (number w) (held-inside s (number w) (and_both (is_held (known w s).slot) _ a).0)
ignored_low t w s other o ReplyQuiet h =
    inside_low s.span (number w) (held-inside s (number w) (and_both (is_held (known w s).slot) _ (and_both (is_request w.says) _ h).1).0)
ignored_low t w s other o RequestQuiet h =
    let a = (and_both (is_request w.says) _ h).1 in
    let b = (and_both (not (is_held (known w s).slot)) _ a).1 in
    not-true _ (and_both (not (is_above s.span (number w))) _ b).0
ignored_low t w s other o NoFetch h = clash' h

-- ---- what the history says next of the named source, by what is written to the output
abbrev pub Next : Class → ℕ → List ℕ → Option ℕ → Source → Type 0
Next (HandsOut name cue) n hs top s = Others (hs ++ (n ∷ [])) (some (higher top n)) s
Next (PutsOut bytes) n hs top s = Others hs (raised_to n top) s
Next (HandsLate name cue) n hs top s = Others hs (raised_to n top) s
Next Untouched n hs top s = Others hs (raised_to n top) s

-- of a source that is open the highest is known
highest-risen : (n : ℕ) (hs : List ℕ) (top : Option ℕ) (s : Source) (x : Span) → s.span ≡ x → is_closed x ≡ false → Others hs top s
    → raised_to n top ≡ some (higher top n)
unfolding Others raised_to higher
highest-risen n [] top s x is p q = clash (sym (ap is_closed (sym is ∙ q.1)) ∙ p)
highest-risen n (f0 ∷ more) none s x is p q = absurd q
highest-risen n (f0 ∷ more) (some top) s x is p q = refl

module _ (t : Moment) (us : List ℕ) (w : Word) (s : Source) (sized : length s.names ≡ 64) (hs : List ℕ) (top : Option ℕ) (q : Others hs top s) where
  abbrev n : ℕ
  n = number w

  -- last rises, with these records for new numbers, of which none is held
  module _ (new : ℕ → Record) (fresh : (m : ℕ) → is_held (new m).slot ≡ false) where
    abbrev now : Source
    now = rise_with new n s s.span

    up : Others hs (raised_to n top) now
    up = others-risen s new fresh n hs top q

    reach : Missing w (known w s) s.span → within now.span n ≡ true
    reach k = subst (λ (x : Span). within (rise_with new n s x).span n ≡ true) (sym k.span)
        (rise-reaches new n s k.first k.last (subst Narrow k.span (others_narrow hs top s q)) k.least)

    -- a number whose cue was not held is not held once last has risen
    lacks_still : Missing w (known w s) s.span → holds_cue now n ≡ false
    lacks_still k =
        rise_elim (λ (r : Record). is_held r.slot ≡ false) new n s s.span refl sized n (λ _ _. fresh n) (λ _. k.lacks) (λ _. refl)

    taken : Missing w (known w s) s.span → Others (hs ++ (n ∷ [])) (some (higher top n)) (hold n w.cue now)
    taken k =
        let high = highest-risen n hs top s (Open k.first k.last) k.span refl q in
        subst (λ (x : Option ℕ). Others (hs ++ (n ∷ [])) x (hold n w.cue now)) high (others-handed now n _ hs (raised_to n top) (reach k) refl up)

  -- what a rise gives new numbers, and what it gives them before a DATA
  abbrev plain : ℕ → Record
  plain = asked t us s.distance

  abbrev by_data : ℕ → Record
  by_data = asked_by_data t us s

  still : is_above s.span n ≡ false → Others hs (raised_to n top) s
  still a = others_still s n hs top a q

  -- a record in first..last is changed, and stays held or not
  stored : (r : Record) → within s.span n ≡ true → is_held r.slot ≡ holds_cue s n → Others hs (raised_to n top) (with_record s n r)
  stored r i same = others_stored s n r hs (raised_to n top) i same (still (inside_low s.span n i))

  -- the reply beside a held cue is changed, and another pair is kept
  answers : (reply : Reply) (u : ℕ) → is_held (known w s).slot ≡ true
      → Others hs (raised_to n top) (with_record s n (record { slot = with_reply reply (record_at s n).slot; cue = (record_at s n).cue; hush = u }))
  answers reply u held = stored _ (held-inside s n held) (replied-held reply (record_at s n).slot)

  pub word_others : same_host w.name.source t.me ≡ false → (d : Decision) → Grounds t w (known w s) s.span d
      → Next (class_of (effect_of t w (known w s) d)) n hs top (apply t us w d s)
  unfolding Grounds apply effect_of
  word_others other (Ignores why) g = still (ignored_low t w s other (others_narrow hs top s q) why g)
  word_others other Opens g = others-begun s n w.cue hs top g.1 sized q
  word_others other Takes g = taken by_data (λ m. refl) g.1
  word_others other Repairs g =
      let x = hold n w.cue (now plain (λ m. refl)) in
      others-paired _ _ (hs ++ (n ∷ [])) (some (higher top n)) (others_stored x n _ (hs ++ (n ∷ [])) (some (higher top n))
      (reach plain (λ m. refl) g.1.missing) (replied-held _ (record_at x n).slot) (taken plain (λ m. refl) g.1.missing))
  word_others other Hushes g = others-paired _ _ hs (raised_to n top) (answers No _ g.1)
  word_others other Replies g = answers _ _ g.1.held
  word_others other Learns g =
      others_stored (now plain (λ m. refl)) n _ hs (raised_to n top) (reach plain (λ m. refl) g.1.missing)
      (sym (lacks_still plain (λ m. refl) g.1.missing))
      (up plain (λ m. refl))
  word_others other (BacksOff k) g =
      let late = g.1 in
      stored _ (waits-inside s n late.request (ap request_in late.waits)) (sym (ap is_held late.waits))
  word_others other Clashes g = still (inside_low s.span n (held-inside s n g.1))
  word_others other Expresses g = answers No _ g.1

-- ---- the own source: nothing is handed out, and nothing is counted
pub record Quiet (c : Class) (s p : Source) : Type 0 where
  pub class : hands_out c ≡ false
  pub missed : p.missed ≡ s.missed
  pub origin : p.origin ≡ s.origin

module _ (t : Moment) (us : List ℕ) (w : Word) (s : Source) (own : same_host w.name.source t.me ≡ true)
    (original : w.says ≡ Data → same_host w.name.source t.me ≡ false)
    (sound : within s.span (number w) ≡ true → inside_sound t.me w.name.source s.pair (known w s) (known w s).slot ≡ true) where
  wanted : Wanted t w (known w s) s.span → same_host w.name.source t.me ≡ false
  wanted g = wanted_other t w s.pair (known w s) s.span (λ i. rw i (sound i)) g

  pub word_own : (d : Decision) → Grounds t w (known w s) s.span d → Quiet (class_of (effect_of t w (known w s) d)) s (apply t us w d s)
  unfolding Grounds apply effect_of
  word_own (Ignores why) g = record { class = refl; missed = refl; origin = refl }
  word_own Opens g = clash (sym own ∙ original g.0)
  word_own Takes g = clash (sym own ∙ original g.0)
  word_own Repairs g = clash (sym own ∙ wanted g.1)
  word_own Hushes g = record { class = refl; missed = refl; origin = refl }
  word_own Replies g = record { class = refl; missed = refl; origin = refl }
  word_own Learns g = clash (sym own ∙ wanted g.1)
  word_own (BacksOff k) g = record { class = refl; missed = refl; origin = refl }
  word_own Clashes g = record { class = refl; missed = refl; origin = refl }
  word_own Expresses g = record { class = refl; missed = refl; origin = refl }
