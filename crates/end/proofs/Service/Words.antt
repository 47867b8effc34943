-- What the service sees of a message about a name: by the decision, a line each.
use mathlib.Core.Path.{◌≡◌, refl, sym, ap, ◌∙◌, subst}
use Prim.Native.Nat.{ℕ, ◌<◌}
use native.Mathlib.Omega.{arith}
use mathlib.Core.Bool.{Bool, true, false, not, ◌&&◌, ◌||◌, and-false}
use mathlib.Core.List.{List}
use mathlib.Core.Option.{none, some}
use lib.ListN.{length, get_or}
use lib.Dec.{eqb, leb}
use borrow.Author.Tests.{eqb-true, eq-eqb, not-true, ltb-true, lt-ltb, le-ltb, lt-leb, le-leb}
use Rattle.numbers.proofs.Cases.{by_order}
use Rattle.message.specs.Message.{REPL, Meaning}
use Rattle.message.specs.Question.{same_host}
use Rattle.message.proofs.QuestionLaws.{and_both}
use Rattle.end.specs.Parts.{Express, No, Due, Span, Closed, Open}
use Rattle.end.specs.declared.Request.{Request}
use Rattle.end.specs.declared.Slot.{Slot}
use Rattle.end.specs.declared.Slot.TheVariants.{Empty, Held, Waiting}
use Rattle.end.specs.declared.Record.{Record}
use Rattle.end.specs.declared.Source.{Source}
use Rattle.end.specs.declared.End.{End}
use Rattle.end.specs.declared.Moment.{Moment}
use Rattle.end.specs.declared.Says.{Says}
use Rattle.end.specs.declared.Says.TheVariants.{Data, Rqst, Repl, Xprs}
use Rattle.end.specs.declared.Word.{Word}
use Rattle.end.specs.declared.Reason.{Reason}
use Rattle.end.specs.declared.Reason.TheVariants.{Crashed, WrongStatus, OwnMessage, NotOpen, BelowFirst, OwnAboveLast, AlreadyHeld, ReplyWaiting, ReplyQuiet, RequestQuiet, NoFetch}
use Rattle.end.specs.declared.Decision.{Decision}
use Rattle.end.specs.declared.Decision.TheVariants.{Ignores, Opens, Takes, Repairs, Hushes, Replies, Learns, BacksOff, Clashes, Expresses}
use Rattle.end.specs.State.{no_source, source_at, is_member, with_source, moment_of}
use Rattle.end.specs.Records.{is_closed, within, is_below, is_above, record_at, is_held}
use Rattle.end.specs.Reasons.{holds as holdsFor, answered}
use Rattle.end.specs.Round.{next_round, request_at, quiet_after_reply, reply_due}
use Rattle.end.specs.Names.{open_at, set_round, hold, quiet_reply, asking, holding, quieted, replying, asked as asked_for, asked_by_data, rise_with}
use Rattle.end.specs.Messages.{repair_message}
use Rattle.end.specs.Answer.{Effect, Got, Done, Ignored, Clash, give, class_of, Untouched}
use Rattle.end.specs.Decide.{number, known, decide, risen, paired, apply, effect_of, step_at, opened}
use Rattle.end.specs.Arrival.{message_name, message_cue, word_of, word_step}
use Rattle.end.specs.Book.{source, is_some, not_below, is_original, is_repair, is_about_name, brought_to}
use Rattle.end.proofs.Tools.{by_test, clash, clash', eqb_flip}
use Rattle.end.proofs.RecordLaws.{Narrow, inside, at-inside, at_outside, stored_length}
use Rattle.end.proofs.RiseLaws.{rise-length, rise_narrow, rise-reaches}
use Rattle.end.proofs.Facts.{Facts, narrow}
use Rattle.end.proofs.Grounds.{Grounds, Missing, is_data, is_request, grounds, wanted_other}
use Rattle.end.proofs.Service.View.{held_in_lem, first_in, held_at, SameSource, RoseSource, TookSource, holds, first_at, Rose}
use Rattle.end.proofs.Service.Booked.{fresh, takes, heeds, QuietBy, Hears, untouched_quiet}
use Rattle.end.proofs.Service.Sources.{held-is, not_held_is, any_reply, within_not_below, same_refl_source, same_rose, rose_same, took_same, same_record, took_opened, rose, took_risen}
use Rattle.end.proofs.Service.Steps.{Narrows, brought_of, rose_source, took_source}
use Rattle.end.proofs.Service.Quiets.{held-there, cue-fits, carrying_quiet}

-- a decision that hands the cue out
unfoldable pub hands : Decision → Bool
hands (Ignores why) = false
hands Opens = true
hands Takes = true
hands Repairs = true
hands Hushes = false
hands Replies = false
hands Learns = false
hands (BacksOff k) = false
hands Clashes = false
hands Expresses = false

abbrev is_empty : Slot → Bool
is_empty Empty = true
is_empty (Held reply) = false
is_empty (Waiting q x) = false

-- ---- the source: it has taken the cue, or has risen to the number
unfoldable pub Seen : Bool → Bool → Word → Source → Source → Type 0
Seen true another w s s' = TookSource s s' (number w) w.cue
Seen false another w s s' = RoseSource another s s' (number w)

-- what waits or is held lies in first..last
slot_within : (s : Source) (n : ℕ) → is_empty (record_at s n).slot ≡ false → within s.span n ≡ true
slot_within s n h = by_test (within s.span n) (λ w. w) (λ w. clash (sym (ap (λ (r : Record). is_empty r.slot) (at_outside s n w)) ∙ h))

pub held-within : (s : Source) (n : ℕ) → is_held (record_at s n).slot ≡ true → within s.span n ≡ true
held-within s n h = slot_within s n (not_empty (record_at s n).slot h)
  where
    not_empty : (x : Slot) → is_held x ≡ true → is_empty x ≡ false
    not_empty Empty p = clash' p
    not_empty (Held reply) p = refl
    not_empty (Waiting q x) p = refl

within_not_above : (x : Span) (n : ℕ) → within x n ≡ true → is_above x n ≡ false
within_not_above Closed n h = refl
within_not_above (Open first last) n h = le-ltb last.0 n (inside first.0 last.0 n h).high

below_not_above : (x : Span) (n : ℕ) → Narrow x → is_below x n ≡ true → is_above x n ≡ false
below_not_above Closed n o h = refl
below_not_above (Open first last) n o h = le-ltb last.0 n (omega (arith, o.0, ltb-true n first.0 h))

-- the number of a name that is missing lies in first..last once it has risen to it
reached-within : (new : ℕ → Record) (w : Word) (s : Source) → Narrow s.span → Missing w (known w s) s.span → within (rise_with new (number w) s s.span).span (number w) ≡ true
reached-within new w s o g =
    let is = g.span in
    ap (λ (x : Span). within (rise_with new (number w) s x).span (number w)) is ∙ rise-reaches new (number w) s g.first g.last (subst Narrow is o) g.least

-- a gap before a DATA has no cue either, with an express wait or without
express_bare : (t : Moment) (us : List ℕ) (s : Source) (m : ℕ) → is_held (asked_by_data t us s m).slot ≡ false
express_bare t us s m = refl

-- the kept pair is none of the service's business
paired_same : (w : Word) (s : Source) → SameSource s (paired w s)
unfolding held_at record_at
paired_same w s = record { first = refl; last = refl; holding = λ n. refl }

-- nor does it see the number of the first original
origin-same : (w : Word) (s : Source) → SameSource (hold (number w) w.cue (open_at (number w) s)) (hold (number w) w.cue (opened w s))
unfolding held_at record_at
origin-same w s = record { first = refl; last = refl; holding = λ n. refl }

module _ (t : Moment) (us : List ℕ) (w : Word) (s : Source) (o : Narrow s.span) (long : length s.names ≡ 64) where
  risen-within : Missing w (known w s) s.span → within (risen t us w s).span (number w) ≡ true
  risen-within g = reached-within (asked_for t us s.distance) w s o g

  abbrev another : Bool
  another = not (same_host w.name.source t.me)

  rises : RoseSource another s (risen t us w s) (number w)
  rises = rose (asked_for t us s.distance) (λ m. refl) (number w) s long another

  narrow_risen : Narrow (risen t us w s).span
  narrow_risen = rise_narrow (asked_for t us s.distance) (number w) s s.span refl o

  long-risen : length (risen t us w s).names ≡ 64
  long-risen = rise-length (asked_for t us s.distance) (number w) s s.span ∙ long

  took : (new : ℕ → Record) → ((m : ℕ) → is_held (new m).slot ≡ false) → Missing w (known w s) s.span
      → TookSource s (hold (number w) w.cue (rise_with new (number w) s s.span)) (number w) w.cue
  took new bare g = took_risen new bare (number w) s long o (ap is_closed g.span) (reached-within new w s o g) w.cue

  -- a record with its cue as it was
  quiets : (s' : Source) → Narrow s'.span → within s'.span (number w) ≡ true → length s'.names ≡ 64 → SameSource s' (quiet_reply t (number w) w.distance s')
  unfolding held_at
  quiets s' n i l = same_record s' (number w) (quieted (known w s') (quiet_after_reply t w.distance)) n i l (any_reply No (known w s').slot (known w s').cue)

  asks : (s' : Source) (k : ℕ) → Narrow s'.span → within s'.span (number w) ≡ true → length s'.names ≡ 64 → held_at s' (number w) ≡ none
      → SameSource s' (set_round t us (number w) k s')
  unfolding held_at held_in_lem
  asks s' k n i l h = same_record s' (number w) (asking (known w s') (request_at t us s'.distance (number w) k)) n i l (sym h)

  lacking : is_held (known w s).slot ≡ false → held_at s (number w) ≡ none
  unfolding held_at
  lacking l = not_held_is (known w s).slot (known w s).cue l

  -- a source that looks the same, where the number is not above last
  stays : (s' : Source) → (another ≡ true → is_above s.span (number w) ≡ false) → SameSource s s' → RoseSource another s s' (number w)
  stays s' low v = same_rose another s s' (number w) o low v

  held_low : is_held (known w s).slot ≡ true → is_above s.span (number w) ≡ false
  held_low h = within_not_above s.span (number w) (held-within s (number w) h)

  -- where a message is ignored, its number is not above last, but for an own one
  ignored_low : (why : Reason) → holdsFor w.says t w (known w s) s.span why ≡ true → another ≡ true → is_above s.span (number w) ≡ false
  ignored_low Crashed g a = clash' g
  ignored_low WrongStatus g a = clash' g
  ignored_low OwnMessage g a = clash' g
  ignored_low NotOpen g a = closed_low s.span (and_both (not (is_data w.says)) (is_closed s.span) g).1
    where
      closed_low : (x : Span) → is_closed x ≡ true → is_above x (number w) ≡ false
      closed_low Closed p = refl
      closed_low (Open first last) p = clash' p
  ignored_low BelowFirst g a = below_not_above s.span (number w) o g
  ignored_low OwnAboveLast g a = clash (sym (and_both (same_host w.name.source t.me) _ (and_both (not (is_data w.says)) _ g).1).0 ∙ not-true (same_host w.name.source t.me) a)
  ignored_low AlreadyHeld g a = held_low (and_both (is_held (known w s).slot) _ (and_both (is_data w.says) _ g).1).0
  ignored_low ReplyWaiting g a = held_low (and_both (is_held (known w s).slot) _ (and_both (not (answered w.says t w (known w s))) _ (and_both (is_request w.says) _ g).1).1).0
  ignored_low ReplyQuiet g a = held_low (and_both (is_held (known w s).slot) _ (and_both (is_request w.says) _ g).1).0
  ignored_low RequestQuiet g a = not-true (is_above s.span (number w)) (and_both (not (is_above s.span (number w))) _ (and_both (not (is_held (known w s).slot)) _ (and_both (is_request w.says) _ g).1).1).0
  ignored_low NoFetch g a = clash' g

  waits-within : (q : Request) (x : Express) → (known w s).slot ≡ Waiting q x → within s.span (number w) ≡ true
  waits-within q x p = slot_within s (number w) (ap is_empty p)

  replies : is_held (known w s).slot ≡ true → SameSource s (apply t us w Replies s)
  unfolding apply held_at
  replies h = same_record s (number w) (replying (known w s) (reply_due t us w.distance (number w)) w.requester) o (held-within s (number w) h) long
      (any_reply (Due (reply_due t us w.distance (number w)) w.requester) (known w s).slot (known w s).cue)

  pub seen : (d : Decision) → Grounds t w (known w s) s.span d → Seen (hands d) another w s (apply t us w d s)
  unfolding Grounds Seen hands apply
  seen (Ignores why) g = stays s (ignored_low why g) (same_refl_source s)
  seen Opens g = took_same (took_opened s (number w) w.cue g.1 long) (origin-same w s)
  seen Takes g = took (asked_by_data t us s) (express_bare t us s) g.1
  seen Repairs g =
      let held = hold (number w) w.cue (risen t us w s) in
      let hushed = quiet_reply t (number w) w.distance held in
      let sized = stored_length (risen t us w s) (number w) (holding (record_at (risen t us w s) (number w)) w.cue) ∙ long-risen in
      took_same (took_same (took (asked_for t us s.distance) (λ m. refl) g.1.missing) (quiets held narrow_risen (risen-within g.1.missing) sized)) (paired_same w hushed)
  seen Hushes g =
      let hushed = quiet_reply t (number w) w.distance s in
      rose_same (stays hushed (λ _. held_low g.1) (quiets s o (held-within s (number w) g.1) long)) (paired_same w hushed)
  seen Replies g = stays _ (λ _. held_low g.1.held) (replies g.1.held)
  seen Learns g =
      let x = risen t us w s in
      let i = risen-within g.1.missing in
      rose_same rises (asks x 2 narrow_risen i long-risen (rises.holding (number w) (within_not_below x.span (number w) i) ∙ lacking g.1.missing.lacks))
  seen (BacksOff k) g =
      let i = waits-within g.1.request g.1.express g.1.waits in
      stays _ (λ _. within_not_above s.span (number w) i) (asks s (next_round k) o i long (lacking (ap is_held g.1.waits)))
  seen Clashes g = stays s (λ _. held_low g.1) (same_refl_source s)
  seen Expresses g = stays _ (λ _. held_low g.1) (quiets s o (held-within s (number w) g.1) long)

-- ---- the book: whether the cue is handed out, from the word, first and last, and what is known of the name
abbrev pub is_repairing : Says → Bool
is_repairing Data = false
is_repairing Rqst = false
is_repairing Repl = true
is_repairing Xprs = false

abbrev word_takes : Says → Bool → Span → ℕ → Bool → Bool
word_takes says own x n held = (is_data says || (is_repairing says && not (is_closed x))) && (not own && (not (is_below x n) && not held))

-- a request is never handed out
asked : (says : Says) (a b : Bool) → is_request says ≡ true → (is_data says || (is_repairing says && a)) && b ≡ false
asked Data a b k = clash' k
asked Rqst a b k = refl
asked Repl a b k = clash' k
asked Xprs a b k = refl

module _ (t : Moment) (w : Word) (r : Record) (x : Span) where
  abbrev own : Bool
  own = same_host w.name.source t.me

  abbrev book : Bool
  book = word_takes w.says own x (number w) (is_held r.slot)

  here : Missing w r x → (is_closed x ≡ false) × (is_below x (number w) ≡ false)
  here g = (ap is_closed g.span, ap (λ (y : Span). is_below y (number w)) g.span ∙ le-ltb (number w) g.first.0 g.least)

  right : (d : Decision) → Grounds t w r x d → (hands d ≡ true → own ≡ false) → (x ≡ Closed → is_held r.slot ≡ false) → book ≡ hands d
  unfolding Grounds hands
  right (Ignores Crashed) g mine bare = clash' g
  right (Ignores WrongStatus) g mine bare = clash' g
  right (Ignores OwnMessage) g mine bare = clash' g
  right (Ignores NotOpen) g mine bare = let a = and_both (not (is_data w.says)) (is_closed x) g in simp (not-true (is_data w.says) a.0, a.1, and-false)
  right (Ignores BelowFirst) g mine bare = simp (g, and-false)
  right (Ignores OwnAboveLast) g mine bare = let a = and_both (not (is_data w.says)) _ g in simp ((and_both own _ a.1).0, and-false)
  right (Ignores AlreadyHeld) g mine bare = simp ((and_both (is_held r.slot) _ (and_both (is_data w.says) _ g).1).0, and-false)
  right (Ignores ReplyWaiting) g mine bare = asked w.says _ _ (and_both (is_request w.says) _ g).0
  right (Ignores ReplyQuiet) g mine bare = asked w.says _ _ (and_both (is_request w.says) _ g).0
  right (Ignores RequestQuiet) g mine bare = asked w.says _ _ (and_both (is_request w.says) _ g).0
  right (Ignores NoFetch) g mine bare = clash' g
  right Opens g mine bare = rw (g.0, g.1, bare g.1, mine refl)
  right Takes g mine bare = let a = here g.1 in rw (g.0, a.1, g.1.lacks, mine refl)
  right Repairs g mine bare = let a = here g.1.missing in rw (g.0, a.0, a.1, g.1.missing.lacks, mine refl)
  right Hushes g mine bare = simp (g.1, and-false)
  right Replies g mine bare = asked w.says _ _ g.0
  right Learns g mine bare = asked w.says _ _ g.0
  right (BacksOff k) g mine bare = asked w.says _ _ g.0
  right Clashes g mine bare = simp (g.1, and-false)
  right Expresses g mine bare = asked w.says _ _ (ap is_request g.0)

-- ---- the lift
module _ (says : Says) (m : Meaning) (e : End) where
  -- a message about a name brings its number
  brought_as : is_about_name m ≡ true → {e' : End} → Rose (brought_of (source m) (message_name m).number.0) e e' → Rose (brought_to m) e e'
  unfolding brought_to
  brought_as about r = record {
    host = r.host;
    status = r.status;
    next = r.next;
    firsts = r.firsts;
    lasts = λ j hj d. rw about (r.lasts j hj d);
    up = r.up;
    holding = r.holding;
  }

  -- the source has taken the cue and the answer is Got, or it has risen and the answer is a quiet one
  lifted : source m < length e.sources → Narrows e → is_about_name m ≡ true → heeds e.host.0 e m ≡ true → (b : Bool) (s : Source) (a : Effect)
      → Seen b (not (same_host (message_name m).source e.host)) (word_of says m e) (source_at e (message_name m).source) s
      → (b ≡ true → a ≡ Got (message_name m) (message_cue m)) → (b ≡ false → (e' : End) → Rose (brought_to m) e e' → QuietBy (Rose (brought_to m) e) e (give a e'))
      → takes e.host.0 e m ≡ b → Hears e.host.0 e m (give a (with_source e (message_name m).source s))
  unfolding Seen
  lifted there o about heard true s a v got quiet x = record {
    hands = λ _. (got refl, refl, took_source e (message_name m).source s there (number (word_of says m e)) (message_cue m) v);
    brings = λ y. clash (sym x ∙ y);
    else = λ y. clash (sym heard ∙ y);
  }
  lifted there o about heard false s a v got quiet x = record {
    hands = λ y. clash (sym y ∙ x);
    brings = λ _ _. quiet refl _ (brought_as about (rose_source e (message_name m).source s there (number (word_of says m e)) o v));
    else = λ y. clash (sym heard ∙ y);
  }

-- what the book asks, in the word's terms
some_open : (x : Span) → is_some (first_in x) ≡ not (is_closed x)
unfolding is_some first_in
some_open Closed = refl
some_open (Open first last) = refl

least : (x : Span) (n : ℕ) → not_below (first_in x) n ≡ not (is_below x n)
unfolding not_below first_in
least Closed n = refl
least (Open first last) n = by_order n first.0
    (λ l. lt-leb first.0 n l ∙ sym (ap not (lt-ltb n first.0 l)))
    (λ l. le-leb first.0 n l ∙ sym (ap not (le-ltb n first.0 l)))

some-held : (x : Slot) (c : List ℕ) → is_some (held_in_lem x c) ≡ is_held x
unfolding is_some held_in_lem
some-held Empty c = refl
some-held (Held reply) c = refl
some-held (Waiting q x) c = refl

eqb-turn : (a b : ℕ) → eqb a b ≡ eqb b a
eqb-turn a b = by_test (eqb b a) (λ t. eq-eqb a b (sym (eqb-true b a t)) ∙ sym t) (λ t. eqb_flip b a t ∙ sym t)

module _ (says : Says) (m : Meaning) (about : is_about_name m ≡ true) (original : is_original m ≡ is_data says) (repair : is_repair m ≡ is_repairing says)
    (e : End) (f : Facts e) (us : List ℕ) (member : is_member e.status ≡ true) (looped : eqb m.sender.0 e.host.0 ≡ false)
    (hs : source m < 8) (data-other : says ≡ Data → same_host (message_name m).source e.host ≡ false) where
  abbrev t : Moment
  t = moment_of e

  abbrev w : Word
  w = word_of says m e

  abbrev s : Source
  s = source_at e (message_name m).source

  takes_word : takes e.host.0 e m ≡ book t w (known w s) s.span
  unfolding takes fresh first_at holds held_at
  takes_word = rw (original, repair, looped, member, some_open s.span, least s.span (number w), some-held (known w s).slot (known w s).cue, eqb-turn e.host.0 (source m))

  -- what is handed out is another's
  mine : (d : Decision) → Grounds t w (known w s) s.span d → hands d ≡ true → same_host (message_name m).source e.host ≡ false
  unfolding Grounds hands
  mine (Ignores why) g h = clash' h
  mine Opens g h = data-other g.0
  mine Takes g h = data-other g.0
  mine Repairs g h = wanted_other t w s.pair (known w s) s.span (λ i. rw (at-inside s (number w) i) (f.records (source m) (number w) hs i)) g.1
  mine Hushes g h = clash' h
  mine Replies g h = clash' h
  mine Learns g h = clash' h
  mine (BacksOff k) g h = clash' h
  mine Clashes g h = clash' h
  mine Expresses g h = clash' h

  closed_bare : s.span ≡ Closed → is_held (known w s).slot ≡ false
  closed_bare p = ap (λ (r : Record). is_held r.slot) (at_outside s (number w) (ap (λ (x : Span). within x (number w)) p))

  -- the answer: Got with the message's name and cue; or one that leaves the output alone, or puts out the cue that is held under the name
  got : (d : Decision) → hands d ≡ true → effect_of t w (known w s) d ≡ Got (message_name m) (message_cue m)
  unfolding hands effect_of
  got (Ignores why) h = clash' h
  got Opens h = refl
  got Takes h = refl
  got Repairs h = refl
  got Hushes h = clash' h
  got Replies h = clash' h
  got Learns h = clash' h
  got (BacksOff k) h = clash' h
  got Clashes h = clash' h
  got Expresses h = clash' h

  abbrev Silent : Effect → Type 0
  Silent a = (e' : End) → Rose (brought_to m) e e' → QuietBy (Rose (brought_to m) e) e (give a e')

  untouched : (a : Effect) → class_of a ≡ Untouched → Silent a
  untouched a q e' v = untouched_quiet (Rose (brought_to m) e) e e' a q v

  silent : (d : Decision) → Grounds t w (known w s) s.span d → hands d ≡ false → Silent (effect_of t w (known w s) d)
  unfolding hands effect_of Grounds holds held_at
  silent (Ignores why) g h = untouched Ignored refl
  silent Opens g h = clash h
  silent Takes g h = clash h
  silent Repairs g h = clash h
  silent Hushes g h = untouched Done refl
  silent Replies g h = untouched Done refl
  silent Learns g h = untouched Done refl
  silent (BacksOff k) g h = untouched Done refl
  silent Clashes g h = untouched (Clash w.name) refl
  silent Expresses g h = λ e' v.
      let there = held-there e f (message_name m) g.1 in
      carrying_quiet (Rose (brought_to m) e) e e' (repair_message t w.name w.requester (known w s).cue) refl
      (cue-fits us e f (message_name m) there REPL w.requester g.1) (held-is (known w s).slot (known w s).cue g.1) v

  pub word_hears : Hears e.host.0 e m (word_step us says m e)
  unfolding step_at heeds
  word_hears =
      let d = decide t w s in
      let g = grounds t w (known w s) s.span in
      lifted says m e (omega (arith, f.sources)) (λ k hk. narrow (get_or e.sources k no_source).span (f.spans k hk)) about (rw (member, looped)) (hands d) (apply t us w d s) (effect_of t w (known w s) d)
      (seen t us w s (narrow s.span (f.spans (source m) hs)) (f.names (source m) hs) d g) (got d) (silent d g)
      (takes_word ∙ right t w (known w s) s.span d g (mine d g) closed_bare)
