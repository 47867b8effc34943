-- What is known where a thing is decided: the tests that led there, said once for all proofs. The tree of tests is walked here and
-- nowhere else; every other proof about a message goes by the decision, a line each.
use mathlib.Core.Path.{◌≡◌, refl, sym, ap, ◌∙◌}
use Prim.Native.Nat.{ℕ, ◌≤◌, ◌<◌}
use mathlib.Core.Bool.{Bool, true, false, not, ◌&&◌}
use lib.Dec.{ltb, leb}
use borrow.Author.Tests.{ltb-false, leb-true, leb-false, not-false}
use Rattle.message.specs.declared.CueNumber.{CueNumber}
use Rattle.message.specs.Question.{same_host}
use Rattle.message.proofs.QuestionLaws.{and_both}
use Rattle.end.specs.Parts.{Express, Pair, Span, Closed, Open}
use Rattle.end.specs.declared.Request.{Request}
use Rattle.end.specs.declared.Slot.{Slot}
use Rattle.end.specs.declared.Slot.TheVariants.{Empty, Held, Waiting}
use Rattle.end.specs.declared.Record.{Record}
use Rattle.end.specs.declared.Moment.{Moment}
use Rattle.end.specs.declared.Says.{Says}
use Rattle.end.specs.declared.Says.TheVariants.{Data, Rqst, Repl, Xprs}
use Rattle.end.specs.declared.Word.{Word}
use Rattle.end.specs.declared.Reason.{Reason}
use Rattle.end.specs.declared.Reason.TheVariants.{NotOpen, BelowFirst, OwnAboveLast, AlreadyHeld, ReplyWaiting, ReplyQuiet, RequestQuiet}
use Rattle.end.specs.declared.Decision.{Decision}
use Rattle.end.specs.declared.Decision.TheVariants.{Ignores, Opens, Takes, Repairs, Hushes, Replies, Learns, BacksOff, Clashes, Expresses}
use Rattle.end.specs.Records.{is_closed, within, is_below, is_above, is_held, is_no, reply_in}
use Rattle.end.specs.Sound.{record_sound}
pub use Rattle.end.specs.Reasons.{is_data, is_request, answered, is_quiet, holds}
use Rattle.end.specs.Decide.{number, same_cue, at_once, decide_data, reached, decide_reply, decide_round, decide_request, decide_express, decide_repair, decide_as}
use Rattle.end.proofs.Tools.{by_cond, by_test, clash}
use Rattle.end.proofs.RecordLaws.{within_in}
use Rattle.end.proofs.SoundLaws.{own_held}

-- a number of an open source, not below first, whose cue is not held
pub record Missing (w : Word) (r : Record) (x : Span) : Type 0 where
  pub first : CueNumber
  pub last : CueNumber
  pub span : x ≡ Open first last
  pub least : first.0 ≤ number w
  pub lacks : is_held r.slot ≡ false

-- .. and not own above last
pub record Wanted (t : Moment) (w : Word) (r : Record) (x : Span) : Type 0 where
  pub missing : Missing w r x
  pub reached : same_host w.name.source t.me && is_above x (number w) ≡ false

-- a reply may be set: the cue is held, no reply waits, and the reply-quiet time is over
pub record Free (t : Moment) (r : Record) : Type 0 where
  pub held : is_held r.slot ≡ true
  pub none : is_no (reply_in r.slot) ≡ true
  pub over : r.hush ≤ t.clock

-- a request of round k waits whose quiet time is over
pub record Late (t : Moment) (r : Record) (k : ℕ) : Type 0 where
  pub request : Request
  pub express : Express
  pub waits : r.slot ≡ Waiting request express
  pub round : k ≡ request.round
  pub over : request.quiet < t.clock

-- ---- what each decision rests on
unfoldable pub Grounds : Moment → Word → Record → Span → Decision → Type 0
Grounds t w r x (Ignores why) = holds w.says t w r x why ≡ true
Grounds t w r x Opens = (w.says ≡ Data) × (x ≡ Closed)
Grounds t w r x Takes = (w.says ≡ Data) × Missing w r x
Grounds t w r x Repairs = (w.says ≡ Repl) × Wanted t w r x
Grounds t w r x Hushes = (w.says ≡ Repl) × (is_held r.slot ≡ true) × (same_cue w.cue r.cue ≡ true)
Grounds t w r x Replies = (is_request w.says ≡ true) × Free t r
Grounds t w r x Learns = (is_request w.says ≡ true) × Wanted t w r x × (is_above x (number w) ≡ true)
Grounds t w r x (BacksOff k) = (is_request w.says ≡ true) × Late t r k
Grounds t w r x Clashes = (is_request w.says ≡ false) × (is_held r.slot ≡ true) × (same_cue w.cue r.cue ≡ false)
Grounds t w r x Expresses = (w.says ≡ Xprs) × (is_held r.slot ≡ true) × (r.hush ≤ t.clock) × (same_host w.host t.me ≡ true)

module _ (t : Moment) (w : Word) (r : Record) where
  data_known : (x : Span) → w.says ≡ Data → Grounds t w r x (decide_data w r x)
  unfolding Grounds decide_data
  data_known Closed k = (k, refl)
  data_known (Open first last) k =
      let G = Grounds t w r (Open first last) in
      by_cond G (ltb (number w) first.0) (λ a. a)
      (λ a. by_cond G (is_held r.slot) (λ b. by_cond G (same_cue w.cue r.cue) (λ c. λ i. is_data (k i) && (b i && c i)) (λ c. (ap is_request k, b, c)))
      (λ b. (k, record { first = first; last = last; span = refl; least = ltb-false _ _ a; lacks = b })))

  -- what is known once RQST's first line is passed
  reached-known : (x : Span) (d : Decision) → is_data w.says ≡ false
      → ((first last : CueNumber) → x ≡ Open first last → is_below x (number w) ≡ false → same_host w.name.source t.me && is_above x (number w) ≡ false → Grounds t w r x d)
      → Grounds t w r x (reached t w x d)
  unfolding Grounds reached
  reached-known Closed d k f = λ i. not (k i) && true
  reached-known (Open first last) d k f =
      let G = Grounds t w r (Open first last) in
      by_cond G (ltb (number w) first.0) (λ a. a)
      (λ a. by_cond G (same_host w.name.source t.me && ltb last.0 (number w)) (λ b. λ i. not (k i) && b i)
      (λ b. f first last refl a b))

  reply_known : (x : Span) → is_request w.says ≡ true → answered w.says t w r ≡ false → is_held r.slot ≡ true → Grounds t w r x (decide_reply t (reply_in r.slot) r.hush)
  unfolding Grounds decide_reply
  reply_known x k n h =
      let G = Grounds t w r x in
      by_cond G (not (is_no (reply_in r.slot))) (λ a. λ i. k i && (not (n i) && (h i && a i)))
      (λ a. by_cond G (ltb t.clock r.hush) (λ b. λ i. k i && (h i && b i))
      (λ b. (k, record { held = h; none = not-false (is_no (reply_in r.slot)) a; over = ltb-false _ _ b })))

  round-known : (x : Span) → is_request w.says ≡ true → is_held r.slot ≡ false → is_above x (number w) ≡ false → (y : Slot) → r.slot ≡ y → Grounds t w r x (decide_round t y)
  unfolding Grounds decide_round
  round-known x k l u Empty p = λ i. k i && (not (l i) && (not (u i) && is_quiet t.clock (p i)))
  round-known x k l u (Held reply) p = λ i. k i && (not (l i) && (not (u i) && is_quiet t.clock (p i)))
  round-known x k l u (Waiting q y) p =
      by_cond (Grounds t w r x) (leb t.clock q.quiet)
      (λ a. (λ i. k i && (not (l i) && (not (u i) && is_quiet t.clock (p i)))) ∙ a)
      (λ a. (k, record { request = q; express = y; waits = p; round = refl; over = leb-false _ _ a }))

  missing : (x : Span) (first last : CueNumber) → x ≡ Open first last → is_below x (number w) ≡ false → is_held r.slot ≡ false → Missing w r x
  missing x first last p a l =
      record { first = first; last = last; span = p; least = ltb-false _ _ (ap (λ (y : Span). is_below y (number w)) (sym p) ∙ a); lacks = l }

  -- a RQST, or what is treated as one
  request-known : (x : Span) (first last : CueNumber) → is_request w.says ≡ true → answered w.says t w r ≡ false → x ≡ Open first last → is_below x (number w) ≡ false
      → same_host w.name.source t.me && is_above x (number w) ≡ false → Grounds t w r x (decide_request t w r x)
  unfolding Grounds decide_request
  request-known x first last k n p a b =
      let G = Grounds t w r x in
      by_cond G (is_held r.slot) (λ h. reply_known x k n h)
      (λ l. by_cond G (is_above x (number w))
      (λ u. (k, record { missing = missing x first last p a l; reached = b }, u))
      (λ u. round-known x k l u r.slot refl))

  grounds_as : (says : Says) → w.says ≡ says → (x : Span) → Grounds t w r x (decide_as says t w r x)
  unfolding Grounds decide_as decide_repair decide_express
  grounds_as Data k x = data_known x k
  grounds_as Rqst k x = reached-known x (decide_request t w r x) (ap is_data k) (λ first last p a b.
      request-known x first last (ap is_request k) (ap (λ says. answered says t w r) k) p a b)
  grounds_as Xprs k x = reached-known x (decide_express t w r x) (ap is_data k) (λ first last p a b.
      by_cond (Grounds t w r x) (at_once t w r)
      (λ n.
      let named = and_both (same_host w.host t.me) _ n in
      let held = and_both (is_held r.slot) _ named.1 in
      (k, held.0, leb-true r.hush t.clock held.1, named.0))
      (λ n. request-known x first last (ap is_request k) (ap (λ says. answered says t w r) k ∙ n) p a b))
  grounds_as Repl k x = reached-known x (decide_repair w r) (ap is_data k) (λ first last p a b.
      let G = Grounds t w r x in
      by_cond G (is_held r.slot) (λ h. by_cond G (same_cue w.cue r.cue) (λ c. (k, h, c)) (λ c. (ap is_request k, h, c)))
      (λ l. (k, record { missing = missing x first last p a l; reached = b })))

pub grounds : (t : Moment) (w : Word) (r : Record) (x : Span) → Grounds t w r x (decide_as w.says t w r x)
grounds t w r x = grounds_as t w r w.says refl x

-- in a sound state a cue that is wanted is another's: own names up to last are held
pub wanted_other : (t : Moment) (w : Word) (pair : Pair) (r : Record) (x : Span)
    → (within x (number w) ≡ true → record_sound t.me w.name.source pair x (number w) r ≡ true)
    → Wanted t w r x → same_host w.name.source t.me ≡ false
wanted_other t w pair r x sound g = by_test (same_host w.name.source t.me)
    (λ own.
    let n = number w in
    let k = g.missing in
    let not-above : ltb k.last.0 n ≡ false = ap (λ (y : Span). is_above y n) (sym k.span) ∙ sym (ap (λ (b : Bool). b && is_above x n) own) ∙ g.reached in
    let inside : within x n ≡ true = ap (λ (y : Span). within y n) k.span ∙ within_in k.first.0 k.last.0 n k.least (ltb-false k.last.0 n not-above) in
    clash (sym (own_held t.me w.name.source pair x n r (sound inside) inside own) ∙ k.lacks))
    (λ other. other)
