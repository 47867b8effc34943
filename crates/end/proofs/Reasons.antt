-- A message about a name is ignored for the first of document 02's reasons that holds, and only if one does.
use mathlib.Core.Path.{◌≡◌, refl, sym, ap, ◌∙◌}
use mathlib.Core.Bool.{false, ◌&&◌}
use lib.Dec.{ltb, leb}
use Rattle.message.specs.declared.CueNumber.{CueNumber}
use borrow.Author.Tests.{leb-true, le-ltb}
use Rattle.message.specs.Question.{same_host}
use Rattle.message.proofs.QuestionLaws.{and_both}
use Rattle.end.specs.declared.Slot.{Slot}
use Rattle.end.specs.declared.Slot.TheVariants.{Empty, Held, Waiting}
use Rattle.end.specs.declared.Record.{Record}
use Rattle.end.specs.Parts.{Span, Closed, Open}
use Rattle.end.specs.declared.Moment.{Moment}
use Rattle.end.specs.declared.Says.{Says}
use Rattle.end.specs.declared.Says.TheVariants.{Data, Rqst, Repl, Xprs}
use Rattle.end.specs.declared.Word.{Word}
use Rattle.end.specs.Records.{is_held, is_no, reply_in}
use Rattle.end.specs.Decide.{number, same_cue, at_once, decide_data, reached, decide_reply, decide_round, decide_request, decide_express, decide_repair, decide_as}
use Rattle.end.specs.Reasons.{holds, reason_of, name_reasons, first_that, IgnoredForTheFirstReason}
use Rattle.end.proofs.Tools.{by_test, clash}

module _ (t : Moment) (w : Word) (r : Record) where
  Right : Says → Span → Type 0
  Right says x = reason_of (decide_as says t w r x) ≡ first_that (holds says t w r x) name_reasons

  data_right : (x : Span) → (x ≡ Closed → is_held r.slot ≡ false) → Right Data x
  unfolding Right decide_as decide_data
  data_right Closed bare = rw (bare refl)
  data_right (Open first last) bare = by_test (ltb (number w) first.0) (λ a. rw a)
      (λ a. by_test (is_held r.slot) (λ b. by_test (same_cue w.cue r.cue) (λ c. rw (a, b, c)) (λ c. rw (a, b, c))) (λ b. rw (a, b)))

  round-right : (first last : CueNumber) → ltb (number w) first.0 ≡ false → same_host w.name.source t.me && ltb last.0 (number w) ≡ false
      → is_held r.slot ≡ false → ltb last.0 (number w) ≡ false → (y : Slot) → r.slot ≡ y → Right Rqst (Open first last)
  unfolding Right decide_as reached decide_request decide_round
  round-right first last a b l u Empty p = rw (a, b, u, p)
  round-right first last a b l u (Held reply) p = clash (sym (ap is_held p) ∙ l)
  round-right first last a b l u (Waiting q x) p = rw (a, b, u, p) (by_test (leb t.clock q.quiet) (λ d. rw d) (λ d. rw d))

  request-right : (x : Span) → Right Rqst x
  unfolding Right decide_as reached decide_request decide_reply
  request-right Closed = refl
  request-right (Open first last) = by_test (ltb (number w) first.0) (λ a. rw a)
      (λ a. by_test (same_host w.name.source t.me && ltb last.0 (number w)) (λ b. rw (a, b))
      (λ b. by_test (is_held r.slot)
      (λ h. by_test (is_no (reply_in r.slot))
      (λ c. by_test (ltb t.clock r.hush) (λ d. rw (a, b, h, c, d)) (λ d. rw (a, b, h, c, d)))
      (λ c. rw (a, b, h, c)))
      (λ h. by_test (ltb last.0 (number w)) (λ u. rw (a, b, h, u)) (λ u. round-right first last a b h u r.slot refl))))

  -- an XPRS that is not answered at once is a RQST
  express-right : (x : Span) → Right Xprs x
  unfolding Right decide_as reached decide_express
  express-right Closed = refl
  express-right (Open first last) = by_test (ltb (number w) first.0) (λ a. rw a)
      (λ a. by_test (same_host w.name.source t.me && ltb last.0 (number w)) (λ b. rw (a, b))
      (λ b. by_test (at_once t w r)
      (λ n.
      let parts = and_both (same_host w.host t.me) _ n in
      let held = and_both (is_held r.slot) _ parts.1 in
      let over : ltb t.clock r.hush ≡ false = le-ltb t.clock r.hush (leb-true r.hush t.clock held.1) in
      rw (a, b, n, held.0, over))
      (λ n. rw n (request-right (Open first last)))))

  repair-right : (x : Span) → Right Repl x
  unfolding Right decide_as reached decide_repair
  repair-right Closed = refl
  repair-right (Open first last) = by_test (ltb (number w) first.0) (λ a. rw a)
      (λ a. by_test (same_host w.name.source t.me && ltb last.0 (number w)) (λ b. rw (a, b))
      (λ b. by_test (is_held r.slot) (λ h. by_test (same_cue w.cue r.cue) (λ c. rw (a, b, h, c)) (λ c. rw (a, b, h, c))) (λ h. rw (a, b, h))))

  right_as : (says : Says) (x : Span) → (x ≡ Closed → is_held r.slot ≡ false) → Right says x
  right_as Data x bare = data_right x bare
  right_as Rqst x bare = request-right x
  right_as Repl x bare = repair-right x
  right_as Xprs x bare = express-right x

pub ignored_for_the_first_reason : IgnoredForTheFirstReason
unfolding Right
ignored_for_the_first_reason t w r x bare = right_as t w r w.says x bare
