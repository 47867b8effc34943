-- Why a member ignores a message, by what is decided on it or by the test of the kinds 22 and 23, is the first of document 02's reasons that
-- holds.
use mathlib.Core.Path.{◌≡◌, refl, sym, ap, ◌∙◌}
use Prim.Native.Nat.{ℕ}
use mathlib.Core.Bool.{Bool, true, false, cond, not, ◌&&◌, ◌||◌}
use mathlib.Core.Option.{some}
use lib.Dec.{eqb}
use borrow.Author.Tests.{eqb-true}
use Rattle.message.specs.Message.{DATA, RQST, REPL, XPRS, FTCH, LATE, Meaning}
use Rattle.message.specs.declared.NameEntry.{NameEntry}
use Rattle.end.specs.declared.Says.{Says}
use Rattle.end.specs.declared.Says.TheVariants.{Data, Rqst, Repl, Xprs}
use Rattle.end.specs.declared.Record.{Record}
use Rattle.end.specs.Parts.{Span, Closed, Open}
use Rattle.end.specs.declared.Word.{Word}
use Rattle.end.specs.declared.Moment.{Moment}
use Rattle.end.specs.declared.Source.{Source}
use Rattle.end.specs.declared.End.{End}
use Rattle.end.specs.State.{source_at, distance_to, moment_of}
use Rattle.end.specs.Decide.{known, decide_data, reached, decide_request, decide_express, decide_repair, decide_as, decide}
use Rattle.end.specs.Reasons.{reason_of}
use Rattle.end.specs.Arrival.{message_name, message_host, message_cue, requester_in, word_of, named_in}
use Rattle.end.specs.Fetch.{may_answer, may_hand}
use Rattle.end.specs.Why.{no_fetch_in}
use Rattle.end.proofs.Tools.{by_test}
use Rattle.end.proofs.ReasonLaws.{or_none, later, or_else, if_no_fetch, later_decided}
use Rattle.says.specs.Said.{is_named, entry_in}
use Rattle.candidates.specs.Candidates.{answers, hands}
use Rattle.receive.specs.Reason.{named_reason, fetch_reason}

-- the word of a message, with any distance to who asked
abbrev word_away : Says → Meaning → ℕ → Word
word_away says m d = record {
  says = says;
  name = message_name m;
  host = message_host m;
  sender = m.sender;
  requester = requester_in says m;
  distance = d;
  cue = message_cue m;
}

-- a decision does not look at the distance
apart : (t : Moment) (m : Meaning) (d k : ℕ) (r : Record) (says : Says) (x : Span)
    → decide_as says t (word_away says m d) r x ≡ decide_as says t (word_away says m k) r x
unfolding decide_as decide_data reached decide_request decide_express decide_repair
apart t m d k r Data Closed = refl
apart t m d k r Data (Open first last) = refl
apart t m d k r Rqst Closed = refl
apart t m d k r Rqst (Open first last) = refl
apart t m d k r Repl Closed = refl
apart t m d k r Repl (Open first last) = refl
apart t m d k r Xprs Closed = refl
apart t m d k r Xprs (Open first last) = refl

module _ (m : Meaning) (e : End) where
  decided : (says : Says) → reason_of (decide (moment_of e) (word_away says m 0) (source_at e (message_name m).source)) ≡ later e (some (word_of says m e))
  decided says =
      let s = source_at e (message_name m).source in
      ap reason_of (apart (moment_of e) m 0 (distance_to e (requester_in says m)) (known (word_of says m e) s) says s.span)
      ∙ sym (later_decided e (word_of says m e))

  -- a message with a word is of neither of the kinds 22 and 23
  worded : (kind : ℕ) (says : Says) → eqb m.kind kind ≡ true → eqb kind FTCH ≡ false → eqb kind LATE ≡ false
      → reason_of (decide (moment_of e) (word_away says m 0) (source_at e (message_name m).source))
      ≡ or_else (later e (some (word_of says m e))) (if_no_fetch (no_fetch_in m e))
  worded kind says k f l =
      let other : (b : ℕ) → eqb kind b ≡ false → eqb m.kind b ≡ false = λ b h. ap (λ (n : ℕ). eqb n b) (eqb-true m.kind kind k) ∙ h in
      rw (other FTCH f, other LATE l) (decided says ∙ sym (or_none (later e (some (word_of says m e)))))

  pub first-later : cond (is_named m.kind) (named_reason m e) (fetch_reason m e) ≡ or_else (later e (named_in m e)) (if_no_fetch (no_fetch_in m e))
  first-later = by_test (eqb m.kind DATA) (λ d. rw d (worded DATA Data d refl refl))
      (λ d. by_test (eqb m.kind RQST) (λ r. rw (d, r) (worded RQST Rqst r refl refl))
      (λ r. by_test (eqb m.kind REPL) (λ p. rw (d, r, p) (worded REPL Repl p refl refl))
      (λ p. by_test (eqb m.kind XPRS) (λ x. rw (d, r, p, x) (worded XPRS Xprs x refl refl)) (λ x. rw (d, r, p, x)))))

  -- ---- the kinds 22 and 23, as the code tests them: a is whether the one may be answered, h whether the other may be handed out
  or_not : (b : Bool) → b ≡ (b || false)
  or_not true = refl
  or_not false = refl

  tested : (a h : Bool) → cond (eqb m.kind FTCH) (not a) (cond (eqb m.kind LATE) (not h) false)
      ≡ ((eqb m.kind FTCH && not a) || (eqb m.kind LATE && not h))
  tested a h =
      by_test (eqb m.kind FTCH)
      (λ f. rw (eqb-true m.kind FTCH f) (or_not (not a)))
      (λ f. rw f (by_test (eqb m.kind LATE) (λ l. rw l) (λ l. rw l)))

  pub no_fetch_lem : (x : NameEntry) (a h : Bool) → x ≡ entry_in m → a ≡ answers e.host x (source_at e x.name.source)
      → h ≡ hands e.host x m.sender (source_at e x.name.source)
      → no_fetch_in m e ≡ ((eqb m.kind FTCH && not a) || (eqb m.kind LATE && not h))
  unfolding may_answer may_hand
  no_fetch_lem x a h p q r =
      let S : NameEntry → Source = λ y. source_at e y.name.source in
      let may = q ∙ ap (λ (y : NameEntry). answers e.host y (S y)) p in
      let hand = r ∙ ap (λ (y : NameEntry). hands e.host y m.sender (S y)) p in
      rw (may, hand) (tested (answers e.host (entry_in m) (S (entry_in m))) (hands e.host (entry_in m) m.sender (S (entry_in m))))
