-- The steps of specs/Steps.antt are `arrival_of`: a message of one's own, a message with a word, one of the kinds 22 to 24, and a session message.
use mathlib.Core.Path.{◌≡◌, refl, sym, ap}
use Prim.Native.Nat.{ℕ}
use mathlib.Core.Bool.{Bool, true, false, cond, ◌||◌}
use mathlib.Core.List.{List}
use lib.Dec.{eqb}
use Rattle.message.specs.Message.{DATA, RQST, REPL, XPRS, FTCH, LATE, ANNC, Meaning}
use Rattle.message.specs.Question.{same_host}
use Rattle.end.specs.declared.Says.{Says}
use Rattle.end.specs.declared.Says.TheVariants.{Data, Rqst, Repl, Xprs}
use Rattle.end.specs.declared.End.{End}
use Rattle.end.specs.State.{source_at, distance_to, moment_of, on_source}
use Rattle.end.specs.Answer.{Done, Step, give}
use Rattle.end.specs.Decide.{step_at}
use Rattle.end.specs.Session.{all_reported, session_of}
use Rattle.end.specs.Fetch.{fetched_of, late_of}
use Rattle.end.specs.Arrival.{message_name, word_step, message_step, arrival_of}
use Rattle.end.proofs.Tools.{by_test}
use Rattle.says.specs.Said.{is_named, says_in, asker_in, subject_of}
use Rattle.fetch.proofs.FetchLaws.{unchanged, fetched-is, late_is}
use Rattle.receive.specs.Steps.{reports_for, effect_on, left_on}

-- a choice by the kinds that have a word is one choice
choice : (f : Says → Step) (x : Step) (a b c d : Bool)
    → cond a (f Data) (cond b (f Rqst) (cond c (f Repl) (cond d (f Xprs) x)))
    ≡ cond (a || (b || (c || d))) (f (cond a Data (cond b Rqst (cond c Repl Xprs)))) x
choice f x true b c d = refl
choice f x false true c d = refl
choice f x false false true d = refl
choice f x false false false true = refl
choice f x false false false false = refl

-- and the rest have none
abbrev unnamed_step : List ℕ → Meaning → End → Step
unnamed_step us m e =
    cond (eqb m.kind FTCH) (fetched_of m e)
    (cond (eqb m.kind LATE) (late_of m e)
    (cond (eqb m.kind ANNC) (give Done e)
    (session_of (moment_of e) us m e)))

by_kind : (us : List ℕ) (m : Meaning) (e : End)
    → message_step us m e ≡ cond (is_named m.kind) (word_step us (says_in m.kind) m e) (unnamed_step us m e)
unfolding message_step
by_kind us m e =
    choice (λ says. word_step us says m e) (unnamed_step us m e) (eqb m.kind DATA) (eqb m.kind RQST) (eqb m.kind REPL) (eqb m.kind XPRS)

module _ (us : List ℕ) (m : Meaning) (e : End) where
  -- the distance to who asked, and the end that the reports leave
  abbrev pub away : ℕ
  away = distance_to e (asker_in m)

  abbrev pub reported : End
  reported = all_reported (moment_of e) us (reports_for e.host m) e

  pub whole : arrival_of us m e
      ≡ give (effect_on (moment_of e) away m (source_at reported (subject_of m))) (on_source reported (subject_of m) (left_on (moment_of e) us away m))
  unfolding arrival_of effect_on left_on all_reported session_of step_at
  whole =
      by_test (same_host m.sender e.host)
      (λ own. rw own (ap (give _) (sym (unchanged e (subject_of m)))))
      (λ other. rw (other, by_kind us m e) (by_test (is_named m.kind) (λ named. rw named)
      (λ bare. by_test (eqb m.kind FTCH) (λ f. rw (bare, f) (fetched-is m e))
      (λ f. by_test (eqb m.kind LATE) (λ l. rw (bare, f, l) (late_is m e))
      (λ l. by_test (eqb m.kind ANNC) (λ a. rw (bare, f, l, a) (ap (give _) (sym (unchanged e (message_name m).source))))
      (λ a. rw (bare, f, l, a)))))))
