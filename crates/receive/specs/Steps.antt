-- A message as steps on single sources: a step for each report of a SESS, and then one on the source that the message is about, which
-- gives its effect. A message of one's own, which the network has looped, steps nothing. `whole` (proofs/Whole.antt) shows that this is
-- `arrival_of` of the crate end.
use Rattle.std.specs.Prelude.{ℕ, cond, ◌||◌, List, [], eqb}
use Rattle.message.specs.declared.Host.{Host}
use Rattle.message.specs.declared.Report.{Report}
use Rattle.message.specs.Message.{FTCH, LATE, ANNC, Meaning}
use Rattle.message.specs.Question.{same_host}
use Rattle.end.specs.declared.Moment.{Moment}
use Rattle.end.specs.declared.Source.{Source}
use Rattle.end.specs.Answer.{Effect, Done, Ignored}
use Rattle.end.specs.Decide.{decide, apply}
use Rattle.end.specs.Session.{heard_from}
use Rattle.end.specs.Arrival.{message_cue}
use Rattle.says.specs.Said.{is_named, is_about, entry_in, word_in}
use Rattle.heed.specs.Step.{decided_effect}
use Rattle.fetch.specs.Steps.{answered_effect, late_effect, late_source}

-- the reports that are heard
abbrev pub reports_for : Host → Meaning → List Report
reports_for me m = cond (same_host m.sender me || is_about m.kind) [] m.reports

-- of a message that has no word: its effect, and what it leaves of the source
abbrev pub unnamed_effect : Moment → Meaning → Source → Effect
unnamed_effect t m s =
    cond (eqb m.kind FTCH) (answered_effect t (entry_in m) m.sender s)
    (cond (eqb m.kind LATE) (late_effect t.me (entry_in m) m.sender (message_cue m) s)
    Done)

abbrev pub unnamed_source : Moment → Meaning → Source → Source
unnamed_source t m s =
    cond (eqb m.kind FTCH) s
    (cond (eqb m.kind LATE) (late_source t.me (entry_in m) m.sender s)
    (cond (eqb m.kind ANNC) s
    (heard_from t m s)))

-- its effect, and what it leaves of the source
unfoldable pub effect_on : Moment → ℕ → Meaning → Source → Effect
effect_on t d m s =
    cond (same_host m.sender t.me) Ignored
    (cond (is_named m.kind) (decided_effect t (word_in m d) s)
    (unnamed_effect t m s))

unfoldable pub left_on : Moment → List ℕ → ℕ → Meaning → Source → Source
left_on t us d m s =
    cond (same_host m.sender t.me) s
    (cond (is_named m.kind) (apply t us (word_in m d) (decide t (word_in m d) s) s)
    (unnamed_source t m s))
