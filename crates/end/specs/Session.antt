-- What a member does with another end's SESS: steps on single sources, one for each report and one for the sender. Document 01,
-- "Events": SESS.
use Rattle.std.specs.Prelude.{ℕ, ◌+◌, ◌-◌, cond, not, ◌&&◌, List, [], ◌∷◌, leb}
use Rattle.numbers.specs.Bits.{with_bit}
use Rattle.message.specs.declared.Host.{Host}
use Rattle.message.specs.declared.Report.{Report}
use Rattle.message.specs.declared.Echo.{Echo}
use Rattle.message.specs.Message.{Meaning}
use Rattle.message.specs.Question.{same_host}
use Rattle.end.specs.Parts.{At}
use Rattle.end.specs.declared.Source.{Source}
use Rattle.end.specs.declared.End.{End}
use Rattle.end.specs.declared.Moment.{Moment}
use Rattle.end.specs.State.{with_distance, with_heard, on_source}
use Rattle.end.specs.Records.{is_above}
use Rattle.end.specs.Round.{half_trip}
use Rattle.end.specs.Names.{rise}
use Rattle.end.specs.Answer.{Done, Step, give}

-- "For each report of another, opened source above its last, the new numbers get round 1 and last rises."
abbrev pub reported_source : Moment → List ℕ → Report → Source → Source
reported_source t us r s =
    cond (not (same_host r.source t.me) && is_above s.span r.last.0) (rise t us r.last.0 s s.span) s

unfoldable pub all_reported : Moment → List ℕ → List Report → End → End
all_reported t us [] e = e
all_reported t us (r ∷ rs) e = all_reported t us rs (on_source e r.source (reported_source t us r))

-- "an echo of oneself, by that echo's stamp and held ticks, with e = clock − stamp − held ≥ 0 sets the distance to the sender to
-- floor(e/8), brought into 1..1000", which document 02, P2, rounds up: the distance after the echoes, from what it was
unfoldable pub measured : Host → ℕ → List Echo → ℕ → ℕ
measured me clock [] d = d
measured me clock (x ∷ xs) d =
    measured me clock xs (cond (same_host x.host me && leb (x.stamp + x.held) clock) (half_trip (clock - (x.stamp + x.held))) d)

-- the sources that a session message reported: document 02, P9, "the other hosts whose last heard session message since joining reported that
-- source"
unfoldable pub reported_after : ℕ → List Report → ℕ
reported_after sources [] = sources
reported_after sources (r ∷ rs) = reported_after (with_bit sources r.source.0) rs

abbrev pub reported_in : List Report → ℕ
reported_in rs = reported_after 0 rs

-- the sender's source: its distance after the echoes; "The sender's stamp is kept as heard now.", and beside it what the message reported
abbrev pub heard_from : Moment → Meaning → Source → Source
heard_from t m s =
    with_heard (with_distance s (measured t.me t.clock m.echoes s.distance)) (At m.stamp t.clock (reported_in m.reports))

-- "After that, an echo .."; "SESS: Done."
unfoldable pub session_of : Moment → List ℕ → Meaning → End → Step
session_of t us m e = give Done (on_source (all_reported t us m.reports e) m.sender (heard_from t m))
