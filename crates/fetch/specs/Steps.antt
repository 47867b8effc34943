-- The kinds 22 and 23 as the code takes them, each as a step on the one source that the name is of. The crate receive's `whole` shows that they
-- are `fetched_of` and `late_of`.
use Rattle.std.specs.Prelude.{ℕ, cond, List}
use Rattle.message.specs.declared.Host.{Host}
use Rattle.message.specs.declared.NameEntry.{NameEntry}
use Rattle.message.specs.Message.{bytes_of}
use Rattle.end.specs.declared.Moment.{Moment}
use Rattle.end.specs.declared.Source.{Source}
use Rattle.end.specs.Records.{record_at}
use Rattle.end.specs.Messages.{fetched_message}
use Rattle.end.specs.Answer.{Effect, Out, Ignored, Late}
use Rattle.end.specs.Fetch.{hands_late}
use Rattle.candidates.specs.Candidates.{answers, hands}

-- ---- kind 22, with its name, the host in it, and its sender

abbrev pub answered_effect : Moment → NameEntry → Host → Source → Effect
answered_effect t x sender s =
    cond (answers t.me x s) (Out (bytes_of (fetched_message t x.name sender (record_at s x.name.number.0).cue))) Ignored

-- ---- kind 23

abbrev pub late_effect : Host → NameEntry → Host → List ℕ → Source → Effect
late_effect me x sender cue s = cond (hands me x sender s) (Late x.name cue) Ignored

abbrev pub late_source : Host → NameEntry → Host → Source → Source
late_source me x sender s = cond (hands me x sender s) (hands_late x.name.number.0 s) s
