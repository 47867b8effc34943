-- Why a member ignores a message, as the code finds it: by what is decided on it, or of the kinds 22 and 23 by their own test. That this is
-- the first of document 02's reasons that holds is the crate end's (proofs/ReasonLaws.antt).
use Rattle.std.specs.Prelude.{cond}
use Rattle.std.proofs.Math.Option.{Option, none, some}
use Rattle.message.specs.Message.{Meaning}
use Rattle.message.specs.Question.{same_host}
use Rattle.end.specs.declared.Reason.{Reason}
use Rattle.end.specs.declared.Reason.TheVariants.{OwnMessage, NoFetch}
use Rattle.end.specs.declared.End.{End}
use Rattle.end.specs.State.{source_at, moment_of}
use Rattle.end.specs.Decide.{decide}
use Rattle.end.specs.Reasons.{reason_of}
use Rattle.end.specs.Arrival.{message_name}
use Rattle.end.specs.Why.{no_fetch_in}
use Rattle.says.specs.Said.{is_named, word_in}

-- the distance to the requester is not looked at, and stands as 0
abbrev pub named_reason : Meaning → End → Option Reason
named_reason m e = reason_of (decide (moment_of e) (word_in m 0) (source_at e (message_name m).source))

-- of a message that has no word
abbrev pub fetch_reason : Meaning → End → Option Reason
fetch_reason m e = cond (no_fetch_in m e) (some NoFetch) none

abbrev pub reason_for : Meaning → End → Option Reason
reason_for m e = cond (same_host m.sender e.host) (some OwnMessage) (cond (is_named m.kind) (named_reason m e) (fetch_reason m e))
