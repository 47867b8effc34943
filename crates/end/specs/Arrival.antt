-- What a member does with a message, by its kind. Document 01, "Events": DATA, RQST, REPL, SESS; document 02, P8, P9 and P11: the kinds 21 to 24.
use Rattle.std.specs.Prelude.{ℕ, cond, List, eqb}
use Rattle.std.proofs.Math.Option.{Option, none, some}
use Rattle.message.specs.declared.Host.{Host}
use Rattle.message.specs.Message.{DATA, RQST, REPL, XPRS, FTCH, LATE, ANNC, Meaning}
use Rattle.message.specs.Question.{same_host}
use Rattle.end.specs.declared.Says.{Says}
use Rattle.end.specs.declared.Says.TheVariants.{Data, Rqst, Repl, Xprs}
use Rattle.end.specs.declared.Word.{Word}
use Rattle.end.specs.declared.End.{End}
use Rattle.end.specs.State.{distance_to, moment_of}
use Rattle.end.specs.Answer.{Done, Ignored, Step, give}
use Rattle.end.specs.Decide.{step_at}
pub use Rattle.end.specs.Messages.{message_name, message_host, message_cue}
use Rattle.end.specs.Session.{session_of}
use Rattle.end.specs.Fetch.{fetched_of, late_of}

-- ---- what a message about a name says

-- who asked: of a RQST or XPRS its sender, of a REPL the host in its name; a DATA has no requester, and no rule reads this of it
abbrev pub requester_in : Says → Meaning → Host
requester_in Data m = m.sender
requester_in Rqst m = m.sender
requester_in Repl m = message_host m
requester_in Xprs m = m.sender

abbrev pub word_of : Says → Meaning → End → Word
word_of says m e = record {
  says = says;
  name = message_name m;
  host = message_host m;
  sender = m.sender;
  requester = requester_in says m;
  distance = distance_to e (requester_in says m);
  cue = message_cue m;
}

-- the word of a message about a name, by its kind; a SESS is about none, the kinds 22 and 23 go by rules of their own (Fetch.antt), and
-- kind 24 tells a member nothing
abbrev pub named_in : Meaning → End → Option Word
named_in m e =
    cond (eqb m.kind DATA) (some (word_of Data m e))
    (cond (eqb m.kind RQST) (some (word_of Rqst m e))
    (cond (eqb m.kind REPL) (some (word_of Repl m e))
    (cond (eqb m.kind XPRS) (some (word_of Xprs m e))
    none)))

-- ---- a message by its kind, at the moment of the end's clock
abbrev pub word_step : List ℕ → Says → Meaning → End → Step
word_step us says m e = step_at (moment_of e) us (word_of says m e) e

-- document 02, P11: "Members answer kind 24 Done"
unfoldable pub message_step : List ℕ → Meaning → End → Step
message_step us m e =
    cond (eqb m.kind DATA) (word_step us Data m e)
    (cond (eqb m.kind RQST) (word_step us Rqst m e)
    (cond (eqb m.kind REPL) (word_step us Repl m e)
    (cond (eqb m.kind XPRS) (word_step us Xprs m e)
    (cond (eqb m.kind FTCH) (fetched_of m e)
    (cond (eqb m.kind LATE) (late_of m e)
    (cond (eqb m.kind ANNC) (give Done e)
    (session_of (moment_of e) us m e)))))))

-- "an arrival whose sender is oneself: Ignored"
unfoldable pub arrival_of : List ℕ → Meaning → End → Step
arrival_of us m e = cond (same_host m.sender e.host) (give Ignored e) (message_step us m e)
