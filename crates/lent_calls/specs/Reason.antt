-- The reason call on lent bytes (document 02, P3): the refusal's number, or the reason's in the order of its list, 0 where there is none.
use Rattle.std.specs.Prelude.{ℕ, cond, List, leb}
use Rattle.end.specs.declared.Why.{Why}
use Rattle.end.specs.declared.Why.TheVariants.{Refused, Because, NoReason}
use Rattle.end.specs.Event.{action_of}
use Rattle.end.specs.Why.{why_of, reason_number}
use Rattle.lent_answer.specs.Number.{of_kind, REASON, NO-EVENT}
use Rattle.lent_end.specs.State.{end_from, is_state}
use Rattle.lent_calls.specs.Arguments.{name_of, cue_of, event_of}

abbrev pub why_number : Why → ℕ
why_number (Refused q) = q
why_number (Because r) = of_kind REASON (reason_number r)
why_number NoReason = of_kind REASON 0

-- an event above 10 is none; `bytes` are the cue of a send and the message of an arrival. Then the bytes' form, 3, and what the call on the
-- end says. Nothing is lent to write
unfoldable pub reason_of : ℕ → ℕ → ℕ → ℕ → List ℕ → List ℕ → ℕ
reason_of clock n source number bytes s =
    cond (leb n 10) (cond (is_state s) (why_number (why_of (end_from s) clock (action_of (event_of n (name_of source number)) (cue_of bytes) bytes))) 3) (of_kind NO-EVENT 0)
