-- The call that opens an end again after a restart, with the clock and the next own number that were stored: an idle end. It asks an opening's
-- questions, 12, 13 and 14, then whether the clock is one, 4, and whether the next number is at most 65,536, 7. Refused, it gives beside the
-- number what a refused opening gives.
use Rattle.std.specs.Prelude.{ℕ, zero, suc, List, [], ◌∷◌, ◌++◌, leb}
use Rattle.message.specs.declared.Host.{Host}
use Rattle.message.specs.Entry.{as_host}
use Rattle.message.specs.Limit.{number_limit}
use Rattle.message.specs.declared.Verdict.{Verdict}
use Rattle.message.specs.declared.Verdict.TheVariants.{Accepted, Probe, Refused}
use Rattle.message.specs.Question.{Question, ask, first_no, ticks_in, verdict_for}
use Rattle.end.specs.declared.Params.{Params}
use Rattle.end.specs.declared.Status.TheVariants.{Crashed}
use Rattle.end.specs.declared.End.{End}
use Rattle.end.specs.declared.Opened.{Opened}
use Rattle.end.specs.State.{fresh_end}
use Rattle.end.specs.Opening.{house_params, open_questions}
use Rattle.end_reopen.specs.Reopen.{reopened}

abbrev pub reopen_questions : Host → Params → ℕ → ℕ → List Question
reopen_questions me p clock next = open_questions me p ++ (ask (ticks_in clock) 4 ∷ ask (leb next number_limit) 7 ∷ [])

unfoldable pub reopen_refusal : Host → Params → ℕ → ℕ → ℕ
reopen_refusal me p clock next = first_no (reopen_questions me p clock next)

-- what an opening's own verdict becomes by the two questions after them
abbrev pub verdict_with : Verdict → ℕ → ℕ → Verdict
verdict_with Accepted clock next = verdict_for (first_no (ask (ticks_in clock) 4 ∷ ask (leb next number_limit) 7 ∷ []))
verdict_with Probe clock next = Probe
verdict_with (Refused k) clock next = Refused k

abbrev pub reopened_for : ℕ → Host → Params → ℕ → ℕ → End
reopened_for zero me p clock next = reopened me p clock next
reopened_for (suc k) me p clock next = fresh_end (as_host 0) house_params Crashed

unfoldable pub reopening_of : Host → Params → ℕ → ℕ → Opened
reopening_of me p clock next =
    record { verdict = verdict_for (reopen_refusal me p clock next); end = reopened_for (reopen_refusal me p clock next) me p clock next }
