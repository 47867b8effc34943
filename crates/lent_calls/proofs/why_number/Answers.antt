use mathlib.Core.Path.{ap, ◌∙◌}
use Rattle.lent_answer.specs.Number.{of_kind, REASON}
use Rattle.lent_calls.proofs.why_number.Goals as goal

-- `lent_calls::why_number` meets its contract, case by case.
pub returns-in-Because : goal.returns-in-Because
returns-in-Because c =
    rw c.in-Because.is (c.of_kind.ensures ∙ ap (of_kind REASON) c.reason_number.ensures.0)
