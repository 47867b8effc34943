-- `display::stepped` meets its contract: there is a missing number, or there is none.
use mathlib.Core.Path.{sym, ◌∙◌}
use Rattle.display.proofs.CallLaws.{missing_at, missing_no, step-shows, step_rests}
use Rattle.display.proofs.stepped.Goals as goal

pub returns-in-Some : goal.returns-in-Some
returns-in-Some c =
    let found = missing_at _ _ (sym c.lowest_missing.ensures ∙ c.in-Some.is) in let it = step-shows c.args.d _ _ _ _ found (c.requested.ensures.value, c.requested.ensures.out_after) in
    record { value = it.0; out_after = it.1 }

pub returns-in-None : goal.returns-in-None
returns-in-None c =
    let none = missing_no _ (sym c.lowest_missing.ensures ∙ c.in-None.is) in let it = step_rests c.args.d _ _ none c.nothing_missing.ensures in
    record { value = it.0; out_after = it.1 }
