-- `display_window::lowest_missing` meets its contract: the place is one of trail..lead.
use Rattle.std.proofs.Common.{sym, ◌∙◌, arith}
use Rattle.display_window.proofs.SetLaws.{clear-below}
use Rattle.display_window.proofs.lowest_missing.Goals as goal

pub overflow_add-result : goal.overflow_add-result
overflow_add-result c =
    let low = clear-below _ _ _ (sym c.lowest_clear.ensures ∙ c.in_ok-place.was) in
    omega (arith, low, c.width.ensures.result_bound)

pub overflow_cast-result-2 : goal.overflow_cast-result-2
overflow_cast-result-2 c =
    let low = clear-below _ _ _ (sym c.lowest_clear.ensures ∙ c.in_ok-place.was) in
    omega (arith, low, c.width.ensures.result_bound)
