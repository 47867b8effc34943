-- `entries::put_rolled` meets its contract: a date that exists has a day after it, another is refused.
use native.Mathlib.Omega.{arith}
use mathlib.Core.Path.{sym, ◌∙◌}
use Rattle.answers.proofs.PutLaws.{put_both, put_same}
use Rattle.entries.proofs.PrintLaws.{rolled_line, refused-roll}
use Rattle.entries.proofs.put_rolled.Goals as goal

pub returns-then-exists : goal.returns-then-exists
returns-then-exists c =
    let p = put_both {most = 32} c.put_date-end.ensures c.text.ensures (omega arith) (omega arith) in
    put_same p (rolled_line _ _ (sym c.exists.ensures ∙ c.if-exists.true) c.day_after-next.ensures)

pub returns-else-exists : goal.returns-else-exists
returns-else-exists c =
    put_same c.put_refused.ensures (refused-roll _ (sym c.exists.ensures ∙ c.if-exists.false))
