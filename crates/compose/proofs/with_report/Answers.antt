-- `compose::with_report` meets its contract: the span that was matched decides.
use Rattle.compose.proofs.with_report.Goals as goal

pub returns-in-Some : goal.returns-in-Some
returns-in-Some c = rw c.in-Some.is
