use mathlib.Core.Path.{ap, ◌∙◌}
use Rattle.keeping.specs.Kept.{kept_by}
use Rattle.keeping.proofs.KeptLaws.{sent-numbered, sent_unread, not-accepted}
use Rattle.keeping.proofs.sent_line.Goals as goal

-- `keeping::sent_line` meets its contract: by the reader's verdict.
pub returns-in-Accepted : goal.returns-in-Accepted
returns-in-Accepted c =
    ap (λ l. kept_by l.said l) c.numbered_line.ensures ∙ sent-numbered c.read-reading.result _ _ _ c.read-reading.ensures.value c.in-Accepted.is

pub returns-in_default : goal.returns-in_default
returns-in_default c = sent_unread c.read-reading.result _ _ _ c.read-reading.ensures.value (not-accepted _ c.in_default.not-Accepted)
