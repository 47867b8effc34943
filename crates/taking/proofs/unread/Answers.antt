-- `taking::unread` meets its contract: nothing is refused, beside a blank message.
use Rattle.message.specs.declared.Verdict.TheVariants.{Accepted}
use Rattle.taking.proofs.unread.Goals as goal

pub returns : goal.returns
returns c = (λ i. record { verdict = Accepted; message = c.blank.ensures i })
