-- One name that opens every definition that a list is computed with: those of the crate cases, its tests, and those of the crate recovery.
use Prim.Native.Nat.{ℕ}
use Rattle.guarantees.specs.Arrivals.{is_about, asks}
use Rattle.cases.proofs.Opened.{opened}
use Rattle.cases.proofs.Allowed.{tests}
use Rattle.recovery.specs.Recovery.{lookback, reply_time, answer_time}
use Rattle.recovery.specs.Losses.{factor_sum}
use Rattle.recovery.specs.Lists.{calls_of}

unfoldable pub computed : ℕ
unfolding opened tests is_about asks lookback reply_time answer_time factor_sum calls_of
computed = 0
