-- All of the computed lists.
use Rattle.recovery_cases.specs.OneRound.{OneRoundShown}
use Rattle.recovery_cases.specs.Rounds.{RoundsShown}
use Rattle.recovery_cases.specs.Others.{OthersShown}
use Rattle.recovery_cases.specs.Plays.{PlaysShown}

pub record RowsShown : Type 0 where
  -- one round: `Answered` met, to the tick, and what it supposes of the two ends and the network needed (but for what OneRound.antt names)
  pub one-round : OneRoundShown
  -- `Steady`, `Recovers` and `AfterOutage` met, and what each supposes of its own needed, but the lower part of `Between` after an outage; and the two lists
  -- that starve the asker though the two ends hear each other
  pub rounds : RoundsShown
  -- several holders, detection and express repair met; what detection and express repair suppose of their own needed
  pub others : OthersShown
  -- on eight ends: `TimelyOverNetwork` and `SteadyOverNetwork` met, and a network that is whole; here too no more
  pub plays : PlaysShown
