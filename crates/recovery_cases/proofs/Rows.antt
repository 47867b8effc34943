-- All of the computed lists.
use Rattle.recovery_cases.specs.Rows.{RowsShown}
use Rattle.recovery_cases.proofs.OneRound.{one_round_shown}
use Rattle.recovery_cases.proofs.Rounds.{rounds-shown}
use Rattle.recovery_cases.proofs.Others.{others-shown}
use Rattle.recovery_cases.proofs.Plays.{plays-shown}

pub rows-shown : RowsShown
rows-shown = record { one-round = one_round_shown; rounds = rounds-shown; others = others-shown; plays = plays-shown }
