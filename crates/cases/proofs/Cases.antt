-- Every row of specs/Rows.antt holds, by computation alone.
use mathlib.Core.Path.{refl}
use Rattle.cases.specs.Case.{Hold}
use Rattle.cases.specs.Rows.{rows}
use Rattle.cases.specs.Answers.{answer_rows}
use Rattle.cases.specs.Moves.{move_rows}
use Rattle.cases.specs.Wire.{wire_rows}
use Rattle.cases.specs.Timed.{timed_rows, half_trip_rows, factor_rows}
use Rattle.cases.specs.Reasons.{reason_rows}
use Rattle.cases.specs.Quiet.{quiet_rows}
use Rattle.cases.specs.Stage.{stage_rows}
use Rattle.cases.specs.Clashes.{clash_rows}
use Rattle.cases.specs.Probe.{probe_rows}
use Rattle.cases.specs.Season.{season_rows}
use Rattle.cases.specs.Express.{express_rows}
use Rattle.cases.specs.Fetch.{fetch_rows}
use Rattle.cases.specs.Announce.{announced_rows, announce_rows}
use Rattle.cases.proofs.Opened.{opened}

pub cases-hold : Hold rows
unfolding rows opened
cases-hold = (refl, (refl, (refl, (refl, (refl, (refl, (refl, (refl, (refl, (refl, (refl, (refl, (refl, (refl, (refl, (refl, (refl, (refl, (refl, (refl, (refl, (refl, (refl, (refl, (refl, (refl, (refl, (refl, (refl, (refl, (refl, (refl, tt))))))))))))))))))))))))))))))))

pub moves-hold : Hold move_rows
unfolding move_rows opened
moves-hold = (refl, (refl, (refl, (refl, (refl, tt)))))

pub wire-holds : Hold wire_rows
unfolding wire_rows opened
wire-holds = (refl, (refl, (refl, (refl, (refl, (refl, (refl, (refl, (refl, (refl, (refl, (refl, (refl, (refl, (refl, (refl, (refl, (refl, (refl, (refl, (refl, (refl, (refl, (refl, (refl, (refl, (refl, (refl, (refl, (refl, (refl, (refl, (refl, (refl, (refl, (refl, (refl, (refl, (refl, (refl, (refl, (refl, (refl, (refl, (refl, (refl, tt))))))))))))))))))))))))))))))))))))))))))))))

pub timed-hold : Hold timed_rows
unfolding timed_rows opened
timed-hold = (refl, (refl, (refl, (refl, (refl, (refl, (refl, (refl, (refl, (refl, (refl, (refl, (refl, (refl, (refl, (refl, tt))))))))))))))))

pub half_trips_hold : Hold half_trip_rows
unfolding half_trip_rows
half_trips_hold = (refl, (refl, (refl, (refl, (refl, (refl, (refl, (refl, (refl, (refl, tt))))))))))

pub quiet-holds : Hold quiet_rows
unfolding quiet_rows opened
quiet-holds = (refl, (refl, (refl, (refl, (refl, tt)))))

pub stage-holds : Hold stage_rows
unfolding stage_rows opened
stage-holds = (refl, (refl, tt))

pub answers-hold : Hold answer_rows
unfolding answer_rows opened
answers-hold = (refl, (refl, (refl, (refl, (refl, (refl, (refl, (refl, (refl, (refl, (refl, (refl, (refl, (refl, (refl, (refl, (refl, (refl, (refl, (refl, (refl, (refl, (refl, (refl, (refl, (refl, (refl, (refl, (refl, tt)))))))))))))))))))))))))))))

pub reasons-hold : Hold reason_rows
unfolding reason_rows opened
reasons-hold = (refl, (refl, (refl, (refl, (refl, (refl, (refl, (refl, (refl, (refl, (refl, (refl, (refl, (refl, (refl, (refl, (refl, (refl, (refl, (refl, (refl, (refl, (refl, (refl, (refl, (refl, (refl, (refl, (refl, (refl, (refl, (refl, (refl, (refl, (refl, (refl, (refl, (refl, (refl, (refl, (refl, (refl, (refl, (refl, tt))))))))))))))))))))))))))))))))))))))))))))

pub clashes-hold : Hold clash_rows
unfolding clash_rows opened
clashes-hold = (refl, (refl, (refl, (refl, (refl, (refl, (refl, (refl, (refl, (refl, (refl, (refl, (refl, (refl, (refl, tt)))))))))))))))

pub probe-holds : Hold probe_rows
unfolding probe_rows opened
probe-holds = (refl, (refl, (refl, (refl, (refl, (refl, (refl, (refl, (refl, (refl, (refl, (refl, tt))))))))))))

pub factors-hold : Hold factor_rows
unfolding factor_rows opened
factors-hold = (refl, (refl, (refl, (refl, (refl, (refl, (refl, (refl, (refl, (refl, (refl, (refl, (refl, (refl, (refl, (refl, tt))))))))))))))))

pub season-holds : Hold season_rows
unfolding season_rows opened
season-holds = (refl, (refl, (refl, (refl, (refl, (refl, (refl, (refl, (refl, (refl, (refl, (refl, (refl, (refl, (refl, (refl, (refl, (refl, (refl, (refl, (refl, (refl, (refl, (refl, tt))))))))))))))))))))))))

pub express-holds : Hold express_rows
unfolding express_rows opened
express-holds = (refl, (refl, (refl, (refl, (refl, (refl, (refl, (refl, (refl, (refl, (refl, (refl, (refl, (refl, (refl, (refl, (refl, (refl, (refl, (refl, (refl, (refl, (refl, (refl, (refl, (refl, (refl, (refl, (refl, tt)))))))))))))))))))))))))))))

pub fetch-holds : Hold fetch_rows
unfolding fetch_rows opened
fetch-holds = (refl, (refl, (refl, (refl, (refl, (refl, (refl, (refl, (refl, (refl, (refl, (refl, (refl, (refl, (refl, (refl, (refl, tt)))))))))))))))))

pub announced-hold : Hold announced_rows
unfolding announced_rows opened
announced-hold = (refl, (refl, (refl, (refl, (refl, (refl, (refl, (refl, (refl, (refl, (refl, (refl, (refl, (refl, (refl, (refl, (refl, (refl, (refl, (refl, (refl, (refl, (refl, (refl, (refl, (refl, (refl, (refl, tt))))))))))))))))))))))))))))

pub announces-hold : Hold announce_rows
unfolding announce_rows opened
announces-hold = (refl, (refl, (refl, (refl, (refl, (refl, (refl, (refl, (refl, (refl, (refl, (refl, (refl, (refl, tt))))))))))))))
