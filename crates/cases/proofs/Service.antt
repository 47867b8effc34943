-- Demand 3 is not empty: it applies to the listing, to the rejoining lists, to a list with probes, to one in which a controller joins late, to the
-- list on host 7 and to one with an express repair, whose answers are computed.
use mathlib.Core.Path.{◌≡◌, refl}
use mathlib.Core.List.{map}
use borrow.Author.Tests.{lt-ltb}
use Rattle.end.specs.Opening.{house_params}
use Rattle.end.specs.Book.{RunFrom, empty_book}
use Rattle.end.specs.Run.{seen, Fresh}
use Rattle.end.proofs.Service.Ends.{service}
use Rattle.cases.specs.Listing.{house, script, played}
use Rattle.cases.specs.Rejoin.{rejoining, rejoining_gives, after_original, after_original_gives, below_first, below_first_gives}
use Rattle.cases.specs.Probe.{probing, probing_gives}
use Rattle.cases.specs.Shown.{returned, onlooked}
use Rattle.cases.specs.Stage.{stage_params, stage, play}
use Rattle.cases.specs.Express.{express_params, express_stage, exchange}
use Rattle.cases.specs.Fetch.{late_joiner, late_joiner_gives}
use Rattle.cases.proofs.Opened.{opened}
use Rattle.cases.proofs.Allowed.{tests, is-allowed}
use Rattle.cases.proofs.Shown.{service-shown}

-- ---- the answers
pub rejoined : played rejoining ≡ rejoining_gives
unfolding opened
rejoined = refl

pub after-original : played after_original ≡ after_original_gives
unfolding opened
after-original = refl

pub below-first : played below_first ≡ below_first_gives
unfolding opened
below-first = refl

pub probed : played probing ≡ probing_gives
unfolding opened
probed = refl

pub late-joined : played late_joiner ≡ late_joiner_gives
unfolding opened
late-joined = refl

-- ---- the theorem at work

pub house-fresh : Fresh house
unfolding opened
house-fresh = record { ends = λ h hh. (house_params, rw (lt-ltb h 8 hh)); sent = refl }

-- the listing
pub listing-runs : RunFrom empty_book (seen house script)
unfolding tests opened
listing-runs = service house house-fresh script (is-allowed script house refl)

-- the repair that arrives after a rejoin
pub rejoining-runs : RunFrom empty_book (seen house rejoining)
unfolding tests opened
rejoining-runs = service house house-fresh rejoining (is-allowed rejoining house refl)

-- and after an original
pub after_original_runs : RunFrom empty_book (seen house after_original)
unfolding tests opened
after_original_runs = service house house-fresh after_original (is-allowed after_original house refl)

-- and after an original above it
pub below_first_runs : RunFrom empty_book (seen house below_first)
unfolding tests opened
below_first_runs = service house house-fresh below_first (is-allowed below_first house refl)

-- and with probes that nobody put out
pub probing-runs : RunFrom empty_book (seen house probing)
unfolding tests opened
probing-runs = service house house-fresh probing (is-allowed probing house refl)

-- and with a controller that joins late and fetches what it lacks
pub late_joiner_runs : RunFrom empty_book (seen house late_joiner)
unfolding tests opened
late_joiner_runs = service house house-fresh late_joiner (is-allowed late_joiner house refl)

-- ---- in terms of answers and outputs: the list on host 7, with other parameters
pub stage-fresh : Fresh stage
unfolding opened
stage-fresh = record { ends = λ h hh. (stage_params, rw (lt-ltb h 8 hh)); sent = refl }

pub play-runs : RunFrom empty_book (map onlooked (returned stage play))
unfolding tests opened
play-runs = service-shown stage stage-fresh play (is-allowed play stage refl)

-- and the one in which a lost cue is repaired in one exchange
pub express-fresh : Fresh express_stage
unfolding opened
express-fresh = record { ends = λ h hh. (express_params, rw (lt-ltb h 8 hh)); sent = refl }

pub exchange-runs : RunFrom empty_book (map onlooked (returned express_stage exchange))
unfolding tests opened
exchange-runs = service-shown express_stage express-fresh exchange (is-allowed exchange express_stage refl)
