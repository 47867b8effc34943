use Rattle.message.specs.Message.{meaning_of}
use Rattle.session.proofs.Passes.{in_range_lem}
use Rattle.session.proofs.hear.Goals as goal

-- `session::hear` meets its contract: the sender's source with its measured distance.
pub measure-d-requires : goal.measure-d-requires
measure-d-requires c =
    ((in_range_lem (meaning_of c.args.m) c.requires.m_value).echoes, c.requires.clock_lt_ticks_limit)

pub reported_in-reported-requires : goal.reported_in-reported-requires
reported_in-reported-requires c =
    (in_range_lem (meaning_of c.args.m) c.requires.m_value).reports

pub returns : goal.returns
returns c = rw (c.with_heard.ensures, c.reported_in-reported.ensures, c.measure-d.ensures)
