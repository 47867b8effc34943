-- `rises::fresh_record` meets its contract: a blank record with its request.
use Rattle.rises.proofs.fresh_record.Goals as goal

pub returns : goal.returns
returns c = rw c.request_for-q.ensures
