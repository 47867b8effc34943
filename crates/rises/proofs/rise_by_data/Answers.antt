-- `rises::rise_by_data` meets its contract: each new number has the express wait of a gap before a DATA.
use Rattle.rises.proofs.Steps.{rise_data}
use Rattle.rises.proofs.rise_by_data.Goals as goal

pub returns : goal.returns
returns c = search rise_data
