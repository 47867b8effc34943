-- `timing::request_at` meets its contract: the products' equations, one in the other.
use Rattle.timing.proofs.request_at.Goals as goal

pub returns : goal.returns
returns c = cc
