-- `console::play_some` meets its contract: the output has room for a line, so that bytes are taken.
use native.Mathlib.Omega.{arith}
use Rattle.console.proofs.PieceLaws.{some-taken}
use Rattle.console.proofs.play_some.Goals as goal

-- The output has room for a line, so that bytes are taken.
pub returns-clause-taken_nonzero : goal.returns-clause-taken_nonzero
returns-clause-taken_nonzero g c = some-taken c.feed-fed.ensures c.requires.stopped_value c.requires.piece_nonzero (omega arith)
