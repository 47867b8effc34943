-- `console::play_piece` meets its contract: each call takes bytes of the piece, until there are none or the script has stopped.
use mathlib.Core.Path.{sym, ◌∙◌}
use native.Mathlib.Omega.{arith}
use borrow.Author.Tests.{not-false, eqb-true}
use Rattle.console.proofs.PieceLaws.{more-taken, none-left, stopped-left}
use Rattle.console.proofs.play_piece.Goals as goal

pub loop-rest-preserved : goal.loop-rest-preserved
loop-rest-preserved g c =
    more-taken c.loop-rest.playing c.in_ok-fed.fed.playing c.loop-rest.rest.now _ _ (omega arith) c.loop-rest.invariant c.in_ok-fed.ensures.playing_value

pub returns-else-not-playing : goal.returns-else-not-playing
returns-else-not-playing g c = stopped-left _ _ c.loop-rest.invariant (not-false _ c.if-not-playing.false)

pub returns-after-loop-rest : goal.returns-after-loop-rest
returns-after-loop-rest g c = none-left _ _ c.loop-rest.invariant (eqb-true _ 0 (sym c.is_empty.ensures ∙ c.loop-rest-test.false))
