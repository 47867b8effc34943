use native.Mathlib.Omega.{arith}
use mathlib.Core.Path.{sym, ◌∙◌}
use Rattle.player.proofs.PlayLaws.{not-played, same-kept}
use Rattle.player.proofs.play.Goals as goal

-- `player::play` meets its contract: an unknown message number, or a line that is played.
pub play_known-requires : goal.play_known-requires
play_known-requires c = record { known = sym c.is_known.ensures ∙ c.if-is_known.true; few = omega (arith, c.used-store.ensures) }

pub returns-then-is_known : goal.returns-then-is_known
returns-then-is_known c = rw (same-kept c.args.store.now _ c.used-store.ensures) at c.play_known.ensures

pub returns-else-is_known : goal.returns-else-is_known
returns-else-is_known c =
    let a = c.args in
    let s = record a.store.now { count = c.used-store.result } in
    let same = same-kept a.store.now c.used-store.result c.used-store.ensures in
    let p = not-played a.explains a.e a.verb a.clock s (omega (arith, c.used-store.ensures)) (sym c.is_known.ensures ∙ c.if-is_known.false) in
    rw same (rw same at p)
