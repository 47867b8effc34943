-- `compose::with_echo` meets its contract: what was heard decides, and it was not in the future.
use mathlib.Core.Path.{subst}
use Prim.Native.Nat.{◌≤◌, ◌+◌}
use native.Mathlib.Omega.{arith}
use lib.ListN.{length}
use Rattle.end.specs.Parts.{Heard}
use Rattle.end.specs.Messages.{echo_on}
use Rattle.end.specs.Ready.{HeardBy}
use Rattle.compose.proofs.with_echo.Goals as goal

pub overflow_sub-places : goal.overflow_sub-places
overflow_sub-places c =
    subst (HeardBy c.args.clock) c.in-Some.is c.requires.heard_by

pub bounds-places-n : goal.bounds-places-n
bounds-places-n c =
    let a = c.args in
    omega (arith, subst (λ (x : Heard). a.all.count + length (echo_on a.h a.clock x) ≤ 7) c.in-Some.is c.requires.heard_bound)

pub returns-in-Some : goal.returns-in-Some
returns-in-Some c = rw c.in-Some.is
