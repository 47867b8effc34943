use Rattle.std.specs.Prelude.{◌≡◌, drop}
use Rattle.openings.specs.Find.{find_of}
use Rattle.openings.specs.Pass.{pass_of}
use Rattle.openings.proofs.find.Given as goal

-- `openings::find` meets its contract: what the windows that are left make of the answer so far is the whole list's answer.
abbrev pub invariant-loop-w : goal.invariant-loop-w
invariant-loop-w l = pass_of l.m l.so_far (drop l.w-index l.ws) ≡ find_of l.ws l.m
