use mathlib.Core.Path.{◌≡◌}
use Prim.Native.Nat.{ℕ, ◌-◌}
use mathlib.Core.List.{List}
use Rattle.end.specs.Parts.{Express}
use Rattle.end.specs.declared.Record.{Record}
use Rattle.end.specs.declared.Moment.{Moment}
use Rattle.end.specs.Names.{expressed, asked, filled}
use Rattle.rises.proofs.request_all.Given as goal

-- `rises::request_all` meets its contract: with the numbers that are left to ask for, the records are what is wanted.
-- the record of a new number
abbrev pub new : Moment → List ℕ → ℕ → Express → ℕ → Record
new t draws d x m = expressed x (asked t draws d m)

abbrev pub invariant-loop-i : goal.invariant-loop-i
invariant-loop-i l = filled (new l.t l.draws l.d l.x) (l.to - l.i) l.i l.out ≡ filled (new l.t l.draws l.d l.x) (l.to - l.initial.i) l.initial.i l.initial.out
