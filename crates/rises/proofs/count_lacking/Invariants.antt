use mathlib.Core.Path.{◌≡◌}
use mathlib.Core.Bool.{Bool}
use mathlib.Core.List.{List}
use Prim.Native.Nat.{ℕ, ◌+◌, ◌-◌}
use Rattle.end.specs.declared.Record.{Record}
use Rattle.end.specs.Records.{is_held, raw_at}
use Rattle.end.specs.Names.{lacking}
use Rattle.rises.proofs.count_lacking.Given as goal

-- `rises::count_lacking` meets its contract: with those that are left to look at, the count is what is wanted.
abbrev pub held_in_lem : List Record → ℕ → Bool
held_in_lem names m = is_held (raw_at names m).slot

abbrev pub invariant-loop-i : goal.invariant-loop-i
invariant-loop-i l = l.count + lacking (held_in_lem l.names) (l.to - l.i) l.i ≡ l.initial.count + lacking (held_in_lem l.names) (l.to - l.initial.i) l.initial.i
