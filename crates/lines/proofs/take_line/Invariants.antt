use mathlib.Core.Path.{◌≡◌}
use Prim.Native.Nat.{◌≤◌, max}
use lib.ListN.{length, drop}
use Rattle.lines.specs.Cut.{cut_of, line_cut}
use Rattle.lines.proofs.take_line.Given as goal

-- `lines::take_line` meets its contract. What is left of the bytes, taken into the line so far, is what the whole gives.
abbrev pub invariant-loop-place : goal.invariant-loop-place
invariant-loop-place l =
    (cut_of (drop l.place l.piece) l.place l.n ≡ cut_of (drop l.from l.piece) l.from l.len)
    × (line_cut (drop l.place l.piece) l.n l.line ≡ line_cut (drop l.from l.piece) l.len l.initial.line)
    × (l.place ≤ max l.from (length l.piece))
