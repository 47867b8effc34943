-- `timetable::meaning` meets its contract: the bytes that are read are within the buffer.
use native.Mathlib.Omega.{arith}
use mathlib.Core.Path.{sym, ap, ◌∙◌}
use Prim.Native.Nat.{ℕ}
use lib.ListN.{take, length-take}
use lib.Seq.{length-take-le}
use Rattle.entries.specs.Line.{line_of}
use Rattle.timetable.proofs.PlayLaws.{first-bytes}
use Rattle.timetable.proofs.meaning.Goals as goal

pub slice_bounds-read_line-end : goal.slice_bounds-read_line-end
slice_bounds-read_line-end c = sym (length-take-le _ _ (omega (arith, c.min.ensures)))

pub read_line-requires : goal.read_line-requires
read_line-requires c = omega (arith, length-take c.min.result c.args.line.now, c.requires)

pub returns : goal.returns
returns c =
    let a = c.args in
    c.read_line.ensures
    ∙ ap (λ (k : ℕ). line_of (take k a.line.now)) c.min.ensures
    ∙ ap line_of (first-bytes a.len a.line.now)
