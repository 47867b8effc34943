use mathlib.Core.Path.{ap, ◌∙◌}
use Prim.Native.Nat.{ℕ}
use lib.ListN.{take}
use Rattle.script.specs.Line.{line_of}
use Rattle.interpreter.proofs.PlayLaws.{first-bytes}
use Rattle.interpreter.proofs.meaning.Goals as goal

-- `interpreter::meaning` meets its contract: the bytes that are read are within the buffer.
pub returns : goal.returns
returns c =
    let a = c.args in
    c.read_line.ensures ∙ ap (λ (k : ℕ). line_of (take k a.line.now)) c.min.ensures ∙ ap line_of (first-bytes a.len a.line.now)
