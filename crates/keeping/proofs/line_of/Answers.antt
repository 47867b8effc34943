-- `keeping::line_of` meets its contract: by the answer.
use mathlib.Core.Path.{sym, ap, ◌∙◌}
use mathlib.Core.List.{List, []}
use Prim.Native.Nat.{ℕ}
use native.Mathlib.Omega.{arith}
use lib.Seq.{length-take-le}
use Rattle.end.specs.declared.Answer.{Answer}
use Rattle.end.specs.Answer.{Out}
use Rattle.end.specs.Event.{action_of}
use Rattle.end.specs.Answer.{read_off}
use Rattle.record.specs.declared.Line.{Line}
use Rattle.record.specs.Kept.{lines_for}
use Rattle.keeping.specs.Kept.{kept_by, kept_of}
use Rattle.keeping.proofs.KeptLaws.{moved_anyway, first-bytes, not-kept}
use Rattle.keeping.proofs.line_of.Goals as goal

pub returns-in-Out : goal.returns-in-Out
unfolding kept_of read_off lines_for
returns-in-Out c =
    let leaves : Answer → List Line = λ a. kept_of c.args.host c.args.what c.args.cue a c.args.out.now in
    let n = first-bytes _ c.min.result c.args.out.now c.min.ensures in
    c.out_line.ensures
    ∙ ap (λ (b : List ℕ). lines_for c.args.host.0 (action_of c.args.what c.args.cue []) (Out b)) n
    ∙ sym (ap leaves c.in-Out.is)

pub returns-in-Got : goal.returns-in-Got
unfolding kept_of read_off lines_for
returns-in-Got c =
    let leaves : Answer → List Line = λ a. kept_of c.args.host c.args.what c.args.cue a c.args.out.now in
    ap (λ l. kept_by l.said l) c.got_line.ensures ∙ sym (ap leaves c.in-Got.is)

pub returns-in-Done : goal.returns-in-Done
unfolding kept_of read_off lines_for
returns-in-Done c =
    let leaves : Answer → List Line = λ a. kept_of c.args.host c.args.what c.args.cue a c.args.out.now in
    let a = c.args in
    c.moved_line.ensures ∙ moved_anyway a.host.0 a.what a.cue
    ∙ sym (ap leaves c.in-Done.is)

pub returns-in_default : goal.returns-in_default
returns-in_default c = not-kept _ _ _ _ _ c.in_default.not-Out c.in_default.not-Got c.in_default.not-Done
