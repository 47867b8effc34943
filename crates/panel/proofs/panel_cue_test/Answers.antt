use mathlib.Core.Path.{◌≡◌, sym, ap, ◌∙◌}
use native.Mathlib.Omega.{arith}
use mathlib.Core.Bool.{true, false}
use Rattle.message.specs.Cue.{cue_in}
use Rattle.panel.proofs.AnswerLaws.{cue_not_whole, cue-tested}
use Rattle.panel.proofs.panel_cue_test.Goals as goal

-- `panel::panel_cue_test` meets its contract: a cue that is not whole is out of range, and of a whole one its fields decide.
pub returns-then-cue-ne-CUE_WIDTH : goal.returns-then-cue-ne-CUE_WIDTH
returns-then-cue-ne-CUE_WIDTH c = cue_not_whole c.args.cue.now c.if-cue-ne-CUE_WIDTH.true

pub returns-then-cue_in : goal.returns-then-cue_in
returns-then-cue_in c =
    let tested : cue_in c.args.cue.now ≡ c.cue_in.result = ap cue_in (sym c.cue_bytes-bytes.ensures) ∙ sym c.cue_in.ensures in
    cue-tested _ true (omega arith) (tested ∙ c.if-cue_in.true)

pub returns-else-cue_in : goal.returns-else-cue_in
returns-else-cue_in c =
    let tested : cue_in c.args.cue.now ≡ c.cue_in.result = ap cue_in (sym c.cue_bytes-bytes.ensures) ∙ sym c.cue_in.ensures in
    cue-tested _ false (omega arith) (tested ∙ c.if-cue_in.false)
