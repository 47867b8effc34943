use mathlib.Core.Path.{sym, ◌∙◌}
use Rattle.display.specs.declared.Display.{Display}
use Rattle.lent_display.specs.Call.{lead_of}
use Rattle.lent_display.proofs.DisplayLaws.{display_long}
use Rattle.lent_display.proofs.CallLaws.{look_none, look_is}
use Rattle.lent_display.proofs.lead.Goals as goal

-- `lent_display::lead` meets its contract.
pub get_display-d-requires : goal.get_display-d-requires
get_display-d-requires c =
    display_long c.args.s.now (sym c.is_display-ok.ensures ∙ c.if-ok.true)

pub returns-then-ok : goal.returns-then-ok
returns-then-ok c =
    let d = c.before in
    look_is (λ (d : Display). lead_of d.window) d.args.s.now _ d.is_display-ok.ensures
    d.get_display-d.result _ d.if-ok.true d.get_display-d.ensures c.lead_of.ensures

pub returns : goal.returns
returns c =
    look_none (λ (d : Display). lead_of d.window) c.args.s.now _ c.is_display-ok.ensures c.if-ok.false
