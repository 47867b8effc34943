use mathlib.Core.Path.{refl, sym, ◌∙◌}
use Rattle.display.specs.declared.Display.{Display}
use Rattle.lent_display.proofs.DisplayLaws.{display_long}
use Rattle.lent_display.proofs.CallLaws.{look_none, look_is}
use Rattle.lent_display.proofs.own.Goals as goal

-- `lent_display::own` meets its contract.
pub get_display-requires : goal.get_display-requires
get_display-requires c =
    display_long c.args.s.now (sym c.is_display-ok.ensures ∙ c.if-ok.true)

pub returns-then-ok : goal.returns-then-ok
returns-then-ok c =
    let d = c.before in
    look_is (λ (d : Display). d.own.0) d.args.s.now _ d.is_display-ok.ensures
    d.get_display.result _ d.if-ok.true d.get_display.ensures refl

pub returns : goal.returns
returns c =
    look_none (λ (d : Display). d.own.0) c.args.s.now _ c.is_display-ok.ensures c.if-ok.false
