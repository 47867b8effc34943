use Rattle.std.proofs.Common.{rules, ◌+◌, ◌*◌}
use mathlib.Core.Path.{refl, ◌∙◌}
use Rattle.std.proofs.lemmas.Iterator.{YieldsList-from_range}
use Rattle.std.proofs.lemmas.Iterator.Search.{all_from_yields_List}
use Rattle.lent_fields.proofs.ManyLaws.{all-range}
use Rattle.lent_fields.proofs.test_all.Goals as goal

-- `lent_fields::test_all` meets its contract.
pub returns : goal.returns
returns g c =
    let t = g.F.Form.passes in
    let w = g.F.Form.WIDTH in
    let s = c.args.s.now in
    let at = c.args.from in
    all_from_yields_List (λ n. t s (at + n * w)) _ _ _ c.all.ensures.ran (YieldsList-from_range 0 g.row.N _ refl refl) (λ x b q k. search rules)
    ∙ all-range t w at s g.row.N
