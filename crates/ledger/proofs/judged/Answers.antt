use Rattle.std.proofs.Common.{◌≡◌, true, false, sym, ap, subst, ◌∙◌, arith, rules, tests, Some}
use Rattle.std.proofs.lemmas.Iterator.{first_from_Range, serves_from_Range}
use Rattle.ledger.proofs.JudgeLaws.{permits_at, told_by, first_judged, First}
use Rattle.ledger.proofs.judged.Goals as goal
use Rattle.ledger.proofs.judged.Goals.{After-find}

-- `ledger::judged` meets its contract: the first line that a search finds.
pub find-requires : goal.find-requires
find-requires c = record { can = tt; finite = tt; callable = serves_from_Range (λ x q k. search (rules, tests)) (λ x low high. search rules) }

found : (c : After-find) → First c.args.lines.now c.find.result
found c =
    first_from_Range _ _ _ _ (λ k. permits_at c.args.lines.now k ≡ false) (λ k. permits_at c.args.lines.now k ≡ true) c.find.ensures.ran
    (λ x q k. search (rules, tests))
    (λ x q k. (search rules, search (rules, tests)))

pub overflow_add-result : goal.overflow_add-result
overflow_add-result c =
    let first : First c.args.lines.now (Some c.in-Some.k) = subst (First c.args.lines.now) c.in-Some.is (found c.before) in
    omega (arith, first.1, c.requires)

pub returns-in-Some : goal.returns-in-Some
returns-in-Some c = ap told_by (sym c.in-Some.is) ∙ first_judged _ _ (found c.before)

pub returns-in-None : goal.returns-in-None
returns-in-None c = ap told_by (sym c.in-None.is) ∙ first_judged _ _ (found c.before)
