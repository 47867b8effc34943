use Rattle.std.proofs.Common.{◌≡◌, true, false, rules, tests}
use Rattle.std.proofs.lemmas.Iterator.{YieldsList-from_slice, cases_from_any}
use Rattle.record.specs.declared.Line.{Line}
use Rattle.ledger.specs.Judgement.{is_malformed}
use Rattle.ledger.proofs.JudgeLaws.{malformed_told}
use Rattle.ledger.proofs.any_malformed.Goals as goal

-- `ledger::any_malformed` meets its contract: a search finds one where there is one.
pub returns : goal.returns
returns c =
    malformed_told _ _
    (cases_from_any _ _ _ (λ (l : Line). is_malformed l.said ≡ true) (λ (l : Line). is_malformed l.said ≡ false) c.any.ensures.ran
    (YieldsList-from_slice c.args.lines.now c.iter.ensures.rest)
    (λ x q k. search (rules, tests))
    (λ x q k. (search rules, search (rules, tests))))
