-- `reader::read` meets its contract: no bytes are a probe, and of any others the message decides.
use mathlib.Core.Path.{ap, sym}
use borrow.Author.Tests.{eqb-true, eqb-false}
use native.Mathlib.Omega.{arith}
use Rattle.message.specs.declared.Message.{Message}
use Rattle.message.specs.declared.Reading.{Reading}
use Rattle.message.specs.declared.Verdict.TheVariants.{Probe}
use Rattle.reader.proofs.ReadLaws.{read_none, answer_no, answer-yes}
use Rattle.reader.proofs.read.Goals as goal

pub returns-then-is_empty : goal.returns-then-is_empty
returns-then-is_empty c =
    let f : Message → Reading = λ m. record { verdict = Probe; message = m } in
    let it = read_none c.args.s.now _ (eqb-true _ 0 (sym c.if-is_empty.ensures)) (ap f c.blank.ensures) in
    record { value = it.0; verdict_value = it.1 }

pub returns-in-Ok-clause-value : goal.returns-in-Ok-clause-value
returns-in-Ok-clause-value c =
    let some = eqb-false _ 0 (sym c.if-is_empty.ensures) in
    answer-yes c.args.s.now (omega (arith, some)) c.in-Ok.ensures

pub returns-in-Err-clause-value : goal.returns-in-Err-clause-value
returns-in-Err-clause-value c =
    let some = eqb-false _ 0 (sym c.if-is_empty.ensures) in
    answer_no c.args.s.now (omega (arith, some)) c.blank-in-Err.ensures c.in-Err.ensures
