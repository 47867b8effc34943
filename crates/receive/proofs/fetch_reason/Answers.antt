-- `receive::fetch_reason` meets its contract: the test is the definition's.
use mathlib.Core.Path.{◌≡◌, ◌∙◌}
use Prim.Native.Nat.{◌<◌}
use mathlib.Core.Bool.{not, ◌&&◌, ◌||◌}
use lib.Dec.{eqb}
use Rattle.message.specs.Message.{FTCH, LATE, meaning_of}
use Rattle.end.specs.Why.{no_fetch_in}
use Rattle.session.proofs.Passes.{in_range_lem}
use Rattle.receive.proofs.Reasons.{no_fetch_lem}
use Rattle.receive.proofs.fetch_reason.Goals as goal

pub bounds-e-at : goal.bounds-e-at
bounds-e-at c =
    let there : c.entry_of-entry.result.name.source.0 < 8 = rw c.entry_of-entry.ensures (in_range_lem (meaning_of c.args.m) c.requires).source in
    there

pub may_hand-hands-requires : goal.may_hand-hands-requires
may_hand-hands-requires c =
    (in_range_lem (meaning_of c.args.m) c.requires).sender

pub returns-then-none : goal.returns-then-none
returns-then-none c =
    let told : let a = c.args in let kind = a.m.kind in no_fetch_in (meaning_of a.m) a.e ≡ ((eqb kind FTCH && not c.may_answer-answers.result) || (eqb kind LATE && not c.may_hand-hands.result)) = let a = c.args in no_fetch_lem (meaning_of a.m) a.e _ _ _ c.entry_of-entry.ensures c.may_answer-answers.ensures c.may_hand-hands.ensures in
    rw (told ∙ c.if-none.true)

pub returns-else-none : goal.returns-else-none
returns-else-none c =
    let told : let a = c.args in let kind = a.m.kind in no_fetch_in (meaning_of a.m) a.e ≡ ((eqb kind FTCH && not c.may_answer-answers.result) || (eqb kind LATE && not c.may_hand-hands.result)) = let a = c.args in no_fetch_lem (meaning_of a.m) a.e _ _ _ c.entry_of-entry.ensures c.may_answer-answers.ensures c.may_hand-hands.ensures in
    rw (told ∙ c.if-none.false)
