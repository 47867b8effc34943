use mathlib.Core.Path.{sym, ap, ◌∙◌}
use Prim.Native.Nat.{ℕ}
use mathlib.Core.List.{List}
use lib.ListN.{take}
use lib.Seq.{drop-drop}
use Rattle.numbers.specs.Number.{value}
use Rattle.message.specs.Entry.{as_host}
use Rattle.message.proofs.EntryLaws.{head_at}
use Rattle.reader.proofs.EchoEntry.read.Goals as goal

-- `reader::EchoEntry::read` meets its contract, field by field.
pub returns : goal.returns
returns c =
    let a = c.args in
    let s : List ℕ = a.s.now in
    let stamp = c.read_be.ensures.number ∙ ap (λ (l : List ℕ). value (take 6 l)) (sym (drop-drop 1 a.at s)) in
    let held = c.read_be-2.ensures.number ∙ ap (λ (l : List ℕ). value (take 6 l)) (sym (drop-drop 7 a.at s)) in
    λ i. record { host = as_host (sym (head_at s a.at) i); stamp = stamp i; held = held i }
