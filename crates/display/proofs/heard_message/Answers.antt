-- `display::heard_message` meets its contract: the places of the struct that it reads are the message's.
use mathlib.Core.Path.{◌≡◌}
use Rattle.message.specs.Message.{Meaning, held_as}
use Rattle.display.proofs.CallLaws.{held-shows}
use Rattle.display.proofs.heard_message.Goals as goal

pub returns : goal.returns
returns c =
    let a = c.args in
    let shows : (M : Meaning) → a.m ≡ held_as M → _ = λ M p. held-shows a.d a.m M _ _ _ p (c.heard.ensures.value, c.heard.ensures.out_after) in record { value = λ M p. (shows M p).0; out_after = λ M p. (shows M p).1 }
