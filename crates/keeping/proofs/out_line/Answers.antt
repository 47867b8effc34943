use mathlib.Core.Path.{sym, ap, ◌∙◌}
use mathlib.Core.List.{List, []}
use Prim.Native.Nat.{ℕ}
use Rattle.end.specs.declared.Event.{Event}
use Rattle.end.specs.Answer.{Out}
use Rattle.end.specs.Event.{action_of}
use Rattle.record.specs.declared.Line.{Line}
use Rattle.record.specs.Kept.{lines_for}
use Rattle.keeping.proofs.KeptLaws.{not-sent}
use Rattle.keeping.proofs.out_line.Goals as goal

-- `keeping::out_line` meets its contract: by the event.
-- what an event that put out bytes leaves
abbrev leaves : ℕ → List ℕ → List ℕ → Event → List Line
leaves h cue bytes what = lines_for h (action_of what cue []) (Out bytes)

pub returns-in-Send : goal.returns-in-Send
unfolding lines_for
returns-in-Send c = c.sent_line.ensures ∙ sym (ap (leaves _ _ _) c.in-Send.is)

pub returns-in_default : goal.returns-in_default
returns-in_default c = not-sent _ _ _ _ c.in_default.not-Send
