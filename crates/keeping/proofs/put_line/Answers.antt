use mathlib.Core.Path.{sym, ap, ◌∙◌}
use mathlib.Core.List.{List}
use Rattle.std.specs.Prelude.{Some}
use Prim.Native.Nat.{ℕ}
use native.Mathlib.Omega.{arith}
use Rattle.record.specs.declared.Said.{Said}
use Rattle.record.specs.Text.{record_text}
use Rattle.answers.proofs.PutLaws.{put_same, put_wider}
use Rattle.keeping.specs.Kept.{kept}
use Rattle.keeping.proofs.LineTexts.{moved_text_lem, sent_text_lem, got_text_lem, put-none}
use Rattle.keeping.proofs.put_line.Goals as goal

-- `keeping::put_line` meets its contract: what the line says is what was matched.
-- what is written for a line
abbrev text : List ℕ → Said → List ℕ
text cue said = record_text (kept (Some (record { said = said; cue = cue })))

pub returns-in-Malformed : goal.returns-in-Malformed
unfolding record_text
returns-in-Malformed c = put_same (put_wider (put-none _ _) (omega arith)) (sym (ap (text _) c.in-Malformed.is))

pub returns-in-Moved : goal.returns-in-Moved
returns-in-Moved c =
    put_same c.put_moved.ensures (moved_text_lem _ _ _ ∙ sym (ap (text _) c.in-Moved.is))

pub returns-in-Sent : goal.returns-in-Sent
returns-in-Sent c =
    put_same c.put_sent.ensures (sent_text_lem _ _ _ ∙ sym (ap (text _) c.in-Sent.is))

pub returns-in-Got : goal.returns-in-Got
returns-in-Got c =
    put_same c.put_got.ensures (got_text_lem _ _ _ ∙ sym (ap (text _) c.in-Got.is))
