-- The pieces that a line is written in, one after the other; together they are the text of the line (proofs/LineTexts.antt). 32 is the space, 10
-- the line feed.
use Rattle.std.specs.Prelude.{List, [], ◌∷◌, ◌++◌, ℕ, ◌+◌, ◌≤◌, length}
use Rattle.message.specs.declared.Name.{Name}
use Rattle.end.specs.declared.Move.{Move}
use Rattle.decimal.specs.Decimal.{decimal}
use Rattle.script.specs.Line.{send}
use Rattle.answers.specs.Put.{Put}
use Rattle.answers.specs.AnswerLine.{spaced}
use Rattle.record.specs.Line.{got}
use Rattle.record.specs.Text.{hex_text, move_text}
use Rattle.keeping.specs.Kept.{widest}

abbrev pub moved_text : Move → ℕ → List ℕ
moved_text m h = (move_text m ++ (32 ∷ [])) ++ (decimal h ++ (10 ∷ []))

abbrev pub numbered_text : ℕ → List ℕ → List ℕ
numbered_text n cue = spaced n ++ (hex_text cue ++ (10 ∷ []))

abbrev pub named_text : ℕ → ℕ → List ℕ → List ℕ
named_text s n cue = spaced s ++ numbered_text n cue

abbrev pub sent_text : ℕ → ℕ → List ℕ → List ℕ
sent_text h n cue = (send ++ (32 ∷ [])) ++ named_text h n cue

abbrev pub got_text : ℕ → Name → List ℕ → List ℕ
got_text h name cue = (got ++ (32 ∷ [])) ++ (spaced h ++ named_text name.source.0 name.number.0 cue)

-- what is written where there is room for a line, and in the output for a cue
abbrev pub PutInRoom : ℕ → List ℕ → List ℕ → List ℕ → List ℕ → ℕ → Type 0
PutInRoom at b output before after end = at + widest ≤ length before → 24 ≤ length output → Put widest at b before after end
