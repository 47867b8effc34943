-- What a line of a run's record is written as. Document 02, P13. That it is read back is proved in proofs/LinesBack.antt.
use Rattle.std.specs.Prelude.{◌≡◌, true, cond, List, [], ◌∷◌, ◌++◌, ℕ, ◌+◌, ◌/◌, ◌%◌, ◌<◌, ltb, length}
use Rattle.numbers.specs.Number.{Bytes}
use Rattle.message.specs.Limit.{host_limit, number_limit}
use Rattle.message.specs.Cue.{cue_in}
use Rattle.message.specs.Entry.{blank_cue}
use Rattle.end.specs.declared.Move.{Move}
use Rattle.end.specs.declared.Move.TheVariants.{Join, Joined, Leave, Left, Crash}
use Rattle.decimal.specs.Decimal.{decimal}
use Rattle.script.specs.Line.{join, joined, leave, left, crash, send}
use Rattle.record.specs.declared.Said.{Said}
use Rattle.record.specs.declared.Said.TheVariants.{Malformed, Moved, Sent, Got}
use Rattle.record.specs.declared.Line.{Line}
use Rattle.record.specs.Line.{got, line_of}

-- "48 hexadecimal digits, letters capital": 48 is "0", 65 is "A"
abbrev pub hex_digit : ℕ → ℕ
hex_digit n = cond (ltb n 10) (48 + n) (55 + n)

unfoldable pub hex_text : List ℕ → List ℕ
hex_text [] = []
hex_text (b ∷ s) = hex_digit (b / 16) ∷ hex_digit (b % 16) ∷ hex_text s

abbrev pub move_text : Move → List ℕ
move_text Join = join
move_text Joined = joined
move_text Leave = leave
move_text Left = left
move_text Crash = crash

-- "join, joined, leave, left, crash with a host; send with host, number and the cue ..; got with host, source, number and cue"
unfoldable pub words_of : Said → List ℕ → List (List ℕ)
words_of Malformed cue = []
words_of (Moved m h) cue = move_text m ∷ decimal h.0 ∷ []
words_of (Sent h n) cue = send ∷ decimal h.0 ∷ decimal n.0 ∷ hex_text cue ∷ []
words_of (Got h name) cue = got ∷ decimal h.0 ∷ decimal name.source.0 ∷ decimal name.number.0 ∷ hex_text cue ∷ []

-- "one space between words, a line feed after each line"
unfoldable pub spaced : List (List ℕ) → List ℕ
spaced [] = []
spaced (w ∷ []) = w
spaced (w ∷ x ∷ l) = w ++ (32 ∷ spaced (x ∷ l))

unfoldable pub text_of : Line → List ℕ
text_of l = spaced (words_of l.said l.cue)

unfoldable pub record_text : List Line → List ℕ
record_text [] = []
record_text (l ∷ ls) = text_of l ++ (10 ∷ record_text ls)

-- ---- lines that are in range
pub record ProperCue (cue : List ℕ) : Type 0 where
  pub size : length cue ≡ 24
  pub bytes : Bytes cue
  pub range : cue_in cue ≡ true

abbrev pub ProperSaid : Said → List ℕ → Type 0
ProperSaid Malformed cue = ⊥
ProperSaid (Moved m h) cue = (h.0 < host_limit) × (cue ≡ blank_cue)
ProperSaid (Sent h n) cue = (h.0 < host_limit) × (n.0 < number_limit) × ProperCue cue
ProperSaid (Got h name) cue = (h.0 < host_limit) × (name.source.0 < host_limit) × (name.number.0 < number_limit) × ProperCue cue

abbrev pub Proper : Line → Type 0
Proper l = ProperSaid l.said l.cue

-- what such a line is written as is read as that line
abbrev pub ReadsBack : Type 0
ReadsBack = (l : Line) → Proper l → line_of (text_of l) ≡ l
