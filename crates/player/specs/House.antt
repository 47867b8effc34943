-- The programs "house" and "why": from a script's bytes to the printed bytes. Document 01, "Cases"; document 02, P3.
use Rattle.std.specs.Prelude.{ℕ, Bool, true, false, cond, List, [], ◌∷◌, ◌++◌, eqb}
use Rattle.message.specs.declared.Host.{Host}
use Rattle.message.specs.Entry.{as_host}
use Rattle.end.specs.declared.End.{End}
use Rattle.end.specs.Opening.{house_params, opening_of}
use Rattle.script.specs.declared.Call.{Call}
use Rattle.script.specs.Line.{Line, Play, Malformed, line_of}
use Rattle.answers.specs.AnswerLine.{answer_line}
use Rattle.player.specs.Play.{Printed, Bad, Shows, Turn}
use Rattle.player.specs.Explain.{played_by}

-- no line that is printed has more bytes
abbrev pub widest : ℕ
widest = 56

-- "bad" and a line feed
abbrev pub bad_line : List ℕ
bad_line = 98 ∷ 97 ∷ 100 ∷ 10 ∷ []

-- what is printed for a line: "end, clock, answer", or "bad"
unfoldable pub printed_line : Host → ℕ → Printed → List ℕ
printed_line end clock Bad = bad_line
printed_line end clock (Shows a) = answer_line end clock a

-- whether the house stops
abbrev pub is_bad : Printed → Bool
is_bad Bad = true
is_bad (Shows a) = false

-- "the ends are hosts 0 and 1"; the messages so far; whether the reason is printed after "ignored"
pub record House : Type 0 where
  pub zero : End
  pub one : End
  pub messages : List (List ℕ)
  pub explains : Bool

-- "parameters 9,8,4,4,4,8"
abbrev pub opened : Bool → House
opened explains =
    record { zero = (opening_of (as_host 0) house_params).end; one = (opening_of (as_host 1) house_params).end; messages = []; explains = explains }

-- the end that a line names, and the house after the line
abbrev pub end_at : Host → House → End
end_at n h = cond (eqb n.0 0) h.zero h.one

abbrev pub house_after : Host → Turn → House → House
house_after n t h =
    record {
      zero = cond (eqb n.0 0) t.left h.zero;
      one = cond (eqb n.0 0) h.one t.left;
      messages = t.messages;
      explains = h.explains;
    }

abbrev pub turn_at : Call → House → Turn
turn_at c h = played_by h.explains (end_at c.end h) c.verb c.clock h.messages

-- a line played in a house: what is printed, the house after it, and whether it stops
abbrev pub line_prints : Line → House → List ℕ
line_prints Malformed h = bad_line
line_prints (Play c) h = printed_line c.end c.clock (turn_at c h).printed

abbrev pub line_house : Line → House → House
line_house Malformed h = h
line_house (Play c) h = house_after c.end (turn_at c h) h

abbrev pub line_stops : Line → House → Bool
line_stops Malformed h = true
line_stops (Play c) h = is_bad (turn_at c h).printed

-- what a line prints, and then what the rest of the script prints, unless it "prints "bad" and stops"
abbrev pub after_line : Line → House → (House → List ℕ) → List ℕ
after_line l h rest = line_prints l h ++ cond (line_stops l h) [] (rest (line_house l h))

-- the end of the script: "a line feed after each line", so a line without one is malformed
abbrev pub at_end : List ℕ → List ℕ
at_end [] = []
at_end (b ∷ line) = bad_line

-- what is printed from a script, with the bytes of a line so far; 10 is the line feed
unfoldable pub prints_from : House → List ℕ → List ℕ → List ℕ
prints_from h line [] = at_end line
prints_from h line (b ∷ script) = cond (eqb b 10) (after_line (line_of line) h (λ next. prints_from next [] script)) (prints_from h (line ++ (b ∷ [])) script)

-- what is printed from a whole script, by a program that explains or not
abbrev pub prints_of : Bool → List ℕ → List ℕ
prints_of explains script = prints_from (opened explains) [] script

-- by "house"
abbrev pub house_of : List ℕ → List ℕ
house_of script = prints_of false script

-- by "why"
abbrev pub reasoned_of : List ℕ → List ℕ
reasoned_of script = prints_of true script
