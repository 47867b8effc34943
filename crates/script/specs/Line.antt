-- What a line of a script means. Document 01, "Cases": "end, verb, clock, then focus or message number"; "the ends are hosts 0 and
-- 1; the verbs are join, joined, leave, left, crash, send, hear, fire, report"; "one space between words, a line feed after each
-- line, and decimal numbers without leading zeros or plus sign; a clock is below 2^64, a focus is a signed 16-bit number".
-- A line is given without its line feed. Characters are ASCII codes.
use Rattle.std.specs.Prelude.{ℤ, cond, List, [], ◌∷◌, ℕ, ltb, leb, length, None, Option, Some}
use Rattle.message.specs.Entry.{as_host}
use Rattle.decimal.specs.Decimal.{unsigned_word, signed_word}
use Rattle.script.specs.declared.Verb.{Verb}
use Rattle.script.specs.declared.Verb.TheVariants.{Join, Joined, Leave, Left, Crash, Send, Hear, Fire, Report}
use Rattle.script.specs.declared.Call.{Call}
use Rattle.script.specs.Words.{words, same}

-- what a line means: a call is played, or the line is malformed
abbrev pub Line : Type 0
Line = Option Call

pattern abbrev pub Play : Call → Line
Play c = Some c

pattern abbrev pub Malformed : Line
Malformed = None

-- the verbs' letters
abbrev pub join : List ℕ
join = 106 ∷ 111 ∷ 105 ∷ 110 ∷ []

abbrev pub joined : List ℕ
joined = 106 ∷ 111 ∷ 105 ∷ 110 ∷ 101 ∷ 100 ∷ []

abbrev pub leave : List ℕ
leave = 108 ∷ 101 ∷ 97 ∷ 118 ∷ 101 ∷ []

abbrev pub left : List ℕ
left = 108 ∷ 101 ∷ 102 ∷ 116 ∷ []

abbrev pub crash : List ℕ
crash = 99 ∷ 114 ∷ 97 ∷ 115 ∷ 104 ∷ []

abbrev pub send : List ℕ
send = 115 ∷ 101 ∷ 110 ∷ 100 ∷ []

abbrev pub hear : List ℕ
hear = 104 ∷ 101 ∷ 97 ∷ 114 ∷ []

abbrev pub fire : List ℕ
fire = 102 ∷ 105 ∷ 114 ∷ 101 ∷ []

abbrev pub report : List ℕ
report = 114 ∷ 101 ∷ 112 ∷ 111 ∷ 114 ∷ 116 ∷ []

-- a verb that has nothing after the clock: the last four, and all seven
unfoldable pub later_verb : List ℕ → Option Verb
later_verb v =
    cond (same v left) (Some Left)
    (cond (same v crash) (Some Crash)
    (cond (same v fire) (Some Fire)
    (cond (same v report) (Some Report) None)))

unfoldable pub plain_verb : List ℕ → Option Verb
plain_verb v =
    cond (same v join) (Some Join)
    (cond (same v joined) (Some Joined)
    (cond (same v leave) (Some Leave) (later_verb v)))

abbrev pub send_of : Option ℤ → Option Verb
send_of (Some z) = Some (Send z)
send_of None = None

abbrev pub hear_of : Option ℕ → Option Verb
hear_of (Some n) = Some (Hear n)
hear_of None = None

-- a verb with the word after the clock: a focus, or a message number
unfoldable pub verb_with : List ℕ → List ℕ → Option Verb
verb_with v x = cond (same v send) (send_of (signed_word x)) (cond (same v hear) (hear_of (unsigned_word x)) None)

-- an end, host 0 or 1, with a verb and a clock
abbrev pub call_at : ℕ → Verb → ℕ → Line
call_at e v t = cond (ltb e 2) (Play (record { end = as_host e; verb = v; clock = t })) Malformed

abbrev pub call_of : Option ℕ → Option Verb → Option ℕ → Line
call_of (Some e) (Some v) (Some t) = call_at e v t
call_of (Some e) (Some v) None = Malformed
call_of (Some e) None t = Malformed
call_of None v t = Malformed

-- three words, or four
unfoldable pub line_in : List (List ℕ) → Line
line_in [] = Malformed
line_in (e ∷ []) = Malformed
line_in (e ∷ v ∷ []) = Malformed
line_in (e ∷ v ∷ t ∷ []) = call_of (unsigned_word e) (plain_verb v) (unsigned_word t)
line_in (e ∷ v ∷ t ∷ x ∷ []) = call_of (unsigned_word e) (verb_with v x) (unsigned_word t)
line_in (e ∷ v ∷ t ∷ x ∷ y ∷ l) = Malformed

-- the same by three words and the fourth, if there is one
abbrev pub line_by : List ℕ → List ℕ → List ℕ → Option (List ℕ) → Line
line_by e v t None = call_of (unsigned_word e) (plain_verb v) (unsigned_word t)
line_by e v t (Some x) = call_of (unsigned_word e) (verb_with v x) (unsigned_word t)

-- what a line means. The longest that can be played is `1 send 18446744073709551615 -32768`, of 34 bytes: a longer one whose
-- words are right hears a message with a number of 64 or more, which there is not (proofs/LongLines.antt)
unfoldable pub line_of : List ℕ → Line
line_of s = cond (leb (length s) 34) (line_in (words s)) Malformed
