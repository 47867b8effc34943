-- The line that is printed for a played line of a script. Document 01, "Cases": "prints, without header, end, clock, answer; after
-- out the message number, after got source, cue number and focus, after "refused" the number". Characters are ASCII codes: 32 is
-- the space, 10 the line feed. Document 02, P4: after clash, which a script cannot bring about, source and cue number. P9: neither can it
-- late, which is "written as Got is", and exhausted. Where the reason is asked for too, its words stand after "ignored": document 02, P3.
use Rattle.std.specs.Prelude.{List, [], ◌∷◌, ◌++◌, ℕ, ℤ}
use Rattle.message.specs.declared.Host.{Host}
use Rattle.message.specs.declared.Name.{Name}
use Rattle.decimal.specs.Decimal.{decimal, signed_decimal}
use Rattle.end.specs.Why.{reason_words}
use Rattle.answers.specs.declared.Shown.{Shown}
use Rattle.answers.specs.declared.Shown.TheVariants.{Out, Got, Done, Ignored, IgnoredFor, Nothing, Refused, Clash, Late, Exhausted}

-- the answers' letters; a space follows where a number does, and a colon and a space where a reason does
abbrev pub out : List ℕ
out = 111 ∷ 117 ∷ 116 ∷ 32 ∷ []

abbrev pub got : List ℕ
got = 103 ∷ 111 ∷ 116 ∷ 32 ∷ []

abbrev pub done : List ℕ
done = 100 ∷ 111 ∷ 110 ∷ 101 ∷ []

abbrev pub ignored : List ℕ
ignored = 105 ∷ 103 ∷ 110 ∷ 111 ∷ 114 ∷ 101 ∷ 100 ∷ []

abbrev pub ignored_for : List ℕ
ignored_for = ignored ++ (58 ∷ 32 ∷ [])

abbrev pub nothing : List ℕ
nothing = 110 ∷ 111 ∷ 116 ∷ 104 ∷ 105 ∷ 110 ∷ 103 ∷ []

abbrev pub refused : List ℕ
refused = 114 ∷ 101 ∷ 102 ∷ 117 ∷ 115 ∷ 101 ∷ 100 ∷ 32 ∷ []

abbrev pub clash : List ℕ
clash = 99 ∷ 108 ∷ 97 ∷ 115 ∷ 104 ∷ 32 ∷ []

abbrev pub late : List ℕ
late = 108 ∷ 97 ∷ 116 ∷ 101 ∷ 32 ∷ []

abbrev pub exhausted : List ℕ
exhausted = 101 ∷ 120 ∷ 104 ∷ 97 ∷ 117 ∷ 115 ∷ 116 ∷ 101 ∷ 100 ∷ []

-- a number and a space
abbrev pub spaced : ℕ → List ℕ
spaced n = decimal n ++ (32 ∷ [])

-- a name and the focus of its cue
abbrev pub cue_words : Name → ℤ → List ℕ
cue_words name focus = spaced name.source.0 ++ (spaced name.number.0 ++ signed_decimal focus)

-- an answer with its values
unfoldable pub answer_words : Shown → List ℕ
answer_words (Out message) = out ++ decimal message
answer_words (Got name focus) = got ++ cue_words name focus
answer_words Done = done
answer_words Ignored = ignored
answer_words (IgnoredFor reason) = ignored_for ++ reason_words reason
answer_words Nothing = nothing
answer_words (Refused question) = refused ++ decimal question
answer_words (Clash name) = clash ++ (spaced name.source.0 ++ decimal name.number.0)
answer_words (Late name focus) = late ++ cue_words name focus
answer_words Exhausted = exhausted

-- the line: end, clock, answer, line feed
unfoldable pub answer_line : Host → ℕ → Shown → List ℕ
answer_line end clock a = spaced end.0 ++ (spaced clock ++ (answer_words a ++ (10 ∷ [])))
