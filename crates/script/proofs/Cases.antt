-- The definition of a line's meaning, computed on examples.
use mathlib.Core.Path.{◌≡◌, refl}
use mathlib.Core.List.{List, [], ◌∷◌, ◌++◌}
use Prim.Native.Nat.{ℕ}
use lib.IntN.{negsuc}
use Rattle.message.specs.Entry.{as_host}
use Rattle.decimal.specs.Decimal.{all_digits, well_written, value_after, unsigned_word, signed_word}
use Rattle.script.specs.declared.Verb.TheVariants.{Join, Send, Hear, Report}
use Rattle.script.specs.Line.{Play, Malformed}
use Rattle.script.specs.Words.{onto, words, same}
use Rattle.script.specs.Line.{join, send, hear, report, fire, later_verb, plain_verb, verb_with, line_in, line_of}

-- "0 join 0"
a_join : line_of (48 ∷ 32 ∷ join ++ (32 ∷ 48 ∷ [])) ≡ Play (record { end = as_host 0; verb = Join; clock = 0 })
unfolding line_of line_in plain_verb later_verb words onto same unsigned_word well_written value_after
a_join = refl

-- "0 send 10 -2"
a_send : line_of (48 ∷ 32 ∷ send ++ (32 ∷ 49 ∷ 48 ∷ 32 ∷ 45 ∷ 50 ∷ [])) ≡ Play (record { end = as_host 0; verb = Send (negsuc 1); clock = 10 })
unfolding line_of line_in verb_with words onto same signed_word unsigned_word well_written all_digits value_after
a_send = refl

-- "1 hear 12 0"
a_hear : line_of (49 ∷ 32 ∷ hear ++ (32 ∷ 49 ∷ 50 ∷ 32 ∷ 48 ∷ [])) ≡ Play (record { end = as_host 1; verb = Hear 0; clock = 12 })
unfolding line_of line_in verb_with words onto same unsigned_word well_written all_digits value_after
a_hear = refl

-- "1 report 7"
a_report : line_of (49 ∷ 32 ∷ report ++ (32 ∷ 55 ∷ [])) ≡ Play (record { end = as_host 1; verb = Report; clock = 7 })
unfolding line_of line_in plain_verb later_verb words onto same unsigned_word well_written value_after
a_report = refl

-- 2^64 − 1, and the longest line that is right: `1 send 18446744073709551615 -32768`
largest : List ℕ
largest = 49 ∷ 56 ∷ 52 ∷ 52 ∷ 54 ∷ 55 ∷ 52 ∷ 52 ∷ 48 ∷ 55 ∷ 51 ∷ 55 ∷ 48 ∷ 57 ∷ 53 ∷ 53 ∷ 49 ∷ 54 ∷ 49 ∷ 53 ∷ []

longest : line_of (49 ∷ 32 ∷ send ++ (32 ∷ largest ++ (32 ∷ 45 ∷ 51 ∷ 50 ∷ 55 ∷ 54 ∷ 56 ∷ [])))
    ≡ Play (record { end = as_host 1; verb = Send (negsuc 32767); clock = 18446744073709551615 })
unfolding line_of line_in verb_with words onto same signed_word unsigned_word well_written all_digits value_after largest
longest = refl

-- the empty line; " 0 fire 0"; "0 fire 0 "; "0  fire 0"; "0 fire"; "0 fire 0 0"; "0 send 0"
empty_line : line_of [] ≡ Malformed
unfolding line_of line_in words
empty_line = refl

space_before : line_of (32 ∷ 48 ∷ 32 ∷ fire ++ (32 ∷ 48 ∷ [])) ≡ Malformed
unfolding line_of line_in verb_with words onto same unsigned_word well_written
space_before = refl

space_after : line_of (48 ∷ 32 ∷ fire ++ (32 ∷ 48 ∷ 32 ∷ [])) ≡ Malformed
unfolding line_of line_in verb_with words onto same unsigned_word well_written value_after
space_after = refl

two_spaces : line_of (48 ∷ 32 ∷ 32 ∷ fire ++ (32 ∷ 48 ∷ [])) ≡ Malformed
unfolding line_of line_in verb_with words onto same unsigned_word well_written value_after
two_spaces = refl

no_clock : line_of (48 ∷ 32 ∷ fire) ≡ Malformed
unfolding line_of line_in words onto
no_clock = refl

one_word_more : line_of (48 ∷ 32 ∷ fire ++ (32 ∷ 48 ∷ 32 ∷ 48 ∷ [])) ≡ Malformed
unfolding line_of line_in verb_with words onto same unsigned_word well_written value_after
one_word_more = refl

no_focus : line_of (48 ∷ 32 ∷ send ++ (32 ∷ 48 ∷ [])) ≡ Malformed
unfolding line_of line_in plain_verb later_verb words onto same unsigned_word well_written value_after
no_focus = refl

-- "2 fire 0"; "0 Fire 0"; "0 fire 0" with a carriage return
end-two : line_of (50 ∷ 32 ∷ fire ++ (32 ∷ 48 ∷ [])) ≡ Malformed
unfolding line_of line_in plain_verb later_verb words onto same unsigned_word well_written value_after
end-two = refl

capital : line_of (48 ∷ 32 ∷ 70 ∷ 105 ∷ 114 ∷ 101 ∷ 32 ∷ 48 ∷ []) ≡ Malformed
unfolding line_of line_in plain_verb later_verb words onto same unsigned_word well_written value_after
capital = refl

carriage_return : line_of (48 ∷ 32 ∷ fire ++ (32 ∷ 48 ∷ 13 ∷ [])) ≡ Malformed
unfolding line_of line_in plain_verb later_verb words onto same unsigned_word well_written all_digits value_after
carriage_return = refl
