-- The meaning of a line, computed on examples: what is right, and each kind of malformed line.
use mathlib.Core.Path.{◌≡◌, refl}
use mathlib.Core.List.{List, [], ◌∷◌, ◌++◌}
use Prim.Native.Nat.{ℕ}
use lib.ListN.{set, replicate}
use Rattle.numbers.specs.Number.{value_after as numberAfter}
use Rattle.message.specs.Cue.{cue_in}
use Rattle.message.specs.Entry.{blank_cue}
use Rattle.end.specs.declared.Move.TheVariants.{Join, Left}
use Rattle.decimal.specs.Decimal.{all_digits, well_written, value_after, unsigned_word}
use Rattle.script.specs.Words.{onto, words, same}
use Rattle.script.specs.Line.{join, left, send}
use Rattle.record.specs.declared.Line.{Line}
use Rattle.record.specs.Line.{got, move_word, all_hex, bytes_in, cue_word, malformed, moved, sent, handed_out, moved_in, sent_in, got_in, line_in, line_of}

-- every definition is opened
read : List ℕ → Line
unfolding numberAfter cue_in all_digits well_written value_after unsigned_word onto words same move_word all_hex bytes_in cue_word moved_in sent_in got_in line_in
read s = line_of s

-- 48 digits "0"; the same with "FFFE" in front, which is focus −2; and with "03E8" for the lamp, which is 1000
abbrev zeros : List ℕ
zeros = replicate 48 48

abbrev minus_two_lem : List ℕ
minus_two_lem = 70 ∷ 70 ∷ 70 ∷ 69 ∷ replicate 44 48

abbrev lamp : ℕ → List ℕ
lamp last = replicate 16 48 ++ (48 ∷ 51 ∷ 69 ∷ last ∷ replicate 28 48)

-- "join 7"; "left 0"
a_join : read (join ++ (32 ∷ 55 ∷ [])) ≡ moved Join 7
unfolding read
a_join = refl

a_left : read (left ++ (32 ∷ 48 ∷ [])) ≡ moved Left 0
unfolding read
a_left = refl

-- "send 3 65535 FFFE00..": the largest number, and focus −2
a_send : read (send ++ (32 ∷ 51 ∷ 32 ∷ 54 ∷ 53 ∷ 53 ∷ 51 ∷ 53 ∷ 32 ∷ minus_two_lem)) ≡ sent 3 65535 (set (set blank_cue 0 255) 1 254)
unfolding read
a_send = refl

-- "got 1 0 12 00..": host, source, number, cue
a_got : read (got ++ (32 ∷ 49 ∷ 32 ∷ 48 ∷ 32 ∷ 49 ∷ 50 ∷ 32 ∷ zeros)) ≡ handed_out 1 0 12 blank_cue
unfolding read
a_got = refl

-- lamp 1000 is in range, 1001 is not
lamp_most : read (send ++ (32 ∷ 48 ∷ 32 ∷ 48 ∷ 32 ∷ lamp 56)) ≡ sent 0 0 (set (set blank_cue 8 3) 9 232)
unfolding read
lamp_most = refl

lamp_over : read (send ++ (32 ∷ 48 ∷ 32 ∷ 48 ∷ 32 ∷ lamp 57)) ≡ malformed
unfolding read
lamp_over = refl

-- "join 8": a host above 7; "got 1 8 0 ..": a source
host-over : read (join ++ (32 ∷ 56 ∷ [])) ≡ malformed
unfolding read
host-over = refl

source-over : read (got ++ (32 ∷ 49 ∷ 32 ∷ 56 ∷ 32 ∷ 48 ∷ 32 ∷ zeros)) ≡ malformed
unfolding read
source-over = refl

-- "send 3 65536 ..": a number above 65,535
number-over : read (send ++ (32 ∷ 51 ∷ 32 ∷ 54 ∷ 53 ∷ 53 ∷ 51 ∷ 54 ∷ 32 ∷ minus_two_lem)) ≡ malformed
unfolding read
number-over = refl

-- "join 07", "join +7": a leading zero, a plus sign
leading_zero : read (join ++ (32 ∷ 48 ∷ 55 ∷ [])) ≡ malformed
unfolding read
leading_zero = refl

plus_sign : read (join ++ (32 ∷ 43 ∷ 55 ∷ [])) ≡ malformed
unfolding read
plus_sign = refl

-- "fffe..": letters that are not capital; 47 digits, and 49
small_letters : read (send ++ (32 ∷ 51 ∷ 32 ∷ 48 ∷ 32 ∷ 102 ∷ 102 ∷ 102 ∷ 101 ∷ replicate 44 48)) ≡ malformed
unfolding read
small_letters = refl

few-digits : read (send ++ (32 ∷ 51 ∷ 32 ∷ 48 ∷ 32 ∷ replicate 47 48)) ≡ malformed
unfolding read
few-digits = refl

many-digits : read (send ++ (32 ∷ 51 ∷ 32 ∷ 48 ∷ 32 ∷ replicate 49 48)) ≡ malformed
unfolding read
many-digits = refl

-- an empty line; "join"; "join  7"; "join 7 "; "Join 7"; "send 3 0"; "got" with the words of a send
no_words : read [] ≡ malformed
unfolding read
no_words = refl

no_host : read join ≡ malformed
unfolding read
no_host = refl

two_spaces : read (join ++ (32 ∷ 32 ∷ 55 ∷ [])) ≡ malformed
unfolding read
two_spaces = refl

space_after : read (join ++ (32 ∷ 55 ∷ 32 ∷ [])) ≡ malformed
unfolding read
space_after = refl

capital_verb : read (74 ∷ 111 ∷ 105 ∷ 110 ∷ 32 ∷ 55 ∷ []) ≡ malformed
unfolding read
capital_verb = refl

no_cue_lem : read (send ++ (32 ∷ 51 ∷ 32 ∷ 48 ∷ [])) ≡ malformed
unfolding read
no_cue_lem = refl

no_source_lem : read (got ++ (32 ∷ 51 ∷ 32 ∷ 48 ∷ 32 ∷ zeros)) ≡ malformed
unfolding read
no_source_lem = refl
