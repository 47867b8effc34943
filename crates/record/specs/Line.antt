-- What a line of a run's record means. Document 02, P13: "A program reads lines: join, joined, leave, left, crash with a host; send with
-- host, number and the cue as 48 hexadecimal digits, letters capital; got with host, source, number and cue." Document 01, "Cases": "here
-- and in later text inputs there is one space between words, a line feed after each line, and decimal numbers without leading zeros or plus
-- sign". A line is given without its line feed. Characters are ASCII codes: 48 is "0", 65 is "A", 70 is "F".
use Rattle.std.specs.Prelude.{Bool, true, cond, ◌&&◌, ◌||◌, List, [], ◌∷◌, ℕ, ◌+◌, ◌*◌, ◌-◌, ltb, leb, eqb, length, None, Option, Some}
use Rattle.message.specs.Limit.{host_limit, number_limit}
use Rattle.message.specs.Cue.{cue_in}
use Rattle.message.specs.Entry.{as_host, as_number, blank_cue}
use Rattle.end.specs.declared.Move.{Move}
use Rattle.end.specs.declared.Move.TheVariants.{Join, Joined, Leave, Left, Crash}
use Rattle.decimal.specs.Decimal.{is_digit, unsigned_word}
use Rattle.script.specs.Words.{words, same}
use Rattle.script.specs.Line.{join, joined, leave, left, crash, send}
use Rattle.record.specs.declared.Said.TheVariants.{Malformed, Moved, Sent, Got}
use Rattle.record.specs.declared.Line.{Line}

-- ---- words

-- "join, joined, leave, left, crash"
unfoldable pub move_word : List ℕ → Option Move
move_word v =
    cond (same v join) (Some Join)
    (cond (same v joined) (Some Joined)
    (cond (same v leave) (Some Leave)
    (cond (same v left) (Some Left)
    (cond (same v crash) (Some Crash) None))))

-- "got"; the other words' letters are those of a script
abbrev pub got : List ℕ
got = 103 ∷ 111 ∷ 116 ∷ []

-- "hexadecimal digits, letters capital"
abbrev pub is_capital : ℕ → Bool
is_capital c = leb 65 c && leb c 70

abbrev pub is_hex : ℕ → Bool
is_hex c = is_digit c || is_capital c

unfoldable pub all_hex : List ℕ → Bool
all_hex [] = true
all_hex (c ∷ s) = is_hex c && all_hex s

-- what a digit stands for
abbrev pub hex_value : ℕ → ℕ
hex_value c = cond (is_digit c) (c - 48) (cond (is_capital c) (c - 55) 0)

-- the bytes that digits stand for, two to a byte
unfoldable pub bytes_in : List ℕ → List ℕ
bytes_in [] = []
bytes_in (c ∷ []) = []
bytes_in (c ∷ d ∷ s) = (hex_value c * 16 + hex_value d) ∷ bytes_in s

-- "the cue as 48 hexadecimal digits", in range
unfoldable pub cue_word : List ℕ → Option (List ℕ)
cue_word w = cond (eqb (length w) 48 && (all_hex w && cue_in (bytes_in w))) (Some (bytes_in w)) None

-- ---- lines; where a line has no cue, zeros stand in its place
abbrev pub malformed : Line
malformed = record { said = Malformed; cue = blank_cue }

abbrev pub moved : Move → ℕ → Line
moved m h = record { said = Moved m (as_host h); cue = blank_cue }

abbrev pub sent : ℕ → ℕ → List ℕ → Line
sent h n cue = record { said = Sent (as_host h) (as_number n); cue = cue }

abbrev pub handed_out : ℕ → ℕ → ℕ → List ℕ → Line
handed_out h s n cue = record { said = Got (as_host h) (record { source = as_host s; number = as_number n }); cue = cue }

-- "a malformed line (host above 7, number above 65,535, cue out of range ..)"
abbrev pub host_is : ℕ → Bool
host_is h = ltb h host_limit

abbrev pub number_is : ℕ → Bool
number_is n = ltb n number_limit

abbrev pub moved_of : Option Move → Option ℕ → Line
moved_of (Some m) (Some h) = cond (host_is h) (moved m h) malformed
moved_of (Some m) None = malformed
moved_of None h = malformed

abbrev pub sent_of : Option ℕ → Option ℕ → Option (List ℕ) → Line
sent_of (Some h) (Some n) (Some cue) = cond (host_is h && number_is n) (sent h n cue) malformed
sent_of (Some h) (Some n) None = malformed
sent_of (Some h) None c = malformed
sent_of None n c = malformed

abbrev pub got_of : Option ℕ → Option ℕ → Option ℕ → Option (List ℕ) → Line
got_of (Some h) (Some s) (Some n) (Some cue) = cond (host_is h && (host_is s && number_is n)) (handed_out h s n cue) malformed
got_of (Some h) (Some s) (Some n) None = malformed
got_of (Some h) (Some s) None c = malformed
got_of (Some h) None n c = malformed
got_of None s n c = malformed

-- two words, four, or five
unfoldable pub moved_in : List ℕ → List ℕ → Line
moved_in v h = moved_of (move_word v) (unsigned_word h)

unfoldable pub sent_in : List ℕ → List ℕ → List ℕ → List ℕ → Line
sent_in v h n c = cond (same v send) (sent_of (unsigned_word h) (unsigned_word n) (cue_word c)) malformed

unfoldable pub got_in : List ℕ → List ℕ → List ℕ → List ℕ → List ℕ → Line
got_in v h s n c = cond (same v got) (got_of (unsigned_word h) (unsigned_word s) (unsigned_word n) (cue_word c)) malformed

unfoldable pub line_in : List (List ℕ) → Line
line_in [] = malformed
line_in (v ∷ []) = malformed
line_in (v ∷ h ∷ []) = moved_in v h
line_in (v ∷ h ∷ n ∷ []) = malformed
line_in (v ∷ h ∷ n ∷ c ∷ []) = sent_in v h n c
line_in (v ∷ h ∷ s ∷ n ∷ c ∷ []) = got_in v h s n c
line_in (v ∷ h ∷ s ∷ n ∷ c ∷ x ∷ l) = malformed

-- what a line means
abbrev pub line_of : List ℕ → Line
line_of s = line_in (words s)
