-- The kinds of messages. Document 01, "Messages", with document 02, P7: "under kinds 17 to 20 for 1 to 4":
--   | Kind    | counts        | host in the name                         |
--   | 17 DATA | 1,1,0,0       | the source, also the sender              |
--   | 18 RQST | 1,0,0,0       | the sender, not the source               |
--   | 19 REPL | 1,1,0,0       | the requester, neither sender nor source |
--   | 20 SESS | 0,0,0..8,0..7 | none                                     |
-- and P8: "kind 21, laid out as kind 18 ..; host and source differ from its own sender":
--   | 21 XPRS | 1,0,0,0       | not the sender; nor is the source        |
-- and P9: "Fetch, kind 22, is shaped as kind 21 with the host tried as host; its cue, kind 23, as REPL":
--   | 22 FTCH | 1,0,0,0       | not the sender; nor is the source        |
--   | 23 LATE | 1,1,0,0       | the requester, neither sender nor source |
-- and P11: "kind 24, two names laid out as kind 18's with the sender as source and host":
--   | 24 ANNC | 2,0,0,0       | the source, also the sender              |
-- Questions 9 (the counts) and 11 (the host) go by a kind's row; of two names question 11 also compares the numbers (Question.antt). A kind
-- that comes later is a line of `table`, and one of `message::row_of`.
use Rattle.std.specs.Prelude.{ℕ, ◌+◌, ◌-◌, Bool, false, cond, ◌&&◌, List, [], ◌∷◌, eqb, leb, Option, Some, None, is_some}
use Rattle.message.specs.Limit.{number_limit, old_number_limit}
use Rattle.message.specs.declared.HostRule.{HostRule}
use Rattle.message.specs.declared.HostRule.TheVariants.{SourceAndSender, SenderNotSource, NeitherSenderNorSource, AnotherOfAnother, NoHost}
use Rattle.message.specs.declared.Counts.{Counts}
use Rattle.message.specs.declared.Row.{Row}

abbrev pub DATA : ℕ
DATA = 17

abbrev pub RQST : ℕ
RQST = 18

abbrev pub REPL : ℕ
REPL = 19

abbrev pub SESS : ℕ
SESS = 20

abbrev pub XPRS : ℕ
XPRS = 21

abbrev pub FTCH : ℕ
FTCH = 22

abbrev pub LATE : ℕ
LATE = 23

abbrev pub ANNC : ℕ
ANNC = 24

-- a kind's row: so many names and cues, at most so many reports and echoes, the rule of the host
abbrev pub row : ℕ → ℕ → ℕ → ℕ → HostRule → Row
row names cues reports echoes host = record { names = names; cues = cues; reports = reports; echoes = echoes; host = host }

abbrev pub table : List (ℕ × Row)
table =
    (DATA, row 1 1 0 0 SourceAndSender)
    ∷ (RQST, row 1 0 0 0 SenderNotSource)
    ∷ (REPL, row 1 1 0 0 NeitherSenderNorSource)
    ∷ (SESS, row 0 0 8 7 NoHost)
    ∷ (XPRS, row 1 0 0 0 AnotherOfAnother)
    ∷ (FTCH, row 1 0 0 0 AnotherOfAnother)
    ∷ (LATE, row 1 1 0 0 NeitherSenderNorSource)
    ∷ (ANNC, row 2 0 0 0 SourceAndSender)
    ∷ []

-- the row of a kind; a byte that is no kind has none
abbrev pub row_in : List (ℕ × Row) → ℕ → Option Row
row_in [] kind = None
row_in (line ∷ lines) kind = cond (eqb kind line.0) (Some line.1) (row_in lines kind)

abbrev pub row_of : ℕ → Option Row
row_of kind = row_in table kind

abbrev pub is_kind : ℕ → Bool
is_kind kind = is_some (row_of kind)

-- the row, and one without entries and without a host where there is none
abbrev pub no_row : Row
no_row = row 0 0 0 0 NoHost

abbrev pub row_or : Option Row → Row
row_or None = no_row
row_or (Some r) = r

abbrev pub row_at : ℕ → Row
row_at kind = row_or (row_of kind)

-- 9: "Is the kind 1..4 with its counts?": whether there is a row, with these counts
abbrev pub has_counts : Option Row → Counts → Bool
has_counts None c = false
has_counts (Some r) c = eqb c.names r.names && (eqb c.cues r.cues && (leb c.reports r.reports && leb c.echoes r.echoes))

-- ---- The kind byte that starts a message: a kind, or document 01's number of it.

-- P7: "the old kinds are still read": 1 to 4
abbrev pub is_old : ℕ → Bool
is_old byte = leb 1 byte && leb byte 4

-- "under kinds 17 to 20 for 1 to 4": how much a kind is above its old number
abbrev pub kind_shift : ℕ
kind_shift = 16

-- the kind of a message that starts with this byte: "the old kinds are still read .. as the same meanings"
abbrev pub kind_of : ℕ → ℕ
kind_of byte = cond (is_old byte) (byte + kind_shift) byte

-- how many bytes a cue number has after this byte: "two bytes in names and reports", and one in the old kinds. "Question 8 counts kinds 1 to
-- 4 by the old sizes and every other kind byte by the new."
abbrev pub number_width : ℕ → ℕ
number_width byte = cond (is_old byte) 1 2

-- how many bytes of a cue number a `CueNumber` can hold: no kind byte asks for more
abbrev pub widest_number : ℕ
widest_number = 2

-- the greatest cue number after this byte: "Cue numbers become 0..65535"; "the old kinds are still read, numbers to 63"
abbrev pub most_number : ℕ → ℕ
most_number byte = cond (is_old byte) (old_number_limit - 1) (number_limit - 1)
