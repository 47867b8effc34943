-- A source's records by cue number. Document 01, "What an end keeps": "first and last (both or neither)"; "For each name: the held cue, or
-- one waiting request ..; with a held cue perhaps one waiting reply .., and a reply-quiet time". Rules and theorems read a record by
-- `record_at` and store one by `with_record`; where a number's record stands (`place`) is known here, to the draws, to the walk by which
-- last rises (`filled`) and to soundness. Document 02, P7: "An end keeps the latest 64 numbers of each source".
use Rattle.std.specs.Prelude.{ℕ, ◌+◌, ◌-◌, ◌%◌, Bool, true, false, cond, ◌&&◌, List, get_or, set, ltb, leb}
use Rattle.end.specs.declared.Slot.{Slot}
use Rattle.end.specs.declared.Slot.TheVariants.{Empty, Held, Waiting}
use Rattle.end.specs.Parts.{Express, Unset, Soon, Reply, No, Due, Span, Closed, Open, Origin, NoOrigin, From}
use Rattle.end.specs.declared.Record.{Record}
use Rattle.end.specs.declared.Attempt.{Attempt}
use Rattle.end.specs.declared.Source.{Source}
use Rattle.end.specs.State.{no_record, blank_record, no_attempt, with_names, with_attempts}

-- ---- first and last
abbrev pub is_closed : Span → Bool
is_closed Closed = true
is_closed (Open first last) = false

-- first..last
abbrev pub within : Span → ℕ → Bool
within Closed n = false
within (Open first last) n = leb first.0 n && leb n last.0

abbrev pub is_below : Span → ℕ → Bool
is_below Closed n = false
is_below (Open first last) n = ltb n first.0

abbrev pub is_above : Span → ℕ → Bool
is_above Closed n = false
is_above (Open first last) n = ltb last.0 n

-- the first of the numbers first..last, and how many they are
abbrev pub start : Span → ℕ
start Closed = 0
start (Open first last) = first.0

abbrev pub width : Span → ℕ
width Closed = 0
width (Open first last) = last.0 + 1 - first.0

-- ---- the record of a number

-- the place of a cue number, among a source's records and among the draws: "Cue number n uses draw n mod 64." (document 02, P7)
abbrev pub place : ℕ → ℕ
place n = n % 64

-- what stands in a number's place
abbrev pub raw_at : List Record → ℕ → Record
raw_at names n = get_or names (place n) no_record

-- the record of a number: outside first..last an end has nothing of it. (Cue bytes that stand in a place outside are free: no rule
-- reads them.)
unfoldable pub record_at : Source → ℕ → Record
record_at s n = cond (within s.span n) (raw_at s.names n) blank_record

-- the record of a number in first..last stored
abbrev pub with_record : Source → ℕ → Record → Source
with_record s n r = with_names s (set s.names (place n) r)

-- ---- what a slot says
abbrev pub is_held : Slot → Bool
is_held Empty = false
is_held (Held reply) = true
is_held (Waiting q x) = false

abbrev pub is_no : Reply → Bool
is_no No = true
is_no (Due due requester) = false

-- the reply beside a held cue
abbrev pub reply_in : Slot → Reply
reply_in Empty = No
reply_in (Held reply) = reply
reply_in (Waiting q x) = No

-- the slot of a held cue with this reply; beside anything else there is none
abbrev pub with_reply : Reply → Slot → Slot
with_reply reply Empty = Empty
with_reply reply (Held was) = Held reply
with_reply reply (Waiting q x) = Waiting q x

-- the express wait beside a request
abbrev pub express_in : Slot → Express
express_in Empty = Unset
express_in (Held reply) = Unset
express_in (Waiting q x) = x

abbrev pub with_express : Express → Slot → Slot
with_express x Empty = Empty
with_express x (Held reply) = Held reply
with_express x (Waiting q was) = Waiting q x

-- ---- the marks of a number below a source's first original. Document 02, P9

-- "any of the 64 numbers just below the first original it had since joining from another host"
abbrev pub fetchable : Origin → ℕ → Bool
fetchable NoOrigin n = false
fetchable (From first) n = ltb n first.0 && leb first.0 (n + 64)

-- what an end has done to fetch a number: of any other number, nothing
unfoldable pub attempt_at : Source → ℕ → Attempt
attempt_at s n = cond (fetchable s.origin n) (get_or s.attempts (place n) no_attempt) no_attempt

-- the marks of a number that may be fetched stored
abbrev pub with_attempt : Source → ℕ → Attempt → Source
with_attempt s n a = with_attempts s (set s.attempts (place n) a)
