-- The plain numbers between a host in C or Rust and the calls. An answer as one number: kind × 2^32 + source × 2^16 + (number, length, refusal
-- or reason). A number of 64 bits brought into a field: one that is too large becomes the field's largest, which no host has, and is never cut.
use Rattle.std.specs.Prelude.{ℕ, ◌+◌, ◌*◌, min, Bool, true, false}
use Rattle.message.specs.declared.Name.{Name}
use Rattle.message.specs.declared.Host.{Host}
use Rattle.message.specs.Entry.{as_host}
use Rattle.end.specs.declared.Answer.{Answer}
use Rattle.end.specs.declared.Answer.TheVariants.{Refused, Out, Got, Done, Ignored, Nothing, Clash, Late, Exhausted}

-- ---- the kinds: a refusal's is 0, so that its number is document 01's
abbrev pub OUT : ℕ
OUT = 1

abbrev pub GOT : ℕ
GOT = 2

abbrev pub DONE : ℕ
DONE = 3

abbrev pub IGNORED : ℕ
IGNORED = 4

abbrev pub NOTHING : ℕ
NOTHING = 5

abbrev pub CLASH : ℕ
CLASH = 6

abbrev pub LATE : ℕ
LATE = 7

abbrev pub EXHAUSTED : ℕ
EXHAUSTED = 8

-- why an event would be Ignored, an event that there is not, and a minute of a day
abbrev pub REASON : ℕ
REASON = 9

abbrev pub NO-EVENT : ℕ
NO-EVENT = 10

abbrev pub AT : ℕ
AT = 11

abbrev pub kind_most : ℕ
kind_most = 11

-- what a look tells where there is nothing to tell
abbrev pub NONE : ℕ
NONE = 18446744073709551615

-- a host's number, of 8 bits
abbrev pub host_of : ℕ → Host
host_of n = as_host (min n 255)

-- ---- a number of a kind
abbrev pub kind_unit : ℕ
kind_unit = 4294967296

abbrev pub of_kind : ℕ → ℕ → ℕ
of_kind kind rest = kind * kind_unit + rest

-- a kind with a name: its source and its number
abbrev pub named : ℕ → Name → ℕ
named kind n = of_kind kind (n.source.0 * 65536 + n.number.0)

-- Out with its length. No message is longer than 127 bytes; a length above 65,535 would be told as that
abbrev pub out_number : ℕ → ℕ
out_number len = of_kind OUT (min len 65535)

-- ---- an answer's number
abbrev pub number_of : Answer → ℕ
number_of (Refused q) = q
number_of (Out len) = out_number len
number_of (Got n) = named GOT n
number_of Done = of_kind DONE 0
number_of Ignored = of_kind IGNORED 0
number_of Nothing = of_kind NOTHING 0
number_of (Clash n) = named CLASH n
number_of (Late n) = named LATE n
number_of Exhausted = of_kind EXHAUSTED 0

abbrev pub is_refused : Answer → Bool
is_refused (Refused q) = true
is_refused (Out len) = false
is_refused (Got n) = false
is_refused Done = false
is_refused Ignored = false
is_refused Nothing = false
is_refused (Clash n) = false
is_refused (Late n) = false
is_refused Exhausted = false
