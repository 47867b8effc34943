-- The numbers that more than one rule goes by, each under its sentence of document 01 or 02. The code's names for them are constants of
-- src/lib.rt.
use Rattle.std.specs.Prelude.{ℕ}

-- "Hosts are 0..7"
abbrev pub host_limit : ℕ
host_limit = 8

-- document 02, P7: "Cue numbers become 0..65535"
abbrev pub number_limit : ℕ
number_limit = 65536

-- "the old kinds are still read, numbers to 63"
abbrev pub old_number_limit : ℕ
old_number_limit = 64

-- "Clocks are 0..2^48−1 ticks"; "stamps and held ticks below 2^48"
abbrev pub ticks_limit : ℕ
ticks_limit = 281474976710656

-- "Has the output at least 128 bytes?"
abbrev pub room_needed : ℕ
room_needed = 128
