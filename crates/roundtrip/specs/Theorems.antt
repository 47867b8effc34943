-- What reader and writer promise each other, as statements; proofs/RoundTrip.antt proves each. Demand 2: "Each message written
-- reads back as itself, and each accepted message is the very bytes that its meaning is written as." Since document 02, P5, they are about
-- datagrams: a message, or the probe, which is written as no bytes. Since P7 "the old kinds are still read, numbers to 63, as the same meanings
-- and no longer written, so reading back is exact for the new kinds": of an old kind's bytes they say what document 01 says.
-- `read_refusal` and `write_refusal` are 0 where nothing is refused; `reader::read` is proved to be `read_of`, and `writer::write` and
-- `writer::write_probe` to be `written_of` and `output_of` of a message and of the probe.
use Rattle.std.specs.Prelude.{◌≡◌, ℕ, ◌-◌, ◌≤◌, ◌<◌, true, false, List, [], length, take}
use Rattle.std.proofs.Math.Option.{Option, none, some}
use Rattle.numbers.specs.Number.{Bytes}
use Rattle.message.specs.Limit.{old_number_limit, room_needed}
use Rattle.message.specs.Kind.{is_old, kind_shift}
use Rattle.message.specs.Entry.{cue_width}
use Rattle.message.specs.Message.{name_places, report_places, echo_places, Meaning, meaning_of, kind_byte, old_bytes_of, Datagram, Probe, Saying, said_by, datagram_bytes}
use Rattle.message.specs.Question.{in_range, read_of, datagram_in, write_refusal, written_of, output_of}
use Rattle.message.specs.declared.NameEntry.{NameEntry}
use Rattle.message.specs.declared.Report.{Report}
use Rattle.message.specs.declared.Message.{Message}
use Rattle.message.proofs.SectionLaws.{All}

-- The arrays of a message have their lengths. Any value of the declared type does; at the level of definitions an array is a list.
pub record Arrays (m : Message) : Type 0 where
  pub names : length m.names ≡ name_places
  pub cue : length m.cue ≡ cue_width
  pub reports : length m.reports ≡ report_places
  pub echoes : length m.echoes ≡ echo_places

abbrev pub Sized : Datagram Message → Type 0
Sized Probe = Unit {0}
Sized (Saying m) = Arrays m

-- the bytes that the writer put into an output
abbrev pub wire_of : Datagram Message → List ℕ → List ℕ
wire_of d out = take (written_of d out).len (output_of d out)

-- what bytes say to the reader: nothing where it refuses them
abbrev pub saying_of : Option (Datagram Message) → Option (Datagram Meaning)
saying_of none = none
saying_of (some d) = some (said_by d)

abbrev pub said_in : List ℕ → Option (Datagram Meaning)
said_in s = saying_of (datagram_in (read_of s))

-- Each datagram that the writer accepts reads back as itself: a message as its meaning, the probe as the probe.
abbrev pub ReadsBack : Type 0
ReadsBack = (d : Datagram Message) (out : List ℕ) → Sized d → write_refusal d out ≡ 0 → said_in (wire_of d out) ≡ some (said_by d)

-- Each byte string of no old kind that the reader accepts is exactly what it says is written as: so the probe is no bytes, and no bytes are
-- the probe.
abbrev pub VeryBytes : Type 0
VeryBytes = (s : List ℕ) (M : Datagram Meaning) → Bytes s → is_old (kind_byte s) ≡ false → said_in s ≡ some M → datagram_bytes M ≡ s

-- Each byte string of an old kind that the reader accepts is exactly what its meaning is written as in document 01.
abbrev pub OldBytes : Type 0
OldBytes = (s : List ℕ) (M : Meaning) → Bytes s → is_old (kind_byte s) ≡ true → said_in s ≡ some (Saying M) → old_bytes_of M ≡ s

-- Its cue numbers are at most 63.
abbrev pub OldNumbers : Type 0
OldNumbers = (s : List ℕ) (M : Meaning) → is_old (kind_byte s) ≡ true → said_in s ≡ some (Saying M)
    → All (λ (n : NameEntry). n.name.number.0 < old_number_limit) M.names × All (λ (r : Report). r.last.0 < old_number_limit) M.reports

-- And from these bytes each message of kinds 17 to 20 is still read that the writer accepts and whose cue numbers are at most 63.
abbrev pub StillRead : Type 0
StillRead = (m : Message) (out : List ℕ) → Arrays m → write_refusal (Saying m) out ≡ 0 → is_old (m.kind - kind_shift) ≡ true
    → in_range (old_number_limit - 1) (meaning_of m) ≡ true → said_in (old_bytes_of (meaning_of m)) ≡ some (Saying (meaning_of m))

-- What the reader accepts the writer accepts, into any output that is long enough, and what it writes says the same, of an old kind too.
abbrev pub MeansTheSame : Type 0
MeansTheSame = (s out : List ℕ) (d : Datagram Message) → datagram_in (read_of s) ≡ some d → room_needed ≤ length out
    → (write_refusal d out ≡ 0) × (said_in (wire_of d out) ≡ said_in s)

-- Where the kind is no old one, these are the same bytes.
abbrev pub Rewritten : Type 0
Rewritten = (s out : List ℕ) (d : Datagram Message) → Bytes s → is_old (kind_byte s) ≡ false → datagram_in (read_of s) ≡ some d → room_needed ≤ length out
    → (write_refusal d out ≡ 0) × (wire_of d out ≡ s)

-- Every written datagram is at most 127 bytes long, and is just that many bytes of the output.
abbrev pub AtMost127 : Type 0
AtMost127 = (d : Datagram Message) (out : List ℕ) → Sized d → write_refusal d out ≡ 0
    → ((written_of d out).len ≤ 127) × (length (wire_of d out) ≡ (written_of d out).len)

-- The probe is written as no bytes, without a change of the output, and no bytes read as the probe.
abbrev pub ProbeIsEmpty : Type 0
ProbeIsEmpty = ((out : List ℕ) → (wire_of Probe out ≡ []) × (output_of Probe out ≡ out)) × (said_in [] ≡ some Probe)

-- Nothing else is written as no bytes, and no other bytes read as the probe.
abbrev pub OnlyProbeIsEmpty : Type 0
OnlyProbeIsEmpty = ((d : Datagram Message) (out : List ℕ) → Sized d → write_refusal d out ≡ 0 → wire_of d out ≡ [] → d ≡ Probe)
    × ((s : List ℕ) → said_in s ≡ some Probe → s ≡ [])
