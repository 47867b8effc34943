-- Reader, writer and numbers. `reader::read` is `read_of`, `writer::write` and `writer::write_probe` are `written_of` and leave `output_of`, by
-- their contracts. Document 02, P5: a datagram is a message or the probe. P7: "the old kinds are still read, numbers to 63, as the same meanings
-- and no longer written, so reading back is exact for the new kinds".
use Rattle.std.specs.Prelude.{◌≡◌, true, false, List, [], ℕ, ◌-◌, ◌^◌, ◌≤◌, ◌<◌, ℤ, length, take}
use Rattle.std.proofs.Math.Option.{Option, none, some}
use Rattle.std.specs.Int.{w16}
use Rattle.std.proofs.Common.{SFits}
use Rattle.numbers.specs.Number.{Bytes, digits, value}
use Rattle.numbers.specs.Signed.{signed, unsigned}
use Rattle.message.specs.declared.CueFields.{CueFields}
use Rattle.message.specs.declared.NameEntry.{NameEntry}
use Rattle.message.specs.declared.Report.{Report}
use Rattle.message.specs.declared.Message.{Message}
use Rattle.message.specs.Cue.{fields_of, cue_with}
use Rattle.message.specs.Kind.{is_old, kind_shift}
use Rattle.message.specs.Message.{Meaning, meaning_of, kind_byte, old_bytes_of, Datagram, Probe, Saying, said_by, datagram_bytes}
use Rattle.message.specs.Question.{in_range, read_of, datagram_in, write_refusal, written_of, output_of}
use Rattle.message.proofs.SectionLaws.{All}
use Rattle.message.proofs.CueLaws.{FieldsFit}
use Rattle.roundtrip.specs.Theorems.{Arrays, Sized}

-- the bytes that the writer put into an output
abbrev pub wire : Datagram Message → List ℕ → List ℕ
wire d out = take (written_of d out).len (output_of d out)

-- what bytes say to the reader: a probe, a message's meaning, or nothing where it refuses them
abbrev pub meant : Option (Datagram Message) → Option (Datagram Meaning)
meant none = none
meant (some d) = some (said_by d)

abbrev pub said : List ℕ → Option (Datagram Meaning)
said s = meant (datagram_in (read_of s))

pub record WireKept : Type 0 where
  -- for every width: the value of a number's bytes is the number, and the bytes of a value are the bytes
  pub value-digits : (w n : ℕ) → n < 256 ^ w → value (digits w n) ≡ n
  pub digits_value : (w : ℕ) (s : List ℕ) → length s ≡ w → Bytes s → digits w (value s) ≡ s
  -- a signed 16-bit number reads back from its two bytes, and two bytes are written back from their number
  pub signed_back : (z : ℤ) → SFits w16 z → signed (value (digits 2 (unsigned z))) ≡ z
  pub two_bytes_back : (s : List ℕ) → length s ≡ 2 → Bytes s → digits 2 (unsigned (signed (value s))) ≡ s
  -- a cue made of five fields has these fields
  pub cue_fields_back : (f : CueFields) → FieldsFit f → fields_of (cue_with f) ≡ f
  -- each datagram that the writer accepts reads back as itself: a message as its meaning, the probe as the probe
  pub reads_back : (d : Datagram Message) (out : List ℕ) → Sized d → write_refusal d out ≡ 0 → said (wire d out) ≡ some (said_by d)
  -- each byte string of no old kind that the reader accepts is exactly what it says is written as
  pub very_bytes : (s : List ℕ) (M : Datagram Meaning) → Bytes s → is_old (kind_byte s) ≡ false → said s ≡ some M → datagram_bytes M ≡ s
  -- each of an old kind is exactly what its meaning is written as in document 01, and its cue numbers are at most 63
  pub old_bytes_lem : (s : List ℕ) (M : Meaning) → Bytes s → is_old (kind_byte s) ≡ true → said s ≡ some (Saying M) → old_bytes_of M ≡ s
  pub old_numbers : (s : List ℕ) (M : Meaning) → is_old (kind_byte s) ≡ true → said s ≡ some (Saying M)
      → All (λ (n : NameEntry). n.name.number.0 < 64) M.names × All (λ (r : Report). r.last.0 < 64) M.reports
  -- from these bytes each message of kinds 17 to 20 is still read that the writer accepts and whose cue numbers are at most 63
  pub still_read : (m : Message) (out : List ℕ) → Arrays m → write_refusal (Saying m) out ≡ 0 → is_old (m.kind - kind_shift) ≡ true
      → in_range 63 (meaning_of m) ≡ true → said (old_bytes_of (meaning_of m)) ≡ some (Saying (meaning_of m))
  -- what the reader accepts the writer accepts, into any output that is long enough, and what it writes says the same, of an old kind too
  pub means_the_same : (s out : List ℕ) (d : Datagram Message) → datagram_in (read_of s) ≡ some d → 128 ≤ length out
      → (write_refusal d out ≡ 0) × (said (wire d out) ≡ said s)
  -- where the kind is no old one, these are the same bytes
  pub rewritten : (s out : List ℕ) (d : Datagram Message) → Bytes s → is_old (kind_byte s) ≡ false → datagram_in (read_of s) ≡ some d → 128 ≤ length out
      → (write_refusal d out ≡ 0) × (wire d out ≡ s)
  -- every written datagram is at most 127 bytes long, and is just that many bytes of the output
  pub at_most_127 : (d : Datagram Message) (out : List ℕ) → Sized d → write_refusal d out ≡ 0
      → ((written_of d out).len ≤ 127) × (length (wire d out) ≡ (written_of d out).len)
  -- the probe is written as no bytes, without a change of the output, and no bytes read as the probe
  pub probe_is_empty : ((out : List ℕ) → (wire Probe out ≡ []) × (output_of Probe out ≡ out)) × (said [] ≡ some Probe)
  -- nothing else is written as no bytes, and no other bytes read as the probe
  pub only_probe_is_empty : ((d : Datagram Message) (out : List ℕ) → Sized d → write_refusal d out ≡ 0 → wire d out ≡ [] → d ≡ Probe)
      × ((s : List ℕ) → said s ≡ some Probe → s ≡ [])
