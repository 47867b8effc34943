-- Messages and cues as bytes, written and read, in which no two fields could change places unseen. Document 01, "Messages" and "The link
-- and its edge". "Numbers are big-endian." Document 02, P7: "Cue numbers become 0..65535, two bytes in names and reports, under kinds 17 to 20
-- for 1 to 4; the old kinds are still read, numbers to 63, as the same meanings and no longer written". P8: "kind 21, laid out as kind 18". P9:
-- "Fetch, kind 22, is shaped as kind 21 with the host tried as host; its cue, kind 23, as REPL".
use Rattle.std.specs.Prelude.{ℕ, List, [], ◌∷◌, ◌++◌, length, drop, replicate, pos, negsuc}
use Rattle.message.specs.Cue.{fields_of, cue_with}
use Rattle.message.specs.Entry.{as_host, as_number}
use Rattle.message.specs.Message.{DATA, RQST, SESS, XPRS, FTCH, LATE, Meaning, Saying, held_as}
use Rattle.message.specs.Question.{blank_message, read_of, written_of, output_of}
use Rattle.message.specs.declared.CueFields.{CueFields}
use Rattle.message.specs.declared.Reading.{Reading}
use Rattle.message.specs.declared.Verdict.TheVariants.{Accepted, Refused}
use Rattle.cases.specs.Case.{Case, case}

-- "focus, zoom, sideways and upright offset, each a signed 16-bit two's complement number ..; lamp power ..; 14 free bytes"
abbrev pub five_fields : CueFields
five_fields = record { focus = negsuc 1; zoom = pos 300; sideways = negsuc 1999; upright = pos 1999; lamp = 1000 }

abbrev pub five_bytes : List ℕ
five_bytes = 0xFF ∷ 0xFE ∷ 0x01 ∷ 0x2C ∷ 0xF8 ∷ 0x30 ∷ 0x07 ∷ 0xCF ∷ 0x03 ∷ 0xE8 ∷ []

-- the cue with these fields, and one whose free bytes are 1..14
abbrev pub five_cue : List ℕ
five_cue = five_bytes ++ replicate 14 0

abbrev pub full_cue : List ℕ
full_cue = five_bytes ++ (1 ∷ 2 ∷ 3 ∷ 4 ∷ 5 ∷ 6 ∷ 7 ∷ 8 ∷ 9 ∷ 10 ∷ 11 ∷ 12 ∷ 13 ∷ 14 ∷ [])

-- "Kind (1 byte), sender (1), stamp (6, the sender's clock)": the stamp is 0x010203040506
abbrev pub stamp : ℕ
stamp = 0x010203040506

abbrev pub head : ℕ → ℕ → List ℕ
head kind sender = kind ∷ sender ∷ 0x01 ∷ 0x02 ∷ 0x03 ∷ 0x04 ∷ 0x05 ∷ 0x06 ∷ []

-- "names (source, cue number, host ..)": a message of one name and nothing else
abbrev pub naming : ℕ → ℕ → ℕ → ℕ → ℕ → ℕ → Meaning
naming kind sender stamp source number host = record {
  kind = kind;
  sender = as_host sender;
  stamp = stamp;
  names = record { name = record { source = as_host source; number = as_number number }; host = as_host host } ∷ [];
  cues = [];
  reports = [];
  echoes = [];
}

-- an end asks for a name
abbrev pub asks : ℕ → ℕ → ℕ → ℕ → ℕ → Meaning
asks kind sender stamp source number = naming kind sender stamp source number sender

-- a RQST of end 5 for name 2,33, whose number has two bytes, and one byte under the old kind
abbrev pub request : Meaning
request = asks RQST 5 stamp 2 33

abbrev pub request_bytes : List ℕ
request_bytes = head 18 5 ++ (1 ∷ 2 ∷ 0 ∷ 33 ∷ 5 ∷ 0 ∷ 0 ∷ 0 ∷ [])

abbrev pub old_request : ℕ → List ℕ
old_request number = head 2 5 ++ (1 ∷ 2 ∷ number ∷ 5 ∷ 0 ∷ 0 ∷ 0 ∷ [])

-- the greatest number
abbrev pub greatest : List ℕ
greatest = head 18 5 ++ (1 ∷ 2 ∷ 0xFF ∷ 0xFF ∷ 5 ∷ 0 ∷ 0 ∷ 0 ∷ [])

-- "cues (24)": the DATA of name 6,263
abbrev pub original : Meaning
original = record {
  kind = DATA;
  sender = as_host 6;
  stamp = stamp;
  names = record { name = record { source = as_host 6; number = as_number 0x0107 }; host = as_host 6 } ∷ [];
  cues = full_cue ∷ [];
  reports = [];
  echoes = [];
}

abbrev pub original_bytes : List ℕ
original_bytes = head 17 6 ++ (1 ∷ 6 ∷ 0x01 ∷ 0x07 ∷ 6 ∷ 1 ∷ full_cue ++ (0 ∷ 0 ∷ []))

-- "reports (source, last ..), echoes (host, stamp, held ticks: 1+6+6)": a SESS of end 3
abbrev pub session : Meaning
session = record {
  kind = SESS;
  sender = as_host 3;
  stamp = stamp;
  names = [];
  cues = [];
  reports = record { source = as_host 6; last = as_number 0x2930 } ∷ [];
  echoes = record { host = as_host 1; stamp = 0x0A0B0C0D0E0F; held = 0x101112131415 } ∷ [];
}

abbrev pub session_bytes : List ℕ
session_bytes =
    head 20 3
    ++ (0 ∷ 0 ∷ 1 ∷ 6 ∷ 0x29 ∷ 0x30 ∷ 1 ∷ 1 ∷ 0x0A ∷ 0x0B ∷ 0x0C ∷ 0x0D ∷ 0x0E ∷ 0x0F ∷ 0x10 ∷ 0x11 ∷ 0x12 ∷ 0x13 ∷ 0x14 ∷ 0x15 ∷ [])

-- document 01, "Cases": a RQST of end 1 at stamp 392 for name 0,1, as bytes: "document 01's RQST case is one of reading"; and as it is now
abbrev pub case_request : Meaning
case_request = asks RQST 1 392 0 1

abbrev pub case_bytes : List ℕ
case_bytes = 0x02 ∷ 0x01 ∷ 0 ∷ 0 ∷ 0 ∷ 0 ∷ 0x01 ∷ 0x88 ∷ 1 ∷ 0 ∷ 1 ∷ 1 ∷ 0 ∷ 0 ∷ 0 ∷ []

abbrev pub case_bytes_now : List ℕ
case_bytes_now = 0x12 ∷ 0x01 ∷ 0 ∷ 0 ∷ 0 ∷ 0 ∷ 0x01 ∷ 0x88 ∷ 1 ∷ 0 ∷ 0 ∷ 1 ∷ 1 ∷ 0 ∷ 0 ∷ 0 ∷ []

-- P8: end 5 asks for number 0x0221 of a source, of the host that answered it last
abbrev pub express : ℕ → ℕ → Meaning
express source host = naming XPRS 5 stamp source 0x0221 host

abbrev pub express_bytes : ℕ → ℕ → List ℕ
express_bytes source host = head 21 5 ++ (1 ∷ source ∷ 0x02 ∷ 0x21 ∷ host ∷ 0 ∷ 0 ∷ 0 ∷ [])

-- P9: end 5 fetches number 0x0221 of a source from a host, and end 6 brings its cue to a host
abbrev pub fetch : ℕ → ℕ → Meaning
fetch source host = naming FTCH 5 stamp source 0x0221 host

abbrev pub fetch_bytes : ℕ → ℕ → List ℕ
fetch_bytes source host = head 22 5 ++ (1 ∷ source ∷ 0x02 ∷ 0x21 ∷ host ∷ 0 ∷ 0 ∷ 0 ∷ [])

abbrev pub fetched : ℕ → ℕ → Meaning
fetched source host = record {
  kind = LATE;
  sender = as_host 6;
  stamp = stamp;
  names = record { name = record { source = as_host source; number = as_number 0x0221 }; host = as_host host } ∷ [];
  cues = full_cue ∷ [];
  reports = [];
  echoes = [];
}

abbrev pub fetched_bytes : ℕ → ℕ → List ℕ
fetched_bytes source host = head 23 6 ++ (1 ∷ source ∷ 0x02 ∷ 0x21 ∷ host ∷ 1 ∷ full_cue ++ (0 ∷ 0 ∷ []))

-- what the reader answers: a message, or a refusal
abbrev pub says : Meaning → Reading
says m = record { verdict = Accepted; message = held_as m }

abbrev pub refuses : ℕ → Reading
refuses k = record { verdict = Refused k; message = blank_message }

-- a message written over an output of 128 bytes, and read
abbrev pub both_ways : Meaning → List ℕ → List Case
both_ways m bytes =
    case (output_of (Saying (held_as m)) (replicate 128 170)) (bytes ++ drop (length bytes) (replicate 128 170))
    ∷ case (read_of bytes) (says m)
    ∷ []

-- a message that both refuse
abbrev pub neither_way : ℕ → Meaning → List ℕ → List Case
neither_way k m bytes =
    case (written_of (Saying (held_as m)) (replicate 128 170)) (record { verdict = Refused k; len = 0 })
    ∷ case (read_of bytes) (refuses k)
    ∷ []

-- P8: "host and source differ from its own sender, else 11"; nothing says that the host is not the source
abbrev pub express_rows : List Case
express_rows =
    -- "laid out as kind 18": 16 bytes
    case (written_of (Saying (held_as (express 2 3))) (replicate 128 170)) (record { verdict = Accepted; len = 16 })
    ∷ both_ways (express 2 3) (express_bytes 2 3)
    ++ (both_ways (express 2 2) (express_bytes 2 2)
    ++ (neither_way 11 (express 2 5) (express_bytes 2 5) ++ neither_way 11 (express 5 3) (express_bytes 5 3)))

-- P9: of kind 22 neither host nor source is the sender, and the host may be the source; of kind 23 the host is neither sender nor source, and the
-- sender may be the source
abbrev pub fetch_rows : List Case
fetch_rows =
    both_ways (fetch 2 3) (fetch_bytes 2 3)
    ++ (both_ways (fetch 2 2) (fetch_bytes 2 2)
    ++ (neither_way 11 (fetch 2 5) (fetch_bytes 2 5)
    ++ (neither_way 11 (fetch 5 3) (fetch_bytes 5 3)
    ++ (both_ways (fetched 2 3) (fetched_bytes 2 3)
    ++ (both_ways (fetched 6 3) (fetched_bytes 6 3)
    ++ (neither_way 11 (fetched 2 6) (fetched_bytes 2 6) ++ neither_way 11 (fetched 2 2) (fetched_bytes 2 2)))))))

-- document 01's kinds, read and no longer written
abbrev pub old_rows : List Case
old_rows =
    case (read_of case_bytes) (says case_request)
    -- "numbers to 63"
    ∷ case (read_of (old_request 63)) (says (asks RQST 5 stamp 2 63))
    ∷ case (read_of (old_request 64)) (refuses 10)
    ∷ case (read_of (head 4 3 ++ (0 ∷ 0 ∷ 1 ∷ 6 ∷ 64 ∷ 0 ∷ []))) (refuses 10)
    -- "no longer written": 1 to 4 are the kind of no message
    ∷ case (written_of (Saying (held_as (asks 2 5 stamp 2 33))) (replicate 128 170)) (record { verdict = Refused 9; len = 0 })
    ∷ []

-- "Question 8 counts kinds 1 to 4 by the old sizes and every other kind byte by the new": a byte that is no kind, with a name of 3 bytes and of
-- 4; kind 4 with a report of 3 bytes, and kind 20 with one of 2
abbrev pub size_rows : List Case
size_rows =
    case (read_of (head 5 5 ++ (1 ∷ 2 ∷ 33 ∷ 5 ∷ 0 ∷ 0 ∷ 0 ∷ []))) (refuses 8)
    ∷ case (read_of (head 5 5 ++ (1 ∷ 2 ∷ 0 ∷ 33 ∷ 5 ∷ 0 ∷ 0 ∷ 0 ∷ []))) (refuses 9)
    ∷ case (read_of (head 4 3 ++ (0 ∷ 0 ∷ 1 ∷ 6 ∷ 0 ∷ 41 ∷ 0 ∷ []))) (refuses 8)
    ∷ case (read_of (head 20 3 ++ (0 ∷ 0 ∷ 1 ∷ 6 ∷ 41 ∷ 0 ∷ []))) (refuses 8)
    ∷ []

unfoldable pub wire_rows : List Case
wire_rows =
    -- a cue with five different fields, written and read
    case (cue_with five_fields) five_cue
    ∷ case (fields_of full_cue) five_fields
    ∷ both_ways request request_bytes
    ++ (both_ways original original_bytes
    ++ (both_ways session session_bytes
    ++ (both_ways case_request case_bytes_now ++ (both_ways (asks RQST 5 stamp 2 65535) greatest ++ (express_rows ++ (old_rows ++ (size_rows ++ fetch_rows)))))))
