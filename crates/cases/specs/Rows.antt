-- Document 01, "Cases (* is proved)", as rows of one list; "Agreed between us": "Starred cases are checked together from the
-- definitions as rows of one list". Each row's comment is the document's words.
use Rattle.std.specs.Prelude.{ℕ, List, [], ◌∷◌, ◌++◌, take, replicate, ℤ, pos, negsuc}
use Rattle.numbers.specs.Number.{value, digits}
use Rattle.numbers.specs.Signed.{signed, unsigned}
use Rattle.message.specs.Cue.{fields_of, cue_with}
use Rattle.message.specs.Entry.{as_host, as_number}
use Rattle.message.specs.Message.{DATA, RQST, SESS, Meaning, Saying, held_as, bytes_of}
use Rattle.message.specs.declared.Echo.{Echo}
use Rattle.end.specs.declared.Params.{Params}
use Rattle.end.specs.declared.Status.TheVariants.{Idle, Member}
use Rattle.end.specs.declared.End.{End}
use Rattle.end.specs.State.{fresh_end, with_next}
use Rattle.end.specs.Answer.{Out}
use Rattle.end.specs.Session.{measured}
use Rattle.end.specs.Event.{Action, Send, Else, Report, event_of}
use Rattle.end.specs.Answer.{Refused, Did, Result}
use Rattle.end.specs.Opening.{house_params, open_refusal, opening_of}
use Rattle.cases.specs.Listing.{message3, script, printed, played}
use Rattle.message.specs.Question.{blank_message, read_refusal, read_of, write_refusal, output_of}
use Rattle.message.specs.declared.Verdict.TheVariants.{Accepted, Probe}
use Rattle.cases.specs.Case.{Case, case}

-- a cue with this focus and zeros elsewhere
abbrev pub cue_of_focus : ℤ → List ℕ
cue_of_focus z = cue_with (record { focus = z; zoom = pos 0; sideways = pos 0; upright = pos 0; lamp = 0 })

-- host 0's DATA of a cue number, at clock 0
abbrev pub data_numbered : ℕ → List ℕ → Meaning
data_numbered n cue = record {
  kind = DATA;
  sender = as_host 0;
  stamp = 0;
  names = record { name = record { source = as_host 0; number = as_number n }; host = as_host 0 } ∷ [];
  cues = cue ∷ [];
  reports = [];
  echoes = [];
}

abbrev pub data_of : List ℕ → Meaning
data_of cue = data_numbered 0 cue

-- the RQST of end 1 at clock 392 for name 0,1; its bytes in document 01, and those that document 02, P7, gives it
abbrev pub rqst : Meaning
rqst = record {
  kind = RQST;
  sender = as_host 1;
  stamp = 392;
  names = record { name = record { source = as_host 0; number = as_number 1 }; host = as_host 1 } ∷ [];
  cues = [];
  reports = [];
  echoes = [];
}

abbrev pub rqst_bytes : List ℕ
rqst_bytes = 0x02 ∷ 0x01 ∷ 0x00 ∷ 0x00 ∷ 0x00 ∷ 0x00 ∷ 0x01 ∷ 0x88 ∷ 0x01 ∷ 0x00 ∷ 0x01 ∷ 0x01 ∷ 0x00 ∷ 0x00 ∷ 0x00 ∷ []

abbrev pub rqst_bytes_now : List ℕ
rqst_bytes_now = 0x12 ∷ 0x01 ∷ 0x00 ∷ 0x00 ∷ 0x00 ∷ 0x00 ∷ 0x01 ∷ 0x88 ∷ 0x01 ∷ 0x00 ∷ 0x00 ∷ 0x01 ∷ 0x01 ∷ 0x00 ∷ 0x00 ∷ 0x00 ∷ []

-- an output of 128 bytes
abbrev pub output : List ℕ
output = replicate 128 170

-- parameters in the order C1, C2, C3, D1, D2, D3, and E 0
abbrev pub params : ℕ → ℕ → ℕ → ℕ → ℕ → ℕ → Params
params c1 c2 c3 d1 d2 d3 = record { c1 = c1; c2 = c2; c3 = c3; d1 = d1; d2 = d2; d3 = d3; express = 0 }

-- host 0's member with a next number, of which nothing else is kept
abbrev pub member_at : ℕ → End
member_at next = with_next (fresh_end (as_host 0) house_params Member) next

-- an event at clock 0, with the output above and draws 0
abbrev pub at0 : End → Action → Result
at0 e ev = event_of e ev 0 128 (replicate 64 0)

-- an echo of oneself, host 0, by which e ticks have passed
abbrev pub echo_of_me : ℕ → List Echo
echo_of_me held = record { host = as_host 0; stamp = 0; held = held } ∷ []

unfoldable pub rows : List Case
rows =
    -- "Parameters 8,8,4,4,4,7 (order as above): 13; 9,8,4,4,4,8 open; the last as 10: 13"
    case (open_refusal (as_host 0) (params 8 8 4 4 4 7)) 13
    ∷ case (opening_of (as_host 0) (params 9 8 4 4 4 8)) (record { verdict = Accepted; end = fresh_end (as_host 0) house_params Idle })
    ∷ case (open_refusal (as_host 0) (params 9 8 4 4 4 10)) 13
    -- "−2001: 6 at Send"
    ∷ case (at0 (member_at 0) (Send (cue_of_focus (negsuc 2000)))).outcome (Refused 6)
    -- "Cue 63 is sent; a next send: 7", which document 02, P7, has "only at 65,536, in document 01's case after 65,535"
    ∷ case (at0 (member_at 63) (Send (cue_of_focus (pos 0)))).outcome (Did (Out (bytes_of (data_numbered 63 (cue_of_focus (pos 0))))))
    ∷ case (at0 (at0 (member_at 63) (Send (cue_of_focus (pos 0)))).left (Send (cue_of_focus (pos 0)))).outcome (Did (Out (bytes_of (data_numbered 64 (cue_of_focus (pos 0))))))
    ∷ case (at0 (member_at 65535) (Send (cue_of_focus (pos 0)))).outcome (Did (Out (bytes_of (data_numbered 65535 (cue_of_focus (pos 0))))))
    ∷ case (at0 (at0 (member_at 65535) (Send (cue_of_focus (pos 0)))).left (Send (cue_of_focus (pos 0)))).outcome (Refused 7)
    ∷ case (at0 (member_at 65536) (Send (cue_of_focus (pos 0)))).outcome (Refused 7)
    -- "Fresh member's Report: 12 bytes"
    ∷ case (at0 (member_at 0) (Else Report)).outcome (Did (Out (SESS ∷ replicate 11 0)))
    -- "e = 80 gives 10 ms; e = 0 gives 1": at clock 100, from a distance of 40
    ∷ case (measured (as_host 0) 100 (echo_of_me 20) 40) 10
    ∷ case (measured (as_host 0) 100 (echo_of_me 100) 40) 1
    -- the listing of "house"
    ∷ case (played script) printed
    -- and the RQST in it, which goes out of Fire at clock 392
    ∷ case message3 rqst_bytes_now
    -- "Focus −2 is FF FE"
    ∷ case (take 2 (cue_of_focus (negsuc 1))) (0xFF ∷ 0xFE ∷ [])
    ∷ case (fields_of (0xFF ∷ 0xFE ∷ replicate 22 0)).focus (negsuc 1)
    -- "exact at −2000, −1, 0 and 2000"
    ∷ case (digits 2 (unsigned (negsuc 1999))) (0xF8 ∷ 0x30 ∷ [])
    ∷ case (signed (value (0xF8 ∷ 0x30 ∷ []))) (negsuc 1999)
    ∷ case (digits 2 (unsigned (negsuc 0))) (0xFF ∷ 0xFF ∷ [])
    ∷ case (signed (value (0xFF ∷ 0xFF ∷ []))) (negsuc 0)
    ∷ case (digits 2 (unsigned (pos 0))) (0x00 ∷ 0x00 ∷ [])
    ∷ case (signed (value (0x00 ∷ 0x00 ∷ []))) (pos 0)
    ∷ case (digits 2 (unsigned (pos 2000))) (0x07 ∷ 0xD0 ∷ [])
    ∷ case (signed (value (0x07 ∷ 0xD0 ∷ []))) (pos 2000)
    -- "−2001: .. 10 on the wire", read and written; −2000 passes
    ∷ case (read_refusal (bytes_of (data_of (cue_of_focus (negsuc 2000))))) 10
    ∷ case (write_refusal (Saying (held_as (data_of (cue_of_focus (negsuc 2000))))) output) 10
    ∷ case (read_refusal (bytes_of (data_of (cue_of_focus (negsuc 1999))))) 0
    ∷ case (write_refusal (Saying (held_as (data_of (cue_of_focus (negsuc 1999))))) output) 0
    -- "Empty message: 8", which by document 02, P5, "reads "probe""
    ∷ case (read_of []) (record { verdict = Probe; message = blank_message })
    -- "RQST of end 1 at clock 392 for name 0,1: hexadecimal 02 01 00 00 00 00 01 88 01 00 01 01 00 00 00", "one of reading"; as it is written now
    ∷ case (output_of (Saying (held_as rqst)) output) (rqst_bytes_now ++ replicate 112 170)
    ∷ case (read_of rqst_bytes_now) (record { verdict = Accepted; message = held_as rqst })
    ∷ case (read_of rqst_bytes) (record { verdict = Accepted; message = held_as rqst })
    ∷ []
