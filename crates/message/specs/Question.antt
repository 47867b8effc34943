-- The questions that the reader and the writer ask, and their answers. Document 01, "The questions, in this order".
use Rattle.std.specs.Prelude.{ℕ, zero, suc, ◌+◌, Bool, true, false, cond, not, ◌&&◌, List, [], ◌∷◌, ◌++◌, length, drop, ltb, leb, eqb, Result, Ok, Err}
use Rattle.std.proofs.Math.Option.{Option, none, some}
use Rattle.message.specs.Cue.{cue_in}
use Rattle.message.specs.Section.{all, rises}
use Rattle.message.specs.Entry.{as_host}
use Rattle.message.specs.Limit.{host_limit, ticks_limit, room_needed}
use Rattle.message.specs.Kind.{row_of, row_at, kind_of, most_number}
pub use Rattle.message.specs.Kind.{has_counts}
use Rattle.message.specs.Message.{Meaning, Datagram, Probe, Saying, meaning_of, held_as, kind_byte, meaning_from, datagram_bytes, said_by, counts_of, size_from}
use Rattle.message.specs.declared.Host.{Host}
use Rattle.message.specs.declared.CueNumber.{CueNumber}
use Rattle.message.specs.declared.NameEntry.{NameEntry}
use Rattle.message.specs.declared.Report.{Report}
use Rattle.message.specs.declared.Echo.{Echo}
use Rattle.message.specs.declared.HostRule.{HostRule}
use Rattle.message.specs.declared.HostRule.TheVariants.{SourceAndSender, SenderNotSource, NeitherSenderNorSource, AnotherOfAnother, NoHost}
use Rattle.message.specs.declared.Counts.{Counts}
use Rattle.message.specs.declared.Message.{Message}
use Rattle.message.specs.declared.Refusal.{Refusal}
use Rattle.message.specs.declared.Verdict.{Verdict}
use Rattle.message.specs.declared.Verdict.TheVariants as verdict
use Rattle.message.specs.declared.Reading.{Reading}
use Rattle.message.specs.declared.Written.{Written}

-- ---- "Each call stops at its first no. A refusal gives only its number."

-- a question: whether its answer is yes, and the number that a no gives
pub record Question : Type 0 where
  pub passed : Bool
  pub number : ℕ

abbrev pub ask : Bool → ℕ → Question
ask passed number = record { passed = passed; number = number }

-- the number of the first question answered no; 0 where every answer is yes
abbrev pub first_no : List Question → ℕ
first_no [] = 0
first_no (q ∷ qs) = cond q.passed (first_no qs) q.number

-- what a call answers by its first no
abbrev pub outcome : ℕ → Result (Unit {0}) Refusal
outcome zero = Ok tt
outcome (suc k) = Err (record { 0 = suc k })

-- the verdict of a call by its first no, and document 01's number of a verdict (0: not refused)
abbrev pub verdict_for : ℕ → Verdict
verdict_for zero = verdict.Accepted
verdict_for (suc k) = verdict.Refused (suc k)

-- a probe is no refusal: it is told from an accepted message by the verdict itself
abbrev pub refusal_of : Verdict → ℕ
refusal_of verdict.Accepted = 0
refusal_of verdict.Probe = 0
refusal_of (verdict.Refused k) = k

-- ---- 9: "Is the kind 1..4 with its counts?": the table's second column, of the kinds 17 to 20 that P7 has for 1 to 4, of P8's 21, P9's 22 and 23
-- and P11's 24

abbrev pub kind_has_counts : ℕ → Counts → Bool
kind_has_counts kind c = has_counts (row_of kind) c

-- ---- 10: "Are hosts, cue numbers and cue fields in range, stamps and held ticks below 2^48?": `most` is the greatest cue number

abbrev pub host_in : Host → Bool
host_in h = ltb h.0 host_limit

abbrev pub number_in : ℕ → CueNumber → Bool
number_in most n = leb n.0 most

abbrev pub ticks_in : ℕ → Bool
ticks_in t = ltb t ticks_limit

abbrev pub name_in : ℕ → NameEntry → Bool
name_in most n = host_in n.name.source && (number_in most n.name.number && host_in n.host)

abbrev pub report_in : ℕ → Report → Bool
report_in most r = host_in r.source && number_in most r.last

abbrev pub echo_in : Echo → Bool
echo_in e = host_in e.host && (ticks_in e.stamp && ticks_in e.held)

unfoldable pub in_range : ℕ → Meaning → Bool
in_range most M =
    host_in M.sender
    && (ticks_in M.stamp
    && (all (name_in most) M.names && (all cue_in M.cues && (all (report_in most) M.reports && all echo_in M.echoes))))

-- ---- 11: "Do the table's last column and the line under the table hold?"

abbrev pub same_host : Host → Host → Bool
same_host a b = eqb a.0 b.0

-- the host beside a name, by its rule, whether it is the source, whether it is the sender, and whether the source is the sender. DATA: "the
-- source, also the sender"; RQST: "the sender, not the source"; REPL: "the requester, neither sender nor source"; document 02, P8, kind 21:
-- "host and source differ from its own sender"; P9: kind 22 "is shaped as kind 21", kind 23 "as REPL"; P11, kind 24: "with
-- the sender as source and host", as DATA; a kind with the host "none" has no names
abbrev pub rule_holds : HostRule → Bool → Bool → Bool → Bool
rule_holds SourceAndSender source sender own = source && sender
rule_holds SenderNotSource source sender own = sender && not source
rule_holds NeitherSenderNorSource source sender own = not sender && not source
rule_holds AnotherOfAnother source sender own = not sender && not own
rule_holds NoHost source sender own = false

abbrev pub host_fits : ℕ → Host → NameEntry → Bool
host_fits kind sender n =
    let source = n.name.source in
    rule_holds (row_at kind).host (same_host n.host source) (same_host n.host sender) (same_host source sender)

-- "Reports rise strictly by source, echoes by host; no echo names the sender."
abbrev pub report_source : Report → ℕ
report_source r = r.source.0

abbrev pub echo_host : Echo → ℕ
echo_host e = e.host.0

abbrev pub not_from : Host → Echo → Bool
not_from sender e = not (same_host e.host sender)

-- document 02, P11, of kind 24, which alone has two names (question 9 was asked before): "lead is from trail to trail+63, else 11". A kind with
-- two names that comes later has this test too
unfoldable pub window_fits : List NameEntry → Bool
window_fits [] = true
window_fits (n ∷ []) = true
window_fits (trail ∷ lead ∷ more) =
    let low = trail.name.number.0 in
    let high = lead.name.number.0 in
    leb low high && leb high (low + 63)

unfoldable pub hosts_fit : Meaning → Bool
hosts_fit M =
    all (host_fits M.kind M.sender) M.names
    && (rises report_source M.reports
    && (rises echo_host M.echoes && (all (not_from M.sender) M.echoes && window_fits M.names)))

-- ---- The reader: questions 8, 9, 10, 11.

-- 10 and 11, which the reader and the writer ask last: of a meaning and the byte that said its kind
abbrev pub meaning_questions : ℕ → Meaning → List Question
meaning_questions byte M = ask (in_range (most_number byte) M) 10 ∷ ask (hosts_fit M) 11 ∷ []

-- 8: "Are there 12 bytes or more, and do the counts account for the length exactly?"
abbrev pub message_questions : List ℕ → List Question
message_questions s =
    ask (leb 12 (length s) && eqb (size_from s) (length s)) 8
    ∷ ask (kind_has_counts (kind_of (kind_byte s)) (counts_of (meaning_from s))) 9
    ∷ meaning_questions (kind_byte s) (meaning_from s)

-- document 02, P5: "Number 8 is from then on for lengths 1 to 11 and counts that miss the length": of no bytes nothing is asked
abbrev pub read_questions : List ℕ → List Question
read_questions [] = []
read_questions (b ∷ s) = message_questions (b ∷ s)

unfoldable pub read_refusal : List ℕ → ℕ
read_refusal s = first_no (read_questions s)

-- what stands beside a refusal and beside a probe: a message of zeros
abbrev pub blank_message : Message
blank_message = held_as (record { kind = 0; sender = as_host 0; stamp = 0; names = []; cues = []; reports = []; echoes = [] })

-- the message where the bytes are accepted, zeros where they are refused
abbrev pub message_for : ℕ → Meaning → Message
message_for zero M = held_as M
message_for (suc k) M = blank_message

-- P5: "The reader alone answers "probe" for it", as a verdict of its own
unfoldable pub read_of : List ℕ → Reading
read_of [] = record { verdict = verdict.Probe; message = blank_message }
read_of (b ∷ s) =
    record { verdict = verdict_for (read_refusal (b ∷ s)); message = message_for (read_refusal (b ∷ s)) (meaning_from (b ∷ s)) }

-- the datagram that a reading tells of: none where the bytes were refused
abbrev pub datagram_by : Verdict → Message → Option (Datagram Message)
datagram_by verdict.Accepted m = some (Saying m)
datagram_by verdict.Probe m = some Probe
datagram_by (verdict.Refused k) m = none

abbrev pub datagram_in : Reading → Option (Datagram Message)
datagram_in r = datagram_by r.verdict r.message

-- ---- The writer: "The writer has questions 1, 9, 10, 11." The kind that it is handed is the byte that it writes, so it answers 9 to 1 to 4:
-- document 02, P7: "no longer written".

-- "Has the output at least 128 bytes? 1."
abbrev pub room_question : ℕ → Question
room_question room = ask (leb room_needed room) 1

abbrev pub room_questions : Message → ℕ → List Question
room_questions m room = room_question room ∷ ask (kind_has_counts m.kind m.counts) 9 ∷ meaning_questions m.kind (meaning_of m)

-- P5: "the writer writes it for "probe"": 9, 10 and 11 are about a message
abbrev pub write_questions : Datagram Message → List ℕ → List Question
write_questions Probe out = room_question (length out) ∷ []
write_questions (Saying m) out = room_questions m (length out)

unfoldable pub write_refusal : Datagram Message → List ℕ → ℕ
write_refusal d out = first_no (write_questions d out)

-- the length where the datagram is accepted, 0 where it is refused
abbrev pub length_for : ℕ → List ℕ → ℕ
length_for zero bytes = length bytes
length_for (suc k) bytes = 0

unfoldable pub written_of : Datagram Message → List ℕ → Written
written_of d out = record { verdict = verdict_for (write_refusal d out); len = length_for (write_refusal d out) (datagram_bytes (said_by d)) }

-- the output: the datagram in its first bytes and every other byte as it was; refused, every byte as it was
abbrev pub output_for : ℕ → List ℕ → List ℕ → List ℕ
output_for zero bytes out = bytes ++ drop (length bytes) out
output_for (suc k) bytes out = out

unfoldable pub output_of : Datagram Message → List ℕ → List ℕ
output_of d out = output_for (write_refusal d out) (datagram_bytes (said_by d)) out
