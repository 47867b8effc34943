-- What the three calls of a C host answer. Document 02, P14: "The reader's verdict, the writer for DATA and the cue test are offered to a C
-- host as plain numbers and byte buffers. They return 0 (the writer 40, its length) or the refusal's number, the cue test's being 6; a probe
-- is 0, a cue not of 24 bytes out of range." The questions, the reader and the writer are those of the crate message, specs/Question.antt.
use Rattle.std.specs.Prelude.{ℕ, zero, suc, Bool, List, [], ◌∷◌, length, eqb}
use Rattle.message.specs.Cue.{cue_in}
use Rattle.message.specs.Entry.{as_host, as_number, cue_width}
use Rattle.message.specs.Message.{DATA, Meaning, Saying, bytes_of, held_as}
use Rattle.message.specs.declared.NameEntry.{NameEntry}
use Rattle.message.specs.Question.{ask, first_no, refusal_of, read_of, room_question, write_questions, output_for}

-- ---- "The reader's verdict": "They return 0 .. or the refusal's number"; "a probe is 0"
unfoldable pub verdict_of : List ℕ → ℕ
verdict_of bytes = refusal_of (read_of bytes).verdict

-- ---- "the cue test"

-- "a cue not of 24 bytes out of range"
abbrev pub is_whole : List ℕ → Bool
is_whole cue = eqb (length cue) cue_width

-- "the cue test's being 6"
unfoldable pub cue_test_of : List ℕ → ℕ
cue_test_of cue = first_no (ask (is_whole cue) 6 ∷ ask (cue_in cue) 6 ∷ [])

-- ---- "the writer for DATA"

-- a sender's DATA of its cue with a number. The name: document 01, the table: "the source, also the sender"
abbrev pub own_name : ℕ → ℕ → NameEntry
own_name sender number = record { name = record { source = as_host sender; number = as_number number }; host = as_host sender }

abbrev pub own_data : ℕ → ℕ → ℕ → List ℕ → Meaning
own_data sender number stamp cue = record {
  kind = DATA;
  sender = as_host sender;
  stamp = stamp;
  names = own_name sender number ∷ [];
  cues = cue ∷ [];
  reports = [];
  echoes = [];
}

-- the writer's questions: document 01: "The writer has questions 1, 9, 10, 11.", in this order. "a cue not of 24 bytes out of range" is asked
-- of the cue before those of the message, and after 1.
unfoldable pub data_refusal : Meaning → List ℕ → List ℕ → ℕ
data_refusal said cue out = first_no (room_question (length out) ∷ ask (is_whole cue) 10 ∷ write_questions (Saying (held_as said)) out)

-- "They return 0 (the writer 40, its length) or the refusal's number"
abbrev pub answer_for : ℕ → ℕ
answer_for zero = 40
answer_for (suc k) = suc k

unfoldable pub data_answer : ℕ → ℕ → ℕ → List ℕ → List ℕ → ℕ
data_answer sender number stamp cue out = answer_for (data_refusal (own_data sender number stamp cue) cue out)

-- the output: the message in its first bytes and every other byte as it was; refused, every byte as it was
unfoldable pub data_output : ℕ → ℕ → ℕ → List ℕ → List ℕ → List ℕ
data_output sender number stamp cue out =
    output_for (data_refusal (own_data sender number stamp cue) cue out) (bytes_of (own_data sender number stamp cue)) out
