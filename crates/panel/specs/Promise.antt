-- What is proved of the answers of specs/Answers.antt, and so of the three calls, whose contracts cite them. Document 02, P14: "Their promises are
-- those of the calls behind them". The proofs are in proofs/Kept.antt.
use Rattle.std.specs.Prelude.{◌≡◌, ℕ, ◌≤◌, Bool, cond, ◌&&◌, ◌⊎◌, List, [], length, take, ltb, leb}
use Rattle.std.proofs.Math.Option.{some}
use Rattle.message.specs.Cue.{cue_in}
use Rattle.message.specs.Limit.{host_limit, number_limit, ticks_limit, room_needed}
use Rattle.message.specs.Entry.{cue_width}
use Rattle.message.specs.Message.{Saying, held_as}
use Rattle.message.specs.Question.{read_refusal, write_refusal, written_of, output_of}
use Rattle.roundtrip.specs.Theorems.{said_in}
use Rattle.panel.specs.Answers.{verdict_of, is_whole, cue_test_of, own_data, answer_for, data_answer, data_output}

-- what a DATA needs, in plain tests
abbrev pub can_write : ℕ → ℕ → ℕ → List ℕ → Bool
can_write sender number stamp cue = is_whole cue && (ltb sender host_limit && (ltb number number_limit && (ltb stamp ticks_limit && cue_in cue)))

-- "The reader's verdict"
pub record VerdictHolds : Type 0 where
  -- it is the reader's number: 0, or 8 to 11
  pub is_the_readers : (s : List ℕ) → verdict_of s ≡ read_refusal s
  pub one_of_lem : (s : List ℕ) → (verdict_of s ≡ 0) ⊎ ((8 ≤ verdict_of s) × (verdict_of s ≤ 11))
  -- "a probe is 0"
  pub probe_is_0 : verdict_of [] ≡ 0

-- "the writer for DATA", of any arguments
pub record WriterHolds (sender number stamp : ℕ) (cue out : List ℕ) : Type 0 where
  -- the answer in plain tests: 1 comes before 10, and nothing else is refused
  pub in_plain_tests : data_answer sender number stamp cue out
      ≡ cond (leb room_needed (length out)) (cond (can_write sender number stamp cue) 40 10) 1
  -- of a cue of 24 bytes answer and output are the writer's
  pub is_the_writers : length cue ≡ cue_width
      → (data_answer sender number stamp cue out ≡ answer_for (write_refusal (Saying (held_as (own_data sender number stamp cue))) out))
      × (data_output sender number stamp cue out ≡ output_of (Saying (held_as (own_data sender number stamp cue))) out)
  -- "the writer 40, its length"
  pub forty_is_its_length : data_answer sender number stamp cue out ≡ 40 → (written_of (Saying (held_as (own_data sender number stamp cue))) out).len ≡ 40
  -- a refusal leaves every byte as it was
  pub refused-keeps : (data_answer sender number stamp cue out ≡ 40 → ⊥) → data_output sender number stamp cue out ≡ out
  -- the 40 bytes are accepted by the reader, and say what was given
  pub reads_back : data_answer sender number stamp cue out ≡ 40
      → (verdict_of (take 40 (data_output sender number stamp cue out)) ≡ 0)
      × (said_in (take 40 (data_output sender number stamp cue out)) ≡ some (Saying (own_data sender number stamp cue)))

pub record PanelHolds : Type 0 where
  pub verdict : VerdictHolds
  pub writer : (sender number stamp : ℕ) (cue out : List ℕ) → WriterHolds sender number stamp cue out
  -- "the cue test", "a cue not of 24 bytes out of range"
  pub cue_test : (cue : List ℕ) → cue_test_of cue ≡ cond (is_whole cue && cue_in cue) 0 6
