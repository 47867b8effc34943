-- The plain numbers and bytes that a host in C hands over, as a statement; proofs/Plain.antt proves it. "Numbers 64 bits wide, so that a value that
-- is too large is refused and not cut; a cue that is not of 24 bytes is 6 in its order; a Fetch of a host or number that does not exist is Ignored."
use Rattle.std.specs.Prelude.{◌≡◌, List, ◌⊎◌, ℕ, ◌≤◌, ◌<◌, length}
use Rattle.message.specs.Entry.{as_host, as_number}
use Rattle.message.specs.Question.{first_no, refusal_of}
use Rattle.end.specs.declared.End.{End}
use Rattle.end.specs.Answer.{Ignored, Refused, Did}
use Rattle.end.specs.Event.{Send, Else, Fetch, any_questions, question_of, event_of}
use Rattle.lent_answer.specs.Number.{host_of}
use Rattle.lent_calls.specs.Arguments.{name_of, cue_of}
use Rattle.lent_calls.specs.Open.{open_of, reopen_of}
use Rattle.lent_display.specs.Call.{opened_for}

pub record PlainNumbers : Type 0 where
  -- a host below 8 is the very host, and an end or a display that is opened has such hosts
  pub host-kept : (h : ℕ) → h < 8 → host_of h ≡ as_host h
  pub open_host : (h : ℕ) (params : List ℕ) → refusal_of (open_of h params).verdict ≡ 0 → h < 8
  pub reopen_host : (h : ℕ) (params : List ℕ) (clock next : ℕ) → refusal_of (reopen_of h params clock next).verdict ≡ 0 → h < 8
  pub display_hosts : (own sender : ℕ) → refusal_of (opened_for own sender).verdict ≡ 0 → (own < 8) × (sender < 8)
  -- parameters that are not seven are 13, in its order
  pub not_seven : (h : ℕ) (params : List ℕ) → h < 8 → (length params ≡ 7 → ⊥) → refusal_of (open_of h params).verdict ≡ 13
  pub not_seven_again : (h : ℕ) (params : List ℕ) (clock next : ℕ) → h < 8 → (length params ≡ 7 → ⊥)
      → refusal_of (reopen_of h params clock next).verdict ≡ 13
  -- 24 bytes are the very cue; a cue that is not of 24 bytes is 6 where questions 1 to 5 are passed
  pub cue-kept : (cue : List ℕ) → length cue ≡ 24 → cue_of cue ≡ cue
  pub not_24 : (cue : List ℕ) → (length cue ≡ 24 → ⊥) → (e : End) (clock room : ℕ) (draws : List ℕ)
      → first_no (any_questions e clock room (length draws)) ≡ 0 → event_of e (Send (cue_of cue)) clock room draws ≡ record { outcome = Refused 6; left = e }
  -- a source and a number that there are make the very name; a Fetch of any other that no question refuses is Ignored
  pub name-kept : (source number : ℕ) → source < 8 → number < 65536 → name_of source number ≡ record { source = as_host source; number = as_number number }
  pub no_such_name : (source number : ℕ) → (8 ≤ source) ⊎ (65536 ≤ number) → (e : End) (clock room : ℕ) (draws : List ℕ)
      → question_of e (Else (Fetch (name_of source number))) clock room (length draws) ≡ 0
      → (event_of e (Else (Fetch (name_of source number))) clock room draws).outcome ≡ Did Ignored
