-- Opening and reopening an end into lent bytes: 0, or a refusal's number, and then no byte changes. Bytes of another length are refused as 3,
-- before all else.
use Rattle.std.specs.Prelude.{◌≡◌, ℕ, true, cond, List, length, eqb}
use Rattle.message.specs.Question.{refusal_of}
use Rattle.end.specs.declared.Opened.{Opened}
use Rattle.end.specs.Opening.{opening_of}
use Rattle.end_reopen.specs.Reopening.{reopening_of}
use Rattle.lent_end.specs.State.{state_width, end_from, is_state, end_bytes}
use Rattle.lent_answer.specs.Number.{host_of}
use Rattle.lent_calls.specs.Arguments.{params_of}

-- what an opening into s gives: its number, and the bytes after it
unfoldable pub opened_number : Opened → List ℕ → ℕ
opened_number o s = cond (eqb (length s) state_width) (refusal_of o.verdict) 3

unfoldable pub opened_state : Opened → List ℕ → List ℕ
opened_state o s = cond (eqb (opened_number o s) 0) (end_bytes o.end) s

pub record OpensAs (o : Opened) (s s' : List ℕ) (n : ℕ) : Type 0 where
  pub number : n ≡ opened_number o s
  pub state : s' ≡ opened_state o s
  -- not refused, the bytes are a state and hold the opened end
  pub kept : n ≡ 0 → is_state s' ≡ true
  pub holds : n ≡ 0 → end_from s' ≡ o.end

-- opening: questions 12, 13 and 14
abbrev pub open_of : ℕ → List ℕ → Opened
open_of host params = opening_of (host_of host) (params_of params)

-- reopening, "after a restart, with host, parameters, the stored clock and next own number: an idle end": 12, 13, 14, 4 and 7
abbrev pub reopen_of : ℕ → List ℕ → ℕ → ℕ → Opened
reopen_of host params clock next = reopening_of (host_of host) (params_of params) clock next
