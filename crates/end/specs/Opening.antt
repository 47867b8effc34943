-- Opening an end. Document 01, "The questions": "Opening: is the host below 8? 12. Are parameters in range and constrained as above?
-- 13. It gives an idle end at clock 0 with next number 0; refused, it gives beside the number host 0's crashed end with parameters
-- 9,8,4,4,4,8, otherwise fresh." Document 02, P8: "Opening with E above 1000 is refused as 14, checked after 13"; "E is 0 in house and in a
-- refused opening".
use Rattle.std.specs.Prelude.{ℕ, zero, suc, ◌+◌, ◌*◌, Bool, ◌&&◌, List, [], ◌∷◌, ltb}
use Rattle.message.specs.declared.Host.{Host}
use Rattle.message.specs.Entry.{as_host}
use Rattle.message.specs.Question.{Question, ask, first_no, host_in, verdict_for}
use Rattle.end.specs.declared.Params.{Params}
use Rattle.end.specs.declared.Status.TheVariants.{Idle, Crashed}
use Rattle.end.specs.declared.End.{End}
use Rattle.end.specs.declared.Opened.{Opened}
use Rattle.end.specs.State.{fresh_end}
use Rattle.end.specs.Sound.{all_of, params_tests, delay_in}

-- "C3 < C1, D1+D2+8 < 2×C1, D1+D2+D3 < 2×C1"
abbrev pub constrained_tests : Params → List Bool
constrained_tests p =
    ltb p.c3 p.c1
    ∷ ltb (p.d1 + p.d2 + 8) (2 * p.c1)
    ∷ ltb (p.d1 + p.d2 + p.d3) (2 * p.c1)
    ∷ []

abbrev pub open_questions : Host → Params → List Question
open_questions h p = ask (host_in h) 12 ∷ ask (all_of (params_tests p) && all_of (constrained_tests p)) 13 ∷ ask (delay_in p) 14 ∷ []

unfoldable pub open_refusal : Host → Params → ℕ
open_refusal h p = first_no (open_questions h p)

abbrev pub house_params : Params
house_params = record { c1 = 9; c2 = 8; c3 = 4; d1 = 4; d2 = 4; d3 = 8; express = 0 }

abbrev pub end_for : ℕ → Host → Params → End
end_for zero h p = fresh_end h p Idle
end_for (suc k) h p = fresh_end (as_host 0) house_params Crashed

unfoldable pub opening_of : Host → Params → Opened
opening_of h p = record { verdict = verdict_for (open_refusal h p); end = end_for (open_refusal h p) h p }
