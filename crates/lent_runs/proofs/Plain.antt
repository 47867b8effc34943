-- The plain numbers and bytes that a host in C hands over: the statement of specs/Plain.antt.
use mathlib.Core.Path.{◌≡◌, refl, sym, ap, ◌∙◌}
use mathlib.Core.Bool.{Bool, true, false, cond}
use mathlib.Core.List.{List, [], ◌∷◌}
use mathlib.Core.Logic.{◌⊎◌, inl, inr}
use Prim.Native.Nat.{ℕ, min, ◌≤◌, ◌<◌}
use native.Mathlib.Omega.{arith}
use lib.ListN.{length, replicate}
use lib.Dec.{leb, eqb}
use borrow.Author.Tests.{ltb-true, lt-ltb, le-ltb, le-leb, lt-leb, eq-eqb, ne_eqb}
use Rattle.numbers.specs.Number.{value_after}
use Rattle.message.specs.declared.Host.{Host}
use Rattle.message.specs.declared.Name.{Name}
use Rattle.message.specs.Cue.{cue_in}
use Rattle.message.specs.Limit.{room_needed}
use Rattle.message.specs.Entry.{as_host, as_number}
use Rattle.message.specs.Question.{ask, first_no, host_in, ticks_in, refusal_of}
use Rattle.message.proofs.QuestionLaws.{number_of_verdict, all-passed, and_both}
use Rattle.end.specs.declared.End.{End}
use Rattle.end.specs.State.{is_crashed, is_member, with_clock}
use Rattle.end.specs.Round.{draw_count}
use Rattle.end.specs.Sound.{sound_of}
use Rattle.end.specs.Answer.{Ignored, Step, Refused, Did, done}
use Rattle.end.specs.Event.{Send, Else, Fetch, any_questions, act_of, step_of, question_of, event_of}
use Rattle.end.specs.Fetch.{may_fetch, fetch_of}
use Rattle.end.specs.Opening.{open_refusal, opening_of}
use Rattle.end.proofs.Tools.{by_cond}
use Rattle.display.specs.Display.{hosts_apart, open_questions, opening_of as openDisplay}
use Rattle.end_reopen.specs.Reopening.{reopen_refusal, reopening_of}
use Rattle.lent_answer.specs.Number.{host_of}
use Rattle.lent_calls.specs.Arguments.{name_of, cue_of, no_params, params_of}
use Rattle.lent_calls.specs.Open.{open_of, reopen_of}
use Rattle.lent_display.specs.Call.{opened_for}
use Rattle.lent_runs.specs.Plain.{PlainNumbers}
use Rattle.lent_runs.proofs.Lists.{host_of_lem}

-- ---- hosts
below : (h : ℕ) → host_in (host_of h) ≡ true → h < 8
below h t = omega (arith, ltb-true (min h 255) 8 t)

-- the first question of an opening is 12
twelve : (t : Bool) (k : ℕ) → cond t k 12 ≡ 0 → t ≡ true
twelve true k h = refl
twelve false k h = absurd (omega (arith, h))

open_host : (h : ℕ) (params : List ℕ) → refusal_of (open_of h params).verdict ≡ 0 → h < 8
unfolding opening_of open_refusal
open_host h params z = below h (twelve (host_in (host_of h)) _ (sym (number_of_verdict (open_refusal (host_of h) (params_of params))) ∙ z))

reopen_host : (h : ℕ) (params : List ℕ) (clock next : ℕ) → refusal_of (reopen_of h params clock next).verdict ≡ 0 → h < 8
unfolding reopening_of reopen_refusal
reopen_host h params clock next z =
    below h (twelve (host_in (host_of h)) _ (sym (number_of_verdict (reopen_refusal (host_of h) (params_of params) clock next)) ∙ z))

display_hosts : (own sender : ℕ) → refusal_of (opened_for own sender).verdict ≡ 0 → (own < 8) × (sender < 8)
unfolding openDisplay
display_hosts own sender z =
    let none = sym (number_of_verdict (first_no (open_questions (host_of own) (host_of sender)))) ∙ z in
    let apart = twelve (hosts_apart (host_of own) (host_of sender)) 0 none in
    let one = and_both (host_in (host_of own)) _ apart in
    let two = and_both (host_in (host_of sender)) _ one.1 in
    (below own one.0, below sender two.0)

-- ---- parameters
none-given : (params : List ℕ) → (length params ≡ 7 → ⊥) → params_of params ≡ no_params
none-given params n = rw (ne_eqb (length params) 7 n)

open_thirteen : (h : ℕ) → h < 8 → refusal_of (opening_of (as_host h) no_params).verdict ≡ 13
unfolding opening_of open_refusal
open_thirteen h l = rw (lt-ltb h 8 l)

reopen_thirteen : (h clock next : ℕ) → h < 8 → refusal_of (reopening_of (as_host h) no_params clock next).verdict ≡ 13
unfolding reopening_of reopen_refusal
reopen_thirteen h clock next l = rw (lt-ltb h 8 l)

not_seven : (h : ℕ) (params : List ℕ) → h < 8 → (length params ≡ 7 → ⊥) → refusal_of (open_of h params).verdict ≡ 13
not_seven h params l n = (λ i. refusal_of (opening_of (host_of_lem h l i) (none-given params n i)).verdict) ∙ open_thirteen h l

not_seven_again : (h : ℕ) (params : List ℕ) (clock next : ℕ) → h < 8 → (length params ≡ 7 → ⊥) → refusal_of (reopen_of h params clock next).verdict ≡ 13
not_seven_again h params clock next l n =
    (λ i. refusal_of (reopening_of (host_of_lem h l i) (none-given params n i) clock next).verdict) ∙ reopen_thirteen h clock next l

-- ---- cues
cue-kept : (cue : List ℕ) → length cue ≡ 24 → cue_of cue ≡ cue
cue-kept cue h = rw (eq-eqb (length cue) 24 h)

out_of_range : cue_in (replicate 24 255) ≡ false
unfolding cue_in value_after
out_of_range = refl

not_24 : (cue : List ℕ) → (length cue ≡ 24 → ⊥) → (e : End) (clock room : ℕ) (draws : List ℕ)
    → first_no (any_questions e clock room (length draws)) ≡ 0 → event_of e (Send (cue_of cue)) clock room draws ≡ record { outcome = Refused 6; left = e }
unfolding event_of question_of
not_24 cue n e clock room draws q =
    let cue-is : cue_of cue ≡ replicate 24 255 = rw (ne_eqb (length cue) 24 n) in
    let bad : cue_in (cue_of cue) ≡ false = ap cue_in cue-is ∙ out_of_range in
    let q5 = ask (leb e.clock clock) 5 ∷ [] in
    let q4 = ask (ticks_in clock) 4 ∷ q5 in
    let q3 = ask (sound_of e) 3 ∷ q4 in
    let q2 = ask (eqb (length draws) draw_count) 2 ∷ q3 in
    let one = all-passed (leb room_needed room) 1 q2 (omega arith) q in
    let two = all-passed (eqb (length draws) draw_count) 2 q3 (omega arith) one.1 in
    let three = all-passed (sound_of e) 3 q4 (omega arith) two.1 in
    let four = all-passed (ticks_in clock) 4 q5 (omega arith) three.1 in
    let five = (all-passed (leb e.clock clock) 5 [] (omega arith) four.1).0 in
    rw (one.0, two.0, three.0, four.0, five, bad)

-- ---- names
name-kept : (source number : ℕ) → source < 8 → number < 65536 → name_of source number ≡ record { source = as_host source; number = as_number number }
name-kept source number s n =
    let least : min number 65535 ≡ number = omega arith in
    rw (le-leb number 65535 (omega arith)) (λ i. record { source = host_of_lem source s i; number = as_number (least i) })

no_host : (source number : ℕ) → (8 ≤ source) ⊎ (65536 ≤ number) → host_in (name_of source number).source ≡ false
no_host source number (inl h) =
    by_cond (λ (x : Host). host_in x ≡ false) (leb number 65535) (λ _. le-ltb (min source 255) 8 (omega arith)) (λ _. refl)
no_host source number (inr h) = rw (lt-leb number 65535 (omega arith))

fetch-ignored : (e : End) (name : Name) → host_in name.source ≡ false → (fetch_of name e).effect ≡ Ignored
unfolding fetch_of may_fetch
fetch-ignored e name h = rw h

no_such_name : (source number : ℕ) → (8 ≤ source) ⊎ (65536 ≤ number) → (e : End) (clock room : ℕ) (draws : List ℕ)
    → question_of e (Else (Fetch (name_of source number))) clock room (length draws) ≡ 0
    → (event_of e (Else (Fetch (name_of source number))) clock room draws).outcome ≡ Did Ignored
unfolding event_of step_of act_of
no_such_name source number h e clock room draws q =
    let name = name_of source number in
    ap (λ (k : ℕ). (cond (eqb k 0) (done (step_of clock draws (Else (Fetch name)) e)) (record { outcome = Refused k; left = e })).outcome) q
    ∙ by_cond (λ (s : Step). Did s.effect ≡ Did Ignored) (is_crashed e.status) (λ _. refl)
    (λ _. by_cond (λ (s : Step). Did s.effect ≡ Did Ignored) (is_member e.status)
    (λ _. ap Did (fetch-ignored (with_clock e clock) name (no_host source number h))) (λ _. refl))

pub plain-numbers : PlainNumbers
plain-numbers = record {
  host-kept = host_of_lem;
  open_host = open_host;
  reopen_host = reopen_host;
  display_hosts = display_hosts;
  not_seven = not_seven;
  not_seven_again = not_seven_again;
  cue-kept = cue-kept;
  not_24 = not_24;
  name-kept = name-kept;
  no_such_name = no_such_name;
}
