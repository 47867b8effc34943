-- The cases of the moves and of an opening, one at a time, as what a call gives.
use mathlib.Core.Path.{◌≡◌, ap}
use mathlib.Core.Bool.{Bool, true, false, cond, ◌&&◌}
use Prim.Native.Nat.{ℕ, ◌≤◌, ◌<◌}
use borrow.Author.Tests.{lt-ltb, le-ltb, leb-true}
use lib.Dec.{ltb}
use mathlib.Core.List.{List, [], ◌∷◌}
use Rattle.message.specs.declared.Host.{Host}
use Rattle.message.specs.declared.Verdict.TheVariants.{Accepted, Refused}
use Rattle.message.specs.Entry.{as_host}
use Rattle.message.specs.Question.{Question, ask, first_no, verdict_for}
use Rattle.end.specs.declared.Params.{Params}
use Rattle.end.specs.declared.Status.TheVariants.{Idle, Crashed}
use Rattle.end.specs.declared.Answer.TheVariants as answer
use Rattle.end.specs.declared.End.{End}
use Rattle.end.specs.declared.Move.{Move}
use Rattle.end.specs.declared.Opened.{Opened}
use Rattle.end.specs.State.{fresh_end}
use Rattle.end.specs.Sound.{all_of, params_tests, delay_in}
use Rattle.end.specs.Opening.{constrained_tests, open_refusal, house_params, end_for, opening_of}
use Rattle.end.specs.Answer.{Done, Ignored, give, done, answer_of, called_of}
use Rattle.end.specs.Event.{moves, moved_end, move_of}
use Rattle.end.proofs.SoundLaws.{nth}

module _ (m : Move) (e : End) where
  pub move-done : moves m e.status ≡ true → called_of (done (move_of m e)) ≡ record { answer = answer.Done; end = moved_end m e }
  unfolding move_of answer_of
  move-done h = ap (λ (b : Bool). called_of (done (cond b (give Done (moved_end m e)) (give Ignored e)))) h

  pub move-ignored : moves m e.status ≡ false → called_of (done (move_of m e)) ≡ record { answer = answer.Ignored; end = e }
  unfolding move_of answer_of
  move-ignored h = ap (λ (b : Bool). called_of (done (cond b (give Done (moved_end m e)) (give Ignored e)))) h

-- the parameters that `params_constrained` adds and doubles, of which each is at most 32
pub record Small (p : Params) : Type 0 where
  pub c1 : p.c1 ≤ 32
  pub d1 : p.d1 ≤ 32
  pub d2 : p.d2 ≤ 32
  pub d3 : p.d3 ≤ 32

pub small : (p : Params) → all_of (params_tests p) ≡ true → Small p
small p h = record {
  c1 = leb-true p.c1 32 (nth (params_tests p) 0 h);
  d1 = leb-true p.d1 32 (nth (params_tests p) 3 h);
  d2 = leb-true p.d2 32 (nth (params_tests p) 4 h);
  d3 = leb-true p.d3 32 (nth (params_tests p) 5 h);
}

-- the code's answers to questions 13 and 14
module _ (h : Host) (p : Params) {good soon : Bool} (g : good ≡ (all_of (params_tests p) && all_of (constrained_tests p))) (d : soon ≡ delay_in p) where
  -- what an opening gives, by the answers to its three questions
  questions : Bool → List Question
  questions b = ask b 12 ∷ ask good 13 ∷ ask soon 14 ∷ []

  asked : (b : Bool) → ltb h.0 8 ≡ b → opening_of h p ≡ record { verdict = verdict_for (first_no (questions b)); end = end_for (first_no (questions b)) h p }
  unfolding opening_of open_refusal questions
  asked b l = rw (g, d, ← l)

  abbrev refused : ℕ → Opened
  refused k = record { verdict = Refused k; end = fresh_end (as_host 0) house_params Crashed }

  pub open_idle : {e : End} → h.0 < 8 → good ≡ true → soon ≡ true → e ≡ fresh_end h p Idle → record { verdict = Accepted; end = e } ≡ opening_of h p
  unfolding questions
  open_idle l t u e = rw (e, asked true (lt-ltb h.0 8 l), t, u)

  pub open_14 : {x : Opened} → h.0 < 8 → good ≡ true → soon ≡ false → x ≡ refused 14 → x ≡ opening_of h p
  unfolding questions
  open_14 l t u x = rw (x, asked true (lt-ltb h.0 8 l), t, u)

  pub open_13 : {x : Opened} → h.0 < 8 → good ≡ false → x ≡ refused 13 → x ≡ opening_of h p
  unfolding questions
  open_13 l t x = rw (x, asked true (lt-ltb h.0 8 l), t)

  pub open_12 : {x : Opened} → 8 ≤ h.0 → x ≡ refused 12 → x ≡ opening_of h p
  unfolding questions
  open_12 l x = rw (x, asked false (le-ltb h.0 8 l))
