-- What a call that was not refused has passed: questions 3, 4 and 5, and the event's own.
use mathlib.Core.Path.{◌≡◌, sym, ap, ◌∙◌}
use mathlib.Core.Bool.{Bool, true, not, ◌||◌}
use mathlib.Core.List.{List, [], ◌∷◌}
use Prim.Native.Nat.{ℕ, ◌≤◌, ◌<◌}
use native.Mathlib.Omega.{arith}
use lib.Dec.{eqb, leb, ltb}
use borrow.Author.Tests.{leb-true, ltb-true}
use Rattle.message.specs.Cue.{cue_in}
use Rattle.message.specs.Question.{ask, first_no, ticks_in}
use Rattle.message.proofs.QuestionLaws.{all-passed}
use Rattle.end.specs.declared.End.{End}
use Rattle.end.specs.State.{is_member}
use Rattle.end.specs.Round.{draw_count}
use Rattle.end.specs.Sound.{sound_of}
use Rattle.end.specs.Event.{Action, Send, own_questions, question_of}

pub record Passed (e : End) (a : Action) (clock : ℕ) : Type 0 where
  pub sound : sound_of e ≡ true
  pub ticks : clock < 281474976710656
  pub later : e.clock ≤ clock
  pub own : first_no (own_questions a e) ≡ 0

pub passes : (e : End) (a : Action) (clock room draws : ℕ) → question_of e a clock room draws ≡ 0 → Passed e a clock
unfolding question_of
passes e a clock room draws h =
    let own = own_questions a e in
    let q5 = ask (leb e.clock clock) 5 ∷ own in
    let q4 = ask (ticks_in clock) 4 ∷ q5 in
    let q3 = ask (sound_of e) 3 ∷ q4 in
    let q2 = ask (eqb draws draw_count) 2 ∷ q3 in
    let b1 = (all-passed (leb 128 room) 1 q2 (omega arith) h).1 in
    let b2 = (all-passed (eqb draws draw_count) 2 q3 (omega arith) b1).1 in
    let b3 = all-passed (sound_of e) 3 q4 (omega arith) b2 in
    let b4 = all-passed (ticks_in clock) 4 q5 (omega arith) b3.1 in
    let b5 = all-passed (leb e.clock clock) 5 own (omega arith) b4.1 in
    record { sound = b3.0; ticks = ltb-true clock 281474976710656 b4.0; later = leb-true e.clock clock b5.0; own = b5.1 }

-- a cue that is sent is in range, and a member has a number for it
pub send-asked : (cue : List ℕ) (e : End) → first_no (own_questions (Send cue) e) ≡ 0 → (cue_in cue ≡ true) × (is_member e.status ≡ true → e.next < 65536)
send-asked cue e h =
    let six = all-passed (cue_in cue) 6 (ask (not (is_member e.status) || ltb e.next 65536) 7 ∷ []) (omega arith) h in
    let seven = (all-passed (not (is_member e.status) || ltb e.next 65536) 7 [] (omega arith) six.1).0 in
    (six.0, λ m. ltb-true e.next 65536 (sym (ap (λ (t : Bool). not t || ltb e.next 65536) m) ∙ seven))
