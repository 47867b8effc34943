-- Lists of calls over a display's lent bytes are lists of calls on displays.
use mathlib.Core.Path.{◌≡◌, refl, sym, ap, ◌∙◌}
use mathlib.Core.Bool.{Bool, true, false, cond, not, ◌&&◌, ◌||◌}
use mathlib.Core.List.{List, [], ◌∷◌, ◌++◌, append-nil, map}
use Prim.Native.Nat.{ℕ, ◌+◌, ◌-◌, ◌^◌, ◌≤◌}
use native.Mathlib.Nat.{pow-le-pow_right}
use native.Mathlib.Omega.{arith}
use Rattle.std.specs.Prelude as rust
use Rattle.std.specs.Prelude.{Some, None}
use mathlib.Core.Option.{Option, none, some}
use lib.ListN.{length}
use lib.Dec.{leb, eqb}
use borrow.Author.Tests.{ltb-true, le-leb, eq-eqb, eqb-true}
use Rattle.numbers.proofs.Cases.{by_flag}
use Rattle.message.specs.Limit.{room_needed}
use Rattle.message.specs.Message.{Meaning, meaning_from}
use Rattle.message.specs.Question.{ask, first_no, host_in, ticks_in, same_host}
use Rattle.message.proofs.QuestionLaws.{and_both, all-passed}
use Rattle.end.specs.Messages.{message_name, message_cue}
use Rattle.end.specs.Answer.{Outcome, Refused, Did, answer_of, buffer_of}
use Rattle.end.proofs.Tools.{by_cond}
use Rattle.invariants.proofs.Readings.{message_in_lem}
use Rattle.display_window.specs.Parts.{Seen, Unstarted, Started}
use Rattle.display_window.specs.Window.{window_sound, is_new, lowest_missing}
use Rattle.display_window.proofs.WindowLaws.{sound-window}
use Rattle.display.specs.declared.Display.{Display}
use Rattle.display.specs.Display.{hosts_apart, sound_of, opening_of, with_clock}
use Rattle.display.specs.Hear.{Hearing, is_original, is_repair, is_announced, heard_in}
use Rattle.display.specs.Request.{request_if, step_of}
use Rattle.display.specs.Call.{Event, Hear, Step, own_questions, questions, question_of, act_of, Result, event_of}
use Rattle.display_history.specs.History.{Call, after, after_all, Told, told}
use Rattle.display_history.proofs.StaysSound.{stays-sound, opens-sound}
use Rattle.display_history.proofs.Answers.{Below, below_next, out_is_request}
use Rattle.lent_answer.specs.Number.{host_of, number_of, is_refused}
use Rattle.lent_display.specs.Bytes.{WindowFits, DisplayFits, display_bytes, display_from, Holds}
use Rattle.lent_display.specs.Call.{lost_numbers, goes, call_number, call_state, call_lost, call_out, opened_for, open_number, open_state}
use Rattle.lent_display.proofs.DisplayLaws.{form_holds}
use Rattle.lent_display.proofs.CallLaws.{number-told, refused-left}
use Rattle.lent_runs.specs.Displays.{state_after, bytes_through, given_on, given, as_given, DisplayIsPlayed, DisplayReadsBack, NoDisplayIsRefused}
use Rattle.lent_runs.specs.Numbers.{outcome_in}
use Rattle.lent_runs.proofs.Numbers.{NameIn, Told as TellsPlainly, Most, first-most, short, outcome_back}
use Rattle.lent_runs.proofs.Kept.{did_not_refuse}

-- ---- a sound display fits its bytes
window-fits : (w : Seen) → window_sound w ≡ true → Below w → WindowFits w
window-fits Unstarted h b = (((omega arith, omega arith), omega arith), omega arith)
window-fits (Started w) h b =
    let s = sound-window w.trail w.lead w.set h in
    let power : 2 ^ (w.lead.0 + 1 - w.trail.0) ≤ 2 ^ 64 = pow-le-pow_right {n = 2} (omega arith) {i = w.lead.0 + 1 - w.trail.0} {j = 64} (omega (arith, s.near)) in
    (((omega arith, omega (arith, s.ordered, b)), omega (arith, b)), omega (arith, s.within))

-- what holds of a display along its calls
record Kept (d : Display) : Type 0 where
  sound : sound_of d ≡ true
  below : Below d.window

fits : (d : Display) → Kept d → DisplayFits d
unfolding sound_of
fits d k =
    let p = and_both (hosts_apart d.own d.sender) _ k.sound in
    let q = and_both (ticks_in d.clock) (window_sound d.window) p.1 in
    let a = and_both (host_in d.own) _ p.0 in
    let b = and_both (host_in d.sender) (not (same_host d.own d.sender)) a.1 in
    record {
      head-fits = record {
        own-fits = omega (arith, ltb-true d.own.0 8 a.0);
        sender-fits = omega (arith, ltb-true d.sender.0 8 b.0);
        clock-fits = omega (arith, ltb-true d.clock 281474976710656 q.0);
      };
      window-fits = window-fits d.window q.1 k.below;
    }

next-kept : (d : Display) (c : Call) → Kept d → Kept (after d c)
next-kept d c k = record { sound = stays-sound d c k.sound; below = below_next d c k.below }

-- ---- one call
module _ (s : List ℕ) (d : Display) (h : Holds s d) (k : Kept d) (c : Call) where
  same : event_of (display_from s) c.event c.clock c.room ≡ event_of d c.event c.clock c.room
  same = ap (λ (x : Display). event_of x c.event c.clock c.room) h.reads

  abbrev refused : Bool
  refused = is_refused (answer_of (event_of d c.event c.clock c.room).outcome)

  on_it : goes c.event c.clock c.room s ≡ not refused
  unfolding goes
  on_it = (λ i. h.tested i && not (is_refused (answer_of (same i).outcome)))

  state-is : state_after s c ≡ cond refused s (display_bytes (after d c))
  unfolding call_state
  state-is = (λ i. cond (on_it i) (display_bytes (same i).left) s) ∙ turned refused
    where
      turned : (b : Bool) → cond (not b) (display_bytes (after d c)) s ≡ cond b s (display_bytes (after d c))
      turned true = refl
      turned false = refl

  next-holds : Holds (state_after s c) (after d c)
  next-holds =
      by_flag refused
      (λ t.
      let stays : after d c ≡ d = refused-left d c.event c.clock c.room t in
      form_holds (after d c) (state_after s c) (fits (after d c) (next-kept d c k)) (state-is ∙ rw t (h.bytes ∙ ap display_bytes (sym stays))))
      (λ f. form_holds (after d c) (state_after s c) (fits (after d c) (next-kept d c k)) (state-is ∙ rw f))

  -- what the call on the display tells
  abbrev tells : Told
  tells = record { outcome = (event_of d c.event c.clock c.room).outcome; lost = (event_of d c.event c.clock c.room).lost }

  gives_it : given_on s c ≡ as_given tells
  unfolding call_lost
  gives_it =
      let number = number-told c.event c.clock c.room s h.tested in
      λ i. record {
        number = (number ∙ ap (λ (x : Result). number_of (answer_of x.outcome)) same) i;
        lost = ((λ j. cond (on_it j) (lost_numbers (same j).lost ++ []) []) ∙ turned refused (lost_numbers tells.lost)) i;
      }
    where
      turned : (b : Bool) (l : List ℕ) → cond (not b) (l ++ []) [] ≡ cond b [] l
      turned true l = refl
      turned false l = append-nil l

-- ---- a list of calls
holds-all : (s : List ℕ) (d : Display) → Holds s d → Kept d → (cs : List Call) → Holds (bytes_through s cs) (after_all d cs)
unfolding bytes_through after_all
holds-all s d h k [] = h
holds-all s d h k (c ∷ cs) = holds-all (state_after s c) (after d c) (next-holds s d h k c) (next-kept d c k) cs

gives_all : (s : List ℕ) (d : Display) → Holds s d → Kept d → (cs : List Call) → given s cs ≡ map as_given (told d cs)
unfolding given told
gives_all s d h k [] = refl
gives_all s d h k (c ∷ cs) =
    λ i. gives_it s d h k c i ∷ gives_all (state_after s c) (after d c) (next-holds s d h k c) (next-kept d c k) cs i

-- ---- from an opening
open_below : (own sender : ℕ) → Below (opened_for own sender).display.window
unfolding opening_of
open_below own sender =
    by_flag (hosts_apart (host_of own) (host_of sender))
    (λ t. rw t tt)
    (λ f. rw f tt)

open_kept : (own sender : ℕ) → Kept (opened_for own sender).display
open_kept own sender = record { sound = opens-sound (host_of own) (host_of sender); below = open_below own sender }

open_holds : (own sender : ℕ) (s : List ℕ) → open_number own sender s ≡ 0 → Holds (open_state own sender s) (opened_for own sender).display
unfolding open_state
open_holds own sender s h =
    let e : eqb (open_number own sender s) 0 ≡ true = eq-eqb (open_number own sender s) 0 h in
    form_holds (opened_for own sender).display _ (fits _ (open_kept own sender)) (rw e)

pub display_is_played : DisplayIsPlayed
display_is_played own sender s h cs =
    let d = (opened_for own sender).display in
    let o = open_holds own sender s h in
    let k = open_kept own sender in
    record { holds = holds-all (open_state own sender s) d o k cs; gives = gives_all (open_state own sender s) d o k cs }

-- ---- the outcome is read back
kept-all : (d : Display) → Kept d → (cs : List Call) → Kept (after_all d cs)
unfolding after_all
kept-all d k [] = k
kept-all d k (c ∷ cs) = kept-all (after d c) (next-kept d c k) cs

left_by_lem : (o : Outcome) (out : List ℕ) → cond (not (is_refused (answer_of o))) (buffer_of o out) out ≡ buffer_of o out
unfolding answer_of buffer_of
left_by_lem (Refused k) out = refl
left_by_lem (Did x) out = ap (λ (t : Bool). cond (not t) (buffer_of (Did x) out) out) (did_not_refuse x)

output-is : (s : List ℕ) (d : Display) (h : Holds s d) (k : Kept d) (c : Call) (out : List ℕ)
    → call_out c.event c.clock c.room s out ≡ buffer_of (event_of d c.event c.clock c.room).outcome out
unfolding call_out
output-is s d h k c out = (λ i. cond (on_it s d h k c i) (buffer_of (same s d h k c i).outcome out) out)
    ∙ left_by_lem (event_of d c.event c.clock c.room).outcome out

-- a name and a cue that are told are those of a message that was read
abbrev Plain : Hearing → Type 0
Plain x = TellsPlainly (Did x.effect)

module _ (m : Meaning) (got : NameIn (message_name m) × (length (message_cue m) ≡ 24)) (d : Display) where
  heard-plain : (w : Seen) → Plain (heard_in w m d)
  unfolding heard_in
  heard-plain Unstarted = by_cond Plain (is_original d m) (λ _. got) (λ _. tt)
  heard-plain (Started w) = by_cond Plain (is_original d m || is_repair d m)
      (λ _. by_cond Plain (is_new d.window (message_name m).number.0) (λ _. got) (λ _. tt))
      (λ _. by_cond Plain (is_announced d m) (λ _. tt) (λ _. tt))

step-plain : (d : Display) (n : rust.Option ℕ) → Plain (request_if n d)
step-plain d None = tt
step-plain d (Some n) = tt

act_plain : (ev : Event) (d : Display) → first_no (own_questions ev) ≡ 0 → Plain (act_of ev d)
unfolding step_of
act_plain (Hear []) d own = tt
act_plain (Hear (b ∷ s)) d own =
    let v = message_in_lem (b ∷ s) own in
    heard-plain (meaning_from (b ∷ s)) (record { source = v.source; number = v.number }, v.long) d d.window
act_plain Step d own = step-plain d (lowest_missing d.window)

own-most : (ev : Event) → Most (own_questions ev)
own-most (Hear []) = tt
own-most (Hear (b ∷ s)) = (omega arith, (omega arith, (omega arith, (omega arith, tt))))
own-most Step = tt

call-told : (d : Display) (ev : Event) (clock room : ℕ) → TellsPlainly (event_of d ev clock room).outcome
unfolding event_of question_of
call-told d ev clock room = by_cond (λ (r : Result). TellsPlainly r.outcome) (eqb (question_of d ev clock room) 0)
    (λ t.
    let q5 = ask (leb d.clock clock) 5 ∷ own_questions ev in
    let q4 = ask (ticks_in clock) 4 ∷ q5 in
    let q3 = ask (sound_of d) 3 ∷ q4 in
    let one = all-passed (leb room_needed room) 1 q3 (omega arith) (eqb-true _ _ t) in
    let three = all-passed (sound_of d) 3 q4 (omega arith) one.1 in
    let four = all-passed (ticks_in clock) 4 q5 (omega arith) three.1 in
    let five = all-passed (leb d.clock clock) 5 (own_questions ev) (omega arith) four.1 in
    act_plain ev (with_clock d clock) five.1)
    (λ _. first-most (questions d ev clock room) (omega arith, (omega arith, (omega arith, (omega arith, own-most ev)))))

pub display_reads_back : DisplayReadsBack
display_reads_back own sender s z cs c out =
    let d = (opened_for own sender).display in
    let e = after_all d cs in
    let left = bytes_through (open_state own sender s) cs in
    let h : Holds left e = (display_is_played own sender s z cs).holds in
    let k = kept-all d (open_kept own sender) cs in
    let o = (event_of e c.event c.clock c.room).outcome in
    let output = output-is left e h k c out in
    let number : call_number c.event c.clock c.room left ≡ number_of (answer_of o) = number-told c.event c.clock c.room left h.tested
    ∙ ap (λ (x : Result). number_of (answer_of x.outcome)) (same left e h k c) in
    let back = outcome_back o out (call-told e c.event c.clock c.room)
    (λ bytes p. short bytes (out_is_request (host_of own) (host_of sender) cs c bytes p).accepted) in
    (output, (λ i. outcome_in (number i) (output i)) ∙ back)

pub no_display_is_refused : NoDisplayIsRefused
unfolding call_number call_state call_lost call_out goes
no_display_is_refused ev clock room s lost out r h = (rw (le-leb room_needed room r, h), rw h, rw h, rw h)
