-- Document 02, P9: what a call that answers Late was: an arrival of kind 23 at a member, from another, of a cue that it may hand out.
use mathlib.Core.Path.{◌≡◌, refl, sym, ap, ◌∙◌}
use mathlib.Core.Bool.{Bool, true, false}
use mathlib.Core.List.{List, [], ◌∷◌}
use Prim.Native.Nat.{ℕ}
use lib.Dec.{eqb}
use Rattle.message.specs.declared.Name.{Name}
use Rattle.message.specs.Message.{DATA, RQST, REPL, XPRS, FTCH, LATE, ANNC, Meaning, meaning_from}
use Rattle.message.specs.Question.{same_host, message_questions, read_questions}
use Rattle.end.specs.declared.Move.{Move}
use Rattle.end.specs.declared.Slot.{Slot}
use Rattle.end.specs.declared.Slot.TheVariants.{Empty, Held, Waiting}
use Rattle.end.specs.Parts.{No, Due, Span, Closed, Open, Earliest, NoWait, First, Nearest, Nobody, Found}
use Rattle.end.specs.declared.Says.{Says}
use Rattle.end.specs.declared.Says.TheVariants.{Data, Rqst, Repl, Xprs}
use Rattle.end.specs.declared.Moment.{Moment}
use Rattle.end.specs.declared.Word.{Word}
use Rattle.end.specs.declared.Record.{Record}
use Rattle.end.specs.declared.Decision.{Decision}
use Rattle.end.specs.declared.Decision.TheVariants.{Ignores, Opens, Takes, Repairs, Hushes, Replies, Learns, BacksOff, Clashes, Expresses}
use Rattle.end.specs.declared.End.{End}
use Rattle.end.specs.State.{source_at, is_member, is_crashed, moment_of, with_clock, on_source}
use Rattle.end.specs.Answer.{Effect, Out, Got, Done, Ignored, Nothing, Clash, Late, Exhausted, Step}
use Rattle.end.specs.Decide.{decide, known, effect_of, step_at}
use Rattle.end.specs.Session.{session_of}
use Rattle.end.specs.Fetch.{may_fetch, nearest, try_of, fetch_of, may_answer, fetched_of, may_hand, hands_late, late_of}
use Rattle.end.specs.Arrival.{message_name, message_cue, word_of, word_step, message_step, arrival_of}
use Rattle.end.specs.Fire.{express_rank, fire_at, fired, earliest}
use Rattle.end.specs.Event.{Other, Fire, Report, Announce, Fetch, announced, Action, Moves, Send, Arrival, Else, moves, move_of, other_of, if_member, act_of, step_of}
use Rattle.end.proofs.Tools.{by_cond, clash}

-- ---- the steps that hand no fetched cue out
abbrev is_late : Effect → Bool
is_late (Out bytes) = false
is_late (Got name cue) = false
is_late Done = false
is_late Ignored = false
is_late Nothing = false
is_late (Clash name) = false
is_late (Late name cue) = true
is_late Exhausted = false

-- a step is not late
abbrev Plain : Step → Type 0
Plain r = is_late r.effect ≡ false

move-plain : (m : Move) (e : End) → Plain (move_of m e)
unfolding move_of
move-plain m e = by_cond Plain (moves m e.status) (λ _. refl) (λ _. refl)

fire-plain : (us : List ℕ) (rank : ℕ) (name : Name) (e : End) (x : Slot) → Plain (fire_at us rank name e x)
unfolding fire_at
fire-plain us rank name e Empty = refl
fire-plain us rank name e (Waiting q x) = by_cond Plain (eqb rank express_rank) (λ _. refl) (λ _. refl)
fire-plain us rank name e (Held No) = refl
fire-plain us rank name e (Held (Due due k)) = refl

fired-plain : (us : List ℕ) (e : End) (x : Earliest) → Plain (fired us e x)
unfolding fired
fired-plain us e NoWait = refl
fired-plain us e (First w) = fire-plain us w.rank w.name e _

try_plain : (name : Name) (e : End) (x : Nearest) → Plain (try_of name e x)
unfolding try_of
try_plain name e Nobody = refl
try_plain name e (Found h d) = refl

announced-plain : (t : Moment) (x : Span) (e : End) → Plain (announced t x e)
announced-plain t Closed e = refl
announced-plain t (Open first last) e = refl

other-plain : (us : List ℕ) (o : Other) (e : End) → Plain (other_of us o e)
unfolding fetch_of
other-plain us Fire e = fired-plain us e (earliest e 8)
other-plain us Report e = refl
other-plain us Announce e = announced-plain (moment_of e) (source_at e e.host).span e
other-plain us (Fetch name) e = by_cond Plain (may_fetch e name) (λ _. try_plain name e (nearest e name 8)) (λ _. refl)

decided_plain : (t : Moment) (w : Word) (r : Record) (d : Decision) → is_late (effect_of t w r d) ≡ false
unfolding effect_of
decided_plain t w r (Ignores why) = refl
decided_plain t w r Opens = refl
decided_plain t w r Takes = refl
decided_plain t w r Repairs = refl
decided_plain t w r Hushes = refl
decided_plain t w r Replies = refl
decided_plain t w r Learns = refl
decided_plain t w r (BacksOff k) = refl
decided_plain t w r Clashes = refl
decided_plain t w r Expresses = refl

word_plain : (us : List ℕ) (says : Says) (m : Meaning) (e : End) → Plain (word_step us says m e)
unfolding step_at
word_plain us says m e =
    let w = word_of says m e in
    let s = source_at e (message_name m).source in
    decided_plain (moment_of e) w (known w s) (decide (moment_of e) w s)

-- ---- a message that is handed out as Late
pub record LateMessage (e : End) (m : Meaning) (name : Name) (cue : List ℕ) (left : End) : Type 0 where
  pub member : is_member e.status ≡ true
  pub another : same_host m.sender e.host ≡ false
  pub kind : eqb m.kind LATE ≡ true
  pub hands : may_hand e m ≡ true
  pub named : message_name m ≡ name
  pub carried : message_cue m ≡ cue
  pub leaves : left ≡ on_source e (message_name m).source (hands_late (message_name m).number.0)

module _ (us : List ℕ) (m : Meaning) (e : End) (name : Name) (cue : List ℕ) where
  -- where a step is late, the message was handed out
  abbrev Comes : Step → Type 0
  Comes r = r.effect ≡ Late name cue → LateMessage e m name cue r.left

  plain : (r : Step) → Plain r → Comes r
  plain r q p = clash (sym (ap is_late p) ∙ q)

  message-late : is_member e.status ≡ true → same_host m.sender e.host ≡ false → Comes (message_step us m e)
  unfolding message_step session_of fetched_of late_of
  message-late member another =
      by_cond Comes (eqb m.kind DATA) (λ _. plain _ (word_plain us Data m e))
      (λ _. by_cond Comes (eqb m.kind RQST) (λ _. plain _ (word_plain us Rqst m e))
      (λ _. by_cond Comes (eqb m.kind REPL) (λ _. plain _ (word_plain us Repl m e))
      (λ _. by_cond Comes (eqb m.kind XPRS) (λ _. plain _ (word_plain us Xprs m e))
      (λ _. by_cond Comes (eqb m.kind FTCH) (λ _. by_cond Comes (may_answer e m) (λ _. plain _ refl) (λ _. plain _ refl))
      (λ _. by_cond Comes (eqb m.kind LATE)
      (λ k. by_cond Comes (may_hand e m)
      (λ t p. record { member = member; another = another; kind = k; hands = t; named = cc; carried = cc; leaves = refl })
      (λ _. plain _ refl))
      (λ _. by_cond Comes (eqb m.kind ANNC) (λ _. plain _ refl)
      (λ _. plain _ refl)))))))

  pub arrival-late : Comes (if_member e (arrival_of us m e))
  unfolding arrival_of
  arrival-late =
      by_cond Comes (is_member e.status)
      (λ member. by_cond Comes (same_host m.sender e.host) (λ _. plain _ refl) (λ another. message-late member another))
      (λ _. plain _ refl)

-- ---- any event
pub record LateOf (e : End) (clock : ℕ) (a : Action) (name : Name) (cue : List ℕ) (left : End) : Type 0 where
  pub bytes : List ℕ
  pub arrival : a ≡ Arrival bytes
  -- no probe is handed out, so the questions asked were a message's
  pub asked : read_questions bytes ≡ message_questions bytes
  pub message : LateMessage (with_clock e clock) (meaning_from bytes) name cue left

module _ (e : End) (clock : ℕ) (us : List ℕ) (name : Name) (cue : List ℕ) where
  abbrev Answers : Action → Step → Type 0
  Answers a r = r.effect ≡ Late name cue → LateOf e clock a name cue r.left

  never : (a : Action) (r : Step) → Plain r → Answers a r
  never a r q p = clash (sym (ap is_late p) ∙ q)

  acts : (a : Action) → Answers a (act_of us a (with_clock e clock))
  unfolding act_of
  acts (Moves m) = never (Moves m) _ (move-plain m (with_clock e clock))
  acts (Send c) = by_cond (Answers (Send c)) (is_member e.status) (λ _. never (Send c) _ refl) (λ _. never (Send c) _ refl)
  acts (Arrival []) = by_cond (Answers (Arrival [])) (is_member e.status) (λ _. never (Arrival []) _ refl) (λ _. never (Arrival []) _ refl)
  acts (Arrival (b ∷ s)) = λ p.
      record { bytes = b ∷ s; arrival = refl; asked = refl; message = arrival-late us (meaning_from (b ∷ s)) (with_clock e clock) name cue p }
  acts (Else o) =
      by_cond (Answers (Else o)) (is_member e.status) (λ _. never (Else o) _ (other-plain us o (with_clock e clock))) (λ _. never (Else o) _ refl)

  pub step-late : (a : Action) → (step_of clock us a e).effect ≡ Late name cue → LateOf e clock a name cue (step_of clock us a e).left
  unfolding step_of
  step-late a = by_cond (Answers a) (is_crashed e.status) (λ _. never a _ refl) (λ _. acts a)
