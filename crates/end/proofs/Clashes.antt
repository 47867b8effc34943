-- Where a Clash comes from: a call answers it only where its message clashes, and then nothing has changed. And what it is that two cues
-- are the same.
use mathlib.Core.Path.{◌≡◌, refl, sym, ap, ◌∙◌}
use mathlib.Core.Bool.{Bool, true, false, ◌&&◌, ◌||◌}
use mathlib.Core.List.{List, [], ◌∷◌}
use Prim.Native.Nat.{ℕ}
use lib.Seq.{set-get_or}
use lib.Dec.{eqb}
use borrow.Author.Tests.{eqb-true, eq-eqb}
use Rattle.message.specs.declared.Name.{Name}
use Rattle.message.specs.Message.{DATA, RQST, REPL, XPRS, FTCH, LATE, ANNC, Meaning, meaning_from}
use Rattle.message.specs.Question.{same_host, message_questions, read_questions}
use Rattle.end.specs.declared.Move.{Move}
use Rattle.end.specs.declared.Slot.{Slot}
use Rattle.end.specs.declared.Slot.TheVariants.{Empty, Held, Waiting}
use Rattle.end.specs.Parts.{No, Due, Span, Closed, Open, Earliest, NoWait, First, Nearest, Nobody, Found}
use Rattle.end.specs.declared.Says.{Says}
use Rattle.end.specs.declared.Says.TheVariants.{Data, Rqst, Repl, Xprs}
use Rattle.end.specs.declared.Decision.{Decision}
use Rattle.end.specs.declared.Decision.TheVariants.{Ignores, Opens, Takes, Repairs, Hushes, Replies, Learns, BacksOff, Clashes, Expresses}
use Rattle.end.specs.declared.Moment.{Moment}
use Rattle.end.specs.declared.End.{End}
use Rattle.end.specs.State.{no_source, source_at, is_member, is_crashed, moment_of, with_sources, with_clock}
use Rattle.end.specs.Answer.{Effect, Out, Got, Done, Ignored, Nothing, Clash, Late, Exhausted, Step}
use Rattle.end.specs.Decide.{same_cue, decide, known, apply, effect_of, step_by, step_at}
use Rattle.end.specs.Session.{session_of}
use Rattle.end.specs.Arrival.{message_name, word_of, word_step, message_step, arrival_of}
use Rattle.end.specs.Fire.{express_rank, fire_at, fired, earliest}
use Rattle.end.specs.Fetch.{may_fetch, nearest, try_of, fetch_of, may_answer, fetched_of, may_hand, late_of}
use Rattle.end.specs.Event.{Other, Fire, Report, Announce, Fetch, announced, Action, Moves, Send, Arrival, Else, moves, move_of, other_of, if_member, act_of, step_of}
use Rattle.end.specs.Clashes.{SameCueIsSameBytes, named_record, Clashing}
use Rattle.end.proofs.Tools.{by_cond, clash, clash', and_left, and_right}
use Rattle.end.proofs.Grounds.{is_request, Grounds, grounds}

-- ---- the same cue
same_bytes : (a b : List ℕ) → same_cue a b ≡ true → a ≡ b
unfolding same_cue
same_bytes [] [] h = refl
same_bytes [] (b ∷ bs) h = clash' h
same_bytes (a ∷ l) [] h = clash' h
same_bytes (a ∷ l) (b ∷ bs) h = λ i. eqb-true a b (and_left (eqb a b) _ h) i ∷ same_bytes l bs (and_right (eqb a b) _ h) i

same_self : (a : List ℕ) → same_cue a a ≡ true
unfolding same_cue
same_self [] = refl
same_self (a ∷ l) = λ i. eq-eqb a a refl i && same_self l i

pub same_cue_is_same_bytes : SameCueIsSameBytes
same_cue_is_same_bytes a b = (same_bytes a b, λ p. ap (λ (x : List ℕ). same_cue a x) (sym p) ∙ same_self a)

-- ---- the steps that never clash
abbrev is_clash : Effect → Bool
is_clash (Out bytes) = false
is_clash (Got name cue) = false
is_clash Done = false
is_clash Ignored = false
is_clash Nothing = false
is_clash (Clash name) = true
is_clash (Late name cue) = false
is_clash Exhausted = false

-- where a step clashes, the message clashed, and nothing has changed
abbrev pub Clashed : End → Meaning → Step → Type 0
Clashed e m r = (name : Name) → r.effect ≡ Clash name → Clashing e m × (message_name m ≡ name) × (r.left ≡ e)

never : (e : End) (m : Meaning) (r : Step) → is_clash r.effect ≡ false → Clashed e m r
never e m r q name p = clash (sym (ap is_clash p) ∙ q)

move-calm : (m : Move) (e : End) → is_clash (move_of m e).effect ≡ false
unfolding move_of
move-calm m e = by_cond (λ (r : Step). is_clash r.effect ≡ false) (moves m e.status) (λ _. refl) (λ _. refl)

fire-calm : (us : List ℕ) (rank : ℕ) (name : Name) (e : End) (x : Slot) → is_clash (fire_at us rank name e x).effect ≡ false
unfolding fire_at
fire-calm us rank name e Empty = refl
fire-calm us rank name e (Waiting q x) = by_cond (λ (r : Step). is_clash r.effect ≡ false) (eqb rank express_rank) (λ _. refl) (λ _. refl)
fire-calm us rank name e (Held No) = refl
fire-calm us rank name e (Held (Due due k)) = refl

fired-calm : (us : List ℕ) (e : End) (x : Earliest) → is_clash (fired us e x).effect ≡ false
unfolding fired
fired-calm us e NoWait = refl
fired-calm us e (First w) = fire-calm us w.rank w.name e _

try_calm : (name : Name) (e : End) (x : Nearest) → is_clash (try_of name e x).effect ≡ false
unfolding try_of
try_calm name e Nobody = refl
try_calm name e (Found h d) = refl

announced-calm : (t : Moment) (x : Span) (e : End) → is_clash (announced t x e).effect ≡ false
announced-calm t Closed e = refl
announced-calm t (Open first last) e = refl

other-calm : (us : List ℕ) (o : Other) (e : End) → is_clash (other_of us o e).effect ≡ false
unfolding fetch_of
other-calm us Fire e = fired-calm us e (earliest e 8)
other-calm us Report e = refl
other-calm us Announce e = announced-calm (moment_of e) (source_at e e.host).span e
other-calm us (Fetch name) e =
    by_cond (λ (r : Step). is_clash r.effect ≡ false) (may_fetch e name) (λ _. try_calm name e (nearest e name 8)) (λ _. refl)

-- ---- a message about a name, by what was decided
module _ (us : List ℕ) (says : Says) (m : Meaning) (e : End) (member : is_member e.status ≡ true) (another : same_host m.sender e.host ≡ false)
    (carries : is_request says ≡ false → eqb m.kind DATA || eqb m.kind REPL ≡ true) where
  decided : (d : Decision) → Grounds (moment_of e) (word_of says m e) (named_record e m) (source_at e (message_name m).source).span d
      → Clashed e m (step_by (moment_of e) us (word_of says m e) e d)
  unfolding Grounds apply effect_of
  decided (Ignores why) g = never e m _ refl
  decided Opens g = never e m _ refl
  decided Takes g = never e m _ refl
  decided Repairs g = never e m _ refl
  decided Hushes g = never e m _ refl
  decided Replies g = never e m _ refl
  decided Learns g = never e m _ refl
  decided (BacksOff k) g = never e m _ refl
  decided Clashes g = λ name p. (
    record { member = member; another = another; carries = carries g.0; held = g.1; differs = g.2 },
    cc,
    ap (with_sources e) (set-get_or e.sources (message_name m).source.0 no_source),
  )
  decided Expresses g = never e m _ refl

  word_clashed : Clashed e m (word_step us says m e)
  unfolding step_at
  word_clashed =
      let w = word_of says m e in
      let s = source_at e (message_name m).source in
      decided (decide (moment_of e) w s) (grounds (moment_of e) w (known w s) s.span)

-- ---- any message, and any event
message_clashed : (us : List ℕ) (m : Meaning) (e : End) → is_member e.status ≡ true → same_host m.sender e.host ≡ false → Clashed e m (message_step us m e)
unfolding message_step session_of fetched_of late_of
message_clashed us m e member another =
    by_cond (Clashed e m) (eqb m.kind DATA) (λ k. word_clashed us Data m e member another (λ _. rw k))
    (λ d. by_cond (Clashed e m) (eqb m.kind RQST) (λ k. word_clashed us Rqst m e member another (λ q. clash q))
    (λ _. by_cond (Clashed e m) (eqb m.kind REPL) (λ k. word_clashed us Repl m e member another (λ _. rw (d, k)))
    (λ _. by_cond (Clashed e m) (eqb m.kind XPRS) (λ k. word_clashed us Xprs m e member another (λ q. clash q))
    (λ _. by_cond (Clashed e m) (eqb m.kind FTCH) (λ _. by_cond (Clashed e m) (may_answer e m) (λ _. never e m _ refl) (λ _. never e m _ refl))
    (λ _. by_cond (Clashed e m) (eqb m.kind LATE) (λ _. by_cond (Clashed e m) (may_hand e m) (λ _. never e m _ refl) (λ _. never e m _ refl))
    (λ _. by_cond (Clashed e m) (eqb m.kind ANNC) (λ _. never e m _ refl)
    (λ _. never e m _ refl)))))))

arrival_clashed : (us : List ℕ) (m : Meaning) (e : End) → Clashed e m (if_member e (arrival_of us m e))
unfolding arrival_of
arrival_clashed us m e =
    by_cond (Clashed e m) (is_member e.status)
    (λ member. by_cond (Clashed e m) (same_host m.sender e.host) (λ _. never e m _ refl) (λ another. message_clashed us m e member another))
    (λ _. never e m _ refl)

-- what a call that answers Clash was: its message clashed on the end with its clock set, and that is the end that it left
pub record ClashOf (e : End) (clock : ℕ) (a : Action) (name : Name) (left : End) : Type 0 where
  pub bytes : List ℕ
  pub arrival : a ≡ Arrival bytes
  -- no probe clashes, so the questions asked were a message's
  pub asked : read_questions bytes ≡ message_questions bytes
  pub clashing : Clashing (with_clock e clock) (meaning_from bytes)
  pub named : message_name (meaning_from bytes) ≡ name
  pub stays : left ≡ with_clock e clock

module _ (e : End) (clock : ℕ) (us : List ℕ) (name : Name) where
  abbrev Comes : Action → Step → Type 0
  Comes a r = r.effect ≡ Clash name → ClashOf e clock a name r.left

  calm : (a : Action) (r : Step) → is_clash r.effect ≡ false → Comes a r
  calm a r q p = clash (sym (ap is_clash p) ∙ q)

  acts : (a : Action) → Comes a (act_of us a (with_clock e clock))
  unfolding act_of
  acts (Moves m) = calm (Moves m) _ (move-calm m (with_clock e clock))
  acts (Send cue) = by_cond (Comes (Send cue)) (is_member e.status) (λ _. calm (Send cue) _ refl) (λ _. calm (Send cue) _ refl)
  acts (Arrival []) = by_cond (Comes (Arrival [])) (is_member e.status) (λ _. calm (Arrival []) _ refl) (λ _. calm (Arrival []) _ refl)
  acts (Arrival (b ∷ s)) = λ p.
      let k = arrival_clashed us (meaning_from (b ∷ s)) (with_clock e clock) name p in
      record { bytes = b ∷ s; arrival = refl; asked = refl; clashing = k.0; named = k.1; stays = k.2 }
  acts (Else o) =
      by_cond (Comes (Else o)) (is_member e.status) (λ _. calm (Else o) _ (other-calm us o (with_clock e clock))) (λ _. calm (Else o) _ refl)

  pub step-clashes : (a : Action) → (step_of clock us a e).effect ≡ Clash name → ClashOf e clock a name (step_of clock us a e).left
  unfolding step_of
  step-clashes a = by_cond (Comes a) (is_crashed e.status) (λ _. calm a _ refl) (λ _. acts a)
