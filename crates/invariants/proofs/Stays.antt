-- Sound stays sound: the statements of specs/Sound.antt.
use mathlib.Core.Path.{◌≡◌, refl, sym, ap, ◌∙◌}
use mathlib.Core.Bool.{true, false, ◌&&◌}
use mathlib.Core.List.{List, [], ◌∷◌}
use Prim.Native.Nat.{ℕ, zero, suc, ◌<◌}
use native.Mathlib.Omega.{arith}
use lib.ListN.{length}
use lib.Dec.{eqb}
use borrow.Author.Tests.{eqb-true, ltb-true}
use Rattle.message.specs.declared.Host.{Host}
use Rattle.message.specs.Entry.{as_host}
use Rattle.message.specs.Message.{DATA, RQST, REPL, XPRS, FTCH, LATE, ANNC, meaning_from}
use Rattle.message.specs.Question.{ask, first_no, host_in, message_questions, same_host}
use Rattle.message.proofs.QuestionLaws.{and_both, all-passed}
use Rattle.end.specs.declared.Params.{Params}
use Rattle.end.specs.declared.Status.TheVariants.{Idle, Crashed}
use Rattle.end.specs.declared.Says.{Says}
use Rattle.end.specs.declared.Says.TheVariants.{Data, Rqst, Repl, Xprs}
use Rattle.end.specs.Parts.{Span, Closed, Open}
use Rattle.end.specs.declared.End.{End}
use Rattle.end.specs.State.{fresh_end, source_at, is_member, is_crashed, moment_of, with_clock}
use Rattle.end.specs.Round.{Drawn}
use Rattle.end.specs.Sound.{all_of, params_tests, delay_in, sound_of}
use Rattle.end.specs.Answer.{Step, Result}
use Rattle.end.specs.Arrival.{message_name, requester_in, word_of, word_step, message_step, arrival_of}
use Rattle.end.specs.Fire.{earliest}
use Rattle.end.specs.Event.{Action, Moves, Send, Arrival, Else, Other, Fire, Report, Announce, Fetch, announced, other_of, act_of, step_of, own_questions, question_of, event_of}
use Rattle.end.specs.Opening.{constrained_tests, open_refusal, house_params, end_for, opening_of}
use Rattle.end.specs.Run.{CueArray}
use Rattle.end.proofs.Tools.{by_cond, clash'}
use Rattle.end.proofs.Grounds.{is_data, is_request}
use Rattle.invariants.specs.Sound.{OpensSound, StaysSound}
use Rattle.invariants.proofs.Facts.{SoundState, facts, sound, ranges_of}
use Rattle.invariants.proofs.Readings.{message_in_lem, data_source, asked-source, express-source}
use Rattle.invariants.proofs.Ends.{clock-kept, unheard-kept}
use Rattle.invariants.proofs.Moves.{move-kept, send-kept}
use Rattle.invariants.proofs.Members.{step_kept, session-kept, fired-kept}
use Rattle.invariants.proofs.Fetches.{fetch-kept, fetched-kept, handed-kept}
use Rattle.invariants.proofs.Questions.{passes, send-asked}

-- ---- an opening

-- what is opened has passed questions 12, 13 and 14
fresh-sound : (h : Host) (p : Params) → open_refusal h p ≡ 0 → SoundState (fresh_end h p Idle)
unfolding open_refusal
fresh-sound h p q =
    let delay = ask (delay_in p) 14 ∷ [] in
    let twelve = all-passed (host_in h) 12 (ask (all_of (params_tests p) && all_of (constrained_tests p)) 13 ∷ delay) (omega arith) q in
    let thirteen = all-passed (all_of (params_tests p) && all_of (constrained_tests p)) 13 delay (omega arith) twelve.1 in
    let fourteen = (all-passed (delay_in p) 14 [] (omega arith) thirteen.1).0 in
    unheard-kept (fresh_end h p Idle) (ltb-true h.0 8 twelve.0) (and_both (all_of (params_tests p)) (all_of (constrained_tests p)) thirteen.0).0 fourteen
    (omega arith) (omega arith) refl

pub opens-sound : OpensSound
unfolding opening_of
opens-sound h p = go (open_refusal h p) refl
  where
    go : (k : ℕ) → open_refusal h p ≡ k → sound_of (end_for k h p) ≡ true
    go zero q = sound (fresh_end h p Idle) (fresh-sound h p q)
    go (suc k) q = let e = fresh_end (as_host 0) house_params Crashed in sound e (unheard-kept e (omega arith) refl refl (omega arith) (omega arith) refl)

-- what a step leaves is sound
abbrev Leaves : Step → Type 0
Leaves r = SoundState r.left

-- ---- what a member does

-- the kind of a message that says so
abbrev pub kind_of : Says → ℕ
kind_of Data = DATA
kind_of Rqst = RQST
kind_of Repl = REPL
kind_of Xprs = XPRS

module _ (e : End) (f : SoundState e) (us : List ℕ) (drawn : Drawn us) (member : is_member e.status ≡ true) where
  module _ (x : List ℕ) (read : first_no (message_questions x) ≡ 0) (other : same_host (meaning_from x).sender e.host ≡ false) where
    original : (says : Says) → eqb (meaning_from x).kind (kind_of says) ≡ true → says ≡ Data → same_host (message_name (meaning_from x)).source e.host ≡ false
    original Data k p = ap (λ (i : ℕ). eqb i e.host.0) (sym (data_source x read k)) ∙ other
    original Rqst k p = clash' (ap is_data p)
    original Repl k p = clash' (ap is_data p)
    original Xprs k p = clash' (ap is_data p)

    requester : (says : Says) → (requester_in says (meaning_from x)).0 < 8
    requester Data = (message_in_lem x read).sender
    requester Rqst = (message_in_lem x read).sender
    requester Repl = (message_in_lem x read).host
    requester Xprs = (message_in_lem x read).sender

    asker : (says : Says) → eqb (meaning_from x).kind (kind_of says) ≡ true → is_request says ≡ true → let k = requester_in says (meaning_from x) in
        (same_host k e.host ≡ false) × (same_host k (message_name (meaning_from x)).source ≡ false)
    asker Data k p = clash' p
    asker Rqst k p = (other, asked-source x read k)
    asker Repl k p = clash' p
    asker Xprs k p = (other, express-source x read k)

    -- DATA, RQST, REPL, XPRS
    word_kept : (says : Says) → eqb (meaning_from x).kind (kind_of says) ≡ true → Leaves (word_step us says (meaning_from x) e)
    word_kept says k =
        let m = meaning_from x in
        let v = message_in_lem x read in
        step_kept e us (word_of says m e) drawn (record {
          source = v.source;
          number = v.number;
          distance = ranges_of e f (requester_in says m) (requester says);
          long = v.long;
          cue = v.cue;
          original = original says k;
          sender = v.sender;
          other = other;
          requester = requester says;
          asker = asker says k;
        }) f member

    message-kept : Leaves (message_step us (meaning_from x) e)
    unfolding message_step
    message-kept =
        let m = meaning_from x in
        let v = message_in_lem x read in
        by_cond Leaves (eqb m.kind DATA) (word_kept Data)
        (λ _. by_cond Leaves (eqb m.kind RQST) (word_kept Rqst)
        (λ _. by_cond Leaves (eqb m.kind REPL) (word_kept Repl)
        (λ _. by_cond Leaves (eqb m.kind XPRS) (word_kept Xprs)
        (λ _. by_cond Leaves (eqb m.kind FTCH) (λ _. fetched-kept e f m)
        (λ _. by_cond Leaves (eqb m.kind LATE) (λ _. handed-kept e f m v.source)
        (λ _. by_cond Leaves (eqb m.kind ANNC) (λ _. f)
        (λ _. session-kept us drawn m v.sender v.stamp e f member other v.reports)))))))

  arrival-kept : (x : List ℕ) → first_no (message_questions x) ≡ 0 → Leaves (arrival_of us (meaning_from x) e)
  unfolding arrival_of
  arrival-kept x read = by_cond Leaves (same_host (meaning_from x).sender e.host) (λ _. f) (message-kept x read)

  announced-kept : (x : Span) → Leaves (announced (moment_of e) x e)
  announced-kept Closed = f
  announced-kept (Open first last) = f

  other-kept : (o : Other) → Leaves (other_of us o e)
  other-kept Fire = fired-kept e f member us drawn (earliest e 8)
  other-kept Report = f
  other-kept Announce = announced-kept (source_at e e.host).span
  other-kept (Fetch name) = fetch-kept e f name

-- ---- every event
act_kept : (us : List ℕ) → Drawn us → (a : Action) (e : End) (t : ℕ) → SoundState (with_clock e t) → CueArray a → first_no (own_questions a e) ≡ 0
    → Leaves (act_of us a (with_clock e t))
unfolding act_of
act_kept us drawn (Moves m) e t f array own = move-kept m (with_clock e t) f
act_kept us drawn (Send cue) e t f array own =
    let asked = send-asked cue e own in
    by_cond Leaves (is_member e.status) (λ m. send-kept us cue (with_clock e t) array asked.0 f m (asked.1 m)) (λ _. f)
act_kept us drawn (Arrival []) e t f array own = by_cond Leaves (is_member e.status) (λ m. other-kept (with_clock e t) f us drawn m Report) (λ _. f)
act_kept us drawn (Arrival (b ∷ s)) e t f array own =
    by_cond Leaves (is_member e.status) (λ m. arrival-kept (with_clock e t) f us drawn m (b ∷ s) own) (λ _. f)
act_kept us drawn (Else o) e t f array own = by_cond Leaves (is_member e.status) (λ m. other-kept (with_clock e t) f us drawn m o) (λ _. f)

pub stays-sound : StaysSound
unfolding event_of step_of
stays-sound e a clock room draws drawn array given =
    by_cond (λ (r : Result). sound_of r.left ≡ true) (eqb (question_of e a clock room (length draws)) 0)
    (λ t.
    let p = passes e a clock room (length draws) (eqb-true _ _ t) in
    let f = facts e given in
    sound (step_of clock draws a e).left
    (by_cond Leaves (is_crashed e.status) (λ _. f)
    (λ _. act_kept draws drawn a e clock (clock-kept e clock f p.later p.ticks) array p.own)))
    (λ _. given)
