-- A call on bytes that hold a sound end: its number, its output, and bytes that hold the end that the event leaves.
use mathlib.Core.Path.{◌≡◌, refl, sym, ap, ◌∙◌, subst}
use mathlib.Core.Bool.{Bool, true, false, cond}
use mathlib.Core.List.{List}
use Prim.Native.Nat.{ℕ}
use lib.ListN.{length}
use lib.Dec.{leb, eqb}
use Rattle.message.specs.Entry.{as_host}
use Rattle.end.specs.declared.End.{End}
use Rattle.end.specs.Round.{Drawn}
use Rattle.end.specs.Sound.{sound_of}
use Rattle.end.specs.Answer.{Effect, Out, Got, Done, Ignored, Nothing, Clash, Late, Exhausted, Outcome, Refused, Did, Result, answer_of, buffer_of}
use Rattle.end.specs.Event.{Action, question_of, event_of, gives, leaves}
use Rattle.end.specs.Opening.{open_refusal}
use Rattle.end.specs.Run.{CueArray}
use Rattle.end.proofs.Tools.{by_test}
use Rattle.invariants.proofs.Stays.{stays-sound}
use Rattle.guarantees.proofs.Arrivals.{refused_changes_nothing}
use Rattle.guarantees.proofs.Slots.{host_and_params_stay}
use Rattle.lent_answer.specs.Number.{number_of, is_refused}
use Rattle.lent_end.specs.State.{end_bytes, Holds}
use Rattle.lent_calls.specs.Call.{after, call_number, call_state, call_out}
use Rattle.lent_runs.proofs.Reopening.{BlankAside, call-aside}
use Rattle.lent_runs.proofs.Typed.{TypedEnd, call_typed}
use Rattle.lent_runs.proofs.Fits.{sound-holds}

-- ---- refused as 1 or 2 where the bytes are not looked at
asked-room : (e : End) (a : Action) (clock room draws : ℕ) → leb 128 room ≡ false → question_of e a clock room draws ≡ 1
unfolding question_of
asked-room e a clock room draws r = rw r

asked-draws : (e : End) (a : Action) (clock room draws : ℕ) → leb 128 room ≡ true → eqb draws 64 ≡ false → question_of e a clock room draws ≡ 2
unfolding question_of
asked-draws e a clock room draws r d = rw (r, d)

refused_as_lem : (e : End) (a : Action) (clock room : ℕ) (draws : List ℕ) (k : ℕ) → eqb k 0 ≡ false → question_of e a clock room (length draws) ≡ k
    → event_of e a clock room draws ≡ record { outcome = Refused k; left = e }
unfolding event_of
refused_as_lem e a clock room draws k z q = rw (q, z)

pub did_not_refuse : (x : Effect) → is_refused (answer_of (Did x)) ≡ false
unfolding answer_of
did_not_refuse (Out bytes) = refl
did_not_refuse (Got name cue) = refl
did_not_refuse Done = refl
did_not_refuse Ignored = refl
did_not_refuse Nothing = refl
did_not_refuse (Clash name) = refl
did_not_refuse (Late name cue) = refl
did_not_refuse Exhausted = refl

-- a call by its three cases, on bytes that hold an end
module _ (a : Action) (clock : ℕ) (draws out s : List ℕ) (e : End) (h : Holds s e) where
  abbrev R : Result
  R = event_of e a clock (length out) draws

  by_lengths : (P : Type 0) → (leb 128 (length out) ≡ false → P) → (leb 128 (length out) ≡ true → eqb (length draws) 64 ≡ false → P)
      → (leb 128 (length out) ≡ true → eqb (length draws) 64 ≡ true → P) → P
  by_lengths P no_room no_draws both = by_test (leb 128 (length out)) (λ r. by_test (eqb (length draws) 64) (both r) (no_draws r)) no_room

  no_room : leb 128 (length out) ≡ false → R ≡ record { outcome = Refused 1; left = e }
  no_room r = refused_as_lem e a clock (length out) draws 1 refl (asked-room e a clock (length out) (length draws) r)

  no_draws : leb 128 (length out) ≡ true → eqb (length draws) 64 ≡ false → R ≡ record { outcome = Refused 2; left = e }
  no_draws r d = refused_as_lem e a clock (length out) draws 2 refl (asked-draws e a clock (length out) (length draws) r d)

  pub call-number : call_number a clock draws out s ≡ number_of (gives e a clock draws out).answer
  unfolding call_number answer_of
  call-number = by_lengths _
      (λ r. rw (r, no_room r))
      (λ r d. rw (r, d, no_draws r d))
      (λ r d. rw (r, d, h.tested) (ap (λ (x : End). number_of (gives x a clock draws out).answer) h.reads))

  pub call-output : call_out a clock draws out s ≡ leaves e a clock draws out
  unfolding call_out buffer_of
  call-output = by_lengths _
      (λ r. rw (r, no_room r))
      (λ r d. rw (r, d, no_draws r d))
      (λ r d. rw (r, d, h.tested) (ap (λ (x : End). leaves x a clock draws out) h.reads))

  -- the bytes: as they were, or those of the end that is left
  call-state : call_state a clock draws out s ≡ cond (is_refused (gives e a clock draws out).answer) s (end_bytes (gives e a clock draws out).end)
  unfolding call_state answer_of
  call-state = by_lengths _
      (λ r. rw (r, no_room r))
      (λ r d. rw (r, d, no_draws r d))
      (λ r d. rw (r, d, h.tested) (ap (λ (x : End). after (gives x a clock draws out) s) h.reads))

  abbrev chosen : Outcome → List ℕ
  chosen o = cond (is_refused (answer_of o)) s (end_bytes R.left)

  pub call-holds : Holds (end_bytes R.left) R.left → Holds (call_state a clock draws out s) R.left
  unfolding answer_of
  call-holds held = subst (λ (l : List ℕ). Holds l R.left) (sym call-state) (go R.outcome refl)
    where
      go : (o : Outcome) → R.outcome ≡ o → Holds (chosen R.outcome) R.left
      go (Refused k) p = subst (λ (l : List ℕ). Holds l R.left) (sym (ap chosen p))
          (subst (Holds s) (sym (refused_changes_nothing e a clock (length out) draws k p).0) h)
      go (Did x) p = subst (λ (l : List ℕ). Holds l R.left) (sym (ap chosen p ∙ ap (λ (t : Bool). cond t s (end_bytes R.left)) (did_not_refuse x))) held

-- ---- what is kept of host h's bytes, call by call: they hold an end that is sound, whose fields are as their types say, that keeps nothing of any
-- source where it is not a member, and whose host and parameters are those of its opening
pub record Kept (h : ℕ) (s : List ℕ) (e : End) : Type 0 where
  pub holds : Holds s e
  pub sound : sound_of e ≡ true
  pub typed : TypedEnd e
  pub aside : BlankAside e
  pub host : e.host ≡ as_host h
  pub opens : open_refusal e.host e.params ≡ 0

pub call_kept : (h : ℕ) (s : List ℕ) (e : End) (a : Action) (clock : ℕ) (draws out : List ℕ) → Drawn draws → CueArray a → Kept h s e
    → Kept h (call_state a clock draws out s) (event_of e a clock (length out) draws).left
call_kept h s e a clock draws out drawn array k =
    let left = (event_of e a clock (length out) draws).left in
    let sound = stays-sound e a clock (length out) draws drawn array k.sound in
    let typed = call_typed e a clock (length out) draws array k.typed in
    let stay = host_and_params_stay e a clock (length out) draws in
    record {
      holds = call-holds a clock draws out s e k.holds (sound-holds left sound typed);
      sound = sound;
      typed = typed;
      aside = call-aside e a clock (length out) draws k.aside;
      host = stay.0 ∙ k.host;
      opens = (λ i. open_refusal (stay.0 i) (stay.1 i)) ∙ k.opens;
    }
