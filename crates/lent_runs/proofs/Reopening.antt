-- Reopening: the statements of specs/Reopening.antt. Every call keeps that an end which is not a member keeps nothing of any source: Leave and
-- Crash clear the sources, the other moves are no member's, other events leave a member a member and of a non-member change the clock alone.
use mathlib.Core.Path.{◌≡◌, refl, sym, ap, ◌∙◌}
use mathlib.Core.Bool.{true, false, ◌&&◌}
use mathlib.Core.List.{List, [], ◌∷◌}
use Prim.Native.Nat.{ℕ, zero, suc}
use native.Mathlib.Omega.{arith}
use lib.Dec.{leb}
use borrow.Author.Tests.{ltb-true, leb-true}
use Rattle.message.specs.declared.Host.{Host}
use Rattle.message.specs.Entry.{as_host}
use Rattle.message.specs.Limit.{number_limit}
use Rattle.message.specs.Question.{ask, host_in, ticks_in}
use Rattle.message.specs.Message.{meaning_from}
use Rattle.message.proofs.QuestionLaws.{all-passed, and_both}
use Rattle.end.specs.declared.Params.{Params}
use Rattle.end.specs.declared.Status.{Status}
use Rattle.end.specs.declared.Status.TheVariants.{Idle, Joining, Member, Leaving, Crashed}
use Rattle.end.specs.declared.Move.{Move}
use Rattle.end.specs.declared.Move.TheVariants.{Leave}
use Rattle.end.specs.declared.End.{End}
use Rattle.end.specs.State.{is_member, is_crashed, with_clock, fresh_end}
use Rattle.end.specs.Sound.{all_of, params_tests, delay_in, sound_of}
use Rattle.end.specs.Answer.{Step, Result}
use Rattle.end.specs.Event.{Action, Moves, Send, Arrival, Else, moves, clears, moved_end, move_of, if_member, act_of, event_of}
use Rattle.end.specs.Opening.{constrained_tests, open_refusal, house_params, end_for, opening_of}
use Rattle.end.proofs.Tools.{by_cond, clash, clash'}
use Rattle.invariants.proofs.Facts.{SoundState, sound}
use Rattle.invariants.proofs.Ends.{unheard-kept}
use Rattle.guarantees.specs.Calls.{OneCall, after, after_all}
use Rattle.guarantees.proofs.Calls.{call-cases}
use Rattle.guarantees.proofs.History.{kept_from, Frame, arrival-frame, other-frame}
use Rattle.end_reopen.specs.Reopen.{reopened}
use Rattle.end_reopen.specs.Reopening.{reopen_refusal, reopened_for, reopening_of}
use Rattle.end_reopen.proofs.ReopenLaws.{Blank, left-member, left_joining, left-leaving, left_already, left-idle, idle-same, odd, odd_sound, odd_other}
use Rattle.lent_runs.specs.Reopening.{left_at, again, LeftIsReopened, NonMembersKeepNothing, OpenedReopens, CrashIsForGood, CrashedIsNotReopened}
use Rattle.lent_runs.specs.Reopening.{ReopensSound, SoundIdleMayDiffer}

-- ---- one that is not a member keeps nothing
abbrev pub BlankAside : End → Type 0
BlankAside e = is_member e.status ≡ false → Blank e

-- a member's step leaves it a member
member-aside : (e : End) (r : Step) → Frame e r → is_member e.status ≡ true → BlankAside r.left
member-aside e r f m = λ aside. clash (sym m ∙ sym (ap is_member f.1) ∙ aside)

if_member_lem : (e : End) (r : Step) → Frame e r → BlankAside e → BlankAside (if_member e r).left
if_member_lem e r f b = by_cond (λ (s : Step). BlankAside s.left) (is_member e.status) (member-aside e r f) (λ _. b)

move-aside : (m : Move) (e : End) → BlankAside e → BlankAside (move_of m e).left
unfolding move_of moved_end
move-aside m e b = by_cond (λ (s : Step). BlankAside s.left) (moves m e.status)
    (λ t. by_cond BlankAside (clears m) (λ _ _. refl) (λ c _. b (kept_from m e.status c t)))
    (λ _. b)

act_aside : (us : List ℕ) (a : Action) (e : End) → BlankAside e → BlankAside (act_of us a e).left
unfolding act_of
act_aside us (Moves m) e b = move-aside m e b
act_aside us (Send cue) e b = if_member_lem e _ (refl, refl) b
act_aside us (Arrival []) e b = if_member_lem e _ (refl, refl) b
act_aside us (Arrival (x ∷ s)) e b = if_member_lem e _ (arrival-frame us (meaning_from (x ∷ s)) e) b
act_aside us (Else o) e b = if_member_lem e _ (other-frame us o e) b

pub call-aside : (e : End) (a : Action) (clock room : ℕ) (draws : List ℕ) → BlankAside e → BlankAside (event_of e a clock room draws).left
call-aside e a clock room draws b = call-cases (λ (r : Result). BlankAside r.left) e a clock room draws (λ k. b) (λ z c. b)
    (λ z c. act_aside draws a (with_clock e clock) b)

calls_aside : (cs : List OneCall) (e : End) → BlankAside e → BlankAside (after_all e cs)
calls_aside [] e b = b
calls_aside (c ∷ cs) e b = calls_aside cs (after e c) (call-aside e c.action c.clock c.room c.draws b)

pub opened-aside : (h : Host) (p : Params) → BlankAside (opening_of h p).end
unfolding opening_of
opened-aside h p = go (open_refusal h p)
  where
    go : (k : ℕ) → BlankAside (end_for k h p)
    go zero = λ _. refl
    go (suc k) = λ _. refl

pub non_members_keep_nothing : NonMembersKeepNothing
non_members_keep_nothing h p cs = calls_aside cs (opening_of h p).end (opened-aside h p)

-- ---- reopening
pub left_is_reopened : LeftIsReopened
left_is_reopened e clock t = go e.status refl t
  where
    go : (x : Status) → e.status ≡ x → moves Leave x ≡ true → left_at e clock ≡ again e clock
    go Idle m h = clash' h
    go Joining m h = left_joining clock clock [] [] e m
    go Member m h = left-member clock clock [] [] e m
    go Leaving m h = clash' h
    go Crashed m h = clash' h

pub left_reopens : (e : End) → BlankAside e → is_crashed e.status ≡ false → (clock : ℕ) → left_at e clock ≡ again e clock
left_reopens e b c clock = go e.status refl
  where
    go : (x : Status) → e.status ≡ x → left_at e clock ≡ again e clock
    go Idle m = left-idle clock [] e (b (ap is_member m)) clock [] m
    go Joining m = left_joining clock clock [] [] e m
    go Member m = left-member clock clock [] [] e m
    go Leaving m = left_already clock [] e (b (ap is_member m)) clock [] m
    go Crashed m = clash (sym (ap is_crashed m) ∙ c)

pub opened_reopens : OpenedReopens
opened_reopens h p cs =
    let e = after_all (opening_of h p).end cs in
    let b = non_members_keep_nothing h p cs in
    record {
      left = left_reopens e b;
      leaving = λ m clock. left-leaving clock [] e (b (ap is_member m)) m;
      idle = λ m. idle-same e (b (ap is_member m)) m;
    }

-- ---- crashed ends
crashed-stays : (e : End) (a : Action) (clock room : ℕ) (draws : List ℕ) → is_crashed e.status ≡ true → (event_of e a clock room draws).left ≡ e
crashed-stays e a clock room draws c = call-cases (λ (r : Result). r.left ≡ e) e a clock room draws (λ k. refl) (λ z d. refl)
    (λ z d. clash (sym c ∙ d))

pub crash_is_for_good : CrashIsForGood
crash_is_for_good e c [] = refl
crash_is_for_good e c (x ∷ cs) =
    let same = crashed-stays e x.action x.clock x.room x.draws c in
    ap (λ (y : End). after_all y cs) same ∙ crash_is_for_good e c cs

pub crashed_is_not_reopened : CrashedIsNotReopened
crashed_is_not_reopened e c cs h p clock next same =
    clash (sym c ∙ ap (λ (x : End). is_crashed x.status) (sym (crash_is_for_good e c cs) ∙ same))

-- ---- a reopened end is sound: it has passed questions 12, 13, 14, 4 and 7
reopened-sound : (h : Host) (p : Params) (clock next : ℕ) → reopen_refusal h p clock next ≡ 0 → SoundState (reopened h p clock next)
unfolding reopen_refusal
reopened-sound h p clock next q =
    let most = ask (leb next number_limit) 7 ∷ [] in
    let ticks = ask (ticks_in clock) 4 ∷ most in
    let delay = ask (delay_in p) 14 ∷ ticks in
    let twelve = all-passed (host_in h) 12 (ask (all_of (params_tests p) && all_of (constrained_tests p)) 13 ∷ delay) (omega arith) q in
    let thirteen = all-passed (all_of (params_tests p) && all_of (constrained_tests p)) 13 delay (omega arith) twelve.1 in
    let fourteen = all-passed (delay_in p) 14 ticks (omega arith) thirteen.1 in
    let four = all-passed (ticks_in clock) 4 most (omega arith) fourteen.1 in
    let seven = (all-passed (leb next number_limit) 7 [] (omega arith) four.1).0 in
    unheard-kept (reopened h p clock next) (ltb-true h.0 8 twelve.0) (and_both (all_of (params_tests p)) (all_of (constrained_tests p)) thirteen.0).0
    fourteen.0 (ltb-true clock 281474976710656 four.0) (leb-true next 65536 seven) refl

pub reopens_sound : ReopensSound
unfolding reopening_of
reopens_sound h p clock next = go (reopen_refusal h p clock next) refl
  where
    go : (k : ℕ) → reopen_refusal h p clock next ≡ k → sound_of (reopened_for k h p clock next) ≡ true
    go zero q = sound (reopened h p clock next) (reopened-sound h p clock next q)
    go (suc k) q = let e = fresh_end (as_host 0) house_params Crashed in sound e (unheard-kept e (omega arith) refl refl (omega arith) (omega arith) refl)

pub sound_idle_may_differ : SoundIdleMayDiffer
sound_idle_may_differ = (odd, odd_sound, refl, odd_other)
