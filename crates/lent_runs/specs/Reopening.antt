-- Reopening, as statements; proofs/Reopening.antt proves each. A host that restarts opens its end again with the parameters and the next own
-- number that it stored, at its clock: the very end that Leave and Left would have left, and so nothing that demand 3 does not speak of.
use Rattle.std.specs.Prelude.{◌≡◌, true, false, List, [], ℕ}
use Rattle.message.specs.declared.Host.{Host}
use Rattle.end.specs.declared.Params.{Params}
use Rattle.end.specs.declared.Status.TheVariants.{Idle, Leaving}
use Rattle.end.specs.declared.Move.TheVariants.{Leave, Left}
use Rattle.end.specs.declared.End.{End}
use Rattle.end.specs.State.{is_member, is_crashed, unheard_sources}
use Rattle.end.specs.Sound.{sound_of}
use Rattle.end.specs.Event.{Moves, moves, step_of}
use Rattle.end.specs.Opening.{opening_of}
use Rattle.guarantees.specs.Calls.{OneCall, after_all}
use Rattle.end_reopen.specs.Reopen.{reopened}
use Rattle.end_reopen.specs.Reopening.{reopening_of}

-- what a Leave and then a Left at a clock leave of an end, where no question refuses them; a move reads no draws
abbrev pub left_at : End → ℕ → End
left_at e clock = (step_of clock [] (Moves Left) (step_of clock [] (Moves Leave) e).left).left

-- the end opened again with its parameters and its next own number, at a clock
abbrev pub again : End → ℕ → End
again e clock = reopened e.host e.params clock e.next

-- Of every member and every joining end, sound or not: these are the two that Leave moves.
abbrev pub LeftIsReopened : Type 0
LeftIsReopened = (e : End) (clock : ℕ) → moves Leave e.status ≡ true → left_at e clock ≡ again e clock

-- After any calls on an end that was opened, refused ones among them: one that is not a member keeps nothing of any source.
abbrev pub NonMembersKeepNothing : Type 0
NonMembersKeepNothing = (h : Host) (p : Params) (cs : List OneCall) → let e = after_all (opening_of h p).end cs in
    is_member e.status ≡ false → e.sources ≡ unheard_sources e.host.0

-- So, whichever its status but crashed, Leave and Left leave it reopened; of a leaving end Left alone does, and an idle one is it already.
pub record Reopens (e : End) : Type 0 where
  pub left : is_crashed e.status ≡ false → (clock : ℕ) → left_at e clock ≡ again e clock
  pub leaving : e.status ≡ Leaving → (clock : ℕ) → (step_of clock [] (Moves Left) e).left ≡ again e clock
  pub idle : e.status ≡ Idle → e ≡ again e e.clock

abbrev pub OpenedReopens : Type 0
OpenedReopens = (h : Host) (p : Params) (cs : List OneCall) → Reopens (after_all (opening_of h p).end cs)

-- A crash is for good: no call changes a crashed end. So no calls lead from it to a reopened one, and a host must not reopen an end that crashed: that
-- is nothing that calls can do.
abbrev pub CrashIsForGood : Type 0
CrashIsForGood = (e : End) → is_crashed e.status ≡ true → (cs : List OneCall) → after_all e cs ≡ e

abbrev pub CrashedIsNotReopened : Type 0
CrashedIsNotReopened = (e : End) → is_crashed e.status ≡ true → (cs : List OneCall) (h : Host) (p : Params) (clock next : ℕ)
    → after_all e cs ≡ reopened h p clock next → ⊥

-- Every reopening, refused or not, gives a sound state, whatever it is given: the next call is not refused as 3.
abbrev pub ReopensSound : Type 0
ReopensSound = (h : Host) (p : Params) (clock next : ℕ) → sound_of (reopening_of h p clock next).end ≡ true

-- Soundness alone does not give it: there is a sound idle end, not from an opening, that is no reopened one. The bytes of the cue of an empty
-- record are free, and no rule reads them.
abbrev pub SoundIdleMayDiffer : Type 0
SoundIdleMayDiffer = (e : End) × (sound_of e ≡ true) × (e.status ≡ Idle) × (e ≡ again e e.clock → ⊥)
