-- Reopening is what Leave and Left would have left.
use mathlib.Core.Path.{◌≡◌, refl, ap}
use Prim.Native.Nat.{ℕ}
use native.Mathlib.Omega.{arith}
use mathlib.Core.Bool.{true}
use mathlib.Core.List.{List, ◌∷◌}
use lib.ListN.{get_or, set, replicate}
use Rattle.message.specs.Entry.{as_host}
use Rattle.end.specs.declared.Status.TheVariants.{Idle, Joining, Member, Leaving}
use Rattle.end.specs.declared.Slot.TheVariants.{Empty}
use Rattle.end.specs.declared.Record.{Record}
use Rattle.end.specs.declared.Move.TheVariants.{Leave, Left}
use Rattle.end.specs.declared.End.{End}
use Rattle.end.specs.State.{fresh_end, unheard, unheard_sources, first_distance, no_source, no_record, with_names, with_sources}
use Rattle.end.specs.Sound.{sound_of, all_below}
use Rattle.end.specs.Opening.{house_params}
use Rattle.end.specs.Event.{Moves, moved_end, move_of, act_of, step_of}
use Rattle.end_reopen.specs.Reopen.{reopened}

-- what Leave at one clock and Left at another leave
abbrev pub left_of : ℕ → ℕ → List ℕ → List ℕ → End → End
left_of clock then us vs e = (step_of then vs (Moves Left) (step_of clock us (Moves Leave) e).left).left

-- of a member or a joining end, sound or not: reopening at the later clock
pub left-member : (clock then : ℕ) (us vs : List ℕ) (e : End) → e.status ≡ Member → left_of clock then us vs e ≡ reopened e.host e.params then e.next
unfolding step_of act_of move_of moved_end
left-member clock then us vs e m = rw m

pub left_joining : (clock then : ℕ) (us vs : List ℕ) (e : End) → e.status ≡ Joining → left_of clock then us vs e ≡ reopened e.host e.params then e.next
unfolding step_of act_of move_of moved_end
left_joining clock then us vs e m = rw m

-- nothing is kept of any source: so it is after an opening and after Leave
abbrev pub Blank : End → Type 0
Blank e = e.sources ≡ unheard_sources e.host.0

-- then also of a leaving end, by Left alone too, and of an idle one, which is reopened at its clock already
module _ (then : ℕ) (vs : List ℕ) (e : End) (b : Blank e) where
  pub left-leaving : e.status ≡ Leaving → (step_of then vs (Moves Left) e).left ≡ reopened e.host e.params then e.next
  unfolding step_of act_of move_of moved_end
  left-leaving m = rw (m, b)

  pub left_already : (clock : ℕ) (us : List ℕ) → e.status ≡ Leaving → left_of clock then us vs e ≡ reopened e.host e.params then e.next
  unfolding step_of act_of move_of moved_end
  left_already clock us m = rw (m, b)

  pub left-idle : (clock : ℕ) (us : List ℕ) → e.status ≡ Idle → left_of clock then us vs e ≡ reopened e.host e.params then e.next
  unfolding step_of act_of move_of moved_end
  left-idle clock us m = rw (m, b)

pub idle-same : (e : End) → Blank e → e.status ≡ Idle → e ≡ reopened e.host e.params e.clock e.next
idle-same e b m = λ i. record { host = e.host; params = e.params; clock = e.clock; status = m i; next = e.next; sources = b i }

-- soundness does not say it: the bytes of an empty record's cue are free
abbrev stained : Record
stained = record { slot = Empty; cue = 7 ∷ replicate 23 0; hush = 0 }

abbrev pub odd : End
odd =
    let f : End = fresh_end (as_host 0) house_params Idle in
    with_sources f (set f.sources 1 (with_names (unheard first_distance) (set (unheard first_distance).names 0 stained)))

pub odd_sound : sound_of odd ≡ true
unfolding sound_of all_below
odd_sound = refl

abbrev stain : End → ℕ
stain e = get_or (get_or (get_or e.sources 1 no_source).names 0 no_record).cue 0 0

-- and so a sound idle end need not be what reopening gives
pub odd_other : odd ≡ reopened odd.host odd.params odd.clock odd.next → ⊥
odd_other h =
    let same : ◌≡◌ {A = ℕ} 7 0 = ap stain h in
    absurd (omega (arith, same))
