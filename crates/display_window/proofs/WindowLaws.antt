-- A sound window, in numbers.
use mathlib.Core.Path.{◌≡◌}
use mathlib.Core.Bool.{true, ◌&&◌}
use Prim.Native.Nat.{ℕ, ◌+◌, ◌-◌, ◌^◌, ◌≤◌, ◌<◌}
use native.Mathlib.Omega.{arith}
use lib.Dec.{leb, ltb}
use borrow.Author.Tests.{leb-true, ltb-true, le-leb, lt-ltb}
use Rattle.message.specs.declared.CueNumber.{CueNumber}
use Rattle.message.proofs.QuestionLaws.{and_both}
use Rattle.display_window.specs.Parts.{Seen, Unstarted, Started, started}
use Rattle.display_window.specs.Window.{window_sound, raised}
use Rattle.display_window.specs.Frame.{above_trail}

pub record SoundWindow (trail lead set : ℕ) : Type 0 where
  pub ordered : trail ≤ lead
  pub near : lead ≤ trail + 63
  pub within : set < 2 ^ (lead + 1 - trail)

pub sound-window : (trail lead : CueNumber) (set : ℕ) → window_sound (started trail lead set) ≡ true → SoundWindow trail.0 lead.0 set
sound-window trail lead set h =
    let t = trail.0 in
    let l = lead.0 in
    let a = and_both (leb t l) (leb l (t + 63) && ltb set (2 ^ (l + 1 - t))) h in
    let b = and_both (leb l (t + 63)) (ltb set (2 ^ (l + 1 - t))) a.1 in
    record { ordered = leb-true t l a.0; near = leb-true l (t + 63) b.0; within = ltb-true set (2 ^ (l + 1 - t)) b.1 }

pub window-sound : (trail lead : CueNumber) (set : ℕ) → SoundWindow trail.0 lead.0 set → window_sound (started trail lead set) ≡ true
window-sound trail lead set s =
    let t = trail.0 in
    let l = lead.0 in
    rw (le-leb t l s.ordered, le-leb l (t + 63) s.near, lt-ltb set (2 ^ (l + 1 - t)) s.within)

-- a number that counts as a trail 63 below it is no further above trail
pub raised-near : (n : ℕ) (w : Seen) → above_trail n (raised (n - 63) n w) < 64
unfolding raised
raised-near n Unstarted = omega arith
raised-near n (Started w) = omega arith
