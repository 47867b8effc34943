-- Sound stays sound: the statements of specs/History.antt on question 3.
use mathlib.Core.Path.{◌≡◌, refl, sym, ◌∙◌}
use mathlib.Core.Bool.{Bool, true, false, cond, ◌&&◌, ◌||◌}
use mathlib.Core.List.{List, [], ◌∷◌}
use Rattle.std.specs.Prelude as rust
use Rattle.std.specs.Prelude.{Some, None}
use mathlib.Core.Option.{Option, none, some}
use Prim.Native.Nat.{ℕ}
use native.Mathlib.Omega.{arith}
use lib.ListN.{length}
use lib.Dec.{leb, eqb}
use borrow.Author.Tests.{eqb-true}
use Rattle.numbers.proofs.Cases.{by_flag}
use Rattle.message.specs.Limit.{room_needed}
use Rattle.message.specs.Message.{Meaning, Datagram, Probe, Saying, datagram_from, kind_of, kind_byte, most_number, meaning_from, counts_of, size_from}
use Rattle.message.specs.Question.{ticks_in, kind_has_counts, in_range, hosts_fit, read_refusal}
use Rattle.end.proofs.Tools.{by_cond}
use Rattle.display_window.specs.Parts.{Seen, Unstarted, Started}
use Rattle.display_window.specs.declared.Lost.{Lost}
use Rattle.display_window.specs.Window.{window_sound, is_new, lowest_missing}
use Rattle.display_window.proofs.WindowLaws.{sound-window, window-sound}
use Rattle.display.specs.declared.Display.{Display}
use Rattle.display.specs.Display.{hosts_apart, sound_of, opening_of, with_clock}
use Rattle.display.specs.Hear.{Hearing, is_original, is_repair, is_announced, heard_in, hear_of}
use Rattle.display.specs.Request.{request_if, step_of}
use Rattle.display.specs.Call.{Event, Hear, Step, question_of, act_of, Result, event_of}
use Rattle.display.specs.Frame.{first_of}
use Rattle.display_history.specs.History.{Call, after, after_all, OpensSound, StaysSound, NeverUnsound}
use Rattle.display.proofs.CallLaws.{apart, hear-asks, step-asks, passed, sound_in}
use Rattle.display_history.proofs.Moves.{Went, went}
use Rattle.display_history.proofs.StepLaws.{started_went, Began, Waits, Begins, unstarted_went, start-sound}

-- ---- a window
window-stays : (w : Seen) (h : Option ℕ) (lost : Lost) (v : Seen) → window_sound w ≡ true → Went w h lost v → window_sound v ≡ true
window-stays Unstarted h lost v s g = go (unstarted_went h lost v g)
  where
    go : Began h lost v → window_sound v ≡ true
    go (Waits a b e) = rw e
    go (Begins k a b e) = rw e (window-sound _ _ 1 (start-sound k))
window-stays (Started w) h lost v s g =
    let r = started_went w.trail w.lead w.set 0 h lost v (sound-window w.trail w.lead w.set s) g in
    rw r.is (window-sound _ _ r.set r.sound)

-- ---- the hosts stay, and the clock is set
abbrev Keeps : Display → Hearing → Type 0
Keeps d h = (h.left.own ≡ d.own) × ((h.left.sender ≡ d.sender) × (h.left.clock ≡ d.clock))

heard-keeps : (d : Display) (m : Meaning) (w : Seen) → Keeps d (heard_in w m d)
unfolding heard_in
heard-keeps d m Unstarted = by_cond (Keeps d) (is_original d m) (λ _. (refl, (refl, refl))) (λ _. (refl, (refl, refl)))
heard-keeps d m (Started w) =
    by_cond (Keeps d) (is_original d m || is_repair d m)
    (λ _. by_cond (Keeps d) (is_new d.window _) (λ _. (refl, (refl, refl))) (λ _. (refl, (refl, refl))))
    (λ _. by_cond (Keeps d) (is_announced d m) (λ _. (refl, (refl, refl))) (λ _. (refl, (refl, refl))))

read_keeps : (d : Display) (m : Datagram Meaning) → Keeps d (hear_of m d)
read_keeps d Probe = (refl, (refl, refl))
read_keeps d (Saying m) = heard-keeps d m d.window

step_keeps : (d : Display) → Keeps d (step_of d)
unfolding step_of
step_keeps d = go (lowest_missing d.window)
  where
    go : (o : rust.Option ℕ) → Keeps d (request_if o d)
    go None = (refl, (refl, refl))
    go (Some n) = (refl, (refl, refl))

act_keeps : (ev : Event) (d : Display) → Keeps d (act_of ev d)
act_keeps (Hear bytes) d = read_keeps d (datagram_from bytes)
act_keeps Step d = step_keeps d

-- ---- a call
asks : (d : Display) (ev : Event) (clock room : ℕ) → (own : ℕ) × (question_of d ev clock room ≡ first_of d clock room own)
asks d (Hear bytes) clock room = (read_refusal bytes, hear-asks d clock room bytes)
asks d Step clock room = (0, step-asks d clock room)

sound_of_lem : (d : Display) → hosts_apart d.own d.sender ≡ true → ticks_in d.clock ≡ true → window_sound d.window ≡ true → sound_of d ≡ true
unfolding sound_of
sound_of_lem d a b c = rw (a, b, c)

pub stays-sound : StaysSound
unfolding event_of
stays-sound d c s =
    let window = window-stays d.window _ _ _ (sound_in d s) (went d c.event c.clock c.room) in
    by_cond (λ (r : Result). window_sound r.left.window ≡ true → sound_of r.left ≡ true) (eqb (question_of d c.event c.clock c.room) 0)
    (λ t window.
    let own = asks d c.event c.clock c.room in
    let q = passed d c.clock c.room own.0 (sym own.1 ∙ eqb-true (question_of d c.event c.clock c.room) 0 t) in
    let k = act_keeps c.event (with_clock d c.clock) in
    sound_of_lem (act_of c.event (with_clock d c.clock)).left (rw (k.0, k.1.0) (apart d s)) (rw k.1.1 q.ticks) window)
    (λ t window. s)
    window

pub opens-sound : OpensSound
unfolding opening_of sound_of
opens-sound own sender =
    by_flag (hosts_apart own sender)
    (λ t. rw (t, t))
    (λ t. rw t)

-- ---- question 3
not_three : (a b c e : Bool) → ◌≡◌ {A = ℕ} (cond a (cond b (cond c (cond e 0 11) 10) 9) 8) 3 → ⊥
not_three true true true true h = omega arith
not_three true true true false h = omega arith
not_three true true false e h = omega arith
not_three true false c e h = omega arith
not_three false b c e h = omega arith

read_no_three : (bytes : List ℕ) → read_refusal bytes ≡ 3 → ⊥
unfolding read_refusal
read_no_three [] h = omega arith
read_no_three (b ∷ s) h =
    let M = meaning_from (b ∷ s) in
    not_three (leb 12 (length (b ∷ s)) && eqb (size_from (b ∷ s)) (length (b ∷ s))) (kind_has_counts (kind_of (kind_byte (b ∷ s))) (counts_of M))
    (in_range (most_number (kind_byte (b ∷ s))) M) (hosts_fit M) h

first_no_three : (d : Display) (clock room own : ℕ) → sound_of d ≡ true → (own ≡ 3 → ⊥) → first_of d clock room own ≡ 3 → ⊥
first_no_three d clock room own s n h = go (leb room_needed room) (ticks_in clock) (leb d.clock clock) (rw s at h)
  where
    go : (a c e : Bool) → cond a (cond c (cond e own 5) 4) 1 ≡ 3 → ⊥
    go true true true h = n h
    go true true false h = omega arith
    go true false e h = omega arith
    go false c e h = omega arith

no_three : (d : Display) (ev : Event) (clock room : ℕ) → sound_of d ≡ true → question_of d ev clock room ≡ 3 → ⊥
no_three d (Hear bytes) clock room s h = first_no_three d clock room (read_refusal bytes) s (read_no_three bytes) (sym (hear-asks d clock room bytes) ∙ h)
no_three d Step clock room s h = first_no_three d clock room 0 s (λ e. omega arith) (sym (step-asks d clock room) ∙ h)

sound-after : (d : Display) → sound_of d ≡ true → (cs : List Call) → sound_of (after_all d cs) ≡ true
unfolding after_all
sound-after d s [] = s
sound-after d s (c ∷ cs) = sound-after (after d c) (stays-sound d c s) cs

pub never_unsound : NeverUnsound
never_unsound own sender cs c h =
    let d = (opening_of own sender).display in
    no_three (after_all d cs) c.event c.clock c.room (sound-after d (opens-sound own sender) cs) h
