-- Over lists of calls: the statements of specs/Lists.antt, and those of specs/Clocks.antt about lists.
use mathlib.Core.Path.{◌≡◌, sym, ap, ◌∙◌, subst}
use Prim.Native.Nat.{ℕ, ◌≤◌, ◌<◌}
use native.Mathlib.Omega.{arith}
use mathlib.Core.Bool.{true, false}
use mathlib.Core.List.{List, [], ◌∷◌, ◌++◌}
use lib.ListN.{length}
use lib.Dec.{eqb}
use Rattle.message.specs.Entry.{as_host}
use Rattle.message.specs.Question.{Question, first_no}
use Rattle.end.specs.declared.End.{End}
use Rattle.end.specs.declared.Opened.{Opened}
use Rattle.end.specs.Sound.{sound_of}
use Rattle.end.specs.Answer.{Refused, Result}
use Rattle.end.specs.Event.{Action, Moves, Send, Arrival, Else, any_questions, own_questions, question_of, event_of}
use Rattle.end.specs.Run.{Call, World, result_of, world_after, seen, Fresh}
use Rattle.end.proofs.Tools.{by_cond, clash, put_all}
use Rattle.invariants.specs.Lists.{through, Declared, EndsStaySound, NoneAs3, NeverRefusedAs3}
use Rattle.invariants.specs.Clocks.{ClocksNeverFall, NeverHeardLater}
use Rattle.invariants.proofs.Stays.{opens-sound, stays-sound}
use Rattle.invariants.proofs.Clocks.{clock_never_falls, heard_by_now}

-- ---- every end stays sound
abbrev SoundEnds : World → Type 0
SoundEnds w = (h : ℕ) → h < 8 → sound_of (w.ends h) ≡ true

fresh-sound : (w : World) → Fresh w → SoundEnds w
fresh-sound w f h hh =
    let o = f.ends h hh in
    subst (λ (e : End). sound_of e ≡ true) (ap (λ (x : Opened). x.end) o.1) (opens-sound (as_host h) o.0)

call-sound : (w : World) (c : Call) (cs : List Call) → Declared (c ∷ cs) → SoundEnds w → SoundEnds (world_after w c.host (result_of w c))
unfolding world_after result_of
call-sound w c cs d s k hk =
    put_all (λ _ (e : End). sound_of e ≡ true) w.ends c.host (result_of w c).left
    (stays-sound (w.ends c.host) c.action c.clock (length c.output) c.draws d.1 d.2 (s c.host d.0)) k (λ _. s k hk)

through-sound : (cs : List Call) (w : World) → Declared cs → SoundEnds w → SoundEnds (through w cs)
unfolding through
through-sound [] w d s = s
through-sound (c ∷ cs) w d s = through-sound cs (world_after w c.host (result_of w c)) d.3 (call-sound w c cs d s)

pub ends_stay_sound : EndsStaySound
ends_stay_sound w f cs d = through-sound cs w d (fresh-sound w f)

-- ---- so no call is refused as 3

-- each question is passed or has another number than 3
abbrev Not3 : List Question → Type 0
Not3 [] = Unit {0}
Not3 (q ∷ qs) = (q.passed ≡ false → q.number ≡ 3 → ⊥) × Not3 qs

not_first : (qs : List Question) → Not3 qs → first_no qs ≡ 3 → ⊥
not_first [] n = λ h. omega arith
not_first (q ∷ qs) n = by_cond (λ (k : ℕ). k ≡ 3 → ⊥) q.passed (λ _. not_first qs n.1) n.0

-- the event's own questions have other numbers
own_not_3 : (a : Action) (e : End) → Not3 (own_questions a e)
own_not_3 (Moves m) e = tt
own_not_3 (Send cue) e = (λ _ h. omega arith, (λ _ h. omega arith, tt))
own_not_3 (Arrival []) e = tt
own_not_3 (Arrival (b ∷ s)) e = (λ _ h. omega arith, (λ _ h. omega arith, (λ _ h. omega arith, (λ _ h. omega arith, tt))))
own_not_3 (Else o) e = tt

not_3 : (e : End) (a : Action) (clock room draws : ℕ) → sound_of e ≡ true → question_of e a clock room draws ≡ 3 → ⊥
unfolding question_of
not_3 e a clock room draws s = not_first (any_questions e clock room draws ++ own_questions a e)
    (λ _ h. omega arith, (λ _ h. omega arith, (λ no h. clash (sym s ∙ no), (λ _ h. omega arith, (λ _ h. omega arith, own_not_3 a e)))))

call_not_3 : (e : End) (a : Action) (clock room : ℕ) (draws : List ℕ) → sound_of e ≡ true → (event_of e a clock room draws).outcome ≡ Refused 3 → ⊥
unfolding event_of
call_not_3 e a clock room draws s =
    by_cond (λ (r : Result). r.outcome ≡ Refused 3 → ⊥) (eqb (question_of e a clock room (length draws)) 0)
    (λ _ q. let z : ◌≡◌ {A = ℕ} 0 1 = cc in omega arith)
    (λ _ q. let z : question_of e a clock room (length draws) ≡ 3 = cc in not_3 e a clock room (length draws) s z)

none_as_3 : (cs : List Call) (w : World) → Declared cs → SoundEnds w → NoneAs3 (seen w cs)
unfolding seen result_of
none_as_3 [] w d s = tt
none_as_3 (c ∷ cs) w d s = (
  call_not_3 (w.ends c.host) c.action c.clock (length c.output) c.draws (s c.host d.0),
  none_as_3 cs (world_after w c.host (result_of w c)) d.3 (call-sound w c cs d s),
)

pub never_refused_as_3 : NeverRefusedAs3
never_refused_as_3 w f cs d = none_as_3 cs w d (fresh-sound w f)

-- ---- clocks
call-clock : (w : World) (c : Call) (h : ℕ) → (w.ends h).clock ≤ ((world_after w c.host (result_of w c)).ends h).clock
unfolding world_after result_of
call-clock w c h =
    put_all (λ (k : ℕ) (e : End). (w.ends k).clock ≤ e.clock) w.ends c.host (result_of w c).left
    (clock_never_falls (w.ends c.host) c.action c.clock (length c.output) c.draws) h (λ _. omega arith)

through-clock : (cs : List Call) (w : World) (h : ℕ) → (w.ends h).clock ≤ ((through w cs).ends h).clock
unfolding through
through-clock [] w h = omega arith
through-clock (c ∷ cs) w h = omega (arith, call-clock w c h, through-clock cs (world_after w c.host (result_of w c)) h)

pub clocks_never_fall : ClocksNeverFall
clocks_never_fall w cs h = through-clock cs w h

pub never_heard_later : NeverHeardLater
never_heard_later w f cs d k hk = heard_by_now ((through w cs).ends k) (ends_stay_sound w f cs d k hk)
