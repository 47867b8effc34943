-- The program why never prints "ignored" without a reason: the reason call names one exactly where an event is Ignored.
use mathlib.Core.Path.{◌≡◌, refl, sym, ap, ◌∙◌}
use mathlib.Core.Bool.{Bool, true, false, true≢false}
use mathlib.Core.List.{List, []}
use Prim.Native.Nat.{ℕ, ◌≤◌}
use native.Mathlib.Omega.{arith}
use lib.ListN.{length, get_or, length-replicate}
use lib.Dec.{ltb}
use Rattle.end.specs.declared.End.{End}
use Rattle.end.specs.declared.Why.{Why}
use Rattle.end.specs.declared.Why.TheVariants as why
use Rattle.end.specs.Answer.{Effect, Out, Got, Done, Ignored, Nothing, Clash, Late, Exhausted, Outcome, Refused, Did}
use Rattle.end.specs.Round.{draw_count}
use Rattle.end.specs.Event.{Action, event_of}
use Rattle.end.specs.Why.{is_ignored, why_of}
use Rattle.end.proofs.Tools.{by_cond}
use Rattle.end.proofs.ReasonLaws.{number_exactly, reason_exactly, none_exactly}
use Rattle.script.specs.declared.Verb.{Verb}
use Rattle.answers.specs.declared.Shown.{Shown}
use Rattle.answers.specs.declared.Shown.TheVariants as shown
use Rattle.store.specs.Store.{most, room}
use Rattle.player.specs.Play.{Printed, Bad, Shows, draws, event_for, heard_number, is_known, Turn, turn_of, result_of, played_of}
use Rattle.player.specs.Explain.{explained, why_for, IgnoredHasReason}

-- "ignored" without a reason
abbrev bare : Shown → Bool
bare (shown.Out message) = false
bare (shown.Got name focus) = false
bare shown.Done = false
bare shown.Ignored = true
bare (shown.IgnoredFor reason) = false
bare shown.Nothing = false
bare (shown.Refused question) = false
bare (shown.Clash name) = false
bare (shown.Late name focus) = false
bare shown.Exhausted = false

abbrev is_bare : Printed → Bool
is_bare Bad = false
is_bare (Shows a) = bare a

-- what the reason call says of an outcome
abbrev Foretells : Why → Outcome → Type 0
Foretells (why.Refused k) o = o ≡ Refused k
Foretells (why.Because reason) o = o ≡ Did Ignored
Foretells why.NoReason o = (x : Effect) × (o ≡ Did x) × (is_ignored x ≡ false)

foretells : (e : End) (clock room : ℕ) (us : List ℕ) (a : Action) → 128 ≤ room → length us ≡ draw_count → (w : Why) → why_of e clock a ≡ w → Foretells w (event_of e a clock room us).outcome
foretells e clock room us a r d (why.Refused k) p = (number_exactly e clock a k room us r d).0 p
foretells e clock room us a r d (why.Because reason) p = (reason_exactly e clock a room us r d).0 reason p
foretells e clock room us a r d why.NoReason p = (none_exactly e clock a room us r d).0 p

module _ (e : End) (messages : List (List ℕ)) where
  -- an event that is not ignored
  answered : (x : Effect) → is_ignored x ≡ false → is_bare (explained why.NoReason (turn_of (Did x) e messages).printed) ≡ false
  unfolding turn_of
  answered (Out bytes) h =
      by_cond (λ (t : Turn). is_bare (explained why.NoReason t.printed) ≡ false) (ltb (length messages) most) (λ _. refl) (λ _. refl)
  answered (Got name cue) h = refl
  answered Done h = refl
  answered Ignored h = absurd (true≢false h)
  answered Nothing h = refl
  answered (Clash name) h = refl
  answered (Late name cue) h = refl
  answered Exhausted h = refl

  foretold : (w : Why) (o : Outcome) → Foretells w o → is_bare (explained w (turn_of o e messages).printed) ≡ false
  unfolding turn_of
  foretold (why.Refused k) o h = rw h
  foretold (why.Because reason) o h = rw h
  foretold why.NoReason o h = rw h.1 (answered h.0 h.2)

never_bare : (e : End) (v : Verb) (clock : ℕ) (messages : List (List ℕ)) → is_bare (explained (why_for e v clock messages) (played_of e v clock messages).printed) ≡ false
unfolding played_of
never_bare e v clock messages =
    let event = event_for v (get_or messages (heard_number v) []) in
    by_cond (λ (t : Turn). is_bare (explained (why_for e v clock messages) t.printed) ≡ false) (is_known v (length messages))
    (λ _. foretold (result_of e v clock messages).left messages (why_for e v clock messages) (result_of e v clock messages).outcome
    (foretells e clock room draws event (omega arith) (length-replicate {A = ℕ} 64 0) (why_for e v clock messages) refl))
    (λ _. refl)

pub ignored_has_reason : IgnoredHasReason
ignored_has_reason e v clock messages bad = true≢false (sym (ap is_bare bad) ∙ never_bare e v clock messages)
