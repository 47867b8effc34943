-- Reports in every P ticks on computed lists: the test for `ReportsEvery`.
use Prim.Native.Nat.{ℕ, ◌+◌, ◌≤◌, ◌<◌}
use native.Mathlib.Omega.{arith}
use mathlib.Core.Path.{◌≡◌, refl, sym, ap, ◌∙◌, subst}
use mathlib.Core.Bool.{Bool, true, false, cond, ◌&&◌, ◌||◌}
use mathlib.Core.List.{List, [], ◌∷◌}
use mathlib.Core.Logic.{inl, inr, ⊎_elim}
use lib.Dec.{leb, ltb}
use borrow.Author.Tests.{leb-true, ltb-true, ltb-false}
use Rattle.message.specs.Entry.{as_host}
use Rattle.message.proofs.QuestionLaws.{and_both, or_either}
use Rattle.end.specs.Parts.{Span, Closed, Open}
use Rattle.end.specs.declared.End.{End}
use Rattle.end.specs.State.{source_at, is_member}
use Rattle.end.specs.Sound.{sound_of}
use Rattle.end.specs.Answer.{Result}
use Rattle.end.specs.Event.{Action, Moves, Send, Arrival, Else, Fire, Report as Reporting, Announce, Fetch}
use Rattle.end.proofs.Tools.{by_test, by_cond, clash', or_alone}
use Rattle.guarantees.specs.Calls.{OneCall, after}
use Rattle.guarantees.specs.Turn.{Sometime}
use Rattle.recovery.specs.Recovery.{Side, time_of, Recovery}
use Rattle.recovery.specs.Whole.{TakesBy}
use Rattle.recovery.specs.Detection.{reporting, last_is_at_least, ReportsWithin, ReportsEvery}
use Rattle.recovery_cases.proofs.Log.{gives, Entry, entry, log, some, Test, Fit, did, taken, given_is, sound-after, Logs, logs, behind-is}
use Rattle.recovery_cases.proofs.Log.{start-sound, sometime_behind}
use Rattle.recovery_cases.proofs.Tests.{outs, takes_by, takes-by}
use Rattle.recovery_cases.proofs.Rounds.{among, is_among}
use Rattle.recovery_cases.proofs.Backed.{SideFits}

abbrev is_reporting : Action → Bool
is_reporting (Moves m) = false
is_reporting (Send cue) = false
is_reporting (Arrival []) = true
is_reporting (Arrival (b ∷ l)) = false
is_reporting (Else Fire) = false
is_reporting (Else Reporting) = true
is_reporting (Else Announce) = false
is_reporting (Else (Fetch name)) = false

is-reporting : (a : Action) → is_reporting a ≡ true → reporting a
is-reporting (Moves m) h = clash' h
is-reporting (Send cue) h = clash' h
is-reporting (Arrival []) h = inr refl
is-reporting (Arrival (b ∷ l)) h = clash' h
is-reporting (Else Fire) h = clash' h
is-reporting (Else Reporting) h = inl refl
is-reporting (Else Announce) h = clash' h
is-reporting (Else (Fetch name)) h = clash' h

abbrev last_at_least : Span → ℕ → Bool
last_at_least Closed n = false
last_at_least (Open first last) n = leb n last.0

last_at_least_lem : (x : Span) (n : ℕ) → last_at_least x n ≡ true → last_is_at_least x n
last_at_least_lem Closed n h = clash' h
last_at_least_lem (Open first last) n h = leb-true n last.0 h

module _ (m : Recovery) (x : Side) (period until : ℕ) (missed : List ℕ) where
  -- a call of x that reports the cue; the asker, by its log, takes what it puts out, unless it is missed
  abbrev good : Logs → Test
  good a z = is_reporting z.call.action && (did z.result.outcome && (is_member z.state.status
      && (last_at_least (source_at z.state (as_host m.source)).span m.number
      && (among (time_of x z.call) missed
      || outs (λ b. some (takes_by m.asker b (time_of x z.call + m.delay)) a.behind) z.result.outcome))))

  abbrev next : Logs → ℕ → Entry → Bool
  next a from z = good a z && (ltb from (time_of x z.call) && leb (time_of x z.call) (from + period))

  -- from each time on the next report is in time, up to one that lies after `until`
  abbrev pub covers : Logs → ℕ → List Entry → Bool
  covers a from [] = ltb until from
  covers a from (z ∷ zs) = ltb until from || cond (next a from z) (covers a (time_of x z.call) zs) (covers a from zs)

  module _ (fa : SideFits m.asker) where
    reports-within : (t from : ℕ) (e : End) (c : OneCall) → next (logs m.asker) from (entry e c (gives e c)) ≡ true → from ≤ t → t < time_of x c
        → ReportsWithin m x period t missed e c
    reports-within t from e c h low high =
        let a = and_both (good (logs m.asker) (entry e c (gives e c))) _ h in
        let b = and_both (is_reporting c.action) _ a.0 in
        let d = and_both (did (gives e c).outcome) _ b.1 in
        let f = and_both (is_member e.status) _ d.1 in
        let g = and_both (last_at_least (source_at e (as_host m.source)).span m.number) _ f.1 in
        let in_time_lem = leb-true (time_of x c) (from + period) (and_both (ltb from (time_of x c)) _ a.1).1 in (
          is-reporting c.action b.0,
          taken e c d.0,
          f.0,
          high,
          omega arith,
          last_at_least_lem (source_at e (as_host m.source)).span m.number g.0,
          λ there bytes out. sometime_behind m.asker fa.earlier fa.later (TakesBy m.asker bytes (time_of x c + m.delay))
              (takes_by m.asker bytes (time_of x c + m.delay)) (takes-by m.asker bytes (time_of x c + m.delay))
              (sym (ap (outs _) out)
              ∙ or_alone _ _ g.1 (by_test (among (time_of x c) missed) (λ i. absurd (there (is_among (time_of x c) missed i))) (λ i. i))),
        )

    covered : (cs : List OneCall) (e : End) (from : ℕ) → sound_of e ≡ true → Fit cs → covers (logs m.asker) from (log e cs) ≡ true
        → (t : ℕ) → from ≤ t → t ≤ until → Sometime (ReportsWithin m x period t missed) e cs
    covered [] e from sound f h t low high = absurd (omega (arith, ltb-true until from h, low, high))
    covered (c ∷ cs) e from sound f h t low high =
        let a = logs m.asker in
        let now : ltb until from
        || cond (next a from (entry e c (gives e c))) (covers a (time_of x c) (log (after e c) cs)) (covers a from (log (after e c) cs)) ≡ true =
        subst (λ (r : Result). ltb until from
        || cond (next a from (entry e c r)) (covers a (time_of x c) (log r.left cs)) (covers a from (log r.left cs)) ≡ true)
        (given_is e c sound) h in
        let sound-then = sound-after e c cs sound f in
        let on : (u : ℕ) → u ≤ t → covers a u (log (after e c) cs) ≡ true → Sometime (ReportsWithin m x period t missed) e (c ∷ cs) =
        λ u l k. inr (covered cs (after e c) u sound-then (f.0.1, f.1.1) k t l high) in
        ⊎_elim (λ over. absurd (omega (arith, ltb-true until from over, low, high)))
        (by_cond (λ (y : Bool). y ≡ true → Sometime (ReportsWithin m x period t missed) e (c ∷ cs)) (next a from (entry e c (gives e c)))
        (λ it k. by_test (ltb t (time_of x c))
        (λ soon. inl (reports-within t from e c it low (ltb-true t (time_of x c) soon)))
        (λ late. on (time_of x c) (ltb-false t (time_of x c) late) k))
        (λ off k. on from low k))
        (or_either (ltb until from) _ now)

    pub reports_every : SideFits x → (t0 : ℕ) → covers (logs m.asker) t0 (logs x).behind ≡ true → ReportsEvery m x period t0 until missed
    reports_every fx t0 h = covered x.later _ t0 (start-sound x fx.earlier fx.later) fx.later
        (subst (λ (l : List Entry). covers (logs m.asker) t0 l ≡ true) (behind-is x fx.earlier fx.later) h)
