-- A network that carries what eight ends put out, on computed lists: the tests for `Network`.
use Prim.Native.Nat.{ℕ, zero, suc, ◌+◌, ◌≤◌, ◌<◌}
use native.Mathlib.Omega.{arith}
use mathlib.Core.Path.{◌≡◌, sym, ap, ◌∙◌}
use mathlib.Core.Bool.{Bool, true, false, not, ◌&&◌, ◌||◌}
use mathlib.Core.List.{List}
use mathlib.Core.Logic.{inl}
use lib.Dec.{leb}
use borrow.Author.Tests.{not-true, leb-true}
use Rattle.message.specs.Message.{Meaning, meaning_from}
use Rattle.message.specs.Question.{same_host}
use Rattle.message.proofs.QuestionLaws.{and_both}
use Rattle.end.specs.Answer.{Effect, Out, Got, Done, Ignored, Nothing, Clash, Late, Exhausted, Outcome, Refused, Did}
use Rattle.end.specs.Event.{Arrival}
use Rattle.end.proofs.Tools.{clash'}
use Rattle.invariants.proofs.Stays.{opens-sound}
use Rattle.guarantees.specs.Turn.{Always, Taken}
use Rattle.cases.proofs.Allowed.{same_bytes_lem, same_bytes}
use Rattle.recovery.specs.Recovery.{Side, opened, all, time_of, Recovery}
use Rattle.recovery.specs.Network.{Ends, Carries, PutsOut, New}
use Rattle.recovery_cases.proofs.Log.{gives, Entry, entry, log, every, some, Test, Fit, fit, fits, always, sometime, Logs, logs, sometime_all}
use Rattle.recovery_cases.proofs.Tests.{Shows, holds_if, arrives, outs, takes_by, takes-by}
use Rattle.recovery_cases.proofs.Backed.{SideFits}

-- by cases on a host
pub eight : (P : (k : ℕ) → k < 8 → Type 0) → ((h : 0 < 8) → P 0 h) → ((h : 1 < 8) → P 1 h) → ((h : 2 < 8) → P 2 h) → ((h : 3 < 8) → P 3 h)
    → ((h : 4 < 8) → P 4 h) → ((h : 5 < 8) → P 5 h) → ((h : 6 < 8) → P 6 h) → ((h : 7 < 8) → P 7 h) → (k : ℕ) (hk : k < 8) → P k hk
eight P a b c d e f g i zero hk = a hk
eight P a b c d e f g i (suc zero) hk = b hk
eight P a b c d e f g i (suc (suc zero)) hk = c hk
eight P a b c d e f g i (suc (suc (suc zero))) hk = d hk
eight P a b c d e f g i (suc (suc (suc (suc zero)))) hk = e hk
eight P a b c d e f g i (suc (suc (suc (suc (suc zero))))) hk = f hk
eight P a b c d e f g i (suc (suc (suc (suc (suc (suc zero)))))) hk = g hk
eight P a b c d e f g i (suc (suc (suc (suc (suc (suc (suc zero))))))) hk = i hk
eight P a b c d e f g i (suc (suc (suc (suc (suc (suc (suc (suc k)))))))) hk = absurd (omega arith)

-- these bytes go out
abbrev puts : List ℕ → Effect → Bool
puts b (Out bytes) = same_bytes_lem bytes b
puts b (Got name cue) = false
puts b Done = false
puts b Ignored = false
puts b Nothing = false
puts b (Clash name) = false
puts b (Late name cue) = false
puts b Exhausted = false

abbrev goes_out : List ℕ → Outcome → Bool
goes_out b (Refused k) = false
goes_out b (Did a) = puts b a

goes-out : (b : List ℕ) (o : Outcome) → goes_out b o ≡ true → o ≡ Did (Out b)
goes-out b (Refused k) h = clash' h
goes-out b (Did (Out bytes)) h = ap (λ (l : List ℕ). Did (Out l)) (same_bytes bytes b h)
goes-out b (Did (Got name cue)) h = clash' h
goes-out b (Did Done) h = clash' h
goes-out b (Did Ignored) h = clash' h
goes-out b (Did Nothing) h = clash' h
goes-out b (Did (Clash name)) h = clash' h
goes-out b (Did (Late name cue)) h = clash' h
goes-out b (Did Exhausted) h = clash' h

module _ (m : Recovery) (which : Meaning → Bool) where
  -- y takes these bytes from the time t on, within Δ
  abbrev takes_from : Side → List ℕ → ℕ → Test
  takes_from y bytes t z = takes_by y bytes (t + m.delay) z && leb t (time_of y z.call)

  takes-from : (y : Side) (bytes : List ℕ) (t : ℕ)
      → Shows (takes_from y bytes t) (λ e c. Taken e c × (c.action ≡ Arrival bytes) × (t ≤ time_of y c) × (time_of y c ≤ t + m.delay))
  takes-from y bytes t e c h =
      let both = and_both (takes_by y bytes (t + m.delay) (entry e c (gives e c))) _ h in
      let b = takes-by y bytes (t + m.delay) e c both.0 in
      (b.0, b.1, leb-true t (time_of y c) both.1, b.2)

  -- what x puts out, y takes
  abbrev pub carries : (ℕ → Bool) → Side → Side → Logs → Test
  carries when x y l z = outs (λ b. not (which (meaning_from b)) || (not (when (time_of x z.call))
      || (some (takes_from y b (time_of x z.call)) l.before || some (takes_from y b (time_of x z.call)) l.behind))) z.result.outcome

  module _ (when : ℕ → Bool) (on : ℕ → Type 0) (says : (t : ℕ) → on t → when t ≡ true) where
    pub always_carries : (x y : Side) → Fit (all x) → SideFits y → every (carries when x y (logs y)) (log (opened x) (all x)) ≡ true
        → Always (Carries m which on x y) (opened x) (all x)
    always_carries x y f g = always (Carries m which on x y) (carries when x y (logs y))
        (λ e c p bytes out is now. sometime_all y g.earlier g.later _ (takes_from y bytes (time_of x c)) (takes-from y bytes (time_of x c))
        (holds_if _ _ (holds_if _ _ (sym (ap (outs _) out) ∙ p) is) (says (time_of x c) now)))
        (all x) (opened x) (opens-sound x.me x.params) f

    -- the same of one of eight ends, if it is another than this one and y
    abbrev pub Carried : Ends → Side → Side → (k : ℕ) → k < 8 → Type 0
    Carried ends this y k hk = same_host (opened (ends k hk)).host (opened this).host ≡ false
        → same_host (opened (ends k hk)).host (opened y).host ≡ false
        → Always (Carries m which on (ends k hk) y) (opened (ends k hk)) (all (ends k hk))

    pub carried-by : (ends : Ends) (this y : Side) → SideFits y → (k : ℕ) (hk : k < 8) → fit (all (ends k hk)) ≡ true
        → every (carries when (ends k hk) y (logs y)) (log (opened (ends k hk)) (all (ends k hk))) ≡ true → Carried ends this y k hk
    carried-by ends this y g k hk f h apart besides = always_carries (ends k hk) y (fits (all (ends k hk)) f) g h

  -- z put these bytes out not more than Δ before t
  abbrev puts_out : Side → List ℕ → ℕ → Test
  puts_out z bytes t y = goes_out bytes y.result.outcome && (leb (time_of z y.call) t && leb t (time_of z y.call + m.delay))

  puts-out : (z : Side) (bytes : List ℕ) (t : ℕ) → Shows (puts_out z bytes t) (PutsOut m z bytes t)
  puts-out z bytes t e c h =
      let a = and_both (goes_out bytes (gives e c).outcome) _ h in
      let b = and_both (leb (time_of z c) t) _ a.1 in
      (goes-out bytes (gives e c).outcome a.0, leb-true (time_of z c) t b.0, leb-true t (time_of z c + m.delay) b.1)

  -- what x takes, z put out; l is the log of all of z's calls
  abbrev pub newly : Side → Side → Side → List Entry → Test
  newly x y z l w = arrives (λ b. not (which (meaning_from b)) || (not (same_host (meaning_from b).sender (opened y).host)
      && some (puts_out z b (time_of x w.call)) l)) w.call.action

  pub newly_shows : (ends : Ends) (x y : Side) (k : ℕ) (hk : k < 8) → Fit (all (ends k hk)) → same_host (opened (ends k hk)).host (opened x).host ≡ false
      → same_host (opened (ends k hk)).host (opened y).host ≡ false
      → Shows (newly x y (ends k hk) (log (opened (ends k hk)) (all (ends k hk))))
      (λ e c. (bytes : List ℕ) → c.action ≡ Arrival bytes → which (meaning_from bytes) ≡ true → New m ends x y bytes (time_of x c))
  newly_shows ends x y k hk f apart besides e c p bytes is tells =
      let z = ends k hk in
      let t = time_of x c in
      let both = and_both (not (same_host (meaning_from bytes).sender (opened y).host)) _ (holds_if _ _ (sym (ap (arrives _) is) ∙ p) tells) in (
        not-true _ both.0,
        inl (record {
          end = k;
          eight = hk;
          apart = apart;
          besides = besides;
          out = sometime (PutsOut m z bytes t) (puts_out z bytes t) (puts-out z bytes t) (all z) (opened z) (opens-sound z.me z.params) f both.1;
        }),
      )
