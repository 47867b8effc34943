-- The laws behind the loops that gather reports and echoes: places are filled from the front, and seven places are enough for the
-- echoes.
use mathlib.Core.Path.{◌≡◌, refl, sym, ap, ◌∙◌}
use Prim.Native.Nat.{ℕ, zero, suc, ◌+◌, ◌≤◌, ◌<◌}
use native.Mathlib.Numerals.{add-one}
use native.Mathlib.Omega.{arith}
use mathlib.Core.List.{List, [], ◌∷◌, ◌++◌, append-nil}
use lib.ListN.{length, get_or, set, length-append}
use Rattle.numbers.proofs.Cases.{by_order}
use Rattle.message.specs.declared.Host.{Host}
use Rattle.message.specs.declared.Report.{Report}
use Rattle.message.specs.declared.Echo.{Echo}
use Rattle.message.specs.Section.{padded}
use Rattle.message.specs.Entry.{as_host, blank_report, blank_echo}
use Rattle.message.proofs.SectionLaws.{fill_next}
use Rattle.end.specs.Parts.{Span, Closed, Open, Heard, Never, At}
use Rattle.end.specs.declared.End.{End}
use Rattle.end.specs.State.{source_at}
use Rattle.end.specs.Messages.{report_on, echo_on, reports_below, echoes_below}
use Rattle.state.specs.Settled.{Settled}
use Rattle.compose.specs.Entries.{reports_in, echoes_in, with_report, with_echo}

-- an entry more in k places that are filled from the front
fill_one : {A : Type 0} (k : ℕ) (d : A) (l : List A) (x : A) → length l < k → set (padded k d l) (length l) x ≡ padded k d (l ++ (x ∷ []))
fill_one k d l x h = rw (length-append l (x ∷ [])) (fill_next l k (length l) d x refl h)

-- ---- reports
report-one : (h : Host) (x : Span) → length (report_on h x) ≤ 1
report-one h Closed = omega arith
report-one h (Open first last) = omega arith

reported : (l m : List Report) → length m ≤ 1 → length l < 8 → with_report (reports_in l) m ≡ reports_in (l ++ m)
reported l [] o h = ap reports_in (sym (append-nil l))
reported l (x ∷ []) o h = λ i. record { count = sym (length-append l (x ∷ [])) i; places = fill_one 8 blank_report l x h i }
reported l (x ∷ y ∷ m) o h = absurd (omega arith)

module _ (e : End) where
  pub reports-most : (k : ℕ) → length (reports_below e k) ≤ k
  unfolding reports_below
  reports-most zero = omega arith
  reports-most (suc k) =
      let x = (source_at e (as_host k)).span in
      omega (arith, length-append (reports_below e k) (report_on (as_host k) x), reports-most k, report-one (as_host k) x)

  -- one host more
  pub reports-more : (k : ℕ) → k < 8 → with_report (reports_in (reports_below e k)) (report_on (as_host k) (source_at e (as_host k)).span) ≡ reports_in (reports_below e (k + 1))
  unfolding reports_below
  reports-more k h =
      let x = (source_at e (as_host k)).span in
      rw (add-one k) (reported (reports_below e k) (report_on (as_host k) x) (report-one (as_host k) x) (omega (arith, reports-most k)))

-- ---- echoes
echo-one : (h : Host) (clock : ℕ) (x : Heard) → length (echo_on h clock x) ≤ 1
echo-one h clock Never = omega arith
echo-one h clock (At stamp when reported) = omega arith

echoed : (l m : List Echo) → length m ≤ 1 → length l + length m ≤ 7 → with_echo (echoes_in l) m ≡ echoes_in (l ++ m)
echoed l [] o h = ap echoes_in (sym (append-nil l))
echoed l (x ∷ []) o h = λ i. record { count = sym (length-append l (x ∷ [])) i; places = fill_one 7 blank_echo l x (omega arith) i }
echoed l (x ∷ y ∷ m) o h = absurd (omega arith)

module _ (e : End) where
  echoes-next : (k : ℕ) → length (echoes_below e (suc k)) ≡ length (echoes_below e k) + length (echo_on (as_host k) e.clock (source_at e (as_host k)).heard)
  unfolding echoes_below
  echoes-next k = length-append (echoes_below e k) (echo_on (as_host k) e.clock (source_at e (as_host k)).heard)

  echoes-most : (k : ℕ) → length (echoes_below e k) ≤ k
  unfolding echoes_below
  echoes-most zero = omega arith
  echoes-most (suc k) = omega (arith, echoes-next k, echoes-most k, echo-one (as_host k) e.clock (source_at e (as_host k)).heard)

  -- none is of oneself
  echoes-own : (source_at e e.host).heard ≡ Never → (k : ℕ) → e.host.0 < k → length (echoes_below e k) < k
  echoes-own own zero h = absurd (omega arith)
  echoes-own own (suc k) h =
      let one = echo-one (as_host k) e.clock (source_at e (as_host k)).heard in
      by_order e.host.0 k
      (λ l. omega (arith, echoes-next k, echoes-own own k l, one))
      (λ l.
      let same : e.host.0 ≡ k = omega arith in
      let none : length (echo_on (as_host k) e.clock (source_at e (as_host k)).heard) ≡ 0 =
      ap (λ (y : Heard). length (echo_on (as_host k) e.clock y)) (ap (λ (i : ℕ). (source_at e (as_host i)).heard) (sym same) ∙ own) in
      omega (arith, echoes-next k, none, echoes-most k))

  pub echoes_fit : Settled e → (k : ℕ) → k ≤ 8 → length (echoes_below e k) ≤ 7
  echoes_fit s k h = by_order e.host.0 k (λ l. omega (arith, echoes-own s.own k l)) (λ l. omega (arith, echoes-most k, s.host))

  -- one host more, for which there is room
  pub echoes-room : Settled e → (k : ℕ) → k < 8 → length (echoes_below e k) + length (echo_on (as_host k) e.clock (source_at e (as_host k)).heard) ≤ 7
  echoes-room s k h = omega (arith, echoes-next k, echoes_fit s (suc k) (omega arith))

  pub echoes-more : Settled e → (k : ℕ) → k < 8
      → with_echo (echoes_in (echoes_below e k)) (echo_on (as_host k) e.clock (source_at e (as_host k)).heard) ≡ echoes_in (echoes_below e (k + 1))
  unfolding echoes_below
  echoes-more s k h =
      let x = (source_at e (as_host k)).heard in
      rw (add-one k) (echoed (echoes_below e k) (echo_on (as_host k) e.clock x) (echo-one (as_host k) e.clock x) (echoes-room s k h))
