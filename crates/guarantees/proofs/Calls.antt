-- A call by its cases, and a source of an end of which one is changed.
use mathlib.Core.Path.{◌≡◌, refl, sym, ap, ◌∙◌, subst}
use mathlib.Core.Bool.{true, false}
use mathlib.Core.List.{List}
use Prim.Native.Nat.{ℕ, ◌<◌}
use native.Mathlib.Omega.{arith}
use lib.ListN.{length, get_or, set}
use lib.Seq.{get_or-set_same, get_or-set_other}
use lib.Dec.{eqb}
use borrow.Author.Tests.{eqb-true, eqb-false}
use Rattle.end.specs.declared.Status.{Status}
use Rattle.end.specs.declared.Status.TheVariants.{Idle, Joining, Member, Leaving, Crashed}
use Rattle.end.specs.declared.Source.{Source}
use Rattle.end.specs.declared.End.{End}
use Rattle.end.specs.State.{no_source, is_member, is_crashed, with_clock}
use Rattle.end.specs.Answer.{Ignored, Refused, Did, Result, done}
use Rattle.end.specs.Event.{Action, act_of, step_of, question_of, event_of}
use Rattle.end.proofs.Tools.{by_cond, by_test, clash'}
use Rattle.invariants.proofs.Questions.{Passed, passes}

-- ---- a call by its cases: refused, on a crashed end, or what its event does on the end with its clock set
pub call-cases : (P : Result → Type 0) (e : End) (a : Action) (clock room : ℕ) (draws : List ℕ)
    → ((k : ℕ) → P (record { outcome = Refused k; left = e }))
    → (Passed e a clock → is_crashed e.status ≡ true → P (record { outcome = Did Ignored; left = e }))
    → (Passed e a clock → is_crashed e.status ≡ false → P (done (act_of draws a (with_clock e clock))))
    → P (event_of e a clock room draws)
unfolding event_of step_of
call-cases P e a clock room draws refused crashed acts =
    by_cond P (eqb (question_of e a clock room (length draws)) 0)
    (λ t.
    let z : Passed e a clock = passes e a clock room (length draws) (eqb-true _ _ t) in
    by_cond (λ s. P (done s)) (is_crashed e.status) (λ c. crashed z c) (λ c. acts z c))
    (λ t. refused (question_of e a clock room (length draws)))

-- a member is not crashed
pub member_not_crashed : (x : Status) → is_member x ≡ true → is_crashed x ≡ false
member_not_crashed Idle m = refl
member_not_crashed Joining m = refl
member_not_crashed Member m = refl
member_not_crashed Leaving m = refl
member_not_crashed Crashed m = clash' m

pub crashed_no_member : (x : Status) → is_crashed x ≡ true → is_member x ≡ false
crashed_no_member Idle c = clash' c
crashed_no_member Joining c = clash' c
crashed_no_member Member c = clash' c
crashed_no_member Leaving c = clash' c
crashed_no_member Crashed c = refl

-- ---- the sources, of which the one at k is now x: what holds of x at k, and of the others as they were
pub changed-at : (P : Source → Type 0) (l : List Source) (k : ℕ) (x : Source) (s : ℕ) → s < length l → (s ≡ k → P x) → (eqb s k ≡ false → P (get_or l s no_source))
    → P (get_or (set l k x) s no_source)
changed-at P l k x s long here there = by_test (eqb s k)
    (λ e.
    let same : s ≡ k = eqb-true s k e in
    let now = ap (λ (i : ℕ). get_or (set l k x) i no_source) same ∙ get_or-set_same l k x no_source (omega arith) in
    subst P (sym now) (here same))
    (λ e. subst P (sym (get_or-set_other l k s x no_source (eqb-false s k e))) (there e))
